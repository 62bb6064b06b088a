-- Step 4 of the check on the map sector alone, against the owned sectors of each track (01, Order of the check, 4; The map).
-- In order: where two numbers differ; an entry's check; the step; on the map by value, and a look at all tracks before it. Numbers made of bits:
-- d64spec's `binary`; the owned sectors: owners' Masks.
-- Laws: proofs/DifferenceLaws (the lowest bit that differs), TrackLaws (a track's check is d64spec's), StepLaws (so is the step).
use Rattle.std.specs.Prelude.{ℕ, ◌-◌, ◌%◌, ◌^◌, ◌≡◌, Bool, true, ◌&&◌, cond, List, [], ◌∷◌, get_or, eqb}
use Rattle.std.specs.Int.Bits.{bit_xor}
use Rattle.std.specs.Int.Count.{count_trailing_zeros}
use Rattle.d64spec.specs.Lists.{Bytes, byte, range}
use Rattle.d64spec.specs.Answers.{Result, done, address, need, wrong_map_entry, ◌>>◌}
use Rattle.d64spec.specs.Geometry.{Geometry, tracks, sectors_on}
use Rattle.d64spec.specs.Check.{check_map}
use Rattle.owners.specs.Masks.{unmarked}
use Rattle.bam.specs.MapEntry.{Entries, bitmap_of, free_in}
use Rattle.mapcheck.specs.declared.Sectors.{Sectors}

-- the lowest bit in which two numbers of 32 bits differ: there are as many zeros below it in their exclusive or. 255 where they are equal
unfoldable pub lowest_difference : ℕ → ℕ → ℕ
lowest_difference a b = cond (eqb a b) 255 (count_trailing_zeros 32 (bit_xor a b))

-- of a track of n sectors, those that its entry marks free and, where its owned sectors are the number u, those that have no owner: of both numbers as
-- many bits are looked at as the track has sectors (02, §5)
pub record TrackSectors (e : Bytes) (u n : ℕ) (r : Sectors) : Type 0 where
  pub marked : r.marked ≡ bitmap_of e % 2 ^ n
  pub free : r.free ≡ 2 ^ n - 1 - u % 2 ^ n

-- an entry of track t, whose owned sectors are the number u, is right where it marks exactly the others free, and counts its marks. Where it is
-- wrong, the place names the lowest bit that differs (02, §3)
unfoldable pub track_verdict : Geometry → Bytes → ℕ → ℕ → Result (Unit {0})
track_verdict g e u t =
    let n = sectors_on g t in
    let marked = bitmap_of e % 2 ^ n in
    let free = 2 ^ n - 1 - u % 2 ^ n in
    need (eqb marked free && eqb (byte e 0) (free_in e n)) (wrong_map_entry (address t (lowest_difference marked free)))

-- STEP 4 of the check, on the map sector m and the owned sectors of each track
unfoldable pub map_verdict : Geometry → Bytes → List ℕ → Result (Unit {0})
map_verdict g m used = check_map g (λ n. m) (unmarked used) (range 1 (tracks g))

-- the same on the map by value: the entries of these tracks, one after the other
abbrev pub tracks_verdict : Geometry → Entries → List ℕ → List ℕ → Result (Unit {0})
tracks_verdict g es used [] = done tt
tracks_verdict g es used (t ∷ l) = track_verdict g (get_or es (t - 1) []) (get_or used (t - 1) 0) t >> tracks_verdict g es used l

-- and those of all tracks
unfoldable pub entries_verdict : Geometry → Entries → List ℕ → Result (Unit {0})
entries_verdict g es used = tracks_verdict g es used (range 1 (tracks g))

-- a look at all tracks that finds nothing wrong: then no entry is
pub record EntriesPassed (g : Geometry) (es : Entries) (used : List ℕ) (r : Bool) : Type 0 where
  pub fine : r ≡ true → done tt ≡ entries_verdict g es used
