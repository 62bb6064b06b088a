-- The block availability map in its sector (01, The map, 18/0) and by value: an entry of four bytes for each of up to 40 tracks, entry i
-- for track i + 1 (02, §8).
-- In order: entries read from a map sector, and written into one; a run of them; its DOS version.
-- Laws: proofs/LoadLaws, SaveLaws; MapShapeLaws (40 entries of four bytes).
use Rattle.std.specs.Prelude.{ℕ, zero, suc, ◌+◌, ◌-◌, ◌*◌, ◌≤◌, Bool, cond, ◌||◌, List, [], ◌∷◌, ◌++◌, map, length, get_or, set, replicate, eqb}
use Rattle.d64spec.specs.Lists.{Bytes, byte, range, splice, zeros}
use Rattle.d64spec.specs.Geometry.{Geometry, tracks}
use Rattle.bam.specs.MapEntry.{Entries}

-- four bytes from byte a on; a byte past the end is 0
unfoldable pub four_bytes : Bytes → ℕ → Bytes
four_bytes m a = byte m a ∷ byte m (a + 1) ∷ byte m (a + 2) ∷ byte m (a + 3) ∷ []

-- track t's entry in the map sector m (01: track t has four bytes at 4t; 02, §8: from track 36 on elsewhere)
unfoldable pub map_entry : Geometry → Bytes → ℕ → Bytes
map_entry g m t = four_bytes m (g.map_at t)

-- the map by value of a map sector (01: an array of four bytes for each track): 40 entries, those of tracks that the layout does not have zero
unfoldable pub map_entries : Geometry → Bytes → Entries
map_entries g m = map (map_entry g m) (range 1 (tracks g)) ++ replicate (40 - tracks g) (zeros 4)

-- the map sector with the entries of these tracks at their places
abbrev pub entered : Geometry → Entries → List ℕ → Bytes → Bytes
entered g es [] m = m
entered g es (t ∷ l) m = entered g es l (splice m (g.map_at t) (get_or es (t - 1) []))

-- the map sector with the layout's entries; one that is not whole stays as it is
unfoldable pub stored_entries : Geometry → Entries → Bytes → Bytes
stored_entries g es m = cond (eqb (length m) 256) (entered g es (range 1 (tracks g)) m) m

-- A run of entries: those of the tracks first + 1 to last, which stand behind one another from byte `at` of a map sector on. Every layout has one or two.

-- it fits the map and a sector of so many bytes
pub record RunFits (bytes first last at : ℕ) : Type 0 where
  pub order : first ≤ last
  pub tracks : last ≤ 40
  pub sector : at + 4 * (last - first) ≤ bytes

-- the map by value with a run of n entries, from entry i on, loaded from the sector m
unfoldable pub with_run : Bytes → ℕ → ℕ → ℕ → Entries → Entries
with_run m i zero at es = es
with_run m i (suc n) at es = with_run m (suc i) n (at + 4) (set es i (four_bytes m at))

-- the sector m with a run of n entries, from entry i on, put into it
unfoldable pub stored_run : Entries → ℕ → ℕ → ℕ → Bytes → Bytes
stored_run es i zero at m = m
stored_run es i (suc n) at m = stored_run es (suc i) n (at + 4) (splice m at (get_or es i []))

-- whether the DOS version in the map sector m allows writing: byte 2 is $41 or $00 (01, The map)
unfoldable pub allows_writing : Bytes → Bool
allows_writing m = eqb (byte m 2) 0x41 || eqb (byte m 2) 0
