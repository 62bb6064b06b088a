-- The block availability map (01, The map, 18/0): for each track a count of free sectors and three bitmap bytes.
-- In order: what a map sector m says; what an entry is expected to say, given which sectors are free; the map rewritten from the owners.
-- Laws: proofs/MapLaws (exact), MapWriteLaws (a rewritten map is right), MapEntryLaws and MapBytes (no other byte of its sector changes).
use Rattle.std.specs.Prelude.{ℕ, ◌+◌, ◌*◌, ◌/◌, ◌%◌, Bool, ◌&&◌, cond, not, List, [], ◌∷◌, map, length, get_or, eqb, ltb}
use Rattle.d64spec.specs.Lists.{Bytes, byte, sum, range, splice, indicator, filter}
use Rattle.d64spec.specs.Bits.{bit_of, binary}
use Rattle.d64spec.specs.Answers.{Address, address}
use Rattle.d64spec.specs.Geometry.{Geometry, sector_number, map_address, sectors_on, tracks}
use Rattle.d64spec.specs.Image.{Disk, put}
use Rattle.d64spec.specs.Owner.{is_free}

-- sector s of track t is marked free where bit (s mod 8) of byte 4t + 1 + (s div 8) is 1
unfoldable pub map_bit : Geometry → Bytes → ℕ → ℕ → ℕ
map_bit g m t s = bit_of (byte m (g.map_at t + 1 + s / 8)) (s % 8)

-- the number of ones among the track's own sectors
unfoldable pub map_ones : Geometry → Bytes → ℕ → ℕ
map_ones g m t = sum (map (map_bit g m t) (range 0 (sectors_on g t)))

-- m is a map sector, and `free` says which sectors are free
module _ (g : Geometry) (free : Address → Bool) (m : Bytes) where
  -- whether a sector's bit is wrong: 1 is right where it is free, else 0
  abbrev pub wrong_bit : ℕ → ℕ → Bool
  wrong_bit t s = not (eqb (map_bit g m t s) (indicator (free (address t s))))

  -- those of the track's own sectors whose bit is wrong; bits past its last sector are not looked at (02, §5)
  unfoldable pub wrong_bits : ℕ → List ℕ
  wrong_bits t = filter (wrong_bit t) (range 0 (sectors_on g t))

  -- the lowest of them, and 255 where there is none (02, §3)
  abbrev pub lowest_wrong : ℕ → ℕ
  lowest_wrong t = get_or (wrong_bits t) 0 255

  -- whether a track's entry is correct: its own bits, and the count
  unfoldable pub entry_correct : ℕ → Bool
  entry_correct t = eqb (length (wrong_bits t)) 0 && eqb (byte m (g.map_at t)) (map_ones g m t)

  -- the bit to write for sector s of track t: 1 where it is free, else 0; past the track's last sector the bit that is there (02, §5)
  unfoldable pub expected_bit : ℕ → ℕ → ℕ
  expected_bit t s = cond (ltb s (sectors_on g t)) (indicator (free (address t s))) (map_bit g m t s)

  -- the bitmap byte for sectors 8j to 8j + 7
  unfoldable pub bitmap_byte : ℕ → ℕ → ℕ
  bitmap_byte t j = binary (λ i. expected_bit t (8 * j + i)) 8

  -- the four bytes of a correct entry: the count, then the bitmap
  unfoldable pub expected_entry : ℕ → Bytes
  expected_entry t = sum (map (expected_bit t) (range 0 (sectors_on g t))) ∷ bitmap_byte t 0 ∷ bitmap_byte t 1 ∷ bitmap_byte t 2 ∷ []

  -- the map sector with correct entries of these tracks
  abbrev pub with_entries : List ℕ → Bytes
  with_entries [] = m
  with_entries (t ∷ l) = splice (with_entries l) (g.map_at t) (expected_entry t)

-- the disk with the map that its owners ask for (01, Store: the map follows; Scratch: frees the sectors in the map)
unfoldable pub rewrite_map : Geometry → Disk → Disk
rewrite_map g d = put d (sector_number g map_address) (with_entries g (is_free g d) (d (sector_number g map_address)) (range 1 (tracks g)))
