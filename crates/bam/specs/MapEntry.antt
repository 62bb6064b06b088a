-- One entry of the block availability map (01, The map, 18/0): four bytes, a count of free sectors and three bytes of bitmap.
-- In order: a bit of an entry; the bitmap as a number; how many sectors are marked free; a mark moved; the entries of all tracks.
-- Laws: proofs/BitmapLaws (the bitmap), OnesLaws (the count), ShapeLaws (four bytes), MoveLaws and EntryLaws (a mark moved).
use Rattle.std.specs.Prelude.{ℕ, ◌+◌, ◌-◌, ◌*◌, ◌/◌, ◌%◌, ◌^◌, min, Bool, cond, List, [], ◌∷◌, map, ltb}
use Rattle.d64spec.specs.Lists.{Bytes, byte, sum, range}
use Rattle.d64spec.specs.Bits.{bit_of}
use Rattle.geometry.specs.Layout.{entry_by}

-- the bit for sector s (01, The map): bit (s mod 8) of byte 1 + (s div 8) of the entry
unfoldable pub entry_bit : Bytes → ℕ → ℕ
entry_bit e s = bit_of (byte e (1 + s / 8)) (s % 8)

-- the three bitmap bytes of an entry as a number: bit s for sector s (01, The map)
unfoldable pub bitmap_of : Bytes → ℕ
bitmap_of e = byte e 1 + 256 * byte e 2 + 65536 * byte e 3

-- how many of the first n sectors an entry marks free (01, The map: the number of ones among the track's own sectors); past its 24 bits none is 1
unfoldable pub free_in : Bytes → ℕ → ℕ
free_in e n = sum (map (entry_bit e) (range 0 n))

-- how many bits of an entry are the own sectors' of a track with n of them: at most 24 (01, The map)
unfoldable pub own_bits : ℕ → ℕ
own_bits n = min n 24

-- the same of track t, by a table of each track's sectors from track 1 on
abbrev pub own_bits_by : List ℕ → ℕ → ℕ
own_bits_by counts t = own_bits (entry_by counts t)

-- how many sectors of track t its entry marks free, by a table of each track's sectors from track 1 on (02, §4)
abbrev pub free_on : List ℕ → Bytes → ℕ → ℕ
free_on counts e t = free_in e (entry_by counts t)

-- the entry with this count and this bitmap: the count's lowest byte, and the bitmap's lowest three
unfoldable pub entry_from : ℕ → ℕ → Bytes
entry_from n m = n % 256 ∷ m % 256 ∷ m / 256 % 256 ∷ m / 65536 % 256 ∷ []

-- the entry with sector s marked free and counted in, or else marked used and counted out, where it was the other way before
-- (01, Store and Scratch: the map follows): one bit of the bitmap's number more, or less, and one in the count
unfoldable pub moved_entry : Bytes → ℕ → Bool → Bytes
moved_entry e s free =
    cond (ltb s 24)
    (cond free (entry_from (byte e 0 + 1) (bitmap_of e + 2 ^ s)) (entry_from (byte e 0 + 255) (bitmap_of e + (16777216 - 2 ^ s))))
    e

-- the map by value: the entries of track 1, of track 2, ..
abbrev pub Entries : Type 0
Entries = List Bytes
