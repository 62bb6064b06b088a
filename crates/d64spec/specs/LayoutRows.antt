-- The three layouts by their numbers, as rows worked out from 02, §8, and document 01's table; `broken_layouts` lists those that fail.
-- In order: sectors, zones, house order and map places of a layout; bits of the extra tracks; a formatted disk; calls that name any number.
-- The statements: proofs/LayoutTables. Two layouts that differ only in the map's places: specs/TwoLayouts.
use Rattle.std.specs.Prelude.{ℕ, ◌+◌, ◌-◌, ◌*◌, ◌≡◌, Bool, true, false, ◌&&◌, not, List, [], ◌∷◌, ◌++◌, map, drop, replicate, take, eqb}
use Rattle.d64spec.specs.Lists.{Bytes, ascending, equal, filter, join, range, sum, zeros}
use Rattle.d64spec.specs.Answers.{Address, Result, ◌>>=◌, address, refused, done}
use Rattle.d64spec.specs.Geometry.{Geometry, allocation_order, allocation_tracks, first_on, on_disk, sector_number, sectors_on, total, tracks}
use Rattle.d64spec.specs.Layouts.{layout_numbered}
use Rattle.d64spec.specs.Image.{disk}
use Rattle.d64spec.specs.Map.{entry_correct, lowest_wrong, map_bit, map_ones}
use Rattle.d64spec.specs.Format.{formatted_disk}
use Rattle.d64spec.specs.Read.{call_tell, tell_reply}
use Rattle.d64spec.specs.Call.{Call, check, format, read, scratch, store}
use Rattle.d64spec.specs.Listing.{call_listing, free_total, listing_output, listing_reply}
use Rattle.d64spec.specs.Host.{host_call_in}
use Rattle.d64spec.specs.Examples.{house_tracks}
use Rattle.d64spec.specs.Trial.{answer_bytes, lent}
use Rattle.d64spec.specs.MapPlace.{all_marked_but}
use Rattle.d64spec.specs.Edges.{Bits, bits, formatted180_with, house_numbers, name16}

-- ---- a layout

-- a row about a layout, without its number
pub data LayoutRow : Type 0 where
  sector_at : Address → ℕ → LayoutRow  -- an address, its sector number
  last_sector_at : Address → LayoutRow  -- the last sector of the disk
  off_disk : Address → LayoutRow  -- no sector of the disk
  image_bytes : ℕ → LayoutRow  -- the bytes of an image
  zone : ℕ → ℕ → ℕ → ℕ → ℕ → LayoutRow  -- first and last track, the sectors of each, all of them, the number of the first
  last_track : ℕ → LayoutRow
  tracks_in_order : List ℕ → LayoutRow  -- house order, track by track
  numbers_in_order : List ℕ → LayoutRow  -- and sector by sector
  map_places : List ℕ → LayoutRow  -- where each track's map entry starts in 18/0

-- whether a layout has it
unfoldable pub has : Geometry → LayoutRow → Bool
has g (sector_at r n) = on_disk g r && eqb (sector_number g r) n
has g (last_sector_at r) = on_disk g r && eqb (sector_number g r + 1) (total g)
has g (off_disk r) = not (on_disk g r)
has g (image_bytes n) = eqb (256 * total g) n
has g (zone a b each all n) =
    equal (map (sectors_on g) (ascending a b)) (replicate (b + 1 - a) each) && (eqb (sum (map (sectors_on g) (ascending a b))) all && eqb (first_on g a) n)
has g (last_track t) = eqb (tracks g) t
has g (tracks_in_order l) = equal (allocation_tracks g) l
has g (numbers_in_order l) = equal (map (sector_number g) (allocation_order g)) l
has g (map_places l) = equal (map g.map_at (ascending 1 (tracks g))) l

-- whether the layout of this number has it
unfoldable pub has_in : Result Geometry → LayoutRow → Bool
has_in (refused f) row = false
has_in (done g) row = has g row

-- the rows that fail
unfoldable pub broken_layouts : ℕ → List LayoutRow → List LayoutRow
broken_layouts n l = filter (λ row. not (has_in (layout_numbered n) row)) l

-- layout 0: 35 tracks
unfoldable pub rows35 : List LayoutRow
rows35 =
    sector_at (address 35 16) 682 ∷ last_sector_at (address 35 16) ∷ off_disk (address 35 17) ∷ off_disk (address 36 0) ∷ off_disk (address 40 16)
    ∷ image_bytes 174848 ∷ zone 31 35 17 85 598 ∷ last_track 35
    ∷ tracks_in_order house_tracks ∷ numbers_in_order house_numbers
    ∷ map_places (map (λ t. 4 * t) (range 1 35))
    ∷ []

-- 40 tracks: 36/0 is sector 683, 40/16 is 767, the last; tracks 31 to 40 have 17 sectors each, 170 in all; these are the places of tracks 36 to 40
unfoldable pub rows40 : List ℕ → List LayoutRow
rows40 places =
    sector_at (address 18 0) 357 ∷ sector_at (address 35 16) 682 ∷ sector_at (address 36 0) 683 ∷ sector_at (address 37 0) 700 ∷ sector_at (address 40 16) 767
    ∷ last_sector_at (address 40 16)
    ∷ off_disk (address 0 0) ∷ off_disk (address 35 17) ∷ off_disk (address 36 17) ∷ off_disk (address 40 17) ∷ off_disk (address 41 0)
    ∷ image_bytes 196608
    ∷ zone 1 17 21 357 0 ∷ zone 18 24 19 133 357 ∷ zone 25 30 18 108 490 ∷ zone 31 40 17 170 598 ∷ last_track 40
    ∷ tracks_in_order (house_tracks ++ (36 ∷ 37 ∷ 38 ∷ 39 ∷ 40 ∷ [])) ∷ numbers_in_order (house_numbers ++ ascending 683 767)
    ∷ map_places (map (λ t. 4 * t) (range 1 35) ++ places)
    ∷ []

-- layout 1: $C0, $C4, .. $D0; layout 2: $AC, $B0, .. $BC
abbrev pub places_speed_dos : List ℕ
places_speed_dos = 0xC0 ∷ 0xC4 ∷ 0xC8 ∷ 0xCC ∷ 0xD0 ∷ []

abbrev pub places_dolphin : List ℕ
places_dolphin = 0xAC ∷ 0xB0 ∷ 0xB4 ∷ 0xB8 ∷ 0xBC ∷ []

-- in every image, the sectors 683 and 767 are the 256 bytes from 174,848 and from 196,352 on
pub record StartThere40 : Type 0 where
  pub first36 : (img : Bytes) → disk img 683 ≡ take 256 (drop 174848 img)
  pub last40 : (img : Bytes) → disk img 767 ≡ take 256 (drop 196352 img)

-- ---- the map's bits of tracks 36 to 40

-- a map sector with the same three bitmap bytes for each of the five, from this byte on, and a count of 85
abbrev pub five_entries : ℕ → Bytes → Bytes
five_entries at b = zeros at ++ join (replicate 5 (85 ∷ b))

-- those of the five tracks whose bits are others than the row says (specs/Edges, `bitmaps`)
unfoldable pub wrong_extra : Geometry → ℕ → Bits → List ℕ
wrong_extra g at (bits b l) = filter (λ t. not (equal (filter (λ s. eqb (map_bit g (five_entries at b) t s) 1) (range 0 24)) l)) (ascending 36 40)

-- the ones of tracks 35 to 41 where all bits of the five are 1
unfoldable pub extra_ones : Geometry → ℕ → List ℕ
extra_ones g at = map (map_ones g (five_entries at (replicate 3 0xFF))) (ascending 35 41)

-- a map sector with this entry of track t alone, where the five stand from this byte on
abbrev pub extra_alone : ℕ → ℕ → Bytes → Bytes
extra_alone at t e = zeros (at + 4 * (t - 36)) ++ e

-- entries of track t where all of its sectors are free: which of them are right
unfoldable pub right_extra : Geometry → ℕ → ℕ → List Bool
right_extra g at t =
    map (λ e. entry_correct g (λ r. true) (extra_alone at t e) t)
    ((17 ∷ 0xFF ∷ 0xFF ∷ 0x01 ∷ []) ∷ (17 ∷ 0xFF ∷ 0xFF ∷ 0xFF ∷ []) ∷ (24 ∷ 0xFF ∷ 0xFF ∷ 0xFF ∷ []) ∷ (18 ∷ 0xFF ∷ 0xFF ∷ 0x03 ∷ [])
    ∷ (17 ∷ 0xFF ∷ 0xFF ∷ 0xFE ∷ []) ∷ (16 ∷ 0xFF ∷ 0xFF ∷ 0x00 ∷ []) ∷ [])

-- spare bits are ignored and not counted; the last sector's is not
abbrev pub first_two : List Bool
first_two = true ∷ true ∷ false ∷ false ∷ false ∷ false ∷ []

-- which sector of track t is named where one bit of 24 is 0, for each of them (specs/MapPlace, `named_alone`)
unfoldable pub named_extra : Geometry → ℕ → ℕ → List ℕ
named_extra g at t = map (λ s. lowest_wrong g (λ r. true) (extra_alone at t (0 ∷ all_marked_but s)) t) (range 0 24)

-- ---- a formatted disk

-- five entries of 17 free sectors: 11 FF FF 01
abbrev pub five_free : Bytes
five_free = join (replicate 5 (0x11 ∷ 0xFF ∷ 0xFF ∷ 0x01 ∷ []))

-- SpeedDOS: 21 zeros, the entries from $C0 on, zeros; Dolphin: one zero, the entries from $AC on, zeros
abbrev pub behind_speed_dos : Bytes
behind_speed_dos = zeros 21 ++ (five_free ++ zeros 44)

abbrev pub behind_dolphin : Bytes
behind_dolphin = zeros 1 ++ (five_free ++ zeros 64)

-- the listing of a formatted disk: its first line is the name and the ids, and the rest is the sum
unfoldable pub sum_line : Geometry → Bytes
sum_line g = drop 37 (listing_output (call_listing g (join (map (formatted_disk g name16 0xFF 0x80) (range 357 19))) (zeros 6234)))

-- the sum of the count bytes that this layout has, of a formatted 18/0 with these bytes from $AB on
unfoldable pub sum_of : Geometry → Bytes → ℕ
sum_of g behind = free_total g (formatted180_with behind)

-- ---- calls that name any number

-- one call of each kind, each with every argument wrong that can be
abbrev pub wrong_calls : List Call
wrong_calls = check ∷ format [] 1 2 ∷ read [] (lent 3) ∷ store [] 9 [] ∷ scratch [] ∷ []

-- number, block and output of these calls on an image of no bytes, for a layout's number and a block
unfoldable pub replies_in : ℕ → Bytes → List Bytes
replies_in n block = map (λ c. let r = host_call_in n [] block c in r.number ∷ (r.block_after ++ r.output_after)) wrong_calls

-- tell and the listing
unfoldable pub others_in : ℕ → List Bytes
others_in n =
    answer_bytes (tell_reply (layout_numbered n >>= (λ g. call_tell g [] 0))).answer
    ∷ answer_bytes (listing_reply [] (layout_numbered n >>= (λ g. call_listing g [] []))).answer ∷ []

-- so each of them is refused with n, in a block of nine bytes
abbrev pub all_refused : ℕ → List Bytes
all_refused n =
    let b : Bytes = n ∷ 0 ∷ 0 ∷ 255 ∷ zeros 6 in
    b ∷ b ∷ (b ++ lent 3) ∷ b ∷ b ∷ []

-- and with 16 where the block has eight, which are left
abbrev pub block_first : List Bytes
block_first = let b : Bytes = 16 ∷ lent 8 in b ∷ b ∷ (b ++ lent 3) ∷ b ∷ b ∷ []
