-- Values that no worked example of document 01 reaches, with what its rules give for them: every place of an answer, every sector of house order,
-- every bit of the map, every byte of a formatted 18/0, files that no store of this library makes, images that are longer.
-- The statements: proofs/EdgeTables; those of names, kinds and versions: proofs/RuleLaws.
-- In order: answers; house order; the map; a formatted disk; calls on the small disk of specs/Trial.
use Rattle.std.specs.Prelude.{ℕ, ◌-◌, ◌*◌, not, List, [], ◌∷◌, ◌++◌, map, drop, replicate, take, eqb}
use Rattle.d64spec.specs.Lists.{Bytes, ascending, equal, filter, join, part, range, splice, zeros}
use Rattle.d64spec.specs.Answers.{Fault, address, wrong_size, bad_link, already_owned, bad_type, bad_name, duplicate_name, wrong_count, wrong_map_entry, bad_name_argument, bad_kind_argument, write_forbidden, name_exists, not_found, directory_full, disk_full, wrong_buffer, unknown_layout}
use Rattle.d64spec.specs.Geometry.{layout35}
use Rattle.d64spec.specs.Map.{map_bit}
use Rattle.d64spec.specs.Read.{call_tell, tell_reply}
use Rattle.d64spec.specs.Call.{check, format, read, scratch, store}
use Rattle.d64spec.specs.Listing.{call_listing, listing_reply}
use Rattle.d64spec.specs.Host.{host_call}
use Rattle.d64spec.specs.Run.{run}
use Rattle.d64spec.specs.Trial.{after_call, image_with_a, image_with_ab, lent_block, name_a, name_b, name_c, patch18, requests, small_layout}

-- ---- answers (01, Answer numbers)

-- the faults in the order of document 01's table, and 02's (§8), at sector s of track t and at slot n
abbrev pub faults_at : ℕ → ℕ → ℕ → List Fault
faults_at t s n =
    wrong_size ∷ bad_link (address t s) n ∷ already_owned (address t s) n ∷ bad_type (address t s) n ∷ bad_name (address t s) n ∷ duplicate_name (address t s) n
    ∷ wrong_count (address t s) n ∷ wrong_map_entry (address t s) ∷ bad_name_argument ∷ bad_kind_argument ∷ write_forbidden ∷ name_exists ∷ not_found
    ∷ directory_full ∷ disk_full ∷ wrong_buffer ∷ unknown_layout ∷ []

-- what the table gives for each
abbrev pub answers_at : ℕ → ℕ → ℕ → List (List ℕ)
answers_at t s n =
    (1 ∷ 0 ∷ 0 ∷ 255 ∷ []) ∷ (2 ∷ t ∷ s ∷ n ∷ []) ∷ (3 ∷ t ∷ s ∷ n ∷ []) ∷ (4 ∷ t ∷ s ∷ n ∷ []) ∷ (5 ∷ t ∷ s ∷ n ∷ []) ∷ (6 ∷ t ∷ s ∷ n ∷ [])
    ∷ (7 ∷ t ∷ s ∷ n ∷ []) ∷ (8 ∷ t ∷ s ∷ 255 ∷ []) ∷ (9 ∷ 0 ∷ 0 ∷ 255 ∷ []) ∷ (10 ∷ 0 ∷ 0 ∷ 255 ∷ []) ∷ (11 ∷ 0 ∷ 0 ∷ 255 ∷ []) ∷ (12 ∷ 0 ∷ 0 ∷ 255 ∷ [])
    ∷ (13 ∷ 0 ∷ 0 ∷ 255 ∷ []) ∷ (14 ∷ 0 ∷ 0 ∷ 255 ∷ []) ∷ (15 ∷ 0 ∷ 0 ∷ 255 ∷ []) ∷ (16 ∷ 0 ∷ 0 ∷ 255 ∷ []) ∷ (17 ∷ 0 ∷ 0 ∷ 255 ∷ []) ∷ []

-- ---- house order (01, Store)

-- by sector numbers: 336 to 356 is track 17, 315 to 335 track 16, .. 0 to 20 track 1; then 376, which is 19/0, up to 682, the last of the disk
unfoldable pub house_numbers : List ℕ
house_numbers = join (map (λ i. range (336 - 21 * i) 21) (range 0 17)) ++ ascending 376 682

-- ---- the map (01, The map, 18/0)

-- a map sector with the same three bitmap bytes for each of 35 tracks, and a count of 85, which has ones and zeros in turn
unfoldable pub same_bitmaps : Bytes → Bytes
same_bitmaps bits = zeros 4 ++ join (replicate 35 (85 ∷ bits))

-- three bitmap bytes, and those of the 24 sectors whose bit is 1
pub data Bits : Type 0 where
  bits : Bytes → List ℕ → Bits

-- the five halves of the numbers 0 to 23, by their own binary digits: which of these bitmaps have a sector's bit tells which sector it is
unfoldable pub bitmaps : List Bits
bitmaps =
    bits (0xAA ∷ 0xAA ∷ 0xAA ∷ []) (1 ∷ 3 ∷ 5 ∷ 7 ∷ 9 ∷ 11 ∷ 13 ∷ 15 ∷ 17 ∷ 19 ∷ 21 ∷ 23 ∷ [])
    ∷ bits (0xCC ∷ 0xCC ∷ 0xCC ∷ []) (2 ∷ 3 ∷ 6 ∷ 7 ∷ 10 ∷ 11 ∷ 14 ∷ 15 ∷ 18 ∷ 19 ∷ 22 ∷ 23 ∷ [])
    ∷ bits (0xF0 ∷ 0xF0 ∷ 0xF0 ∷ []) (4 ∷ 5 ∷ 6 ∷ 7 ∷ 12 ∷ 13 ∷ 14 ∷ 15 ∷ 20 ∷ 21 ∷ 22 ∷ 23 ∷ [])
    ∷ bits (0x00 ∷ 0xFF ∷ 0x00 ∷ []) (8 ∷ 9 ∷ 10 ∷ 11 ∷ 12 ∷ 13 ∷ 14 ∷ 15 ∷ [])
    ∷ bits (0x00 ∷ 0x00 ∷ 0xFF ∷ []) (16 ∷ 17 ∷ 18 ∷ 19 ∷ 20 ∷ 21 ∷ 22 ∷ 23 ∷ [])
    ∷ []

-- the tracks whose bits are others than the row says
unfoldable pub wrong_tracks : Bits → List ℕ
wrong_tracks (bits b l) = let m = same_bitmaps b in filter (λ t. not (equal (filter (λ s. eqb (map_bit layout35 m t s) 1) (range 0 24)) l)) (ascending 1 35)

-- ---- a formatted disk (01, Format)

-- 18/0 with a name of 16 bytes and the ids FF 80, and these bytes from $AB on: every byte
unfoldable pub formatted180_with : Bytes → Bytes
formatted180_with behind =
    0x12 ∷ 0x01 ∷ 0x41 ∷ 0x00
    ∷ (join (replicate 17 (0x15 ∷ 0xFF ∷ 0xFF ∷ 0x1F ∷ []))
    ++ (0x11 ∷ 0xFC ∷ 0xFF ∷ 0x07
    ∷ (join (replicate 6 (0x13 ∷ 0xFF ∷ 0xFF ∷ 0x07 ∷ []))
    ++ (join (replicate 6 (0x12 ∷ 0xFF ∷ 0xFF ∷ 0x03 ∷ []))
    ++ (join (replicate 5 (0x11 ∷ 0xFF ∷ 0xFF ∷ 0x01 ∷ []))
    ++ (range 0xF0 16
    ++ (0xA0 ∷ 0xA0 ∷ 0xFF ∷ 0x80 ∷ 0xA0 ∷ 0x32 ∷ 0x41 ∷ 0xA0 ∷ 0xA0 ∷ 0xA0 ∷ 0xA0 ∷ behind)))))))

-- with 35 tracks there are zeros behind
abbrev pub formatted180 : Bytes
formatted180 = formatted180_with (zeros 85)

-- ---- calls on the small disk

-- A moved to track 18: its chain goes 18/2, 19/1, and ends there with n = 2 and other bytes behind the one that is its own
unfoldable pub on_track18 : Bytes
on_track18 =
    patch18 1 0x03 (18 ∷ 2 ∷ []) (patch18 2 0x00 (19 ∷ 1 ∷ range 2 254)
    (splice (patch18 0 0x48 (zeros 4) (patch18 0 0x4C (9 ∷ 0xFD ∷ 0x03 ∷ 0x00 ∷ []) image_with_a)) 1024 (0 ∷ 2 ∷ range 100 100)))

-- 16 bytes of a name, none of them a letter
abbrev pub name16 : Bytes
name16 = range 0xF0 16

-- 600 bytes, none of them 0
unfoldable pub sent600 : Bytes
sent600 = range 1 200 ++ (range 21 200 ++ range 41 200)

-- A and B, and A scratched: 19/0 and 19/1 are free before 19/3, and slot 0 is empty before B's. Bytes 00-01 of the slots 1 and 2, and all free sectors
-- of track 19, are not 0; the DOS version is $00
unfoldable pub dirty_hole : Bytes
dirty_hole =
    patch18 0 0x02 (0x00 ∷ []) (patch18 1 0x20 (7 ∷ 8 ∷ []) (patch18 1 0x40 (5 ∷ 6 ∷ [])
    (splice (splice (after_call image_with_ab (scratch name_a)) 768 (replicate 512 0xEE)) 1536 (replicate 1792 0xEE))))

-- then a PRG file of 600 bytes with a name of 16, a SEQ file of one byte, and B scratched
unfoldable pub filled_hole : Bytes
filled_hole = run small_layout dirty_hole (requests (store name16 2 sent600 ∷ store name_c 1 (9 ∷ []) ∷ scratch name_b ∷ []))

-- of an image: bytes 00-03 and track 19's map entry of 18/0, then the sectors 18/1, 18/2 and 19/0 to 19/5
unfoldable pub written_part : Bytes → Bytes
written_part img = part 0x00 0x03 img ++ (part 0x4C 0x4F img ++ take 2048 (drop 256 img))

-- what stands there: 19/0, 19/1, 19/3 and 19/4 in use, and 19/5 as it was
unfoldable pub hole_filled : Bytes
hole_filled = join (
    (0x12 ∷ 0x01 ∷ 0x00 ∷ 0x00 ∷ 6 ∷ 0xE4 ∷ 0x03 ∷ 0x00 ∷ [])
    ∷ (0x00 ∷ 0xFF ∷ 0x82 ∷ 19 ∷ 0 ∷ name16) ∷ zeros 9 ∷ (3 ∷ 0 ∷ [])
    ∷ (7 ∷ 8 ∷ zeros 30)
    ∷ (5 ∷ 6 ∷ 0x81 ∷ 19 ∷ 4 ∷ name_c) ∷ replicate 15 0xA0 ∷ zeros 9 ∷ (1 ∷ 0 ∷ zeros 160)
    ∷ zeros 256
    ∷ (19 ∷ 1 ∷ take 254 sent600)
    ∷ (19 ∷ 3 ∷ take 254 (drop 254 sent600))
    ∷ zeros 256
    ∷ (0 ∷ 93 ∷ drop 508 sent600) ∷ zeros 162
    ∷ (0 ∷ 2 ∷ 9 ∷ zeros 253)
    ∷ replicate 256 0xEE
    ∷ [])

-- the numbers of all calls on an image that is one byte longer: 1
unfoldable pub longer_numbers : List ℕ
longer_numbers =
    map (λ c. (host_call small_layout (zeros 3329) lent_block c).number) (check ∷ format name_a 1 2 ∷ read name_a (zeros 300) ∷ store name_b 1 [] ∷ scratch name_a ∷ [])
    ++ ((tell_reply (call_tell small_layout (zeros 3329) 0)).answer.number ∷ (listing_reply [] (call_listing small_layout (zeros 769) [])).answer.number ∷ [])

-- count bytes of 255 for the 17 tracks without sectors, a disk name of 16 bytes, and the ids FF 80
unfoldable pub many_free : Bytes
many_free = patch18 0 0x04 (join (replicate 17 (255 ∷ zeros 3))) (patch18 0 0x90 name16 (patch18 0 0xA2 (0xFF ∷ 0x80 ∷ []) image_with_a))

-- the first line of a listing of one file, and the last
unfoldable pub first_and_last : Bytes → Bytes
first_and_last text = take 37 text ++ drop 80 text

-- images with a fault that track 18 shows: a directory link to 18/0, a REL file, an empty name, a name used twice
unfoldable pub shown_faults : List Bytes
shown_faults =
    patch18 1 0x00 (18 ∷ 0 ∷ []) image_with_a ∷ patch18 1 0x02 (0x84 ∷ []) image_with_a
    ∷ patch18 1 0x05 (0xA0 ∷ []) image_with_a ∷ patch18 1 0x25 name_a image_with_ab ∷ []
