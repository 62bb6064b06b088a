-- Two faults at once, computed: for each call every neighbouring pair of document 01's order, answered with the first of the two
-- (01, Order of the check; Answer numbers: "Where several apply"). The layout is the small one of specs/Trial: 18/0 to 18/2 and 19/0 to 19/9.
-- In order: an image; flaws of it; rows; each flaw alone; the pairs, call by call. The statement: proofs/OrderTables, `pairs-hold`.
-- The 16 of a short entry and of the answer block, for tell and the listing: crate d64, proofs/HostTable.
use Rattle.std.specs.Prelude.{ℕ, ◌+◌, ◌*◌, Bool, ◌&&◌, not, List, [], ◌∷◌, ◌++◌, take, replicate, eqb}
use Rattle.d64spec.specs.Lists.{Bytes, filter, equal, join, zeros}
use Rattle.d64spec.specs.Read.{call_tell, tell_reply}
use Rattle.d64spec.specs.Call.{Call, check, format, read, store, scratch}
use Rattle.d64spec.specs.Listing.{call_listing, listing_reply}
use Rattle.d64spec.specs.Host.{host_call}
use Rattle.d64spec.specs.Trial.{small_layout, name_a, name_c, lent, entry_on19, patch18, relink, fault_at, report, answer_bytes, fields_of}

-- ---- an image

-- the 32 bytes of a slot: six bytes (link, type, first sector, a name of one byte), the rest of the name field, nine zeros, a count
abbrev pub slot_of : Bytes → ℕ → Bytes
slot_of six count = six ++ (replicate 15 0xA0 ++ (zeros 9 ++ (count ∷ 0 ∷ [])))

-- the directory 18/1, 18/2; A, PRG, 300 bytes in 19/0 and 19/1, in slot 0; B, SEQ, ten bytes in 19/2, in slot 1. 19/3 to 19/9 are free
unfoldable pub sound : Bytes
sound = join (
    (0x12 ∷ 0x01 ∷ 0x41 ∷ zeros 73) ∷ (0x07 ∷ 0xF8 ∷ 0x03 ∷ zeros 177)
    ∷ slot_of (18 ∷ 2 ∷ 0x82 ∷ 19 ∷ 0 ∷ 0x41 ∷ []) 2 ∷ slot_of (0 ∷ 0 ∷ 0x81 ∷ 19 ∷ 2 ∷ 0x42 ∷ []) 1 ∷ zeros 192
    ∷ (0 ∷ 255 ∷ zeros 254)
    ∷ (19 ∷ 1 ∷ replicate 254 7) ∷ (0 ∷ 47 ∷ replicate 254 7) ∷ (0 ∷ 11 ∷ replicate 254 7) ∷ zeros 1792
    ∷ [])

-- ---- flaws

-- one thing that is wrong with the image, and its number; slots are those of 18/1
pub data Flaw : Type 0 where
  cut : Flaw  -- 1: the last byte is missing
  directory_to : ℕ → ℕ → ℕ → Flaw  -- 2 or 3: 18/s, s being 1 or 2, links to this track and sector
  kind80 : ℕ → Flaw  -- 4: the type byte of this slot is $80
  no_name : ℕ → Flaw  -- 5: the name of this slot is empty
  name_a0_a : Flaw  -- 5 and 6: the name of slot 1 is $A0 and A
  second_a : Flaw  -- 6: the name of slot 1 is A
  first_to : ℕ → ℕ → Flaw  -- 2 or 3: the first sector of slot 1 is this track and sector
  link_to : ℕ → ℕ → ℕ → Flaw  -- 2 or 3: 19/s links to this track and sector
  count_of9 : ℕ → Flaw  -- 7: the count of this slot is 9
  map_of255 : ℕ → Flaw  -- 8: the map counts 255 free sectors on this track
  marks : ℕ → ℕ → Flaw  -- 8: the first bitmap byte of this track; right are 00 on track 18 and F8 on track 19
  version42 : Flaw  -- 11: the DOS version is $42
  no_slot_left : Flaw  -- 14: six more files fill 18/1, which ends the directory; one of them has 18/2, and 19/8 and 19/9 are all that is free

-- the image with a flaw
unfoldable pub spoil : Flaw → Bytes → Bytes
spoil cut img = take 3327 img
spoil (directory_to s t u) img = patch18 s 0x00 (t ∷ u ∷ []) img
spoil (kind80 j) img = patch18 1 (32 * j + 0x02) (0x80 ∷ []) img
spoil (no_name j) img = patch18 1 (32 * j + 0x05) (0xA0 ∷ []) img
spoil name_a0_a img = patch18 1 0x25 (0xA0 ∷ 0x41 ∷ []) img
spoil second_a img = patch18 1 0x25 (0x41 ∷ []) img
spoil (first_to t u) img = patch18 1 0x23 (t ∷ u ∷ []) img
spoil (link_to s t u) img = relink s t u img
spoil (count_of9 j) img = patch18 1 (32 * j + 0x1E) (9 ∷ []) img
spoil (map_of255 t) img = patch18 0 (4 * t) (255 ∷ []) img
spoil (marks t b) img = patch18 0 (4 * t + 1) (b ∷ []) img
spoil version42 img = patch18 0 0x02 (0x42 ∷ []) img
spoil no_slot_left img =
    patch18 0 0x4C (2 ∷ 0x00 ∷ 0x03 ∷ []) (patch18 1 0x00 (0 ∷ 255 ∷ [])
    (patch18 1 0x40 (entry_on19 3 ++ (entry_on19 4 ++ (entry_on19 5 ++ (entry_on19 6 ++ (entry_on19 7 ++ slot_of (0 ∷ 0 ∷ 0x81 ∷ 18 ∷ 2 ∷ 0x08 ∷ []) 1)))))
    (patch18 2 0x00 (0 ∷ 1 ∷ []) (relink 3 0 1 (relink 4 0 1 (relink 5 0 1 (relink 6 0 1 (relink 7 0 1 img))))))))

-- the image with these flaws
abbrev pub spoilt : List Flaw → Bytes
spoilt [] = sound
spoilt (f ∷ l) = spoil f (spoilt l)

-- ---- rows

-- an image with these flaws, a call, and what document 01 gives for it
pub data FaultRow : Type 0 where
  meets : List Flaw → Call → ℕ → Bytes → Bytes → FaultRow  -- number, block and output afterwards; the image stays
  block : ℕ → List Flaw → Call → Bytes → FaultRow  -- the length of a block that is refused with 16, and the output; block, output and image stay
  tells : List Flaw → ℕ → Bytes → FaultRow  -- a position; number and place, and all zero besides
  lists : List Flaw → ℕ → ℕ → Bytes → FaultRow  -- so many bytes of track 18, and of a text buffer; number and place, length 0, and the buffer stays

-- whether a row is as document 01 says
unfoldable pub fault_holds : FaultRow → Bool
fault_holds (meets l c n b o) =
    let r = host_call small_layout (spoilt l) (lent 9) c in
    eqb r.number n && (equal r.block_after b && (equal r.output_after o && equal r.image_after (spoilt l)))
fault_holds (block k l c o) =
    let r = host_call small_layout (spoilt l) (lent k) c in
    eqb r.number 16 && (equal r.block_after (lent k) && (equal r.output_after o && equal r.image_after (spoilt l)))
fault_holds (tells l p a) = equal (fields_of (tell_reply (call_tell small_layout (spoilt l) p))) (a ++ zeros 21)
fault_holds (lists l n k a) =
    let r = listing_reply (lent k) (call_listing small_layout (take n (spoilt l)) (lent k)) in
    equal (answer_bytes r.answer) a && (eqb r.listed.reported_length 0 && equal r.listed.output_after (lent k))

-- the rows that fail
abbrev pub broken_faults : List FaultRow → List FaultRow
broken_faults l = filter (λ e. not (fault_holds e)) l

-- a name that is too long, and one that holds $A0
abbrev pub long_name : Bytes
long_name = replicate 17 0x41

abbrev pub padded_name : Bytes
padded_name = 0x41 ∷ 0xA0 ∷ []

-- ---- each alone

-- the image is accepted, and each flaw alone is refused with its number; so are arguments, and an answer block of eight bytes or ten, on an image without flaws
unfoldable pub alone_rows : List FaultRow
alone_rows =
    meets [] check 0 (report 0 0) []
    ∷ meets (cut ∷ []) check 1 (report 0 0) []
    ∷ meets (directory_to 1 19 5 ∷ []) check 2 (fault_at 18 1 255) []
    ∷ meets (directory_to 1 18 1 ∷ []) check 3 (fault_at 18 1 255) []
    ∷ meets (directory_to 2 18 3 ∷ []) check 2 (fault_at 18 2 255) []
    ∷ meets (directory_to 2 18 1 ∷ []) check 3 (fault_at 18 2 255) []
    ∷ meets (kind80 0 ∷ []) check 4 (fault_at 18 1 0) []
    ∷ meets (kind80 1 ∷ []) check 4 (fault_at 18 1 1) []
    ∷ meets (no_name 0 ∷ []) check 5 (fault_at 18 1 0) []
    ∷ meets (second_a ∷ []) check 6 (fault_at 18 1 1) []
    ∷ meets (first_to 20 0 ∷ []) check 2 (fault_at 18 1 1) []
    ∷ meets (first_to 19 0 ∷ []) check 3 (fault_at 18 1 1) []
    ∷ meets (link_to 1 0 0 ∷ []) check 2 (fault_at 19 1 0) []
    ∷ meets (link_to 1 19 0 ∷ []) check 3 (fault_at 19 1 0) []
    ∷ meets (link_to 0 18 2 ∷ []) check 3 (fault_at 19 0 0) []
    ∷ meets (count_of9 0 ∷ []) check 7 (fault_at 18 1 0) []
    ∷ meets (count_of9 1 ∷ []) check 7 (fault_at 18 1 1) []
    ∷ meets (map_of255 1 ∷ []) check 8 (fault_at 1 255 255) []
    ∷ meets (map_of255 17 ∷ []) check 8 (fault_at 17 255 255) []
    ∷ meets (map_of255 18 ∷ []) check 8 (fault_at 18 255 255) []
    ∷ meets (map_of255 19 ∷ []) check 8 (fault_at 19 255 255) []
    ∷ meets (marks 18 0x01 ∷ []) check 8 (fault_at 18 0 255) []
    ∷ meets (marks 18 0x04 ∷ []) check 8 (fault_at 18 2 255) []
    ∷ meets (marks 18 0x08 ∷ []) check 0 (report 0 0) []  -- track 18 has three sectors here
    ∷ meets (marks 19 0xFA ∷ []) check 8 (fault_at 19 1 255) []
    ∷ meets (marks 19 0xF0 ∷ []) check 8 (fault_at 19 3 255) []
    ∷ meets (marks 19 0x78 ∷ []) check 8 (fault_at 19 7 255) []
    ∷ meets [] (format [] 0x30 0x31) 9 (report 0 0) []
    ∷ meets [] (read long_name (lent 4)) 9 (report 0 0) (lent 4)
    ∷ meets [] (scratch padded_name) 9 (report 0 0) []
    ∷ meets [] (store name_c 3 []) 10 (report 0 0) []
    ∷ meets [] (store name_c 4 []) 10 (report 0 0) []
    ∷ meets [] (store name_c 258 []) 10 (report 0 0) []
    ∷ meets (version42 ∷ []) (store name_c 1 []) 11 (report 0 0) []
    ∷ meets (version42 ∷ []) (scratch name_a) 11 (report 0 0) []
    ∷ meets [] (store name_a 1 []) 12 (report 0 0) []
    ∷ meets [] (read name_c (lent 4)) 13 (report 0 0) (lent 4)
    ∷ meets [] (scratch name_c) 13 (report 0 0) []
    ∷ tells [] 2 (13 ∷ 0 ∷ 0 ∷ 255 ∷ [])
    ∷ meets (no_slot_left ∷ []) (store name_c 1 []) 14 (report 0 0) []
    ∷ meets [] (store name_c 1 (zeros 1779)) 15 (report 0 0) []
    ∷ meets [] (read name_a (lent 299)) 16 (report 0 0) (lent 299)
    ∷ lists (kind80 2 ∷ []) 768 6234 (4 ∷ 18 ∷ 1 ∷ 2 ∷ [])
    ∷ lists [] 768 127 (16 ∷ 0 ∷ 0 ∷ 255 ∷ [])
    ∷ block 8 [] check []
    ∷ block 10 [] (scratch name_a) []
    ∷ []

-- ---- check: 16 for the block; 1; the directory; slot by slot 4, 5, 6, 2 or 3, 7; 8, track by track

unfoldable pub check_pairs : List FaultRow
check_pairs =
    -- 16 and 1
    block 8 (cut ∷ []) check []
    -- 1 and the directory's 2
    ∷ meets (cut ∷ directory_to 1 19 5 ∷ []) check 1 (report 0 0) []
    -- the directory's 2 and 3, at one link: 18/0 is the map's own, and no link of a directory
    ∷ meets (directory_to 1 18 0 ∷ []) check 2 (fault_at 18 1 255) []
    -- the directory's 2 and 3, at its last link, and slot 0's 4
    ∷ meets (directory_to 2 18 3 ∷ kind80 0 ∷ []) check 2 (fault_at 18 2 255) []
    ∷ meets (directory_to 2 18 1 ∷ kind80 0 ∷ []) check 3 (fault_at 18 2 255) []
    -- 4 and 5 in one slot
    ∷ meets (kind80 0 ∷ no_name 0 ∷ []) check 4 (fault_at 18 1 0) []
    -- 5 and 6 in one slot: the bytes that are not $A0 are A's name
    ∷ meets (name_a0_a ∷ []) check 5 (fault_at 18 1 1) []
    -- 6 and 2, 6 and 3 in one slot
    ∷ meets (second_a ∷ first_to 20 0 ∷ []) check 6 (fault_at 18 1 1) []
    ∷ meets (second_a ∷ first_to 19 0 ∷ []) check 6 (fault_at 18 1 1) []
    -- 2 and 3 at one link: 18/3 is off the disk, and 3 is the number of 19/0, which is A's
    ∷ meets (first_to 18 3 ∷ []) check 2 (fault_at 18 1 1) []
    -- 3 and then 2 along one chain: 19/0 links to 18/2, the directory's, whose 00 00 would be a file's bad link.
    -- Behind a bad link nothing is met: 2 and then 3 is no pair
    ∷ meets (link_to 0 18 2 ∷ directory_to 2 0 0 ∷ []) check 3 (fault_at 19 0 0) []
    -- 2 and 7, 3 and 7 in one slot
    ∷ meets (link_to 1 0 0 ∷ count_of9 0 ∷ []) check 2 (fault_at 19 1 0) []
    ∷ meets (link_to 1 19 0 ∷ count_of9 0 ∷ []) check 3 (fault_at 19 1 0) []
    -- slot 0's 7 and slot 1's 4; slot 0's 3 and slot 1's 2: slots in directory order, not numbers in theirs
    ∷ meets (count_of9 0 ∷ kind80 1 ∷ []) check 7 (fault_at 18 1 0) []
    ∷ meets (link_to 1 19 0 ∷ first_to 20 0 ∷ []) check 3 (fault_at 19 1 0) []
    -- the last slot's 7 and track 1's 8
    ∷ meets (count_of9 1 ∷ map_of255 1 ∷ []) check 7 (fault_at 18 1 1) []
    -- the last slot's 7 and a wrong bit
    ∷ meets (count_of9 1 ∷ marks 18 0x04 ∷ []) check 7 (fault_at 18 1 1) []
    -- 8 for two bits of one track: the lower one (02, §3), be it marked or not
    ∷ meets (marks 19 0xD9 ∷ []) check 8 (fault_at 19 0 255) []
    ∷ meets (marks 19 0xB0 ∷ []) check 8 (fault_at 19 3 255) []
    ∷ meets (marks 18 0x0C ∷ []) check 8 (fault_at 18 2 255) []
    -- 8 for a bit and the count of one track: the bit
    ∷ meets (marks 19 0xF0 ∷ map_of255 19 ∷ []) check 8 (fault_at 19 3 255) []
    -- 8 for a bit and a count on two tracks: the lower track
    ∷ meets (map_of255 18 ∷ marks 19 0xF9 ∷ []) check 8 (fault_at 18 255 255) []
    ∷ meets (marks 18 0x04 ∷ map_of255 19 ∷ []) check 8 (fault_at 18 2 255) []
    -- 8 on two tracks: the lower one
    ∷ meets (map_of255 1 ∷ map_of255 17 ∷ []) check 8 (fault_at 1 255 255) []
    ∷ meets (map_of255 17 ∷ map_of255 18 ∷ []) check 8 (fault_at 17 255 255) []
    ∷ meets (map_of255 18 ∷ map_of255 19 ∷ []) check 8 (fault_at 18 255 255) []
    ∷ []

-- ---- the other calls: 16 for the block; 1; 9; 10; 2 to 8, of which the directory's is the first and the map's the last; then 11 to 16

-- format: 16, 1, 9
unfoldable pub format_pairs : List FaultRow
format_pairs =
    block 8 (cut ∷ []) (format name_a 0x30 0x31) []  -- 16 and 1
    ∷ meets (cut ∷ []) (format [] 0x30 0x31) 1 (report 0 0) []  -- 1 and 9
    ∷ []

-- read: 16, 1, 9, 2 to 8, 13, 16. A file that is not there has no length: 13 and 16 are no pair, and 8 meets both
unfoldable pub read_pairs : List FaultRow
read_pairs =
    block 8 (cut ∷ []) (read name_a (lent 4)) (lent 4)  -- 16 and 1
    ∷ meets (cut ∷ []) (read long_name (lent 4)) 1 (report 0 0) (lent 4)  -- 1 and 9
    ∷ meets (directory_to 1 19 5 ∷ []) (read long_name (lent 4)) 9 (report 0 0) (lent 4)  -- 9 and the directory's 2
    ∷ meets (map_of255 19 ∷ []) (read name_c (lent 4)) 8 (fault_at 19 255 255) (lent 4)  -- 8 and 13
    ∷ meets (map_of255 19 ∷ []) (read name_a (lent 4)) 8 (fault_at 19 255 255) (lent 4)  -- 8 and 16
    ∷ meets (marks 19 0xF0 ∷ []) (read name_c (lent 4)) 8 (fault_at 19 3 255) (lent 4)  -- a bit's 8 and 13
    ∷ meets (marks 19 0xF0 ∷ []) (read name_a (lent 4)) 8 (fault_at 19 3 255) (lent 4)  -- a bit's 8 and 16
    ∷ []

-- store: 16, 1, 9, 10, 2 to 8, 11, 12, 14, 15
unfoldable pub store_pairs : List FaultRow
store_pairs =
    block 8 (cut ∷ []) (store name_c 1 []) []  -- 16 and 1
    ∷ meets (cut ∷ []) (store [] 1 []) 1 (report 0 0) []  -- 1 and 9
    ∷ meets [] (store [] 3 []) 9 (report 0 0) []  -- 9 and 10
    ∷ meets (directory_to 1 19 5 ∷ []) (store name_c 3 []) 10 (report 0 0) []  -- 10 and the directory's 2
    ∷ meets (map_of255 19 ∷ version42 ∷ []) (store name_c 1 []) 8 (fault_at 19 255 255) []  -- 8 and 11
    ∷ meets (marks 19 0xF0 ∷ version42 ∷ []) (store name_c 1 []) 8 (fault_at 19 3 255) []  -- a bit's 8 and 11
    ∷ meets (version42 ∷ []) (store name_a 1 []) 11 (report 0 0) []  -- 11 and 12
    ∷ meets (no_slot_left ∷ []) (store name_a 1 []) 12 (report 0 0) []  -- 12 and 14
    ∷ meets (no_slot_left ∷ []) (store name_c 1 (zeros 509)) 14 (report 0 0) []  -- 14 and 15: three sectors are needed
    ∷ []

-- scratch: 16, 1, 9, 2 to 8, 11, 13
unfoldable pub scratch_pairs : List FaultRow
scratch_pairs =
    block 8 (cut ∷ []) (scratch name_a) []  -- 16 and 1
    ∷ meets (cut ∷ []) (scratch padded_name) 1 (report 0 0) []  -- 1 and 9
    ∷ meets (directory_to 1 19 5 ∷ []) (scratch padded_name) 9 (report 0 0) []  -- 9 and the directory's 2
    ∷ meets (map_of255 19 ∷ version42 ∷ []) (scratch name_a) 8 (fault_at 19 255 255) []  -- 8 and 11
    ∷ meets (marks 19 0xF0 ∷ version42 ∷ []) (scratch name_a) 8 (fault_at 19 3 255) []  -- a bit's 8 and 11
    ∷ meets (version42 ∷ []) (scratch name_c) 11 (report 0 0) []  -- 11 and 13
    ∷ []

-- tell: 1, 2 to 8, 13; its two 16s are in crate d64
unfoldable pub tell_pairs : List FaultRow
tell_pairs =
    tells (cut ∷ directory_to 1 19 5 ∷ []) 0 (1 ∷ 0 ∷ 0 ∷ 255 ∷ [])  -- 1 and the directory's 2
    ∷ tells (map_of255 19 ∷ []) 2 (8 ∷ 19 ∷ 255 ∷ 255 ∷ [])  -- 8 and 13
    ∷ tells (marks 19 0xF0 ∷ []) 2 (8 ∷ 19 ∷ 3 ∷ 255 ∷ [])  -- a bit's 8 and 13
    ∷ []

-- listing: 1, the directory's 2 and 3, slot by slot 4, 5, 6, and 16 for its text of 128 bytes; the answer block's 16 is in crate d64
unfoldable pub listing_pairs : List FaultRow
listing_pairs =
    lists (directory_to 1 19 5 ∷ []) 767 6234 (1 ∷ 0 ∷ 0 ∷ 255 ∷ [])  -- 1 and the directory's 2
    ∷ lists (directory_to 1 18 0 ∷ []) 768 6234 (2 ∷ 18 ∷ 1 ∷ 255 ∷ [])  -- the directory's 2 and 3, at one link
    ∷ lists (directory_to 2 18 3 ∷ kind80 0 ∷ []) 768 6234 (2 ∷ 18 ∷ 2 ∷ 255 ∷ [])  -- the directory's 2, at its last link, and slot 0's 4
    ∷ lists (directory_to 2 18 1 ∷ kind80 0 ∷ []) 768 6234 (3 ∷ 18 ∷ 2 ∷ 255 ∷ [])  -- its 3, likewise
    ∷ lists (kind80 0 ∷ no_name 0 ∷ []) 768 6234 (4 ∷ 18 ∷ 1 ∷ 0 ∷ [])  -- 4 and 5 in one slot
    ∷ lists (name_a0_a ∷ []) 768 6234 (5 ∷ 18 ∷ 1 ∷ 1 ∷ [])  -- 5 and 6 in one slot
    ∷ lists (second_a ∷ kind80 2 ∷ []) 768 6234 (6 ∷ 18 ∷ 1 ∷ 1 ∷ [])  -- slot 1's 6 and slot 2's 4
    ∷ lists (second_a ∷ []) 768 4 (6 ∷ 18 ∷ 1 ∷ 1 ∷ [])  -- the last slot's 6 and 16
    ∷ []
