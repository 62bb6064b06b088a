-- Whole calls on a small disk, computed: each with the number, the block and the bytes that document 01 gives for it.
-- The layout has three sectors on track 18, ten on track 19 and no other: an image of 3,328 bytes, small enough to compute on.
-- The definitions are those of every layout. Not here: refusals of every call, and their order (specs/TwoFaults).
-- In order: the layout; the images; rows; the tables. The statement: proofs/ExampleTables, `calls-hold`.
use Rattle.std.specs.Prelude.{ℕ, zero, suc, ◌+◌, ◌*◌, Bool, ◌&&◌, not, List, [], ◌∷◌, ◌++◌, map, length, take, drop, replicate, eqb}
use Rattle.d64spec.specs.Lists.{Bytes, filter, equal, join, range, splice, zeros}
use Rattle.d64spec.specs.Answers.{Answer}
use Rattle.d64spec.specs.Geometry.{Geometry}
use Rattle.d64spec.specs.Read.{TellReply, call_tell, tell_reply}
use Rattle.d64spec.specs.Call.{Call, check, format, read, store, scratch}
use Rattle.d64spec.specs.Listing.{sleeve_output}
use Rattle.d64spec.specs.Host.{host_call}
use Rattle.d64spec.specs.Run.{Request}

-- 13 sectors: 18/0 is sector 0, 19/0 is sector 3
unfoldable pub small_layout : Geometry
small_layout = record { counts = replicate 17 0 ++ (3 ∷ 10 ∷ []); map_at = λ t. 4 * t }

-- ---- images

-- the names D, A, B and C
abbrev pub name_d : Bytes
name_d = 0x44 ∷ []

abbrev pub name_a : Bytes
name_a = 0x41 ∷ []

abbrev pub name_b : Bytes
name_b = 0x42 ∷ []

abbrev pub name_c : Bytes
name_c = 0x43 ∷ []

-- a name of 16 bytes
abbrev pub name_of16 : Bytes
name_of16 = 0x01 ∷ 0x12 ∷ 0x23 ∷ 0x34 ∷ 0x45 ∷ 0x56 ∷ 0x67 ∷ 0x78 ∷ 0x89 ∷ 0x9A ∷ 0xAB ∷ 0xBC ∷ 0xCD ∷ 0xDE ∷ 0xEF ∷ 0xF0 ∷ []

-- 300 bytes
unfoldable pub sent : Bytes
sent = range 1 200 ++ range 1 100

-- n bytes lent, none of them what a call leaves there
abbrev pub lent : ℕ → Bytes
lent n = replicate n 0xEE

-- nine of them for the answer
abbrev pub lent_block : Bytes
lent_block = lent 9

-- the image after a host call
unfoldable pub after_call : Bytes → Call → Bytes
after_call img c = (host_call small_layout img lent_block c).image_after

-- calls as a list of requests, each with such a block
abbrev pub requests : List Call → List Request
requests l = map (λ c. record { block = lent_block; call = c }) l

-- the 32 bytes of a slot whose file, named j, is empty and has the one sector 19/j
unfoldable pub entry_on19 : ℕ → Bytes
entry_on19 j = 0 ∷ 0 ∷ 0x81 ∷ 19 ∷ j ∷ j ∷ (replicate 15 0xA0 ++ (zeros 9 ++ (1 ∷ 0 ∷ [])))

-- the image with the sectors 19/0 to 19/n-1 as ends of empty files
unfoldable pub with_ends : ℕ → Bytes → Bytes
with_ends zero img = img
with_ends (suc n) img = splice (with_ends n img) (256 * (3 + n)) (0 ∷ 1 ∷ [])

-- the image with other bytes from byte i of track 18's sector s on
abbrev pub patch18 : ℕ → ℕ → Bytes → Bytes → Bytes
patch18 s i bs img = splice img (256 * s + i) bs

-- the image with another link in track 19's sector s
abbrev pub relink : ℕ → ℕ → ℕ → Bytes → Bytes
relink s a b img = splice img (256 * (3 + s)) (a ∷ b ∷ [])

-- which image a call is given
pub data Given : Type 0 where
  zero_bytes fresh_disk : Given
  one_file : Given  -- A, PRG, 300 bytes in 19/0 and 19/1
  two_files : Given  -- and B, SEQ, ten bytes in 19/2
  one_byte_short : Given
  version42 : Given
  last_link0000 link_off_disk link_to_map link_to_itself first_link_track0 chains_meet : Given
  directory_link_to_map directory_link_twice directory_link_track19 : Given
  del_entry empty_name shared_name count_of_three : Given
  map_count_wrong map_bit_wrong : Given
  bit_past_the_last bit_past_counted : Given  -- of track 18, set, and set and counted
  map_link_elsewhere : Given  -- bytes 0-1 of 18/0 lead to a file's sector
  eight_files : Given  -- all slots of 18/1 in use, and 18/2 free
  nine_files : Given  -- and A in 18/2
  far_file : Given  -- A in 18/1, and B, SEQ, ten bytes in 19/2, in slot 8, the first of 18/2
  far_link_twice far_link_off far_type far_name far_shared_name far_first_link_off far_meets far_count : Given
  counts_of255 : Given  -- count bytes of tracks without sectors
  odd_entry : Given  -- names of 16 bytes; a locked file with a count of 664 and a first sector off the disk, of which a listing asks neither

-- the formatted image
unfoldable pub fresh_image : Bytes
fresh_image = after_call (zeros 3328) (format name_d 0x30 0x31)

-- with A
unfoldable pub image_with_a : Bytes
image_with_a = after_call fresh_image (store name_a 2 sent)

-- with A and B
unfoldable pub image_with_ab : Bytes
image_with_ab = after_call image_with_a (store name_b 1 (range 1 10))

-- with eight empty files on track 19
unfoldable pub image_with_eight : Bytes
image_with_eight = patch18 0 0x4C (2 ∷ 0 ∷ 3 ∷ 0 ∷ []) (patch18 1 0x00 (0 ∷ 255 ∷ drop 2 (join (map entry_on19 (range 0 8)))) (with_ends 8 fresh_image))

-- with A in slot 0, and B in slot 8
unfoldable pub image_far : Bytes
image_far =
    patch18 0 0x48 (zeros 4) (patch18 1 0x00 (18 ∷ 2 ∷ []) (patch18 1 0x22 (zeros 30)
    (patch18 2 0x00 (0 ∷ 255 ∷ 0x81 ∷ 19 ∷ 2 ∷ (name_b ++ (replicate 15 0xA0 ++ (zeros 9 ++ (1 ∷ 0 ∷ zeros 224))))) image_with_ab)))

-- that image
unfoldable pub image_of : Given → Bytes
image_of zero_bytes = zeros 3328
image_of fresh_disk = fresh_image
image_of one_file = image_with_a
image_of two_files = image_with_ab
image_of one_byte_short = take 3327 image_with_a
image_of version42 = patch18 0 0x02 (0x42 ∷ []) image_with_a
image_of last_link0000 = relink 1 0 0 image_with_a
image_of link_off_disk = relink 0 19 10 image_with_a
image_of link_to_map = relink 0 18 0 image_with_a
image_of link_to_itself = relink 1 19 0 image_with_a
image_of first_link_track0 = patch18 1 0x03 (0 ∷ 5 ∷ []) image_with_a
image_of chains_meet = patch18 1 0x23 (19 ∷ 0 ∷ []) image_with_ab
image_of directory_link_to_map = patch18 1 0x00 (18 ∷ 0 ∷ []) image_with_a
image_of directory_link_twice = patch18 1 0x00 (18 ∷ 1 ∷ []) image_with_a
image_of directory_link_track19 = patch18 1 0x00 (19 ∷ 5 ∷ []) image_with_a
image_of del_entry = patch18 1 0x02 (0x80 ∷ []) image_with_a
image_of empty_name = patch18 1 0x05 (0xA0 ∷ []) image_with_a
image_of shared_name = patch18 1 0x25 name_a image_with_ab
image_of count_of_three = patch18 1 0x1E (3 ∷ []) image_with_a
image_of map_count_wrong = patch18 0 0x4C (9 ∷ []) image_with_a
image_of map_bit_wrong = patch18 0 0x4C (9 ∷ 0xFE ∷ []) image_with_a
image_of bit_past_the_last = patch18 0 0x49 (0x0C ∷ []) image_with_a
image_of bit_past_counted = patch18 0 0x48 (2 ∷ 0x0C ∷ []) image_with_a
image_of map_link_elsewhere = patch18 0 0x00 (19 ∷ 1 ∷ []) image_with_a
image_of eight_files = image_with_eight
image_of nine_files = after_call image_with_eight (store name_a 2 sent)
image_of far_file = image_far
image_of far_link_twice = patch18 2 0x00 (18 ∷ 1 ∷ []) image_far
image_of far_link_off = patch18 2 0x00 (18 ∷ 3 ∷ []) image_far
image_of far_type = patch18 2 0x02 (0x40 ∷ []) image_far
image_of far_name = patch18 2 0x06 (0x42 ∷ 0xA0 ∷ 0x42 ∷ []) image_far
image_of far_shared_name = patch18 2 0x05 name_a image_far
image_of far_first_link_off = patch18 2 0x03 (20 ∷ 0 ∷ []) image_far
image_of far_meets = patch18 2 0x03 (19 ∷ 1 ∷ []) image_far
image_of far_count = patch18 2 0x1F (1 ∷ []) image_far
image_of counts_of255 = patch18 0 0x04 (255 ∷ 0 ∷ 0 ∷ 0 ∷ 255 ∷ []) image_with_a
image_of odd_entry =
    patch18 0 0x90 (range 0x41 16) (patch18 1 0x02 (0xC2 ∷ 0xFF ∷ 0xFE ∷ []) (patch18 1 0x05 name_of16 (patch18 1 0x1E (0x98 ∷ 0x02 ∷ []) image_with_a)))

-- ---- rows

-- one call, and what document 01 gives for it
pub data CallRow : Type 0 where
  quiet : Given → Call → ℕ → Bytes → Bytes → CallRow  -- number, block and output afterwards; the image stays as it was
  writes : Given → Call → ℕ → Bytes → CallRow  -- number and block afterwards
  told : Given → ℕ → Bytes → CallRow  -- a position, and the reply in one list
  holds_at : Given → ℕ → ℕ → Bytes → CallRow  -- these bytes, from this offset of a sector on
  sleeve : Given → Bytes → CallRow  -- what the listing program writes

-- a report of 0 and 0 at this place
abbrev pub fault_at : ℕ → ℕ → ℕ → Bytes
fault_at t s slot = t ∷ s ∷ slot ∷ zeros 6

-- a report without a place
abbrev pub report : ℕ → ℕ → Bytes
report n k = 0 ∷ 0 ∷ 255 ∷ n ∷ 0 ∷ 0 ∷ 0 ∷ k ∷ 0 ∷ []

-- an answer in one list: number, track, sector, slot
abbrev pub answer_bytes : Answer → Bytes
answer_bytes a = a.number ∷ a.track ∷ a.sector ∷ a.slot ∷ []

-- what tell gives, in one list: number and place, type, name, first sector, count, length
unfoldable pub fields_of : TellReply → Bytes
fields_of r =
    let i = r.information in
    answer_bytes r.answer ++ (i.type_byte ∷ (i.name_bytes ++ (i.first_track ∷ i.first_sector ∷ i.sector_count ∷ i.byte_length ∷ [])))

-- whether a row is as document 01 says
unfoldable pub call_holds : CallRow → Bool
call_holds (quiet s c n b o) =
    let r = host_call small_layout (image_of s) lent_block c in
    eqb r.number n && (equal r.block_after b && (equal r.output_after o && equal r.image_after (image_of s)))
call_holds (writes s c n b) = let r = host_call small_layout (image_of s) lent_block c in eqb r.number n && equal r.block_after b
call_holds (told s p f) = equal (fields_of (tell_reply (call_tell small_layout (image_of s) p))) f
call_holds (holds_at s n i bs) = equal (take (length bs) (drop (256 * n + i) (image_of s))) bs
call_holds (sleeve s text) = equal (sleeve_output small_layout (image_of s)) text

-- the rows that fail
abbrev pub broken_calls : List CallRow → List CallRow
broken_calls l = filter (λ e. not (call_holds e)) l

-- the check: numbers 0 to 8 with their places, in the first directory sector and in the second
unfoldable pub check_rows : List CallRow
check_rows =
    quiet zero_bytes check 8 (fault_at 18 2 255) []
    ∷ quiet fresh_disk check 0 (report 0 0) []
    ∷ quiet one_file check 0 (report 0 0) []
    ∷ quiet one_byte_short check 1 (report 0 0) []
    ∷ quiet last_link0000 check 2 (fault_at 19 1 0) []
    ∷ quiet link_off_disk check 2 (fault_at 19 0 0) []
    ∷ quiet first_link_track0 check 2 (fault_at 18 1 0) []
    ∷ quiet directory_link_to_map check 2 (fault_at 18 1 255) []
    ∷ quiet directory_link_track19 check 2 (fault_at 18 1 255) []
    ∷ quiet link_to_map check 3 (fault_at 19 0 0) []
    ∷ quiet link_to_itself check 3 (fault_at 19 1 0) []
    ∷ quiet chains_meet check 3 (fault_at 18 1 1) []
    ∷ quiet directory_link_twice check 3 (fault_at 18 1 255) []
    ∷ quiet del_entry check 4 (fault_at 18 1 0) []
    ∷ quiet empty_name check 5 (fault_at 18 1 0) []
    ∷ quiet shared_name check 6 (fault_at 18 1 1) []
    ∷ quiet count_of_three check 7 (fault_at 18 1 0) []
    ∷ quiet map_count_wrong check 8 (fault_at 19 255 255) []
    ∷ quiet map_bit_wrong check 8 (fault_at 19 1 255) []
    ∷ quiet bit_past_the_last check 0 (report 0 0) []
    ∷ quiet bit_past_counted check 8 (fault_at 18 255 255) []
    ∷ quiet far_link_twice check 3 (fault_at 18 2 255) []
    ∷ quiet far_link_off check 2 (fault_at 18 2 255) []
    ∷ quiet far_type check 4 (fault_at 18 2 8) []
    ∷ quiet far_name check 5 (fault_at 18 2 8) []
    ∷ quiet far_shared_name check 6 (fault_at 18 2 8) []
    ∷ quiet far_first_link_off check 2 (fault_at 18 2 8) []
    ∷ quiet far_meets check 3 (fault_at 18 2 8) []
    ∷ quiet far_count check 7 (fault_at 18 2 8) []
    ∷ []

-- reads that are done, with every byte of the output
unfoldable pub read_rows : List CallRow
read_rows =
    quiet map_link_elsewhere (read name_a (zeros 302)) 0 (0 ∷ 0 ∷ 255 ∷ 44 ∷ 1 ∷ 0 ∷ 0 ∷ 2 ∷ 0 ∷ []) (sent ++ zeros 2)
    ∷ quiet version42 (read name_a (zeros 302)) 0 (0 ∷ 0 ∷ 255 ∷ 44 ∷ 1 ∷ 0 ∷ 0 ∷ 2 ∷ 0 ∷ []) (sent ++ zeros 2)
    ∷ quiet two_files (read name_b (replicate 12 7)) 0 (report 10 1) (range 1 10 ++ (7 ∷ 7 ∷ []))
    ∷ []

-- format, store and scratch that are done, with what they report, and the bytes of a directory that grows
unfoldable pub write_rows : List CallRow
write_rows =
    writes zero_bytes (format name_d 0x30 0x31) 0 (report 0 0)
    ∷ writes fresh_disk (store name_a 1 []) 0 (report 0 1)
    ∷ writes fresh_disk (store name_a 1 (zeros 255)) 0 (report 255 2)
    ∷ writes two_files (scratch name_b) 0 (report 10 1)
    ∷ writes eight_files (store name_a 2 sent) 0 (0 ∷ 0 ∷ 255 ∷ 44 ∷ 1 ∷ 0 ∷ 0 ∷ 2 ∷ 0 ∷ [])
    ∷ holds_at nine_files 1 0 (18 ∷ 2 ∷ 0x81 ∷ 19 ∷ 0 ∷ [])
    ∷ holds_at nine_files 2 0 (0 ∷ 255 ∷ 0x82 ∷ 19 ∷ 8 ∷ (name_a ++ (replicate 15 0xA0 ++ (zeros 9 ++ (2 ∷ 0 ∷ zeros 224)))))
    ∷ holds_at nine_files 0 0x48 (zeros 8)
    ∷ holds_at nine_files 11 0 (19 ∷ 9 ∷ 1 ∷ 2 ∷ [])
    ∷ []

-- tell: a position, and all zero if refused
unfoldable pub tell_rows : List CallRow
tell_rows =
    told far_file 1 (0 ∷ 0 ∷ 0 ∷ 255 ∷ 0x81 ∷ (name_b ++ (replicate 15 0xA0 ++ (19 ∷ 2 ∷ 1 ∷ 10 ∷ []))))
    ∷ told two_files 2 (13 ∷ 0 ∷ 0 ∷ 255 ∷ zeros 21)
    ∷ told del_entry 0 (4 ∷ 18 ∷ 1 ∷ 0 ∷ zeros 21)
    ∷ []

-- ---- the listing program

-- the text of n bytes $A0, which is n times A0
abbrev pub text_a0 : ℕ → Bytes
text_a0 n = join (replicate n (0x41 ∷ 0x30 ∷ []))

-- the first line of the disk D: 44, fifteen times A0, 3031, LF
abbrev pub head_of_d : Bytes
head_of_d = 0x34 ∷ 0x34 ∷ (text_a0 15 ++ (0x33 ∷ 0x30 ∷ 0x33 ∷ 0x31 ∷ 0x0A ∷ []))

-- the line of A: 82130041, fifteen times A0, 0200, LF
abbrev pub line_of_a : Bytes
line_of_a = 0x38 ∷ 0x32 ∷ 0x31 ∷ 0x33 ∷ 0x30 ∷ 0x30 ∷ 0x34 ∷ 0x31 ∷ (text_a0 15 ++ (0x30 ∷ 0x32 ∷ 0x30 ∷ 0x30 ∷ 0x0A ∷ []))

-- the line of B: 81130242, fifteen times A0, 0100, LF
abbrev pub line_of_b : Bytes
line_of_b = 0x38 ∷ 0x31 ∷ 0x31 ∷ 0x33 ∷ 0x30 ∷ 0x32 ∷ 0x34 ∷ 0x32 ∷ (text_a0 15 ++ (0x30 ∷ 0x31 ∷ 0x30 ∷ 0x30 ∷ 0x0A ∷ []))

-- a first line without padding: 4142434445464748494A4B4C4D4E4F503031, LF
abbrev pub head_of16 : Bytes
head_of16 =
    0x34 ∷ 0x31 ∷ 0x34 ∷ 0x32 ∷ 0x34 ∷ 0x33 ∷ 0x34 ∷ 0x34 ∷ 0x34 ∷ 0x35 ∷ 0x34 ∷ 0x36 ∷ 0x34 ∷ 0x37 ∷ 0x34 ∷ 0x38
    ∷ 0x34 ∷ 0x39 ∷ 0x34 ∷ 0x41 ∷ 0x34 ∷ 0x42 ∷ 0x34 ∷ 0x43 ∷ 0x34 ∷ 0x44 ∷ 0x34 ∷ 0x45 ∷ 0x34 ∷ 0x46 ∷ 0x35 ∷ 0x30
    ∷ 0x33 ∷ 0x30 ∷ 0x33 ∷ 0x31 ∷ 0x0A ∷ []

-- the line of the file of `odd_entry`: C2FFFE, 0112233445566778899AABBCCDDEEFF0, 9802, LF
abbrev pub line_of_odd : Bytes
line_of_odd =
    0x43 ∷ 0x32 ∷ 0x46 ∷ 0x46 ∷ 0x46 ∷ 0x45
    ∷ 0x30 ∷ 0x31 ∷ 0x31 ∷ 0x32 ∷ 0x32 ∷ 0x33 ∷ 0x33 ∷ 0x34 ∷ 0x34 ∷ 0x35 ∷ 0x35 ∷ 0x36 ∷ 0x36 ∷ 0x37 ∷ 0x37 ∷ 0x38
    ∷ 0x38 ∷ 0x39 ∷ 0x39 ∷ 0x41 ∷ 0x41 ∷ 0x42 ∷ 0x42 ∷ 0x43 ∷ 0x43 ∷ 0x44 ∷ 0x44 ∷ 0x45 ∷ 0x45 ∷ 0x46 ∷ 0x46 ∷ 0x30
    ∷ 0x39 ∷ 0x38 ∷ 0x30 ∷ 0x32 ∷ 0x0A ∷ []

-- what the listing program writes: every byte of its frames as it stands, count bytes too, and refusals in two digits
unfoldable pub sleeve_rows : List CallRow
sleeve_rows =
    sleeve one_file (head_of_d ++ (line_of_a ++ (0x30 ∷ 0x30 ∷ 0x30 ∷ 0x38 ∷ 0x0A ∷ [])))
    ∷ sleeve far_file (head_of_d ++ (line_of_a ++ (line_of_b ++ (0x30 ∷ 0x30 ∷ 0x30 ∷ 0x37 ∷ 0x0A ∷ []))))
    ∷ sleeve counts_of255 (head_of_d ++ (line_of_a ++ (0x30 ∷ 0x32 ∷ 0x30 ∷ 0x36 ∷ 0x0A ∷ [])))
    ∷ sleeve odd_entry (head_of16 ++ (line_of_odd ++ (0x30 ∷ 0x30 ∷ 0x30 ∷ 0x38 ∷ 0x0A ∷ [])))
    ∷ sleeve one_byte_short (0x30 ∷ 0x31 ∷ 0x0A ∷ [])
    ∷ sleeve far_type (0x30 ∷ 0x34 ∷ 0x0A ∷ [])
    ∷ sleeve directory_link_twice (0x30 ∷ 0x33 ∷ 0x0A ∷ [])
    ∷ []
