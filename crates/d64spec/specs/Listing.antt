-- The sleeve listing (01, Sleeve listing), over the 4,864 bytes of track 18 alone; and what the program behind it writes.
-- In order: track 18; the slots; the text; the call; the program.
use Rattle.std.specs.Prelude.{ℕ, ◌+◌, ◌*◌, ◌-◌, ◌/◌, ◌%◌, cond, not, List, [], ◌∷◌, ◌++◌, map, length, take, drop, eqb, leb, ltb}
use Rattle.d64spec.specs.Lists.{Bytes, byte, part, filter, range, splice, sum, join, zeros}
use Rattle.d64spec.specs.Answers.{Answer, unplaced, answer_of, wrong_size, wrong_buffer, Result, refused, done, ◌>>=◌, ◌>>◌, need}
use Rattle.d64spec.specs.Geometry.{Geometry, sector_number, map_address, sectors_on, tracks}
use Rattle.d64spec.specs.Image.{Disk, disk}
use Rattle.d64spec.specs.Directory.{Slot, name_of, from_byte0, occupied_in}
use Rattle.d64spec.specs.Check.{check_entry, check_directory, right_size}

-- track 18's sectors under their own numbers
unfoldable pub disk_of_track18 : Geometry → Bytes → Disk
disk_of_track18 g b n = disk b (n - sector_number g map_address)

-- the faults of slots that track 18 shows, slot by slot
abbrev pub list_slots : List Bytes → List Slot → Result (Unit {0})
list_slots names [] = done tt
list_slots names (s ∷ l) = do
  check_entry names s
  list_slots (name_of s.bytes ∷ names) l

-- an uppercase hexadecimal digit
unfoldable pub digit : ℕ → ℕ
digit n = cond (ltb n 10) (48 + n) (55 + n)

-- a frame in hexadecimal without blanks, ended by LF
unfoldable pub line : Bytes → Bytes
line b = join (map (λ c. digit (c / 16) ∷ digit (c % 16) ∷ []) b) ++ (10 ∷ [])

-- a file's frame: slot bytes 02-14 and 1E-1F
unfoldable pub slot_frame : Bytes → Bytes
slot_frame b = part 0x02 0x14 (from_byte0 b) ++ part 0x1E 0x1F (from_byte0 b)

-- the first frame: 18/0 bytes $90-$9F and $A2-$A3
unfoldable pub head_frame : Bytes → Bytes
head_frame m = part 0x90 0x9F m ++ part 0xA2 0xA3 m

-- the sum of the map's count bytes, as they stand, except track 18's
unfoldable pub free_total : Geometry → Bytes → ℕ
free_total g m = sum (map (λ t. byte m (g.map_at t)) (filter (λ t. not (eqb t 18)) (range 1 (tracks g))))

-- the whole listing of these slots; the sum in two bytes, high first
unfoldable pub listing_text : Geometry → Disk → List Slot → Bytes
listing_text g d ss =
    let m = d (sector_number g map_address) in
    let n = free_total g m in
    line (head_frame m)
    ++ (join (map (λ s. line (slot_frame s.bytes)) ss)
    ++ line (n / 256 ∷ n % 256 ∷ []))

-- what a listing that is done leaves and reports
pub record Listed : Type 0 where
  pub output_after : Bytes
  pub reported_length : ℕ

-- the listing: any bytes, and a text buffer
unfoldable pub call_listing : Geometry → Bytes → Bytes → Result Listed
call_listing g b out = do
  need (eqb (length b) (256 * sectors_on g 18)) wrong_size
  ds ← check_directory g (disk_of_track18 g b)
  let ss = occupied_in g (disk_of_track18 g b) ds
  list_slots [] ss
  let text = listing_text g (disk_of_track18 g b) ss
  need (leb (length text) (length out)) wrong_buffer
  done (record { output_after = splice out 0 text; reported_length = length text })

-- what the listing leaves
pub record ListingReply : Type 0 where
  pub answer : Answer
  pub listed : Listed

-- a refusal leaves the buffer and reports length 0
unfoldable pub listing_reply : Bytes → Result Listed → ListingReply
listing_reply out (refused f) = record { answer = answer_of f; listed = record { output_after = out; reported_length = 0 } }
listing_reply out (done l) = record { answer = unplaced 0; listed = l }

-- ---- the program

-- the bytes of track 18
unfoldable pub bytes_of_track18 : Geometry → Bytes → Bytes
bytes_of_track18 g img = take (256 * sectors_on g 18) (drop (256 * sector_number g map_address) img)

-- a refusal: one line of two digits
unfoldable pub refusal_line : ℕ → Bytes
refusal_line n = digit (n / 10) ∷ digit (n % 10) ∷ 10 ∷ []

-- the text of a listing, or the refusal's line
unfoldable pub listing_output : Result Listed → Bytes
listing_output (refused f) = refusal_line (answer_of f).number
listing_output (done l) = take l.reported_length l.output_after

-- what the program writes, given its standard input: 6,234 bytes of buffer always suffice (proofs/ListingLaws)
unfoldable pub sleeve_output : Geometry → Bytes → Bytes
sleeve_output g input =
    cond (right_size g input) (listing_output (call_listing g (bytes_of_track18 g input) (zeros 6234))) (refusal_line (answer_of wrong_size).number)
