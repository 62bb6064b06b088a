-- The parts of the listing's text that the code writes one by one (01, Sleeve listing). The whole text is d64spec's `listing_text`.
-- In order: digits; lines of slots; the last line, and the counts in it; what the code knows of a directory that was read; the reply to its slots; the
-- program's buffer, and what it prints.
use Rattle.std.specs.Prelude.{ℕ, ◌+◌, ◌-◌, ◌*◌, ◌/◌, ◌%◌, ◌≤◌, ◌<◌, ◌≡◌, List, [], ◌∷◌, ◌++◌, map, length, leb, Result as CodeResult}
use Rattle.d64spec.specs.Lists.{Bytes, All, byte, join, range, splice, sum, zeros}
use Rattle.d64spec.specs.Answers.{Result, refused, done, answer_of, wrong_buffer, ◌>>◌, need}
use Rattle.d64spec.specs.Geometry.{Geometry}
use Rattle.d64spec.specs.Directory.{Slot}
use Rattle.d64spec.specs.Listing.{Listed, ListingReply, digit, disk_of_track18, free_total, line, list_slots, listing_reply, listing_text, refusal_line, sleeve_output, slot_frame}
use Rattle.d64spec.specs.Reply.{Reply}
use Rattle.answers.specs.Faults.{reply_of}
use Rattle.answers.specs.declared.Done.{Done}
use Rattle.answers.specs.declared.Fault.{Fault}
use Rattle.directory.specs.Directories.{first_repeated, found, occupied_from}
use Rattle.directory.specs.declared.Directory.{Directory}
use Rattle.sleeve.specs.declared.Printed.{Printed}

-- each byte as two digits: a line without its end
unfoldable pub digits_of : Bytes → Bytes
digits_of b = join (map (λ c. digit (c / 16) ∷ digit (c % 16) ∷ []) b)

-- a line for each of these slots
unfoldable pub lines_of : List Slot → Bytes
lines_of l = join (map (λ s. line (slot_frame s.bytes)) l)

-- the count bytes of n map entries behind one another from byte `at` of the map sector m on, added
unfoldable pub counts_from : Bytes → ℕ → ℕ → ℕ
counts_from m at n = sum (map (λ i. byte m (at + 4 * i)) (range 0 n))

-- the last line: the map's free sectors in two bytes, high first
unfoldable pub free_line : Geometry → Bytes → Bytes
free_line g m = line (free_total g m / 256 ∷ free_total g m % 256 ∷ [])

-- how many these slots are, where track 18 shows no fault of theirs
unfoldable pub count_slots : List Slot → Result ℕ
count_slots l = list_slots [] l >> done (length l)

-- the listing of a directory's occupied slots: their faults, the text, the room for it
unfoldable pub list_found : Geometry → Bytes → List Slot → Bytes → Result Listed
list_found g b l out = do
  list_slots [] l
  let text = listing_text g (disk_of_track18 g b) l
  need (leb (length text) (length out)) wrong_buffer
  done (record { output_after = splice out 0 text; reported_length = length text })

-- the occupied slots of a directory that was read
abbrev pub occupied_of : Bytes → Directory → List Slot
occupied_of b d = occupied_from b d.sectors 0 (8 * d.count)

-- track 18 is whole, the directory's sectors are its own, and the text has room for `more` bytes and a line for each occupied slot
pub record RoomFor (b : Bytes) (d : Directory) (text : Bytes) (more : ℕ) : Type 0 where
  pub whole : length b ≡ 4864
  pub inside : All (λ s. s < 19) d.sectors
  pub few : d.count ≤ 18
  pub size : length text ≡ more + 43 * length (occupied_of b d)

-- a directory that was read from track 18, which is whole: the first slot that repeats a name is known
pub record ReadySlots (b : Bytes) (d : Directory) : Type 0 where
  pub whole : length b ≡ 4864
  pub inside : All (λ s. s < 19) d.sectors
  pub few : d.count ≤ 18
  pub first : d.repeated ≡ found (8 * d.count) (first_repeated b d.sectors 0 (8 * d.count))

-- a listing's reply with the bytes of track 18 beside it; it visits no file's sector
abbrev pub with_track : Bytes → ListingReply → Reply
with_track b l = record {
  answer = l.answer;
  change = record { image_after = b; output_after = l.listed.output_after; reported_length = l.listed.reported_length; reported_sectors = 0 };
}

-- the reply to these slots, and the text buffer after it
pub record SlotsListed (g : Geometry) (b : Bytes) (l : List Slot) (text : Bytes) (r : CodeResult Done Fault) (text' : Bytes) : Type 0 where
  pub reply : reply_of r b text' ≡ with_track b (listing_reply text (list_found g b l text))

-- a text buffer with room for every listing (6,234 bytes always suffice)
unfoldable pub blank_text : Bytes
blank_text = zeros 6234

-- these bytes are printed: they stand at the start of the text, with zeros behind them, and it says how many they are
pub record Prints (l : Bytes) (r : Printed) : Type 0 where
  pub text : r.text ≡ l ++ zeros (6234 - length l)
  pub size : r.length ≡ length l

-- what the program writes, asked for a layout (02, §8): the listing in that layout, or one line, 17
unfoldable pub program_output : Result Geometry → Bytes → Bytes
program_output (refused f) input = refusal_line (answer_of f).number
program_output (done g) input = sleeve_output g input
