-- What a call gives on a checked image (01, Read; Tell), by the slot that the search for its file finds.
-- In order: a checked image; a file in its slot; the file of a name; the file at a position.
use Rattle.std.specs.Prelude.{Option, Some, None}
use Prim.Native.Nat.{ℕ, ◌*◌, ◌<◌}
use mathlib.Core.Path.{◌≡◌, sym, ap, ap₂, ◌∙◌}
use mathlib.Core.Bool.{true}
use mathlib.Core.List.{List, Memᴰ}
use lib.ListN.{length, drop, get_or}
use Rattle.d64spec.specs.Lists.{Bytes, byte, equal}
use Rattle.d64spec.specs.Answers.{not_found, refused, done, first}
use Rattle.d64spec.specs.Geometry.{Geometry}
use Rattle.d64spec.specs.Layouts.{Known}
use Rattle.d64spec.specs.Image.{disk}
use Rattle.d64spec.specs.Directory.{File, name_of, file_of, files}
use Rattle.d64spec.specs.Accepted.{ValidEntry}
use Rattle.d64spec.specs.Listing.{bytes_of_track18}
use Rattle.d64spec.specs.Reply.{valid_name_argument, files_named}
use Rattle.d64spec.specs.Read.{call_read, call_tell}
use Rattle.d64spec.proofs.ReadLaws.{first-kept}
use Rattle.directory.specs.Directories.{IsSlot, found}
use Rattle.directory.proofs.EntryLaws.{number_at}
use Rattle.diskcheck.specs.declared.Checked.{Checked}
use Rattle.diskcheck.specs.SlotChecks.{image_slot, LentSlot}
use Rattle.diskcheck.specs.ImageChecks.{IsChecked}
use Rattle.diskcheck.proofs.TrackLaws.{slot_lent}
use Rattle.diskcheck.proofs.CheckedLaws.{fine-image, file-end}
use Rattle.finding.specs.FileSlots.{slot_named, slot_placed, CheckedSlots}
use Rattle.finding.proofs.FindLaws.{file_found}
use Rattle.finding.proofs.CheckedSlotLaws.{lent_track18, checked-slots, by_name, by-position}
use Rattle.reading.specs.FileSlots.{first_of, FileEntry, CheckedFiles}
use Rattle.reading.specs.Replies.{read_from, told_of}
use Rattle.reading.proofs.FileLaws.{first-drop, sectors-of, entry_of}
use Rattle.reading.proofs.ReplyLaws.{read_none, read_some, tell_none, tell_some}

-- A CHECKED IMAGE without a fault, its slots and its files' ends
pub checked-files : (g : Geometry) (kn : Known g) {img : Bytes} {c : Checked} → IsChecked g img c → CheckedFiles g img c
checked-files g kn checked = record { slots = checked-slots g kn checked; ends = (fine-image g kn checked).ends }

-- a file lies in slot k, whose bytes are p; the table of ends has its last byte
abbrev pub FileIn : Geometry → Bytes → List ℕ → ℕ → Bytes → Type 0
FileIn g img es k p = (last : ℕ) → last ≡ get_or es k 0 → FileEntry g img p last

-- track 18 is lent as t
module _ (g : Geometry) (kn : Known g) {img : Bytes} {c : Checked} (there : CheckedFiles g img c) {t : Bytes} (lent : t ≡ lent_track18 img) where
  abbrev slots : CheckedSlots g img c.sectors (8 * c.count)
  slots = there.slots

  abbrev file_at : ℕ → File
  file_at k = file_of g (disk img) (image_slot g img c.sectors k)

  slot-is : {k : ℕ} {p : Bytes} → IsSlot t c.sectors k p → LentSlot g img c.sectors k p
  slot-is s = slot_lent g kn {img = img} slots.size slots.inside (rw lent at s)

  file-in : {k : ℕ} {p : Bytes} → ((i : ℕ) → byte img i < 256) → LentSlot g img c.sectors k p → Memᴰ (file_at k) (files g (disk img))
      → FileIn g img c.ends k p
  unfolding file_of
  file-in {k} small l held =
      let at : (image_slot g img c.sectors k).number ≡ k = number_at (bytes_of_track18 g img) c.sectors k in
      let noted = ap₂ (λ (z : List ℕ) (i : ℕ). get_or z i 0) there.ends (sym at) ∙ file-end g kn img slots.accepted (file_at k) held in
      λ last e. rw l.is (entry_of g kn img slots.accepted (image_slot g img c.sectors k) held small (sym (ap length l.is) ∙ l.full) (e ∙ noted))

  -- ---- the file of a name

  module _ (name : Bytes) (asked : valid_name_argument name ≡ true) {o : Option ℕ} (is : o ≡ found (8 * c.count) (slot_named t c.sectors name 0 (8 * c.count))) where
    by : first not_found (files_named name (files g (disk img))) ≡ file_found g img c.sectors o
    by = by_name g kn slots name asked (is ∙ ap (λ (b : Bytes). found (8 * c.count) (slot_named b c.sectors name 0 (8 * c.count))) lent)

    pub none_named : (out : Bytes) → o ≡ None → call_read g img name out ≡ refused not_found
    none_named out e = read_none g img name out slots.size asked slots.contents (by ∙ ap (file_found g img c.sectors) e)

    -- the slot found, and the chain that is read
    pub some-named : (out : Bytes) {k : ℕ} {p : Bytes} → ((i : ℕ) → byte img i < 256) → o ≡ Some k → IsSlot t c.sectors k p
        → FileIn g img c.ends k p × (call_read g img name out ≡ read_from g img out (first_of p))
    unfolding files_named
    some-named out {k} small e s =
        let l = slot-is s in
        let named = by ∙ ap (file_found g img c.sectors) e in
        let entries = slots.accepted.content.entry in
        let held = (first-kept (λ f. equal name (name_of f.slot.bytes)) (ValidEntry g (disk img)) not_found _ (file_at k) entries named).element in
        let chain = sectors-of g kn img slots.accepted (image_slot g img c.sectors k) held in
        (file-in small l held, rw l.is (read_some g img name out slots.size asked slots.contents (first_of (image_slot g img c.sectors k).bytes) named chain))

  -- ---- the file at a position

  module _ (position : ℕ) {o : Option ℕ} (is : o ≡ found (8 * c.count) (slot_placed t c.sectors position 0 (8 * c.count))) where
    at : first not_found (drop position (files g (disk img))) ≡ file_found g img c.sectors o
    at = by-position g kn slots position (is ∙ ap (λ (b : Bytes). found (8 * c.count) (slot_placed b c.sectors position 0 (8 * c.count))) lent)

    pub none-placed : o ≡ None → call_tell g img position ≡ refused not_found
    none-placed e = tell_none g img position slots.contents (at ∙ ap (file_found g img c.sectors) e)

    pub some-placed : {k : ℕ} {p : Bytes} → ((i : ℕ) → byte img i < 256) → o ≡ Some k → IsSlot t c.sectors k p
        → FileIn g img c.ends k p × (call_tell g img position ≡ done (told_of g img p))
    unfolding file_of
    some-placed {k} small e s =
        let l = slot-is s in
        let placed = at ∙ ap (file_found g img c.sectors) e in
        let held = first-drop not_found position (files g (disk img)) (file_at k) placed in
        let chain = sectors-of g kn img slots.accepted (image_slot g img c.sectors k) held in
        (file-in small l held, rw l.is (tell_some g img position slots.contents placed chain))
