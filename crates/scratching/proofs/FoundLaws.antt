-- The file that a scratch takes on a checked image (01, Scratch): whether writing is allowed, and where the search for its slot ends.
use Rattle.std.specs.Prelude.{Option, Some, None}
use Prim.Native.Nat.{ℕ, ◌*◌, ◌/◌, ◌%◌, ◌<◌}
use native.Mathlib.Omega.{arith}
use mathlib.Core.Path.{◌≡◌, sym, ap, ◌∙◌}
use mathlib.Core.Bool.{true, false}
use mathlib.Core.List.{List}
use lib.ListN.{get_or}
use Rattle.d64spec.specs.Lists.{Bytes, equal}
use Rattle.d64spec.specs.Answers.{address, not_found, write_forbidden, refused, done, first}
use Rattle.d64spec.specs.Geometry.{Geometry}
use Rattle.d64spec.specs.Layouts.{Known}
use Rattle.d64spec.specs.Image.{disk}
use Rattle.d64spec.specs.Directory.{Slot, name_of, slot_in, file_of, first_link, files}
use Rattle.d64spec.specs.Reply.{valid_name_argument, writable, files_named}
use Rattle.d64spec.specs.Scratch.{call_scratch, scratched_disk, scratch_change}
use Rattle.d64spec.specs.Accepted.{ValidEntry}
use Rattle.d64spec.proofs.ReadLaws.{first-kept}
use Rattle.d64spec.proofs.ListingTheorem.{track18-sectors}
use Rattle.directory.specs.Directories.{slot_at, found}
use Rattle.directory.proofs.SearchLaws.{sector-lt}
use Rattle.directory.proofs.Track18Laws.{number-18}
use Rattle.diskcheck.specs.declared.Checked.{Checked}
use Rattle.diskcheck.specs.SlotChecks.{image_slot}
use Rattle.finding.specs.FileSlots.{slot_named, CheckedSlots}
use Rattle.finding.proofs.FindLaws.{file_found}
use Rattle.finding.proofs.CheckedSlotLaws.{lent_track18, by_name}
use Rattle.scratching.specs.Scratches.{slot_on, file_on, FileThere, MayScratch}
use Rattle.scratching.proofs.ReplyLaws.{scratch-forbidden, scratch-none, scratch-some}

pub forbidden : (g : Geometry) {img : Bytes} {ss : List ℕ} {end : ℕ} → CheckedSlots g img ss end → (name : Bytes) → valid_name_argument name ≡ true
    → writable g (disk img) ≡ false → call_scratch g img name ≡ refused write_forbidden
forbidden g {img} there name asked denied = scratch-forbidden g img name there.size asked there.contents denied

module _ (g : Geometry) (kn : Known g) {img name : Bytes} {c : Checked} (may : MayScratch g img name c) {t : Bytes} (lent : t ≡ lent_track18 img)
    {o : Option ℕ} (is : o ≡ found (8 * c.count) (slot_named t c.sectors name 0 (8 * c.count))) where
  abbrev there : CheckedSlots g img c.sectors (8 * c.count)
  there = may.slots

  by : first not_found (files_named name (files g (disk img))) ≡ file_found g img c.sectors o
  by = by_name g kn there name may.asked (is ∙ ap (λ (b : Bytes). found (8 * c.count) (slot_named b c.sectors name 0 (8 * c.count))) lent)

  pub none_named : o ≡ None → call_scratch g img name ≡ refused not_found
  none_named e = scratch-none g img name there.size may.asked there.contents may.allowed (by ∙ ap (file_found g img c.sectors) e)

  -- where the search finds slot k
  module _ {k : ℕ} (some : o ≡ Some k) where
    -- its directory sector
    abbrev holder : ℕ
    holder = get_or c.sectors (k / 8) 0

    inside : holder < 19
    inside = sector-lt c.sectors there.inside (k / 8)

    slot_is : image_slot g img c.sectors k ≡ slot_on g img holder (8 * (k / 8)) (k % 8)
    unfolding slot_at slot_on
    slot_is =
        ap (λ (s : Bytes). slot_in s (address 18 holder) (8 * (k / 8)) (k % 8))
        (track18-sectors kn img holder inside ∙ ap (disk img) (sym (number-18 g kn holder)))

    found-file : first not_found (files_named name (files g (disk img))) ≡ done (file_on g img holder (8 * (k / 8)) (k % 8))
    unfolding file_on
    found-file = by ∙ ap (file_found g img c.sectors) some ∙ ap (λ (s : Slot). done (file_of g (disk img) s)) slot_is

    -- the file of that slot is one of the image's
    pub file-there : FileThere g img holder (k % 8)
    unfolding files_named
    file-there = record {
      accepted = there.accepted;
      inside = inside;
      place = omega arith;
      from = 8 * (k / 8);
      element =
          (first-kept (λ f. equal name (name_of f.slot.bytes)) (ValidEntry g (disk img)) not_found (files g (disk img))
          (file_on g img holder (8 * (k / 8)) (k % 8)) there.accepted.content.entry found-file).element;
    }

    -- and the one that is scratched
    pub some-named : call_scratch g img name ≡ done (scratch_change g img (file_on g img holder 0 (k % 8)))
    unfolding file_on slot_on slot_in file_of first_link scratched_disk
    some-named = scratch-some g img name there.size may.asked there.contents may.allowed (file_on g img holder (8 * (k / 8)) (k % 8)) found-file
