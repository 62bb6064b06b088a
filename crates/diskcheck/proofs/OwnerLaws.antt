-- What the owner table of a checked image says: its entry for a sector is an owner's number exactly where that owner owns the sector. It is the table that
-- steps 3 and 4 of the check leave (the contract of `check_owners`).
use Prim.Native.Nat.{ℕ, ◌*◌}
use mathlib.Core.Path.{◌≡◌, sym, ap, ◌∙◌}
use mathlib.Core.Logic.{◌↔◌}
use lib.ListN.{length, get_or}
use lib.Dec.{eqb}
use Rattle.d64spec.specs.Lists.{Bytes}
use Rattle.d64spec.specs.Answers.{wrong_size, done}
use Rattle.d64spec.specs.Geometry.{Geometry, total}
use Rattle.d64spec.specs.Layouts.{Known}
use Rattle.d64spec.specs.Image.{disk}
use Rattle.d64spec.specs.Directory.{directory_sectors}
use Rattle.d64spec.specs.Owner.{Owner, Owns}
use Rattle.d64spec.specs.Check.{DirectoryContents, check_directory, check_disk, check_image, right_size}
use Rattle.d64spec.proofs.ResultLaws.{need-done, bind_done}
use Rattle.d64spec.proofs.FirstFault.{directory-walked}
use Rattle.owners.specs.OwnerTable.{owner_number, OwnerOf}
use Rattle.owners.proofs.OwnerNumberLaws.{table-names-owner}
use Rattle.diskcheck.specs.declared.Checked.{Checked}
use Rattle.diskcheck.specs.SlotChecks.{Tables}
use Rattle.diskcheck.specs.ImageChecks.{IsChecked, rest_step, tables_before}
use Rattle.diskcheck.proofs.CheckedLaws.{fine-image}
use Rattle.diskcheck.proofs.ImageLaws.{owners-left}

-- the directory of an image that is checked
walked : (g : Geometry) → Known g → (img : Bytes) (c : DirectoryContents) → check_image g img ≡ done c
    → check_directory g (disk img) ≡ done (directory_sectors g (disk img))
unfolding check_image right_size check_disk
walked g kn img c e =
    let h = need-done (eqb (length img) (256 * total g)) wrong_size _ c e in
    let w = bind_done (check_directory g (disk img)) _ c h.1 in
    w.1 ∙ ap done (directory-walked g kn.valid (disk img) w.0 w.1)

-- THE TABLE OF A CHECKED IMAGE SAYS WHO OWNS EACH SECTOR
pub checked-owner : (g : Geometry) (kn : Known g) {img : Bytes} {r : Checked} → IsChecked g img r
    → (t : Tables) → rest_step g img (tables_before g r.sectors r.count) r.sectors r.count ≡ done t
    → (n : ℕ) (o : Owner) → OwnerOf g (disk img) o → (get_or t.owners n 0 ≡ owner_number o) ↔ Owns g (disk img) o n
checked-owner g kn {img} {r} checked t left n o m =
    let f = fine-image g kn checked in
    rw (owners-left g kn img r.sectors r.count _ t f.accepted.size checked.inside f.whole
    (walked g kn img _ f.contents ∙ ap done (sym f.sectors)) f.contents left)
    (table-names-owner g kn.valid (disk img) f.accepted.content n o m)
