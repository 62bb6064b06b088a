-- What a call may rely on once an image is checked (01, Order of the check; What demand 3 compares).
-- In order: an image without a fault, `fine-image`; where its files end, `file-end`.
use Prim.Native.Nat.{ℕ, ◌+◌, ◌-◌, ◌*◌, ◌≤◌, ◌<◌}
use native.Mathlib.Omega.{arith}
use mathlib.Core.Path.{◌≡◌, refl, sym, ap, ◌∙◌}
use mathlib.Core.List.{Memᴰ}
use lib.ListN.{length, get_or, get_or-replicate}
use lib.Dec.{eqb}
use borrow.Author.Tests.{eqb-true}
use Rattle.d64spec.specs.Lists.{Bytes, byte, zeros}
use Rattle.d64spec.specs.Answers.{wrong_size, Result, refused, done}
use Rattle.d64spec.specs.Geometry.{Geometry, total}
use Rattle.d64spec.specs.Layouts.{Known}
use Rattle.d64spec.specs.Image.{disk}
use Rattle.d64spec.specs.Chain.{chain_data}
use Rattle.d64spec.specs.Directory.{File, directory_sectors, occupied_in, files, first_link}
use Rattle.d64spec.specs.Directory as directory
use Rattle.d64spec.specs.Check.{DirectoryContents, check_image, right_size}
use Rattle.d64spec.specs.Owner.{the_file}
use Rattle.d64spec.specs.Accepted.{Accepted, ValidEntry}
use Rattle.d64spec.specs.Facts.{last_used}
use Rattle.d64spec.proofs.ResultLaws.{need-done, done_inj, refused≢done}
use Rattle.d64spec.proofs.CheckLaws.{contents, disk-sound}
use Rattle.d64spec.proofs.SplitLaws.{all-mem}
use Rattle.d64spec.proofs.ReadTheorem.{file-length}
use Rattle.owners.proofs.OwnerNumberLaws.{file-of-slot, owner_number-le}
use Rattle.directory.specs.Directories.{sectors_of}
use Rattle.diskcheck.specs.declared.Checked.{Checked}
use Rattle.diskcheck.specs.EndTable.{end_of, end_table}
use Rattle.diskcheck.specs.SlotChecks.{image_occupied}
use Rattle.diskcheck.specs.ImageChecks.{Found, found_in, IsChecked}
use Rattle.diskcheck.proofs.EndLaws.{last_byte_lem, get_or-with_ends-kept, get_or-with_ends-same}
use Rattle.diskcheck.proofs.TrackLaws.{sectors_of-whole, occupied-by-track18}

-- an image without a fault, and what the check hands back: its directory, its occupied slots by number, its files' ends
pub record FineImage (g : Geometry) (img : Bytes) (r : Checked) : Type 0 where
  pub accepted : Accepted g img
  pub contents : check_image g img ≡ done (record { walked = directory_sectors g (disk img); found = files g (disk img) })
  pub sectors : sectors_of r.sectors r.count ≡ directory_sectors g (disk img)
  pub whole : r.count ≤ length r.sectors
  pub occupied : directory.occupied g (disk img) ≡ image_occupied g img r.sectors 0 (8 * r.count)
  pub ends : r.ends ≡ end_table g img (files g (disk img))

-- a check that is done has met an accepted image's directory and files
image-sound : (g : Geometry) (kn : Known g) (img : Bytes) (c : DirectoryContents) → check_image g img ≡ done c
    → Accepted g img × (contents g kn.valid (disk img) ≡ c)
unfolding check_image right_size
image-sound g kn img c e =
    let h = need-done (eqb (length img) (256 * total g)) wrong_size _ c e in
    let s = disk-sound g kn.valid (disk img) c h.1 in
    (record { size = eqb-true _ _ h.0; content = s.0 }, s.1)

-- what a check that finds something has met
found-done : (g : Geometry) (img : Bytes) (x : Result DirectoryContents) (f : Found) → found_in g img x ≡ done f
    → (c : DirectoryContents) × (x ≡ done c) × (f ≡ record { directory = c.walked; ends = end_table g img c.found })
unfolding found_in
found-done g img (refused x) f e = refused≢done x f e
found-done g img (done c) f e = (c, refl, done_inj (sym e))

-- AN IMAGE WITHOUT A FAULT
pub fine-image : (g : Geometry) (kn : Known g) {img : Bytes} {r : Checked} → IsChecked g img r → FineImage g img r
unfolding directory.occupied
fine-image g kn {img} {r} checked =
    let f = found-done g img (check_image g img) _ checked.told in
    let s = image-sound g kn img f.0 f.1 in
    let sectors : sectors_of r.sectors r.count ≡ directory_sectors g (disk img)
    = ap (λ (x : Found). x.directory) f.2 ∙ ap (λ (c : DirectoryContents). c.walked) (sym s.1) in
    let whole : r.count ≤ length r.sectors = sectors_of-whole r.sectors r.count checked.count in
    record {
      accepted = s.0;
      contents = f.1 ∙ ap done (sym s.1);
      sectors = sectors;
      whole = whole;
      occupied = ap (occupied_in g (disk img)) (sym sectors) ∙ occupied-by-track18 g kn img r.sectors r.count checked.inside whole;
      ends = ap (λ (x : Found). x.ends) f.2 ∙ ap (λ (c : DirectoryContents). end_table g img c.found) (sym s.1);
    }

-- ---- where the files end

-- what a file's end says (01, Chains): a file of k sectors holds 254(k-1) + n-1 bytes, n being 1 to 255
pub record EndTells (g : Geometry) (img : Bytes) (f : File) : Type 0 where
  pub low : 1 ≤ end_of g img f.sectors
  pub high : end_of g img f.sectors ≤ 255
  pub bytes : length (chain_data g (disk img) f.sectors) ≡ 254 * (length f.sectors - 1) + end_of g img f.sectors - 1

module _ (g : Geometry) (kn : Known g) (img : Bytes) (a : Accepted g img) where
  -- slots are 0 to 143
  pub number_lt : (f : File) → Memᴰ f (files g (disk img)) → f.slot.number < 144
  number_lt f m = omega (arith, owner_number-le kn img a (the_file f) m)

  -- A FILE'S ENTRY OF THE TABLE IS ITS END
  pub file-end : (f : File) → Memᴰ f (files g (disk img))
      → get_or (end_table g img (files g (disk img))) f.slot.number 0 ≡ end_of g img f.sectors
  unfolding end_table
  file-end f m =
      get_or-with_ends-same g img f.slot.number (end_of g img f.sectors) (files g (disk img)) (zeros 144) (number_lt f m)
      (λ y k e. ap (λ (x : File). end_of g img x.sectors) (file-of-slot g (disk img) y f k m e)) m refl

  -- a slot without a file has 0
  pub no-file-end : (n : ℕ) → n < 144 → ((f : File) → Memᴰ f (files g (disk img)) → f.slot.number ≡ n → ⊥)
      → get_or (end_table g img (files g (disk img))) n 0 ≡ 0
  unfolding end_table
  no-file-end n b none =
      get_or-with_ends-kept g img n 0 (files g (disk img)) (zeros 144) b (λ f m e. absurd (none f m e)) (get_or-replicate {A = ℕ} 144 n 0 0 b)

  -- THE END GIVES THE FILE'S LENGTH, of an image of bytes
  pub end-tells : ((k : ℕ) → byte img k < 256) → (f : File) → Memᴰ f (files g (disk img)) → EndTells g img f
  unfolding first_link
  end-tells small f m =
      let l = file-length g img a small f m in
      let v = all-mem (ValidEntry g (disk img)) m a.content.entry in
      let e : last_used g (disk img) f ≡ end_of g img f.sectors = last_byte_lem g img f.slot.holder _ _ f.sectors v.chain in
      record { low = omega (arith, l.low, e); high = omega (arith, l.high, e); bytes = omega (arith, l.bytes, e) }
