-- The entry, and its place in the directory (01, Store).
-- In order: the entry's bytes; the directory grown by a sector; the entry at its place; the place of the definitions.
use Prim.Native.Nat.{ℕ, ◌+◌, ◌*◌, ◌/◌, ◌%◌, ◌≤◌, ◌<◌}
use native.Mathlib.Omega.{arith}
use mathlib.Core.Path.{◌≡◌, sym, ap, ap₂, ◌∙◌}
use mathlib.Core.Bool.{Bool, true, false, cond}
use mathlib.Core.Logic.{◌⊎◌, inl, inr}
use mathlib.Core.List.{[], ◌∷◌, ◌++◌, append-nil, append_assoc}
use lib.ListN.{length, take, drop, length-append, length-replicate}
use lib.Seq.{take_all, take_at, drop_at}
use Rattle.d64spec.specs.Lists.{Bytes, splice, zeros}
use Rattle.d64spec.specs.Answers.{Address, address}
use Rattle.d64spec.specs.Geometry.{Geometry, sector_number, directory_start}
use Rattle.d64spec.specs.Layouts.{Known}
use Rattle.d64spec.specs.Image.{Disk, disk, put}
use Rattle.d64spec.specs.Directory.{directory_sectors, padded}
use Rattle.d64spec.specs.Format.{empty_directory_sector}
use Rattle.d64spec.specs.Store.{SlotPlace, in_empty_slot, in_new_sector, new_entry, overwrite_slot, last_of, grow_directory, write_slot}
use Rattle.d64spec.proofs.FormatLaws.{padded-length}
use Rattle.d64spec.proofs.ImageLaws.{put_other}
use Rattle.sectors.specs.Sectors.{with_sector, overwritten_in}
use Rattle.sectors.proofs.SectorLaws.{disk-with_sector, length-with_sector, disk-overwritten_in, length-overwritten_in}
use Rattle.storing.specs.declared.room.EntryPlace.{EntryPlace}
use Rattle.storing.specs.Plans.{PlaceIs}
use Rattle.storing.specs.Writes.{grown_disk, entry_disk, GrowReady, Grown, EntryReady, EntryLaid}
use Rattle.directory.proofs.Track18Laws.{number-18}

-- ---- the entry's bytes

-- two bytes copied behind 16 and nine
entry-tail : (p q : Bytes) → length p ≡ 16 → take 25 (p ++ zeros 11) ++ (q ++ drop 2 (drop 25 (p ++ zeros 11))) ≡ p ++ (zeros 9 ++ q)
entry-tail p q h =
    let whole : p ++ zeros 11 ≡ (p ++ zeros 9) ++ (0 ∷ 0 ∷ []) = sym (append_assoc p (zeros 9) (0 ∷ 0 ∷ [])) in
    let size : length (p ++ zeros 9) ≡ 25 = omega (arith, length-append p (zeros 9)) in
    let front : take 25 (p ++ zeros 11) ≡ p ++ zeros 9 = ap (take 25) whole ∙ take_at (p ++ zeros 9) (0 ∷ 0 ∷ []) 25 size in
    let back : drop 25 (p ++ zeros 11) ≡ 0 ∷ 0 ∷ [] = ap (drop 25) whole ∙ drop_at (p ++ zeros 9) (0 ∷ 0 ∷ []) 25 size in
    ap₂ (λ (x y : Bytes). x ++ (q ++ drop 2 y)) front back ∙ ap (λ (x : Bytes). p ++ zeros 9 ++ x) (append-nil q) ∙ append_assoc p (zeros 9) q

-- the name copied over the 16 bytes lent for it, and the count over the last two
pub entry-made : (name : Bytes) {kind n : ℕ} (r : Address) (k : ℕ) {f p q : Bytes} {m : ℕ} → length name ≤ 16 → k < 65536 → n ≡ kind
    → f ≡ take 16 (padded name) → p ≡ f → q ≡ m % 256 ∷ m / 256 % 256 ∷ [] → m ≡ k
    → (0x80 + n) ∷ r.track ∷ r.sector ∷ (take 25 (p ++ zeros 11) ++ (q ++ drop 2 (drop 25 (p ++ zeros 11)))) ≡ new_entry name kind r k
unfolding new_entry
entry-made name {kind} r k {f} {p} {q} h few number e c bytes same =
    let is : p ≡ padded name = c ∙ e ∙ take_all 16 (padded name) (omega (arith, padded-length name h)) in
    let high : k / 256 % 256 ≡ k / 256 = omega arith in
    let count : q ≡ k % 256 ∷ k / 256 % 256 ∷ [] = bytes ∙ ap (λ (x : ℕ). x % 256 ∷ x / 256 % 256 ∷ []) same in
    let last : q ≡ k % 256 ∷ k / 256 ∷ [] = count ∙ ap (λ (x : ℕ). k % 256 ∷ x ∷ []) high in
    ap₂ (λ (x : ℕ) (l : Bytes). (0x80 + x) ∷ r.track ∷ r.sector ∷ l) number
    (entry-tail p q (ap length is ∙ padded-length name h) ∙ ap₂ (λ (x y : Bytes). x ++ (zeros 9 ++ y)) is last)

-- ---- the directory grown

module _ (g : Geometry) (kn : Known g) {img : Bytes} {last s : ℕ} (r : GrowReady g img last s) where
  pub directory-grown : {e img' img'' : Bytes} → e ≡ empty_directory_sector → img' ≡ with_sector img (357 + s) e → {k i : ℕ}
      → img'' ≡ overwritten_in img' k i (18 ∷ s ∷ []) → k ≡ 357 + last → i ≡ 0
      → Grown g img last s img''
  unfolding grown_disk
  directory-grown {e} {img'} {img''} empty new {k} {i} linked holder start =
      let size = r.size in
      let past = kn.past18 in
      let low = r.last_inside in
      let high = r.sector_inside in
      let full : length e ≡ 256 = ap length empty ∙ ap (λ (n : ℕ). 2 + n) (length-replicate {A = ℕ} 254 0) in
      let kept : length img' ≡ length img = ap length new ∙ length-with_sector img (357 + s) e in
      let first : disk img' ≡ put (disk img) (357 + s) empty_directory_sector
      = ap disk new ∙ disk-with_sector img (357 + s) e (omega arith) full ∙ ap (put (disk img) (357 + s)) empty in
      let apart : 357 + last ≡ 357 + s → ⊥ = λ z. r.other (omega arith) in
      let old : disk img' (357 + last) ≡ disk img (357 + last)
      = ap (λ (d : Disk). d (357 + last)) first ∙ put_other (disk img) (357 + s) empty_directory_sector (357 + last) apart in
      record {
        size = ap length linked ∙ length-overwritten_in img' k i (18 ∷ s ∷ []) ∙ kept;
        laid = ap disk linked ∙ ap₂ (λ (m j : ℕ). disk (overwritten_in img' m j (18 ∷ s ∷ []))) holder start
            ∙ disk-overwritten_in img' (357 + last) 0 (18 ∷ s ∷ []) (omega arith) (omega arith)
            ∙ ap₂ (λ (d : Disk) (b : Bytes). put d (357 + last) (splice b 0 (18 ∷ s ∷ []))) first old
            ∙ ap₂ (λ (n m : ℕ). put (put (disk img) n empty_directory_sector) m (splice (disk img m) 0 (18 ∷ s ∷ []))) (sym (number-18 g kn s))
            (sym (number-18 g kn last));
      }

-- ---- the entry at its place

module _ (g : Geometry) (kn : Known g) {img e : Bytes} {p : EntryPlace} {last : ℕ} (r : EntryReady g img e p last) where
  -- what the code does before it writes the entry
  abbrev pub Before : Bytes → Type 0
  Before img' = ((p.grown ≡ true) × (x : Bytes) × Grown g img last p.sector x × (img' ≡ x)) ⊎ ((p.grown ≡ false) × (img' ≡ img))

  length_before : {img' : Bytes} → Before img' → length img' ≡ length img
  length_before (inl h) = ap length h.3 ∙ h.2.size
  length_before (inr h) = ap length h.1

  disk-before : {img' : Bytes} → Before img' → disk img' ≡ cond p.grown (grown_disk g (disk img) last p.sector) (disk img)
  disk-before (inl h) = ap disk h.3 ∙ h.2.laid ∙ ap (λ (b : Bool). cond b (grown_disk g (disk img) last p.sector) (disk img)) (sym h.0)
  disk-before (inr h) = ap disk h.1 ∙ ap (λ (b : Bool). cond b (grown_disk g (disk img) last p.sector) (disk img)) (sym h.0)

  pub entry-laid : {img' img'' : Bytes} → Before img' → {k i : ℕ} → img'' ≡ overwritten_in img' k i e → k ≡ 357 + p.sector → i ≡ 32 * p.index + 2
      → EntryLaid g img e p last img''
  unfolding entry_disk overwrite_slot
  entry-laid {img'} {img''} b {k} {i} w holder start =
      let kept : length img' ≡ length img = length_before b in
      record {
        size = ap length w ∙ length-overwritten_in img' k i e ∙ kept;
        laid = ap disk w ∙ ap₂ (λ (m j : ℕ). disk (overwritten_in img' m j e)) holder start
            ∙ disk-overwritten_in img' (357 + p.sector) (32 * p.index + 2) e (omega (arith, r.size, r.sector_inside, kn.past18))
            (omega (arith, r.whole, r.index_inside))
            ∙ ap₂ (λ (d : Disk) (n : ℕ). put d n (splice (d n) (32 * p.index + 2) e)) (disk-before b) (sym (number-18 g kn p.sector));
      }

-- ---- the place of the definitions

-- an entry written at the place that the code's struct names is written where the definitions write it
pub write_slot-place : (g : Geometry) (d : Disk) (place : SlotPlace) (p : EntryPlace) (last : ℕ) (e : Bytes) → PlaceIs place p
    → address 18 last ≡ last_of directory_start (directory_sectors g d)
    → entry_disk g d e p last ≡ write_slot g d place e
unfolding entry_disk write_slot grow_directory grown_disk
write_slot-place g d (in_empty_slot s) p last e (grown, holder, index) l =
    ap (λ (b : Bool). overwrite_slot g (address 18 p.sector) p.index e (cond b (grown_disk g d last p.sector) d)) grown
    ∙ ap₂ (λ (x : Address) (j : ℕ). overwrite_slot g x j e d) (sym holder) (sym index)
write_slot-place g d (in_new_sector x) p last e (grown, holder, index) l =
    ap₂ (λ (b : Bool) (j : ℕ). overwrite_slot g (address 18 p.sector) j e (cond b (grown_disk g d last p.sector) d)) grown index
    ∙ ap (λ (q : Address). overwrite_slot g (address 18 p.sector) 0 e
    (put (put d (sector_number g (address 18 p.sector)) empty_directory_sector) (sector_number g q) (splice (d (sector_number g q)) 0 (18 ∷ p.sector ∷ [])))) l
    ∙ ap (λ (y : Address). overwrite_slot g y 0 e (grow_directory g d y)) (sym holder)
