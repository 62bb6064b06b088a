-- The masks before the files' chains are walked: those of the table with the directory's owners, which are on track 18 alone.
-- In order: the table filled sector by sector; sectors off track 18 have no owner; the masks.
use Prim.Native.Nat.{ℕ, zero, suc, ◌+◌, ◌-◌, ◌≤◌, ◌<◌}
use native.Mathlib.Omega.{arith}
use native.Mathlib.Decide.{ℕ_discrete}
use mathlib.Core.Path.{◌≡◌, refl, sym, ap, ap₂, ◌∙◌}
use mathlib.Core.List.{List, [], ◌∷◌, map}
use lib.ListN.{length, get_or, set, take, get_or-replicate, length-replicate}
use lib.Seq.{get_or-set_same, get_or-set_other, take_all}
use borrow.Author.Tests.{eqb-true, eq-eqb, ne_eqb}
use Rattle.d64spec.specs.Lists.{All, count, zeros}
use Rattle.d64spec.specs.Answers.{address}
use Rattle.d64spec.specs.Geometry.{Geometry, total, first_on, sectors_on, sector_number, map_address}
use Rattle.d64spec.specs.Layouts.{Known}
use Rattle.d64spec.proofs.AllocationLaws.{one-track}
use Rattle.owners.specs.OwnerTable.{directory_owner, with_owner, map_table, directory_table, free_by}
use Rattle.owners.specs.Masks.{owned_mask, Masks}
use Rattle.owners.proofs.TableLaws.{length-with_owner}
use Rattle.owners.proofs.ClaimLaws.{directory-alike, free_by-alike}
use Rattle.owners.proofs.MaskLaws.{mask-empty}
use Rattle.directory.specs.Directories.{sectors_of}
use Rattle.directory.proofs.Track18Laws.{number-18}

first-18 : (g : Geometry) → Known g → first_on g 18 ≡ 357
unfolding sector_number
first-18 g kn = omega (arith, kn.map357)

-- ---- the table filled

-- the directory's sectors of track 18 claimed, the first i of ss
abbrev pub directory_claimed : List ℕ → ℕ → List ℕ → List ℕ
directory_claimed ss i own = with_owner directory_owner (map (λ s. 357 + s) (take i ss)) own

pub length-claimed : (ss : List ℕ) (i : ℕ) (own : List ℕ) → length (directory_claimed ss i own) ≡ length own
length-claimed ss i own = length-with_owner directory_owner (map (λ s. 357 + s) (take i ss)) own

-- one sector more
pub claimed-more : {own : List ℕ} (own₀ ss : List ℕ) (i : ℕ) {n x j : ℕ} → own ≡ directory_claimed ss i own₀ → i < length ss → n ≡ 357 + get_or ss i 0
    → x ≡ 2 → j ≡ i + 1 → set own n x ≡ directory_claimed ss j own₀
claimed-more own₀ ss i so h at two next = rw (so, at, two, next) (behind ss i own₀ h)
  where
    behind : (ss : List ℕ) (i : ℕ) (own : List ℕ) → i < length ss → set (directory_claimed ss i own) (357 + get_or ss i 0) 2 ≡ directory_claimed ss (i + 1) own
    behind [] i own h = absurd (omega arith)
    behind (s ∷ ss) zero own h = refl
    behind (s ∷ ss) (suc i) own h =
        let z : suc i + 1 ≡ suc (i + 1) = omega arith in
        rw z (behind ss i (set own (357 + s) 2) (omega arith))

-- a table with no owner is long enough for track 18
pub bare-long : {g : Geometry} → Known g → {own : List ℕ} → own ≡ zeros (total g) → 376 ≤ length own
bare-long {g} kn bare = omega (arith, ap length bare, length-replicate {A = ℕ} (total g) 0, kn.past18)

module _ (g : Geometry) (kn : Known g) where
  numbers-same : (l : List ℕ) → map (λ s. 357 + s) l ≡ map (sector_number g) (map (λ s. address 18 s) l)
  numbers-same [] = refl
  numbers-same (s ∷ l) = ap₂ (λ (x : ℕ) (m : List ℕ). x ∷ m) (sym (number-18 g kn s)) (numbers-same l)

  -- THE TABLE BEFORE THE FILES: 18/0, then all of the directory's sectors
  pub claimed-all : {own own₀ own' : List ℕ} (ss : List ℕ) (i : ℕ) → own ≡ zeros (total g) → own₀ ≡ set own 357 1 → own' ≡ directory_claimed ss i own₀
      → length ss ≤ i → own' ≡ directory_table g (map (λ s. address 18 s) ss)
  unfolding directory_table map_table
  claimed-all ss i bare map_first so all =
      so ∙ rw (take_all i ss all, map_first, bare, kn.map357)
      (ap (λ (l : List ℕ). with_owner 2 l (set (zeros (total g)) 357 1)) (numbers-same ss))

-- ---- sectors off track 18

-- a number that is not one of track 18's sectors is none of these
count-off : (l : List ℕ) (k : ℕ) → All (λ x. (357 ≤ x) × (x < 376)) l → (357 ≤ k → k < 376 → ⊥) → count k l ≡ 0
count-off [] k on off = refl
count-off (x ∷ l) k on off =
    rw (ne_eqb k x (λ e. off (omega (arith, on.0.0, e)) (omega (arith, on.0.1, e)))) (omega (arith, count-off l k on.1 off))

module _ (g : Geometry) (kn : Known g) where
  -- the directory's sectors are track 18's
  numbers-18 : (ss : List ℕ) (n : ℕ) → All (λ s. s < 19) ss → All (λ x. (357 ≤ x) × (x < 376)) (map (sector_number g) (sectors_of ss n))
  numbers-18 ss zero inside = tt
  numbers-18 [] (suc n) inside = tt
  numbers-18 (s ∷ ss) (suc n) inside =
      ((omega (arith, number-18 g kn s), omega (arith, number-18 g kn s, inside.0)), numbers-18 ss n inside.1)

  -- all on the disk
  numbers_on : (l : List ℕ) → All (λ x. (357 ≤ x) × (x < 376)) l → All (λ x. x < total g) l
  numbers_on [] on = tt
  numbers_on (x ∷ l) on = (omega (arith, on.0.1, kn.past18), numbers_on l on.1)

  module _ (ss : List ℕ) (n : ℕ) (inside : All (λ s. s < 19) ss) where
    abbrev own : List ℕ
    own = directory_table g (sectors_of ss n)

    -- nobody owns a sector of another track
    off-18 : (t s : ℕ) → (t ≡ 18 → ⊥) → s < sectors_on g t → get_or own (first_on g t + s) 0 ≡ 0
    unfolding free_by sector_number
    off-18 t s other h =
        let l : List ℕ = sector_number g map_address ∷ map (sector_number g) (sectors_of ss n) in
        let on : All (λ x. (357 ≤ x) × (x < 376)) (map (sector_number g) (sectors_of ss n)) = numbers-18 ss n inside in
        let all : All (λ x. (357 ≤ x) × (x < 376)) l = ((omega (arith, number-18 g kn 0), omega (arith, number-18 g kn 0)), on) in
        let low : sector_number g map_address < total g = omega (arith, kn.map357, kn.past18) in
        eqb-true _ 0
        (free_by-alike g l own (directory-alike g low (sectors_of ss n) (numbers_on (map (sector_number g) (sectors_of ss n)) on)) (address t s)
        ∙ eq-eqb _ 0 (count-off l (first_on g t + s) all (λ a b. other (one-track g t 18 (first_on g t + s)
        (record { low = omega arith; high = omega arith }) (record { low = omega (arith, first-18 g kn); high = omega (arith, first-18 g kn, kn.on18) })))))

    -- THE MASKS BEFORE THE FILES: track 18's, and 0 for each other track
    pub masks-directory : {mask : ℕ} → mask ≡ owned_mask own (first_on g 18) 19 → Masks g own (set (zeros 40) 17 mask)
    masks-directory {mask} is = record {
      size = refl;
      mask = λ t a b. elim (ℕ_discrete t 18) [
        | yes e ↦ rw e (get_or-set_same (zeros 40) 17 mask 0 (omega arith) ∙ is ∙ ap (λ (k : ℕ). owned_mask own (first_on g 18) k) (sym kn.on18))
        | no e ↦ get_or-set_other (zeros 40) 17 (t - 1) mask 0 (λ z. e (omega arith)) ∙ get_or-replicate {A = ℕ} 40 (t - 1) 0 0 (omega arith)
            ∙ sym (mask-empty own (first_on g t) (sectors_on g t) (λ s h. off-18 t s e h))
      ];
    }
