-- Demand 2 in its own words, both ways: an image is accepted, and a check of it answers 0, exactly when each sector has exactly one owner and the rest of
-- `DemandTwo` holds (specs/Facts). In order: a chain meets no sector twice; nor do the files; so where owners are one, claims are one; the theorems.
use Prim.Native.Nat.{ℕ, suc, ◌≤◌, ◌<◌}
use native.Mathlib.Omega.{arith}
use native.Mathlib.Decide.{dec_le}
use mathlib.Core.Path.{◌≡◌, refl, sym, ap, ◌∙◌, subst}
use mathlib.Core.Bool.{Bool, true, false}
use mathlib.Core.Logic.Iff
use mathlib.Core.Logic.{◌↔◌}
use mathlib.Core.List.{List, [], ◌∷◌, map, Memᴰ}
use lib.ListN.{length}
use lib.Dec.{eqb}
use borrow.Author.Tests.{eqb-true}
use Rattle.d64spec.specs.Lists.{All, Bytes, count, equal, indicator, name_count}
use Rattle.d64spec.specs.Answers.{Address}
use Rattle.d64spec.specs.Geometry.{Geometry, Valid, directory_start, layout35, map_address, sector_number, total, tracks}
use Rattle.d64spec.specs.Image.{Disk, disk}
use Rattle.d64spec.specs.Chain.{Chain, Link, directory_link, ends, file_link, to}
use Rattle.d64spec.specs.Directory.{File, directory_sectors, files, first_link}
use Rattle.d64spec.specs.Owner.{Among, Owner, Owns, claim_count, claim_list, file_claims, nobody, the_directory, the_file, the_map}
use Rattle.d64spec.specs.Accepted.{Accepted, ValidEntry}
use Rattle.d64spec.specs.Call.{check, perform}
use Rattle.d64spec.specs.Facts.{DemandTwo, OneOwner}
use Rattle.d64spec.proofs.SumLaws.{indicator-le}
use Rattle.d64spec.proofs.BoundLaws.{claims-on}
use Rattle.d64spec.proofs.CheckLaws.{slot_name}
use Rattle.d64spec.proofs.ListLaws.{equal-refl}
use Rattle.d64spec.proofs.ScratchLaws.{claim_count-of, of-count}
use Rattle.d64spec.proofs.NamedLaws.{name-met}
use Rattle.d64spec.proofs.LayoutLaws.{sectors35, tracks35, valid35}
use Rattle.d64spec.proofs.ExactTheorem.{check-exact}
use Rattle.d64spec.proofs.OwnerTheorem.{claimant, count-file, one-owner}

-- ---- a chain meets no sector twice

-- a link that ends a chain leads nowhere
ends≢to : {r : Address} → ◌≡◌ {A = Link} ends (to r) → ⊥
ends≢to e = let z : ◌≡◌ {A = ℕ} 0 1 = cc in omega arith

module _ (g : Geometry) (link : List ℕ → Link) (d : Disk) where
  -- a link starts one chain, so that its length is one
  chain_length : (k : Link) (l m : List Address) → Chain g link d k l → Chain g link d k m → length l ≡ length m
  chain_length k [] [] c c' = refl
  chain_length k [] (q ∷ m) c c' = absurd (ends≢to (sym c ∙ c'.0))
  chain_length k (r ∷ l) [] c c' = absurd (ends≢to (sym c' ∙ c.0))
  chain_length k (r ∷ l) (q ∷ m) c c' =
      let same : ◌≡◌ {A = Link} (to q) (to r) = sym c'.0 ∙ c.0 in
      let e : q ≡ r = cc in
      ap suc (chain_length (link (d (sector_number g r))) l m c.1 (subst (λ (x : Address). Chain g link d (link (d (sector_number g x))) m) e c'.1))

  -- behind a sector that a chain meets, a shorter chain starts with that sector's link
  behind : (n : ℕ) (k : Link) (l : List Address) → Chain g link d k l → Among g n l → (m : List Address) × Chain g link d (link (d n)) m × (length m < length l)
  behind n k [] c h = absurd (omega arith)
  behind n k (r ∷ l) c h = go (eqb n (sector_number g r)) refl (λ h'. behind n (link (d (sector_number g r))) l c.1 h')
    where
      go : (b : Bool) → eqb n (sector_number g r) ≡ b → (Among g n l → (m : List Address) × Chain g link d (link (d n)) m × (length m < length l))
          → (m : List Address) × Chain g link d (link (d n)) m × (length m < length (r ∷ l))
      go true t ih = (l, subst (λ (x : ℕ). Chain g link d (link (d x)) l) (sym (eqb-true n (sector_number g r) t)) c.1, omega arith)
      go false t ih =
          let z : indicator (eqb n (sector_number g r)) ≡ 0 = ap indicator t in
          let w = ih (omega arith) in
          (w.0, w.1, omega (arith, w.2))

  -- A CHAIN MEETS NO SECTOR TWICE: behind the second meeting the same chain would be shorter
  pub chain-once : (n : ℕ) (k : Link) (l : List Address) → Chain g link d k l → count n (map (sector_number g) l) ≤ 1
  chain-once n k [] c = omega arith
  chain-once n k (r ∷ l) c = go (eqb n (sector_number g r)) refl (chain-once n (link (d (sector_number g r))) l c.1)
    where
      go : (b : Bool) → eqb n (sector_number g r) ≡ b → count n (map (sector_number g) l) ≤ 1 → count n (map (sector_number g) (r ∷ l)) ≤ 1
      go true t rest = elim (dec_le 1 (count n (map (sector_number g) l))) [
        | yes h ↦
            let w = behind n (link (d (sector_number g r))) l c.1 h in
            let c' : Chain g link d (link (d n)) l = subst (λ (x : ℕ). Chain g link d (link (d x)) l) (sym (eqb-true n (sector_number g r) t)) c.1 in
            absurd (omega (arith, w.2, chain_length (link (d n)) l w.0 c' w.1))
        | no h ↦ omega (arith, indicator-le (eqb n (sector_number g r)))
      ]
      go false t rest = let z : indicator (eqb n (sector_number g r)) ≡ 0 = ap indicator t in omega arith

-- ---- the files meet no sector twice

module _ (g : Geometry) (d : Disk) (n : ℕ) where
  -- where a sector's file is one, and no two files share a name, the sector is claimed once
  files-once : (fs : List File) → All (ValidEntry g d) fs → ((name : Bytes) → name_count name (map slot_name fs) ≤ 1)
      → ((f f' : File) → Memᴰ f fs → Memᴰ f' fs → Among g n f.sectors → Among g n f'.sectors → f ≡ f')
      → count n (file_claims g fs) ≤ 1
  files-once [] r u one = omega arith
  files-once (f ∷ fs) r u one =
      let alone : count n (map (sector_number g) f.sectors) ≤ 1 = chain-once g (file_link g) d n (first_link g d f.slot) f.sectors r.0.chain in
      let rest : count n (file_claims g fs) ≤ 1 = files-once fs r.1 (λ x. omega (arith, u x)) (λ x y m m'. one x y (Memᴰ.tail m) (Memᴰ.tail m')) in
      elim (dec_le 1 (count n (map (sector_number g) f.sectors))) [
        | yes h ↦ elim (dec_le 1 (count n (file_claims g fs))) [
          | yes k ↦
              let w = claimant g n fs k in
              let same : f ≡ w.0 = one f w.0 (Memᴰ.head refl) (Memᴰ.tail w.1) h w.2 in
              let self : indicator (equal (slot_name f) (slot_name f)) ≡ 1 = ap indicator (equal-refl (slot_name f)) in
              absurd (omega (arith, u (slot_name f), name-met (slot_name f) fs w.0 w.1 (ap slot_name (sym same))))
          | no k ↦ omega (arith, count-file g n f fs)
        ]
        | no h ↦ omega (arith, count-file g n f fs)
      ]

-- ---- where owners are one, claims are one

-- owners of different kinds differ
kind_number : Owner → ℕ
kind_number the_map = 0
kind_number the_directory = 1
kind_number nobody = 2
kind_number (the_file f) = 3

the_file-inj : {f f' : File} → the_file f ≡ the_file f' → f ≡ f'
the_file-inj e = cc

module _ (g : Geometry) (d : Disk) (directory : Chain g (directory_link g) d (to directory_start) (directory_sectors g d)) (entry : All (ValidEntry g d) (files g d))
    (names : (n : Bytes) → name_count n (map slot_name (files g d)) ≤ 1) where
  same-owner : (n : ℕ) → OneOwner g d n → (o o' : Owner) → Owns g d o n → Owns g d o' n → o ≡ o'
  same-owner n w o o' h h' = w.only o h ∙ sym (w.only o' h')

  -- exactly one owner, so at most one claim
  claim-of-owner : (n : ℕ) → OneOwner g d n → claim_count g d n ≤ 1
  unfolding kind_number
  claim-of-owner n w = go (eqb n (sector_number g map_address)) refl
    where
      in-directory : count n (map (sector_number g) (directory_sectors g d)) ≤ 1
      in-directory = chain-once g (directory_link g) d n (to directory_start) (directory_sectors g d) directory

      in-files : count n (file_claims g (files g d)) ≤ 1
      in-files = files-once g d n (files g d) entry names (λ f f' m m' h h'. the_file-inj (same-owner n w (the_file f) (the_file f') (m, h) (m', h')))

      go : (b : Bool) → eqb n (sector_number g map_address) ≡ b → claim_count g d n ≤ 1
      go true t =
          let here : Owns g d the_map n = eqb-true n (sector_number g map_address) t in
          elim (dec_le 1 (count n (map (sector_number g) (directory_sectors g d)))) [
            | yes h ↦ absurd (let z : ◌≡◌ {A = ℕ} 0 1 = ap kind_number (same-owner n w the_map the_directory here h) in omega arith)
            | no h ↦ elim (dec_le 1 (count n (file_claims g (files g d)))) [
              | yes k ↦
                  let c = claimant g n (files g d) k in
                  absurd (let z : ◌≡◌ {A = ℕ} 0 3 = ap kind_number (same-owner n w the_map (the_file c.0) here (c.1, c.2)) in omega arith)
              | no k ↦ omega (arith, claim_count-of g d n, indicator-le (eqb n (sector_number g map_address)))
            ]
          ]
      go false t =
          let z : indicator (eqb n (sector_number g map_address)) ≡ 0 = ap indicator t in
          elim (dec_le 1 (count n (map (sector_number g) (directory_sectors g d)))) [
            | yes h ↦ elim (dec_le 1 (count n (file_claims g (files g d)))) [
              | yes k ↦
                  let c = claimant g n (files g d) k in
                  absurd (let y : ◌≡◌ {A = ℕ} 1 3 = ap kind_number (same-owner n w the_directory (the_file c.0) h (c.1, c.2)) in omega arith)
              | no k ↦ omega (arith, claim_count-of g d n, in-directory)
            ]
            | no h ↦ omega (arith, claim_count-of g d n, in-files)
          ]

  -- a number that no sector has is claimed by none
  pub claims-of-owners : Valid g → ((n : ℕ) → n < total g → OneOwner g d n) → (n : ℕ) → claim_count g d n ≤ 1
  unfolding claim_count
  claims-of-owners v owner n = elim (dec_le 1 (count n (claim_list g d))) [
    | yes h ↦ claim-of-owner n (owner n (of-count (λ x. x < total g) (claim_list g d) (claims-on g d v) n h))
    | no h ↦ omega arith
  ]

-- ---- the theorems

module _ (g : Geometry) (v : Valid g) (img : Bytes) where
  -- ACCEPTED IS DEMAND 2: by claims counted, and by owners
  pub accepted-owners : Accepted g img ↔ DemandTwo g (tracks g) (total g) img
  accepted-owners = (
    (λ a. record {
      size = a.size;
      directory = a.content.directory;
      entry = a.content.entry;
      names = a.content.names;
      owner = λ n h. one-owner g (disk img) a.content n;
      marks = λ t s l h b. (a.content.marks t l h).free s b;
      counts = λ t l h. (a.content.marks t l h).free_count;
    }),
    (λ w. record {
      size = w.size;
      content = record {
        directory = w.directory;
        entry = w.entry;
        names = w.names;
        once = claims-of-owners g (disk img) w.directory w.entry w.names v w.owner;
        marks = λ t l h. record { free_count = w.counts t l h; free = λ s b. w.marks t s l h b };
      };
    }),
  )

  -- A CHECK ANSWERS 0 EXACTLY WHERE DEMAND 2 HOLDS
  pub check-owners : ((perform g img check).answer.number ≡ 0) ↔ DemandTwo g (tracks g) (total g) img
  check-owners = Iff.trans (check-exact g v img) accepted-owners

-- ---- 35 tracks, 683 sectors

pub check-owners35 : (img : Bytes) → ((perform layout35 img check).answer.number ≡ 0) ↔ DemandTwo layout35 35 683 img
check-owners35 img = rw (tracks35, sectors35) at (check-owners layout35 valid35 img)
