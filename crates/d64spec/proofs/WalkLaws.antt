-- The check's walk finds a chain exactly where there is one whose sectors are claimed once.
use Prim.Native.Nat.{ℕ, zero, suc, ◌+◌, ◌≤◌, ◌<◌}
use native.Mathlib.Omega.{arith}
use native.Mathlib.Nat.{le_of_suc-le-suc}
use mathlib.Core.Path.{◌≡◌, refl, sym, ap, ◌∙◌}
use mathlib.Core.Bool.{Bool, true, false}
use mathlib.Core.List.{List, [], ◌∷◌, map}
use lib.ListN.{length, length-map}
use lib.Dec.{eqb}
use borrow.Author.Tests.{ltb-false, le-ltb, eqb-true, eq-eqb}
use Rattle.d64spec.specs.Lists.{All, Bytes, count, indicator, member}
use Rattle.d64spec.specs.Answers.{Address, Result, ◌>>=◌, already_owned, bad_link, done, refused}
use Rattle.d64spec.specs.Geometry.{Geometry, sector_number, total}
use Rattle.d64spec.specs.Image.{Disk}
use Rattle.d64spec.specs.Chain.{Chain, Link, bad, ends, follow, steps, to, walk}
use Rattle.d64spec.proofs.ResultLaws.{bind_done, done_inj, refused≢done}
use Rattle.d64spec.proofs.BoundLaws.{OnDisk, sector_number-lt}
use Rattle.d64spec.proofs.PigeonholeLaws.{pigeon}
use Rattle.d64spec.proofs.ChainLaws.{chain-follow}

-- one more claim on x, which nobody claims
pub claim-one : (x : ℕ) (own : List ℕ) → member x own ≡ false → (m : ℕ) → count m own ≤ 1 → count m (x ∷ own) ≤ 1
claim-one x own e m h = go (eqb m x) refl
  where
    go : (b : Bool) → eqb m x ≡ b → indicator b + count m own ≤ 1
    go true t = let k : count m own ≤ 0 = rw (eqb-true m x t) (ltb-false 0 (count x own) e) in omega arith
    go false t = omega arith

module _ (g : Geometry) (step : Bytes → Link) (d : Disk) where
  -- what a walk that is done has met
  pub record Walked (own : List ℕ) (k : Link) (l : List Address) : Type 0 where
    pub chain : Chain g step d k l
    pub once : (m : ℕ) → count m own ≤ 1 → count m (map (sector_number g) l) + count m own ≤ 1

  pub walk-sound : (n : ℕ) (own : List ℕ) (at : Address) (slot : ℕ) (k : Link) (l : List Address) → walk g step d n own at slot k ≡ done l → Walked own k l
  walk-sound zero own at slot k l e = refused≢done (already_owned at slot) l e
  walk-sound (suc n) own at slot ends l e = rw (← (done_inj e)) (record { chain = refl; once = λ m h. omega arith })
  walk-sound (suc n) own at slot bad l e = refused≢done (bad_link at slot) l e
  walk-sound (suc n) own at slot (to r) l e = go (member (sector_number g r) own) refl (λ l' e'. walk-sound n (sector_number g r ∷ own) r slot (step (d (sector_number g r))) l' e') e
    where
      go : (b : Bool) → member (sector_number g r) own ≡ b
          → ((l' : List Address) → walk g step d n (sector_number g r ∷ own) r slot (step (d (sector_number g r))) ≡ done l' → Walked (sector_number g r ∷ own) (step (d (sector_number g r))) l')
          → (elim b as (λ x. Result (List Address)) [ true ↦ refused (already_owned at slot) | false ↦ walk g step d n (sector_number g r ∷ own) r slot (step (d (sector_number g r))) >>= (λ x. done (r ∷ x)) ]) ≡ done l
          → Walked own (to r) l
      go true t ih e' = refused≢done (already_owned at slot) l e'
      go false t ih e' =
          let h = bind_done (walk g step d n (sector_number g r ∷ own) r slot (step (d (sector_number g r)))) (λ x. done (r ∷ x)) l e' in
          let w = ih h.0 h.1 in
          rw (← (done_inj h.2)) (record {
            chain = (refl, w.chain);
            once = λ m k. omega (arith, w.once m (claim-one (sector_number g r) own t m k));
          })

  pub walk-complete : (n : ℕ) (own : List ℕ) (at : Address) (slot : ℕ) (k : Link) (l : List Address) → Chain g step d k l
      → ((m : ℕ) → count m (map (sector_number g) l) + count m own ≤ 1) → length l < n → walk g step d n own at slot k ≡ done l
  walk-complete zero own at slot k l c o h = absurd (omega arith)
  walk-complete (suc n) own at slot k [] c o h = rw c
  walk-complete (suc n) own at slot k (r ∷ l) c o h =
      let self : indicator (eqb (sector_number g r) (sector_number g r)) ≡ 1 = rw (eq-eqb (sector_number g r) (sector_number g r) refl) in
      let no-owner : member (sector_number g r) own ≡ false = le-ltb 0 (count (sector_number g r) own) (omega (arith, o (sector_number g r))) in
      rw c.0 (rw (no-owner, walk) (rw (walk-complete n (sector_number g r ∷ own) r slot (step (d (sector_number g r))) l c.1 (λ m. omega (arith, o m)) (le_of_suc-le-suc h))))

  -- a chain stays on the disk
  pub chain-on : ((b : Bytes) → OnDisk g (step b)) → (k : Link) (l : List Address) → OnDisk g k → Chain g step d k l → All (λ x. x < total g) (map (sector_number g) l)
  chain-on on k [] o c = tt
  chain-on on k (r ∷ l) o c = (sector_number-lt g r (rw c.0 at o), chain-on on (step (d (sector_number g r))) l (on (d (sector_number g r))) c.1)

  -- a chain whose sectors differ is what is met in as many steps as the disk has sectors
  pub chain-short : ((b : Bytes) → OnDisk g (step b)) → (k : Link) (l : List Address) → OnDisk g k → Chain g step d k l
      → ((m : ℕ) → count m (map (sector_number g) l) ≤ 1) → length l ≤ total g
  chain-short on k l o c u = omega (arith, pigeon (total g) (map (sector_number g) l) (chain-on on k l o c) u, length-map l (sector_number g))

  pub chain-met : ((b : Bytes) → OnDisk g (step b)) → (k : Link) (l : List Address) → OnDisk g k → Chain g step d k l
      → ((m : ℕ) → count m (map (sector_number g) l) ≤ 1) → follow g step d (steps g) k ≡ l
  chain-met on k l o c u = chain-follow g step d (steps g) k l c (omega (arith, chain-short on k l o c u))

  -- THE COUNT OF STEPS PLAYS NO PART: from one more than the disk's sectors on, a walk answers the same, refusals and places too
  pub walk-next : ((b : Bytes) → OnDisk g (step b)) → (n : ℕ) (own : List ℕ) (at : Address) (slot : ℕ) (k : Link) → OnDisk g k
      → All (λ x. x < total g) own → ((m : ℕ) → count m own ≤ 1) → total g < n + length own
      → walk g step d n own at slot k ≡ walk g step d (suc n) own at slot k
  walk-next on zero own at slot k o a u h = absurd (omega (arith, pigeon (total g) own a u))
  walk-next on (suc n) own at slot ends o a u h = refl
  walk-next on (suc n) own at slot bad o a u h = refl
  walk-next on (suc n) own at slot (to r) o a u h =
      go (member (sector_number g r) own) refl (λ v. walk-next on n (sector_number g r ∷ own) r slot (step (d (sector_number g r))) (on (d (sector_number g r))) (sector_number-lt g r o, a) v (omega arith))
    where
      next : ℕ → Bool → Result (List Address)
      next n b = elim b [ true ↦ refused (already_owned at slot) | false ↦ walk g step d n (sector_number g r ∷ own) r slot (step (d (sector_number g r))) >>= (λ x. done (r ∷ x)) ]

      go : (b : Bool) → member (sector_number g r) own ≡ b
          → (((m : ℕ) → count m (sector_number g r ∷ own) ≤ 1) → walk g step d n (sector_number g r ∷ own) r slot (step (d (sector_number g r))) ≡ walk g step d (suc n) (sector_number g r ∷ own) r slot (step (d (sector_number g r))))
          → next n (member (sector_number g r) own) ≡ next (suc n) (member (sector_number g r) own)
      go true t ih = rw t
      go false t ih = rw t (ap (λ (x : Result (List Address)). x >>= (λ y. done (r ∷ y))) (ih (λ m. claim-one (sector_number g r) own t m (u m))))

  pub walk-enough : ((b : Bytes) → OnDisk g (step b)) → (own : List ℕ) (at : Address) (slot : ℕ) (k : Link) → OnDisk g k
      → All (λ x. x < total g) own → ((m : ℕ) → count m own ≤ 1) → (n : ℕ)
      → walk g step d (steps g + n) own at slot k ≡ walk g step d (steps g) own at slot k
  walk-enough on own at slot k o a u zero = let z : steps g + 0 ≡ steps g = omega arith in ap (λ (x : ℕ). walk g step d x own at slot k) z
  walk-enough on own at slot k o a u (suc n) =
      let z : suc (total g) + suc n ≡ suc (steps g + n) = omega arith in
      ap (λ (x : ℕ). walk g step d x own at slot k) z ∙ sym (walk-next on (steps g + n) own at slot k o a u (omega arith)) ∙ walk-enough on own at slot k o a u n
