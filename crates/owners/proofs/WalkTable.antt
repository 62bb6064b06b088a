-- The definition's walk, told by an owner table.
-- In order: a walk looks at members only; the walk by a table is the definition's; one link at a time; a walk's sectors are on the disk.
use Prim.Native.Nat.{ℕ, zero, suc, ◌+◌, ◌-◌, ◌≤◌, ◌<◌}
use native.Mathlib.Omega.{arith}
use mathlib.Core.Path.{◌≡◌, refl, sym, ap, ◌∙◌}
use mathlib.Core.Bool.{Bool, true, false, not}
use mathlib.Core.List.{List, [], ◌∷◌, map}
use lib.ListN.{length, get_or, set}
use borrow.Author.Tests.{eq-eqb, ne_eqb}
use Rattle.d64spec.specs.Lists.{All, Bytes, member}
use Rattle.d64spec.specs.Answers.{Address, Result, refused, done, ◌>>=◌, bad_link, already_owned}
use Rattle.d64spec.specs.Geometry.{Geometry, sector_number, total, on_disk}
use Rattle.d64spec.specs.Image.{Disk}
use Rattle.d64spec.specs.Chain.{Link, ends, to, bad, steps, walk}
use Rattle.d64spec.proofs.BoundLaws.{OnDisk, sector_number-lt}
use Rattle.d64spec.proofs.WalkLaws.{walk-next, walk-sound, chain-on}
use Rattle.owners.specs.OwnerTable.{owned}
use Rattle.owners.proofs.TableLaws.{Alike, free_count, member-owned, count-owned-le, owned-lt, free_count-owned, free_count-set, alike-cons, alike_set}

module _ (g : Geometry) (link : Bytes → Link) (d : Disk) where
  -- A WALK LOOKS AT MEMBERS ONLY
  pub walk-alike : (n : ℕ) (a b : List ℕ) (holder : Address) (slot : ℕ) (k : Link) → Alike a b → walk g link d n a holder slot k ≡ walk g link d n b holder slot k
  walk-alike zero a b holder slot k h = refl
  walk-alike (suc n) a b holder slot ends h = refl
  walk-alike (suc n) a b holder slot bad h = refl
  walk-alike (suc n) a b holder slot (to r) h =
      go (member (sector_number g r) a) (member (sector_number g r) b) (h (sector_number g r))
      (walk-alike n (sector_number g r ∷ a) (sector_number g r ∷ b) r slot (link (d (sector_number g r))) (alike-cons (sector_number g r) a b h))
    where
      rest : List ℕ → Result (List Address)
      rest l = walk g link d n (sector_number g r ∷ l) r slot (link (d (sector_number g r)))

      next : List ℕ → Bool → Result (List Address)
      next l x = elim x [ true ↦ refused (already_owned holder slot) | false ↦ rest l >>= (λ l. done (r ∷ l)) ]

      go : (x y : Bool) → x ≡ y → rest a ≡ rest b → next a x ≡ next b y
      go true true e ih = refl
      go false false e ih = ap (λ (z : Result (List Address)). z >>= (λ l. done (r ∷ l))) ih
      go true false e ih = let z : ◌≡◌ {A = ℕ} 0 1 = cc in absurd (omega arith)
      go false true e ih = let z : ◌≡◌ {A = ℕ} 0 1 = cc in absurd (omega arith)

  -- the definition's walk from a table, with one step more than the table has sectors without an owner
  unfoldable pub walk_by : List ℕ → Address → ℕ → Link → Result (List Address)
  walk_by own holder slot k = walk g link d (suc (free_count own)) (owned own) holder slot k

  module _ (on : (b : Bytes) → OnDisk g (link b)) where
    -- more steps than the table leaves play no part
    more : (e : ℕ) (own : List ℕ) (holder : Address) (slot : ℕ) (k : Link) → OnDisk g k → length own ≡ total g
        → walk g link d (suc (free_count own)) (owned own) holder slot k ≡ walk g link d (e + suc (free_count own)) (owned own) holder slot k
    more zero own holder slot k o h =
        let z : 0 + suc (free_count own) ≡ suc (free_count own) = omega arith in
        ap (λ (n : ℕ). walk g link d n (owned own) holder slot k) (sym z)
    more (suc e) own holder slot k o h =
        let z : suc (e + suc (free_count own)) ≡ suc e + suc (free_count own) = omega arith in
        more e own holder slot k o h
        ∙ walk-next g link d on (e + suc (free_count own)) (owned own) holder slot k o (owned-lt own (total g) h) (count-owned-le own) (omega (arith, free_count-owned own))
        ∙ ap (λ (n : ℕ). walk g link d n (owned own) holder slot k) z

    -- THE WALK BY A TABLE IS THE DEFINITION'S WALK
    pub walk_by-walk : (own : List ℕ) (holder : Address) (slot : ℕ) (k : Link) → OnDisk g k → length own ≡ total g
        → walk_by own holder slot k ≡ walk g link d (steps g) (owned own) holder slot k
    unfolding walk_by
    walk_by-walk own holder slot k o h =
        let z : (total g - free_count own) + suc (free_count own) ≡ suc (total g) = omega (arith, free_count-owned own) in
        more (total g - free_count own) own holder slot k o h ∙ ap (λ (n : ℕ). walk g link d n (owned own) holder slot k) z

  -- ---- one link at a time

  module _ (own : List ℕ) (holder : Address) (slot : ℕ) where
    pub walk_by-ends : walk_by own holder slot ends ≡ done []
    unfolding walk_by
    walk_by-ends = refl

    pub walk_by-bad : walk_by own holder slot bad ≡ refused (bad_link holder slot)
    unfolding walk_by
    walk_by-bad = refl

    pub walk_by-owned : (r : Address) → (get_or own (sector_number g r) 0 ≡ 0 → ⊥) → walk_by own holder slot (to r) ≡ refused (already_owned holder slot)
    unfolding walk_by
    walk_by-owned r h =
        let e : member (sector_number g r) (owned own) ≡ true = member-owned own (sector_number g r) ∙ ap not (ne_eqb (get_or own (sector_number g r) 0) 0 h) in
        rw (e, walk)

    pub walk_by-to : (r : Address) (id : ℕ) → length own ≡ total g → on_disk g r ≡ true → get_or own (sector_number g r) 0 ≡ 0 → 1 ≤ id
        → walk_by own holder slot (to r) ≡ (walk_by (set own (sector_number g r) id) r slot (link (d (sector_number g r))) >>= (λ l. done (r ∷ l)))
    unfolding walk_by
    walk_by-to r id long o h p =
        let n : ℕ = sector_number g r in
        let inside : sector_number g r < length own = omega (arith, sector_number-lt g r o) in
        let e : member (sector_number g r) (owned own) ≡ false = member-owned own (sector_number g r) ∙ ap not (eq-eqb (get_or own (sector_number g r) 0) 0 h) in
        let f : free_count own ≡ suc (free_count (set own (sector_number g r) id)) = free_count-set own (sector_number g r) id inside h p in
        rw (e, walk)
        (ap (λ (z : Result (List Address)). z >>= (λ l. done (r ∷ l)))
        (ap (λ (k : ℕ). walk g link d k (n ∷ owned own) r slot (link (d n))) f
        ∙ walk-alike (suc (free_count (set own n id))) (n ∷ owned own) (owned (set own n id)) r slot (link (d n)) (alike_set own n id inside p)))

  -- the sectors of a walk that is done are on the disk
  pub walk-lt : ((b : Bytes) → OnDisk g (link b)) → (n : ℕ) (own : List ℕ) (holder : Address) (slot : ℕ) (k : Link) (l : List Address) → OnDisk g k
      → walk g link d n own holder slot k ≡ done l → All (λ x. x < total g) (map (sector_number g) l)
  walk-lt on n own holder slot k l o e = chain-on g link d on k l o (walk-sound g link d n own holder slot k l e).chain
