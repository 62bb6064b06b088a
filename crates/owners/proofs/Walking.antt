-- A walk under way: the invariant of every loop along a chain, whatever the loop makes of the sectors.
-- `finish p own x` is what comes of a walk where p was gathered so far, own is the owner table, and x is the rest of the walk.
-- In order: the invariant; it holds at the start; at each end it gives the outcome; a step to a sector without an owner keeps it.
use Prim.Native.Nat.{ℕ, suc, ◌≤◌}
use native.Mathlib.Omega.{arith}
use mathlib.Core.Path.{◌≡◌, sym, ap, ◌∙◌}
use mathlib.Core.List.{List, [], ◌∷◌}
use lib.ListN.{length, get_or, set, length-set}
use Rattle.d64spec.specs.Lists.{Bytes}
use Rattle.d64spec.specs.Answers.{Address, Result, refused, done, ◌>>=◌, bad_link, already_owned}
use Rattle.d64spec.specs.Geometry.{Geometry, sector_number, total}
use Rattle.d64spec.specs.Image.{Disk}
use Rattle.d64spec.specs.Chain.{Link, ends, to, bad, steps, walk}
use Rattle.d64spec.proofs.BoundLaws.{OnDisk, sector_number-lt}
use Rattle.owners.specs.OwnerTable.{owned}
use Rattle.owners.proofs.TableLaws.{free_count, free_count-set}
use Rattle.owners.proofs.WalkTable.{walk_by, walk_by-walk, walk_by-ends, walk_by-bad, walk_by-owned, walk_by-to}

-- the link k, which the sector `holder` holds, is where the walk is; the outcome is o
pub record Walking {P R : Type 0} (g : Geometry) (link : Bytes → Link) (d : Disk) (finish : P → List ℕ → Result (List Address) → R) (slot : ℕ) (o : R)
    (p : P) (own : List ℕ) (holder : Address) (k : Link) : Type 0 where
  pub long : length own ≡ total g
  pub on : OnDisk g k
  pub outcome : finish p own (walk_by g link d own holder slot k) ≡ o

module _ {P R : Type 0} (g : Geometry) (link : Bytes → Link) (d : Disk) (finish : P → List ℕ → Result (List Address) → R) (slot : ℕ) where
  pub walking_start : ((b : Bytes) → OnDisk g (link b)) → (p : P) (own : List ℕ) (holder : Address) (k : Link) → length own ≡ total g → OnDisk g k
      → Walking g link d finish slot (finish p own (walk g link d (steps g) (owned own) holder slot k)) p own holder k
  walking_start all-on p own holder k long on = record { long = long; on = on; outcome = ap (finish p own) (walk_by-walk g link d all-on own holder slot k on long) }

  module _ {o : R} {p : P} {own : List ℕ} {holder : Address} where
    pub walking-ends : Walking g link d finish slot o p own holder ends → finish p own (done []) ≡ o
    walking-ends w = ap (finish p own) (sym (walk_by-ends g link d own holder slot)) ∙ w.outcome

    pub walking-bad : Walking g link d finish slot o p own holder bad → finish p own (refused (bad_link holder slot)) ≡ o
    walking-bad w = ap (finish p own) (sym (walk_by-bad g link d own holder slot)) ∙ w.outcome

    pub walking-owned : {r : Address} → Walking g link d finish slot o p own holder (to r) → (get_or own (sector_number g r) 0 ≡ 0 → ⊥) → finish p own (refused (already_owned holder slot)) ≡ o
    walking-owned {r} w h = ap (finish p own) (sym (walk_by-owned g link d own holder slot r h)) ∙ w.outcome

    -- the sector r has no owner: it gets the owner id, and p' is gathered
    pub walking-moved : {r : Address} (id : ℕ) (p' : P) (k : Link) → Walking g link d finish slot o p own holder (to r)
        → get_or own (sector_number g r) 0 ≡ 0 → 1 ≤ id
        → k ≡ link (d (sector_number g r)) → OnDisk g k
        → ((x : Result (List Address)) → finish p own (x >>= (λ l. done (r ∷ l))) ≡ finish p' (set own (sector_number g r) id) x)
        → Walking g link d finish slot o p' (set own (sector_number g r) id) r k
    walking-moved {r} id p' k w h q e on law =
        let own' : List ℕ = set own (sector_number g r) id in
        record {
          long = length-set own (sector_number g r) id ∙ w.long;
          on = on;
          outcome =
              ap (λ (z : Link). finish p' own' (walk_by g link d own' r slot z)) e
              ∙ sym (law (walk_by g link d own' r slot (link (d (sector_number g r)))))
              ∙ ap (finish p own) (sym (walk_by-to g link d own holder slot r id w.long w.on h q))
              ∙ w.outcome;
        }

    -- and one sector fewer has no owner
    pub walking-fewer : {r : Address} (id : ℕ) → Walking g link d finish slot o p own holder (to r) → get_or own (sector_number g r) 0 ≡ 0 → 1 ≤ id
        → free_count own ≡ suc (free_count (set own (sector_number g r) id))
    walking-fewer {r} id w h q =
        let long : length own ≡ total g = w.long in
        free_count-set own (sector_number g r) id (omega (arith, sector_number-lt g r w.on)) h q
