-- The walk of the check is decided by one condition: the sectors met are a whole chain, each claimed once. Its refusal is the chain's fault.
-- In order: what a refused walk has met; the walk at a chain's fault; the condition. That the count of steps plays no part: proofs/WalkLaws.
use Prim.Native.Nat.{ℕ, zero, suc, ◌+◌, ◌≤◌, ◌<◌}
use native.Mathlib.Omega.{arith}
use native.Mathlib.Nat.{le_of_suc-le-suc}
use mathlib.Core.Path.{◌≡◌, refl, sym, ◌∙◌}
use mathlib.Core.Bool.{Bool, true, false}
use mathlib.Core.Logic.{◌⊎◌, ◌↔◌, inl, inr, ⊎_map}
use mathlib.Core.List.{List, [], ◌∷◌, ◌++◌, map}
use lib.ListN.{length}
use lib.Dec.{eqb}
use borrow.Author.Tests.{ltb-true, lt-ltb, le-ltb, eq-eqb}
use Rattle.d64spec.specs.Lists.{All, Bytes, count, indicator, member}
use Rattle.d64spec.specs.Answers.{Address, Fault, Result, ◌>>=◌, already_owned, bad_link, done, refused}
use Rattle.d64spec.specs.Geometry.{Geometry, sector_number, total}
use Rattle.d64spec.specs.Image.{Disk}
use Rattle.d64spec.specs.Chain.{Link, bad, ends, follow, steps, to, walk}
use Rattle.d64spec.specs.Store.{last_of}
use Rattle.d64spec.specs.Order.{ChainFault, ClaimsOnce, Trail, asks_chain}
use Rattle.d64spec.proofs.ListLaws.{count-append}
use Rattle.d64spec.proofs.BoundLaws.{OnDisk, sector_number-lt}
use Rattle.d64spec.proofs.PigeonholeLaws.{pigeon}
use Rattle.d64spec.proofs.WalkLaws.{Walked, claim-one, walk-sound, walk-complete, chain-short, chain-met, walk-enough}
use Rattle.d64spec.proofs.ConditionLaws.{Decided, bind-refused, decided-one, done≢refused}

module _ (g : Geometry) (link : Bytes → Link) (d : Disk) where
  -- what the link `next` is at fault in, at the end of the sectors l: `ChainFault`'s last field
  abbrev LinkFault : List ℕ → Address → ℕ → List Address → Link → Fault → Type 0
  LinkFault own holder slot l next f =
      ((next ≡ bad) × (f ≡ bad_link (last_of holder l) slot))
      ⊎ ((r : Address) × (next ≡ to r) × (0 < count (sector_number g r) (map (sector_number g) l ++ own)) × (f ≡ already_owned (last_of holder l) slot))

  -- a sector of the chain is owned from when it is met
  link-fault-next : (own : List ℕ) (holder : Address) (slot : ℕ) (r : Address) (l : List Address) (next : Link) (f : Fault)
      → LinkFault (sector_number g r ∷ own) r slot l next f ↔ LinkFault own holder slot (r ∷ l) next f
  unfolding last_of
  link-fault-next own holder slot r l next f = (⊎_map (λ b. b) (λ q. (q.0, q.1, omega (arith, middle q.0), q.3)), ⊎_map (λ b. b) (λ q. (q.0, q.1, omega (arith, middle q.0), q.3)))
    where
      middle : (q : Address) → count (sector_number g q) (map (sector_number g) l ++ (sector_number g r ∷ own)) ≡ count (sector_number g q) (sector_number g r ∷ (map (sector_number g) l ++ own))
      middle q = omega (arith, count-append (sector_number g q) (map (sector_number g) l) (sector_number g r ∷ own), count-append (sector_number g q) (map (sector_number g) l) own)

  -- a refused walk has met the chain's fault
  fault-of-walk : ((b : Bytes) → OnDisk g (link b)) → (n : ℕ) (own : List ℕ) (holder : Address) (slot : ℕ) (k : Link) (f : Fault) → OnDisk g k
      → All (λ x. x < total g) own → ((m : ℕ) → count m own ≤ 1) → total g < n + length own
      → walk g link d n own holder slot k ≡ refused f → ChainFault g link d own holder slot k f
  unfolding last_of
  fault-of-walk on zero own holder slot k f o a u h e = absurd (omega (arith, pigeon (total g) own a u))
  fault-of-walk on (suc n) own holder slot ends f o a u h e = done≢refused [] f e
  fault-of-walk on (suc n) own holder slot bad f o a u h e = record { met = []; next = bad; trail = refl; once = λ m. omega (arith, u m); fault = inl (refl, cc) }
  fault-of-walk on (suc n) own holder slot (to r) f o a u h e =
      go (member (sector_number g r) own) refl (λ v. fault-of-walk on n (sector_number g r ∷ own) r slot (link (d (sector_number g r))) f (on (d (sector_number g r))) (sector_number-lt g r o, a) v (omega arith)) e
    where
      rest : Result (List Address)
      rest = walk g link d n (sector_number g r ∷ own) r slot (link (d (sector_number g r)))

      go : (b : Bool) → member (sector_number g r) own ≡ b
          → (((m : ℕ) → count m (sector_number g r ∷ own) ≤ 1) → rest ≡ refused f → ChainFault g link d (sector_number g r ∷ own) r slot (link (d (sector_number g r))) f)
          → ◌≡◌ {A = Result (List Address)} (elim b [ true ↦ refused (already_owned holder slot) | false ↦ rest >>= (λ l. done (r ∷ l)) ]) (refused f)
          → ChainFault g link d own holder slot (to r) f
      go true t ih e' = record {
        met = [];
        next = to r;
        trail = refl;
        once = λ m. omega (arith, u m);
        fault = inr (r, refl, ltb-true 0 (count (sector_number g r) own) t, cc);
      }
      go false t ih e' = elim (bind-refused rest (λ l. done (r ∷ l)) f e') [
        | inl e'' ↦
            let w = ih (λ m. claim-one (sector_number g r) own t m (u m)) e'' in
            record {
              met = r ∷ w.met;
              next = w.next;
              trail = (refl, w.trail);
              once = λ m. omega (arith, w.once m);
              fault = (link-fault-next own holder slot r w.met w.next f).0 w.fault;
            }
        | inr w ↦ done≢refused (r ∷ w.0) f w.2
      ]

  -- a walk along a trail is refused with the fault of the link at its end
  walk-trail : (n : ℕ) (own : List ℕ) (holder : Address) (slot : ℕ) (k : Link) (l : List Address) (next : Link) (f : Fault) → Trail g link d k l next
      → ((m : ℕ) → count m (map (sector_number g) l) + count m own ≤ 1) → LinkFault own holder slot l next f → length l < n → walk g link d n own holder slot k ≡ refused f
  unfolding last_of
  walk-trail zero own holder slot k l next f t o w h = absurd (omega arith)
  walk-trail (suc n) own holder slot k [] next f t o (inl w) h = rw (t, w.0, w.1)
  walk-trail (suc n) own holder slot k [] next f t o (inr w) h = rw (t, w.1, w.3) (rw (lt-ltb 0 (count (sector_number g w.0) own) w.2, walk))
  walk-trail (suc n) own holder slot k (r ∷ l) next f t o w h =
      let self : indicator (eqb (sector_number g r) (sector_number g r)) ≡ 1 = rw (eq-eqb (sector_number g r) (sector_number g r) refl) in
      let no-owner : member (sector_number g r) own ≡ false = le-ltb 0 (count (sector_number g r) own) (omega (arith, o (sector_number g r))) in
      rw t.0 (rw (no-owner, walk) (rw (walk-trail n (sector_number g r ∷ own) r slot (link (d (sector_number g r))) l next f t.1 (λ m. omega (arith, o m)) ((link-fault-next own holder slot r l next f).1 w) (le_of_suc-le-suc h))))

  module _ (on : (b : Bytes) → OnDisk g (link b)) (own : List ℕ) (holder : Address) (slot : ℕ) (k : Link) (o : OnDisk g k)
      (a : All (λ x. x < total g) own) (u : (m : ℕ) → count m own ≤ 1) where
    -- a walk that is done gives the sectors met from its start
    pub walk-met : (l : List Address) → walk g link d (steps g) own holder slot k ≡ done l → l ≡ follow g link d (steps g) k
    walk-met l e =
        let w = walk-sound g link d (steps g) own holder slot k l e in
        sym (chain-met g link d on k l o w.chain (λ m. omega (arith, w.once m (u m))))

    claims-of-walk : (l : List Address) → walk g link d (steps g) own holder slot k ≡ done l → ClaimsOnce g link d own k
    claims-of-walk l e =
        let w : Walked g link d own k (follow g link d (steps g) k) = rw (walk-met l e) at (walk-sound g link d (steps g) own holder slot k l e) in
        record { chain = w.chain; once = λ m. w.once m (u m) }

    -- THE WALK OF THE CHECK is done exactly where the sectors met are a whole chain, each claimed once, and else refused with the chain's fault
    pub decided-walk : Decided (walk g link d (steps g) own holder slot k) (asks_chain g link d own holder slot k ∷ [])
    decided-walk =
        decided-one (asks_chain g link d own holder slot k) (
          (λ w. claims-of-walk w.0 w.1),
          (λ c. (
            follow g link d (steps g) k,
            walk-complete g link d (steps g) own holder slot k (follow g link d (steps g) k) c.chain c.once
                (omega (arith, chain-short g link d on k (follow g link d (steps g) k) o c.chain (λ m. omega (arith, c.once m)))),
          )),
        )
        (λ f e. fault-of-walk on (steps g) own holder slot k f o a u (omega arith) e)
        (λ f no-claims w. sym (walk-enough g link d on own holder slot k o a u (length w.met))
        ∙ walk-trail (steps g + length w.met) own holder slot k w.met w.next f w.trail w.once w.fault (omega arith))
