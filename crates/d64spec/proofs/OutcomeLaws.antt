-- What a `do` block can answer: P of each refusal and Q of what a done one gives, step by step. Then the same of a walk, of an entry and of a list of slots.
use Prim.Native.Nat.{ℕ, zero, suc}
use mathlib.Core.Path.{◌≡◌, refl}
use mathlib.Core.Bool.{Bool, true, false}
use mathlib.Core.List.{List, [], ◌∷◌}
use lib.Dec.{eqb}
use Rattle.d64spec.specs.Lists.{All, Bytes, member, name_count}
use Rattle.d64spec.specs.Answers.{Address, Fault, Result, ◌>>=◌, ◌>>◌, already_owned, bad_link, bad_name, bad_type, done, duplicate_name, first, need, refused}
use Rattle.d64spec.specs.Geometry.{Geometry, on_disk, sector_number}
use Rattle.d64spec.specs.Image.{Disk}
use Rattle.d64spec.specs.Chain.{Link, bad, ends, to, walk}
use Rattle.d64spec.specs.Directory.{Slot, entry_byte, name_of, valid_name, valid_type}
use Rattle.d64spec.specs.Check.{check_entry}
use Rattle.d64spec.specs.Listing.{list_slots}
use Rattle.d64spec.proofs.BoundLaws.{OnDisk}

-- a refusal has P, and what is given has Q
abbrev pub Outcome : {A : Type 0} → (Fault → Type 0) → (A → Type 0) → Result A → Type 0
Outcome P Q (refused f) = P f
Outcome P Q (done x) = Q x

-- a refusal has P
abbrev pub Refusals : {A : Type 0} → (Fault → Type 0) → Result A → Type 0
Refusals P r = Outcome P (λ x. Unit {0}) r

module _ {A B : Type 0} (P : Fault → Type 0) (Q : B → Type 0) where
  pub bind-outcome : (x : Result A) (k : A → Result B) → Refusals P x → ((a : A) → x ≡ done a → Outcome P Q (k a)) → Outcome P Q (x >>= k)
  bind-outcome (refused f) k p h = p
  bind-outcome (done a) k p h = h a refl

  pub then-outcome : (x : Result A) (r : Result B) → Refusals P x → ((a : A) → x ≡ done a → Outcome P Q r) → Outcome P Q (x >> r)
  then-outcome (refused f) r p h = p
  then-outcome (done a) r p h = h a refl

module _ {B : Type 0} (P : Fault → Type 0) (Q : B → Type 0) where
  pub need-outcome : (b : Bool) (f : Fault) (r : Result B) → P f → (b ≡ true → Outcome P Q r) → Outcome P Q (need b f >> r)
  need-outcome true f r p h = h refl
  need-outcome false f r p h = p

module _ (P : Fault → Type 0) where
  pub need-refusals : (b : Bool) (f : Fault) → P f → Refusals P (need b f)
  need-refusals true f p = tt
  need-refusals false f p = p

  pub first-refusals : {A : Type 0} (f : Fault) (l : List A) → P f → Refusals P (first f l)
  unfolding first
  first-refusals f [] p = p
  first-refusals f (x ∷ l) p = tt

  -- what holds of each place on the disk holds where a walk is refused
  pub walk-refusals : (g : Geometry) (step : Bytes → Link) → ((b : Bytes) → OnDisk g (step b)) → (d : Disk) (slot : ℕ)
      → ((r : Address) → on_disk g r ≡ true → P (bad_link r slot) × P (already_owned r slot))
      → (n : ℕ) (own : List ℕ) (at : Address) (k : Link) → on_disk g at ≡ true → OnDisk g k → Refusals P (walk g step d n own at slot k)
  walk-refusals g step on d slot p zero own at k a o = (p at a).1
  walk-refusals g step on d slot p (suc n) own at ends a o = tt
  walk-refusals g step on d slot p (suc n) own at bad a o = (p at a).0
  walk-refusals g step on d slot p (suc n) own at (to r) a o =
      go (member (sector_number g r) own) (walk-refusals g step on d slot p n (sector_number g r ∷ own) r (step (d (sector_number g r))) o (on (d (sector_number g r))))
    where
      go : (b : Bool) → Refusals P (walk g step d n (sector_number g r ∷ own) r slot (step (d (sector_number g r))))
          → Refusals {A = List Address} P (elim b as (λ x. Result (List Address)) [ true ↦ refused (already_owned at slot) | false ↦ walk g step d n (sector_number g r ∷ own) r slot (step (d (sector_number g r))) >>= (λ x. done (r ∷ x)) ])
      go true h = (p at a).1
      go false h = bind-outcome P (λ x. Unit {0}) (walk g step d n (sector_number g r ∷ own) r slot (step (d (sector_number g r)))) (λ x. done (r ∷ x)) h (λ x e. tt)

  -- P of the three faults of an entry
  pub record OfEntry (s : Slot) : Type 0 where
    pub type : P (bad_type s.holder s.number)
    pub name : P (bad_name s.holder s.number)
    pub duplicate : P (duplicate_name s.holder s.number)

  pub entry-refusals : (names : List Bytes) (s : Slot) → OfEntry s → Refusals P (check_entry names s)
  unfolding check_entry
  entry-refusals names s p =
      need-outcome P (λ x. Unit {0}) (valid_type (entry_byte s.bytes 0x02)) (bad_type s.holder s.number) _ p.type
      (λ e. need-outcome P (λ x. Unit {0}) (valid_name s.bytes) (bad_name s.holder s.number) _ p.name
      (λ e'. need-refusals (eqb (name_count (name_of s.bytes) names) 0) (duplicate_name s.holder s.number) p.duplicate))

  pub list_slots-refusals : (names : List Bytes) (l : List Slot) → All OfEntry l → Refusals P (list_slots names l)
  list_slots-refusals names [] p = tt
  list_slots-refusals names (s ∷ l) p =
      then-outcome P (λ x. Unit {0}) (check_entry names s) _ (entry-refusals names s p.0) (λ x e. list_slots-refusals (name_of s.bytes ∷ names) l p.1)
