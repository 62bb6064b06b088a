-- What a `do` block is decided by: it is done exactly when all of its conditions hold, and refused exactly with the fault of the first that does not.
-- In order: lists of conditions joined; `Decided`; one law for each step that a `do` block can have.
-- A block's list is built from the back: `decided-then (decided-need ..) (λ h. ..)` has `asks .. ∷ m`, where m is the rest's.
use mathlib.Core.Path.{◌≡◌, refl, sym, ap, ◌∙◌}
use Prim.Native.Nat.{ℕ, ◌≤◌}
use native.Mathlib.Omega.{arith}
use mathlib.Core.Bool.{Bool, true, false}
use mathlib.Core.Logic.{◌↔◌, ◌⊎◌, inl, inr, ⊎_elim}
use mathlib.Core.List.{List, [], ◌∷◌, ◌++◌, append-nil}
use lib.Dec.{eqb, leb}
use borrow.Author.Tests.{eqb-true, eq-eqb, leb-true, le-leb}
use Rattle.d64spec.specs.Answers.{Fault, Result, ◌>>=◌, ◌>>◌, done, need, refused}
use Rattle.d64spec.specs.Order.{AllHold, Condition, FirstFails, asks}
use Rattle.d64spec.proofs.ResultLaws.{refused≢done, bind_done}

-- ---- lists of conditions

pub all_hold-append : (l m : List Condition) → AllHold (l ++ m) ↔ (AllHold l × AllHold m)
all_hold-append [] m = ((λ h. (tt, h)), (λ h. h.1))
all_hold-append (c ∷ l) m = (
  (λ h. let r = (all_hold-append l m).0 h.1 in ((h.0, r.0), r.1)),
  (λ h. (h.0.0, (all_hold-append l m).1 (h.0.1, h.1))),
)

pub first_fails-append : (l m : List Condition) (f : Fault) → FirstFails (l ++ m) f ↔ (FirstFails l f ⊎ (AllHold l × FirstFails m f))
first_fails-append l m f = (split l, join l)
  where
    split : (l : List Condition) → FirstFails (l ++ m) f → FirstFails l f ⊎ (AllHold l × FirstFails m f)
    split [] h = inr (tt, h)
    split (c ∷ l) (inl h) = inl (inl h)
    split (c ∷ l) (inr h) = elim (split l h.1) [
      | inl k ↦ inl (inr (h.0, k))
      | inr k ↦ inr ((h.0, k.0), k.1)
    ]

    join : (l : List Condition) → FirstFails l f ⊎ (AllHold l × FirstFails m f) → FirstFails (l ++ m) f
    join [] (inl h) = absurd h
    join [] (inr h) = h.1
    join (c ∷ l) (inl (inl h)) = inl h
    join (c ∷ l) (inl (inr h)) = inr (h.0, join l (inl h.1))
    join (c ∷ l) (inr h) = inr (h.0.0, join l (inr (h.0.1, h.1)))

-- ---- decided by conditions

-- a result is done exactly when all of these conditions hold, and refused with f exactly when f answers for the first that does not
pub record Decided {A : Type 0} (x : Result A) (l : List Condition) : Type 0 where
  pub when_done : ((y : A) × (x ≡ done y)) ↔ AllHold l
  pub when_refused : (f : Fault) → (x ≡ refused f) ↔ FirstFails l f

pub bind-refused : {A B : Type 0} (x : Result A) (k : A → Result B) (f : Fault) → (x >>= k) ≡ refused f → (x ≡ refused f) ⊎ ((a : A) × (x ≡ done a) × (k a ≡ refused f))
bind-refused (refused f') k f e = inl cc
bind-refused (done a) k f e = inr (a, refl, e)

false≢true : false ≡ true → ⊥
false≢true e = let z : ◌≡◌ {A = ℕ} 0 1 = cc in omega arith

pub done≢refused : {A : Type 0} {B : Type 0} (a : A) (f : Fault) → ◌≡◌ {A = Result A} (done a) (refused f) → B
done≢refused a f e = refused≢done f a (sym e)

pub decided-done : {A : Type 0} {y : A} → Decided (done y) []
decided-done {A} {y} = record { when_done = ((λ w. tt), (λ h. (y, refl))); when_refused = λ f. ((λ e. done≢refused y f e), (λ h. absurd h)) }

-- a step that one condition decides: it is done exactly when that holds, and any refusal is one that answers for it
pub decided-one : {A : Type 0} {x : Result A} (c : Condition) → (((y : A) × (x ≡ done y)) ↔ c.holds)
    → ((f : Fault) → x ≡ refused f → c.answers f) → ((f : Fault) → (c.holds → ⊥) → c.answers f → x ≡ refused f) → Decided x (c ∷ [])
decided-one c holds answered refuses = record {
  when_done = ((λ w. (holds.0 w, tt)), (λ h. holds.1 h.0));
  when_refused = λ f. (
    (λ e. inl ((λ h. let w = holds.1 h in done≢refused w.0 f (sym w.1 ∙ e)), answered f e)),
    ⊎_elim (λ h. refuses f h.0 h.1) (λ h. absurd h.1),
  );
}

-- a test decides one condition: where the condition fails, the test's fault answers for it, and no other does
pub decided-test : (b : Bool) (fault : Fault) (c : Condition) → ((b ≡ true) ↔ c.holds)
    → ((c.holds → ⊥) → c.answers fault) → ((f : Fault) → c.answers f → f ≡ fault) → Decided (need b fault) (c ∷ [])
decided-test true fault c p answers only =
    decided-one c ((λ w. p.0 refl), (λ h. (tt, refl))) (λ f e. done≢refused tt f e) (λ f fails a. absurd (fails (p.0 refl)))
decided-test false fault c p answers only =
    let fails : c.holds → ⊥ = λ h. false≢true (p.1 h) in
    decided-one c ((λ w. refused≢done fault w.0 w.1), (λ h. absurd (fails h)))
    (λ f e. let same : f ≡ fault = cc in rw same (answers fails)) (λ f h a. ap refused (sym (only f a)))

-- the same where the condition names its one fault
pub decided-need : (b : Bool) (fault : Fault) (P : Type 0) → ((b ≡ true) ↔ P) → Decided (need b fault) (asks P fault ∷ [])
decided-need b fault P p = decided-test b fault (asks P fault) p (λ fails. refl) (λ f e. e)

-- what a test of two numbers says, for `decided-need`
pub eqb-exact : (a b : ℕ) → (eqb a b ≡ true) ↔ (a ≡ b)
eqb-exact a b = (eqb-true a b, eq-eqb a b)

pub leb-exact : (a b : ℕ) → (leb a b ≡ true) ↔ (a ≤ b)
leb-exact a b = (leb-true a b, le-leb a b)

pub decided-eq : {A : Type 0} {x x' : Result A} {l : List Condition} → x ≡ x' → Decided x l → Decided x' l
decided-eq e decided = rw e at decided

pub decided-list : {A : Type 0} {x : Result A} {l l' : List Condition} → l ≡ l' → Decided x l → Decided x l'
decided-list e decided = rw e at decided

module _ {A B : Type 0} where
  then-bind : (x : Result A) (r : Result B) → (x >> r) ≡ (x >>= (λ a. r))
  then-bind (refused f) r = refl
  then-bind (done a) r = refl

  -- one step, then the rest, which may go by what the step gave and by its conditions
  pub decided-bind : {x : Result A} {k : A → Result B} {l m : List Condition} → Decided x l → ((a : A) → x ≡ done a → AllHold l → Decided (k a) m) → Decided (x >>= k) (l ++ m)
  decided-bind {x} {k} {l} {m} first rest = record {
    when_done = (
      (λ w. let step = bind_done x k w.0 w.1 in
          let held : AllHold l = first.when_done.0 (step.0, step.1) in
          (all_hold-append l m).1 (held, (rest step.0 step.1 held).when_done.0 (w.0, step.2))),
      (λ h. let held = (all_hold-append l m).0 h in
          let step = first.when_done.1 held.0 in
          rw step.1 ((rest step.0 step.1 held.0).when_done.1 held.1)),
    );
    when_refused = λ f. (
      (λ e. (first_fails-append l m f).1 (elim (bind-refused x k f e) [
        | inl r ↦ inl ((first.when_refused f).0 r)
        | inr step ↦ let held : AllHold l = first.when_done.0 (step.0, step.1) in inr (held, ((rest step.0 step.1 held).when_refused f).0 step.2)
      ])),
      (λ h. elim ((first_fails-append l m f).0 h) [
        | inl r ↦ rw ((first.when_refused f).1 r)
        | inr r ↦ let step = first.when_done.1 r.0 in rw step.1 (((rest step.0 step.1 r.0).when_refused f).1 r.1)
      ]),
    );
  }

  -- one step, then the rest
  pub decided-then : {x : Result A} {r : Result B} {l m : List Condition} → Decided x l → (AllHold l → Decided r m) → Decided (x >> r) (l ++ m)
  decided-then {x} {r} first rest = decided-eq (sym (then-bind x r)) (decided-bind first (λ a e held. rest held))

  -- a block that ends with `done` asks no more
  pub decided-then-done : {x : Result A} {l : List Condition} → Decided x l → (y : B) → Decided (x >> done y) l
  decided-then-done {l} first y = decided-list (append-nil l) (decided-then first (λ held. decided-done))

  pub decided-bind-done : {x : Result A} {l : List Condition} → Decided x l → (give : A → B) → Decided (x >>= (λ a. done (give a))) l
  decided-bind-done {l} first give = decided-list (append-nil l) (decided-bind first (λ a e held. decided-done))
