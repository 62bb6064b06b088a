-- What a `do` block that is done says of its steps.
use mathlib.Core.Path.{◌≡◌, refl}
use Prim.Native.Nat.{ℕ}
use native.Mathlib.Omega.{arith}
use mathlib.Core.Bool.{Bool, true, false}
use Rattle.d64spec.specs.Answers.{Fault, Result, ◌>>=◌, ◌>>◌, done, need, refused}

pub refused≢done : {A : Type 0} {B : Type 0} (f : Fault) (a : A) → ◌≡◌ {A = Result A} (refused f) (done a) → B
refused≢done f a e = absurd (let z : ◌≡◌ {A = ℕ} 0 1 = cc in omega arith)

pub done_inj : {A : Type 0} {a b : A} → ◌≡◌ {A = Result A} (done a) (done b) → a ≡ b
done_inj e = cc

pub need-done : {A : Type 0} (b : Bool) (f : Fault) (r : Result A) (y : A) → (need b f >> r) ≡ done y → (b ≡ true) × (r ≡ done y)
need-done true f r y e = (refl, e)
need-done false f r y e = refused≢done f y e

pub need-true : (b : Bool) (f : Fault) (y : Unit {0}) → need b f ≡ done y → b ≡ true
need-true true f y e = refl
need-true false f y e = refused≢done f y e

pub then-done : {A B : Type 0} (x : Result A) (r : Result B) (y : B) → (x >> r) ≡ done y → (a : A) × (x ≡ done a) × (r ≡ done y)
then-done (refused f) r y e = refused≢done f y e
then-done (done a) r y e = (a, refl, e)

pub bind_done : {A B : Type 0} (x : Result A) (k : A → Result B) (y : B) → (x >>= k) ≡ done y → (a : A) × (x ≡ done a) × (k a ≡ done y)
bind_done (refused f) k y e = refused≢done f y e
bind_done (done a) k y e = (a, refl, e)
