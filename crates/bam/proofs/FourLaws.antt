-- A list of four bytes. Assumes nothing.
use native.Mathlib.Omega.{arith}
use mathlib.Core.Path.{◌≡◌, refl}
use mathlib.Core.List.{[], ◌∷◌}
use lib.ListN.{length}
use Rattle.d64spec.specs.Lists.{Bytes, byte}

pub four : (e : Bytes) → length e ≡ 4 → e ≡ byte e 0 ∷ byte e 1 ∷ byte e 2 ∷ byte e 3 ∷ []
four [] h = absurd (omega arith)
four (a ∷ []) h = absurd (omega arith)
four (a ∷ b ∷ []) h = absurd (omega arith)
four (a ∷ b ∷ c ∷ []) h = absurd (omega arith)
four (a ∷ b ∷ c ∷ d ∷ []) h = refl
four (a ∷ b ∷ c ∷ d ∷ x ∷ e) h = absurd (omega arith)
