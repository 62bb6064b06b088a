-- The decoders of links case by case, as the code's tests tell the cases apart. They hold for every layout.
use Prim.Native.Nat.{ℕ, zero, suc, ◌≤◌, ◌<◌}
use native.Mathlib.Omega.{arith}
use mathlib.Core.Path.{◌≡◌, refl, ◌∙◌}
use mathlib.Core.Bool.{true, false}
use borrow.Author.Tests.{ne_eqb, lt-ltb, le-ltb}
use Rattle.d64spec.specs.Answers.{address}
use Rattle.d64spec.specs.Geometry.{Geometry, sectors_on, on_disk}
use Rattle.d64spec.specs.Chain.{ends, to, bad, link_to, decode_file_link, decode_directory_link}

module _ (g : Geometry) (t s : ℕ) where
  pub link_to-at : on_disk g (address t s) ≡ true → link_to g t s ≡ to (address t s)
  unfolding link_to
  link_to-at e = rw e

  pub link_to-off : on_disk g (address t s) ≡ false → link_to g t s ≡ bad
  unfolding link_to
  link_to-off e = rw e

  pub file-bad : t < 1 → s < 1 → decode_file_link g t s ≡ bad
  unfolding decode_file_link
  file-bad h k =
      let e : t ≡ 0 = omega arith in
      let f : s ≡ 0 = omega arith in
      rw (e, f)

  pub directory-ends : t < 1 → decode_directory_link g t s ≡ ends
  unfolding decode_directory_link
  directory-ends h = let e : t ≡ 0 = omega arith in rw e

  pub directory-map : t ≡ 18 → s < 1 → decode_directory_link g t s ≡ bad
  unfolding decode_directory_link
  directory-map e h = simp (e, le-ltb 0 s (omega arith))

  pub directory-to : t ≡ 18 → 1 ≤ s → decode_directory_link g t s ≡ link_to g t s
  unfolding decode_directory_link
  directory-to e h = simp (e, lt-ltb 0 s h)

  -- where track 18 has 19 sectors
  pub directory-inside : sectors_on g 18 ≡ 19 → t ≡ 18 → 1 ≤ s → s < 19 → decode_directory_link g t s ≡ to (address t s)
  unfolding on_disk
  directory-inside on e h k = directory-to e h ∙ link_to-at (rw (e, on) (lt-ltb s 19 k))

  pub directory-past : sectors_on g 18 ≡ 19 → t ≡ 18 → 19 ≤ s → decode_directory_link g t s ≡ bad
  unfolding on_disk
  directory-past on e k = directory-to e (omega arith) ∙ link_to-off (rw (e, on) (le-ltb s 19 k))

pub file-ends : (g : Geometry) (t s : ℕ) → t < 1 → 1 ≤ s → decode_file_link g t s ≡ ends
unfolding decode_file_link
file-ends g zero (suc s) h k = refl
file-ends g zero zero h k = absurd (omega arith)
file-ends g (suc t) s h k = absurd (omega arith)

pub file-to : (g : Geometry) (t s : ℕ) → 1 ≤ t → decode_file_link g t s ≡ link_to g t s
unfolding decode_file_link
file-to g zero s h = absurd (omega arith)
file-to g (suc t) s h = refl

pub directory-other : (g : Geometry) (t s : ℕ) → 1 ≤ t → (t ≡ 18 → ⊥) → decode_directory_link g t s ≡ bad
unfolding decode_directory_link
directory-other g zero s h other = absurd (omega arith)
directory-other g (suc t) s h other = simp (ne_eqb (suc t) 18 other)

-- what two bytes of a directory sector say, by cases
pub ruleset decoded = (directory-ends, directory-other, directory-map, directory-past, directory-inside)
