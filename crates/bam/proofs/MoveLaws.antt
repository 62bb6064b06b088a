-- A mark moved, by the code's cases: a sector without a mark; one marked free; one marked used. Assumes nothing.
use Prim.Native.Nat.{ℕ, ◌+◌, ◌-◌, ◌/◌, ◌%◌, ◌^◌, ◌≤◌, ◌<◌}
use native.Mathlib.Omega.{arith}
use mathlib.Core.Path.{◌≡◌, ◌∙◌}
use mathlib.Core.Bool.{Bool, true, false}
use borrow.Author.Tests.{lt-ltb, le-ltb}
use Rattle.d64spec.specs.Lists.{Bytes, byte}
use Rattle.d64spec.proofs.BitLaws.{power_le}
use Rattle.bam.specs.MapEntry.{bitmap_of, entry_from, moved_entry}

pub moved-past : (e : Bytes) (s : ℕ) (free : Bool) → 24 ≤ s → e ≡ moved_entry e s free
unfolding moved_entry
moved-past e s free h = rw (le-ltb s 24 h)

-- an entry is known by its count's lowest byte and its bitmap's lowest three
entry-alike : (n m n' m' : ℕ) → n % 256 ≡ n' % 256 → m % 16777216 ≡ m' % 16777216 → entry_from n m ≡ entry_from n' m'
unfolding entry_from
entry-alike n m n' m' count bitmap =
    let low : m % 256 ≡ m' % 256 = omega arith in
    let middle : m / 256 % 256 ≡ m' / 256 % 256 = omega arith in
    let high : m / 65536 % 256 ≡ m' / 65536 % 256 = omega arith in
    simp (count, low, middle, high)

module _ (e : Bytes) (s : ℕ) (on : s < 24) {free : Bool} {n m : ℕ} {r : Bytes} (made : r ≡ entry_from n m) where
  pub moved-free : free ≡ true → n ≡ (byte e 0 + 1) % 256 → m ≡ bitmap_of e + 2 ^ s → r ≡ moved_entry e s free
  unfolding moved_entry
  moved-free yes-free count bits = rw (lt-ltb s 24 on, yes-free) (made ∙ entry-alike _ _ _ _ (omega arith) (omega arith))

  -- one less, in a number of 8 bits and in one of 32
  pub moved-used : free ≡ false → n ≡ (byte e 0 + 255) % 256 → m ≡ (bitmap_of e + (4294967296 - 2 ^ s)) % 4294967296 → r ≡ moved_entry e s free
  unfolding moved_entry
  moved-used not-Free count bits =
      rw (lt-ltb s 24 on, not-Free) (made ∙ entry-alike _ _ _ _ (omega arith) (omega (arith, power_le s (omega arith))))
