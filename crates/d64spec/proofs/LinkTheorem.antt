-- What two link bytes say, case by case as document 01 has them (01, Chains; The directory).
use Prim.Native.Nat.{ℕ, zero, suc, ◌≤◌, ◌<◌}
use native.Mathlib.Omega.{arith}
use mathlib.Core.Path.{◌≡◌, refl}
use mathlib.Core.Bool.{Bool, true, false, cond, ◌&&◌}
use lib.Dec.{eqb, ltb}
use borrow.Author.Tests.{eqb-true, le-ltb, lt-ltb, ltb-true}
use Rattle.d64spec.specs.Answers.{address}
use Rattle.d64spec.specs.Geometry.{Geometry, on_disk, sectors_on}
use Rattle.d64spec.specs.Image.{Disk}
use Rattle.d64spec.specs.Chain.{bad, decode_directory_link, decode_file_link, ends, link_to, to}
use Rattle.d64spec.specs.Directory.{Slot, entry_byte, first_link}

-- ---- files

-- track 0 with second byte 0 is a bad link
pub file-00 : (g : Geometry) → decode_file_link g 0 0 ≡ bad
unfolding decode_file_link
file-00 g = refl

-- track 0 with second byte n from 1 on: last sector
pub file-last : (g : Geometry) (n : ℕ) → 1 ≤ n → decode_file_link g 0 n ≡ ends
unfolding decode_file_link
file-last g zero h = absurd (omega arith)
file-last g (suc n) h = refl

-- A FILE MAY GO ON ANYWHERE ON THE DISK, track 18 included
pub file-goes-on : (g : Geometry) (t s : ℕ) → s < sectors_on g t → decode_file_link g t s ≡ to (address t s)
unfolding decode_file_link link_to on_disk sectors_on
file-goes-on g zero s h = absurd (omega arith)
file-goes-on g (suc t) s h = rw (lt-ltb s (sectors_on g (suc t)) h)

-- everything else is a bad link
pub file-off : (g : Geometry) (t s : ℕ) → 1 ≤ t → sectors_on g t ≤ s → decode_file_link g t s ≡ bad
unfolding decode_file_link link_to on_disk
file-off g zero s h k = absurd (omega arith)
file-off g (suc t) s h k = rw (le-ltb s (sectors_on g (suc t)) k)

-- ---- a file's first link, bytes 03-04 of its slot

module _ (g : Geometry) (d : Disk) (s : Slot) where
  -- A FILE MAY START ANYWHERE ON THE DISK, track 18 included
  pub first-goes-on : entry_byte s.bytes 0x04 < sectors_on g (entry_byte s.bytes 0x03)
      → first_link g d s ≡ to (address (entry_byte s.bytes 0x03) (entry_byte s.bytes 0x04))
  unfolding first_link link_to on_disk
  first-goes-on h = rw (lt-ltb (entry_byte s.bytes 0x04) (sectors_on g (entry_byte s.bytes 0x03)) h)

  -- everything else is a bad link
  pub first_off : sectors_on g (entry_byte s.bytes 0x03) ≤ entry_byte s.bytes 0x04 → first_link g d s ≡ bad
  unfolding first_link link_to on_disk
  first_off h = rw (le-ltb (entry_byte s.bytes 0x04) (sectors_on g (entry_byte s.bytes 0x03)) h)

  -- and so is track 0, whatever the second byte is
  pub first-track-0 : entry_byte s.bytes 0x03 ≡ 0 → first_link g d s ≡ bad
  unfolding sectors_on
  first-track-0 e = first_off (rw e (omega arith))

-- ---- the directory

-- track 0 ends the directory, whatever the second byte is
pub directory-ends : (g : Geometry) (s : ℕ) → decode_directory_link g 0 s ≡ ends
unfolding decode_directory_link
directory-ends g s = refl

-- 18/1 up to track 18's last sector: go on
pub directory-goes-on : (g : Geometry) (s : ℕ) → 1 ≤ s → s < sectors_on g 18 → decode_directory_link g 18 s ≡ to (address 18 s)
unfolding decode_directory_link link_to on_disk
directory-goes-on g s h k = rw (lt-ltb 0 s h) (rw (lt-ltb s (sectors_on g 18) k))

-- ANY OTHER LINK OF THE DIRECTORY IS BAD, 18/0 too
pub directory-bad : (g : Geometry) (t s : ℕ) → 1 ≤ t → ((t ≡ 18) × (1 ≤ s) × (s < sectors_on g 18) → ⊥) → decode_directory_link g t s ≡ bad
unfolding decode_directory_link link_to on_disk
directory-bad g zero s h k = absurd (omega arith)
directory-bad g (suc t) s h k = go (eqb (suc t) 18) (ltb 0 s) (ltb s (sectors_on g 18)) refl refl refl
  where
    go : (a b c : Bool) → eqb (suc t) 18 ≡ a → ltb 0 s ≡ b → ltb s (sectors_on g 18) ≡ c → cond (eqb (suc t) 18 && ltb 0 s) (cond (ltb s (sectors_on g 18)) (to (address 18 s)) bad) bad ≡ bad
    go false b c p q r = rw p
    go true false c p q r = rw (p, q)
    go true true false p q r = rw (p, q, r)
    go true true true p q r = absurd (k (eqb-true (suc t) 18 p, ltb-true 0 s q, ltb-true s (sectors_on g 18) r))
