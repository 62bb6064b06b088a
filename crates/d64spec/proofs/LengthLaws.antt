-- The length of a file, and each of its bytes (01, Chains).
use Prim.Native.Nat.{ℕ, suc, ◌+◌, ◌*◌, ◌-◌, ◌/◌, ◌%◌, ◌≤◌, ◌<◌}
use native.Mathlib.Omega.{arith}
use native.Mathlib.Decide.{dec_le}
use mathlib.Core.Path.{◌≡◌, ap, ◌∙◌}
use mathlib.Core.List.{List, [], ◌∷◌, ◌++◌}
use lib.ListN.{length, drop, get_or, length-append, length-drop, length-take, get_or-append}
use lib.Seq.{length-take-le, get_or-append-add, get_or-drop, get_or-take}
use Rattle.d64spec.specs.Lists.{All, Bytes, byte, part}
use Rattle.d64spec.specs.Answers.{Address}
use Rattle.d64spec.specs.Geometry.{Geometry, sector_number}
use Rattle.d64spec.specs.Image.{Disk}
use Rattle.d64spec.specs.Chain.{chain_data}
use Rattle.d64spec.specs.Store.{last_of}

-- A FILE OF k SECTORS HOLDS 254(k-1) + n-1 BYTES, n being the second byte of its last sector
pub data-length : (g : Geometry) (d : Disk) (r : Address) (l : List Address) → All (λ x. length (d (sector_number g x)) ≡ 256) (r ∷ l) → byte (d (sector_number g (last_of r l))) 1 ≤ 255
    → length (chain_data g d (r ∷ l)) ≡ 254 * length l + (byte (d (sector_number g (last_of r l))) 1 - 1)
unfolding last_of
data-length g d r [] a h =
    let s : Bytes = d (sector_number g r) in
    length-take-le (byte s 1 + 1 - 2) (drop 2 s) (omega (arith, length-drop 2 s, a.0)) ∙ omega arith
data-length g d r (q ∷ l) a h =
    let s : Bytes = d (sector_number g r) in
    omega (arith, length-append (part 2 255 s) (chain_data g d (q ∷ l)), length-take-le 254 (drop 2 s) (omega (arith, length-drop 2 s, a.0)), data-length g d q l a.1 h)

-- EACH BYTE OF A FILE: byte i of its data is byte 2 + i % 254 of its sector i / 254, and nothing else plays a part. The default z of get_or is met by no byte
pub data-byte : (g : Geometry) (d : Disk) (z r : Address) (l : List Address) → All (λ x. length (d (sector_number g x)) ≡ 256) (r ∷ l)
    → (i : ℕ) → i < length (chain_data g d (r ∷ l)) → byte (chain_data g d (r ∷ l)) i ≡ byte (d (sector_number g (get_or (r ∷ l) (i / 254) z))) (2 + i % 254)
data-byte g d z r [] a i h =
    let s : Bytes = d (sector_number g r) in
    let m : ℕ = byte s 1 + 1 - 2 in
    let few : i < 254 = omega (arith, length-take m (drop 2 s), length-drop 2 s, a.0) in
    let x : i / 254 ≡ 0 = omega arith in
    let y : i % 254 ≡ i = omega arith in
    rw (x, y) (get_or-take m (drop 2 s) i 0 (omega (arith, length-take m (drop 2 s))) ∙ get_or-drop 2 s i 0)
data-byte g d z r (q ∷ l) a i h =
    let s : Bytes = d (sector_number g r) in
    let whole : length (part 2 255 s) ≡ 254 = length-take-le 254 (drop 2 s) (omega (arith, length-drop 2 s, a.0)) in
    elim (dec_le 254 i) [
      | yes k ↦
          let j : ℕ = i - 254 in
          let e : i ≡ length (part 2 255 s) + j = omega (arith, whole) in
          let x : i / 254 ≡ suc (j / 254) = omega arith in
          let y : i % 254 ≡ j % 254 = omega arith in
          ap (λ (n : ℕ). get_or (part 2 255 s ++ chain_data g d (q ∷ l)) n 0) e
          ∙ get_or-append-add (part 2 255 s) (chain_data g d (q ∷ l)) j 0
          ∙ rw (x, y) (data-byte g d z q l a.1 j (omega (arith, h, whole, length-append (part 2 255 s) (chain_data g d (q ∷ l)))))
      | no k ↦
          let x : i / 254 ≡ 0 = omega arith in
          let y : i % 254 ≡ i = omega arith in
          get_or-append (part 2 255 s) (chain_data g d (q ∷ l)) 0 i (omega (arith, whole))
          ∙ rw (x, y) (get_or-take 254 (drop 2 s) i 0 (omega arith) ∙ get_or-drop 2 s i 0)
    ]
