-- An entry of the map is known by its 24 bits, where its count is that of the track's own: so `rewrite_map` changes no other entry.
use Prim.Native.Nat.{ℕ, zero, suc, ◌+◌, ◌*◌, ◌/◌, ◌%◌, ◌<◌}
use native.Mathlib.Omega.{arith}
use mathlib.Core.Path.{◌≡◌, sym, ap, ap₂, ◌∙◌}
use Rattle.d64spec.specs.Lists.{Bytes, byte}
use Rattle.d64spec.specs.Bits.{bit_of}
use Rattle.d64spec.specs.Geometry.{Geometry, Valid, sectors_on}
use Rattle.d64spec.specs.Map.{map_bit, map_ones}
use Rattle.d64spec.proofs.SumLaws.{sum_same}
use Rattle.d64spec.proofs.BitLaws.{number-known}

module _ (g : Geometry) (v : Valid g) (m m' : Bytes) (t : ℕ) (small : (i : ℕ) → byte m i < 256) (small' : (i : ℕ) → byte m' i < 256)
    (same_bit : (s : ℕ) → s < 24 → map_bit g m t s ≡ map_bit g m' t s) where
  same-bitmap : (j : ℕ) → j < 3 → byte m (g.map_at t + 1 + j) ≡ byte m' (g.map_at t + 1 + j)
  unfolding map_bit
  same-bitmap j h =
      number-known (byte m (g.map_at t + 1 + j)) (byte m' (g.map_at t + 1 + j)) 8 (small (g.map_at t + 1 + j)) (small' (g.map_at t + 1 + j))
      (λ i k.
      let x : (8 * j + i) / 8 ≡ j = omega arith in
      let y : (8 * j + i) % 8 ≡ i = omega arith in
      ap₂ (λ (a c : ℕ). bit_of (byte m (g.map_at t + 1 + a)) c) (sym x) (sym y) ∙ same_bit (8 * j + i) (omega arith)
      ∙ ap₂ (λ (a c : ℕ). bit_of (byte m' (g.map_at t + 1 + a)) c) x y)

  pub same-entry : byte m (g.map_at t) ≡ map_ones g m t → byte m' (g.map_at t) ≡ map_ones g m' t → (i : ℕ) → i < 4
      → byte m (g.map_at t + i) ≡ byte m' (g.map_at t + i)
  unfolding map_ones
  same-entry p q zero h =
      let z : g.map_at t + 0 ≡ g.map_at t = omega arith in
      ap (byte m) z ∙ p ∙ sum_same (map_bit g m t) (map_bit g m' t) 0 (sectors_on g t) (λ i l u. same_bit i (omega (arith, v.small t))) ∙ sym q
      ∙ ap (byte m') (sym z)
  same-entry p q (suc i) h =
      let z : g.map_at t + suc i ≡ g.map_at t + 1 + i = omega arith in
      ap (byte m) z ∙ same-bitmap i (omega arith) ∙ ap (byte m') (sym z)
