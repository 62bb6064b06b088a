-- Every other byte of the image: what a call has left before it writes the map, and what the map leaves, is as it was.
-- Store and scratch share this; proofs/MapBytes has the map's own sector.
use Prim.Native.Nat.{ℕ, ◌+◌, ◌*◌, ◌/◌, ◌%◌, ◌<◌}
use native.Mathlib.Omega.{arith}
use native.Mathlib.Decide.{dec_le}
use mathlib.Core.Path.{◌≡◌, sym, ap, ◌∙◌}
use mathlib.Core.Logic.{inl, inr, ⊎_elim}
use mathlib.Core.List.{List}
use lib.ListN.{length, take, drop, get_or, length-take, get_or-eq_default}
use lib.Seq.{get_or-take, get_or-drop}
use Rattle.d64spec.specs.Lists.{Bytes, byte}
use Rattle.d64spec.specs.Answers.{Address}
use Rattle.d64spec.specs.Geometry.{Geometry, Valid, map_address, sector_number}
use Rattle.d64spec.specs.Image.{Disk, disk, image}
use Rattle.d64spec.specs.Map.{rewrite_map}
use Rattle.d64spec.specs.Accepted.{Accepted}
use Rattle.d64spec.specs.Changes.{InEntryOf, MapFollows, OtherBits, OutsideKept}
use Rattle.d64spec.proofs.BoundLaws.{sector_number-lt, map_on}
use Rattle.d64spec.proofs.ImageLaws.{Whole, image-size, image-disk}
use Rattle.d64spec.proofs.MapWriteLaws.{rewrite-whole, rewrite-follows}
use Rattle.d64spec.proofs.MapBytes.{map_other, rewritten-bits, Prepared, rewritten-rest}

-- ---- a byte of an image is a byte of a sector

image-byte : (img : Bytes) (k : ℕ) → byte img k ≡ byte (disk img (k / 256)) (k % 256)
unfolding disk
image-byte img k =
    let z : 256 * (k / 256) + k % 256 ≡ k = omega arith in
    sym (get_or-take 256 (drop (256 * (k / 256)) img) (k % 256) 0 (omega arith) ∙ get_or-drop (256 * (k / 256)) img (k % 256) 0 ∙ ap (λ (x : ℕ). get_or img x 0) z)

pub byte_small : (img : Bytes) → ((k : ℕ) → byte img k < 256) → (n i : ℕ) → byte (disk img n) i < 256
unfolding disk
byte_small img s n i = elim (dec_le 256 i) [
  | yes h ↦ go (get_or-eq_default (take 256 (drop (256 * n) img)) 0 {n = i} (omega (arith, length-take 256 (drop (256 * n) img))))
  | no h ↦ rw (get_or-take 256 (drop (256 * n) img) i 0 (omega arith) ∙ get_or-drop (256 * n) img i 0) (s (256 * n + i))
]
  where
    go : byte (take 256 (drop (256 * n) img)) i ≡ 0 → byte (take 256 (drop (256 * n) img)) i < 256
    go z = omega arith

-- ---- the image after a call that ends with the map

module _ (g : Geometry) (v : Valid g) (img : Bytes) (a : Accepted g img) (d2 : Disk) (l : List Address) (p : Prepared g (disk img) d2 l) where
  -- the image after
  abbrev after : Bytes
  after = image g (rewrite_map g d2)

  whole : Whole g (rewrite_map g d2)
  whole = rewrite-whole g v d2 p.whole p.sound

  pub after-disk : disk after ≡ rewrite_map g d2
  after-disk = image-disk g (rewrite_map g d2) whole

  pub after-size : length after ≡ length img
  after-size = image-size g (rewrite_map g d2) whole ∙ sym a.size

  pub after_map : MapFollows g (disk img) (disk after)
  after_map = rw (after-disk, sym p.unmapped) (rewrite-follows g v d2 p.whole p.sound)

  pub after-bits : OtherBits g l (disk img) (disk after)
  after-bits = rw after-disk (rewritten-bits g v (disk img) d2 l a.content p)

  -- the bytes of 18/0 in no map entry
  pub after-outside : OutsideKept g (disk img) (disk after)
  after-outside i h =
      ap (λ (x : Disk). byte (x (sector_number g map_address)) i) after-disk
      ∙ map_other g v d2 (p.whole.full (sector_number g map_address) (sector_number-lt g map_address (map_on g v.directory))) i
      (λ t l u. ⊎_elim (λ c. inl c) (λ c. inr (omega arith)) (h t l u))
      ∙ ap (λ (x : Bytes). byte x i) p.unmapped

  -- Writes are the places that the call writes
  pub after-rest : ((k : ℕ) → byte img k < 256) → (Writes : ℕ → ℕ → Type 0) → ((n i : ℕ) → InEntryOf g l n i → Writes n i) → ((n i : ℕ) → (Writes n i → ⊥) → byte (d2 n) i ≡ byte (disk img n) i)
      → (k : ℕ) → (Writes (k / 256) (k % 256) → ⊥) → byte after k ≡ byte img k
  after-rest small Writes entry left k out =
      let n : ℕ = k / 256 in
      let i : ℕ = k % 256 in
      image-byte after k ∙ ap (λ (x : Disk). byte (x n) i) after-disk
      ∙ rewritten-rest g v (disk img) d2 l a.content p (byte_small img small (sector_number g map_address)) n i (λ h. out (entry n i h)) (left n i out)
      ∙ sym (image-byte img k)
