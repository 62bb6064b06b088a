-- A sector as a part of an image, and the image with other bytes in its place (01, Tracks and sectors).
-- `disk img n` is there for every n: empty past the image's end, and shorter where the image ends inside it. Laws: proofs/SectorLaws.
use Rattle.std.specs.Prelude.{ℕ, ◌+◌, ◌*◌, ◌≤◌, ◌≡◌, cond, ◌&&◌, length, eqb, leb}
use Rattle.d64spec.specs.Lists.{Bytes, splice}
use Rattle.d64spec.specs.Image.{disk}
use Rattle.parts.specs.Overwrites.{overwritten}

-- sector n lies whole in the image (01, Tracks and sectors)
abbrev pub Inside : Bytes → ℕ → Type 0
Inside img n = 256 * n + 256 ≤ length img

-- p is sector n of the image, with all its 256 bytes where the image has them (01, Tracks and sectors)
pub record IsSector (img : Bytes) (n : ℕ) (p : Bytes) : Type 0 where
  pub bytes : p ≡ disk img n
  pub full : Inside img n → length p ≡ 256

-- the image with s in the place of sector n, where the sector lies whole in it and s has 256 bytes; else as it was (01, Tracks and sectors)
unfoldable pub with_sector : Bytes → ℕ → Bytes → Bytes
with_sector img n s = cond (leb (256 * n + 256) (length img) && eqb (length s) 256) (splice img (256 * n) s) img

-- the image with bs over as many bytes of sector n, from its byte i on; as it was where they do not all lie in a whole sector of it
unfoldable pub overwritten_in : Bytes → ℕ → ℕ → Bytes → Bytes
overwritten_in img n i bs = with_sector img n (overwritten (disk img n) i bs)
