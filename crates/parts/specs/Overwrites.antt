-- Bytes of a slice with others in their place, where these all lie in it. Laws: proofs/OverwriteLaws.
use Rattle.std.specs.Prelude.{ℕ, ◌+◌, cond, length, leb}
use Rattle.d64spec.specs.Lists.{Bytes, splice}

-- s with bs in the place of as many bytes from index i on; as it was where they do not all lie in it
unfoldable pub overwritten : Bytes → ℕ → Bytes → Bytes
overwritten s i bs = cond (leb (i + length bs) (length s)) (splice s i bs) s
