-- What the exported functions leave (01, Host calls): the number, and every byte of the memory that was lent.
use Rattle.std.specs.Prelude.{ℕ, ◌≡◌}
use Rattle.d64spec.specs.Lists.{Bytes}
use Rattle.d64spec.specs.Host.{HostReply}

-- the number, the image, the output and the answer block after a call are those of its host reply
pub record HostServed (expected : HostReply) (r : ℕ) (image' output' block' : Bytes) : Type 0 where
  pub reply : record { number = r; image_after = image'; output_after = output'; block_after = block' } ≡ expected
