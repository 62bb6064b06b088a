-- One call of demand 3: check, format, read, store or scratch, with its arguments and its reply (01, What the calls do).
use Rattle.std.specs.Prelude.{ℕ, []}
use Rattle.d64spec.specs.Lists.{Bytes}
use Rattle.d64spec.specs.Answers.{Result, done, ◌>>◌}
use Rattle.d64spec.specs.Geometry.{Geometry}
use Rattle.d64spec.specs.Check.{check_image}
use Rattle.d64spec.specs.Reply.{Change, unchanged, Reply, reply}
use Rattle.d64spec.specs.Format.{call_format}
use Rattle.d64spec.specs.Read.{call_read}
use Rattle.d64spec.specs.Store.{call_store}
use Rattle.d64spec.specs.Scratch.{call_scratch}

-- a call with its arguments
pub data Call : Type 0 where
  check : Call
  format : Bytes → ℕ → ℕ → Call  -- name, two id bytes
  read : Bytes → Bytes → Call  -- name, output buffer
  store : Bytes → ℕ → Bytes → Call  -- name, kind, bytes
  scratch : Bytes → Call  -- name

-- check: steps 1 to 4, nothing changed, and a report of 0 and 0
unfoldable pub call_check : Geometry → Bytes → Result Change
call_check g img = check_image g img >> done (unchanged img [])

-- what a call gives
unfoldable pub attempt : Geometry → Bytes → Call → Result Change
attempt g img check = call_check g img
attempt g img (format n i j) = call_format g img n i j
attempt g img (read n out) = call_read g img n out
attempt g img (store n k bs) = call_store g img n k bs
attempt g img (scratch n) = call_scratch g img n

-- the output buffer that a call was lent: none but for a read
unfoldable pub output_buffer : Call → Bytes
output_buffer check = []
output_buffer (format n i j) = []
output_buffer (read n out) = out
output_buffer (store n k bs) = []
output_buffer (scratch n) = []

-- a call with its reply
unfoldable pub perform : Geometry → Bytes → Call → Reply
perform g img c = reply img (output_buffer c) (attempt g img c)
