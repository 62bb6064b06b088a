-- The host calls (01, Host calls; 02, §8): the number that is returned, and every byte left in lent memory.
-- In order: the answer block; a call in a layout; a call that names its layout by a number.
use Rattle.std.specs.Prelude.{ℕ, zero, suc, ◌/◌, ◌%◌, cond, [], ◌∷◌, ◌++◌, length, eqb}
use Rattle.d64spec.specs.Lists.{Bytes}
use Rattle.d64spec.specs.Answers.{answer_of, wrong_buffer, ◌>>=◌}
use Rattle.d64spec.specs.Geometry.{Geometry}
use Rattle.d64spec.specs.Layouts.{layout_numbered}
use Rattle.d64spec.specs.Reply.{Reply, reply}
use Rattle.d64spec.specs.Call.{Call, attempt, output_buffer, perform}

-- a number in n bytes, low byte first
abbrev pub little_endian : ℕ → ℕ → Bytes
little_endian zero v = []
little_endian (suc n) v = v % 256 ∷ little_endian n (v / 256)

-- the nine bytes: track, sector, slot, length in four bytes, sectors in two
unfoldable pub answer_block : Reply → Bytes
answer_block r = r.answer.track ∷ r.answer.sector ∷ r.answer.slot ∷ (little_endian 4 r.change.reported_length ++ little_endian 2 r.change.reported_sectors)

-- what a host call returns, and what it leaves in the image, the output and the answer block
pub record HostReply : Type 0 where
  pub number : ℕ
  pub image_after : Bytes
  pub output_after : Bytes
  pub block_after : Bytes

-- what the host sees of a reply: a refusal fills the block too
abbrev pub host_reply : Reply → HostReply
host_reply r = record { number = r.answer.number; image_after = r.change.image_after; output_after = r.change.output_after; block_after = answer_block r }

-- a block that is not nine bytes: 16 before all else, and nothing is written
abbrev pub block_refused : Bytes → Bytes → Call → HostReply
block_refused img block c = record { number = (answer_of wrong_buffer).number; image_after = img; output_after = output_buffer c; block_after = block }

-- a host call, lent an image and an answer block
unfoldable pub host_call : Geometry → Bytes → Bytes → Call → HostReply
host_call g img block c = cond (eqb (length block) 9) (host_reply (perform g img c)) (block_refused img block c)

-- A CALL THAT NAMES A LAYOUT by its number (02, §8): 17 where there is none, and its reply
unfoldable pub perform_in : ℕ → Bytes → Call → Reply
perform_in n img c = reply img (output_buffer c) (layout_numbered n >>= (λ g. attempt g img c))

-- the same as a host call: only the answer block's size comes before the layout
unfoldable pub host_call_in : ℕ → Bytes → Bytes → Call → HostReply
host_call_in n img block c = cond (eqb (length block) 9) (host_reply (perform_in n img c)) (block_refused img block c)
