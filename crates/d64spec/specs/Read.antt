-- Read and tell (01, What the calls do): they change no byte of the image.
use Rattle.std.specs.Prelude.{ℕ, length, drop, leb}
use Rattle.d64spec.specs.Lists.{Bytes, splice, zeros}
use Rattle.d64spec.specs.Answers.{Answer, unplaced, answer_of, wrong_size, bad_name_argument, not_found, wrong_buffer, Result, refused, done, ◌>>=◌, ◌>>◌, need, first}
use Rattle.d64spec.specs.Geometry.{Geometry}
use Rattle.d64spec.specs.Image.{disk}
use Rattle.d64spec.specs.Chain.{chain_data}
use Rattle.d64spec.specs.Directory.{File, entry_byte, name_field, count_of, files}
use Rattle.d64spec.specs.Check.{right_size, check_disk}
use Rattle.d64spec.specs.Reply.{Change, valid_name_argument, files_named}

-- the change of a read of f: its bytes at the start of the output, the rest of it as it was; the length, and the length of the chain
abbrev pub read_change : Geometry → Bytes → Bytes → File → Change
read_change g img out f =
    let bytes = chain_data g (disk img) f.sectors in
    record { image_after = img; output_after = splice out 0 bytes; reported_length = length bytes; reported_sectors = length f.sectors }

-- read: refusals in document 01's order, then the file's bytes
unfoldable pub call_read : Geometry → Bytes → Bytes → Bytes → Result Change
call_read g img name out = do
  need (right_size g img) wrong_size
  need (valid_name_argument name) bad_name_argument
  check_disk g (disk img)
  f ← first not_found (files_named name (files g (disk img)))
  need (leb (length (chain_data g (disk img) f.sectors)) (length out)) wrong_buffer
  done (read_change g img out f)

-- what tell gives of a file
pub record FileInformation : Type 0 where
  pub type_byte : ℕ
  pub name_bytes : Bytes
  pub first_track : ℕ
  pub first_sector : ℕ
  pub sector_count : ℕ
  pub byte_length : ℕ

-- tell: the file at a position, from 0, among the occupied slots
unfoldable pub call_tell : Geometry → Bytes → ℕ → Result FileInformation
call_tell g img position = do
  need (right_size g img) wrong_size
  check_disk g (disk img)
  f ← first not_found (drop position (files g (disk img)))
  let b = f.slot.bytes
  done (record { type_byte = entry_byte b 0x02; name_bytes = name_field b; first_track = entry_byte b 0x03; first_sector = entry_byte b 0x04; sector_count = count_of b; byte_length = length (chain_data g (disk img) f.sectors) })

-- what tell leaves
pub record TellReply : Type 0 where
  pub answer : Answer
  pub information : FileInformation

-- all zero if refused
unfoldable pub no_information : FileInformation
no_information = record { type_byte = 0; name_bytes = zeros 16; first_track = 0; first_sector = 0; sector_count = 0; byte_length = 0 }

-- the reply to a tell
unfoldable pub tell_reply : Result FileInformation → TellReply
tell_reply (refused f) = record { answer = answer_of f; information = no_information }
tell_reply (done i) = record { answer = unplaced 0; information = i }
