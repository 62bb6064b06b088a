-- Arguments, and what a call leaves (01, Answer numbers; What the calls do).
-- A refusal changes no byte and reports 0 and 0 by the form of `reply`: no call can forget it.
use Rattle.std.specs.Prelude.{ℕ, Bool, ◌&&◌, ◌||◌, List, [], length, eqb, ltb}
use Rattle.d64spec.specs.Lists.{Bytes, byte, filter, count, equal}
use Rattle.d64spec.specs.Answers.{Answer, unplaced, answer_of, Result, refused, done}
use Rattle.d64spec.specs.Geometry.{Geometry, sector_number, map_address}
use Rattle.d64spec.specs.Image.{Disk}
use Rattle.d64spec.specs.Directory.{File, name_of}

-- a name that a call takes: not empty, not over 16 bytes, and without $A0 (else 9)
unfoldable pub valid_name_argument : Bytes → Bool
valid_name_argument n = ltb 0 (length n) && (ltb (length n) 17 && eqb (count 0xA0 n) 0)

-- a kind that a store takes: 1 SEQ or 2 PRG (else 10; 02, §12). The kinds that are carried on a disk: specs/Directory, `valid_type`
unfoldable pub storable_kind : ℕ → Bool
storable_kind k = eqb k 1 || eqb k 2

-- a DOS version, byte 2 of 18/0, that allows writing: $41 or $00 (else 11)
unfoldable pub writable : Geometry → Disk → Bool
writable g d = eqb (byte (d (sector_number g map_address)) 2) 0x41 || eqb (byte (d (sector_number g map_address)) 2) 0

-- the files of a name: on an accepted disk there is at most one
unfoldable pub files_named : Bytes → List File → List File
files_named n fs = filter (λ f. equal n (name_of f.slot.bytes)) fs

-- what a call that is done leaves and reports
pub record Change : Type 0 where
  pub image_after : Bytes
  pub output_after : Bytes
  pub reported_length : ℕ
  pub reported_sectors : ℕ

-- what the caller sees
pub record Reply : Type 0 where
  pub answer : Answer
  pub change : Change

-- image and output as they were, and a report of 0 and 0
abbrev pub unchanged : Bytes → Bytes → Change
unchanged img out = record { image_after = img; output_after = out; reported_length = 0; reported_sectors = 0 }

-- an image that is changed, with no output
abbrev pub changed : Bytes → ℕ → ℕ → Change
changed img n k = record { image_after = img; output_after = []; reported_length = n; reported_sectors = k }

-- the reply to a call that was lent this image and this output
unfoldable pub reply : Bytes → Bytes → Result Change → Reply
reply img out (refused f) = record { answer = answer_of f; change = unchanged img out }
reply img out (done c) = record { answer = unplaced 0; change = c }
