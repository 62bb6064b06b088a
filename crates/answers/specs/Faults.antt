-- What the code's faults, results and answers mean (01, Answer numbers; Host calls).
-- In order: faults; results; answers; the reply of a call and the block. The numbers themselves are d64spec's `answer_of`. Laws: proofs/AnswerLaws.
use Rattle.std.specs.Prelude.{ℕ, ◌≡◌, cond, [], length, eqb, Result as CodeResult, Ok, Err}
use Rattle.d64spec.specs.Lists.{Bytes}
use Rattle.d64spec.specs.Answers.{Address, address, Result, refused, done, wrong_size, bad_link, already_owned, bad_type, bad_name, duplicate_name, wrong_count, wrong_map_entry, bad_name_argument, bad_kind_argument, write_forbidden, name_exists, not_found, directory_full, disk_full, wrong_buffer, unknown_layout, unplaced, answer_of}
use Rattle.d64spec.specs.Answers as answer
use Rattle.d64spec.specs.Reply.{Reply}
use Rattle.d64spec.specs.Host.{answer_block}
use Rattle.answers.specs.declared.Place.{Place}
use Rattle.answers.specs.declared.Fault.{Fault}
use Rattle.answers.specs.declared.Fault.TheVariants.{WrongSize, BadLink, AlreadyOwned, BadType, BadName, DuplicateName, WrongCount, WrongMapEntry, BadNameArgument, BadKindArgument, WriteForbidden, NameExists, NotFound, DirectoryFull, DiskFull, WrongBuffer, UnknownLayout}
use Rattle.answers.specs.declared.Answer.{Answer}
use Rattle.answers.specs.declared.Done.{Done}

-- the sector that a place names
abbrev pub sector_of : Place → Address
sector_of p = address p.track p.sector

-- the fault that the code's value means, row by row
unfoldable pub fault_of : Fault → answer.Fault
fault_of WrongSize = wrong_size
fault_of (BadLink p) = bad_link (sector_of p) p.slot
fault_of (AlreadyOwned p) = already_owned (sector_of p) p.slot
fault_of (BadType p) = bad_type (sector_of p) p.slot
fault_of (BadName p) = bad_name (sector_of p) p.slot
fault_of (DuplicateName p) = duplicate_name (sector_of p) p.slot
fault_of (WrongCount p) = wrong_count (sector_of p) p.slot
fault_of (WrongMapEntry t s) = wrong_map_entry (address t s)
fault_of BadNameArgument = bad_name_argument
fault_of BadKindArgument = bad_kind_argument
fault_of WriteForbidden = write_forbidden
fault_of NameExists = name_exists
fault_of NotFound = not_found
fault_of DirectoryFull = directory_full
fault_of DiskFull = disk_full
fault_of WrongBuffer = wrong_buffer
fault_of UnknownLayout = unknown_layout

-- what a result of the code means: what it gives, as f sees it, or its fault's row
unfoldable pub result_of : {A B : Type 0} → (A → B) → CodeResult A Fault → Result B
result_of f (Ok x) = done (f x)
result_of f (Err e) = refused (fault_of e)

-- what the result of a step means that gives nothing
unfoldable pub verdict_of : CodeResult (Unit {0}) Fault → Result (Unit {0})
verdict_of (Ok u) = done tt
verdict_of (Err f) = refused (fault_of f)

-- what such a result gives where nothing was found
unfoldable pub where_fine : {A : Type 0} → CodeResult (Unit {0}) Fault → A → Result A
where_fine (Ok u) x = done x
where_fine (Err f) x = refused (fault_of f)

-- the answer that the code's value means
abbrev pub meant : Answer → answer.Answer
meant a = record { number = a.number; track = a.track; sector = a.sector; slot = a.slot }

-- the answer to a result: 0 where it is done
unfoldable pub answer_to : {A : Type 0} → Result A → answer.Answer
answer_to (refused f) = answer_of f
answer_to (done x) = unplaced 0

-- the answer to a call: 0 where it is done
unfoldable pub called_answer : CodeResult Done Fault → answer.Answer
called_answer (Ok d) = unplaced 0
called_answer (Err f) = answer_of (fault_of f)

-- what a call reports: a refused one 0 and 0 (01, Host calls)
unfoldable pub reported : CodeResult Done Fault → Done
reported (Ok d) = d
reported (Err f) = record { length = 0; sectors = 0 }

-- the reply that a call's result gives, where the call leaves this image and this output
abbrev pub reply_of : CodeResult Done Fault → Bytes → Bytes → Reply
reply_of r img out = record { answer = called_answer r; change = record { image_after = img; output_after = out; reported_length = (reported r).length; reported_sectors = (reported r).sectors } }

-- the nine bytes of an answer with a length and a number of sectors (01, Host calls)
abbrev pub block_of : answer.Answer → ℕ → ℕ → Bytes
block_of a n k = answer_block (record { answer = a; change = record { image_after = []; output_after = []; reported_length = n; reported_sectors = k } })

-- what the host gets of any answer and any report: the number and the block; a block that is not nine bytes is left, and the number is 16 (01, Host calls)
pub record Filled (a : answer.Answer) (d : Done) (block : Bytes) (r : ℕ) (block' : Bytes) : Type 0 where
  pub number : r ≡ cond (eqb (length block) 9) a.number (answer_of wrong_buffer).number
  pub filled : block' ≡ cond (eqb (length block) 9) (block_of a d.length d.sectors) block

-- what the host gets: the number and the block; a block that is not nine bytes is left, and the number is 16 (01, Host calls)
pub record Given (outcome : CodeResult Done Fault) (block : Bytes) (r : ℕ) (block' : Bytes) : Type 0 where
  pub number : r ≡ cond (eqb (length block) 9) (called_answer outcome).number (answer_of wrong_buffer).number
  pub filled : block' ≡ cond (eqb (length block) 9) (block_of (called_answer outcome) (reported outcome).length (reported outcome).sectors) block
