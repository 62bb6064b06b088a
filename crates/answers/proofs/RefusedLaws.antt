-- What the calls share of their refusals (01, Answer numbers): the report of one is the reply to any call that is refused so; the size, and the check behind it.
-- Assumes nothing.
use Prim.Native.Nat.{◌*◌}
use mathlib.Core.Path.{◌≡◌}
use mathlib.Core.Bool.{true, false}
use lib.ListN.{length}
use borrow.Author.Tests.{eq-eqb, ne_eqb}
use Rattle.d64spec.specs.Lists.{Bytes}
use Rattle.std.specs.Prelude.{Result as CodeResult, Err}
use Rattle.d64spec.specs.Answers.{Result, refused}
use Rattle.d64spec.specs.Geometry.{Geometry, total}
use Rattle.d64spec.specs.Image.{disk}
use Rattle.d64spec.specs.Check.{DirectoryContents, right_size, check_disk, check_image}
use Rattle.d64spec.specs.Reply.{Change, reply}
use Rattle.d64spec.specs.Call.{Call, perform, attempt, output_buffer}
use Rattle.answers.specs.declared.Fault.{Fault}
use Rattle.answers.specs.declared.Done.{Done}
use Rattle.answers.specs.Faults.{fault_of, called_answer, reported, reply_of}

-- a refusal reports that refusal
pub refused-reply : {img out : Bytes} {rep : CodeResult Done Fault} {x : Result Change} (f : Fault) → rep ≡ Err f
    → x ≡ refused (fault_of f)
    → reply_of rep img out ≡ reply img out x
unfolding reply called_answer reported
refused-reply f e r = rw (e, r)

-- THE REPLY TO A CALL that is refused, whichever it is
pub call-refused : (g : Geometry) (img : Bytes) (c : Call) {rep : CodeResult Done Fault} (f : Fault) → rep ≡ Err f
    → attempt g img c ≡ refused (fault_of f)
    → reply_of rep img (output_buffer c) ≡ perform g img c
unfolding perform
call-refused g img c f e r = refused-reply f e r

-- ---- the size and the check

pub size-true : (g : Geometry) (img : Bytes) → length img ≡ 256 * total g → right_size g img ≡ true
unfolding right_size
size-true g img h = eq-eqb (length img) (256 * total g) h

pub size-false : (g : Geometry) (img : Bytes) → (length img ≡ 256 * total g → ⊥) → right_size g img ≡ false
unfolding right_size
size-false g img h = ne_eqb (length img) (256 * total g) h

-- the check of an image of the right size is that of its sectors
pub check-sized : (g : Geometry) (img : Bytes) {x : Result DirectoryContents} → right_size g img ≡ true → check_image g img ≡ x → check_disk g (disk img) ≡ x
unfolding check_image
check-sized g img size e = rw size at e
