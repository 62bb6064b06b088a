-- The reply to a format (01, Answer numbers; Format): refused with 1 or 9, or done; and that the code's report says the same.
use Prim.Native.Nat.{ℕ, ◌*◌}
use mathlib.Core.Path.{◌≡◌, refl}
use mathlib.Core.Bool.{true, false}
use mathlib.Core.List.{[]}
use lib.ListN.{length}
use Rattle.std.specs.Prelude.{Ok, Err}
use Rattle.d64spec.specs.Lists.{Bytes}
use Rattle.d64spec.specs.Answers.{refused, wrong_size, bad_name_argument}
use Rattle.d64spec.specs.Geometry.{Geometry, total}
use Rattle.d64spec.specs.Image.{image}
use Rattle.d64spec.specs.Reply.{reply, valid_name_argument}
use Rattle.d64spec.specs.Format.{call_format, formatted_disk}
use Rattle.d64spec.specs.Call.{attempt, format, output_buffer, perform}
use Rattle.answers.specs.declared.Fault as code
use Rattle.answers.specs.declared.Done.{Done}
use Rattle.answers.specs.Faults.{fault_of, called_answer, reported, reply_of}
use Rattle.answers.proofs.RefusedLaws.{call-refused, size-true, size-false}

module _ (g : Geometry) (img name : Bytes) (i j : ℕ) where
  -- THE REPLY TO A FORMAT that is refused
  pub format-refused : (f : code.Fault) → call_format g img name i j ≡ refused (fault_of f)
      → reply_of (Err f) img [] ≡ perform g img (format name i j)
  unfolding attempt output_buffer
  format-refused f r = call-refused g img (format name i j) f refl r

  pub format-size : (length img ≡ 256 * total g → ⊥) → call_format g img name i j ≡ refused wrong_size
  unfolding call_format
  format-size other = rw (size-false g img other)

  module _ (size : length img ≡ 256 * total g) where
    pub format-name : valid_name_argument name ≡ false → call_format g img name i j ≡ refused bad_name_argument
    unfolding call_format
    format-name asked = rw (size-true g img size, asked)

    -- THE REPLY TO A FORMAT that is done
    pub format-done : {d : Done} {img' : Bytes} → valid_name_argument name ≡ true → img' ≡ image g (formatted_disk g name i j)
        → d.length ≡ 0 → d.sectors ≡ 0 → reply_of (Ok d) img' [] ≡ perform g img (format name i j)
    unfolding perform attempt output_buffer call_format reply called_answer reported
    format-done asked e none nowhere = rw (none, nowhere, e, size-true g img size, asked)
