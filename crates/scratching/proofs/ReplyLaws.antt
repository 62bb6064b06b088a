-- What a scratch of the definitions answers, refusal by refusal, and that the code's report says the same (01, Answer numbers; Scratch).
use Prim.Native.Nat.{◌*◌}
use mathlib.Core.Path.{◌≡◌, sym, ap, ◌∙◌}
use mathlib.Core.Bool.{true, false}
use mathlib.Core.List.{[]}
use lib.ListN.{length}
use Rattle.std.specs.Prelude.{Result, Err}
use Rattle.d64spec.specs.Lists.{Bytes}
use Rattle.d64spec.specs.Answers.{Fault, refused, done, wrong_size, bad_name_argument, write_forbidden, not_found, first}
use Rattle.d64spec.specs.Geometry.{Geometry, total}
use Rattle.d64spec.specs.Image.{disk}
use Rattle.d64spec.specs.Directory.{File, files}
use Rattle.d64spec.specs.Check.{DirectoryContents, check_image}
use Rattle.d64spec.specs.Reply.{Change, Reply, reply, valid_name_argument, writable, files_named}
use Rattle.d64spec.specs.Scratch.{call_scratch, scratch_change}
use Rattle.d64spec.specs.Call.{scratch, perform, attempt, output_buffer}
use Rattle.answers.specs.declared.Fault as code
use Rattle.answers.specs.declared.Done.{Done}
use Rattle.answers.specs.Faults.{fault_of, reply_of}
use Rattle.answers.proofs.RefusedLaws.{call-refused, size-true, size-false, check-sized}

module _ (g : Geometry) where
  module _ (img name : Bytes) where
    pub scratch-size : (length img ≡ 256 * total g → ⊥) → call_scratch g img name ≡ refused wrong_size
    unfolding call_scratch
    scratch-size h = rw (size-false g img h)

    module _ (size : length img ≡ 256 * total g) where
      pub scratch-name : valid_name_argument name ≡ false → call_scratch g img name ≡ refused bad_name_argument
      unfolding call_scratch
      scratch-name asked = rw (size-true g img size, asked)

      module _ (asked : valid_name_argument name ≡ true) where
        pub scratch-fault : {f : Fault} → check_image g img ≡ refused f → call_scratch g img name ≡ refused f
        unfolding call_scratch
        scratch-fault e = rw (size-true g img size, asked, check-sized g img (size-true g img size) e)

        module _ {c : DirectoryContents} (checked : check_image g img ≡ done c) where
          pub scratch-forbidden : writable g (disk img) ≡ false → call_scratch g img name ≡ refused write_forbidden
          unfolding call_scratch
          scratch-forbidden w = rw (size-true g img size, asked, check-sized g img (size-true g img size) checked, w)

          module _ (allowed : writable g (disk img) ≡ true) where
            pub scratch-none : first not_found (files_named name (files g (disk img))) ≡ refused not_found → call_scratch g img name ≡ refused not_found
            unfolding call_scratch
            scratch-none e = rw (size-true g img size, asked, check-sized g img (size-true g img size) checked, allowed, e)

            pub scratch-some : (f : File) → first not_found (files_named name (files g (disk img))) ≡ done f
                → call_scratch g img name ≡ done (scratch_change g img f)
            unfolding call_scratch
            scratch-some f e = rw (size-true g img size, asked, check-sized g img (size-true g img size) checked, allowed, e)

    -- THE REPLY TO A SCRATCH that is refused
    pub scratch-refused : {r : Result Done code.Fault} (f : code.Fault) → r ≡ Err f → call_scratch g img name ≡ refused (fault_of f)
        → reply_of r img [] ≡ perform g img (scratch name)
    unfolding attempt output_buffer
    scratch-refused f e k = call-refused g img (scratch name) f e k

    -- THE REPLY TO A SCRATCH that is done
    pub scratch-done : {x : Reply} (c : Change) → call_scratch g img name ≡ done c → x ≡ reply img [] (done c) → x ≡ perform g img (scratch name)
    unfolding perform attempt output_buffer
    scratch-done c e k = k ∙ ap (reply img []) (sym e)
