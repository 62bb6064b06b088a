-- Demand 3, for every layout that is valid, and for 35 tracks. In the layout that a number names: LayoutTheorem.
use Prim.Native.Nat.{ℕ, ◌-◌}
use mathlib.Core.Path.{◌≡◌, subst}
use mathlib.Core.List.{List}
use Rattle.d64spec.specs.Lists.{Bytes}
use Rattle.d64spec.specs.Answers.{done}
use Rattle.d64spec.specs.Geometry.{Geometry, Valid, layout35, total}
use Rattle.d64spec.specs.Accepted.{Accepted}
use Rattle.d64spec.specs.Reply.{Change, reply}
use Rattle.d64spec.specs.Call.{Call, attempt, check, format, output_buffer, read, scratch, store}
use Rattle.d64spec.specs.Host.{host_reply}
use Rattle.d64spec.specs.Run.{Request, RunHolds}
use Rattle.d64spec.proofs.LayoutLaws.{sectors35, valid35}
use Rattle.d64spec.proofs.RunLaws.{StepHolds, run-holds-all}
use Rattle.d64spec.proofs.RefusalLaws.{request-step}
use Rattle.d64spec.proofs.ReadLaws.{check-step, read_step}
use Rattle.d64spec.proofs.FormatLaws.{format-step}
use Rattle.d64spec.proofs.ScratchStep.{scratch-step}
use Rattle.d64spec.proofs.StoreStep.{store_step}

call-right : (g : Geometry) → Valid g → (img : Bytes) → Accepted g img → (c : Call) (ch : Change) → attempt g img c ≡ done ch → StepHolds g img c (host_reply (reply img (output_buffer c) (done ch)))
unfolding attempt output_buffer
call-right g v img a check ch e = check-step g v img a ch e
call-right g v img a (format name i j) ch e = format-step g v img name i j ch e
call-right g v img a (read name out) ch e = read_step g v img a name out ch e
call-right g v img a (store name kind bs) ch e = store_step g v img a name kind bs ch e
call-right g v img a (scratch name) ch e = scratch-step g v img a name ch e

-- every list of calls, on every accepted image
pub every-run : (g : Geometry) → Valid g → (img : Bytes) (l : List Request) → Accepted g img → RunHolds g (total g - 2) img l
every-run g v img l a = run-holds-all g (λ i q b. request-step g i q b (call-right g v i b q.call)) img l a

-- ---- 35 tracks: 683 sectors, so that a chain has at most 681

pub demand-3 : (img : Bytes) (l : List Request) → Accepted layout35 img → RunHolds layout35 681 img l
demand-3 img l a = subst (λ (n : ℕ). RunHolds layout35 (n - 2) img l) sectors35 (every-run layout35 valid35 img l a)
