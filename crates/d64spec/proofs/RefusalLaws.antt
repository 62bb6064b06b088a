-- A refused call, and every call from the calls that are done.
use Prim.Native.Nat.{ℕ, suc, ◌-◌}
use native.Mathlib.Omega.{arith}
use mathlib.Core.Path.{◌≡◌, refl}
use mathlib.Core.Bool.{Bool, true, false, cond}
use mathlib.Core.List.Perm
use mathlib.Core.List.{List}
use lib.Dec.{eqb}
use lib.ListN.{length}
use Rattle.d64spec.specs.Lists.{Bytes}
use Rattle.d64spec.specs.Answers.{Fault, Result, already_owned, answer_of, bad_kind_argument, bad_link, bad_name, bad_name_argument, bad_type, directory_full, disk_full, done, duplicate_name, name_exists, not_found, refused, write_forbidden, wrong_buffer, unknown_layout, wrong_count, wrong_map_entry, wrong_size}
use Rattle.d64spec.specs.Geometry.{Geometry, total}
use Rattle.d64spec.specs.Image.{disk}
use Rattle.d64spec.specs.Directory.{PlainEntry, plain_list}
use Rattle.d64spec.specs.Owner.{claim_count}
use Rattle.d64spec.specs.Accepted.{Accepted}
use Rattle.d64spec.specs.Reply.{Change, reply}
use Rattle.d64spec.specs.Call.{Call, attempt, check, format, output_buffer, perform, read, scratch, store}
use Rattle.d64spec.specs.Host.{HostReply, block_refused, host_call, host_reply}
use Rattle.d64spec.specs.Run.{ReadReports, Request, plain_list_after, serve}
use Rattle.d64spec.proofs.RunLaws.{StepHolds}

-- no refusal has number 0
pub fault-number : (f : Fault) → (m : ℕ) × ((answer_of f).number ≡ suc m)
fault-number wrong_size = (0, refl)
fault-number (bad_link r s) = (1, refl)
fault-number (already_owned r s) = (2, refl)
fault-number (bad_type r s) = (3, refl)
fault-number (bad_name r s) = (4, refl)
fault-number (duplicate_name r s) = (5, refl)
fault-number (wrong_count r s) = (6, refl)
fault-number (wrong_map_entry t) = (7, refl)
fault-number bad_name_argument = (8, refl)
fault-number bad_kind_argument = (9, refl)
fault-number write_forbidden = (10, refl)
fault-number name_exists = (11, refl)
fault-number not_found = (12, refl)
fault-number directory_full = (13, refl)
fault-number disk_full = (14, refl)
fault-number wrong_buffer = (15, refl)
fault-number unknown_layout = (16, refl)

-- a reply that says 0 has the change of the call
pub zero-change : (img out : Bytes) (x : Result Change) → (reply img out x).answer.number ≡ 0 → x ≡ done (reply img out x).change
unfolding reply
zero-change img out (refused f) e = absurd (let h : (answer_of f).number ≡ suc (fault-number f).0 = (fault-number f).1 in omega arith)
zero-change img out (done c) e = refl

plain_list_after-refused : (l : List PlainEntry) (c : Call) (m : ℕ) → plain_list_after l c (suc m) ≡ l
unfolding plain_list_after
plain_list_after-refused l check m = refl
plain_list_after-refused l (read name out) m = refl
plain_list_after-refused l (format name i j) m = refl
plain_list_after-refused l (store name kind bytes) m = refl
plain_list_after-refused l (scratch name) m = refl

read-refused : (g : Geometry) (img : Bytes) (c : Call) (r : HostReply) (m : ℕ) → r.number ≡ suc m → ReadReports g (total g - 2) img c r
read-refused g img check r m e = tt
read-refused g img (format name i j) r m e = tt
read-refused g img (read name o) r m e = λ h. absurd (omega arith)
read-refused g img (store name kind bytes) r m e = tt
read-refused g img (scratch name) r m e = tt

-- a refused call leaves the image, and so all that was so
pub refused-step : (g : Geometry) (img : Bytes) (c : Call) (r : HostReply) (m : ℕ) → Accepted g img → r.number ≡ suc m → r.image_after ≡ img → StepHolds g img c r
refused-step g img c r m a e z = record {
  accepted = rw z a;
  holds = rw (z, e, plain_list_after-refused (plain_list g (disk img)) c m) (Perm.refl (plain_list g (disk img)));
  given = λ n b o f. absurd (let f' : claim_count g (disk img) n ≡ 0 = rw z at f in omega arith);
  kept = λ n b o f y. rw z y;
  read = read-refused g img c r m e;
}

-- every request, from the calls that are done
pub request-step : (g : Geometry) (img : Bytes) (q : Request) → Accepted g img
    → ((ch : Change) → attempt g img q.call ≡ done ch → StepHolds g img q.call (host_reply (reply img (output_buffer q.call) (done ch))))
    → StepHolds g img q.call (serve g img q)
unfolding host_call perform reply
request-step g img q a law = by-block (eqb (length q.block) 9)
  where
    by-attempt : (x : Result Change) → attempt g img q.call ≡ x → StepHolds g img q.call (host_reply (reply img (output_buffer q.call) x))
    by-attempt (refused f) e = refused-step g img q.call (host_reply (reply img (output_buffer q.call) (refused f))) (fault-number f).0 a (fault-number f).1 refl
    by-attempt (done ch) e = law ch e

    by-block : (b : Bool) → StepHolds g img q.call (cond b (host_reply (perform g img q.call)) (block_refused img q.block q.call))
    by-block true = by-attempt (attempt g img q.call) refl
    by-block false = refused-step g img q.call (block_refused img q.block q.call) 15 a refl refl
