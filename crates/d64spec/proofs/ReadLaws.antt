-- A check or a read that is done.
use Prim.Native.Nat.{◌-◌, ◌≤◌}
use native.Mathlib.Omega.{arith}
use mathlib.Core.Path.{◌≡◌, refl, sym, ap}
use mathlib.Core.Bool.{Bool, true, false, cond}
use mathlib.Core.List.Perm
use mathlib.Core.List.{List, [], ◌∷◌, Memᴰ}
use lib.ListN.{length}
use Rattle.d64spec.specs.Lists.{All, Bytes, equal, filter}
use Rattle.d64spec.specs.Answers.{Fault, done, first, not_found}
use Rattle.d64spec.specs.Geometry.{Geometry, Valid, total}
use Rattle.d64spec.specs.Image.{disk}
use Rattle.d64spec.specs.Directory.{File, files, name_of, plain_list}
use Rattle.d64spec.specs.Owner.{claim_count}
use Rattle.d64spec.specs.Check.{check_image}
use Rattle.d64spec.specs.Accepted.{Accepted}
use Rattle.d64spec.specs.Reply.{Change, files_named, reply}
use Rattle.d64spec.specs.Read.{call_read}
use Rattle.d64spec.specs.Call.{Call, call_check, check, read}
use Rattle.d64spec.specs.Host.{HostReply, answer_block, host_reply, little_endian}
use Rattle.d64spec.specs.Run.{ReadReports, plain_list_after}
use Rattle.d64spec.proofs.ListLaws.{eq-of-equal}
use Rattle.d64spec.proofs.ResultLaws.{then-done, done_inj, refused≢done}
use Rattle.d64spec.proofs.CallLaws.{read_done}
use Rattle.d64spec.proofs.BoundLaws.{file-bound}
use Rattle.d64spec.proofs.RunLaws.{StepHolds}

-- what holds of every element, of the first that is kept: with the test, and that it is an element
pub record Kept {A : Type 0} (p : A → Bool) (P : A → Type 0) (l : List A) (x : A) : Type 0 where
  pub test : p x ≡ true
  pub fact : P x
  pub element : Memᴰ x l

pub first-kept : {A : Type 0} (p : A → Bool) (P : A → Type 0) (f : Fault) (l : List A) (x : A) → All P l → first f (filter p l) ≡ done x → Kept p P l x
unfolding first
first-kept p P f [] x a e = refused≢done f x e
first-kept {A} p P f (y ∷ l) x a e = go (p y) refl (λ e'. first-kept p P f l x a.1 e') e
  where
    go : (b : Bool) → p y ≡ b → (first f (filter p l) ≡ done x → Kept p P l x) → first f (cond b (y ∷ filter p l) (filter p l)) ≡ done x → Kept p P (y ∷ l) x
    go true t k e' =
        let h : y ≡ x = done_inj e' in
        record { test = rw h at t; fact = rw h at a.0; element = Memᴰ.head (sym h) }
    go false t k e' = let r = k e' in record { test = r.test; fact = r.fact; element = Memᴰ.tail r.element }

-- a reply that leaves the image
pub unchanged-step : (g : Geometry) (img : Bytes) (c : Call) (r : HostReply) → Accepted g img → r.image_after ≡ img
    → plain_list_after (plain_list g (disk img)) c r.number ≡ plain_list g (disk img) → ReadReports g (total g - 2) img c r → StepHolds g img c r
unchanged-step g img c r a e l h = record {
  accepted = rw e a;
  holds = rw (e, l) (Perm.refl (plain_list g (disk img)));
  given = λ n b o f. absurd (let f' : claim_count g (disk img) n ≡ 0 = rw e at f in omega arith);
  kept = λ n b f f' z. rw e z;
  read = h;
}

module _ (g : Geometry) (v : Valid g) (img : Bytes) (a : Accepted g img) where
  pub check-step : (ch : Change) → call_check g img ≡ done ch → StepHolds g img check (host_reply (reply img [] (done ch)))
  unfolding call_check reply plain_list_after
  check-step ch e =
      let z = done_inj (then-done (check_image g img) _ ch e).2 in
      unchanged-step g img check (host_reply (reply img [] (done ch))) a (ap (λ (x : Change). x.image_after) (sym z)) refl tt

  pub read_step : (name out : Bytes) (ch : Change) → call_read g img name out ≡ done ch → StepHolds g img (read name out) (host_reply (reply img out (done ch)))
  unfolding reply plain_list_after files_named answer_block
  read_step name out ch e =
      let h = read_done g img name out ch e in
      let f : File = h.file in
      let z = h.change in
      let k = first-kept (λ f. equal name (name_of f.slot.bytes)) (λ f. length f.sectors ≤ total g - 2) not_found (files g (disk img)) f (file-bound g (disk img) v a.content) h.found in
      let n : ch.reported_sectors ≡ length f.sectors = ap (λ (x : Change). x.reported_sectors) (sym z) in
      unchanged-step g img (read name out) (host_reply (reply img out (done ch))) a (ap (λ (x : Change). x.image_after) (sym z)) refl
      (λ e₀. (f, ∣ k.element ∣₁, sym (eq-of-equal name (name_of f.slot.bytes) k.test), ap (little_endian 2) n, k.fact))
