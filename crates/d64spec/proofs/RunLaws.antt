-- The run law from a law of each call.
use Prim.Native.Nat.{ℕ, zero, suc, ◌<◌, ◌-◌}
use native.Mathlib.Omega.{arith}
use native.Mathlib.Decide.{dec_le}
use mathlib.Core.Path.{◌≡◌}
use mathlib.Core.Logic.{inl, inr}
use mathlib.Core.List.Perm
use mathlib.Core.List.{List, [], ◌∷◌, Perm}
use Rattle.d64spec.specs.Lists.{Bytes, zeros}
use Rattle.d64spec.specs.Geometry.{Geometry, total}
use Rattle.d64spec.specs.Image.{disk}
use Rattle.d64spec.specs.Directory.{PlainEntry, plain_list}
use Rattle.d64spec.specs.Owner.{Free, claim_count}
use Rattle.d64spec.specs.Accepted.{Accepted}
use Rattle.d64spec.specs.Call.{Call, check, format, read, scratch, store}
use Rattle.d64spec.specs.Host.{HostReply}
use Rattle.d64spec.specs.Run.{GivenBack, ReadReports, ReadsReport, Request, RunHolds, after, plain_list_after, plain_list_run, run, serve}
use Rattle.d64spec.proofs.ListLaws.{filter-perm}

-- what a call on an accepted image has to show of its reply
pub record StepHolds (g : Geometry) (img : Bytes) (c : Call) (r : HostReply) : Type 0 where
  pub accepted : Accepted g r.image_after
  pub holds : Perm (plain_list g (disk r.image_after)) (plain_list_after (plain_list g (disk img)) c r.number)
  -- a sector that loses its owner is zeroed
  pub given : (n : ℕ) → n < total g → 0 < claim_count g (disk img) n → Free g (disk r.image_after) n → disk r.image_after n ≡ zeros 256
  -- one that is free before and after stays zeroed
  pub kept : (n : ℕ) → n < total g → Free g (disk img) n → Free g (disk r.image_after) n → disk img n ≡ zeros 256 → disk r.image_after n ≡ zeros 256
  pub read : ReadReports g (total g - 2) img c r

-- the plain list follows a permutation
plain_list_after-perm : {l m : List PlainEntry} (c : Call) (n : ℕ) → Perm l m → Perm (plain_list_after l c n) (plain_list_after m c n)
unfolding plain_list_after
plain_list_after-perm check n h = h
plain_list_after-perm (read name out) n h = h
plain_list_after-perm (format name i j) zero h = Perm.refl []
plain_list_after-perm (format name i j) (suc n) h = h
plain_list_after-perm (store name kind bytes) zero h = Perm.cons _ h
plain_list_after-perm (store name kind bytes) (suc n) h = h
plain_list_after-perm (scratch name) zero h = filter-perm _ h
plain_list_after-perm (scratch name) (suc n) h = h

module _ (g : Geometry) (law : (img : Bytes) (q : Request) → Accepted g img → StepHolds g img q.call (serve g img q)) where
  run-accepted : (img : Bytes) (l : List Request) → Accepted g img → Accepted g (run g img l)
  run-accepted img [] a = a
  run-accepted img (q ∷ l) a = run-accepted (after g img q) l (law img q a).accepted

  run_holds : (img : Bytes) (l : List Request) (m : List PlainEntry) → Accepted g img → Perm (plain_list g (disk img)) m
      → Perm (plain_list g (disk (run g img l))) (plain_list_run g img m l)
  run_holds img [] m a h = h
  run_holds img (q ∷ l) m a h =
      run_holds (after g img q) l _ (law img q a).accepted (Perm.trans (law img q a).holds (plain_list_after-perm q.call _ h))

  -- what is zeroed while free stays so
  run-zeroed : (img : Bytes) (l : List Request) (n : ℕ) → n < total g → Accepted g img
      → (Free g (disk img) n → disk img n ≡ zeros 256) → Free g (disk (run g img l)) n → disk (run g img l) n ≡ zeros 256
  run-zeroed img [] n b a z f = z f
  run-zeroed img (q ∷ l) n b a z f =
      run-zeroed (after g img q) l n b (law img q a).accepted
      (λ f'. elim (dec_le 1 (claim_count g (disk img) n)) [
        | yes o ↦ (law img q a).given n b o f'
        | no o ↦ let f₀ : Free g (disk img) n = omega arith in (law img q a).kept n b f₀ f' (z f₀)
      ]) f

  run-given : (img : Bytes) (l : List Request) (n : ℕ) → n < total g → Accepted g img
      → GivenBack g img l n → Free g (disk (run g img l)) n → disk (run g img l) n ≡ zeros 256
  run-given img [] n b a w f = absurd w
  run-given img (q ∷ l) n b a (inl w) f =
      run-zeroed (after g img q) l n b (law img q a).accepted ((law img q a).given n b w.owned) f
  run-given img (q ∷ l) n b a (inr w) f = run-given (after g img q) l n b (law img q a).accepted w f

  run-reads : (img : Bytes) (l : List Request) → Accepted g img → ReadsReport g (total g - 2) img l
  run-reads img [] a = tt
  run-reads img (q ∷ l) a = ((law img q a).read, run-reads (after g img q) l (law img q a).accepted)

  pub run-holds-all : (img : Bytes) (l : List Request) → Accepted g img → RunHolds g (total g - 2) img l
  run-holds-all img l a = record {
    accepted = run-accepted img l a;
    holds = run_holds img l (plain_list g (disk img)) a (Perm.refl (plain_list g (disk img)));
    zeroed = λ n b w f. run-given img l n b a w f;
    reads = run-reads img l a;
  }
