-- Files that were there at the start, and USR files, through every list of calls (02, §12). Calls on a disk that has some: proofs/EdgeTables.
use Prim.Native.Nat.{ℕ, zero, suc}
use native.Mathlib.Omega.{arith}
use mathlib.Core.Path.{◌≡◌, refl, ap}
use mathlib.Core.Bool.{Bool, true, false, not}
use mathlib.Core.Logic.{⊎_elim, ∥∥₁_elim, ∥∥₁_map}
use mathlib.Core.List.Perm
use mathlib.Core.List.{List, [], ◌∷◌, Perm, Mem, mem-cons_of_mem, mem_of_ne_of_mem, not-mem-nil}
use Rattle.d64spec.specs.Lists.{Bytes, equal}
use Rattle.d64spec.specs.Geometry.{Geometry, Valid}
use Rattle.d64spec.specs.Image.{disk}
use Rattle.d64spec.specs.Directory.{PlainEntry, plain_list}
use Rattle.d64spec.specs.Answers.{done}
use Rattle.d64spec.specs.Reply.{Change}
use Rattle.d64spec.specs.Accepted.{Accepted}
use Rattle.d64spec.specs.Call.{Call, attempt, check, format, read, scratch, store}
use Rattle.d64spec.specs.Rules.{IsStorableKind}
use Rattle.d64spec.specs.Run.{Request, after, plain_list_after, plain_list_run, run, serve}
use Rattle.d64spec.specs.Retired.{Holds, Removes, Spared, StartKept}
use Rattle.d64spec.proofs.ListLaws.{equal-refl, eq-of-equal}
use Rattle.d64spec.proofs.SplitLaws.{mem-filter, mem-kept}
use Rattle.d64spec.proofs.CallLaws.{store-done}
use Rattle.d64spec.proofs.RuleLaws.{kind-exact}
use Rattle.d64spec.proofs.RunTheorem.{every-run}
use Rattle.d64spec.proofs.GivenBack.{answered-zero}

-- a store answered 0 was of a kind that a store takes
abbrev TakenKind : Call → Type 0
TakenKind check = Unit {0}
TakenKind (format name i j) = Unit {0}
TakenKind (read name out) = Unit {0}
TakenKind (store name kind bytes) = IsStorableKind kind
TakenKind (scratch name) = Unit {0}

taken-kind : (g : Geometry) (img : Bytes) (q : Request) → (serve g img q).number ≡ 0 → TakenKind q.call
unfolding attempt
taken-kind g img q h = let w = answered-zero g img q h in go q.call w.change w.attempted
  where
    go : (c : Call) (ch : Change) → attempt g img c ≡ done ch → TakenKind c
    go check ch e = tt
    go (format name i j) ch e = tt
    go (read name out) ch e = tt
    go (store name kind bytes) ch e = (kind-exact kind).0 (store-done g img name kind bytes ch e).kind-asked
    go (scratch name) ch e = tt

module _ (e : PlainEntry) where
  -- a scratch of another name keeps the entry
  other_name : (name : Bytes) → (name ≡ e.name → ⊥) → not (equal name e.name) ≡ true
  other_name name h = go (equal name e.name) refl
    where
      go : (b : Bool) → equal name e.name ≡ b → not b ≡ true
      go true t = absurd (h (eq-of-equal name e.name t))
      go false t = refl

  -- a call keeps what it does not remove
  kept-after : (l : List PlainEntry) (c : Call) (n : ℕ) → (n ≡ 0 → Removes c e.name → ⊥) → Mem e l → Mem e (plain_list_after l c n)
  unfolding plain_list_after
  kept-after l check n h m = m
  kept-after l (read name out) n h m = m
  kept-after l (format name i j) zero h m = absurd (h refl tt)
  kept-after l (format name i j) (suc n) h m = m
  kept-after l (store name kind bytes) zero h m = mem-cons_of_mem _ m
  kept-after l (store name kind bytes) (suc n) h m = m
  kept-after l (scratch name) zero h m = ∥∥₁_map m (λ d. mem-kept _ (other_name name (h refl)) d)
  kept-after l (scratch name) (suc n) h m = m

  -- and where its kind is 3, what is there afterwards was there before
  old-after : (l : List PlainEntry) (c : Call) (n : ℕ) → e.kind ≡ 3 → (n ≡ 0 → TakenKind c)
      → Mem e (plain_list_after l c n) → Mem e l
  unfolding plain_list_after
  old-after l check n k t m = m
  old-after l (read name out) n k t m = m
  old-after l (format name i j) zero k t m = absurd (not-mem-nil m)
  old-after l (format name i j) (suc n) k t m = m
  old-after l (store name kind bytes) zero k t m = mem_of_ne_of_mem (λ same. new (ap (λ (x : PlainEntry). x.kind) same)) m
    where
      new : e.kind ≡ kind → ⊥
      new z = ⊎_elim (λ (h : kind ≡ 1). omega arith) (λ (h : kind ≡ 2). omega arith) (t refl)
  old-after l (store name kind bytes) (suc n) k t m = m
  old-after l (scratch name) zero k t m = ∥∥₁_map m (λ d. (mem-filter _ l d).0)
  old-after l (scratch name) (suc n) k t m = m

  -- and was not removed
  spared-after : (l : List PlainEntry) (c : Call) (n : ℕ) → Mem e (plain_list_after l c n) → n ≡ 0 → Removes c e.name → ⊥
  unfolding plain_list_after
  spared-after l check n m z r = r
  spared-after l (read name out) n m z r = r
  spared-after l (format name i j) zero m z r = not-mem-nil m
  spared-after l (format name i j) (suc n) m z r = omega arith
  spared-after l (store name kind bytes) n m z r = r
  spared-after l (scratch name) zero m z r =
      ∥∥₁_elim m (λ a b. absurd a) (λ d.
      let t : not (equal name e.name) ≡ true = (mem-filter _ l d).1 in
      let u : equal name e.name ≡ true = rw r (equal-refl e.name) in
      let y : ◌≡◌ {A = ℕ} 0 1 = cc in omega arith)
  spared-after l (scratch name) (suc n) m z r = omega arith

  module _ (g : Geometry) where
    kept_run : (img : Bytes) (l : List PlainEntry) (qs : List Request) → Mem e l → Spared g img qs e.name → Mem e (plain_list_run g img l qs)
    kept_run img l [] m s = m
    kept_run img l (q ∷ qs) m s = kept_run (after g img q) _ qs (kept-after l q.call _ s.0 m) s.1

    old-run : (img : Bytes) (l : List PlainEntry) (qs : List Request) → e.kind ≡ 3
        → Mem e (plain_list_run g img l qs) → Mem e l × Spared g img qs e.name
    old-run img l [] k m = (m, tt)
    old-run img l (q ∷ qs) k m =
        let r = old-run (after g img q) _ qs k m in
        (old-after l q.call _ k (taken-kind g img q) r.0, (spared-after l q.call _ r.0, r.1))

-- FILES THAT WERE THERE AT THE START stay until they are removed, and no other USR file is there:
-- every layout that is valid, every accepted image, every list of calls
pub start-kept : (g : Geometry) → Valid g → (img : Bytes) (l : List Request) → Accepted g img → StartKept g img l
start-kept g v img l a = record { kept = stays; usr = λ e k. (was e k, λ w. stays e w.0 w.1) }
  where
    h : Perm (plain_list g (disk (run g img l))) (plain_list_run g img (plain_list g (disk img)) l)
    h = (every-run g v img l a).holds

    stays : (e : PlainEntry) → Holds g img e → Spared g img l e.name → Holds g (run g img l) e
    stays e m s = Perm.subset (Perm.symm h) e (kept_run e g img (plain_list g (disk img)) l m s)

    was : (e : PlainEntry) → e.kind ≡ 3 → Holds g (run g img l) e → Holds g img e × Spared g img l e.name
    was e k m = old-run e g img (plain_list g (disk img)) l k (Perm.subset h e m)
