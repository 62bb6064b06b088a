-- 17 comes before all that a call asks, and behind the answer block's 16 alone; nothing else gives it (02, §8).
-- In order: any call, behind its layout's number; what the caller sees of it; the number 17; the calls, tell and the listing; the host calls.
use Prim.Native.Nat.{ℕ, zero, suc}
use native.Mathlib.Omega.{arith}
use mathlib.Core.Path.{◌≡◌, refl, ap, ◌∙◌}
use mathlib.Core.Bool.{Bool, true, false}
use mathlib.Core.Logic.{◌↔◌, inl, inr}
use mathlib.Core.List.{List, ◌∷◌}
use lib.ListN.{length}
use lib.Dec.{eqb}
use borrow.Author.Tests.{eq-eqb, eqb-true, eqb-false, ne_eqb}
use Rattle.d64spec.specs.Lists.{Bytes, zeros}
use Rattle.d64spec.specs.Answers.{Fault, Result, ◌>>=◌, answer_of, done, refused, unknown_layout}
use Rattle.d64spec.specs.Geometry.{Geometry, layout35, speed_dos, dolphin}
use Rattle.d64spec.specs.Layouts.{Known, layout_numbered}
use Rattle.d64spec.specs.Rules.{IsLayout}
use Rattle.d64spec.specs.Reply.{reply, unchanged}
use Rattle.d64spec.specs.Read.{call_tell, no_information, tell_reply}
use Rattle.d64spec.specs.Call.{Call, attempt, output_buffer}
use Rattle.d64spec.specs.Listing.{call_listing, listing_reply}
use Rattle.d64spec.specs.Host.{HostReply, answer_block, block_refused, host_call_in, host_reply, perform_in}
use Rattle.d64spec.specs.Order.{AllHold, Condition, FirstFails, asked_in, asks_layout, conditions, in_layout, listing_conditions, tell_conditions}
use Rattle.d64spec.specs.Facts.{LeftAlone}
use Rattle.d64spec.proofs.ConditionLaws.{Decided, decided-then}
use Rattle.d64spec.proofs.NumberLaws.{Answers, Between, call-answers, first_fails-answers, listing-low, tell-answers}
use Rattle.d64spec.proofs.LayoutLaws.{known35, known-speed_dos, known-dolphin}
use Rattle.d64spec.proofs.OrderTheorem.{decided-call, decided-fails, decided-holds, decided-listing, decided-some, decided-tell, decided-zero, listing-number, number_of, reply-number, tell-number}

-- ---- any call, behind its layout's number

-- a number that has a layout asks no more
behind : {A : Type 0} {r : Result A} {m : List Condition} (n : ℕ) → IsLayout n → Decided r m → Decided r (asks_layout n ∷ m)
behind n is d = decided-then (decided-holds n (IsLayout n) unknown_layout is) (λ h. d)

-- no other number is 0, 1 or 2
past-2 : (n : ℕ) → IsLayout (suc (suc (suc n))) → ⊥
past-2 n (inl e) = omega arith
past-2 n (inr (inl e)) = omega arith
past-2 n (inr (inr e)) = omega arith

-- THE LAYOUT FIRST: what decides a call in every layout decides it behind the layout's number
pub decided-in : {A : Type 0} (k : Geometry → Result A) (asked : Geometry → List Condition) → ((g : Geometry) → Known g → Decided (k g) (asked g))
    → (n : ℕ) → Decided (layout_numbered n >>= k) (in_layout n asked)
unfolding layout_numbered asked_in
decided-in k asked d zero = behind 0 (inl refl) (d layout35 known35)
decided-in k asked d (suc zero) = behind 1 (inr (inl refl)) (d speed_dos known-speed_dos)
decided-in k asked d (suc (suc zero)) = behind 2 (inr (inr refl)) (d dolphin known-dolphin)
decided-in k asked d (suc (suc (suc n))) = decided-fails (IsLayout (suc (suc (suc n)))) unknown_layout (past-2 n)

-- ---- what the caller sees of any result

module _ {A R : Type 0} (seen : Result A → R) (number : R → ℕ) (says : (x : Result A) → number (seen x) ≡ number_of x)
    {x : Result A} {l : List Condition} (d : Decided x l) where
  seen-exactly : (number (seen x) ≡ 0) ↔ AllHold l
  seen-exactly = rw (says x) (decided-zero x d)

  seen_first : (f : Fault) → FirstFails l f → seen x ≡ seen (refused f)
  seen_first f h = ap seen ((d.when_refused f).1 h)

  seen-some : (number (seen x) ≡ 0 → ⊥) → (f : Fault) × FirstFails l f × (seen x ≡ seen (refused f))
  seen-some h =
      let w = decided-some x d (λ e. h (says x ∙ e)) in
      (w.0, w.1, seen_first w.0 w.1)

-- ---- the number 17

answers-in : (P : Fault → Type 0) (asked : Geometry → List Condition) → ((g : Geometry) → Answers P (asked g)) → (n : ℕ) → Answers P (asked_in n asked)
unfolding asked_in
answers-in P asked a zero = a layout35
answers-in P asked a (suc zero) = a speed_dos
answers-in P asked a (suc (suc zero)) = a dolphin
answers-in P asked a (suc (suc (suc n))) = tt

-- a call that asks for nothing above 16 in its layout answers 17 exactly where the number has none
module _ {A : Type 0} (n : ℕ) (asked : Geometry → List Condition) (low : (g : Geometry) → Answers (Between 1 16) (asked g)) where
  unknown-only : (x : Result A) → Decided x (in_layout n asked) → (number_of x ≡ 17) ↔ (IsLayout n → ⊥)
  unknown-only x d = (from x d, (λ none. ap number_of ((d.when_refused unknown_layout).1 (inl (none, refl)))))
    where
      from : (x : Result A) → Decided x (in_layout n asked) → number_of x ≡ 17 → IsLayout n → ⊥
      from (refused f) d e is = elim ((d.when_refused f).0 refl) [
        | inl h ↦ h.0 is
        | inr h ↦ let b = first_fails-answers (Between 1 16) (asked_in n asked) f (answers-in (Between 1 16) asked low n) h.1 in omega arith
      ]
      from (done y) d e is = omega arith

-- ---- the calls, tell and the listing

module _ (n : ℕ) (img : Bytes) where
  -- THE ORDER OF A CALL THAT NAMES ITS LAYOUT
  pub decided-call-in : (c : Call) → Decided (layout_numbered n >>= (λ g. attempt g img c)) (in_layout n (λ g. conditions g img c))
  decided-call-in c = decided-in (λ g. attempt g img c) (λ g. conditions g img c) (λ g k. decided-call g k.valid img c) n

  -- done exactly when all that it asks holds
  pub done-exactly-in : (c : Call) → ((perform_in n img c).answer.number ≡ 0) ↔ AllHold (in_layout n (λ g. conditions g img c))
  unfolding perform_in
  done-exactly-in c = seen-exactly (reply img (output_buffer c)) (λ r. r.answer.number) (reply-number img (output_buffer c)) (decided-call-in c)

  -- else refused with the first fault, and with nothing else
  pub first-fault-in : (c : Call) (f : Fault) → FirstFails (in_layout n (λ g. conditions g img c)) f
      → perform_in n img c ≡ record { answer = answer_of f; change = unchanged img (output_buffer c) }
  unfolding perform_in reply
  first-fault-in c f h = seen_first (reply img (output_buffer c)) (λ r. r.answer.number) (reply-number img (output_buffer c)) (decided-call-in c) f h

  pub some-fault-in : (c : Call) → ((perform_in n img c).answer.number ≡ 0 → ⊥)
      → (f : Fault) × FirstFails (in_layout n (λ g. conditions g img c)) f
      × (perform_in n img c ≡ record { answer = answer_of f; change = unchanged img (output_buffer c) })
  unfolding perform_in reply
  some-fault-in c h = seen-some (reply img (output_buffer c)) (λ r. r.answer.number) (reply-number img (output_buffer c)) (decided-call-in c) h

  -- 17 exactly where the number has no layout
  pub unknown-call : (c : Call) → ((perform_in n img c).answer.number ≡ 17) ↔ (IsLayout n → ⊥)
  unfolding perform_in
  unknown-call c =
      rw (reply-number img (output_buffer c) (layout_numbered n >>= (λ g. attempt g img c)))
      (unknown-only n (λ g. conditions g img c) (λ g. call-answers g img c) _ (decided-call-in c))

  -- A TELL
  pub decided-tell-in : (position : ℕ) → Decided (layout_numbered n >>= (λ g. call_tell g img position)) (in_layout n (λ g. tell_conditions g img position))
  decided-tell-in position = decided-in (λ g. call_tell g img position) (λ g. tell_conditions g img position) (λ g k. decided-tell g k.valid img position) n

  pub tell-exactly-in : (position : ℕ)
      → ((tell_reply (layout_numbered n >>= (λ g. call_tell g img position))).answer.number ≡ 0) ↔ AllHold (in_layout n (λ g. tell_conditions g img position))
  tell-exactly-in position = seen-exactly tell_reply (λ r. r.answer.number) tell-number (decided-tell-in position)

  pub tell-first-fault-in : (position : ℕ) (f : Fault) → FirstFails (in_layout n (λ g. tell_conditions g img position)) f
      → tell_reply (layout_numbered n >>= (λ g. call_tell g img position)) ≡ record { answer = answer_of f; information = no_information }
  unfolding tell_reply
  tell-first-fault-in position f h = seen_first tell_reply (λ r. r.answer.number) tell-number (decided-tell-in position) f h

  pub tell-some-fault-in : (position : ℕ) → ((tell_reply (layout_numbered n >>= (λ g. call_tell g img position))).answer.number ≡ 0 → ⊥)
      → (f : Fault) × FirstFails (in_layout n (λ g. tell_conditions g img position)) f
      × (tell_reply (layout_numbered n >>= (λ g. call_tell g img position)) ≡ record { answer = answer_of f; information = no_information })
  unfolding tell_reply
  tell-some-fault-in position h = seen-some tell_reply (λ r. r.answer.number) tell-number (decided-tell-in position) h

  pub unknown-tell : (position : ℕ) → ((tell_reply (layout_numbered n >>= (λ g. call_tell g img position))).answer.number ≡ 17) ↔ (IsLayout n → ⊥)
  unknown-tell position =
      rw (tell-number (layout_numbered n >>= (λ g. call_tell g img position)))
      (unknown-only n (λ g. tell_conditions g img position) (λ g. tell-answers g img position) _ (decided-tell-in position))

-- A LISTING
module _ (n : ℕ) (b out : Bytes) where
  pub decided-listing-in : Decided (layout_numbered n >>= (λ g. call_listing g b out)) (in_layout n (λ g. listing_conditions g b out))
  decided-listing-in = decided-in (λ g. call_listing g b out) (λ g. listing_conditions g b out) (λ g k. decided-listing g k.valid b out) n

  pub listing-exactly-in : ((listing_reply out (layout_numbered n >>= (λ g. call_listing g b out))).answer.number ≡ 0)
      ↔ AllHold (in_layout n (λ g. listing_conditions g b out))
  listing-exactly-in = seen-exactly (listing_reply out) (λ r. r.answer.number) (listing-number out) decided-listing-in

  pub listing-first-fault-in : (f : Fault) → FirstFails (in_layout n (λ g. listing_conditions g b out)) f
      → listing_reply out (layout_numbered n >>= (λ g. call_listing g b out))
      ≡ record { answer = answer_of f; listed = record { output_after = out; reported_length = 0 } }
  unfolding listing_reply
  listing-first-fault-in f h = seen_first (listing_reply out) (λ r. r.answer.number) (listing-number out) decided-listing-in f h

  pub listing-some-fault-in : ((listing_reply out (layout_numbered n >>= (λ g. call_listing g b out))).answer.number ≡ 0 → ⊥)
      → (f : Fault) × FirstFails (in_layout n (λ g. listing_conditions g b out)) f
      × (listing_reply out (layout_numbered n >>= (λ g. call_listing g b out))
      ≡ record { answer = answer_of f; listed = record { output_after = out; reported_length = 0 } })
  unfolding listing_reply
  listing-some-fault-in h = seen-some (listing_reply out) (λ r. r.answer.number) (listing-number out) decided-listing-in h

  pub unknown-listing : ((listing_reply out (layout_numbered n >>= (λ g. call_listing g b out))).answer.number ≡ 17) ↔ (IsLayout n → ⊥)
  unknown-listing =
      rw (listing-number out (layout_numbered n >>= (λ g. call_listing g b out)))
      (unknown-only n (λ g. listing_conditions g b out) (λ g. listing-low g b out) _ decided-listing-in)

-- ---- the host calls

module _ (n : ℕ) (img block : Bytes) (c : Call) where
  -- 16 FOR THE BLOCK COMES BEFORE 17, and nothing is written
  pub wrong-block-in : (length block ≡ 9 → ⊥) → host_call_in n img block c ≡ block_refused img block c
  unfolding host_call_in
  wrong-block-in h = rw (ne_eqb (length block) 9 h)

  pub right-block-in : length block ≡ 9 → host_call_in n img block c ≡ host_reply (perform_in n img c)
  unfolding host_call_in
  right-block-in h = rw (eq-eqb (length block) 9 h)

  -- THE FIRST FAULT ANSWERS: its number is returned, its place stands in the block, a report of 0 and 0, and no byte changed
  pub host-first-fault-in : (f : Fault) → length block ≡ 9 → FirstFails (in_layout n (λ g. conditions g img c)) f
      → host_call_in n img block c
      ≡ record { number = (answer_of f).number; image_after = img; output_after = output_buffer c; block_after = (answer_of f).track ∷ (answer_of f).sector ∷ (answer_of f).slot ∷ zeros 6 }
  unfolding answer_block
  host-first-fault-in f nine h = right-block-in nine ∙ ap host_reply (first-fault-in n img c f h)

  -- A NUMBER THAT HAS NO LAYOUT: 17 at 0, 0, 255, whatever else is wrong
  pub host-unknown : length block ≡ 9 → (IsLayout n → ⊥)
      → host_call_in n img block c ≡ record { number = 17; image_after = img; output_after = output_buffer c; block_after = 0 ∷ 0 ∷ 255 ∷ zeros 6 }
  host-unknown nine none = host-first-fault-in unknown_layout nine (inl (none, refl))

  -- REFUSED CALLS CHANGE NO BYTE, refusals with 17 among them
  pub refused-left-in : ((host_call_in n img block c).number ≡ 0 → ⊥) → LeftAlone img (output_buffer c) block (host_call_in n img block c)
  unfolding answer_block
  refused-left-in h = go (eqb (length block) 9) refl
    where
      go : (b : Bool) → eqb (length block) 9 ≡ b → LeftAlone img (output_buffer c) block (host_call_in n img block c)
      go true t =
          let nine : length block ≡ 9 = eqb-true (length block) 9 t in
          let e = right-block-in nine in
          let w = some-fault-in n img c (λ z. h (ap (λ (r : HostReply). r.number) e ∙ z)) in
          rw (e, w.2) (record { image = refl; output = refl; reports = λ k. refl; other_block = λ k. absurd (k nine) })
      go false t =
          let other : length block ≡ 9 → ⊥ = eqb-false (length block) 9 t in
          rw (wrong-block-in other) (record { image = refl; output = refl; reports = λ k. absurd (other k); other_block = λ k. refl })
