-- The host forms (01, Host calls): a library call's reply behind the answer block, and the replies of check and of the listing.
-- In order: the block; the layout; document 01's host calls; check; the listing. Tell: proofs/TellLaws.
-- Assumes nothing.
use Prim.Native.Nat.{ℕ}
use mathlib.Core.Path.{◌≡◌, refl, ap, sym, ◌∙◌}
use mathlib.Core.List.{[]}
use lib.ListN.{length}
use borrow.Author.Tests.{eq-eqb, ne_eqb}
use Rattle.std.specs.Prelude.{Err, Ok, IsErrAnd, MatchResult, Result as CodeResult}
use Rattle.std.proofs.lemmas.Result.{err_from_is_err_and}
use Rattle.d64spec.specs.Lists.{Bytes}
use Rattle.d64spec.specs.Answers.{Result, refused, done, unplaced, ◌>>=◌, ◌>>◌}
use Rattle.d64spec.specs.Geometry.{Geometry}
use Rattle.d64spec.specs.Check.{DirectoryContents, check_image}
use Rattle.d64spec.specs.Reply.{Change, Reply, reply, unchanged}
use Rattle.d64spec.specs.Call.{Call, check, attempt, call_check, output_buffer, perform}
use Rattle.d64spec.specs.Listing.{Listed, call_listing, listing_reply}
use Rattle.d64spec.specs.Host.{answer_block, perform_in, host_call_in}
use Rattle.d64spec.specs.Layouts.{layout_numbered}
use Rattle.geometry.specs.Layout.{geometry_of, numbered_by}
use Rattle.geometry.specs.declared.Layout.{Layout}
use Rattle.geometry.specs.declared.UnknownLayout.{UnknownLayout}
use Rattle.answers.specs.Faults.{fault_of, result_of, called_answer, reported, answer_to, reply_of, Given}
use Rattle.answers.specs.declared.Done.{Done}
use Rattle.answers.specs.declared.Fault.{Fault}
use Rattle.answers.specs.declared.Fault.TheVariants.{UnknownLayout as Unknown}
use Rattle.diskcheck.specs.ImageChecks.{IsChecked, found_in}
use Rattle.diskcheck.specs.declared.Checked.{Checked}
use Rattle.sleeve.specs.Texts.{with_track}
use Rattle.sleeve.specs.Sleeves.{SleeveListed}
use Rattle.d64.specs.HostForms.{host_form, list_into}
use Rattle.d64.specs.HostCalls.{HostServed}

-- ---- the block

-- a block that is not nine bytes: 16, and nothing is written
pub served-misfit : (img out block : Bytes) (x : Result Change) → (length block ≡ 9 → ⊥) → HostServed (host_form img out block x) 16 img out block
unfolding host_form
served-misfit img out block x misfit = record { reply = rw (ne_eqb (length block) 9 misfit) }

-- nine bytes: what the library answered is what the host gets
pub served-nine : (img out block : Bytes) (x : Result Change) (outcome : CodeResult Done Fault) (r : ℕ) (img' out' block' : Bytes) → length block ≡ 9
    → reply_of outcome img' out' ≡ reply img out x → Given outcome block r block' → HostServed (host_form img out block x) r img' out' block'
unfolding host_form answer_block
served-nine img out block x outcome r img' out' block' nine replied given =
    let same = eq-eqb (length block) 9 nine in
    let number = rw same at given.number in
    let filled = rw same at given.filled in
    record { reply = rw (same, ← replied, number, filled) }

-- ---- a call that names its layout by a number (02, §8)

-- the layout of a number, or 17
pub layout-told : (n : ℕ) (r : CodeResult Layout Fault) (t : CodeResult Layout UnknownLayout) {Q : UnknownLayout → Fault → Type 0}
    → numbered_by t ≡ layout_numbered n → MatchResult t (λ x. r ≡ Ok x) (λ e. IsErrAnd r (Q e)) → ((e : UnknownLayout) (f : Fault) → Q e f → f ≡ Unknown)
    → result_of geometry_of r ≡ layout_numbered n
unfolding result_of fault_of
layout-told n r (Ok l) told given unknown = rw given told
layout-told n r (Err e) told given unknown = let p = err_from_is_err_and r given in rw (p.1, unknown e p.0 p.2) told

-- a fault that is passed on, whatever the call
pub refused-replied : (f : Fault) (outcome : CodeResult Done Fault) → IsErrAnd outcome (λ e. e ≡ f) → (img out : Bytes)
    → reply_of outcome img out ≡ reply img out (refused (fault_of f))
unfolding reply called_answer reported
refused-replied f outcome passed img out = let p = err_from_is_err_and outcome passed in rw (p.1, p.2)

module _ (n : ℕ) {r : CodeResult Layout Fault} (told : result_of geometry_of r ≡ layout_numbered n) (img out : Bytes) (k : Geometry → Result Change) where
  -- a number without a layout: 17, image and output left
  pub unknown-replied : {f : Fault} (outcome : CodeResult Done Fault) → r ≡ Err f → IsErrAnd outcome (λ e. e ≡ f)
      → reply_of outcome img out ≡ reply img out (layout_numbered n >>= k)
  unfolding result_of
  unknown-replied {f} outcome is passed =
      let unknown : refused (fault_of f) ≡ layout_numbered n = rw is at told in
      refused-replied f outcome passed img out ∙ ap (λ (x : Result Geometry). reply img out (x >>= k)) unknown

  -- a number of a layout: the reply in that layout
  pub known-replied : {l : Layout} → r ≡ Ok l → {x : Reply} → x ≡ reply img out (k (geometry_of l)) → x ≡ reply img out (layout_numbered n >>= k)
  unfolding result_of
  known-replied {l} is replied =
      let known : done (geometry_of l) ≡ layout_numbered n = rw is at told in
      replied ∙ ap (λ (x : Result Geometry). reply img out (x >>= k)) known

-- ---- document 01's host calls

-- a host call is the host form of what it attempts
host-call-form : (n : ℕ) (img block : Bytes) (c : Call) → host_call_in n img block c
    ≡ host_form img (output_buffer c) block (layout_numbered n >>= (λ g. attempt g img c))
unfolding host_call_in host_form perform_in
host-call-form n img block c = refl

-- the laws for a host call: the block; its reply behind the block; a fault of the layout; the reply in the layout
pub call-misfit : (n : ℕ) (img block : Bytes) (c : Call) → (length block ≡ 9 → ⊥) → HostServed (host_call_in n img block c) 16 img (output_buffer c) block
call-misfit n img block c misfit = rw (host-call-form n img block c)
    (served-misfit img (output_buffer c) block (layout_numbered n >>= (λ g. attempt g img c)) misfit)

pub call-nine : (n : ℕ) (img block : Bytes) (c : Call) (outcome : CodeResult Done Fault) (r : ℕ) (img' out' block' : Bytes) → length block ≡ 9
    → reply_of outcome img' out' ≡ perform_in n img c → Given outcome block r block' → HostServed (host_call_in n img block c) r img' out' block'
unfolding perform_in
call-nine n img block c outcome r img' out' block' nine replied given = rw (host-call-form n img block c)
    (served-nine img (output_buffer c) block (layout_numbered n >>= (λ g. attempt g img c)) outcome r img' out' block' nine replied given)

module _ (n : ℕ) (img : Bytes) (c : Call) {r : CodeResult Layout Fault} (told : result_of geometry_of r ≡ layout_numbered n) where
  pub call-unknown : {f : Fault} (outcome : CodeResult Done Fault) → r ≡ Err f → IsErrAnd outcome (λ e. e ≡ f)
      → reply_of outcome img (output_buffer c) ≡ perform_in n img c
  unfolding perform_in
  call-unknown outcome is passed = unknown-replied n told img (output_buffer c) (λ g. attempt g img c) outcome is passed

  pub call-known : {l : Layout} → r ≡ Ok l → {x : Reply} → x ≡ perform (geometry_of l) img c → x ≡ perform_in n img c
  unfolding perform perform_in
  call-known is replied = known-replied n told img (output_buffer c) (λ g. attempt g img c) is replied

-- ---- check

answer-found_in : (g : Geometry) (img : Bytes) (x : Result DirectoryContents) → answer_to (found_in g img x) ≡ answer_to x
unfolding answer_to found_in
answer-found_in g img (refused f) = refl
answer-found_in g img (done c) = refl

-- check changes nothing, and its answer is the result's
reply-check : (img : Bytes) (x : Result DirectoryContents) → reply img [] (x >> done (unchanged img []))
    ≡ record { answer = answer_to x; change = unchanged img [] }
unfolding reply answer_to
reply-check img (refused f) = refl
reply-check img (done c) = refl

module _ (g : Geometry) (img : Bytes) where
  -- the check's fault is the reply to document 01's check
  pub check-refused : (f : Fault) (outcome : CodeResult Done Fault) → check_image g img ≡ refused (fault_of f) → IsErrAnd outcome (λ e. e ≡ f)
      → reply_of outcome img [] ≡ perform g img check
  unfolding perform attempt output_buffer call_check
  check-refused f outcome e passed = refused-replied f outcome passed img [] ∙ ap (λ (x : Result DirectoryContents). reply img [] (x >> done (unchanged img []))) (sym e)

  -- and an image without one: done, with a report of 0 and 0
  pub check-done : {c : Checked} → IsChecked g img c → {d : Done} → (d.length ≡ 0) × (d.sectors ≡ 0) → reply_of (Ok d) img [] ≡ perform g img check
  unfolding perform attempt output_buffer call_check called_answer reported answer_to
  check-done checked none =
      let fine : unplaced 0 ≡ answer_to (check_image g img) = sym (ap answer_to checked.told) ∙ answer-found_in g img (check_image g img) in
      rw (none.0, none.1) (ap (λ a. record { answer = a; change = unchanged img [] }) fine ∙ sym (reply-check img (check_image g img)))

-- ---- the listing

-- what a listing leaves as a change of the host form
reply-listed : (b text : Bytes) (x : Result Listed)
    → with_track b (listing_reply text x) ≡ reply b text (x >>=
    (λ l. done (record { image_after = b; output_after = l.output_after; reported_length = l.reported_length; reported_sectors = 0 })))
unfolding reply listing_reply
reply-listed b text (refused f) = refl
reply-listed b text (done l) = refl

-- what a listing leaves is the reply to the listing
pub listing-replied : (g : Geometry) (b text : Bytes) (r : CodeResult Done Fault) (text' : Bytes) → SleeveListed g b text r text'
    → reply_of r b text' ≡ reply b text (list_into g b text)
unfolding list_into
listing-replied g b text r text' listed = listed.reply ∙ reply-listed b text (call_listing g b text)
