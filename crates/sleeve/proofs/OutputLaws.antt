-- What the program prints is what the listing's reply says (01, Sleeve listing). Assumes nothing.
use Prim.Native.Nat.{ℕ, ◌+◌, ◌*◌, ◌-◌}
use native.Mathlib.Decide.{dec_le}
use native.Mathlib.Omega.{arith}
use mathlib.Core.Path.{◌≡◌, refl, ap, ◌∙◌}
use mathlib.Core.List.{◌++◌}
use lib.ListN.{length, take, drop, drop_of_length-le, length-replicate}
use lib.Seq.{take-append_seam}
use borrow.Author.Tests.{eq-eqb, ne_eqb}
use Rattle.d64spec.specs.Lists.{Bytes, zeros}
use Rattle.d64spec.specs.Answers.{Answer, Fault, Result, refused, done, answer_of, unplaced}
use Rattle.d64spec.specs.Geometry.{Geometry, total, sector_number, sectors_on, map_address}
use Rattle.d64spec.specs.Check.{right_size}
use Rattle.d64spec.specs.Listing.{Listed, ListingReply, bytes_of_track18, call_listing, listing_output, listing_reply, refusal_line, sleeve_output}
use Rattle.d64spec.specs.Facts.{text_of}
use Rattle.d64spec.specs.Reply.{Reply}
use Rattle.d64spec.proofs.RefusalLaws.{fault-number}
use Rattle.d64spec.specs.Layouts.{Known}
use Rattle.d64spec.proofs.ListingTheorem.{listing-done}
use Rattle.std.specs.Prelude.{Err, None, Ok, Option, Some}
use Rattle.answers.specs.Faults.{called_answer, fault_of, meant, reported}
use Rattle.geometry.specs.Layout.{geometry_of}
use Rattle.geometry.specs.declared.Layout.{Layout}
use Rattle.layouts.specs.Named.{named_by}
use Rattle.answers.specs.declared.Fault.TheVariants.{UnknownLayout, WrongSize}
use Rattle.answers.specs.declared.Answer as given
use Rattle.answers.specs.declared.Fault as code
use Rattle.answers.specs.declared.Done.{Done}
use Rattle.parts.proofs.PartLaws.{drop-replicate}
use Rattle.sleeve.specs.declared.Printed.{Printed}
use Rattle.sleeve.specs.Texts.{Prints, blank_text, program_output}
use Rattle.sleeve.specs.Sleeves.{SleeveListed}

-- zeros from a place on
drop-zeros : (k n : ℕ) → drop k (zeros n) ≡ zeros (n - k)
drop-zeros k n = elim (dec_le k n) [
  | yes h ↦ drop-replicate k n 0 h
  | no h ↦ let none : n - k ≡ 0 = omega arith in
      rw none (drop_of_length-le (zeros n) {i = k} (omega (arith, length-replicate {A = ℕ} n 0)))
]

-- equal bytes are printed alike
prints-as : {l m : Bytes} → l ≡ m → {r : Printed} → Prints l r → Prints m r
prints-as e p = record { text = p.text ∙ ap (λ (l : Bytes). l ++ zeros (6234 - length l)) e; size = p.size ∙ ap length e }

-- the number of a fault's answer
pub prints-number : (f : code.Fault) {a : given.Answer} → meant a ≡ answer_of (fault_of f) → {r : Printed} → Prints (refusal_line a.number) r
    → Prints (refusal_line (answer_of (fault_of f)).number) r
prints-number f answered p = prints-as (ap (λ (a : Answer). refusal_line a.number) answered) p

-- ---- a reply with answer 0 is a listing's, one with a fault's answer is a refusal's

module _ (g : Geometry) (kn : Known g) (b text text' : Bytes) (n : ℕ) (blank : text ≡ blank_text) where
  -- what the listing leaves, where its answer is this
  abbrev Replies : Answer → Result Listed → Type 0
  Replies a x = record { answer = a; listed = record { output_after = text'; reported_length = n } } ≡ listing_reply text x

  listed-prints : (x : Result Listed) → call_listing g b text ≡ x → Replies (unplaced 0) x → Prints (listing_output x) (record { text = text'; length = n })
  unfolding listing_reply listing_output blank_text
  listed-prints (refused x) called e =
      let zeroth : 0 ≡ (answer_of x).number = ap (λ (r : ListingReply). r.answer.number) e in
      let positive = (fault-number x).1 in
      absurd (omega arith)
  listed-prints (done l) called e =
      let written = listing-done g kn.valid b text l called in
      let after : text' ≡ l.output_after = ap (λ (r : ListingReply). r.listed.output_after) e in
      let size : n ≡ length (text_of g b) = ap (λ (r : ListingReply). r.listed.reported_length) e ∙ written.1 in
      let whole : take l.reported_length l.output_after ≡ text_of g b = rw (written.0, written.1)
      (take-append_seam (text_of g b) (drop (0 + length (text_of g b)) text)) in
      rw whole (record { text = after ∙ written.0 ∙ ap (λ (t : Bytes). text_of g b ++ t) (rest (length (text_of g b))); size = size })
    where
      rest : (k : ℕ) → drop (0 + k) text ≡ zeros (6234 - k)
      rest k = let z : 0 + k ≡ k = omega arith in rw (z, blank) (drop-zeros k 6234)

  refused-line : (f : Fault) (x : Result Listed) → Replies (answer_of f) x → refusal_line (answer_of f).number ≡ listing_output x
  unfolding listing_reply listing_output
  refused-line f (refused x) e = ap (λ (r : ListingReply). refusal_line r.answer.number) e
  refused-line f (done l) e =
      let zeroth : (answer_of f).number ≡ 0 = ap (λ (r : ListingReply). r.answer.number) e in
      let positive = (fault-number f).1 in
      absurd (omega arith)

-- ---- the listing of these bytes, with the program's buffer

-- what of a call's reply a listing's has
abbrev listed_of : Reply → ListingReply
listed_of r = record { answer = r.answer; listed = record { output_after = r.change.output_after; reported_length = r.change.reported_length } }

module _ (g : Geometry) (kn : Known g) (b : Bytes) {text : Bytes} (blank : text ≡ blank_text) where
  same : listing_output (call_listing g b text) ≡ listing_output (call_listing g b blank_text)
  same = ap (λ (t : Bytes). listing_output (call_listing g b t)) blank

  pub prints-listing : (d : Done) {text' : Bytes} → SleeveListed g b text (Ok d) text'
      → Prints (listing_output (call_listing g b blank_text)) (record { text = text'; length = d.length })
  unfolding called_answer reported
  prints-listing d {text'} listed = prints-as same (listed-prints g kn b text text' d.length blank (call_listing g b text) refl (ap listed_of listed.reply))

  pub prints-refusal : (f : code.Fault) {text' : Bytes} → SleeveListed g b text (Err f) text' → {p : Printed} → Prints (refusal_line (answer_of (fault_of f)).number) p
      → Prints (listing_output (call_listing g b blank_text)) p
  unfolding called_answer reported
  prints-refusal f {text'} listed p =
      prints-as (refused-line g kn b text text' 0 blank (fault_of f) (call_listing g b text) (ap listed_of listed.reply) ∙ same) p

-- ---- the program

module _ (g : Geometry) (kn : Known g) (input : Bytes) {r : Printed} where
  -- an input of another size
  pub printed-size : (length input ≡ 256 * total g → ⊥) → Prints (refusal_line (answer_of (fault_of WrongSize)).number) r → Prints (sleeve_output g input) r
  unfolding sleeve_output right_size fault_of
  printed-size other p = prints-as (rw (ne_eqb (length input) (256 * total g) other) refl) p

  -- an image: the part that the code lends is track 18
  pub printed-image : length input ≡ 256 * total g → {b : Bytes} → Prints (listing_output (call_listing g b blank_text)) r → b ≡ take 4864 (drop 91392 input)
      → Prints (sleeve_output g input) r
  unfolding sleeve_output right_size blank_text bytes_of_track18
  printed-image size p lent = prints-as (ap (λ (b : Bytes). listing_output (call_listing g b blank_text)) (lent ∙ part)
      ∙ rw (eq-eqb (length input) (256 * total g) size) refl) p
    where
      part : take 4864 (drop 91392 input) ≡ take (256 * sectors_on g 18) (drop (256 * sector_number g map_address) input)
      part = rw (kn.on18, kn.map357) refl

-- ---- the layout that it is asked for

module _ (input : Bytes) {v : Option Layout} {r : Printed} where
  pub printed-unknown : v ≡ None → Prints (refusal_line (answer_of (fault_of UnknownLayout)).number) r → Prints (program_output (named_by v) input) r
  unfolding program_output fault_of
  printed-unknown is p = rw is p

  pub printed-known : (l : Layout) → v ≡ Some l → Prints (sleeve_output (geometry_of l) input) r → Prints (program_output (named_by v) input) r
  unfolding program_output
  printed-known l is p = rw is p
