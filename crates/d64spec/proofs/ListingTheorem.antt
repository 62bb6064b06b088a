-- What a listing and a tell that are done leave, and what the sleeve listing's program prints for every input (01, Tell; Sleeve listing).
-- In order: a listing and a tell; what is printed; track 18 of an image; the layouts that have a number.
use Prim.Native.Nat.{ℕ, zero, suc, ◌+◌, ◌*◌, ◌-◌, ◌/◌, ◌%◌, ◌≤◌, ◌<◌}
use native.Mathlib.Omega.{arith}
use native.Mathlib.Nat.{le_of_eq}
use mathlib.Core.Path.{◌≡◌, refl, sym, ap, ◌∙◌, subst}
use mathlib.Core.Logic.{inl, inr}
use mathlib.Core.List.{List, [], ◌∷◌}
use lib.ListN.{length, take, drop, length-take, length-drop, length-replicate}
use lib.Seq.{drop-drop, take-append_seam, take-take}
use lib.Dec.{eqb, leb}
use borrow.Author.Tests.{eq-eqb, lt-ltb, ne_eqb}
use Rattle.d64spec.specs.Lists.{Bytes, splice, zeros}
use Rattle.d64spec.specs.Answers.{Address, Fault, answer_of, done, refused, unplaced, wrong_buffer, wrong_size}
use Rattle.d64spec.specs.Layouts.{Known}
use Rattle.d64spec.specs.Geometry.{Geometry, Valid, map_address, sector_number, sectors_on, total}
use Rattle.d64spec.specs.Image.{disk}
use Rattle.d64spec.specs.Directory.{occupied, occupied_in}
use Rattle.d64spec.specs.Check.{check_directory, right_size}
use Rattle.d64spec.specs.Read.{FileInformation, call_tell, tell_reply}
use Rattle.d64spec.specs.Listing.{Listed, bytes_of_track18, call_listing, digit, disk_of_track18, list_slots, listing_output, listing_reply, listing_text, refusal_line, sleeve_output}
use Rattle.d64spec.specs.Order.{FirstFails, asks, asks_directory, listing_conditions, listing_slots}
use Rattle.d64spec.specs.Facts.{SleeveRefused, text_of}
use Rattle.d64spec.specs.Exact.{Listable}
use Rattle.d64spec.proofs.ResultLaws.{need-done, then-done, bind_done, done_inj}
use Rattle.d64spec.proofs.ConditionLaws.{first_fails-append}
use Rattle.d64spec.proofs.NumberLaws.{Answers, Between, answers-imp, directory-answers, first_fails-answers, listing-slots-answers}
use Rattle.d64spec.proofs.FirstFault.{directory-walked}
use Rattle.d64spec.proofs.OrderTheorem.{decided-listing, listing-exactly, listing-some-fault}
use Rattle.d64spec.proofs.ExactTheorem.{listing-exact}
use Rattle.d64spec.proofs.ListingLaws.{buffer-6234}

-- ---- a tell and a listing

-- A TELL THAT IS DONE answers 0 with what it has told
pub tell-reply : (g : Geometry) (img : Bytes) (position : ℕ) (i : FileInformation) → call_tell g img position ≡ done i → tell_reply (call_tell g img position) ≡ record { answer = unplaced 0; information = i }
unfolding tell_reply
tell-reply g img position i e = ap tell_reply e

module _ (g : Geometry) (v : Valid g) (b out : Bytes) where
  -- A LISTING THAT IS DONE has written the text at the start of the output, left the rest, and reports the text's length
  pub listing-done : (l : Listed) → call_listing g b out ≡ done l → (l.output_after ≡ splice out 0 (text_of g b)) × (l.reported_length ≡ length (text_of g b))
  unfolding call_listing occupied
  listing-done l e =
      let h1 = need-done (eqb (length b) (256 * sectors_on g 18)) wrong_size _ l e in
      let h2 = bind_done (check_directory g (disk_of_track18 g b)) _ l h1.1 in
      let walked = directory-walked g v (disk_of_track18 g b) h2.0 h2.1 in
      let h3 = then-done (list_slots [] (occupied_in g (disk_of_track18 g b) h2.0)) _ l h2.2 in
      let h4 = need-done (leb (length (listing_text g (disk_of_track18 g b) (occupied_in g (disk_of_track18 g b) h2.0))) (length out)) wrong_buffer _ l h3.2 in
      let z = done_inj h4.1 in (
        ap (λ (x : Listed). x.output_after) (sym z) ∙ ap (λ (ds : List Address). splice out 0 (listing_text g (disk_of_track18 g b) (occupied_in g (disk_of_track18 g b) ds))) walked,
        ap (λ (x : Listed). x.reported_length) (sym z) ∙ ap (λ (ds : List Address). length (listing_text g (disk_of_track18 g b) (occupied_in g (disk_of_track18 g b) ds))) walked,
      )

  -- it answers 0
  pub listing-reply : (l : Listed) → call_listing g b out ≡ done l → listing_reply out (call_listing g b out) ≡ record { answer = unplaced 0; listed = l }
  unfolding listing_reply
  listing-reply l e = ap (listing_reply out) e

  -- ---- what is printed

  -- the text, where a listing can be made
  printed-text : Listable g b out → listing_output (call_listing g b out) ≡ text_of g b
  unfolding listing_output
  printed-text h =
      let w = (decided-listing g v b out).when_done.1 ((listing-exactly g v b out).0 ((listing-exact g v b out).1 h)) in
      let l = listing-done w.0 w.1 in
      rw (w.1, l.0, l.1) (take-append_seam (text_of g b) (drop (0 + length (text_of g b)) out))

  -- bytes of track 18's size, and a buffer that is not too short: the fault is one that track 18 shows
  shown-fault : length b ≡ 256 * sectors_on g 18 → (call_listing g b out ≡ refused wrong_buffer → ⊥) → (f : Fault) → FirstFails (listing_conditions g b out) f → Between 2 6 f
  unfolding listing_conditions
  shown-fault size long f h =
      let fits : f ≡ wrong_buffer → ⊥ = λ e. long (((decided-listing g v b out).when_refused wrong_buffer).1 (rw e at h)) in
      elim h [
        | inl k ↦ absurd (k.0 size)
        | inr k ↦ elim ((first_fails-append (asks_directory g (disk_of_track18 g b) ∷ listing_slots [] (occupied g (disk_of_track18 g b))) (asks (length (text_of g b) ≤ length out) wrong_buffer ∷ []) f).0 k.1) [
          | inl w ↦ first_fails-answers (Between 2 6) (asks_directory g (disk_of_track18 g b) ∷ listing_slots [] (occupied g (disk_of_track18 g b))) f shown w
          | inr w ↦ elim w.1 [
            | inl u ↦ absurd (fits u.1)
            | inr u ↦ absurd u.1
          ]
        ]
      ]
    where
      shown : Answers (Between 2 6) (asks_directory g (disk_of_track18 g b) ∷ listing_slots [] (occupied g (disk_of_track18 g b)))
      shown = (
        (λ f w. let r = directory-answers g (disk_of_track18 g b) f w in omega arith),
        answers-imp (λ f r. omega arith) (listing_slots [] (occupied g (disk_of_track18 g b))) (listing-slots-answers [] (occupied g (disk_of_track18 g b))),
      )

-- a number below 10 in two digits
two_digits : (n : ℕ) → n < 10 → refusal_line n ≡ 0x30 ∷ (0x30 + n) ∷ 0x0A ∷ []
unfolding refusal_line digit
two_digits n h =
    let a : n / 10 ≡ 0 = omega arith in
    let c : n % 10 ≡ n = omega arith in
    rw (a, c, lt-ltb n 10 h)

module _ (g : Geometry) (v : Valid g) (b out : Bytes) where
  printed-refusal : length b ≡ 256 * sectors_on g 18 → (call_listing g b out ≡ refused wrong_buffer → ⊥) → (Listable g b out → ⊥) → SleeveRefused g b out (listing_output (call_listing g b out))
  unfolding listing_output
  printed-refusal size long h =
      let w = listing-some-fault g v b out (λ e. h ((listing-exact g v b out).0 e)) in
      let n = shown-fault g v b out size long w.0 w.1 in
      record {
        fault = w.0;
        first = w.1;
        low = n.0;
        high = n.1;
        line = rw (((decided-listing g v b out).when_refused w.0).1 w.1) (two_digits (answer_of w.0).number (omega (arith, n.1)));
      }

-- ---- track 18 of an image

part-of-front : (a m n : ℕ) (l : Bytes) → a + m ≤ n → take m (drop a (take n l)) ≡ take m (drop a l)
part-of-front zero m n l h = take-take m n l (omega arith)
part-of-front (suc a) m zero l h = absurd (omega arith)
part-of-front (suc a) m (suc n) [] h = refl
part-of-front (suc a) m (suc n) (x ∷ l) h = part-of-front a m n l (omega arith)

-- its i-th sector is the image's
pub track18-sector : (g : Geometry) (img : Bytes) (i : ℕ) → i < sectors_on g 18 → disk (bytes_of_track18 g img) i ≡ disk img (sector_number g map_address + i)
unfolding disk bytes_of_track18
track18-sector g img i h =
    let offset : 256 * sector_number g map_address + 256 * i ≡ 256 * (sector_number g map_address + i) = omega arith in
    part-of-front (256 * i) 256 (256 * sectors_on g 18) (drop (256 * sector_number g map_address) img) (omega arith)
    ∙ ap (take 256) (drop-drop (256 * i) (256 * sector_number g map_address) img)
    ∙ ap (λ (k : ℕ). take 256 (drop k img)) offset

-- and under its own number it is that sector
pub track18-own : (g : Geometry) (img : Bytes) (n : ℕ) → sector_number g map_address ≤ n → n < sector_number g map_address + sectors_on g 18 → disk_of_track18 g (bytes_of_track18 g img) n ≡ disk img n
unfolding disk_of_track18
track18-own g img n low high =
    let same : sector_number g map_address + (n - sector_number g map_address) ≡ n = omega arith in
    track18-sector g img (n - sector_number g map_address) (omega arith) ∙ ap (disk img) same

-- what the program prints of an image of the right size
sleeve-right : (g : Geometry) (input : Bytes) → length input ≡ 256 * total g → sleeve_output g input ≡ listing_output (call_listing g (bytes_of_track18 g input) (zeros 6234))
unfolding sleeve_output right_size
sleeve-right g input e = rw (eq-eqb (length input) (256 * total g) e)

-- ---- the layouts that have a number

module _ {g : Geometry} (k : Known g) (input : Bytes) where
  -- TRACK 18 of an image: 4,864 bytes
  pub track18-length : length input ≡ 256 * total g → length (bytes_of_track18 g input) ≡ 4864
  unfolding bytes_of_track18
  track18-length e =
      omega (
        arith,
        length-take (256 * sectors_on g 18) (drop (256 * sector_number g map_address) input),
        length-drop (256 * sector_number g map_address) input,
        k.map357,
        k.on18,
        k.past18,
      )

  -- the sectors 357 to 375
  pub track18-sectors : (i : ℕ) → i < 19 → disk (bytes_of_track18 g input) i ≡ disk input (357 + i)
  track18-sectors i h = track18-sector g input i (omega (arith, k.on18)) ∙ ap (λ (n : ℕ). disk input (n + i)) k.map357

  -- THE PROGRAM, given an input of another size: 01
  pub sleeve-size : (length input ≡ 256 * total g → ⊥) → sleeve_output g input ≡ 0x30 ∷ 0x31 ∷ 0x0A ∷ []
  unfolding sleeve_output right_size refusal_line digit
  sleeve-size h = rw (ne_eqb (length input) (256 * total g) h)

  -- GIVEN AN IMAGE: what the listing of its track 18 says, with room for 6,234 bytes
  pub sleeve-image : length input ≡ 256 * total g → sleeve_output g input ≡ listing_output (call_listing g (bytes_of_track18 g input) (zeros 6234))
  sleeve-image e = sleeve-right g input e

  -- GIVEN AN IMAGE WHOSE TRACK 18 CAN BE LISTED: exactly the listing
  pub sleeve-text : length input ≡ 256 * total g → Listable g (bytes_of_track18 g input) (zeros 6234) → sleeve_output g input ≡ text_of g (bytes_of_track18 g input)
  sleeve-text e h = sleeve-image e ∙ printed-text g k.valid (bytes_of_track18 g input) (zeros 6234) h

  -- GIVEN ANY OTHER IMAGE: the number of the first fault that track 18 shows
  pub sleeve-refused : length input ≡ 256 * total g → (Listable g (bytes_of_track18 g input) (zeros 6234) → ⊥)
      → SleeveRefused g (bytes_of_track18 g input) (zeros 6234) (sleeve_output g input)
  sleeve-refused e h =
      subst (SleeveRefused g (bytes_of_track18 g input) (zeros 6234)) (sym (sleeve-image e))
      (printed-refusal g k.valid (bytes_of_track18 g input) (zeros 6234) (omega (arith, track18-length e, k.on18))
      (buffer-6234 k (bytes_of_track18 g input) (zeros 6234) (le_of_eq (sym (length-replicate {A = ℕ} 6234 0)))) h)
