-- The reply of the listing (01, Sleeve listing): to slots that were counted, and to track 18.
-- In order: slots; the directory. Assumes nothing.
use Prim.Native.Nat.{ℕ, ◌+◌, ◌*◌, ◌≤◌, ◌<◌}
use native.Mathlib.Omega.{arith}
use mathlib.Core.Path.{◌≡◌, refl, sym, ap, ◌∙◌}
use mathlib.Core.Bool.{Bool, true, false}
use mathlib.Core.List.{List, [], ◌++◌}
use lib.ListN.{length, take, drop, length-map, length-take}
use lib.Dec.{eqb}
use borrow.Author.Tests.{eqb-true, le-leb, lt-leb}
use Rattle.d64spec.specs.Lists.{Bytes}
use Rattle.d64spec.specs.Answers.{address, Result, refused, done, wrong_size, ◌>>=◌, ◌>>◌, need}
use Rattle.d64spec.specs.Answers as answer
use Rattle.d64spec.specs.Geometry.{Geometry, sectors_on}
use Rattle.d64spec.specs.Directory.{Slot, occupied_in}
use Rattle.d64spec.specs.Check.{check_directory}
use Rattle.d64spec.specs.Listing.{Listed, call_listing, disk_of_track18, list_slots, listing_reply, listing_text}
use Rattle.d64spec.specs.Layouts.{Known}
use Rattle.d64spec.proofs.ResultLaws.{refused≢done, need-done, then-done, done_inj}
use Rattle.std.specs.Prelude.{Err, Ok}
use Rattle.std.specs.Prelude.{Result as CodeResult}
use Rattle.answers.specs.Faults.{called_answer, fault_of, reported, result_of}
use Rattle.answers.specs.declared.Done.{Done}
use Rattle.answers.specs.declared.Fault.{Fault}
use Rattle.answers.specs.declared.Fault.TheVariants.{WrongBuffer}
use Rattle.directory.specs.Directories.{IsDirectory, track_directory, occupied_from}
use Rattle.directory.specs.declared.Directory.{Directory}
use Rattle.directory.proofs.SlotListLaws.{occupied-by-number}
use Rattle.sleeve.specs.Texts.{ReadySlots, SlotsListed, count_slots, lines_of, list_found, occupied_of, with_track}
use Rattle.sleeve.specs.Sleeves.{SleeveListed}
use Rattle.sleeve.proofs.TextLaws.{length-text}

-- ---- slots

-- a step that is refused, whatever follows it
refused-first : {A B : Type 0} (f : answer.Fault) (x : Result (Unit {0})) (n : A) (r : Result B) → refused f ≡ (x >> done n) → (x >> r) ≡ refused f
refused-first f (refused g) n r e = sym (ap (λ (x : answer.Fault). refused x) (cc))
refused-first f (done u) n r e = refused≢done f n e

module _ (g : Geometry) (b : Bytes) (l : List Slot) (text : Bytes) where
  -- the text of these slots
  abbrev listing : Bytes
  listing = listing_text g (disk_of_track18 g b) l

  -- a slot's fault
  pub listed-refused : (f : Fault) → result_of (λ (n : ℕ). n) (Err f) ≡ count_slots l → SlotsListed g b l text (Err f) text
  unfolding result_of count_slots called_answer reported list_found listing_reply
  listed-refused f e = record { reply = rw (refused-first (fault_of f) (list_slots [] l) (length l)) }

  module _ (whole : length b ≡ 4864) (lines : length (lines_of l) ≡ 43 * length l) (files : ℕ)
      (counted : result_of (λ (n : ℕ). n) (Ok files) ≡ count_slots l) where
    fine : (list_slots [] l ≡ done tt) × (length l ≡ files)
    unfolding result_of count_slots
    fine = let h = then-done (list_slots [] l) (done (length l)) files (sym counted) in (h.1, done_inj h.2)

    pub listed-length : length listing ≡ 43 * files + 42
    listed-length = omega (arith, length-text g b l whole lines, fine.1)

    -- too little room
    pub listed-short : length text < 43 * files + 42 → SlotsListed g b l text (Err WrongBuffer) text
    unfolding called_answer reported fault_of list_found listing_reply
    listed-short short = record { reply = rw (fine.0, lt-leb (length listing) (length text) (omega (arith, listed-length))) }

    -- room for the text
    pub listed-room : (n : ℕ) → n ≡ 43 * files + 42 → n ≤ length text → length (take n text) ≡ 42 + 43 * length l
    listed-room n long room = omega (arith, length-take n text, fine.1)

    -- the text at the start of the buffer, through a part that was lent
    pub listed-done : (n : ℕ) → n ≡ 43 * files + 42 → n ≤ length text → {part : Bytes} → part ≡ listing
        → SlotsListed g b l text (Ok (record { length = n; sectors = 0 })) (part ++ drop n text)
    unfolding called_answer reported list_found listing_reply
    listed-done n long room {part} filled =
        let told : n ≡ length listing = omega (arith, listed-length) in
        let start : 0 + length listing ≡ length listing = omega arith in
        record { reply = rw (fine.0, le-leb (length listing) (length text) (omega (arith, listed-length)), filled, told, start) }

-- ---- the directory

-- the listing is the directory, then the slots that it has
listing-found : (g : Geometry) (b text : Bytes) → call_listing g b text
    ≡ (track_directory g b >>= (λ ds. list_found g b (occupied_in g (disk_of_track18 g b) ds) text))
unfolding call_listing track_directory list_found
listing-found g b text = go (eqb (length b) (256 * sectors_on g 18)) (check_directory g (disk_of_track18 g b))
    (λ ds. list_found g b (occupied_in g (disk_of_track18 g b) ds) text)
  where
    go : {A B : Type 0} (t : Bool) (x : Result A) (k : A → Result B) → (need t wrong_size >> (x >>= k)) ≡ ((need t wrong_size >> x) >>= k)
    go true x k = refl
    go false x k = refl

module _ (g : Geometry) (kn : Known g) (b text : Bytes) where
  -- a fault of the size or of the directory
  pub sleeve-refused : (f : Fault) → track_directory g b ≡ refused (fault_of f) → SleeveListed g b text (Err f) text
  unfolding called_answer reported listing_reply
  sleeve-refused f e =
      let found : call_listing g b text ≡ refused (fault_of f) = listing-found g b text ∙ rw e in
      record { reply = rw found }

  module _ {d : Directory} (read : IsDirectory g b d) where
    -- as many sectors as are counted
    enough : d.count ≤ length d.sectors
    enough = omega (arith, read.count, length-map (take d.count d.sectors) (λ s. address 18 s), length-take d.count d.sectors)

    -- what the slots' listing asks
    pub sleeve-ready : ReadySlots b d
    unfolding track_directory
    sleeve-ready =
        let whole = eqb-true (length b) (256 * sectors_on g 18)
        (need-done (eqb (length b) (256 * sectors_on g 18)) wrong_size (check_directory g (disk_of_track18 g b)) _ read.walked).0 in
        record { whole = omega (arith, whole, kn.on18); inside = read.inside; few = read.few; first = read.repeated }

    -- and its reply is the listing's
    pub sleeve-listed : {r : CodeResult Done Fault} {text' : Bytes} → SlotsListed g b (occupied_of b d) text r text' → SleeveListed g b text r text'
    unfolding occupied_from
    sleeve-listed listed =
        let found : call_listing g b text ≡ list_found g b (occupied_of b d) text
        = listing-found g b text ∙ rw read.walked (ap (λ (l : List Slot). list_found g b l text) (occupied-by-number g b d.sectors d.count enough)) in
        record { reply = listed.reply ∙ ap (λ (x : Result Listed). with_track b (listing_reply text x)) (sym found) }
