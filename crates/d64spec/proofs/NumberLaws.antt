-- Which numbers a list of conditions can answer with (01, Answer numbers; Format; Sleeve listing).
-- In order: conditions that answer only with some faults; steps 2 to 4 of the check; the listing; the calls and tell, none above 16.
use Prim.Native.Nat.{ℕ, ◌≤◌}
use native.Mathlib.Omega.{arith}
use mathlib.Core.Path.{◌≡◌, refl}
use mathlib.Core.Logic.{inl, inr}
use mathlib.Core.List.{List, [], ◌∷◌, ◌++◌, map}
use lib.ListN.{length}
use Rattle.d64spec.specs.Lists.{Bytes, range}
use Rattle.d64spec.specs.Answers.{Address, Fault, answer_of, wrong_buffer, wrong_count}
use Rattle.d64spec.specs.Geometry.{Geometry, directory_start, map_address, sector_number, tracks}
use Rattle.d64spec.specs.Image.{Disk, disk}
use Rattle.d64spec.specs.Chain.{Link, directory_link, file_link, to}
use Rattle.d64spec.specs.Directory.{Slot, count_of, directory_sectors, file_of, first_link, name_of, occupied}
use Rattle.d64spec.specs.Call.{Call, check, format, read, scratch, store}
use Rattle.d64spec.specs.Listing.{disk_of_track18, listing_text}
use Rattle.d64spec.specs.Order.{AllHold, ChainFault, Condition, FirstFails, asks, asks_chain, asks_directory, conditions, disk_conditions, entry_conditions, listing_conditions, listing_slots, map_conditions, slot_conditions, slots_conditions, tell_conditions}
use Rattle.d64spec.specs.Exact.{ListingNumber}
use Rattle.d64spec.proofs.ConditionLaws.{first_fails-append}

-- every fault that these conditions answer with has P
abbrev pub Answers : (Fault → Type 0) → List Condition → Type 0
Answers P [] = Unit {0}
Answers P (c ∷ l) = ((f : Fault) → c.answers f → P f) × Answers P l

-- the fault's number lies between these two
abbrev pub Between : ℕ → ℕ → Fault → Type 0
Between a b f = (a ≤ (answer_of f).number) × ((answer_of f).number ≤ b)

module _ (P : Fault → Type 0) where
  answers-append : (l m : List Condition) → Answers P l → Answers P m → Answers P (l ++ m)
  answers-append [] m a b = b
  answers-append (c ∷ l) m a b = (a.0, answers-append l m a.1 b)

  pub first_fails-answers : (l : List Condition) (f : Fault) → Answers P l → FirstFails l f → P f
  first_fails-answers [] f a h = elim h [ ]
  first_fails-answers (c ∷ l) f a (inl h) = a.0 f h.1
  first_fails-answers (c ∷ l) f a (inr h) = first_fails-answers l f a.1 h.1

  -- a fault that the first conditions cannot answer with: they hold, and the rest answers
  pub first_fails-past : (l m : List Condition) (f : Fault) → Answers P l → (P f → ⊥) → FirstFails (l ++ m) f → AllHold l × FirstFails m f
  first_fails-past l m f a p h = elim ((first_fails-append l m f).0 h) [
    | inl w ↦ absurd (p (first_fails-answers l f a w))
    | inr w ↦ w
  ]

-- a chain is refused with 2 or 3
chain-answers : (g : Geometry) (link : Bytes → Link) (d : Disk) (own : List ℕ) (holder : Address) (slot : ℕ) (k : Link) (f : Fault) → ChainFault g link d own holder slot k f → Between 2 3 f
chain-answers g link d own holder slot k f w = elim w.fault [
  | inl h ↦ let e = h.1 in rw e (omega arith)
  | inr h ↦ let e = h.3 in rw e (omega arith)
]

-- an entry is refused with 4, 5 or 6
entry-answers : (names : List Bytes) (s : Slot) → Answers (Between 4 6) (entry_conditions names s)
entry-answers names s = ((λ f e. rw e (omega arith)), ((λ f e. rw e (omega arith)), ((λ f e. rw e (omega arith)), tt)))

-- the same with a weaker fact
pub answers-imp : {P Q : Fault → Type 0} → ((f : Fault) → P f → Q f) → (l : List Condition) → Answers P l → Answers Q l
answers-imp h [] a = tt
answers-imp h (c ∷ l) a = ((λ f e. h f (a.0 f e)), answers-imp h l a.1)

module _ (g : Geometry) (d : Disk) where
  -- what step 3 asks of a slot after its entry: the chain and the count
  abbrev chain_conditions : List ℕ → Slot → List Condition
  chain_conditions own s =
      asks_chain g (file_link g) d own s.holder s.number (first_link g d s)
      ∷ asks (count_of s.bytes ≡ length (file_of g d s).sectors) (wrong_count s.holder s.number)
      ∷ []

  after-entry : (own : List ℕ) (s : Slot) → Answers (Between 2 7) (chain_conditions own s)
  after-entry own s = ((λ f w. let h = chain-answers g (file_link g) d own s.holder s.number (first_link g d s) f w in omega arith), ((λ f e. rw e (omega arith)), tt))

  pub slots-answers : (own : List ℕ) (names : List Bytes) (l : List Slot) → Answers (Between 2 7) (slots_conditions g d own names l)
  slots-answers own names [] = tt
  slots-answers own names (s ∷ l) =
      answers-append (Between 2 7) (slot_conditions g d own names s) (slots_conditions g d (map (sector_number g) (file_of g d s).sectors ++ own) (name_of s.bytes ∷ names) l)
      (answers-append (Between 2 7) (entry_conditions names s) (chain_conditions own s) (answers-imp (λ f h. omega arith) (entry_conditions names s) (entry-answers names s)) (after-entry own s))
      (slots-answers (map (sector_number g) (file_of g d s).sectors ++ own) (name_of s.bytes ∷ names) l)

  map-answers : (l : List ℕ) → Answers (Between 8 8) (map_conditions g d l)
  map-answers [] = tt
  map-answers (t ∷ l) = ((λ f e. rw e.2 (omega arith)), map-answers l)

  pub directory-answers : (f : Fault) → (asks_directory g d).answers f → Between 2 3 f
  directory-answers f w = chain-answers g (directory_link g) d (sector_number g map_address ∷ []) map_address 255 (to directory_start) f w

  -- steps 2 to 4 of the check are refused with 2 to 8
  pub disk-answers : Answers (Between 2 8) (disk_conditions g d)
  unfolding disk_conditions
  disk-answers =
      let own : List ℕ = sector_number g map_address ∷ map (sector_number g) (directory_sectors g d) in (
        (λ f w. let h = directory-answers f w in omega arith),
        answers-append (Between 2 8) (slots_conditions g d own [] (occupied g d)) (map_conditions g d (range 1 (tracks g)))
            (answers-imp (λ f h. omega arith) (slots_conditions g d own [] (occupied g d)) (slots-answers own [] (occupied g d)))
            (answers-imp (λ f h. omega arith) (map_conditions g d (range 1 (tracks g))) (map-answers (range 1 (tracks g)))),
      )

pub listing-slots-answers : (names : List Bytes) (l : List Slot) → Answers (Between 4 6) (listing_slots names l)
listing-slots-answers names [] = tt
listing-slots-answers names (s ∷ l) = answers-append (Between 4 6) (entry_conditions names s) (listing_slots (name_of s.bytes ∷ names) l) (entry-answers names s) (listing-slots-answers (name_of s.bytes ∷ names) l)

-- a listing is refused with its numbers alone
pub listing-answers : (g : Geometry) (b out : Bytes) → Answers (λ f. ListingNumber (answer_of f).number) (listing_conditions g b out)
unfolding listing_conditions
listing-answers g b out = (
  (λ f e. rw e (inl refl)),
  (
    (λ f w. let h = directory-answers g (disk_of_track18 g b) f w in inr (inl (omega arith))),
    answers-append (λ f. ListingNumber (answer_of f).number) (listing_slots [] (occupied g (disk_of_track18 g b))) (asks (length (listing_text g (disk_of_track18 g b) (occupied g (disk_of_track18 g b))) ≤ length out) wrong_buffer ∷ [])
        (answers-imp (λ f h. inr (inl (omega arith))) (listing_slots [] (occupied g (disk_of_track18 g b))) (listing-slots-answers [] (occupied g (disk_of_track18 g b))))
        ((λ f e. rw e (inr (inr refl))), tt),
  ),
)

-- ---- no call asks in its layout what a number above 16 answers for (02, §8: 17 is the layout's)

pub listing-low : (g : Geometry) (b out : Bytes) → Answers (Between 1 16) (listing_conditions g b out)
listing-low g b out = answers-imp low (listing_conditions g b out) (listing-answers g b out)
  where
    low : (f : Fault) → ListingNumber (answer_of f).number → Between 1 16 f
    low f (inl e) = omega arith
    low f (inr (inl e)) = omega arith
    low f (inr (inr e)) = omega arith

module _ (g : Geometry) (img : Bytes) where
  -- steps 2 to 4, and what a call asks behind them
  checked-low : (m : List Condition) → Answers (Between 1 16) m → Answers (Between 1 16) (disk_conditions g (disk img) ++ m)
  checked-low m a =
      answers-append (Between 1 16) (disk_conditions g (disk img)) m
      (answers-imp (λ f h. omega arith) (disk_conditions g (disk img)) (disk-answers g (disk img))) a

  pub call-answers : (c : Call) → Answers (Between 1 16) (conditions g img c)
  unfolding conditions
  call-answers check = ((λ f e. rw e (omega arith)), answers-imp (λ f h. omega arith) (disk_conditions g (disk img)) (disk-answers g (disk img)))
  call-answers (format name i j) = ((λ f e. rw e (omega arith)), ((λ f e. rw e (omega arith)), tt))
  call-answers (read name out) =
      ((λ f e. rw e (omega arith)), ((λ f e. rw e (omega arith)), checked-low _ ((λ f e. rw e (omega arith)), ((λ f e. rw e (omega arith)), tt))))
  call-answers (store name kind bytes) = (
    (λ f e. rw e (omega arith)),
    (
      (λ f e. rw e (omega arith)),
      (
        (λ f e. rw e (omega arith)),
        checked-low _
            ((λ f e. rw e (omega arith)), ((λ f e. rw e (omega arith)), ((λ f e. rw e (omega arith)), ((λ f e. rw e (omega arith)), tt)))),
      ),
    ),
  )
  call-answers (scratch name) =
      ((λ f e. rw e (omega arith)), ((λ f e. rw e (omega arith)), checked-low _ ((λ f e. rw e (omega arith)), ((λ f e. rw e (omega arith)), tt))))

  pub tell-answers : (position : ℕ) → Answers (Between 1 16) (tell_conditions g img position)
  unfolding tell_conditions
  tell-answers position = ((λ f e. rw e (omega arith)), checked-low _ ((λ f e. rw e (omega arith)), tt))
