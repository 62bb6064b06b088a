-- Why a call is refused, and document 01's number and place of each refusal (01, Answer numbers).
-- In order: addresses; faults; answers; results, which a `do` block chains in document 01's order.
use Rattle.std.specs.Prelude.{ℕ, Bool, true, false, List, [], ◌∷◌}

infixl 15 ◌>>=◌
infixl 15 ◌>>◌
-- a sector by its track, from 1, and its place on the track, from 0 (01, Tracks and sectors)
pub record Address : Type 0 where
  pub track : ℕ
  pub sector : ℕ

-- sector s of track t
abbrev pub address : ℕ → ℕ → Address
address t s = record { track = t; sector = s }

-- the rows of document 01's table, each with what its place names: the sector that holds the fault, and the slot; of a map entry its track, and the
-- sector that it has wrong (02, §3)
pub data Fault : Type 0 where
  wrong_size : Fault
  bad_link already_owned : Address → ℕ → Fault
  bad_type bad_name duplicate_name wrong_count : Address → ℕ → Fault
  wrong_map_entry : Address → Fault
  bad_name_argument bad_kind_argument : Fault
  write_forbidden name_exists not_found : Fault
  directory_full disk_full : Fault
  wrong_buffer : Fault
  unknown_layout : Fault

-- a number with its place: track, sector, slot. Number 0 is "done"
pub record Answer : Type 0 where
  pub number : ℕ
  pub track : ℕ
  pub sector : ℕ
  pub slot : ℕ

-- an answer without a place: 0, 0, 255
abbrev pub unplaced : ℕ → Answer
unplaced n = record { number = n; track = 0; sector = 0; slot = 255 }

-- an answer that names a sector and a slot
abbrev pub placed : ℕ → Address → ℕ → Answer
placed n r s = record { number = n; track = r.track; sector = r.sector; slot = s }

-- THE NUMBERS: document 01's number and place of each refusal; nothing else in this project gives one a number
abbrev pub answer_of : Fault → Answer
answer_of wrong_size = unplaced 1
answer_of (bad_link r s) = placed 2 r s
answer_of (already_owned r s) = placed 3 r s
answer_of (bad_type r s) = placed 4 r s
answer_of (bad_name r s) = placed 5 r s
answer_of (duplicate_name r s) = placed 6 r s
answer_of (wrong_count r s) = placed 7 r s
answer_of (wrong_map_entry r) = placed 8 r 255
answer_of bad_name_argument = unplaced 9
answer_of bad_kind_argument = unplaced 10
answer_of write_forbidden = unplaced 11
answer_of name_exists = unplaced 12
answer_of not_found = unplaced 13
answer_of directory_full = unplaced 14
answer_of disk_full = unplaced 15
answer_of wrong_buffer = unplaced 16
answer_of unknown_layout = unplaced 17

-- a refusal, or what a step gives
pub data Result (A : Type 0) : Type 0 where
  refused : Fault → Result A
  done : A → Result A

module _ {A B : Type 0} where
  -- go on with what a step gives, unless it is refused
  abbrev pub ◌>>=◌ : Result A → (A → Result B) → Result B
  ◌>>=◌ (refused f) k = refused f
  ◌>>=◌ (done x) k = k x

  -- go on unless a step is refused
  abbrev pub ◌>>◌ : Result A → Result B → Result B
  ◌>>◌ (refused f) r = refused f
  ◌>>◌ (done x) r = r

-- go on where the test holds
abbrev pub need : Bool → Fault → Result (Unit {0})
need true f = done tt
need false f = refused f

-- the first of a list, or a refusal
unfoldable pub first : {A : Type 0} → Fault → List A → Result A
first f [] = refused f
first f (x ∷ l) = done x
