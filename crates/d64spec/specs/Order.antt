-- What each call asks, in document 01's order, and what answers where it does not hold (01, Answer numbers: "Where several apply").
-- A call is done exactly when all of its conditions hold, and else refused with the fault of the first that does not: proofs/OrderTheorem.
-- In order: conditions; the fault of a chain; arguments and size; steps 2 to 4 of the check; the calls, tell and the listing; the layout that a call names.
use Rattle.std.specs.Prelude.{ℕ, zero, suc, ◌+◌, ◌*◌, ◌≤◌, ◌<◌, ◌≡◌, true, ◌⊎◌, List, [], ◌∷◌, ◌++◌, map, length}
use Rattle.d64spec.specs.Lists.{Bytes, byte, count, name_count, range}
use Rattle.d64spec.specs.Answers.{Address, Fault, address, wrong_size, bad_link, already_owned, bad_type, bad_name, duplicate_name, wrong_count, wrong_map_entry, bad_name_argument, bad_kind_argument, write_forbidden, name_exists, not_found, directory_full, disk_full, wrong_buffer, unknown_layout}
use Rattle.d64spec.specs.Geometry.{Geometry, layout35, speed_dos, dolphin, sector_number, sectors_on, total, tracks, map_address, directory_start}
use Rattle.d64spec.specs.Image.{Disk, disk}
use Rattle.d64spec.specs.Chain.{Link, to, bad, file_link, directory_link, steps, Chain, follow, chain_data}
use Rattle.d64spec.specs.Directory.{Slot, File, entry_byte, valid_type, valid_name, name_of, count_of, first_link, file_of, directory_sectors, occupied, files}
use Rattle.d64spec.specs.Owner.{free_for_files, free_for_directory}
use Rattle.d64spec.specs.Map.{map_ones}
use Rattle.d64spec.specs.Accepted.{MarksFree, RightBit}
use Rattle.d64spec.specs.Rules.{IsName, IsStorableKind, IsLayout, MayWrite}
use Rattle.d64spec.specs.Reply.{files_named}
use Rattle.d64spec.specs.Store.{sectors_needed, empty_slots, last_of}
use Rattle.d64spec.specs.Call.{Call, check, format, read, store, scratch}
use Rattle.d64spec.specs.Listing.{disk_of_track18, listing_text}

-- ---- conditions

-- what is asked, and which faults answer where it does not hold
pub record Condition : Type 1 where
  pub holds : Type 0
  pub answers : Fault → Type 0

-- all conditions hold
abbrev pub AllHold : List Condition → Type 0
AllHold [] = Unit {0}
AllHold (c ∷ l) = c.holds × AllHold l

-- f answers for the first condition that does not hold
abbrev pub FirstFails : List Condition → Fault → Type 0
FirstFails [] f = ⊥
FirstFails (c ∷ l) f = ((c.holds → ⊥) × c.answers f) ⊎ (c.holds × FirstFails l f)

-- a condition that one fault answers for
abbrev pub asks : Type 0 → Fault → Condition
asks P fault = record { holds = P; answers = λ f. f ≡ fault }

-- ---- chains

module _ (g : Geometry) (link : Bytes → Link) (d : Disk) where
  -- links lead from k along the sectors l, and the last of them holds the link `next`
  abbrev pub Trail : Link → List Address → Link → Type 0
  Trail k [] next = k ≡ next
  Trail k (r ∷ l) next = (k ≡ to r) × Trail (link (d (sector_number g r))) l next

  -- the sectors met from k on are a whole chain, and none of them is owned already or met twice; `own` are the owned ones
  pub record ClaimsOnce (own : List ℕ) (k : Link) : Type 0 where
    pub chain : Chain g link d k (follow g link d (steps g) k)
    pub once : (n : ℕ) → count n (map (sector_number g) (follow g link d (steps g) k)) + count n own ≤ 1

  -- The fault of a chain that k starts: some sectors are met, each for the first time, and the last of them (or `holder`, which holds k)
  -- holds a link that is bad, or that leads to a sector which is owned already, by `own` or by this chain.
  pub record ChainFault (own : List ℕ) (holder : Address) (slot : ℕ) (k : Link) (f : Fault) : Type 0 where
    pub met : List Address
    pub next : Link
    pub trail : Trail k met next
    pub once : (n : ℕ) → count n (map (sector_number g) met) + count n own ≤ 1
    pub fault : ((next ≡ bad) × (f ≡ bad_link (last_of holder met) slot))
        ⊎ ((r : Address) × (next ≡ to r) × (0 < count (sector_number g r) (map (sector_number g) met ++ own)) × (f ≡ already_owned (last_of holder met) slot))

  -- a chain is walked link by link
  abbrev pub asks_chain : List ℕ → Address → ℕ → Link → Condition
  asks_chain own holder slot k = record { holds = ClaimsOnce own k; answers = ChainFault own holder slot k }

-- ---- size and arguments

-- 1: the size
abbrev pub asks_size : Geometry → Bytes → Condition
asks_size g img = asks (length img ≡ 256 * total g) wrong_size

-- 9: the name asked for
abbrev pub asks_name : Bytes → Condition
asks_name name = asks (IsName name) bad_name_argument

-- ---- steps 2 to 4 of the check

-- kind and flags, name, name used by an earlier slot
abbrev pub entry_conditions : List Bytes → Slot → List Condition
entry_conditions names s =
    asks (valid_type (entry_byte s.bytes 0x02) ≡ true) (bad_type s.holder s.number)
    ∷ asks (valid_name s.bytes ≡ true) (bad_name s.holder s.number)
    ∷ asks (name_count (name_of s.bytes) names ≡ 0) (duplicate_name s.holder s.number)
    ∷ []

module _ (g : Geometry) (d : Disk) where
  -- step 2: the directory, along its links
  abbrev pub asks_directory : Condition
  asks_directory = asks_chain g (directory_link g) d (sector_number g map_address ∷ []) map_address 255 (to directory_start)

  -- step 3, one slot: the entry, then the chain link by link, then the count
  abbrev pub slot_conditions : List ℕ → List Bytes → Slot → List Condition
  slot_conditions own names s =
      entry_conditions names s
      ++ (asks_chain g (file_link g) d own s.holder s.number (first_link g d s)
      ∷ asks (count_of s.bytes ≡ length (file_of g d s).sectors) (wrong_count s.holder s.number)
      ∷ [])

  -- step 3: the occupied slots in directory order, each with the sectors and the names of those before it
  abbrev pub slots_conditions : List ℕ → List Bytes → List Slot → List Condition
  slots_conditions own names [] = []
  slots_conditions own names (s ∷ l) =
      slot_conditions own names s
      ++ slots_conditions (map (sector_number g) (file_of g d s).sectors ++ own) (name_of s.bytes ∷ names) l

  -- s is the lowest sector of track t whose bit is wrong (02, §3)
  pub record LowestWrong (t s : ℕ) : Type 0 where
    pub on_track : s < sectors_on g t
    pub wrong : RightBit g d t s → ⊥
    pub lower : (i : ℕ) → i < s → RightBit g d t i

  -- all bits of track t are right, and its count is wrong
  pub record CountWrong (t : ℕ) : Type 0 where
    pub bits : (s : ℕ) → s < sectors_on g t → RightBit g d t s
    pub count : byte (d (sector_number g map_address)) (g.map_at t) ≡ map_ones g (d (sector_number g map_address)) t → ⊥

  -- what the place of a wrong entry names: that sector, and 255 only if all bits are right
  abbrev pub NamesWrong : ℕ → ℕ → Type 0
  NamesWrong t s = LowestWrong t s ⊎ ((s ≡ 255) × CountWrong t)

  -- step 4, one track
  abbrev pub asks_track : ℕ → Condition
  asks_track t = record { holds = MarksFree g d t; answers = λ f. (s : ℕ) × NamesWrong t s × (f ≡ wrong_map_entry (address t s)) }

  -- step 4: the map, track 1 to the last
  abbrev pub map_conditions : List ℕ → List Condition
  map_conditions [] = []
  map_conditions (t ∷ l) = asks_track t ∷ map_conditions l

  -- steps 2 to 4
  unfoldable pub disk_conditions : List Condition
  disk_conditions =
      asks_directory
      ∷ (slots_conditions (sector_number g map_address ∷ map (sector_number g) (directory_sectors g d)) [] (occupied g d)
      ++ map_conditions (range 1 (tracks g)))

-- ---- the calls: 1, then 9, 10, then 2 to 8 in check order, then 11, 12, 13, 14, 15, 16

-- 11: the DOS version
abbrev pub asks_version : Geometry → Disk → Condition
asks_version g d = asks (MayWrite g d) write_forbidden

-- 13: a file of that name
abbrev pub asks_file : Geometry → Disk → Bytes → Condition
asks_file g d name = asks (0 < length (files_named name (files g d))) not_found

-- 16: an output buffer that has room for the bytes of the file of that name
abbrev pub asks_output : Geometry → Disk → Bytes → Bytes → Condition
asks_output g d name out = asks ((f : File) → files_named name (files g d) ≡ f ∷ [] → length (chain_data g d f.sectors) ≤ length out) wrong_buffer

-- what each call asks
unfoldable pub conditions : Geometry → Bytes → Call → List Condition
conditions g img check = asks_size g img ∷ disk_conditions g (disk img)
conditions g img (format name id1 id2) = asks_size g img ∷ asks_name name ∷ []
conditions g img (read name out) =
    asks_size g img ∷ asks_name name
    ∷ (disk_conditions g (disk img) ++ (asks_file g (disk img) name ∷ asks_output g (disk img) name out ∷ []))
conditions g img (store name kind bytes) =
    asks_size g img ∷ asks_name name ∷ asks (IsStorableKind kind) bad_kind_argument
    ∷ (disk_conditions g (disk img)
    ++ (asks_version g (disk img)
    ∷ asks (length (files_named name (files g (disk img))) ≡ 0) name_exists
    ∷ asks (0 < length (empty_slots g (disk img)) + length (free_for_directory g (disk img))) directory_full
    ∷ asks (sectors_needed (length bytes) ≤ length (free_for_files g (disk img))) disk_full
    ∷ []))
conditions g img (scratch name) =
    asks_size g img ∷ asks_name name
    ∷ (disk_conditions g (disk img) ++ (asks_version g (disk img) ∷ asks_file g (disk img) name ∷ []))

-- what a tell asks: the position is one of the files'
unfoldable pub tell_conditions : Geometry → Bytes → ℕ → List Condition
tell_conditions g img position = asks_size g img ∷ (disk_conditions g (disk img) ++ (asks (position < length (files g (disk img))) not_found ∷ []))

-- what a listing asks of slots: no chain and no count
abbrev pub listing_slots : List Bytes → List Slot → List Condition
listing_slots names [] = []
listing_slots names (s ∷ l) = entry_conditions names s ++ listing_slots (name_of s.bytes ∷ names) l

-- what a listing asks
unfoldable pub listing_conditions : Geometry → Bytes → Bytes → List Condition
listing_conditions g b out =
    asks (length b ≡ 256 * sectors_on g 18) wrong_size
    ∷ asks_directory g (disk_of_track18 g b)
    ∷ (listing_slots [] (occupied g (disk_of_track18 g b))
    ++ (asks (length (listing_text g (disk_of_track18 g b) (occupied g (disk_of_track18 g b))) ≤ length out) wrong_buffer ∷ []))

-- ---- a call that names its layout by a number (02, §8): 17, then what the call asks in that layout

-- 17: the layout's number
abbrev pub asks_layout : ℕ → Condition
asks_layout n = asks (IsLayout n) unknown_layout

-- what is asked in the layout of this number: 0 for 35 tracks, 1 for SpeedDOS, 2 for Dolphin
unfoldable pub asked_in : ℕ → (Geometry → List Condition) → List Condition
asked_in zero asked = asked layout35
asked_in (suc zero) asked = asked speed_dos
asked_in (suc (suc zero)) asked = asked dolphin
asked_in (suc (suc (suc n))) asked = []

-- 17 before all else, for every call, tell and the listing
abbrev pub in_layout : ℕ → (Geometry → List Condition) → List Condition
in_layout n asked = asks_layout n ∷ asked_in n asked
