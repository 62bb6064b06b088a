-- Answer 8's place (02, §3): the track; the lowest of its sectors whose bit is wrong, and 255 only if all bits of the track are right; 255 for the slot.
-- What the sector is: specs/Order, `NamesWrong`. In order: what an answer 8 says of the disk (the statements: proofs/MapPlaceTheorem); which sector is named
-- in an entry of each zone (computed: proofs/EdgeTables). Every call's answer 8 on a small disk: specs/TwoFaults.
use Rattle.std.specs.Prelude.{ℕ, ◌-◌, ◌/◌, ◌%◌, ◌^◌, ◌≤◌, ◌<◌, ◌≡◌, Bool, true, not, List, [], ◌∷◌, ◌++◌, map, replicate, eqb}
use Rattle.d64spec.specs.Lists.{Bytes, filter, join, range}
use Rattle.d64spec.specs.Answers.{Answer}
use Rattle.d64spec.specs.Geometry.{Geometry, layout35, tracks}
use Rattle.d64spec.specs.Image.{Disk, disk}
use Rattle.d64spec.specs.Map.{lowest_wrong}
use Rattle.d64spec.specs.Accepted.{MarksFree}
use Rattle.d64spec.specs.Call.{check, perform}
use Rattle.d64spec.specs.Order.{NamesWrong}
use Rattle.d64spec.specs.SpareBits.{entry_alone}

-- ---- what an answer 8 says

-- the entry of the first track that has a wrong one, and in it the sector that is named
pub record NamesEntry (g : Geometry) (d : Disk) (a : Answer) : Type 0 where
  pub first : 1 ≤ a.track
  pub last : a.track ≤ tracks g
  pub before : (t : ℕ) → 1 ≤ t → t < a.track → MarksFree g d t
  pub sector : NamesWrong g d a.track a.sector
  pub slot : a.slot ≡ 255

-- an answer 8, whichever call gives it: the check gives the same, and it names that entry
pub record Says8 (g : Geometry) (img : Bytes) (a : Answer) : Type 0 where
  pub checked : (perform g img check).answer ≡ a
  pub names : NamesEntry g (disk img) a

-- ---- entries of each zone

-- an entry of track t, and the sector that is named where all of the track's sectors are free, or all but sector k
pub data PlaceRow : Type 0 where
  all_free : ℕ → Bytes → ℕ → PlaceRow
  all_but : ℕ → ℕ → Bytes → ℕ → PlaceRow  -- k, then t

-- whether a row is as document 02 says
unfoldable pub place_holds : PlaceRow → Bool
place_holds (all_free t e s) = eqb (lowest_wrong layout35 (λ r. true) (entry_alone t e) t) s
place_holds (all_but k t e s) = eqb (lowest_wrong layout35 (λ r. not (eqb r.sector k)) (entry_alone t e) t) s

-- the rows that fail
abbrev pub broken_places : List PlaceRow → List PlaceRow
broken_places l = filter (λ e. not (place_holds e)) l

-- track t of n sectors, whose own bits of the last byte are `own`; `cut` is that byte with the last sector's bit 0 and all spare bits 1
abbrev pub place_zone : ℕ → ℕ → ℕ → ℕ → List PlaceRow
place_zone t n own cut =
    -- no bit is wrong: nothing is, or the count alone, also where it counts spare bits
    all_free t (n ∷ 0xFF ∷ 0xFF ∷ own ∷ []) 255
    ∷ all_free t (n ∷ 0xFF ∷ 0xFF ∷ 0xFF ∷ []) 255
    ∷ all_free t (0 ∷ 0xFF ∷ 0xFF ∷ own ∷ []) 255
    ∷ all_free t (24 ∷ 0xFF ∷ 0xFF ∷ 0xFF ∷ []) 255
    -- of several the lowest, whatever the count
    ∷ all_free t (0 ∷ 0x00 ∷ 0x00 ∷ 0x00 ∷ []) 0
    ∷ all_free t (n ∷ 0x7F ∷ 0xFE ∷ own ∷ []) 7
    ∷ all_free t (n ∷ 0xFF ∷ 0xEE ∷ 0x00 ∷ []) 8
    ∷ all_free t (15 ∷ 0xFF ∷ 0x7F ∷ 0x00 ∷ []) 15
    ∷ all_free t (16 ∷ 0xFF ∷ 0xFF ∷ 0x00 ∷ []) 16
    ∷ all_free t ((n - 1) ∷ 0xFF ∷ 0xFF ∷ cut ∷ []) (n - 1)
    -- marked free, and owned
    ∷ all_but 4 t ((n - 1) ∷ 0xEF ∷ 0xFF ∷ own ∷ []) 255
    ∷ all_but 4 t (n ∷ 0xFF ∷ 0xFF ∷ own ∷ []) 4
    ∷ all_but 4 t (n ∷ 0xFF ∷ 0x00 ∷ 0x00 ∷ []) 4
    ∷ all_but 9 t ((n - 1) ∷ 0xBF ∷ 0xFF ∷ own ∷ []) 6
    ∷ all_but (n - 1) t (n ∷ 0xFF ∷ 0xFF ∷ 0xFF ∷ []) (n - 1)
    ∷ all_but n t (n ∷ 0xFF ∷ 0xFF ∷ 0xFF ∷ []) 255
    ∷ []

-- the first and the last track of each zone
unfoldable pub place_rows : List PlaceRow
place_rows = join (
    place_zone 1 21 0x1F 0xEF ∷ place_zone 17 21 0x1F 0xEF ∷ place_zone 18 19 0x07 0xFB ∷ place_zone 24 19 0x07 0xFB
    ∷ place_zone 25 18 0x03 0xFD ∷ place_zone 30 18 0x03 0xFD ∷ place_zone 31 17 0x01 0xFE ∷ place_zone 35 17 0x01 0xFE ∷ [])

-- the three bitmap bytes whose 24 bits are 1 but for bit s
abbrev pub all_marked_but : ℕ → Bytes
all_marked_but s = let b = 0xFFFFFF - 2 ^ s in b % 256 ∷ b / 256 % 256 ∷ b / 65536 ∷ []

-- which sector of track t is named where one bit of 24 is 0, for each of them
unfoldable pub named_alone : ℕ → List ℕ
named_alone t = map (λ s. lowest_wrong layout35 (λ r. true) (entry_alone t (0 ∷ all_marked_but s)) t) (range 0 24)

-- on a track of n sectors: each of its own, and none past them
abbrev pub each_named : ℕ → List ℕ
each_named n = range 0 n ++ replicate (24 - n) 255
