-- The slot of a file by its name or its position, the first empty slot, and the slots of a checked image (01, Read; Tell; Store; Scratch).
-- `b` are track 18's bytes and `ss` the directory's sectors on it. Laws: proofs/WordLaws, FindLaws, CheckedSlotLaws, EmptyLaws.
use Rattle.std.specs.Prelude.{ℕ, zero, suc, ◌≤◌, ◌<◌, ◌*◌, ◌≡◌, Bool, cond, not, ◌&&◌, List, length}
use Rattle.d64spec.specs.Lists.{Bytes, All, byte, equal}
use Rattle.d64spec.specs.Answers.{done}
use Rattle.d64spec.specs.Geometry.{Geometry, total}
use Rattle.d64spec.specs.Image.{disk}
use Rattle.d64spec.specs.Directory.{is_empty, name_field, padded, directory_sectors, files}
use Rattle.d64spec.specs.Directory as directory
use Rattle.d64spec.specs.Check.{check_image}
use Rattle.d64spec.specs.Accepted.{Accepted}
use Rattle.parts.specs.Numbers.{eight_of}
use Rattle.directory.specs.Directories.{slot_bytes}
use Rattle.diskcheck.specs.SlotChecks.{image_occupied}

-- whether a slot with these bytes is occupied and its name field holds this name (01, The directory: a name, then only $A0)
abbrev pub holds_name : Bytes → Bytes → Bool
holds_name p name = not (is_empty p) && equal (name_field p) (padded name)

-- whether slot k does
unfoldable pub holds_file : Bytes → List ℕ → Bytes → ℕ → Bool
holds_file b ss name k = holds_name (slot_bytes b ss k) name

-- the first of the n slots from k on that holds the name, or k + n where none does (01, Read; Scratch)
abbrev pub slot_named : Bytes → List ℕ → Bytes → ℕ → ℕ → ℕ
slot_named b ss name k zero = k
slot_named b ss name k (suc n) = cond (holds_file b ss name k) k (slot_named b ss name (suc k) n)

-- x and y are the bytes of a name that fits, filled up: eight each, as one number
pub record IsWords (name : Bytes) (x y : ℕ) : Type 0 where
  pub fits : length name ≤ 16
  pub small : (i : ℕ) → byte name i < 256
  pub first : x ≡ eight_of (padded name) 0
  pub second : y ≡ eight_of (padded name) 8

-- r says whether a slot with these bytes holds the name whose words are x and y
pub record WordsCompared (p : Bytes) (x y : ℕ) (r : Bool) : Type 0 where
  pub answer : (name : Bytes) → IsWords name x y → r ≡ holds_name p name

-- the slot of the occupied one at this position among the n from k on, or k + n where there are not so many (01, Tell)
abbrev pub slot_placed : Bytes → List ℕ → ℕ → ℕ → ℕ → ℕ
slot_placed b ss position k zero = k
slot_placed b ss zero k (suc n) = cond (is_empty (slot_bytes b ss k)) (slot_placed b ss zero (suc k) n) k
slot_placed b ss (suc p) k (suc n) = cond (is_empty (slot_bytes b ss k)) (slot_placed b ss (suc p) (suc k) n) (slot_placed b ss p (suc k) n)

-- the first empty one of the n slots from k on, or k + n where none is (01, Store: the first empty slot)
abbrev pub slot_empty : Bytes → List ℕ → ℕ → ℕ → ℕ
slot_empty b ss k zero = k
slot_empty b ss k (suc n) = cond (is_empty (slot_bytes b ss k)) k (slot_empty b ss (suc k) n)

-- an image in which the check finds no fault, and its occupied slots, those of the `end` slots of the sectors ss (01, Order of the check; Read)
pub record CheckedSlots (g : Geometry) (img ss : List ℕ) (end : ℕ) : Type 0 where
  pub size : length img ≡ 256 * total g
  pub accepted : Accepted g img
  pub contents : check_image g img ≡ done (record { walked = directory_sectors g (disk img); found = files g (disk img) })
  pub occupied : directory.occupied g (disk img) ≡ image_occupied g img ss 0 end
  pub inside : All (λ s. s < 19) ss
  pub few : end ≤ 144
