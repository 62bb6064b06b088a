-- When each call is done, with no order (demand 2's "exactly when"): one record for each call, over what an accepted image is.
-- In order: format; read and tell; store and its room; scratch; the listing. The theorems: proofs/ExactTheorem. The same in document 01's order: specs/Order.
use Rattle.std.specs.Prelude.{ℕ, ◌*◌, ◌≤◌, ◌<◌, ◌≡◌, true, false, ◌⊎◌, length}
use mathlib.Core.List.{[], ◌∷◌, map, Mem, Memᴰ}
use Rattle.d64spec.specs.Lists.{Bytes, All, name_count}
use Rattle.d64spec.specs.Answers.{address}
use Rattle.d64spec.specs.Geometry.{Geometry, sector_number, sectors_on, total, map_address, directory_start}
use Rattle.d64spec.specs.Image.{Disk, disk}
use Rattle.d64spec.specs.Chain.{to, directory_link, chain_data}
use Rattle.d64spec.specs.Directory.{Slot, File, entry_byte, valid_type, valid_name, name_of, is_empty, slots_from, directory_sectors, occupied, files}
use Rattle.d64spec.specs.Owner.{Free, free_for_files}
use Rattle.d64spec.specs.Accepted.{Accepted}
use Rattle.d64spec.specs.Store.{sectors_needed}
use Rattle.d64spec.specs.Listing.{disk_of_track18, listing_text}
use Rattle.d64spec.specs.Order.{ClaimsOnce}
use Rattle.d64spec.specs.Rules.{IsName, IsStorableKind, MayWrite}

-- a format is done: only 1 and 9 refuse it (01, Format)
pub record Formattable (g : Geometry) (img name : Bytes) : Type 0 where
  pub size : length img ≡ 256 * total g
  pub name_valid : IsName name

-- a file of the image has this name (01, What demand 3 compares: a file's name)
pub record HasFile (g : Geometry) (img name : Bytes) : Type 0 where
  pub file : File
  pub there : Mem file (files g (disk img))
  pub named : name_of file.slot.bytes ≡ name

-- a read is done: the file is there, and its bytes fit the output (01, Read)
pub record Readable (g : Geometry) (img name out : Bytes) : Type 0 where
  pub accepted : Accepted g img
  pub name_valid : IsName name
  pub found : HasFile g img name
  pub fits : length (chain_data g (disk img) found.file.sectors) ≤ length out

-- a tell is done: the position is that of a file (01, Tell)
pub record Tellable (g : Geometry) (img : Bytes) (position : ℕ) : Type 0 where
  pub accepted : Accepted g img
  pub there : position < length (files g (disk img))

-- no number before 14 and 15 refuses a store (01, Answer numbers: "Where several apply")
pub record Admitted (g : Geometry) (img name : Bytes) (kind : ℕ) : Type 0 where
  pub accepted : Accepted g img
  pub name_valid : IsName name
  pub kind_valid : IsStorableKind kind
  pub may_write : MayWrite g (disk img)
  pub absent : HasFile g img name → ⊥

-- 14: no slot of the directory is empty, and no sector of track 18 is free (01, Answer numbers)
pub record NoSlot (g : Geometry) (d : Disk) : Type 0 where
  pub slots : (s : Slot) → Memᴰ s (slots_from g d 0 (directory_sectors g d)) → is_empty s.bytes ≡ false
  pub sectors : (s : ℕ) → s < sectors_on g 18 → Free g d (sector_number g (address 18 s)) → ⊥

-- a store is done: there is room for the entry and for the bytes (01, Store)
pub record Storable (g : Geometry) (img name : Bytes) (kind : ℕ) (bytes : Bytes) : Type 0 where
  pub admitted : Admitted g img name kind
  pub slot : NoSlot g (disk img) → ⊥
  pub sectors : sectors_needed (length bytes) ≤ length (free_for_files g (disk img))

-- a scratch is done: the disk is writable, and the file is there (01, Scratch)
pub record Scratchable (g : Geometry) (img name : Bytes) : Type 0 where
  pub accepted : Accepted g img
  pub name_valid : IsName name
  pub may_write : MayWrite g (disk img)
  pub found : HasFile g img name

-- what track 18 shows of an entry (01, The directory): kind and flags, and the name
pub record ShownEntry (s : Slot) : Type 0 where
  pub type : valid_type (entry_byte s.bytes 0x02) ≡ true
  pub name : valid_name s.bytes ≡ true

-- a listing is done: track 18's size, the directory's links, the entries, and a buffer with room (01, Sleeve listing)
pub record Listable (g : Geometry) (b out : Bytes) : Type 0 where
  pub size : length b ≡ 256 * sectors_on g 18
  pub directory : ClaimsOnce g (directory_link g) (disk_of_track18 g b) (sector_number g map_address ∷ []) (to directory_start)
  pub entry : All ShownEntry (occupied g (disk_of_track18 g b))
  pub names : (n : Bytes) → name_count n (map (λ s. name_of s.bytes) (occupied g (disk_of_track18 g b))) ≤ 1  -- no two files share a name
  pub fits : length (listing_text g (disk_of_track18 g b) (occupied g (disk_of_track18 g b))) ≤ length out

-- the numbers of a listing's refusals: 1, what track 18 shows (2, 3 from directory links; 4, 5, 6), and 16 (01, Sleeve listing)
abbrev pub ListingNumber : ℕ → Type 0
ListingNumber n = (n ≡ 1) ⊎ (((2 ≤ n) × (n ≤ 6)) ⊎ (n ≡ 16))
