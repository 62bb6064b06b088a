-- What a store writes, part by part (01, Store): each part's bytes, what it may rely on, and what it leaves.
-- In order: a sector of a chain; where it lies; a chain; the directory grown; an entry at its place. The map in its sector: crate bam.
-- Laws: proofs/SectorWriteLaws, ChainWriteLaws, EntryWriteLaws; WriteReadyLaws and FileWriteLaws for the whole.
use Rattle.std.specs.Prelude.{ℕ, ◌+◌, ◌-◌, ◌*◌, ◌≤◌, ◌<◌, ◌≡◌, true, false, cond, List, [], ◌∷◌, ◌++◌, map, length}
use Rattle.d64spec.specs.Lists.{Bytes, All, splice, zeros}
use Rattle.d64spec.specs.Answers.{Address as DiskAddress, address}
use Rattle.d64spec.specs.Geometry.{Geometry, total, on_disk, sector_number}
use Rattle.d64spec.specs.Image.{Disk, disk, put}
use Rattle.d64spec.specs.Format.{empty_directory_sector}
use Rattle.d64spec.specs.Store.{write_chain, overwrite_slot}
use Rattle.geometry.specs.Layout.{address_of}
use Rattle.geometry.specs.declared.Address.{Address}
use Rattle.bam.specs.MapEntry.{Entries}
use Rattle.bam.specs.Bam.{moved_mark, moved_marks}
use Rattle.storing.specs.declared.room.EntryPlace.{EntryPlace}

-- a sector of a chain: its two link bytes, at most 254 bytes, and zeros (01, Chains)
abbrev pub chain_sector : Bytes → Bytes → Bytes
chain_sector link bs = link ++ (bs ++ zeros (254 - length bs))

-- the link of a sector that goes on at r (01, Chains)
abbrev pub link_to : DiskAddress → Bytes
link_to r = r.track ∷ r.sector ∷ []

-- the link of the last sector, whose last used byte is byte n: 00 and n (01, Chains)
abbrev pub link_end : ℕ → Bytes
link_end n = 0 ∷ n ∷ []

-- the sector at a place starts at byte n, and lies whole in the image (01, Tracks and sectors)
pub record StartsAt (g : Geometry) (r : DiskAddress) (n : ℕ) : Type 0 where
  pub start : n ≡ 256 * sector_number g r
  pub inside : n + 256 ≤ 256 * total g

-- an image, and the place of a sector of the disk
pub record SectorReady (g : Geometry) (img : Bytes) (r : DiskAddress) : Type 0 where
  pub size : length img ≡ 256 * total g
  pub on : on_disk g r ≡ true

-- these bytes stand in the sector at a place, which the map marks used (01, Store)
pub record SectorWritten (g : Geometry) (img : Bytes) (r : DiskAddress) (s : Bytes) (es : Entries) (img' : Bytes) (es' : Entries) : Type 0 where
  pub size : length img' ≡ length img
  pub laid : disk img' ≡ put (disk img) (sector_number g r) s
  pub marks : es' ≡ moved_mark false r es

-- an image, and places of sectors of the disk that these bytes fill, all but the last to the end
pub record ChainReady (g : Geometry) (img : Bytes) (places : List Address) (bs : Bytes) : Type 0 where
  pub size : length img ≡ 256 * total g
  pub on : All (λ at. on_disk g (address_of at) ≡ true) places
  pub some : 1 ≤ length places
  pub room : length bs ≤ 254 * length places
  pub full : 254 * length places ≤ length bs + 254

-- the bytes lie along these places, which the map marks used (01, Store)
pub record ChainWritten (g : Geometry) (img : Bytes) (places : List Address) (bs : Bytes) (es : Entries) (img' : Bytes) (es' : Entries) : Type 0 where
  pub size : length img' ≡ length img
  pub laid : disk img' ≡ write_chain g (map address_of places) bs (disk img)
  pub marks : es' ≡ moved_marks false (map address_of places) es

-- the disk with 18/s new in the directory: it becomes 00 FF and zeros, and 18/last links to it (01, Store)
unfoldable pub grown_disk : Geometry → Disk → ℕ → ℕ → Disk
grown_disk g d last s =
    put (put d (sector_number g (address 18 s)) empty_directory_sector) (sector_number g (address 18 last))
    (splice (d (sector_number g (address 18 last))) 0 (18 ∷ s ∷ []))

-- the disk with an entry at this place of a directory whose last sector is 18/last (01, Store)
unfoldable pub entry_disk : Geometry → Disk → Bytes → EntryPlace → ℕ → Disk
entry_disk g d e p last = overwrite_slot g (address 18 p.sector) p.index e (cond p.grown (grown_disk g d last p.sector) d)

-- two sectors by their place on track 18, and not the same
pub record GrowReady (g : Geometry) (img : Bytes) (last s : ℕ) : Type 0 where
  pub size : length img ≡ 256 * total g
  pub last_inside : last < 19
  pub sector_inside : s < 19
  pub other : s ≡ last → ⊥

-- the directory has grown by a sector
pub record Grown (g : Geometry) (img : Bytes) (last s : ℕ) (img' : Bytes) : Type 0 where
  pub size : length img' ≡ length img
  pub laid : disk img' ≡ grown_disk g (disk img) last s

-- an entry of 30 bytes and a slot in the image for it
pub record EntryReady (g : Geometry) (img e : Bytes) (p : EntryPlace) (last : ℕ) : Type 0 where
  pub size : length img ≡ 256 * total g
  pub whole : length e ≡ 30
  pub sector_inside : p.sector < 19
  pub index_inside : p.index < 8
  pub grow : p.grown ≡ true → GrowReady g img last p.sector

-- the entry stands at its place
pub record EntryLaid (g : Geometry) (img e : Bytes) (p : EntryPlace) (last : ℕ) (img' : Bytes) : Type 0 where
  pub size : length img' ≡ length img
  pub laid : disk img' ≡ entry_disk g (disk img) e p last
