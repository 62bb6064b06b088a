-- The file of a slot scratched in the image (01, Scratch): its chain as the code reads it, and that what is written is document 01's disk.
-- In order: the map put into its sector; the first sector of a slot's file; the slot; the file; its chain is owned; the image after; the report.
use Prim.Native.Nat.{ℕ, zero, suc, ◌+◌, ◌*◌, ◌<◌}
use native.Mathlib.Omega.{arith}
use mathlib.Core.Path.{◌≡◌, refl, sym, ap, ap₂, ◌∙◌, subst}
use mathlib.Core.Bool.{true, cond}
use mathlib.Core.List.{List, [], map}
use lib.ListN.{length, drop}
use lib.Dec.{eqb, ltb}
use borrow.Author.Tests.{eq-eqb, lt-ltb}
use Rattle.d64spec.specs.Lists.{Bytes, byte, count, part, splice, zeros}
use Rattle.d64spec.specs.Answers.{Address, address, done}
use Rattle.d64spec.specs.Geometry.{Geometry, total, sector_number, map_address}
use Rattle.d64spec.specs.Layouts.{Known}
use Rattle.d64spec.specs.Image.{Disk, disk, image, put}
use Rattle.d64spec.specs.Chain.{chain_data}
use Rattle.d64spec.specs.Directory.{File, Slot, slot_in, file_of, first_link}
use Rattle.d64spec.specs.Owner.{claim_count, is_free}
use Rattle.d64spec.specs.Map.{rewrite_map}
use Rattle.d64spec.specs.Reply.{reply}
use Rattle.d64spec.specs.Store.{overwrite_slot}
use Rattle.d64spec.specs.Scratch.{clear_sectors, scratched_disk, scratch_change}
use Rattle.d64spec.proofs.ImageLaws.{Whole, disk-whole}
use Rattle.d64spec.proofs.InPlaceLaws.{disk-image}
use Rattle.d64spec.proofs.FrameLaws.{Sound}
use Rattle.d64spec.proofs.MapBytes.{Prepared}
use Rattle.d64spec.proofs.OtherBytes.{byte_small}
use Rattle.d64spec.proofs.ScratchLaws
use Rattle.d64spec.proofs.ScratchStep.{sound-of, Found, found}
use Rattle.sectors.specs.Sectors.{overwritten_in}
use Rattle.sectors.proofs.SectorLaws.{disk-overwritten_in, length-overwritten_in}
use Rattle.std.specs.Prelude.{Ok}
use Rattle.answers.specs.declared.Done.{Done}
use Rattle.answers.specs.Faults.{called_answer, reported, reply_of}
use Rattle.bam.specs.MapEntry.{Entries}
use Rattle.bam.specs.MapSector.{map_entries, stored_entries}
use Rattle.bam.specs.Expected.{Expects, free_after}
use Rattle.bam.proofs.FollowLaws.{expects-loaded, expects-agree, map-follows}
use Rattle.directory.proofs.Track18Laws.{number-18}
use Rattle.reading.specs.ChainReads.{sectors_from, data_from, ChainFrom}
use Rattle.reading.specs.FileSlots.{first_of}
use Rattle.reading.proofs.FileLaws.{sectors-of, chain-of}
use Rattle.bam.specs.ImageMaps.{MapWritten}
use Rattle.scratching.specs.Scratches.{ChainOwned, ChainCleared, start_of, slot_on, file_on, FileThere}

-- the map put into an image whose slot is zeroed
pub slot-cleared : (g : Geometry) (es : Entries) (img : Bytes) (holder index : ℕ) {img' img'' bs : Bytes} {k i : ℕ} → img' ≡ overwritten_in img k i bs
    → k ≡ 357 + holder → i ≡ 32 * index + 2 → bs ≡ zeros 30 → MapWritten g img' es img''
    → MapWritten g (overwritten_in img (357 + holder) (32 * index + 2) (zeros 30)) es img''
slot-cleared g es img holder index {img'' = img''} e there start all w = subst (λ (x : Bytes). MapWritten g x es img'') (rw (there, start, all) at e) w

-- the first sector of a slot's file, as the code finds it: by the sector's number, the slot there, and its second and third byte
pub first_found : (g : Geometry) (kn : Known g) (img : Bytes) (holder index : ℕ) {sector slot : Bytes} {k x y : ℕ} → sector ≡ disk img k → k ≡ 357 + holder
    → slot ≡ part 0x02 0x1F (drop (32 * index) sector)
    → x ≡ byte slot 1 → y ≡ byte slot 2 → address x y ≡ start_of g img holder index
unfolding slot_on slot_in
first_found g kn img holder index {slot = slot} lent there at track number =
    let is : slot ≡ (slot_on g img holder 0 index).bytes
    = at ∙ ap (λ (b : Bytes). part 0x02 0x1F (drop (32 * index) b)) (lent ∙ ap (disk img) (there ∙ sym (number-18 g kn holder))) in
    ap₂ address (track ∙ ap (λ (b : Bytes). byte b 1) is) (number ∙ ap (λ (b : Bytes). byte b 2) is)

-- the map's sector
abbrev m : Geometry → ℕ
m g = sector_number g map_address

-- ---- the slot

module _ (g : Geometry) (kn : Known g) {img : Bytes} {holder index : ℕ} (t : FileThere g img holder index) where
  size-there : length img ≡ 256 * total g
  size-there = t.accepted.size

  -- the slot, its bytes, and the number of its sector
  abbrev s : Slot
  s = slot_on g img holder t.from index

  abbrev b : Bytes
  b = (slot_on g img holder 0 index).bytes

  abbrev n : ℕ
  n = 357 + holder

  -- the sector is whole
  whole : Whole g (disk img)
  whole = disk-whole g img t.accepted.size

  -- ---- the file

  abbrev d : Disk
  d = disk img

  abbrev f : File
  f = file_on g img holder t.from index

  sound : Sound g d
  sound = sound-of g d t.accepted.content

  there : Found g d f
  there = found g d f t.element

  -- without its sectors and its slot
  abbrev d2 : Disk
  d2 = overwrite_slot g (address 18 holder) index (zeros 30) (clear_sectors g f.sectors d)

  same2 : ScratchLaws.d2 g kn.valid d whole sound there.place ≡ d2
  unfolding file_on file_of slot_on slot_in
  same2 = ap (λ (x : File). overwrite_slot g x.slot.holder x.slot.index (zeros 30) (clear_sectors g x.sectors d)) there.is

  claims : (k : ℕ) → claim_count g d2 k + count k (map (sector_number g) f.sectors) ≡ claim_count g d k
  claims k =
      ap₂ (λ (x : Disk) (y : File). claim_count g x k + count k (map (sector_number g) y.sectors)) (sym same2) (sym there.is)
      ∙ ScratchLaws.claims2 g kn.valid d whole sound there.place k

  prepared : Prepared g d d2 f.sectors
  prepared = rw (same2, ap (λ (x : File). x.sectors) there.is) at (ScratchLaws.prepared2 g kn.valid d whole sound there.place)

  sectors-are : f.sectors ≡ sectors_from g img (first_of b)
  unfolding file_on slot_on slot_in
  sectors-are = sectors-of g kn img t.accepted s t.element

  -- ---- its chain is owned

  chain-there : ChainFrom g img (first_of b)
  unfolding file_on slot_on slot_in
  chain-there = chain-of g kn img t.accepted s t.element

  -- from the slot's first sector on, with the map as it is loaded
  pub chain-owned : ((i : ℕ) → byte img i < 256) → {r : Address} {es : Entries} → r ≡ start_of g img holder index → es ≡ map_entries g (d (m g))
      → ChainOwned g img es r
  chain-owned small start loaded =
      let owned : ChainOwned g img (map_entries g (d (m g))) (first_of b) = record {
        chain = chain-there;
        owned = λ k. omega (arith, claims k, ap (λ (l : List Address). count k (map (sector_number g) l)) sectors-are);
        once = t.accepted.content.once;
        marks = expects-loaded g kn d t.accepted.content (whole.full (m g) (omega (arith, kn.map357, kn.past18))) (byte_small img small (m g));
      } in
      rw (start, loaded) owned

  -- ---- the image after

  -- which sectors are then free
  free-after : (r : Address) → free_after g true f.sectors (is_free g d) r ≡ is_free g d2 r
  unfolding free_after
  free-after r = go (count k (map (sector_number g) f.sectors)) refl
    where
      k : ℕ
      k = sector_number g r

      go : (c : ℕ) → count k (map (sector_number g) f.sectors) ≡ c → cond (ltb 0 c) true (is_free g d r) ≡ is_free g d2 r
      go zero e = let same : claim_count g d k ≡ claim_count g d2 k = omega (arith, claims k) in ap (λ (x : ℕ). eqb x 0) same
      go (suc c) e = rw (lt-ltb 0 (suc c) (omega arith)) (sym (eq-eqb (claim_count g d2 k) 0 (omega (arith, claims k, t.accepted.content.once k))))

  -- its chain cleared from r on, then the slot, and the map as it then is put into its sector
  module _ {r : Address} (start : r ≡ start_of g img holder index) {c : Done} {img' img'' : Bytes} {es' : Entries} (chain : ChainCleared g img r c img' es')
      (written : MapWritten g (overwritten_in img' (357 + holder) (32 * index + 2) (zeros 30)) es' img'') where
    cleared : ChainCleared g img (start_of g img holder index) c img' es'
    cleared = rw start at chain

    first-disk : disk img' ≡ clear_sectors g f.sectors d
    first-disk = cleared.sectors ∙ ap (λ (l : List Address). clear_sectors g l d) (sym sectors-are)

    -- the image with the slot zeroed
    abbrev img₂ : Bytes
    img₂ = overwritten_in img' n (32 * index + 2) (zeros 30)

    second-disk : disk img₂ ≡ d2
    unfolding overwrite_slot
    second-disk =
        disk-overwritten_in img' n (32 * index + 2) (zeros 30) (omega (arith, cleared.size, size-there, t.inside, kn.past18)) (omega (arith, t.place))
        ∙ ap₂ (λ (x : Disk) (k : ℕ). put x k (splice (x k) (32 * index + 2) (zeros 30))) first-disk (sym (number-18 g kn holder))

    marks : Expects g (is_free g d2) (d (m g)) es'
    marks =
        let freed : Expects g (free_after g true f.sectors (is_free g d)) (d (m g)) es' = rw (← sectors-are) at cleared.marks in
        expects-agree g kn freed (λ r on. free-after r)

    follows : put d2 (m g) (stored_entries g es' (d2 (m g))) ≡ rewrite_map g d2
    follows = map-follows g kn d2 marks (sym prepared.unmapped) (prepared.whole.full (m g) (omega (arith, kn.map357, kn.past18)))

    -- THE IMAGE AFTER A SCRATCH is that of document 01's disk
    image-scratched : img'' ≡ image g (scratched_disk g d f)
    unfolding scratched_disk file_on file_of slot_on slot_in
    image-scratched =
        let size2 : length img₂ ≡ 256 * total g = length-overwritten_in img' n (32 * index + 2) (zeros 30) ∙ cleared.size ∙ size-there in
        let same : disk img'' ≡ rewrite_map g d2
        = written.laid (omega (arith, size2, kn.past18)) ∙ ap (λ (x : Disk). put x (m g) (stored_entries g es' (x (m g)))) second-disk ∙ follows in
        sym (disk-image g img'' (written.size ∙ size2)) ∙ ap (image g) same

    -- ---- the report

    bytes_is : c.length ≡ length (chain_data g d f.sectors)
    unfolding data_from
    bytes_is = cleared.bytes ∙ ap (λ (l : List Address). length (chain_data g d l)) (sym sectors-are)

    -- THE REPLY OF A SCRATCH that is done
    pub scratch-replied : reply_of (Ok c) img'' [] ≡ reply img [] (done (scratch_change g img (file_on g img holder 0 index)))
    unfolding reply called_answer reported file_on slot_on slot_in file_of first_link scratched_disk
    scratch-replied = rw (image-scratched, bytes_is, cleared.number ∙ ap length (sym sectors-are))
