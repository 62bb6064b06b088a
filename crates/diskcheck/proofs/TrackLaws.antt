-- Track 18 of an image, as the code lends it: 4,864 bytes from byte 91,392 on (01, Tracks and sectors: 18/0 is 357).
-- In order: the parts that are lent; a slot in them; the slots of the image are those of its track 18.
use Prim.Native.Nat.{ℕ, zero, suc, ◌*◌, ◌/◌, ◌≤◌, ◌<◌}
use native.Mathlib.Omega.{arith}
use mathlib.Core.Path.{◌≡◌, refl, sym, ap, ◌∙◌}
use mathlib.Core.Bool.{not}
use mathlib.Core.List.{List, [], ◌∷◌, map}
use lib.ListN.{length, take, drop, length-take, length-map}
use Rattle.d64spec.specs.Lists.{Bytes, All, filter, range}
use Rattle.d64spec.specs.Answers.{address}
use Rattle.d64spec.specs.Geometry.{Geometry, total, sector_number, sectors_on, map_address}
use Rattle.d64spec.specs.Layouts.{Known}
use Rattle.d64spec.specs.Image.{disk}
use Rattle.d64spec.specs.Directory.{is_empty, slots_from, occupied_in}
use Rattle.d64spec.specs.Listing.{bytes_of_track18, disk_of_track18}
use Rattle.d64spec.proofs.FrameLaws.{same-slots}
use Rattle.d64spec.proofs.ListingTheorem.{track18-length, track18-sectors}
use Rattle.directory.specs.Directories.{sectors_of, slot_bytes, occupied_from, IsSlot}
use Rattle.directory.proofs.SearchLaws.{sector-lt}
use Rattle.directory.proofs.SlotListLaws.{disk-of-track18, slots-by-number}
use Rattle.directory.proofs.Track18Laws.{number-18}
use Rattle.diskcheck.specs.SlotChecks.{image_slot, image_occupied, LentSlot}

-- as many sectors as are counted
pub sectors_of-whole : (ss : List ℕ) (n : ℕ) → n ≡ length (sectors_of ss n) → n ≤ length ss
sectors_of-whole ss n e = omega (arith, length-map (take n ss) (λ s. address 18 s), length-take n ss)

module _ (g : Geometry) (kn : Known g) where
  -- ---- parts of the image

  pub track18-lent : (img : Bytes) → take 4864 (drop 91392 img) ≡ bytes_of_track18 g img
  unfolding bytes_of_track18
  track18-lent img =
      let size : 256 * sectors_on g 18 ≡ 4864 = omega (arith, kn.on18) in
      let start : 256 * sector_number g map_address ≡ 91392 = omega (arith, kn.map357) in
      rw (size, start) refl

  pub map-lent : (img : Bytes) → take 256 (drop 91392 img) ≡ disk img (sector_number g map_address)
  unfolding disk
  map-lent img =
      let start : 256 * sector_number g map_address ≡ 91392 = omega (arith, kn.map357) in
      rw start refl

  -- ---- a slot

  -- read from track 18 as it is lent
  pub slot_lent : {img ss : List ℕ} {k : ℕ} {b : Bytes} → length img ≡ 256 * total g → All (λ s. s < 19) ss → IsSlot (take 4864 (drop 91392 img)) ss k b
      → LentSlot g img ss k b
  slot_lent {img} {ss} {k} {b} size inside s =
      record {
        is = s.bytes ∙ ap (λ (t : Bytes). slot_bytes t ss k) (track18-lent img);
        full = s.full (ap length (track18-lent img) ∙ track18-length kn img size) (sector-lt ss inside (k / 8));
      }

  -- ---- the directory's sectors and its slots

  module _ (img : Bytes) where
    -- a directory sector of track 18 alone is the image's
    sector-same : (s : ℕ) → s < 19
        → disk img (sector_number g (address 18 s)) ≡ disk_of_track18 g (bytes_of_track18 g img) (sector_number g (address 18 s))
    sector-same s h = ap (disk img) (number-18 g kn s) ∙ sym (track18-sectors kn img s h) ∙ sym (disk-of-track18 g (bytes_of_track18 g img) s)

    sectors-same : (ss : List ℕ) (n : ℕ) → All (λ s. s < 19) ss
        → All (λ r. disk img (sector_number g r) ≡ disk_of_track18 g (bytes_of_track18 g img) (sector_number g r)) (sectors_of ss n)
    sectors-same ss zero a = tt
    sectors-same [] (suc n) a = tt
    sectors-same (s ∷ ss) (suc n) a = (sector-same s a.0, sectors-same ss n a.1)

    -- THE SLOTS of an image, by their numbers on its track 18
    pub slots-by-track18 : (ss : List ℕ) (n : ℕ) → All (λ s. s < 19) ss → n ≤ length ss
        → slots_from g (disk img) 0 (sectors_of ss n) ≡ map (image_slot g img ss) (range 0 (8 * n))
    slots-by-track18 ss n a h =
        sym (same-slots g (disk img) (disk_of_track18 g (bytes_of_track18 g img)) 0 (sectors_of ss n) (sectors-same ss n a))
        ∙ slots-by-number g (bytes_of_track18 g img) ss n h

    -- and the occupied ones
    pub occupied-by-track18 : (ss : List ℕ) (n : ℕ) → All (λ s. s < 19) ss → n ≤ length ss
        → occupied_in g (disk img) (sectors_of ss n) ≡ image_occupied g img ss 0 (8 * n)
    unfolding occupied_from
    occupied-by-track18 ss n a h = ap (filter (λ s. not (is_empty s.bytes))) (slots-by-track18 ss n a h)
