-- A file scratched, with the map: the disk is accepted, the other files stay, the file's sectors are zero and free, and so is its slot.
use Prim.Native.Nat.{ℕ, ◌+◌, ◌*◌, ◌<◌}
use native.Mathlib.Omega.{arith}
use mathlib.Core.Path.{◌≡◌, sym, ap, ◌∙◌}
use mathlib.Core.Bool.{not}
use mathlib.Core.List.{List, map}
use lib.ListN.{drop}
use lib.Dec.{eqb}
use borrow.Author.Tests.{eq-eqb}
use Rattle.d64spec.specs.Lists.{Bytes, count, equal, filter, indicator, part, zeros}
use Rattle.d64spec.specs.Answers.{Address}
use Rattle.d64spec.specs.Geometry.{Geometry, Valid, map_address, sector_number}
use Rattle.d64spec.specs.Image.{Disk}
use Rattle.d64spec.specs.Directory.{File, directory_sectors, file_of, name_of, plain_list}
use Rattle.d64spec.specs.Owner.{Among, claim_count}
use Rattle.d64spec.specs.Map.{rewrite_map}
use Rattle.d64spec.specs.Accepted.{AcceptedDisk}
use Rattle.d64spec.proofs.FrameLaws.{Sound}
use Rattle.d64spec.proofs.ImageLaws.{Whole}
use Rattle.d64spec.proofs.MapWriteLaws.{rewrite-whole, rewrite-accepted, rewrite-plain_list, rewrite-claims, rewrite-other}
use Rattle.d64spec.proofs.MapBytes.{Prepared}
use Rattle.d64spec.proofs.ClearLaws.{clear_in, clear-other}
use Rattle.d64spec.proofs.ScratchLaws
use Rattle.d64spec.proofs.ScratchLaws.{OccupiedSlot, claim_count-of}

module _ (g : Geometry) (v : Valid g) (d : Disk) (w : Whole g d) (a : Sound g d) (o : OccupiedSlot g d) where
  -- the file
  abbrev f : File
  f = file_of g d o.slot

  -- without the file, but for the map
  abbrev d2 : Disk
  d2 = ScratchLaws.d2 g v d w a o

  -- and with the map
  abbrev pub d3 : Disk
  d3 = rewrite_map g d2

  prepared : Prepared g d d2 f.sectors
  prepared = ScratchLaws.prepared2 g v d w a o

  pub scratch-whole : Whole g d3
  scratch-whole = rewrite-whole g v d2 prepared.whole prepared.sound

  pub scratch-accepted : AcceptedDisk g d3
  scratch-accepted = rewrite-accepted g v d2 prepared.whole prepared.sound

  pub scratch-plain_list : plain_list g d3 ≡ filter (λ x. not (equal (name_of o.slot.bytes) x.name)) (plain_list g d)
  scratch-plain_list = rewrite-plain_list g v d2 prepared.whole prepared.sound ∙ sym (ScratchLaws.kept-plain_list g v d w a o)

  pub claims3 : (n : ℕ) → claim_count g d3 n ≡ claim_count g d2 n
  claims3 = rewrite-claims g v d2 prepared.whole prepared.sound

  claims2 : (n : ℕ) → claim_count g d2 n + count n (map (sector_number g) f.sectors) ≡ claim_count g d n
  claims2 = ScratchLaws.claims2 g v d w a o

  -- the directory is what it was
  directory2 : (n : ℕ) → count n (map (sector_number g) (directory_sectors g d2)) ≡ count n (map (sector_number g) (directory_sectors g d))
  directory2 n = ap (λ (l : List Address). count n (map (sector_number g) l)) (ScratchLaws.dirs2 g v d w a o)

  -- a sector that is free afterwards
  free-after : (n : ℕ) → claim_count g d3 n ≡ 0 → d3 n ≡ ScratchLaws.d1 g v d w a o n
  free-after n h =
      rewrite-other g d2 n (λ e. let z : indicator (eqb n (sector_number g map_address)) ≡ 1 = rw (eq-eqb n (sector_number g map_address) e) in omega (arith, claims3 n, claim_count-of g d2 n))
      ∙ ScratchLaws.sector2 g v d w a o n (omega (arith, claims3 n, claim_count-of g d2 n, directory2 n))

  pub scratch-given : (n : ℕ) → 0 < claim_count g d n → claim_count g d3 n ≡ 0 → d3 n ≡ zeros 256
  scratch-given n k h = free-after n h ∙ clear_in g f.sectors d n (omega (arith, claims2 n, claims3 n))

  pub scratch-kept : (n : ℕ) → claim_count g d n ≡ 0 → claim_count g d3 n ≡ 0 → d3 n ≡ d n
  scratch-kept n k h = free-after n h ∙ clear-other g f.sectors d n (omega (arith, claims2 n))

  pub scratch-cleared : (n : ℕ) → Among g n f.sectors → d3 n ≡ zeros 256
  scratch-cleared n h = scratch-given n (omega (arith, claims2 n)) (omega (arith, claims2 n, claims3 n, a.once n))

  -- the slot's sector is the directory's, and so not the map's
  pub scratch-slot : part 0x02 0x1F (drop (32 * o.slot.index) (d3 (sector_number g o.slot.holder))) ≡ zeros 30
  scratch-slot =
      let n : ℕ = sector_number g o.slot.holder in
      ap (λ (x : Bytes). part 0x02 0x1F (drop (32 * o.slot.index) x))
      (rewrite-other g d2 n (λ e. let z : indicator (eqb n (sector_number g map_address)) ≡ 1 = rw (eq-eqb n (sector_number g map_address) e) in omega (arith, o.placed.sector, a.once n, claim_count-of g d n)))
      ∙ ScratchLaws.slot2 g v d w a o
