-- The map in an image: what comes back of a loan of 18/0, as the definitions say it. Assumes nothing.
use Prim.Native.Nat.{ℕ, ◌+◌, ◌*◌, ◌≤◌, ◌<◌}
use native.Mathlib.Omega.{arith}
use mathlib.Core.Path.{◌≡◌, refl, sym, ap, ◌∙◌}
use mathlib.Core.List.{◌++◌}
use lib.ListN.{length, take, drop}
use Rattle.d64spec.specs.Lists.{Bytes}
use Rattle.d64spec.specs.Geometry.{Geometry, sector_number, map_address}
use Rattle.d64spec.specs.Layouts.{Known}
use Rattle.d64spec.specs.Image.{disk}
use Rattle.parts.proofs.OverwriteLaws.{lent_back}
use Rattle.sectors.specs.Sectors.{with_sector}
use Rattle.sectors.proofs.SectorLaws.{with_sector-whole, with_sector-cut, length-with_sector, disk-with_sector}
use Rattle.bam.specs.MapEntry.{Entries}
use Rattle.bam.specs.MapSector.{stored_entries}
use Rattle.bam.specs.ImageMaps.{with_map, MapWritten}

module _ (g : Geometry) (kn : Known g) where
  -- an image that does not have 18/0 whole is left
  pub map-left : (es : Entries) (img : Bytes) → length img < 91648 → MapWritten g img es img
  unfolding with_map
  map-left es img short = record {
    bytes = sym (with_sector-cut img (sector_number g map_address) (stored_entries g es (disk img (sector_number g map_address))) (omega (arith, kn.map357)));
    size = refl;
    laid = λ long. absurd (omega arith);
  }

  -- what comes back of a loan of 18/0 when the map is put into it
  pub map-written : (es : Entries) (img : Bytes) {q : Bytes} → 91648 ≤ length img → q ≡ stored_entries g es (take 256 (drop 91392 img)) → length q ≡ 256
      → MapWritten g img es (take 91392 img ++ (q ++ drop 256 (drop 91392 img)))
  unfolding with_map disk
  map-written es img {q} long is full =
      let m : ℕ = sector_number g map_address in
      let s : Bytes = stored_entries g es (disk img m) in
      let at : 91392 ≡ 256 * m = omega (arith, kn.map357) in
      let same : q ≡ s = is ∙ ap (λ (n : ℕ). stored_entries g es (take 256 (drop n img))) at in
      let full' : length s ≡ 256 = ap length (sym same) ∙ full in
      let inside : 256 * m + 256 ≤ length img = omega (arith, kn.map357) in
      let back : take 91392 img ++ (q ++ drop 256 (drop 91392 img)) ≡ with_sector img m s
      = lent_back img 91392 256 q full ∙ ap (λ (x : Bytes). take 91392 img ++ (x ++ drop (91392 + length x) img)) same
      ∙ ap (λ (n : ℕ). take n img ++ (s ++ drop (n + length s) img)) at ∙ sym (with_sector-whole img m s inside full') in
      record {
        bytes = back;
        size = ap length back ∙ length-with_sector img m s;
        laid = λ h. ap disk back ∙ disk-with_sector img m s inside full';
      }
