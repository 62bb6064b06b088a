-- One sector of a chain written (01, Chains; Store), and where it lies in the image.
-- In order: bytes copied behind a front that stays; a sector filled as the code fills it; where it lies; a sector lent on, filled and marked.
use Prim.Native.Nat.{ℕ, ◌+◌, ◌-◌, ◌*◌, ◌≤◌, ◌<◌}
use native.Mathlib.Omega.{arith}
use mathlib.Core.Path.{◌≡◌, sym, ap, ap₂, ◌∙◌}
use mathlib.Core.Bool.{Bool, true, false}
use mathlib.Core.List.{[], ◌++◌, append-nil, append_assoc}
use lib.ListN.{length, take, drop, length-append, length-take, length-drop, length-replicate, drop_of_length-le}
use lib.Seq.{take_all, take-length, take_at, drop-drop}
use borrow.Rule.Slice.PartMut.{put_mid}
use Rattle.d64spec.specs.Lists.{Bytes, splice, zeros}
use Rattle.d64spec.specs.Answers.{Address}
use Rattle.d64spec.specs.Geometry.{Geometry, total, on_disk, sector_number}
use Rattle.d64spec.specs.Image.{disk}
use Rattle.d64spec.proofs.BoundLaws.{sector_number-lt}
use Rattle.geometry.specs.declared.Layout.{Layout}
use Rattle.geometry.specs.Layout.{geometry_of, firsts, number_by}
use Rattle.geometry.proofs.LentTableLaws.{number-known}
use Rattle.sectors.specs.Sectors.{Inside, with_sector}
use Rattle.sectors.proofs.SectorLaws.{length-with_sector, disk-with_sector, sector-back}
use Rattle.bam.specs.MapEntry.{Entries}
use Rattle.bam.specs.Bam.{moved_mark}
use Rattle.parts.proofs.OverwriteLaws.{lent_back}
use Rattle.storing.specs.Writes.{chain_sector, StartsAt, SectorReady, SectorWritten}

-- what comes back of a loan of the bytes of t from a on when c is copied over the first of them, and when it is copied over all of them
module _ (t c : Bytes) (a : ℕ) where
  pub rest-copied : a + length c ≤ length t → {p : Bytes} → p ≡ take (length c) c ++ drop (length c) (take (length t - a) (drop a t))
      → take a t ++ (p ++ drop (length t - a) (drop a t)) ≡ splice t a c
  rest-copied fits {p} e =
      let all : take (length t - a) (drop a t) ≡ drop a t = take_all (length t - a) (drop a t) (omega (arith, length-drop a t)) in
      let none : drop (length t - a) (drop a t) ≡ [] = drop_of_length-le (drop a t) {i = length t - a} (omega (arith, length-drop a t)) in
      let is : p ≡ c ++ drop (a + length c) t
      = e ∙ ap₂ (λ (x y : Bytes). x ++ y) (take-length c) (ap (drop (length c)) all ∙ drop-drop (length c) a t) in
      ap₂ (λ (x y : Bytes). take a t ++ (x ++ y)) is none ∙ ap (λ (x : Bytes). take a t ++ x) (append-nil (c ++ drop (a + length c) t))

  pub rest_filled : a + length c ≡ length t → {p : Bytes} → p ≡ c → take a t ++ (p ++ drop (length t - a) (drop a t)) ≡ splice t a c
  rest_filled fits {p} e = rw e (lent_back t a (length t - a) c (omega arith))

-- ---- a sector filled

-- the two link bytes, the content behind them, and zeros up to the sector's end
module _ (s link c : Bytes) {a b : Bytes} (size : length s ≡ 256) (two : length link ≡ 2) (few : length c ≤ 254) (ae : a ≡ link) (be : b ≡ c) where
  -- where the content ends, and the sector when it is put
  abbrev end : ℕ
  end = length c + 2

  abbrev put : Bytes
  put = put_mid 2 (end - 2) (a ++ drop 2 s) b

  put-is : put ≡ (link ++ c) ++ drop (end - 2) (drop 2 (a ++ drop 2 s))
  put-is =
      let r : Bytes = drop (end - 2) (drop 2 (a ++ drop 2 s)) in
      let front : take 2 (a ++ drop 2 s) ≡ a = take_at a (drop 2 s) 2 (ap length ae ∙ two) in
      ap₂ (λ (x y : Bytes). x ++ (y ++ r)) (front ∙ ae) be ∙ sym (append_assoc link c r)

  length-put : length put ≡ 256
  length-put = simp (length-append, length-take, length-drop) (omega (arith, ap length ae, ap length be))

  pub sector-filled : {z : Bytes} → z ≡ zeros (length (take (length put - end) (drop end put)))
      → put_mid end (length put - end) put z ≡ chain_sector link c
  sector-filled {z} ze =
      let rest : Bytes = drop (end - 2) (drop 2 (a ++ drop 2 s)) in
      let front : take end put ≡ link ++ c = ap (take end) put-is ∙ take_at (link ++ c) rest end (omega (arith, length-append link c)) in
      let none : drop (length put - end) (drop end put) ≡ [] = drop_of_length-le (drop end put) {i = length put - end} (omega (arith, length-drop end put)) in
      let many : length (take (length put - end) (drop end put)) ≡ 254 - length c = simp (length-take, length-drop) (omega (arith, length-put)) in
      ap₂ (λ (x y : Bytes). x ++ (z ++ y)) front none
      ∙ ap (λ (x : Bytes). (link ++ c) ++ x) (append-nil z ∙ ze ∙ ap (λ (k : ℕ). zeros k) many) ∙ append_assoc link c (zeros (254 - length c))

pub length-chain_sector : (link c : Bytes) → length link ≡ 2 → length c ≤ 254 → length (chain_sector link c) ≡ 256
length-chain_sector link c two few = simp (length-append, length-replicate) (omega arith)

-- ---- where it lies

module _ (layout : Layout) (r : Address) (on : on_disk (geometry_of layout) r ≡ true) {n : ℕ} (is : n ≡ number_by firsts r) where
  number-is : n ≡ sector_number (geometry_of layout) r
  number-is = is ∙ number-known layout r on

  pub number_at : n < total (geometry_of layout)
  number_at = omega (arith, number-is, sector_number-lt (geometry_of layout) r on)

  pub starts-at : StartsAt (geometry_of layout) r (256 * n)
  starts-at = record { start = ap (λ (k : ℕ). 256 * k) number-is; inside = omega (arith, number_at) }

-- ---- a sector lent on, filled and marked

module _ (g : Geometry) {img : Bytes} {r : Address} {start : ℕ} (ready : SectorReady g img r) (at : StartsAt g r start) where
  -- how wide the code lends the sector
  abbrev width : ℕ
  width = start + 256 - start

  pub sector-written : (link c : Bytes) {p : Bytes} {es es' : Entries} {mark : Bool} → length link ≡ 2 → length c ≤ 254 → p ≡ chain_sector link c
      → es' ≡ moved_mark mark r es → mark ≡ false → SectorWritten g img r (chain_sector link c) es (take start img ++ (p ++ drop width (drop start img))) es'
  sector-written link c {p} {es} two few e marks used =
      let n : ℕ = sector_number g r in
      let s : Bytes = chain_sector link c in
      let size : length s ≡ 256 = length-chain_sector link c two few in
      let fits : Inside img n = omega (arith, ready.size, at.start, at.inside) in
      let back : take start img ++ (p ++ drop width (drop start img)) ≡ with_sector img n s
      = sector-back img n at.start fits e size in
      record {
        size = ap length back ∙ length-with_sector img n s;
        laid = ap disk back ∙ disk-with_sector img n s fits size;
        marks = marks ∙ ap (λ (b : Bool). moved_mark b r es) used;
      }
