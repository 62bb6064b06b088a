-- The loop that clears a chain (01, Scratch; Chains): what it keeps, from its start through each sector to the last.
-- In order: one sector cleared; sectors cleared in another order; what is kept (`Clearing`); the sector at hand is as it was; it is cleared, and its
-- mark moved.
use Prim.Native.Nat.{ℕ, ◌+◌, ◌-◌, ◌*◌, ◌≤◌, ◌<◌}
use native.Mathlib.Omega.{arith}
use native.Mathlib.Decide.{dec_lt}
use mathlib.Core.Path.{◌≡◌, refl, sym, ap, ap₂, ◌∙◌, fun_ext}
use mathlib.Core.Bool.{Bool, true, false, cond}
use mathlib.Core.List.{List, [], ◌∷◌, ◌++◌, map}
use lib.ListN.{length, take, drop}
use lib.Dec.{eqb, ltb}
use borrow.Author.Tests.{eq-eqb, ne_eqb}
use Rattle.d64spec.specs.Lists.{Bytes, byte, count, indicator, zeros}
use Rattle.d64spec.specs.Answers.{Address}
use Rattle.d64spec.specs.Geometry.{Geometry, sector_number, map_address}
use Rattle.d64spec.specs.Layouts.{Known}
use Rattle.d64spec.specs.Image.{Disk, disk, put}
use Rattle.d64spec.specs.Owner.{claim_count, is_free}
use Rattle.d64spec.specs.Scratch.{clear_sectors}
use Rattle.d64spec.proofs.ClearLaws.{clear_in, clear-other}
use Rattle.answers.specs.declared.Done.{Done}
use Rattle.sectors.specs.Sectors.{Inside}
use Rattle.sectors.proofs.SectorLaws.{length-disk, length-with_sector, disk-with_sector, sector-lent, sector-back}
use Rattle.bam.specs.MapEntry.{Entries}
use Rattle.bam.specs.Bam.{moved_mark}
use Rattle.bam.specs.Expected.{Expects, free_after}
use Rattle.bam.proofs.FollowLaws.{expects-start, expects-moved, expects-agree}
use Rattle.reading.specs.ChainReads.{link_of, sectors_from, data_from, ChainFrom}
use Rattle.reading.proofs.ChainStepLaws.{Visited, Follows, sectors-first, last-used, last-alone, follows}
use Rattle.reading.proofs.CopyLaws.{length-last, length-more}
use Rattle.scratching.specs.Scratches.{SectorCleared, ChainOwned, ChainCleared}

-- how often sector n stands among these
abbrev times : Geometry → ℕ → List Address → ℕ
times g n l = count n (map (sector_number g) l)

-- ---- one sector

-- a sector of the image lent, and filled with zeros there
whole-cleared : (img : Bytes) (n : ℕ) {a : ℕ} (start : a ≡ 256 * n) {p : Bytes} {link : Address} → Inside img n
    → p ≡ zeros (length (take (a + 256 - a) (drop a img))) → link ≡ link_of (take (a + 256 - a) (drop a img)) → SectorCleared img n link (take a img ++ (p ++ drop (a + 256 - a) (drop a img)))
whole-cleared img n start inside zeroed had =
    let lent = sector-lent img n start in
    let back = sector-back img n start inside (zeroed ∙ ap zeros (ap length lent ∙ length-disk img n inside)) refl in
    record {
      zeroed = ap disk back ∙ disk-with_sector img n (zeros 256) inside refl;
      size = ap length back ∙ length-with_sector img n (zeros 256);
      had = had ∙ ap link_of lent;
    }

-- the same of a part that ends where the sector does
pub sector-cleared : (img : Bytes) (n : ℕ) {a b : ℕ} (start : a ≡ 256 * n) {p : Bytes} {link : Address} → Inside img n
    → p ≡ zeros (length (take (b - a) (drop a img))) → link ≡ link_of (take (b - a) (drop a img)) → b ≡ a + 256
    → SectorCleared img n link (take a img ++ (p ++ drop (b - a) (drop a img)))
sector-cleared img n {a} {b} start inside zeroed had end =
    let wide : b - a ≡ a + 256 - a = omega arith in
    rw wide (whole-cleared img n start inside (rw wide at zeroed) (rw wide at had))

-- ---- the same sectors in another order

module _ (g : Geometry) (l m : List Address) (same : (n : ℕ) → times g n l ≡ times g n m) where
  clear-same : (d : Disk) → clear_sectors g l d ≡ clear_sectors g m d
  clear-same d = fun_ext (λ n. elim (dec_lt 0 (times g n l)) [
    | yes h ↦ clear_in g l d n h ∙ sym (clear_in g m d n (omega (arith, same n)))
    | no h ↦ clear-other g l d n (omega arith) ∙ sym (clear-other g m d n (omega (arith, same n)))
  ])

  free-same : (v : Bool) (before : Address → Bool) (r : Address) → free_after g v l before r ≡ free_after g v m before r
  unfolding free_after
  free-same v before r = ap (λ (k : ℕ). cond (ltb 0 k) v (before r)) (same (sector_number g r))

-- ---- what the loop keeps

-- k sectors of the chain from `first` on are zeroed and free in the map, and the chain goes on at `at`, as it was in the image at the start
pub record Clearing (g : Geometry) (img : Bytes) (first at : Address) (img' : Bytes) (es' : Entries) (k : ℕ) : Type 0 where
  pub chain : ChainFrom g img at
  pub cleared : List Address
  pub sectors : disk img' ≡ clear_sectors g cleared (disk img)
  pub size : length img' ≡ length img
  pub marks : Expects g (free_after g true cleared (is_free g (disk img))) (disk img (sector_number g map_address)) es'
  pub apart : (n : ℕ) → times g n cleared + times g n (sectors_from g img at) ≡ times g n (sectors_from g img first)
  pub left : k + length (sectors_from g img at) ≡ length (sectors_from g img first)
  pub bytes : 254 * k + length (data_from g img at) ≡ length (data_from g img first)

pub clearing-start : (g : Geometry) (kn : Known g) {img : Bytes} {es : Entries} {first : Address} → ChainOwned g img es first
    → Clearing g img first first img es 0
clearing-start g kn o = record {
  chain = o.chain;
  cleared = [];
  sectors = refl;
  size = refl;
  marks = expects-start g kn true o.marks;
  apart = λ n. omega arith;
  left = omega arith;
  bytes = omega arith;
}

module _ (g : Geometry) (kn : Known g) {img : Bytes} {es : Entries} {first at : Address} {img' : Bytes} {es' : Entries} {k : ℕ}
    (o : ChainOwned g img es first) (w : Clearing g img first at img' es' k) where
  -- ---- the sector at hand is as it was

  abbrev own : ℕ
  own = sector_number g at

  among : 1 ≤ times g own (sectors_from g img at)
  among =
      let s = sectors-first w.chain in
      let self : indicator (eqb own own) ≡ 1 = rw (eq-eqb own own refl) in
      omega (arith, ap (times g own) s.1)

  not_yet : times g own w.cleared ≡ 0
  not_yet = omega (arith, among, w.apart own, o.owned own, o.once own)

  as-was : disk img' own ≡ disk img own
  as-was = ap (λ (d : Disk). d own) w.sectors ∙ clear-other g w.cleared (disk img) own not_yet

  used : free_after g true w.cleared (is_free g (disk img)) at ≡ false
  unfolding free_after
  used = rw not_yet (ne_eqb (claim_count g (disk img) own) 0 (λ e. omega (arith, among, w.apart own, o.owned own)))

  module _ {n : ℕ} (v : Visited g img at n) where
    pub inside' : Inside img' n
    inside' = omega (arith, v.inside, w.size)

    -- ---- it is cleared, and its mark moved

    module _ {link : Address} {img'' : Bytes} (step : SectorCleared img' n link img'') where
      -- its link was the one that it had at the start
      link-as-was : link ≡ link_of (disk img own)
      link-as-was = step.had ∙ ap link_of (ap (disk img') v.number ∙ as-was)

      -- the sector that the link names is the chain's next
      pub next : 1 ≤ link.track → Follows g img at link
      next h = rw link-as-was (follows w.chain refl (omega (arith, ap (λ (r : Address). r.track) link-as-was)))

      -- or it is the last
      pub alone : link.track < 1 → sectors_from g img at ≡ at ∷ []
      alone h = last-alone w.chain refl (omega (arith, ap (λ (r : Address). r.track) link-as-was))

      -- whose second byte is then 1 or more
      pub used-last : link.track < 1 → 1 ≤ link.sector
      used-last h =
          omega (arith, last-used w.chain refl (omega (arith, ap (λ (r : Address). r.track) link-as-was)), ap (λ (r : Address). r.sector) link-as-was)

      sectors'' : disk img'' ≡ clear_sectors g (at ∷ w.cleared) (disk img)
      sectors'' = step.zeroed ∙ ap₂ (λ (d : Disk) (m : ℕ). put d m (zeros 256)) w.sectors v.number

      size'' : length img'' ≡ length img
      size'' = step.size ∙ w.size

      module _ {es'' : Entries} (marked : es'' ≡ moved_mark true at es') {k' : ℕ} (more : k' ≡ k + 1) where
        marks'' : Expects g (free_after g true (at ∷ w.cleared) (is_free g (disk img))) (disk img (sector_number g map_address)) es''
        marks'' = rw marked (expects-moved g kn true w.cleared (is_free g (disk img)) w.marks at w.chain.on used)

        pub clearing-moved : Follows g img at link → Clearing g img first link img'' es'' k'
        clearing-moved f = record {
          chain = f.rest;
          cleared = at ∷ w.cleared;
          sectors = sectors'';
          size = size'';
          marks = marks'';
          apart = λ m. omega (arith, w.apart m, ap (times g m) f.sectors);
          left = omega (arith, w.left, ap length f.sectors);
          bytes = omega (arith, w.bytes, length-more w.chain refl f);
        }

        pub clearing-finished : {d : Done} → link.track < 1 → link.sector ≤ 255 → d.length ≡ 254 * k' + link.sector - 255 → d.sectors ≡ k'
            → ChainCleared g img first d img'' es''
        clearing-finished {d} end small long many =
            let e = alone end in
            let last : link.sector ≡ byte (disk img own) 1 = ap (λ (r : Address). r.sector) link-as-was in
            let all : (m : ℕ) → times g m (at ∷ w.cleared) ≡ times g m (sectors_from g img first) = λ m. omega (arith, w.apart m, ap (times g m) e) in
            record {
              sectors = sectors'' ∙ clear-same g (at ∷ w.cleared) (sectors_from g img first) all (disk img);
              size = size'';
              marks = expects-agree g kn marks'' (λ r on. free-same g (at ∷ w.cleared) (sectors_from g img first) all true (is_free g (disk img)) r);
              bytes = omega (arith, w.bytes, length-last w.chain refl e (omega (arith, last)), last, used-last end);
              number = omega (arith, w.left, ap length e);
            }
