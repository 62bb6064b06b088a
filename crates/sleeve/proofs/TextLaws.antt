-- The whole text: how long it is, and its three pieces written one behind the other (01, Sleeve listing). Assumes nothing.
use Prim.Native.Nat.{ℕ, ◌<◌, ◌+◌, ◌*◌, ◌-◌, ◌/◌, ◌%◌}
use native.Mathlib.Omega.{arith}
use mathlib.Core.Path.{◌≡◌, refl, sym, ap, ◌∙◌}
use mathlib.Core.List.{List, [], ◌∷◌, ◌++◌, append-nil}
use lib.ListN.{length, take, drop, length-append, length-take, length-drop}
use Rattle.d64spec.specs.Lists.{Bytes}
use Rattle.d64spec.specs.Geometry.{Geometry}
use Rattle.d64spec.specs.Image.{disk}
use Rattle.d64spec.specs.Directory.{Slot}
use Rattle.d64spec.specs.Listing.{disk_of_track18, free_total, head_frame, line, listing_text}
use Rattle.d64spec.proofs.ListingLaws.{line-length}
use Rattle.directory.proofs.SlotListLaws.{disk-of-track18}
use Rattle.sleeve.specs.Texts.{free_line, lines_of}
use Rattle.sleeve.proofs.WriteLaws.{Writing, writing_start, writing-lent, writing-finished}

-- the last line, from a sum that is the map's: the two bytes of a number of two bytes
pub free-line : (g : Geometry) (m : Bytes) {n : ℕ} → n < 65536 → n ≡ free_total g m → {r : Bytes} → r ≡ line (n / 256 % 256 ∷ n % 256 ∷ [])
    → r ≡ free_line g m
unfolding free_line
free-line g m {n} fits total written =
    written ∙ ap (λ (k : ℕ). line (k ∷ n % 256 ∷ [])) (omega (arith, fits)) ∙ ap (λ (k : ℕ). line (k / 256 ∷ k % 256 ∷ [])) total

module _ (g : Geometry) (b : Bytes) (l : List Slot) where
  -- the map sector
  abbrev map : Bytes
  map = take 256 b

  -- the first and the last of the three pieces
  abbrev pub first : Bytes
  first = line (head_frame map)

  abbrev pub last : Bytes
  last = free_line g map

  sector-0 : disk b 0 ≡ map
  unfolding disk
  sector-0 = refl

  pub text-pieces : listing_text g (disk_of_track18 g b) l ≡ first ++ (lines_of l ++ last)
  unfolding listing_text lines_of free_line
  text-pieces = rw (disk-of-track18 g b 0 ∙ sector-0)

  module _ (whole : length b ≡ 4864) (lines : length (lines_of l) ≡ 43 * length l) where
    length-first : length first ≡ 37
    unfolding head_frame
    length-first =
        let name : Bytes = take 16 (drop 144 map) in
        let id : Bytes = take 2 (drop 162 map) in
        omega (arith, line-length (name ++ id), length-append name id, length-take 16 (drop 144 map), length-drop 144 map, length-take 2 (drop 162 map), length-drop 162 map, length-take 256 b)

    length_last : length last ≡ 5
    unfolding free_line
    length_last = line-length (free_total g map / 256 ∷ free_total g map % 256 ∷ [])

    pub length-text : length (listing_text g (disk_of_track18 g b) l) ≡ 42 + 43 * length l
    length-text = omega (arith, ap length text-pieces, length-append first (lines_of l ++ last), length-append (lines_of l) last, length-first, length_last)

    -- what comes back of the three loans: of the first 37 bytes, of those up to the last five, and of these
    module _ (text : Bytes) (size : length text ≡ 42 + 43 * length l) where
      abbrev end : ℕ
      end = length text - 5

      abbrev one : Bytes → Bytes
      one p = p ++ drop 37 text

      abbrev two : Bytes → Bytes → Bytes
      two p q = take 37 (one p) ++ (q ++ drop (end - 37) (drop 37 (one p)))

      abbrev three : Bytes → Bytes → Bytes → Bytes
      three p q r = take end (two p q) ++ (r ++ drop (length (two p q) - end) (drop end (two p q)))

      after_first : {p : Bytes} → p ≡ first → Writing (first ++ (lines_of l ++ last)) (lines_of l ++ last) (one p) 37
      after_first filled =
          let start = writing_start (first ++ (lines_of l ++ last)) text (omega (arith, length-text, ap length text-pieces)) in
          writing-lent start first (lines_of l ++ last) refl 37 (omega (arith, length-first)) filled

      pub text-written : {p q r : Bytes} → p ≡ first → q ≡ lines_of l → r ≡ last → three p q r ≡ listing_text g (disk_of_track18 g b) l
      text-written {p} {q} filled between ended =
          let w = writing-lent (after_first filled) (lines_of l) last refl end (omega (arith, lines)) between in
          let all = writing-lent w last [] (sym (append-nil last)) (length (two p q)) (omega (arith, w.size, length_last)) ended in
          writing-finished all refl ∙ sym text-pieces
