-- A chain written from its last sector to its first (01, Store): what the loop keeps, from the last sector on.
-- In order: the invariant (`Writing`); its start, its step, its end.
use Prim.Native.Nat.{ℕ, suc, ◌+◌, ◌-◌, ◌*◌, ◌≤◌, ◌<◌}
use native.Mathlib.Omega.{arith}
use native.Mathlib.Numerals.{add-one}
use mathlib.Core.Path.{◌≡◌, sym, ap, ap₂, subst, ◌∙◌}
use mathlib.Core.Bool.{false}
use mathlib.Core.List.{List, [], ◌∷◌, ◌++◌, append-nil, map}
use lib.ListN.{length, take, drop, get_or, drop_of_length-le}
use lib.Seq.{drop-cons, drop-drop}
use Rattle.d64spec.specs.Lists.{Bytes, zeros}
use Rattle.d64spec.specs.Geometry.{Geometry, sector_number}
use Rattle.d64spec.specs.Image.{Disk, disk, put}
use Rattle.d64spec.specs.Store.{write_chain}
use Rattle.geometry.specs.declared.Address.{Address}
use Rattle.geometry.specs.Layout.{address_of}
use Rattle.bam.specs.MapEntry.{Entries}
use Rattle.bam.specs.Bam.{moved_mark, moved_marks}
use Rattle.parts.proofs.PartLaws.{part_to_end}
use Rattle.storing.specs.Writes.{chain_sector, link_to, link_end, SectorWritten, ChainWritten}

-- place i, as the code reads it
abbrev pub place_at : List Address → ℕ → Address
place_at places i = get_or places i (record { track = 0; sector = 0 })

-- the bytes of the last sector, and the 254 bytes of another one, as the code lends them
abbrev pub last_bytes : Bytes → ℕ → Bytes
last_bytes bs i = take (length bs - 254 * i) (drop (254 * i) bs)

abbrev pub linked_bytes : Bytes → ℕ → Bytes
linked_bytes bs i = take (254 * i + 254 - 254 * i) (drop (254 * i) bs)

-- ---- the two kinds of sector

last-sector : (bs : Bytes) {n : ℕ} → n ≡ length bs + 1 → chain_sector (link_end n) bs ≡ 0 ∷ suc (length bs) ∷ (bs ++ zeros (254 - length bs))
last-sector bs is = ap (λ (n : ℕ). 0 ∷ n ∷ (bs ++ zeros (254 - length bs))) (is ∙ add-one (length bs))

linked-sector : (at : Address) (bs : Bytes) → length bs ≡ 254 → chain_sector (link_to (address_of at)) bs ≡ at.track ∷ at.sector ∷ bs
linked-sector at bs full =
    let none : 254 - length bs ≡ 0 = omega arith in
    ap (λ (n : ℕ). at.track ∷ at.sector ∷ (bs ++ zeros n)) none ∙ ap (λ (x : Bytes). at.track ∷ at.sector ∷ x) (append-nil bs)

module _ (g : Geometry) where
  -- the sectors from place i on, and the bytes that go there, are written
  pub record Writing (img : Bytes) (places : List Address) (bs : Bytes) (es : Entries) (i : ℕ) (img' : Bytes) (es' : Entries) : Type 0 where
    pub below : i < length places
    pub size : length img' ≡ length img
    pub laid : disk img' ≡ write_chain g (map address_of (drop i places)) (drop (254 * i) bs) (disk img)
    pub marks : es' ≡ moved_marks false (map address_of (drop i places)) es

  -- the loop has gone down from place i to place j: whatever image the sectors from i on were written on, those from j on are written on it now
  pub record Advancing (places : List Address) (bs : Bytes) (i : ℕ) (img : Bytes) (es : Entries) (j : ℕ) (img' : Bytes) (es' : Entries) : Type 0 where
    pub below : j ≤ i
    pub size : length img' ≡ length img
    pub writing : (d : Bytes) (m : Entries) → Writing d places bs m i img es → Writing d places bs m j img' es'

  module _ {img : Bytes} {places : List Address} {bs : Bytes} {es : Entries} where
    -- the last sector
    pub writing-last : {i n : ℕ} {img' : Bytes} {es' : Entries} → i + 1 ≡ length places
        → SectorWritten g img (address_of (place_at places i)) (chain_sector (link_end n) (last_bytes bs i)) es img' es' → n ≡ length (last_bytes bs i) + 1
        → Writing img places bs es i img' es'
    writing-last {i} h w is =
        let one : drop i places ≡ place_at places i ∷ [] = drop-cons places i _ (omega arith)
        ∙ ap (λ (l : List Address). place_at places i ∷ l) (drop_of_length-le places {i = suc i} (omega arith)) in
        let all : last_bytes bs i ≡ drop (254 * i) bs = part_to_end bs (254 * i) in
        record {
          below = omega arith;
          size = w.size;
          laid = w.laid ∙ ap (put (disk img) (sector_number g (address_of (place_at places i)))) (last-sector (last_bytes bs i) is)
              ∙ ap (λ (x : Bytes). put (disk img) (sector_number g (address_of (place_at places i))) (0 ∷ suc (length x) ∷ (x ++ zeros (254 - length x)))) all
              ∙ ap (λ (l : List Address). write_chain g (map address_of l) (drop (254 * i) bs) (disk img)) (sym one);
          marks = w.marks ∙ ap (λ (l : List Address). moved_marks false (map address_of l) es) (sym one);
        }

    -- the one before place i
    module _ {i : ℕ} (j : ℕ) {img' img'' : Bytes} {es' es'' : Entries} (k : Writing img places bs es i img' es') (next : j + 1 ≡ i)
        {s : Bytes} (full : length s ≡ 254)
        (w : SectorWritten g img' (address_of (place_at places j)) (chain_sector (link_to (address_of (place_at places i))) s) es' img'' es'')
        (lent : s ≡ linked_bytes bs j) where
      from-i : drop i places ≡ place_at places i ∷ drop (suc i) places
      from-i = drop-cons places i _ k.below

      from-j : drop j places ≡ place_at places j ∷ place_at places i ∷ drop (suc i) places
      from-j =
          drop-cons places j _ (omega (arith, k.below)) ∙ ap (λ (n : ℕ). place_at places j ∷ drop n places) (sym (add-one j) ∙ next)
          ∙ ap (λ (l : List Address). place_at places j ∷ l) from-i

      bytes-i : drop (254 * i) bs ≡ drop 254 (drop (254 * j) bs)
      bytes-i = let e : 254 * i ≡ 254 * j + 254 = omega arith in ap (λ (n : ℕ). drop n bs) e ∙ sym (drop-drop 254 (254 * j) bs)

      content : s ≡ take 254 (drop (254 * j) bs)
      content = let e : 254 * j + 254 - 254 * j ≡ 254 = omega arith in lent ∙ ap (λ (n : ℕ). take n (drop (254 * j) bs)) e

      pub writing_more : Writing img places bs es j img'' es''
      writing_more = record {
        below = omega (arith, k.below);
        size = w.size ∙ k.size;
        laid = w.laid ∙ ap (put (disk img') (sector_number g (address_of (place_at places j)))) (linked-sector (place_at places i) s full)
            ∙ ap₂ (λ (d : Disk) (x : Bytes). put d (sector_number g (address_of (place_at places j)))
            ((place_at places i).track ∷ (place_at places i).sector ∷ x))
            (k.laid ∙ ap₂ (λ (l : List Address) (x : Bytes). write_chain g (map address_of l) x (disk img)) from-i bytes-i) content
            ∙ ap (λ (l : List Address). write_chain g (map address_of l) (drop (254 * j) bs) (disk img)) (sym from-j);
        marks = w.marks
            ∙ ap (moved_mark false (address_of (place_at places j))) (k.marks ∙ ap (λ (l : List Address). moved_marks false (map address_of l) es) from-i)
            ∙ ap (λ (l : List Address). moved_marks false (map address_of l) es) (sym from-j);
      }

    -- all of them
    pub chain-written : {i : ℕ} {img' : Bytes} {es' : Entries} → Writing img places bs es i img' es' → i < 1 → ChainWritten g img places bs es img' es'
    chain-written {i} k h =
        let z : i ≡ 0 = omega arith in
        record {
          size = k.size;
          laid = k.laid ∙ ap (λ (n : ℕ). write_chain g (map address_of (drop n places)) (drop (254 * n) bs) (disk img)) z;
          marks = k.marks ∙ ap (λ (n : ℕ). moved_marks false (map address_of (drop n places)) es) z;
        }

  pub advancing-more : {places : List Address} {bs : Bytes} {img : Bytes} {es : Entries} {i j : ℕ} {img' : Bytes} {es' : Entries}
      → Advancing places bs i img es j img' es' → (k : ℕ) → k + 1 ≡ j → {s : Bytes} → length s ≡ 254 → {q : ℕ} {img'' : Bytes} {es'' : Entries}
      → SectorWritten g img' (address_of (place_at places k)) (chain_sector (link_to (address_of (place_at places q))) s) es' img'' es''
      → q ≡ j → s ≡ linked_bytes bs k
      → Advancing places bs i img es k img'' es''
  advancing-more {places} {img' = img'} {es' = es'} a k next {s} full {img'' = img''} {es'' = es''} w is e =
      let linked = subst (λ (n : ℕ). SectorWritten g img' (address_of (place_at places k)) (chain_sector (link_to (address_of (place_at places n))) s) es'
      img'' es'') is w in
      record {
        below = omega (arith, a.below);
        size = w.size ∙ a.size;
        writing = λ d m x. writing_more k (a.writing d m x) next full linked e;
      }
