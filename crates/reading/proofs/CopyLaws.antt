-- The copy of a chain's data (01, Chains; Read): what the loop keeps, from its start through each sector to the last.
-- In order: the data of one sector; the copy (`Copying`).
-- The output is always the bytes copied so far, put at the start of the output as it was.
use Prim.Native.Nat.{ℕ, ◌+◌, ◌-◌, ◌≤◌, ◌<◌}
use native.Mathlib.Omega.{arith}
use mathlib.Core.Path.{◌≡◌, sym, ap, ap₂, ◌∙◌}
use mathlib.Core.List.{[], ◌∷◌, ◌++◌, append_assoc, append-nil}
use lib.ListN.{length, take, drop, length-append, length-take, length-drop}
use lib.Seq.{length-take-le, drop_at, take-add, drop-append-add, take-append_seam, drop-drop, take-length}
use Rattle.d64spec.specs.Lists.{Bytes, byte, splice}
use Rattle.d64spec.specs.Answers.{Address}
use Rattle.d64spec.specs.Geometry.{Geometry, sector_number}
use Rattle.d64spec.specs.Image.{disk}
use Rattle.d64spec.proofs.SpliceLaws.{length-splice}
use Rattle.reading.specs.ChainReads.{link_of, sectors_from, data_from, ChainFrom, ChainCopied}
use Rattle.reading.proofs.ChainStepLaws.{Follows, sectors-first, sector-full, last-alone, follows}

-- ---- the data of one sector

-- `size` bytes behind the link of a sector with bytes s
abbrev pub data_of : Bytes → ℕ → Bytes
data_of s size = take size (drop 2 s)

module _ {g : Geometry} {img : Bytes} {r : Address} (c : ChainFrom g img r) {s : Bytes} (is : s ≡ disk img (sector_number g r)) where
  length-data_of : (size : ℕ) → size ≤ 254 → length (data_of s size) ≡ size
  length-data_of size h = let full = sector-full c is in simp (length-take, length-drop) (omega arith)

  -- the last sector's are bytes 2 to n, n being its second byte
  data-last : sectors_from g img r ≡ r ∷ [] → data_from g img r ≡ data_of s (byte s 1 - 1)
  unfolding data_from
  data-last alone = let e : byte s 1 + 1 - 2 ≡ byte s 1 - 1 = omega arith in rw (alone, ← is, e)

  -- any other's are bytes 2 to 255
  data-more : {q : Address} → Follows g img r q → data_from g img r ≡ data_of s 254 ++ data_from g img q
  unfolding data_from
  data-more f = rw (f.sectors, (sectors-first f.rest).1, ← is)

  -- their number: one less than the last sector's second byte, or 254 more than those of the rest
  pub length-last : sectors_from g img r ≡ r ∷ [] → byte s 1 ≤ 255 → length (data_from g img r) ≡ byte s 1 - 1
  length-last alone small = ap length (data-last alone) ∙ length-data_of (byte s 1 - 1) (omega arith)

  pub length-more : {q : Address} → Follows g img r q → length (data_from g img r) ≡ 254 + length (data_from g img q)
  length-more {q} f = ap length (data-more f) ∙ length-append (data_of s 254) (data_from g img q) ∙ ap (λ (n : ℕ). n + length (data_from g img q)) (length-data_of 254 (omega arith))

-- ---- the copy

-- more bytes behind those at the start
splice-more : (s a b : Bytes) → splice (splice s 0 a) (length a) b ≡ splice s 0 (a ++ b)
splice-more s a b =
    let n : (0 + length a) + length b ≡ 0 + length (a ++ b) = omega (arith, length-append a b) in
    let e : drop (length a + length b) (a ++ drop (0 + length a) s) ≡ drop (0 + length (a ++ b)) s
    = drop-append-add a (drop (0 + length a) s) (length b) ∙ drop-drop (length b) (0 + length a) s ∙ ap (λ (i : ℕ). drop i s) n in
    ap₂ (λ (x y : Bytes). x ++ (b ++ y)) (take-append_seam a (drop (0 + length a) s)) e ∙ sym (append_assoc a b (drop (0 + length (a ++ b)) s))

-- n bytes of the chain's data and k of its sectors are copied, and the chain goes on at `at`
pub record Copying (g : Geometry) (img out : Bytes) (first at : Address) (out' : Bytes) (n k : ℕ) : Type 0 where
  pub chain : ChainFrom g img at
  pub room : length (data_from g img first) ≤ length out
  pub within : n ≤ length (data_from g img first)
  pub rest : drop n (data_from g img first) ≡ data_from g img at
  pub output : out' ≡ splice out 0 (take n (data_from g img first))
  pub visited : k + length (sectors_from g img at) ≡ length (sectors_from g img first)

module _ {g : Geometry} {img out : Bytes} {first at : Address} {out' : Bytes} {n k : ℕ} (w : Copying g img out first at out' n k) where
  -- what is still to be copied has room
  pub left : n + length (data_from g img at) ≡ length (data_from g img first)
  left = omega (arith, ap length w.rest, length-drop n (data_from g img first), w.within)

  pub length-output : length out' ≡ length out
  length-output =
      let l : length (take n (data_from g img first)) ≡ n = length-take-le n (data_from g img first) w.within in
      ap length w.output ∙ length-splice out 0 (take n (data_from g img first)) (omega (arith, w.within, w.room))

  -- the next bytes of the chain's data behind those at the start
  next : (b c : Bytes) → data_from g img at ≡ b ++ c → splice out' n b ≡ splice out 0 (take (n + length b) (data_from g img first))
  next b c e =
      let l : length (take n (data_from g img first)) ≡ n = length-take-le n (data_from g img first) w.within in
      let more : take (n + length b) (data_from g img first) ≡ take n (data_from g img first) ++ b
      = take-add n (length b) (data_from g img first)
      ∙ ap (λ (x : Bytes). take n (data_from g img first) ++ x) (ap (take (length b)) (w.rest ∙ e) ∙ take-append_seam b c) in
      ap₂ (λ (x : Bytes) (i : ℕ). splice x i b) w.output (sym l) ∙ splice-more out (take n (data_from g img first)) b ∙ ap (splice out 0) (sym more)

  -- s are the bytes of the sector at hand
  module _ {s : Bytes} (is : s ≡ disk img (sector_number g at)) where
    -- its 254 bytes, and on to the next
    module _ (linked : 1 ≤ byte s 0) where
      pub next-follows : Follows g img at (link_of s)
      next-follows = follows w.chain is linked

      size : length (data_of s 254) ≡ 254
      size = length-data_of w.chain is 254 (omega arith)

      more : data_from g img at ≡ data_of s 254 ++ data_from g img (link_of s)
      more = data-more w.chain is next-follows

      pub room-more : n + 254 ≤ length (data_from g img first)
      room-more = omega (arith, left, ap length more, length-append (data_of s 254) (data_from g img (link_of s)), size)

      passed : drop (n + 254) (data_from g img first) ≡ data_from g img (link_of s)
      passed = sym (drop-drop 254 n (data_from g img first)) ∙ ap (drop 254) (w.rest ∙ more) ∙ drop_at (data_of s 254) (data_from g img (link_of s)) 254 size

      pub copying-moved : {out'' : Bytes} {n' k' : ℕ} → out'' ≡ splice out' n (data_of s 254) → n' ≡ n + 254 → k' ≡ k + 1
          → Copying g img out first (link_of s) out'' n' k'
      copying-moved {n' = n'} copied long visited =
          let here : n + length (data_of s 254) ≡ n' = omega (arith, size) in
          record {
            chain = next-follows.rest;
            room = w.room;
            within = omega (arith, room-more);
            rest = rw long passed;
            output = copied ∙ next (data_of s 254) (data_from g img (link_of s)) more ∙ ap (λ (m : ℕ). splice out 0 (take m (data_from g img first))) here;
            visited = omega (arith, w.visited, ap length next-follows.sectors);
          }

    -- or, where it is the last, bytes 2 to its second byte
    module _ (last : byte s 0 < 1) (small : byte s 1 ≤ 255) where
      alone : sectors_from g img at ≡ at ∷ []
      alone = last-alone w.chain is last

      abbrev rest : Bytes
      rest = data_of s (byte s 1 - 1)

      all : data_from g img at ≡ rest
      all = data-last w.chain is alone

      pub end-last : n + (byte s 1 - 1) ≡ length (data_from g img first)
      end-last = omega (arith, left, ap length all, length-data_of w.chain is (byte s 1 - 1) (omega arith))

      pub copying-finished : {out'' : Bytes} {k' : ℕ} → out'' ≡ splice out' n rest → k' ≡ k + 1 → ChainCopied g img out first k' out''
      copying-finished copied visited =
          let end : n + length rest ≡ length (data_from g img first) = omega (arith, left, ap length all) in
          record {
            output =
                copied ∙ next rest [] (all ∙ sym (append-nil rest))
                ∙ ap (splice out 0) (ap (λ (m : ℕ). take m (data_from g img first)) end ∙ take-length (data_from g img first));
            sectors = omega (arith, w.visited, ap length alone);
          }
