-- One step along a chain (01, Chains): its first sector, and what the two link bytes there say of the rest.
-- In order: bounds; the first sector; the last sector; a sector that is followed by another.
use Prim.Native.Nat.{ℕ, zero, suc, ◌+◌, ◌-◌, ◌*◌, ◌≤◌, ◌<◌}
use native.Mathlib.Omega.{arith}
use mathlib.Core.Path.{◌≡◌, refl, sym, ap, ◌∙◌}
use mathlib.Core.Bool.{Bool, true, false, cond}
use mathlib.Core.List.{List, [], ◌∷◌}
use lib.ListN.{length, take, drop}
use Rattle.d64spec.specs.Lists.{Bytes, byte}
use Rattle.d64spec.specs.Answers.{Address}
use Rattle.d64spec.specs.Geometry.{Geometry, total, on_disk, sector_number}
use Rattle.d64spec.specs.Image.{Disk, disk}
use Rattle.d64spec.specs.Chain.{Link, ends, to, bad, link_to, decode_file_link, file_link, steps, Chain, follow}
use Rattle.d64spec.proofs.BoundLaws.{sector_number-lt}
use Rattle.d64spec.proofs.ChainLaws.{chain-follow}
use Rattle.sectors.specs.Sectors.{Inside}
use Rattle.sectors.proofs.SectorLaws.{length-disk, sector-lent}
use Rattle.links.proofs.LinkLaws.{file-bad, file-ends, file-to}
use Rattle.reading.specs.ChainReads.{link_of, sectors_from, ChainFrom}

pub follow-length : (g : Geometry) (link : Bytes → Link) (d : Disk) (n : ℕ) (k : Link) → length (follow g link d n k) ≤ n
follow-length g link d zero k = omega arith
follow-length g link d (suc n) ends = omega arith
follow-length g link d (suc n) bad = omega arith
follow-length g link d (suc n) (to r) = omega (arith, follow-length g link d n (link (d (sector_number g r))))

-- no chain that is met is longer than the disk's sectors and one
pub sectors_from-le : (g : Geometry) (img : Bytes) (r : Address) → length (sectors_from g img r) ≤ suc (total g)
unfolding sectors_from
sectors_from-le g img r = follow-length g (file_link g) (disk img) (steps g) (to r)

-- a chain that is no longer is what is met
sectors_from-chain : (g : Geometry) (img : Bytes) (r : Address) (l : List Address) → Chain g (file_link g) (disk img) (to r) l → length l ≤ suc (total g)
    → sectors_from g img r ≡ l
unfolding sectors_from
sectors_from-chain g img r l c h = chain-follow g (file_link g) (disk img) (steps g) (to r) l c h

-- ---- links that start no chain, and those that do

module _ (g : Geometry) (link : Bytes → Link) (d : Disk) where
  pub chain-bad : {A : Type 0} (l : List Address) → Chain g link d bad l → A
  chain-bad [] c = absurd (let z : ◌≡◌ {A = ℕ} 0 1 = cc in omega arith)
  chain-bad (r ∷ l) c = absurd (let e : bad ≡ to r = c.0 in let z : ◌≡◌ {A = ℕ} 0 1 = cc in omega arith)

  chain-ends : (l : List Address) → Chain g link d ends l → l ≡ []
  chain-ends [] c = refl
  chain-ends (r ∷ l) c = absurd (let e : ends ≡ to r = c.0 in let z : ◌≡◌ {A = ℕ} 0 1 = cc in omega arith)

  -- a chain that starts at r has r first
  pub chain_first : (r : Address) (l : List Address) → Chain g link d (to r) l
      → (m : List Address) × (l ≡ r ∷ m) × Chain g link d (link (d (sector_number g r))) m
  chain_first r [] c = absurd (let z : ◌≡◌ {A = ℕ} 0 1 = cc in omega arith)
  chain_first r (q ∷ l) c =
      let e : to r ≡ to q = c.0 in
      let same : q ≡ r = cc in
      (l, ap (λ (x : Address). x ∷ l) same, rw same at c.1)

-- ---- the step

-- n is the number of the sector r, which lies whole in the image
pub record Visited (g : Geometry) (img : Bytes) (r : Address) (n : ℕ) : Type 0 where
  pub number : n ≡ sector_number g r
  pub inside : Inside img n

-- as the code lends it
pub visited-lent : {g : Geometry} {img : Bytes} {r : Address} {n : ℕ} → Visited g img r n
    → take (256 * n + 256 - 256 * n) (drop (256 * n) img) ≡ disk img (sector_number g r)
visited-lent {img = img} {n = n} v = sector-lent img n refl ∙ ap (disk img) v.number

-- the sector q follows r
pub record Follows (g : Geometry) (img : Bytes) (r q : Address) : Type 0 where
  pub rest : ChainFrom g img q
  pub sectors : sectors_from g img r ≡ r ∷ sectors_from g img q

module _ {g : Geometry} {img : Bytes} {r : Address} (c : ChainFrom g img r) where
  pub number_lt : sector_number g r < total g
  number_lt = sector_number-lt g r c.on

  -- the sector at hand
  pub visited : {n : ℕ} → n ≡ sector_number g r → Visited g img r n
  visited is = record { number = is; inside = omega (arith, number_lt, c.size) }

  -- its sectors are r, and the rest of the chain
  pub sectors-first : (m : List Address) × (sectors_from g img r ≡ r ∷ m)
      × Chain g (file_link g) (disk img) (file_link g (disk img (sector_number g r))) m
  sectors-first = chain_first g (file_link g) (disk img) r (sectors_from g img r) c.chain

  -- what the link in the sector's bytes s says
  module _ {s : Bytes} (is : s ≡ disk img (sector_number g r)) where
    pub sector-full : length s ≡ 256
    sector-full = ap length is ∙ length-disk img (sector_number g r) (omega (arith, number_lt, c.size))

    link : Chain g (file_link g) (disk img) (decode_file_link g (byte s 0) (byte s 1)) sectors-first.0
    unfolding file_link
    link = rw is sectors-first.2

    -- track 0: it is the last, and its second byte is 1 or more
    pub last-used : byte s 0 < 1 → 1 ≤ byte s 1
    last-used h = go (byte s 1) refl
      where
        go : (n : ℕ) → byte s 1 ≡ n → 1 ≤ n
        go zero e =
            chain-bad g (file_link g) (disk img) sectors-first.0 (rw (file-bad g (byte s 0) (byte s 1) h (omega arith)) at link)
        go (suc n) e = omega arith

    pub last-alone : byte s 0 < 1 → sectors_from g img r ≡ r ∷ []
    last-alone h =
        sectors-first.1 ∙ ap (λ (x : List Address). r ∷ x)
        (chain-ends g (file_link g) (disk img) sectors-first.0 (rw (file-ends g (byte s 0) (byte s 1) h (last-used h)) at link))

    -- any other track: the sector named is on the disk, and the chain goes on there
    pub follows : 1 ≤ byte s 0 → Follows g img r (link_of s)
    unfolding link_to
    follows h = go (on_disk g (link_of s)) refl (rw (file-to g (byte s 0) (byte s 1) h) at link)
      where
        go : (b : Bool) → on_disk g (link_of s) ≡ b
            → Chain g (file_link g) (disk img) (cond b (to (link_of s)) bad) sectors-first.0 → Follows g img r (link_of s)
        go true on k =
            let met : sectors_from g img (link_of s) ≡ sectors-first.0
            = sectors_from-chain g img (link_of s) sectors-first.0 k (omega (arith, sectors_from-le g img r, ap length sectors-first.1)) in
            record {
              rest = record { size = c.size; on = on; chain = rw met k };
              sectors = sectors-first.1 ∙ ap (λ (x : List Address). r ∷ x) (sym met);
            }
        go false on k = chain-bad g (file_link g) (disk img) sectors-first.0 k
