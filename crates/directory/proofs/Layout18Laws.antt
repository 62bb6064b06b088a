-- What is read of track 18 is the same in every layout whose track 18 has 19 sectors: the directory's sectors, and which sectors have an owner then.
-- In order: track 18 alone, as a layout; one link; the walk in two layouts; step 2 on track 18; the owners of track 18 in two tables.
use Prim.Native.Nat.{ℕ, zero, suc, ◌+◌, ◌*◌, ◌-◌, ◌≤◌, ◌<◌}
use native.Mathlib.Omega.{arith}
use native.Mathlib.Decide.{ℕ_discrete}
use mathlib.Core.Path.{◌≡◌, refl, sym, ap, ap₂, ◌∙◌}
use mathlib.Core.Bool.{Bool, true, false, cond, not, ◌&&◌}
use mathlib.Core.List.{List, [], ◌∷◌, map}
use lib.ListN.{length, get_or, set, length-set, length-replicate, get_or-replicate}
use lib.Seq.{get_or-set_same, get_or-set_other}
use lib.Dec.{eqb, ltb}
use borrow.Author.Tests.{eq-eqb, ne_eqb}
use Rattle.d64spec.specs.Lists.{Bytes, byte, indicator, count, zeros}
use Rattle.d64spec.specs.Answers.{Address, address, Result, refused, done, ◌>>=◌, ◌>>◌, need, already_owned, wrong_size}
use Rattle.d64spec.specs.Geometry.{Geometry, sector_number, first_on, sectors_on, on_disk, total, map_address, directory_start}
use Rattle.d64spec.specs.Chain.{Link, ends, to, bad, link_to, decode_directory_link, directory_link, steps, walk}
use Rattle.d64spec.specs.Check.{check_directory}
use Rattle.d64spec.specs.Listing.{disk_of_track18}
use Rattle.d64spec.proofs.SumLaws.{indicator-le}
use Rattle.d64spec.proofs.BitLaws.{binary-same}
use Rattle.d64spec.proofs.BoundLaws.{sector_number-lt, directory_link-on}
use Rattle.d64spec.proofs.WalkLaws.{walk-enough}
use Rattle.owners.specs.OwnerTable.{with_owner, map_table, directory_table, directory_owner, map_owner}
use Rattle.owners.specs.Masks.{owned_bit, owned_mask}
use Rattle.directory.specs.Directories.{track_directory}
use Rattle.directory.specs.Walks.{layout18}
use Rattle.directory.proofs.SlotListLaws.{disk-of-track18}
use Rattle.directory.proofs.Track18Laws.{InDirectory, on-18, decoded-inside18}

-- ---- track 18 alone

pub sectors-of-18 : sectors_on layout18 18 ≡ 19
unfolding layout18 sectors_on
sectors-of-18 = refl

pub total-18 : total layout18 ≡ 19
unfolding layout18 total
total-18 = refl

pub first-18 : first_on layout18 18 ≡ 0
unfolding layout18 first_on
first-18 = refl

pub place-18 : (s : ℕ) → sector_number layout18 (address 18 s) ≡ s
unfolding sector_number
place-18 s = omega (arith, first-18)

-- ---- two layouts whose track 18 has 19 sectors

-- these sectors of track 18, and their numbers
abbrev on18 : List ℕ → List Address
on18 ss = map (λ s. address 18 s) ss

abbrev numbers : Geometry → List ℕ → List ℕ
numbers g ss = map (sector_number g) (on18 ss)

-- the link in sector s of track 18's bytes, and a walk on from a link where the sectors ss were met
abbrev link_in : Geometry → Bytes → ℕ → Link
link_in g b s = directory_link g (disk_of_track18 g b (sector_number g (address 18 s)))

abbrev walk_in : Geometry → Bytes → ℕ → List ℕ → Address → ℕ → Link → Result (List Address)
walk_in g b n ss holder slot k = walk g (directory_link g) (disk_of_track18 g b) n (numbers g ss) holder slot k

-- a sector is met as often by its number
shifted : (a m x : ℕ) → eqb (a + m) (a + x) ≡ eqb m x
shifted a m x = elim (ℕ_discrete m x) [
  | yes e ↦ eq-eqb (a + m) (a + x) (omega arith) ∙ sym (eq-eqb m x e)
  | no n ↦ ne_eqb (a + m) (a + x) (λ e. n (omega arith)) ∙ sym (ne_eqb m x n)
]

count-number : (g : Geometry) (s : ℕ) (ss : List ℕ) → count (sector_number g (address 18 s)) (numbers g ss) ≡ count s ss
unfolding sector_number
count-number g s [] = refl
count-number g s (x ∷ ss) = ap₂ (λ (b : Bool) (n : ℕ). indicator b + n) (shifted (first_on g 18) s x) (count-number g s ss)

module _ (g h : Geometry) (nineteen : sectors_on g 18 ≡ 19) (alike : sectors_on h 18 ≡ 19) where
  decoded-same : (t s : ℕ) → decode_directory_link g t s ≡ decode_directory_link h t s
  unfolding decode_directory_link link_to on_disk
  decoded-same zero s = refl
  decoded-same (suc t) s = ap (λ (n : ℕ). cond (eqb (suc t) 18 && ltb 0 s) (cond (ltb s n) (to (address 18 s)) bad) bad) (nineteen ∙ sym alike)

  module _ (b : Bytes) where
    link-same : (s : ℕ) → link_in g b s ≡ link_in h b s
    unfolding directory_link
    link-same s =
        decoded-same _ _
        ∙ ap (λ (p : Bytes). decode_directory_link h (byte p 0) (byte p 1)) (disk-of-track18 g b s ∙ sym (disk-of-track18 h b s))

    inside : (p : Bytes) → InDirectory 19 (directory_link g p)
    unfolding directory_link
    inside p = decoded-inside18 g nineteen (byte p 0) (byte p 1)

    -- A WALK ON TRACK 18 meets the same sectors
    walk-18 : (n : ℕ) (ss : List ℕ) (holder : Address) (slot : ℕ) (k : Link) → InDirectory 19 k → walk_in g b n ss holder slot k ≡ walk_in h b n ss holder slot k
    walk-18 zero ss holder slot k i = refl
    walk-18 (suc n) ss holder slot ends i = refl
    walk-18 (suc n) ss holder slot bad i = refl
    walk-18 (suc n) ss holder slot (to r) i =
        let s : ℕ = r.sector in
        go s (ap (λ (t : ℕ). address t s) i.0)
        (walk-18 n (s ∷ ss) (address 18 s) slot (link_in g b s) (inside (disk_of_track18 g b (sector_number g (address 18 s))))
        ∙ ap (walk_in h b n (s ∷ ss) (address 18 s) slot) (link-same s))
      where
        next : ℕ → Result (List Address) → Bool → Result (List Address)
        next s w x = elim x [ true ↦ refused (already_owned holder slot) | false ↦ w >>= (λ l. done (address 18 s ∷ l)) ]

        go : (s : ℕ) → r ≡ address 18 s → walk_in g b n (s ∷ ss) (address 18 s) slot (link_in g b s) ≡ walk_in h b n (s ∷ ss) (address 18 s) slot (link_in h b s)
            → walk_in g b (suc n) ss holder slot (to r) ≡ walk_in h b (suc n) ss holder slot (to r)
        go s at same = rw at (ap₂ (next s) same (ap (ltb 0) (count-number g s ss ∙ sym (count-number h s ss))))

-- ---- step 2 on track 18

module _ (g : Geometry) (nineteen : sectors_on g 18 ≡ 19) where
  -- the disk is no smaller than its track 18
  some : 19 ≤ total g
  unfolding sector_number
  some = omega (arith, sector_number-lt g (address 18 18) (on-18 g nineteen 18))

  -- THE DIRECTORY OF TRACK 18 is the same in every layout
  pub directory-18 : (b : Bytes) → track_directory g b ≡ track_directory layout18 b
  unfolding track_directory check_directory
  directory-18 b =
      let enough : steps g ≡ steps layout18 + (total g - 19) = omega (arith, some, total-18) in
      ap₂ (λ (n : ℕ) (x : Result (List Address)). need (eqb (length b) (256 * n)) wrong_size >> x) (nineteen ∙ sym sectors-of-18)
      (walk-18 g layout18 nineteen sectors-of-18 b (steps g) (0 ∷ []) map_address 255 (to directory_start) (refl, omega arith, omega arith)
      ∙ ap (λ (n : ℕ). walk_in layout18 b n (0 ∷ []) map_address 255 (to directory_start)) enough
      ∙ walk-enough layout18 (directory_link layout18) (disk_of_track18 layout18 b) (directory_link-on layout18) (numbers layout18 (0 ∷ []))
      map_address 255 (to directory_start) (on-18 layout18 sectors-of-18 1) (omega (arith, place-18 0, total-18), tt)
      (λ m. once m (sector_number layout18 map_address)) (total g - 19))
    where
      once : (m x : ℕ) → count m (x ∷ []) ≤ 1
      once m x = omega (arith, indicator-le (eqb m x))

-- ---- the owners of track 18

-- two tables agree on track 18, whose sectors have the numbers from a on in one and from c on in the other
record Agree (a c : ℕ) (own own' : List ℕ) : Type 0 where
  room : a + 19 ≤ length own
  room' : c + 19 ≤ length own'
  same : (s : ℕ) → s < 19 → get_or own (a + s) 0 ≡ get_or own' (c + s) 0

module _ (a c : ℕ) where
  agree-set : (own own' : List ℕ) (x id : ℕ) → Agree a c own own' → Agree a c (set own (a + x) id) (set own' (c + x) id)
  agree-set own own' x id e = record {
    room = omega (arith, e.room, length-set own (a + x) id);
    room' = omega (arith, e.room', length-set own' (c + x) id);
    same = λ s h. elim (ℕ_discrete s x) [
      | yes q ↦ rw q
          (get_or-set_same own (a + x) id 0 (omega (arith, e.room))
          ∙ sym (get_or-set_same own' (c + x) id 0 (omega (arith, e.room'))))
      | no n ↦
          get_or-set_other own (a + x) (a + s) id 0 (λ z. n (omega arith))
          ∙ e.same s h
          ∙ sym (get_or-set_other own' (c + x) (c + s) id 0 (λ z. n (omega arith)))
    ];
  }

  agree-mask : (own own' : List ℕ) → Agree a c own own' → owned_mask own a 19 ≡ owned_mask own' c 19
  unfolding owned_mask owned_bit
  agree-mask own own' e = binary-same (owned_bit own a) (owned_bit own' c) 19 (λ s h. ap (λ (x : ℕ). indicator (not (eqb x 0))) (e.same s h))

  agree-zeros : (m n : ℕ) → a + 19 ≤ m → c + 19 ≤ n → Agree a c (zeros m) (zeros n)
  agree-zeros m n h k = record {
    room = omega (arith, length-replicate {A = ℕ} m 0);
    room' = omega (arith, length-replicate {A = ℕ} n 0);
    same = λ s l. get_or-replicate {A = ℕ} m (a + s) 0 0 (omega arith) ∙ sym (get_or-replicate {A = ℕ} n (c + s) 0 0 (omega arith));
  }

module _ (g : Geometry) (nineteen : sectors_on g 18 ≡ 19) where
  agree-owner : (id : ℕ) (ss own own' : List ℕ) → Agree (first_on g 18) (first_on layout18 18) own own'
      → Agree (first_on g 18) (first_on layout18 18) (with_owner id (numbers g ss) own) (with_owner id (numbers layout18 ss) own')
  unfolding sector_number
  agree-owner id [] own own' e = e
  agree-owner id (s ∷ ss) own own' e =
      agree-owner id ss (set own (first_on g 18 + s) id) (set own' (first_on layout18 18 + s) id)
      (agree-set (first_on g 18) (first_on layout18 18) own own' s id e)

  agree-nobody : Agree (first_on g 18) (first_on layout18 18) (zeros (total g)) (zeros (total layout18))
  unfolding sector_number
  agree-nobody =
      agree-zeros (first_on g 18) (first_on layout18 18) (total g) (total layout18)
      (omega (arith, sector_number-lt g (address 18 18) (on-18 g nineteen 18))) (omega (arith, first-18, total-18))

  agree_after : (ss : List ℕ) → Agree (first_on g 18) (first_on layout18 18) (directory_table g (on18 ss)) (directory_table layout18 (on18 ss))
  unfolding directory_table map_table
  agree_after ss = agree-owner directory_owner ss _ _ (agree-owner map_owner (0 ∷ []) _ _ agree-nobody)

  -- WHO OWNS A SECTOR OF TRACK 18 after the walk is the same in every layout
  pub used-18 : (ss : List ℕ)
      → owned_mask (directory_table g (on18 ss)) (first_on g 18) 19 ≡ owned_mask (directory_table layout18 (on18 ss)) (first_on layout18 18) 19
  used-18 ss = agree-mask (first_on g 18) (first_on layout18 18) _ _ (agree_after ss)
