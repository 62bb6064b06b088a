-- Where the new entry goes: an empty slot, or a new directory sector.
use Prim.Native.Nat.{ℕ, suc, ◌+◌, ◌*◌, ◌≤◌, ◌<◌}
use native.Mathlib.Omega.{arith}
use native.Mathlib.Decide.{dec_le}
use mathlib.Core.Path.{◌≡◌, refl, sym, ap, ap₂, ◌∙◌}
use mathlib.Core.Bool.{Bool, true, false, cond}
use mathlib.Core.Logic.{inl, inr}
use mathlib.Core.List.{List, [], ◌∷◌, ◌++◌, map, append-nil}
use lib.ListN.{length, drop, length-replicate}
use lib.Dec.{eqb}
use borrow.Author.Tests.{eq-eqb, eqb-true, eqb-false, lt-ltb}
use Rattle.d64spec.specs.Lists.{All, Bytes, byte, count, filter, indicator, part, range, splice, zeros}
use Rattle.d64spec.specs.Answers.{Address, address}
use Rattle.d64spec.specs.Geometry.{Geometry, Valid, directory_start, on_disk, sector_number, total}
use Rattle.d64spec.specs.Image.{Disk, put}
use Rattle.d64spec.specs.Chain.{Chain, decode_directory_link, directory_link, ends, to}
use Rattle.d64spec.specs.Directory.{Slot, directory_sectors, occupied, slot_in, slots_from, slots_in}
use Rattle.d64spec.specs.Owner.{claim_count}
use Rattle.d64spec.specs.Format.{empty_directory_sector}
use Rattle.d64spec.specs.Store.{grow_directory, in_empty_slot, in_new_sector, last_of, overwrite_slot}
use Rattle.d64spec.specs.Changes.{EntryWrites}
use Rattle.d64spec.proofs.ListLaws.{count-append}
use Rattle.d64spec.proofs.BoundLaws.{directory_link-on, sector_number-lt}
use Rattle.d64spec.proofs.ChainLaws.{chain-frame}
use Rattle.d64spec.proofs.WalkLaws.{chain-met}
use Rattle.d64spec.proofs.FrameLaws.{Sound, all-of-count, all_map, same-directory, same-slots}
use Rattle.d64spec.proofs.SpliceLaws.{length-splice, splice-after}
use Rattle.d64spec.proofs.ImageLaws.{Whole, put_same, put_other, put_whole}
use Rattle.d64spec.proofs.SplitLaws.{filter-append, map-append}
use Rattle.d64spec.proofs.SlotLaws.{with_bytes, slot_whole, slot-other, slot_same, slot-written, slot-rest, slot-link, slots-written, Placed}
use Rattle.d64spec.proofs.ScratchLaws.{is_occupied, claim_count-of, of-count, directory-on}
use Rattle.d64spec.proofs.WriteChainLaws.{link-is}
use Rattle.d64spec.proofs.GrowLaws.{last-in, chain-grow, link-slots, slots-alike, slots-append, fresh-slots, fresh-unused}
use Rattle.d64spec.proofs.StoreLaws.{Entered}

plus-zero : (n : ℕ) → n + 0 ≡ n
plus-zero n = omega arith

-- d1 has d's directory
module _ (g : Geometry) (v : Valid g) (d : Disk) (a : Sound g d) (d1 : Disk) (w1 : Whole g d1)
    (alike : (n : ℕ) → 0 < count n (map (sector_number g) (directory_sectors g d)) → d n ≡ d1 n) (entry : Bytes) (len : length entry ≡ 30) where
  directory-once : (n : ℕ) → count n (map (sector_number g) (directory_sectors g d)) ≤ 1
  directory-once n = omega (arith, a.once n, claim_count-of g d n)

  directory-alike : All (λ r. d (sector_number g r) ≡ d1 (sector_number g r)) (directory_sectors g d)
  directory-alike = all-of-count g (λ n. d n ≡ d1 n) (directory_sectors g d) alike

  -- ---- in an empty slot

  module _ (s : Slot) (front back : List Slot) (whole : slots_from g d 0 (directory_sectors g d) ≡ front ++ s ∷ back) (unused : is_occupied s ≡ false) (placed : Placed g (directory_sectors g d) s) where
    -- d1 with the entry
    abbrev d2 : Disk
    d2 = overwrite_slot g s.holder s.index entry d1

    at_on : sector_number g s.holder < total g
    at_on = of-count (λ x. x < total g) (map (sector_number g) (directory_sectors g d)) (directory-on g v d) (sector_number g s.holder) placed.sector

    links : (n : ℕ) → directory_link g (d1 n) ≡ directory_link g (d2 n)
    links = slot-link g d1 w1 s.holder at_on s.index placed.place entry len

    steps : All (λ r. directory_link g (d (sector_number g r)) ≡ directory_link g (d2 (sector_number g r))) (directory_sectors g d)
    steps = all_map (λ r h. ap (directory_link g) h ∙ links (sector_number g r)) (directory_sectors g d) directory-alike

    dirs2 : directory_sectors g d2 ≡ directory_sectors g d
    dirs2 = same-directory g d d2 steps

    old-slots : occupied g d ≡ filter is_occupied front ++ filter is_occupied back
    unfolding occupied
    old-slots = ap (filter is_occupied) whole ∙ filter-append is_occupied front (s ∷ back) ∙ ap (λ (c : Bool). filter is_occupied front ++ cond c (s ∷ filter is_occupied back) (filter is_occupied back)) unused

    pub in-slot : Entered g d d1 d2 entry (in_empty_slot s)
    in-slot = record {
      front = front;
      back = back;
      slot = with_bytes s entry;
      whole = slot_whole g d1 w1 s.holder at_on s.index placed.place entry len;
      directory = rw dirs2 (chain-frame g (directory_link g) d d2 (to directory_start) (directory_sectors g d) steps a.directory);
      grown = λ n. rw dirs2 (omega arith);
      slots = rw dirs2 (slots-written g d1 w1 s.holder at_on s.index placed.place entry len (directory_sectors g d) s front back
          (same-slots g d d1 0 (directory_sectors g d) directory-alike ∙ whole) refl refl (directory-once (sector_number g s.holder)));
      bytes = refl;
      old = sym old-slots;
      other = λ n h. slot-other g d1 w1 s.holder at_on s.index placed.place entry len n
          (λ z. let y : 0 < count n (map (sector_number g) (directory_sectors g d)) = rw z placed.sector in let k : count n (map (sector_number g) (directory_sectors g d)) ≡ 0 = rw dirs2 at h in omega arith);
      written = λ x f. ap (λ (y : Bytes). part 0x02 0x1F (drop (32 * s.index) y)) (f (sector_number g s.holder) (rw dirs2 placed.sector)) ∙ slot-written g d1 w1 s.holder at_on s.index placed.place entry len;
      rest = slot-rest g d1 w1 s.holder at_on s.index placed.place entry len;
    }

  -- ---- in a new directory sector

  dirs1 : directory_sectors g d1 ≡ directory_sectors g d
  dirs1 = same-directory g d d1 (all_map (λ r h. ap (directory_link g) h) (directory_sectors g d) directory-alike)

  some-dir : 1 ≤ length (directory_sectors g d)
  some-dir = go (directory_sectors g d) a.directory
    where
      go : (l : List Address) → Chain g (directory_link g) d (to directory_start) l → 1 ≤ length l
      go [] c = absurd (let z : ◌≡◌ {A = ℕ} 0 1 = cc in omega arith)
      go (x ∷ l) c = omega arith

  module _ (t : ℕ) (on : on_disk g (address 18 t) ≡ true) (pos : 0 < t) (free : claim_count g d (sector_number g (address 18 t)) ≡ 0) where
    -- the new sector
    abbrev r : Address
    r = address 18 t

    -- the last sector before
    abbrev q : Address
    q = last_of directory_start (directory_sectors g d)

    -- d1 with the new sector
    abbrev e : Disk
    e = grow_directory g d1 r

    linked : Bytes
    linked = splice (d1 (sector_number g q)) 0 (18 ∷ t ∷ [])

    linked-is : linked ≡ splice (d1 (sector_number g q)) 0 (18 ∷ t ∷ [])
    unfolding linked
    linked-is = refl

    q-in : 0 < count (sector_number g q) (map (sector_number g) (directory_sectors g d))
    q-in = last-in g directory_start (directory_sectors g d) some-dir

    q-on : sector_number g q < total g
    q-on = of-count (λ x. x < total g) (map (sector_number g) (directory_sectors g d)) (directory-on g v d) (sector_number g q) q-in

    r-new : count (sector_number g r) (map (sector_number g) (directory_sectors g d)) ≡ 0
    r-new = omega (arith, free, claim_count-of g d (sector_number g r))

    r-q : sector_number g r ≡ sector_number g q → ⊥
    r-q z = let y : 0 < count (sector_number g r) (map (sector_number g) (directory_sectors g d)) = rw z q-in in omega (arith, r-new)

    e-is : e ≡ put (put d1 (sector_number g r) empty_directory_sector) (sector_number g q) linked
    unfolding grow_directory linked
    e-is = ap (λ (x : List Address). put (put d1 (sector_number g r) empty_directory_sector) (sector_number g (last_of directory_start x)) (splice (d1 (sector_number g (last_of directory_start x))) 0 (18 ∷ t ∷ []))) dirs1

    e-q : e (sector_number g q) ≡ linked
    e-q = ap (λ (x : Disk). x (sector_number g q)) e-is ∙ put_same (put d1 (sector_number g r) empty_directory_sector) (sector_number g q) linked

    e-r : e (sector_number g r) ≡ empty_directory_sector
    e-r = ap (λ (x : Disk). x (sector_number g r)) e-is ∙ put_other (put d1 (sector_number g r) empty_directory_sector) (sector_number g q) linked (sector_number g r) r-q ∙ put_same d1 (sector_number g r) empty_directory_sector

    e-other : (n : ℕ) → (n ≡ sector_number g q → ⊥) → (n ≡ sector_number g r → ⊥) → e n ≡ d1 n
    e-other n x y = ap (λ (z : Disk). z n) e-is ∙ put_other (put d1 (sector_number g r) empty_directory_sector) (sector_number g q) linked n x ∙ put_other d1 (sector_number g r) empty_directory_sector n y

    e-whole : Whole g e
    unfolding linked
    e-whole =
        rw e-is (put_whole g (put d1 (sector_number g r) empty_directory_sector) (sector_number g q) linked
        (put_whole g d1 (sector_number g r) empty_directory_sector w1 (sector_number-lt g r on) (ap (λ (x : ℕ). suc (suc x)) (length-replicate {A = ℕ} 254 0))) q-on
        (length-splice (d1 (sector_number g q)) 0 (18 ∷ t ∷ []) (omega (arith, w1.full (sector_number g q) q-on)) ∙ w1.full (sector_number g q) q-on))

    step-q : directory_link g (e (sector_number g q)) ≡ to r
    unfolding linked directory_link decode_directory_link
    step-q = ap (directory_link g) e-q ∙ (rw (lt-ltb 0 t pos) (link-is g r on))

    step-r : directory_link g (e (sector_number g r)) ≡ ends
    unfolding directory_link decode_directory_link
    step-r = ap (directory_link g) e-r

    grown-chain : Chain g (directory_link g) e (to directory_start) (directory_sectors g d ++ r ∷ [])
    grown-chain =
        chain-grow g (directory_link g) d e r directory_start (to directory_start) (directory_sectors g d) some-dir a.directory directory-once
        (λ n i x. ap (directory_link g) (alike n i ∙ sym (e-other n x (λ z. let y : 0 < count (sector_number g r) (map (sector_number g) (directory_sectors g d)) = rw z at i in omega (arith, r-new)))))
        step-q step-r

    grown-once : (n : ℕ) → count n (map (sector_number g) (directory_sectors g d ++ r ∷ [])) ≡ count n (map (sector_number g) (directory_sectors g d)) + indicator (eqb n (sector_number g r))
    grown-once n = ap (count n) (map-append (sector_number g) (directory_sectors g d) (r ∷ [])) ∙ count-append n (map (sector_number g) (directory_sectors g d)) (sector_number g r ∷ []) ∙ ap (λ (x : ℕ). count n (map (sector_number g) (directory_sectors g d)) + x) (plus-zero (indicator (eqb n (sector_number g r))))

    grown-few : (n : ℕ) → count n (map (sector_number g) (directory_sectors g d ++ r ∷ [])) ≤ 1
    grown-few n = go (eqb n (sector_number g r)) refl
      where
        go : (b : Bool) → eqb n (sector_number g r) ≡ b → count n (map (sector_number g) (directory_sectors g d ++ r ∷ [])) ≤ 1
        go true z =
            let y : indicator (eqb n (sector_number g r)) ≡ 1 = ap indicator z in
            let x : count n (map (sector_number g) (directory_sectors g d)) ≡ 0 = ap (λ (m : ℕ). count m (map (sector_number g) (directory_sectors g d))) (eqb-true n (sector_number g r) z) ∙ r-new in
            omega (arith, grown-once n)
        go false z = let y : indicator (eqb n (sector_number g r)) ≡ 0 = ap indicator z in omega (arith, grown-once n, directory-once n)

    directory-e : directory_sectors g e ≡ directory_sectors g d ++ r ∷ []
    unfolding directory_sectors
    directory-e = chain-met g (directory_link g) e (directory_link-on g) (to directory_start) (directory_sectors g d ++ r ∷ []) v.directory grown-chain grown-few

    sector-alike : (x : Address) (m : ℕ) → 0 < count (sector_number g x) (map (sector_number g) (directory_sectors g d)) → slots_in (e (sector_number g x)) x m ≡ slots_in (d (sector_number g x)) x m
    sector-alike x m h = go (eqb (sector_number g x) (sector_number g q)) refl
      where
        go : (b : Bool) → eqb (sector_number g x) (sector_number g q) ≡ b → slots_in (e (sector_number g x)) x m ≡ slots_in (d (sector_number g x)) x m
        go true z =
            let y : sector_number g x ≡ sector_number g q = eqb-true (sector_number g x) (sector_number g q) z in
            ap (λ (n : ℕ). slots_in (e n) x m) y ∙ ap (λ (b : Bytes). slots_in b x m) (e-q ∙ linked-is)
            ∙ link-slots (d1 (sector_number g q)) 18 t x m (omega (arith, w1.full (sector_number g q) q-on))
            ∙ ap (λ (n : ℕ). slots_in (d1 n) x m) (sym y) ∙ ap (λ (b : Bytes). slots_in b x m) (sym (alike (sector_number g x) h))
        go false z =
            ap (λ (b : Bytes). slots_in b x m)
            (e-other (sector_number g x) (eqb-false (sector_number g x) (sector_number g q) z) (λ y. let i : 0 < count (sector_number g r) (map (sector_number g) (directory_sectors g d)) = rw y at h in omega (arith, r-new)) ∙ sym (alike (sector_number g x) h))

    -- the first slot's number there
    abbrev number : ℕ
    number = (slots-append g e 0 (directory_sectors g d) r).0

    -- the new sector's other slots
    abbrev back : List Slot
    back = map (slot_in empty_directory_sector r number) (range 1 7)

    slots-e : slots_from g e 0 (directory_sectors g e) ≡ slots_from g d 0 (directory_sectors g d) ++ slot_in empty_directory_sector r number 0 ∷ back
    slots-e =
        ap (slots_from g e 0) directory-e ∙ (slots-append g e 0 (directory_sectors g d) r).1
        ∙ ap₂ (λ (x y : List Slot). x ++ y) (slots-alike g d e 0 (directory_sectors g d) sector-alike) (ap (λ (b : Bytes). slots_in b r number) e-r ∙ fresh-slots r number)

    -- and with the entry
    abbrev d3 : Disk
    d3 = overwrite_slot g r 0 entry e

    links-e : (l : List Address) → All (λ x. directory_link g (e (sector_number g x)) ≡ directory_link g (d3 (sector_number g x))) l
    links-e [] = tt
    links-e (x ∷ l) = (slot-link g e e-whole r (sector_number-lt g r on) 0 (omega arith) entry len (sector_number g x), links-e l)

    dirs3 : directory_sectors g d3 ≡ directory_sectors g d ++ r ∷ []
    dirs3 = same-directory g e d3 (links-e (directory_sectors g e)) ∙ directory-e

    slots3 : slots_from g d3 0 (directory_sectors g d ++ r ∷ []) ≡ slots_from g d 0 (directory_sectors g d) ++ with_bytes (slot_in empty_directory_sector r number 0) entry ∷ back
    unfolding slot_in
    slots3 =
        slots-written g e e-whole r (sector_number-lt g r on) 0 (omega arith) entry len (directory_sectors g d ++ r ∷ []) (slot_in empty_directory_sector r number 0) (slots_from g d 0 (directory_sectors g d)) back
        (ap (slots_from g e 0) (sym directory-e) ∙ slots-e) refl refl (grown-few (sector_number g r))

    self : indicator (eqb (sector_number g r) (sector_number g r)) ≡ 1
    self = rw (eq-eqb (sector_number g r) (sector_number g r) refl)

    new-sector : d3 (sector_number g r) ≡ 0x00 ∷ 0xFF ∷ (entry ++ zeros 224)
    new-sector =
        slot_same g e e-whole r (sector_number-lt g r on) 0 (omega arith) entry len ∙ ap (λ (x : Bytes). splice x 2 entry) e-r
        ∙ ap (λ (k : ℕ). 0x00 ∷ 0xFF ∷ (entry ++ drop (2 + k) empty_directory_sector)) len

    -- of the old sectors only the last one's link changes
    grown-rest : (n i : ℕ) → (EntryWrites g d (in_new_sector r) n i → ⊥) → byte (e n) i ≡ byte (d1 n) i
    grown-rest n i out = go (eqb n (sector_number g q)) refl
      where
        go : (b : Bool) → eqb n (sector_number g q) ≡ b → byte (e n) i ≡ byte (d1 n) i
        go true z =
            let y : n ≡ sector_number g q = eqb-true n (sector_number g q) z in
            let past : 2 ≤ i = elim (dec_le 2 i) [ yes h ↦ h | no h ↦ absurd (out (inr (y, omega arith))) ] in
            ap (λ (m : ℕ). byte (e m) i) y ∙ ap (λ (x : Bytes). byte x i) (e-q ∙ linked-is)
            ∙ splice-after (d1 (sector_number g q)) 0 (18 ∷ t ∷ []) (omega (arith, w1.full (sector_number g q) q-on)) i past ∙ ap (λ (m : ℕ). byte (d1 m) i) (sym y)
        go false z = ap (λ (x : Bytes). byte x i) (e-other n (eqb-false n (sector_number g q) z) (λ y. out (inl y)))

    old3 : filter is_occupied (slots_from g d 0 (directory_sectors g d)) ++ filter is_occupied back ≡ occupied g d
    unfolding occupied
    old3 = ap (λ (x : List Slot). occupied g d ++ x) (fresh-unused r number) ∙ append-nil (occupied g d)

    pub at_new : Entered g d d1 d3 entry (in_new_sector r)
    at_new = record {
      front = slots_from g d 0 (directory_sectors g d);
      back = back;
      slot = with_bytes (slot_in empty_directory_sector r number 0) entry;
      whole = slot_whole g e e-whole r (sector_number-lt g r on) 0 (omega arith) entry len;
      directory = rw dirs3 (chain-frame g (directory_link g) e d3 (to directory_start) (directory_sectors g d ++ r ∷ []) (links-e (directory_sectors g d ++ r ∷ [])) grown-chain);
      grown = λ n. rw dirs3 (omega (arith, grown-once n));
      slots = rw dirs3 slots3;
      bytes = refl;
      old = old3;
      other = λ n h.
          let k : count n (map (sector_number g) (directory_sectors g d ++ r ∷ [])) ≡ 0 = rw dirs3 at h in
          let nr : n ≡ sector_number g r → ⊥ = λ z. (let y : indicator (eqb n (sector_number g r)) ≡ 1 = rw (eq-eqb n (sector_number g r) z) in omega (arith, grown-once n)) in
          slot-other g e e-whole r (sector_number-lt g r on) 0 (omega arith) entry len n nr
          ∙ e-other n (λ z. let y : 0 < count n (map (sector_number g) (directory_sectors g d)) = rw z q-in in omega (arith, grown-once n)) nr;
      written = λ x f. (
        f (sector_number g r) (rw dirs3 (omega (arith, grown-once (sector_number g r), self))) ∙ new-sector,
        ap (part 0x00 0x01) (f (sector_number g q) (rw dirs3 (omega (arith, grown-once (sector_number g q), q-in))) ∙ slot-other g e e-whole r (sector_number-lt g r on) 0 (omega arith) entry len (sector_number g q) (λ z. r-q (sym z)) ∙ e-q ∙ linked-is),
      );
      rest = λ n i out. ap (λ (x : Bytes). byte x i) (slot-other g e e-whole r (sector_number-lt g r on) 0 (omega arith) entry len n (λ z. out (inl z))) ∙ grown-rest n i out;
    }
