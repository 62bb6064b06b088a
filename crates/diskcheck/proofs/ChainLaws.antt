-- A file's chain under way: claimed sector by sector in the owner table, and in the masks.
-- In order: the links on the way; the outcome of a claim that has passed some sectors; the invariant, its start, its ends and its step; the masks.
use Prim.Native.Nat.{ℕ, zero, suc, ◌+◌, ◌-◌, ◌^◌, ◌≤◌, ◌<◌}
use native.Mathlib.Omega.{arith}
use native.Mathlib.Decide.{dec_le}
use mathlib.Core.Path.{◌≡◌, refl, sym, ap, ap₂, ◌∙◌}
use mathlib.Core.Bool.{Bool, true, false, cond, ◌&&◌}
use mathlib.Core.List.{List, ◌∷◌, map}
use lib.ListN.{length, get_or, set, length-set}
use lib.Dec.{eqb, ltb}
use Rattle.std.specs.Prelude.{Result as CodeResult, Ok, Err}
use borrow.Author.Tests.{eq-eqb, ne_eqb, lt-ltb, le-ltb, le-leb, lt-leb}
use Rattle.d64spec.specs.Lists.{Bytes, byte}
use Rattle.d64spec.specs.Answers.{Address, address, Result, refused, done, ◌>>=◌}
use Rattle.d64spec.specs.Geometry.{Geometry, total, sectors_on, sector_number, on_disk}
use Rattle.d64spec.specs.Layouts.{Known}
use Rattle.d64spec.specs.Image.{disk}
use Rattle.d64spec.specs.Chain.{Link, to, bad, link_to, decode_file_link, file_link}
use Rattle.d64spec.specs.Store.{last_of}
use Rattle.d64spec.proofs.BoundLaws.{sector_number-lt, file_link-on, link_to-on}
use Rattle.d64spec.proofs.BitLaws.{power_le}
use Rattle.geometry.specs.Layout.{address_of}
use Rattle.geometry.specs.declared.Address.{Address as CodeAddress}
use Rattle.geometry.specs.declared.Track.{Track}
use Rattle.geometry.proofs.LentTableLaws.{tracks-of-on_disk, IsTrack}
use Rattle.links.proofs.LinkLaws.{link_to-at, link_to-off, file-ends, file-bad, file-to}
use Rattle.answers.specs.Faults.{fault_of, result_of}
use Rattle.answers.specs.declared.Place.{Place}
use Rattle.answers.specs.declared.Fault.{Fault}
use Rattle.answers.specs.declared.Fault.TheVariants.{BadLink, AlreadyOwned}
use Rattle.owners.specs.OwnerTable.{with_owner}
use Rattle.owners.specs.Masks.{Masks}
use Rattle.owners.proofs.MaskLaws.{Gathering, gathering-lt, gathering-added, gathering-off, gathering-more}
use Rattle.owners.proofs.TableLaws.{free_count, free_count-le}
use Rattle.owners.proofs.Walking.{Walking, walking_start, walking-ends, walking-bad, walking-owned, walking-moved, walking-fewer}
use Rattle.diskcheck.specs.declared.chain.Claim.{Claim}
use Rattle.diskcheck.specs.EndTable.{end_of}
use Rattle.diskcheck.specs.Chains.{Claimed, claim_of, claimed, held_by, claim_off, chain_walk, with_mask, MaskRoom, Ready}
use Rattle.diskcheck.proofs.EndLaws.{last_byte, walk-last}

-- ---- the links on the way

-- the link of the bytes t and s after n sectors of a chain: a slot's first link, then those in its sectors
unfoldable pub link_after : Geometry → ℕ → ℕ → ℕ → Link
link_after g zero t s = link_to g t s
link_after g (suc n) t s = decode_file_link g t s

-- on the disk it names its sector
after_on : (g : Geometry) (n t s : ℕ) → on_disk g (address t s) ≡ true → link_after g n t s ≡ to (address t s)
unfolding link_after
after_on g zero t s e = link_to-at g t s e
after_on g (suc n) t s e = file-to g t s (tracks-of-on_disk g (address t s) e).0 ∙ link_to-at g t s e

after_more : (g : Geometry) (n t s : ℕ) → link_after g (n + 1) t s ≡ decode_file_link g t s
unfolding link_after
after_more g n t s = let e : n + 1 ≡ suc n = omega arith in rw e refl

-- ---- the outcome of a claim that has passed some sectors

-- the sectors passed: how many, and the last, which holds the link; before the first the directory sector
pub record Passed : Type 0 where
  pub count : ℕ
  pub last : Address

unfoldable pub claimed_after : Geometry → Bytes → ℕ → Passed → List ℕ → Result (List Address) → Result Claimed
claimed_after g img id p own (refused f) = refused f
claimed_after g img id p own (done l) =
    done (record { count = p.count + length l; end = last_byte g img p.last l; table = with_owner id (map (sector_number g) l) own })

claimed-first : (g : Geometry) (img : Bytes) (id : ℕ) (own : List ℕ) (holder : Address) (x : Result (List Address))
    → ((l : List Address) → x ≡ done l → last_byte g img holder l ≡ end_of g img l)
    → claimed_after g img id (record { count = 0; last = holder }) own x ≡ claimed g img id own x
unfolding claimed_after claimed
claimed-first g img id own holder (refused f) last = refl
claimed-first g img id own holder (done l) last =
    let e : 0 + length l ≡ length l = omega arith in
    ap₂ (λ (n m : ℕ). done (record { count = n; end = m; table = with_owner id (map (sector_number g) l) own })) e (last l refl)

claimed-next : (g : Geometry) (img : Bytes) (id : ℕ) (p : Passed) (own : List ℕ) (r : Address) (x : Result (List Address))
    → claimed_after g img id p own (x >>= (λ l. done (r ∷ l)))
    ≡ claimed_after g img id (record { count = p.count + 1; last = r }) (set own (sector_number g r) id) x
unfolding claimed_after last_of
claimed-next g img id p own r (refused f) = refl
claimed-next g img id p own r (done l) =
    let e : p.count + suc (length l) ≡ p.count + 1 + length l = omega arith in
    let own' : List ℕ = set own (sector_number g r) id in
    ap (λ (n : ℕ). done (record { count = n; end = last_byte g img r l; table = with_owner id (map (sector_number g) l) own' })) e

-- ---- the invariant

-- the definition's claim of a whole chain
abbrev pub chain_claim : Geometry → Bytes → List ℕ → ℕ → ℕ → CodeAddress → ℕ → ℕ → Result Claimed
chain_claim g img own id slot from t s = claimed g img id own (chain_walk g img own (address_of from) slot t s)

-- the walk along a chain, where `passed` sectors are claimed and `holder` holds the link k; the outcome is o
abbrev pub Along : Geometry → Bytes → ℕ → ℕ → Result Claimed → ℕ → List ℕ → CodeAddress → Link → Type 0
Along g img id slot o passed own holder k =
    Walking g (file_link g) (disk img) (claimed_after g img id) slot o (record { count = passed; last = address_of holder }) own (address_of holder) k

-- the same at a link of the bytes t and s, on the disk or not; once a sector is passed, s is its second byte
pub record Claims (g : Geometry) (img : Bytes) (id slot : ℕ) (o : Result Claimed) (own : List ℕ) (holder : CodeAddress) (t s passed : ℕ) : Type 0 where
  pub walking : Along g img id slot o passed own holder (link_after g passed t s)
  pub held : 1 ≤ passed → s ≡ byte (disk img (sector_number g (address_of holder))) 1
  pub long : length own ≡ total g
  pub few : passed + free_count own ≤ total g

pub claims-start : (g : Geometry) (img own : List ℕ) (id slot : ℕ) (from : CodeAddress) (t s : ℕ) → {used : List ℕ} → Ready g img own used slot
    → Claims g img id slot (chain_claim g img own id slot from t s) own from t s 0
unfolding chain_walk link_after
claims-start g img own id slot from t s ready =
    let long : length own ≡ total g = ready.long in
    let k : Link = link_to g t s in
    record {
      walking =
          rw (← (claimed-first g img id own (address_of from) (chain_walk g img own (address_of from) slot t s) (walk-last g img own (address_of from) slot t s)))
          (walking_start g (file_link g) (disk img) (claimed_after g img id) slot (file_link-on g)
          (record { count = 0; last = address_of from }) own (address_of from) k long (link_to-on g t s));
      held = λ h. absurd (omega arith);
      long = long;
      few = omega (arith, free_count-le own);
    }

-- t and s name a sector of the disk, and its number is n
pub record Named (g : Geometry) (t s n : ℕ) : Type 0 where
  pub on : on_disk g (address t s) ≡ true
  pub number : n ≡ sector_number g (address t s)
  pub inside : n < total g

-- a sector of the track that a chain is on
pub named : (g : Geometry) {on : Track} {s n : ℕ} → IsTrack g on → s < on.sectors → n ≡ on.first + s → Named g on.number s n
unfolding on_disk
named g {on} {s} {n} k h is =
    let t : ℕ = on.number in
    let here : on_disk g (address t s) ≡ true = lt-ltb s (sectors_on g t) (omega (arith, k.count)) in
    let number = is ∙ k.first s here in
    record { on = here; number = number; inside = omega (arith, number, sector_number-lt g (address t s) here) }

-- t and s had no owner and are claimed now: the walk is at the first two bytes of the sector, which is lent as `part`
pub record Moved (g : Geometry) (img : Bytes) (id slot : ℕ) (o : Result Claimed) (own : List ℕ) (t s n : ℕ) (part : Bytes) (passed : ℕ) : Type 0 where
  pub fewer : free_count own ≡ suc (free_count (set own n id))
  pub next : Claims g img id slot o (set own n id) (record { track = t; sector = s }) (byte part 0) (byte part 1) (passed + 1)

-- a link to the same track
pub claims-at : (g : Geometry) {img : Bytes} {id slot : ℕ} {o : Result Claimed} {own : List ℕ} {holder : CodeAddress} {t t' s passed : ℕ}
    → Claims g img id slot o own holder t s passed → t' ≡ t → Claims g img id slot o own holder t' s passed
claims-at g w same = rw same w

-- what a link off the disk says, by cases
module _ (t s n : ℕ) (holder : CodeAddress) (slot : ℕ) where
  abbrev bad_here : CodeResult Claim Fault
  bad_here = Err (BadLink (held_by holder slot))

  pub off-first : n < 1 → claim_off t s n holder slot ≡ bad_here
  unfolding claim_off
  off-first h = go (eqb t 0) (ltb 0 s)
    where
      go : (a b : Bool) → cond (a && b && ltb 0 n) (Ok (record { count = n; end = s })) bad_here ≡ bad_here
      go true true = rw (le-ltb 0 n (omega arith))
      go true false = refl
      go false b = refl

  pub off-track : 1 ≤ t → claim_off t s n holder slot ≡ bad_here
  unfolding claim_off
  off-track h = rw (ne_eqb t 0 (λ e. omega arith))

  pub off_zero : s < 1 → claim_off t s n holder slot ≡ bad_here
  unfolding claim_off
  off_zero h = go (eqb t 0)
    where
      go : (a : Bool) → cond (a && ltb 0 s && ltb 0 n) (Ok (record { count = n; end = s })) bad_here ≡ bad_here
      go true = rw (le-ltb 0 s (omega arith))
      go false = refl

  pub off-end : t < 1 → 1 ≤ s → 1 ≤ n → claim_off t s n holder slot ≡ Ok (record { count = n; end = s })
  unfolding claim_off
  off-end h k m = rw (eq-eqb t 0 (omega arith), lt-ltb 0 s k, lt-ltb 0 n m)

module _ (g : Geometry) {img : Bytes} {id slot : ℕ} {o : Result Claimed} {own : List ℕ} {holder : CodeAddress} where
  bad-off : {t s passed : ℕ} → Claims g img id slot o own holder t s passed → link_after g passed t s ≡ bad
      → claim_of (Err (BadLink (held_by holder slot))) own ≡ o
  unfolding result_of fault_of claimed_after
  bad-off w e = walking-bad g (file_link g) (disk img) (claimed_after g img id) slot (rw e at w.walking)

  -- a link off the disk ends the chain, or is bad
  off : (t s passed : ℕ) → Claims g img id slot o own holder t s passed → on_disk g (address t s) ≡ false
      → claim_of (claim_off t s passed holder slot) own ≡ o
  unfolding result_of claimed_after link_after last_of
  off t s zero w e = rw (off-first t s 0 holder slot (omega arith)) (bad-off w (link_to-off g t s e))
  off (suc t) s (suc n) w e =
      rw (off-track (suc t) s (suc n) holder slot (omega arith)) (bad-off w (file-to g (suc t) s (omega arith) ∙ link_to-off g (suc t) s e))
  off zero zero (suc n) w e = rw (off_zero 0 0 (suc n) holder slot (omega arith)) (bad-off w (file-bad g 0 0 (omega arith) (omega arith)))
  off zero (suc s) (suc n) w e =
      let z : suc n ≡ suc n + 0 = omega arith in
      rw (off-end 0 (suc s) (suc n) holder slot (omega arith) (omega arith) (omega arith))
      (ap₂ (λ (k m : ℕ). done (record { count = k; end = m; table = own })) z (w.held (omega arith))
      ∙ walking-ends g (file_link g) (disk img) (claimed_after g img id) slot
      (rw (file-ends g 0 (suc s) (omega arith) (omega arith)) at w.walking))

  module _ {t s passed : ℕ} (w : Claims g img id slot o own holder t s passed) where
    pub claims-off : {q : CodeAddress} {r : CodeResult Claim Fault} → r ≡ claim_off t s passed q slot → q ≡ holder → {on : Track} → IsTrack g on → t ≡ on.number
        → on.sectors ≤ s → claim_of r own ≡ o
    unfolding on_disk
    claims-off is held {on} k at e =
        rw (is, held) (off t s passed w (le-ltb s (sectors_on g t) (omega (arith, k.count, ap (sectors_on g) at))))

    module _ {n : ℕ} (r : Named g t s n) where
      here : Along g img id slot o passed own holder (to (address t s))
      here = rw (after_on g passed t s r.on) at w.walking

      -- a sector that has an owner
      pub claims-owned : {p : Place} → p ≡ held_by holder slot → (get_or own n 0 ≡ 0 → ⊥) → claim_of (Err (AlreadyOwned p)) own ≡ o
      unfolding result_of fault_of claimed_after
      claims-owned place h = rw place (walking-owned g (file_link g) (disk img) (claimed_after g img id) slot here (rw r.number at h))

      -- a sector that has none, lent as a part of the image
      pub claims-moved : {part : Bytes} → part ≡ disk img n → get_or own n 0 ≡ 0 → 1 ≤ id → Moved g img id slot o own t s n part passed
      unfolding file_link
      claims-moved {part} lent none owner =
          let k : Link = file_link g (disk img n) in
          let number : sector_number g (address t s) ≡ n = sym r.number in
          let free : get_or own (sector_number g (address t s)) 0 ≡ 0 = rw number none in
          let fewer : free_count own ≡ suc (free_count (set own n id))
          = rw number at (walking-fewer g (file_link g) (disk img) (claimed_after g img id) slot id here free owner) in
          let few : passed + free_count own ≤ total g = w.few in
          let moved : Along g img id slot o (passed + 1) (set own n id) (record { track = t; sector = s }) k
          = rw number at (walking-moved g (file_link g) (disk img) (claimed_after g img id) slot id
          (record { count = passed + 1; last = address t s }) k here free owner
          (rw number refl) (file_link-on g (disk img n))
          (λ x. claimed-next g img id (record { count = passed; last = address_of holder }) own (address t s) x)) in
          record {
            fewer = fewer;
            next = rw lent (record {
              walking = rw (after_more g passed (byte (disk img n) 0) (byte (disk img n) 1)) moved;
              held = λ h. ap (λ (m : ℕ). byte (disk img m) 1) r.number;
              long = length-set own n id ∙ w.long;
              few = omega arith;
            });
          }

-- ---- the masks

-- the masks with a track's bits, by cases
module _ (used : List ℕ) (t m : ℕ) where
  pub mask-none : t < 1 → with_mask used t m ≡ used
  unfolding with_mask
  mask-none h = rw (lt-leb 1 t h)

  pub mask-past : 40 < t → with_mask used t m ≡ used
  unfolding with_mask
  mask-past h = rw (le-leb 1 t (omega arith), lt-leb t 40 h)

  pub mask_at : 1 ≤ t → t ≤ 40 → with_mask used t m ≡ set used (t - 1) (get_or used (t - 1) 0 + m)
  unfolding with_mask
  mask_at low high = rw (le-leb 1 t low, le-leb t 40 high)

module _ (g : Geometry) (kn : Known g) {own used : List ℕ} {t m : ℕ} (k : Gathering g own used t m) where
  -- there is room for a track's bits in its mask
  pub mask-room : MaskRoom used t m
  mask-room = record {
    fits = λ low high. omega (arith, gathering-lt g k low high, power_le (sectors_on g t) (kn.valid.small t));
  }

  -- A CHAIN LEAVES A TRACK: with its bits the masks are the table's
  pub track-left : {used' : List ℕ} → used' ≡ with_mask used t m → Masks g own used'
  track-left is = rw is (elim (dec_le 1 t) [
    | no below ↦ rw (mask-none used t m (omega arith)) (gathering-off g k (λ l h. below l))
    | yes low ↦ elim (dec_le t 40) [
      | no above ↦ rw (mask-past used t m (omega arith)) (gathering-off g k (λ l h. above h))
      | yes high ↦ rw (mask_at used t m low high) (gathering-added g k low high refl)
    ]
  ])

-- a sector of the track is claimed: its bit is gathered
pub bit-gathered : (g : Geometry) → Known g → {own used : List ℕ} {on : Track} {m s n id m' : ℕ} → Gathering g own used on.number m → IsTrack g on
    → s < on.sectors → n ≡ on.first + s → length own ≡ total g → get_or own n 0 ≡ 0 → 1 ≤ id → m' ≡ m + 2 ^ s
    → Gathering g (set own n id) used on.number m'
unfolding sector_number
bit-gathered g kn {own} {used} {on} {m} {s} k o h is long none owner more =
    let r = named g o h is in
    let at = tracks-of-on_disk g (address on.number s) r.on in
    gathering-more g k long at.0 (omega (arith, at.1, kn.few)) (omega (arith, o.count)) r.number r.inside none owner more
