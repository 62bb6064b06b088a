-- The walk of the directory under way.
-- In order: the link in a sector of track 18; room in the array, which is what falls; the sectors gathered; the invariant, its start and its step; the
-- used sectors of track 18; the ends.
use Prim.Native.Nat.{ℕ, zero, suc, ◌+◌, ◌*◌, ◌-◌, ◌^◌, ◌≤◌, ◌<◌}
use native.Mathlib.Omega.{arith}
use native.Mathlib.Numerals.{add-one}
use mathlib.Core.Path.{◌≡◌, refl, sym, ap, ap₂, ◌∙◌, subst}
use mathlib.Core.List.{List, [], ◌∷◌, ◌++◌, map, append-nil, append_assoc}
use lib.ListN.{length, get_or, set, take, drop, length-set, length-take, length-drop}
use lib.Seq.{length-take-le, take-suc-set, take-set-lt, drop-set-add, set_at, get_or-take, get_or-drop}
use Rattle.d64spec.specs.Lists.{Bytes, All, zeros}
use Rattle.d64spec.specs.Answers.{Address, address, Result, refused, done, ◌>>=◌}
use Rattle.d64spec.specs.Geometry.{sector_number, map_address, directory_start}
use Rattle.d64spec.specs.Image.{disk}
use Rattle.d64spec.specs.Chain.{Link, ends, to, bad, decode_directory_link, directory_link}
use Rattle.d64spec.specs.Listing.{disk_of_track18}
use Rattle.d64spec.proofs.BoundLaws.{directory_link-on}
use Rattle.sectors.proofs.SectorLaws.{byte-disk, byte-disk-first}
use Rattle.geometry.specs.Layout.{address_of}
use Rattle.geometry.specs.declared.Address.{Address as CodeAddress}
use Rattle.answers.specs.Faults.{fault_of}
use Rattle.answers.specs.declared.Place.{Place}
use Rattle.answers.specs.declared.Fault.TheVariants.{BadLink, AlreadyOwned}
use Rattle.owners.specs.OwnerTable.{with_owner, directory_owner}
use Rattle.owners.specs.Masks.{owned_mask}
use Rattle.owners.proofs.MaskLaws.{mask_lt, mask-more}
use Rattle.owners.proofs.TableLaws.{free_count, free_count-le, free_count-set}
use Rattle.owners.proofs.Walking.{Walking, walking_start, walking-ends, walking-bad, walking-owned, walking-moved}
use Rattle.directory.specs.Directories.{sectors_of}
use Rattle.directory.specs.Walks.{layout18, Marked, marked, directory_walk, IsWalk}
use Rattle.directory.proofs.Track18Laws.{InDirectory, decoded-inside18, on-18}
use Rattle.directory.proofs.Layout18Laws.{sectors-of-18, total-18, place-18}

-- ---- the link in a sector of track 18

pub link_at : (b : Bytes) (s : ℕ) → directory_link layout18 (disk_of_track18 layout18 b s)
    ≡ decode_directory_link layout18 (get_or b (256 * s) 0) (get_or b (256 * s + 1) 0)
unfolding directory_link disk_of_track18
link_at b s =
    let first : sector_number layout18 map_address ≡ 0 = place-18 0 in
    let place : s - sector_number layout18 map_address ≡ s = omega arith in
    ap (λ (n : ℕ). decode_directory_link layout18 (get_or (disk b n) 0 0) (get_or (disk b n) 1 0)) place
    ∙ ap₂ (decode_directory_link layout18) (byte-disk-first b s) (byte-disk b s 1 (omega arith))

-- ---- room in the array: as many places as 18/1 to 18/18 have sectors without an owner

unfoldable pub free_places : List ℕ → ℕ
free_places own = free_count (take 18 (drop 1 own))

places-length : (own : List ℕ) → length own ≡ 19 → length (take 18 (drop 1 own)) ≡ 18
places-length own h = simp (length-take, length-drop) (rw h)

free_places-le : (own : List ℕ) → length own ≡ 19 → free_places own ≤ 18
unfolding free_places
free_places-le own h = omega (arith, free_count-le (take 18 (drop 1 own)), places-length own h)

free_places-set : (own : List ℕ) (s v : ℕ) → length own ≡ 19 → 1 ≤ s → s < 19 → get_or own s 0 ≡ 0 → 1 ≤ v → free_places own ≡ suc (free_places (set own s v))
unfolding free_places
free_places-set own s v long low high e p =
    let z : s ≡ 1 + (s - 1) = omega arith in
    let none : get_or (take 18 (drop 1 own)) (s - 1) 0 ≡ 0
    = get_or-take 18 (drop 1 own) (s - 1) 0 (omega arith) ∙ get_or-drop 1 own (s - 1) 0 ∙ ap (λ (x : ℕ). get_or own x 0) (sym z) ∙ e in
    free_count-set (take 18 (drop 1 own)) (s - 1) v (omega (arith, places-length own long)) none p
    ∙ ap (λ (x : List ℕ). suc (free_count x))
    (sym (take-set-lt 18 (drop 1 own) (s - 1) v (omega arith)) ∙ ap (take 18) (sym (drop-set-add 1 own (s - 1) v))
    ∙ ap (λ (x : ℕ). take 18 (drop 1 (set own x v))) (sym z))

-- ---- the sectors gathered

-- n sectors of track 18, and zeros after them
pub record Gathered (ss : List ℕ) (n : ℕ) : Type 0 where
  pub size : length ss ≡ 18
  pub rest : ss ≡ take n ss ++ zeros (18 - n)
  pub inside : All (λ s. s < 19) ss

all-zeros : (n : ℕ) → All (λ s. s < 19) (zeros n)
all-zeros zero = tt
all-zeros (suc n) = (omega arith, all-zeros n)

all_set : (l : List ℕ) (n s : ℕ) → s < 19 → All (λ s. s < 19) l → All (λ s. s < 19) (set l n s)
all_set [] n s h a = tt
all_set (x ∷ l) zero s h a = (h, a.1)
all_set (x ∷ l) (suc n) s h a = (a.0, all_set l n s h a.1)

gathered-start : Gathered (zeros 18) 0
gathered-start = record { size = refl; rest = refl; inside = all-zeros 18 }

gathered-set : (ss : List ℕ) (n s : ℕ) → Gathered ss n → n < 18 → s < 19 → Gathered (set ss n s) (n + 1)
gathered-set ss n s g room high =
    let size : length ss ≡ 18 = g.size in
    let front : length (take n ss) ≡ n = length-take-le n ss (omega arith) in
    let one : 18 - n ≡ suc (18 - (n + 1)) = omega arith in
    record {
      size = length-set ss n s ∙ g.size;
      rest =
          ap (λ (l : List ℕ). set l n s) (g.rest ∙ ap (λ (k : ℕ). take n ss ++ zeros k) one)
          ∙ set_at (take n ss) 0 (zeros (18 - (n + 1))) s n front
          ∙ sym (append_assoc (take n ss) (s ∷ []) (zeros (18 - (n + 1))))
          ∙ ap (λ (l : List ℕ). l ++ zeros (18 - (n + 1))) (sym (take-suc-set ss n s (omega arith)) ∙ ap (λ (k : ℕ). take k (set ss n s)) (sym (add-one n)));
      inside = all_set ss n s high g.inside;
    }

map_snoc : (l : List ℕ) (x : ℕ) → map (λ s. address 18 s) (l ++ (x ∷ [])) ≡ map (λ s. address 18 s) l ++ (address 18 x ∷ [])
map_snoc [] x = refl
map_snoc (y ∷ l) x = ap (λ (m : List Address). address 18 y ∷ m) (map_snoc l x)

sectors_of-set : (ss : List ℕ) (n s : ℕ) → n < length ss → sectors_of ss n ++ (address 18 s ∷ []) ≡ sectors_of (set ss n s) (n + 1)
sectors_of-set ss n s h =
    sym (ap (sectors_of (set ss n s)) (add-one n) ∙ ap (map (λ s. address 18 s)) (take-suc-set ss n s h) ∙ map_snoc (take n ss) s)

-- ---- the outcome of a walk that has gathered some sectors

unfoldable pub marked_after : List Address → List ℕ → Result (List Address) → Result Marked
marked_after before own (refused f) = refused f
marked_after before own (done ds) = done (record { sectors = before ++ ds; table = with_owner directory_owner (map (sector_number layout18) ds) own })

marked-first : (own : List ℕ) (x : Result (List Address)) → marked_after [] own x ≡ marked own x
unfolding marked_after marked
marked-first own (refused f) = refl
marked-first own (done ds) = refl

marked_next : (before : List Address) (own : List ℕ) (r : Address) (x : Result (List Address))
    → marked_after before own (x >>= (λ l. done (r ∷ l))) ≡ marked_after (before ++ (r ∷ [])) (set own (sector_number layout18 r) directory_owner) x
unfolding marked_after
marked_next before own r (refused f) = refl
marked_next before own r (done l) =
    ap (λ (ds : List Address). done (record {
      sectors = ds;
      table = with_owner directory_owner (map (sector_number layout18) l)
          (set own (sector_number layout18 r) directory_owner);
    }))
    (sym (append_assoc before (r ∷ []) l))

-- ---- the invariant

-- the walk along track 18's bytes b, where `before` was met and 18/holder holds the link k; the outcome is o
abbrev pub Along : Bytes → Result Marked → List Address → List ℕ → ℕ → Link → Type 0
Along b o before own holder k = Walking layout18 (directory_link layout18) (disk_of_track18 layout18 b) marked_after 255 o before own (address 18 holder) k

-- the same where n sectors are gathered in ss
pub record Walks (b : Bytes) (o : Result Marked) (own ss : List ℕ) (n holder : ℕ) (k : Link) : Type 0 where
  pub walking : Along b o (sectors_of ss n) own holder k
  pub within : InDirectory 19 k
  pub long : length own ≡ 19
  pub places : n + free_places own ≤ 18
  pub gathered : Gathered ss n

pub walks-start : (b own : List ℕ) → length own ≡ 19 → Walks b (directory_walk b own) own (zeros 18) 0 0 (to (address 18 1))
walks-start b own long =
    record {
      walking =
          rw (← marked-first)
          (walking_start layout18 (directory_link layout18) (disk_of_track18 layout18 b) marked_after 255 (directory_link-on layout18) [] own map_address
          (to directory_start) (long ∙ sym total-18) (on-18 layout18 sectors-of-18 1));
      within = (refl, omega arith, omega arith);
      long = long;
      places = omega (arith, free_places-le own long);
      gathered = gathered-start;
    }

-- what holds after a step to 18/next, which had no owner and is now the directory's
pub record Moved (b : Bytes) (o : Result Marked) (own ss : List ℕ) (n next : ℕ) : Type 0 where
  pub room : n < 18
  pub fewer : free_places own ≡ suc (free_places (set own next directory_owner))
  pub walks : Walks b o (set own next directory_owner) (set ss n next) (n + 1) next
      (decode_directory_link layout18 (get_or b (256 * next) 0) (get_or b (256 * next + 1) 0))

module _ {b : Bytes} {o : Result Marked} {own ss : List ℕ} {n holder : ℕ} where
  pub walks-moved : {next : ℕ} → Walks b o own ss n holder (to (address 18 next)) → get_or own next 0 ≡ 0 → Moved b o own ss n next
  walks-moved {next} w none =
      let k : Link = decode_directory_link layout18 (get_or b (256 * next) 0) (get_or b (256 * next + 1) 0) in
      let own' : List ℕ = set own next directory_owner in
      let before : List Address = sectors_of ss n ++ (address 18 next ∷ []) in
      let number : sector_number layout18 (address 18 next) ≡ next = place-18 next in
      let here : directory_link layout18 (disk_of_track18 layout18 b next) ≡ k = link_at b next in
      let fewer : free_places own ≡ suc (free_places own') = free_places-set own next directory_owner w.long w.within.1 w.within.2 none (omega arith) in
      let places : n + free_places own ≤ 18 = w.places in
      let size : length ss ≡ 18 = w.gathered.size in
      let moved : Along b o before own' next k
      = rw number at (walking-moved layout18 (directory_link layout18) (disk_of_track18 layout18 b) marked_after 255 directory_owner before k w.walking
      (rw number none) (omega arith)
      (rw number (sym here)) (rw (← here) (directory_link-on layout18 (disk_of_track18 layout18 b next)))
      (λ x. marked_next (sectors_of ss n) own (address 18 next) x)) in
      record {
        room = omega arith;
        fewer = fewer;
        walks = record {
          walking = subst (λ (l : List Address). Along b o l own' next k) (sectors_of-set ss n next (omega arith)) moved;
          within = decoded-inside18 layout18 sectors-of-18 (get_or b (256 * next) 0) (get_or b (256 * next + 1) 0);
          long = length-set own next directory_owner ∙ w.long;
          places = omega arith;
          gathered = gathered-set ss n next w.gathered (omega arith) w.within.2;
        };
      }

-- a link to a sector is one to track 18
pub walks-again : {b : Bytes} {o : Result Marked} {own ss : List ℕ} {n holder : ℕ} {at : CodeAddress} → Walks b o own ss n holder (to (address_of at))
    → Walks b o own ss n holder (to (address 18 at.sector))
walks-again w = rw w.within.0 at w

-- ---- the used sectors of track 18

module _ {b : Bytes} {o : Result Marked} {own ss : List ℕ} {n holder next used : ℕ} (w : Walks b o own ss n holder (to (address 18 next)))
    (none : get_or own next 0 ≡ 0) (m : used ≡ owned_mask own 0 19) where
  -- 18/next gets its bit
  pub used-moved : {used' : ℕ} → used' ≡ used + 2 ^ next → used' ≡ owned_mask (set own next directory_owner) 0 19
  used-moved more =
      let long : length own ≡ 19 = w.long in
      let high : next < 19 = w.within.2 in
      let place : 0 + next ≡ next = omega arith in
      more ∙ ap (λ (x : ℕ). x + 2 ^ next) m ∙ sym (rw place at (mask-more own 0 19 next directory_owner high (omega arith) (rw place none) (omega arith)))

  pub used-room : used + 2 ^ next < 524288
  used-room = omega (arith, used-moved refl, mask_lt (set own next directory_owner) 0 19)

-- ---- the ends

module _ {b own ss : List ℕ} {n holder : ℕ} where
  pub walked-ends : {own₀ : List ℕ} {used : ℕ} → used ≡ owned_mask own 0 19 → Walks b (directory_walk b own₀) own ss n holder ends
      → IsWalk b own₀ (record { sectors = ss; count = n; used = used }) own
  unfolding marked_after
  walked-ends m w =
      let places : n + free_places own ≤ 18 = w.places in
      record {
        told =
            sym (ap (λ (l : List Address). done (record { sectors = l; table = own })) (sym (append-nil (sectors_of ss n)))
            ∙ walking-ends layout18 (directory_link layout18) (disk_of_track18 layout18 b) marked_after 255 w.walking);
        rest = w.gathered.rest;
        few = omega arith;
        inside = w.gathered.inside;
        used = m;
      }

  pub walked-bad : {o : Result Marked} {p : Place} → p ≡ record { track = 18; sector = holder; slot = 255 } → Walks b o own ss n holder bad
      → o ≡ refused (fault_of (BadLink p))
  unfolding fault_of marked_after
  walked-bad place w = sym (rw place (walking-bad layout18 (directory_link layout18) (disk_of_track18 layout18 b) marked_after 255 w.walking))

  pub walked-owned : {o : Result Marked} {p : Place} {next : ℕ} → p ≡ record { track = 18; sector = holder; slot = 255 }
      → Walks b o own ss n holder (to (address 18 next)) → (get_or own next 0 ≡ 0 → ⊥) → o ≡ refused (fault_of (AlreadyOwned p))
  unfolding fault_of marked_after
  walked-owned {next = next} place w h =
      sym (rw place (walking-owned layout18 (directory_link layout18) (disk_of_track18 layout18 b) marked_after 255 w.walking (rw (place-18 next) h)))
