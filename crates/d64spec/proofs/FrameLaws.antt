-- What a change of other sectors leaves: the directory, the files and their bytes.
use Prim.Native.Nat.{ℕ, ◌+◌, ◌≤◌, ◌<◌}
use native.Mathlib.Omega.{arith}
use mathlib.Core.Path.{◌≡◌, refl, sym, ap, ap₂}
use mathlib.Core.List.{List, [], ◌∷◌, ◌++◌, map}
use lib.Dec.{eqb}
use borrow.Author.Tests.{eq-eqb}
use Rattle.d64spec.specs.Lists.{All, Bytes, count, indicator, name_count}
use Rattle.d64spec.specs.Answers.{Address}
use Rattle.d64spec.specs.Geometry.{Geometry, directory_start, sector_number}
use Rattle.d64spec.specs.Image.{Disk}
use Rattle.d64spec.specs.Chain.{Chain, directory_link, file_link, follow, steps, to}
use Rattle.d64spec.specs.Directory.{File, PlainEntry, Slot, directory_sectors, file_of, files, first_link, kind_of, name_of, occupied, plain_entry_of, plain_list, slots_from, slots_in}
use Rattle.d64spec.specs.Owner.{claim_count, claim_list, file_claims}
use Rattle.d64spec.specs.Accepted.{ValidEntry}
use Rattle.d64spec.proofs.ListLaws.{count-append}
use Rattle.d64spec.proofs.ChainLaws.{chain-frame, follow-frame, data-frame}

-- all of an accepted disk but the map
pub record Sound (g : Geometry) (d : Disk) : Type 0 where
  pub directory : Chain g (directory_link g) d (to directory_start) (directory_sectors g d)
  pub entry : All (ValidEntry g d) (files g d)
  pub names : (n : Bytes) → name_count n (map (λ f. name_of f.slot.bytes) (files g d)) ≤ 1
  pub once : (n : ℕ) → claim_count g d n ≤ 1

module _ {A : Type 0} {P Q : A → Type 0} where
  pub all_map : (f : (x : A) → P x → Q x) (l : List A) → All P l → All Q l
  all_map f [] a = tt
  all_map f (x ∷ l) a = (f x a.0, all_map f l a.1)

-- what holds of each number that stands in a list
pub all-of-count : (g : Geometry) (P : ℕ → Type 0) (l : List Address) → ((n : ℕ) → 0 < count n (map (sector_number g) l) → P n) → All (λ r. P (sector_number g r)) l
all-of-count g P [] f = tt
all-of-count g P (r ∷ l) f =
    let self : indicator (eqb (sector_number g r) (sector_number g r)) ≡ 1 = rw (eq-eqb (sector_number g r) (sector_number g r) refl) in
    (f (sector_number g r) (omega arith), all-of-count g P l (λ n h. f n (omega arith)))

module _ (g : Geometry) (d e : Disk) where
  -- the sectors of a list are alike
  abbrev pub Agree : List ℕ → Type 0
  Agree l = (n : ℕ) → 0 < count n l → d n ≡ e n

  agree_left : (l m : List ℕ) → Agree (l ++ m) → Agree l
  agree_left l m a n h = a n (omega (arith, count-append n l m))

  agree_right : (l m : List ℕ) → Agree (l ++ m) → Agree m
  agree_right l m a n h = a n (omega (arith, count-append n l m))

  pub same-directory : All (λ r. directory_link g (d (sector_number g r)) ≡ directory_link g (e (sector_number g r))) (directory_sectors g d) → directory_sectors g e ≡ directory_sectors g d
  unfolding directory_sectors
  same-directory a = follow-frame g (directory_link g) d e (steps g) (to directory_start) a

  pub same-slots : (n : ℕ) (l : List Address) → All (λ r. d (sector_number g r) ≡ e (sector_number g r)) l → slots_from g e n l ≡ slots_from g d n l
  same-slots n [] a = refl
  same-slots n (r ∷ l) a = ap₂ (λ (b : Bytes) (t : List Slot). slots_in b r n ++ t) (sym a.0) (same-slots (n + 8) l a.1)

  -- a file's chain
  same-file : (s : Slot) → Agree (map (sector_number g) (file_of g d s).sectors) → file_of g e s ≡ file_of g d s
  unfolding file_of first_link
  same-file s a =
      ap (λ (l : List Address). record { slot = s; sectors = l })
      (follow-frame g (file_link g) d e (steps g) (first_link g d s)
      (all-of-count g (λ n. file_link g (d n) ≡ file_link g (e n)) (follow g (file_link g) d (steps g) (first_link g d s)) (λ n h. ap (file_link g) (a n h))))

  pub same-files : (ss : List Slot) → Agree (file_claims g (map (file_of g d) ss)) → map (file_of g e) ss ≡ map (file_of g d) ss
  same-files [] a = refl
  same-files (s ∷ ss) a =
      ap₂ (λ (f : File) (l : List File). f ∷ l)
      (same-file s (agree_left (map (sector_number g) (file_of g d s).sectors) (file_claims g (map (file_of g d) ss)) a))
      (same-files ss (agree_right (map (sector_number g) (file_of g d s).sectors) (file_claims g (map (file_of g d) ss)) a))

  same-valid-entry : (f : File) → Agree (map (sector_number g) f.sectors) → ValidEntry g d f → ValidEntry g e f
  unfolding first_link
  same-valid-entry f a r = record {
    type = r.type;
    name = r.name;
    chain = chain-frame g (file_link g) d e (first_link g d f.slot) f.sectors (all-of-count g (λ n. file_link g (d n) ≡ file_link g (e n)) f.sectors (λ n h. ap (file_link g) (a n h))) r.chain;
    sector_count = r.sector_count;
  }

  pub same-valid-entries : (fs : List File) → Agree (file_claims g fs) → All (ValidEntry g d) fs → All (ValidEntry g e) fs
  same-valid-entries [] a r = tt
  same-valid-entries (f ∷ fs) a r = (
    same-valid-entry f (agree_left (map (sector_number g) f.sectors) (file_claims g fs) a) r.0,
    same-valid-entries fs (agree_right (map (sector_number g) f.sectors) (file_claims g fs) a) r.1,
  )

  pub same-plain_list : (fs : List File) → Agree (file_claims g fs) → map (plain_entry_of g e) fs ≡ map (plain_entry_of g d) fs
  unfolding plain_entry_of
  same-plain_list [] a = refl
  same-plain_list (f ∷ fs) a =
      ap₂ (λ (b : Bytes) (l : List PlainEntry). record { name = name_of f.slot.bytes; kind = kind_of f.slot.bytes; content = b } ∷ l)
      (sym (data-frame g d e f.sectors (all-of-count g (λ n. d n ≡ e n) f.sectors (agree_left (map (sector_number g) f.sectors) (file_claims g fs) a))))
      (same-plain_list fs (agree_right (map (sector_number g) f.sectors) (file_claims g fs) a))

-- ---- a disk that is alike in all of its directory and its files

module _ (g : Geometry) (d e : Disk) (a : Agree g d e (map (sector_number g) (directory_sectors g d) ++ file_claims g (files g d))) where
  alike-directory : All (λ r. d (sector_number g r) ≡ e (sector_number g r)) (directory_sectors g d)
  alike-directory = all-of-count g (λ n. d n ≡ e n) (directory_sectors g d) (agree_left g d e (map (sector_number g) (directory_sectors g d)) (file_claims g (files g d)) a)

  alike-links : All (λ r. directory_link g (d (sector_number g r)) ≡ directory_link g (e (sector_number g r))) (directory_sectors g d)
  alike-links = all_map (λ r h. ap (directory_link g) h) (directory_sectors g d) alike-directory

  pub frame-directory : directory_sectors g e ≡ directory_sectors g d
  frame-directory = same-directory g d e alike-links

  pub frame-slots : slots_from g e 0 (directory_sectors g e) ≡ slots_from g d 0 (directory_sectors g d)
  frame-slots = rw frame-directory (same-slots g d e 0 (directory_sectors g d) alike-directory)

  frame-occupied : occupied g e ≡ occupied g d
  unfolding occupied
  frame-occupied = rw frame-slots

  pub frame-files : files g e ≡ files g d
  unfolding files
  frame-files = rw frame-occupied (same-files g d e (occupied g d) (agree_right g d e (map (sector_number g) (directory_sectors g d)) (file_claims g (files g d)) a))

  pub frame-plain_list : plain_list g e ≡ plain_list g d
  unfolding plain_list
  frame-plain_list = rw frame-files (same-plain_list g d e (files g d) (agree_right g d e (map (sector_number g) (directory_sectors g d)) (file_claims g (files g d)) a))

  pub frame-claims : (n : ℕ) → claim_count g e n ≡ claim_count g d n
  unfolding claim_count claim_list
  frame-claims n = rw (frame-directory, frame-files)

  pub frame-sound : Sound g d → Sound g e
  frame-sound s = record {
    directory = rw frame-directory (chain-frame g (directory_link g) d e (to directory_start) (directory_sectors g d) alike-links s.directory);
    entry = rw frame-files (same-valid-entries g d e (files g d) (agree_right g d e (map (sector_number g) (directory_sectors g d)) (file_claims g (files g d)) a) s.entry);
    names = λ n. rw frame-files (s.names n);
    once = λ n. rw (frame-claims n) (s.once n);
  }
