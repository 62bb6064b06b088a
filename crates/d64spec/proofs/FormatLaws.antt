-- A format that is done. The laws go by way of a disk without a map, `blank_disk`, whose map is then rewritten: the laws of `rewrite_map`
-- serve here too. That this is the image which specs/Format describes sector by sector: `formatted-same`.
use Prim.Native.Nat.{ℕ, zero, suc, ◌+◌, ◌*◌, ◌-◌, ◌≤◌, ◌<◌}
use native.Mathlib.Omega.{arith}
use mathlib.Core.Path.{ap₂, fun_ext}
use lib.Seq.{take_at, drop-append-add}
use borrow.Author.Tests.{ne_eqb, eqb-false, lt-ltb}
use mathlib.Core.Bool.{not}
use Rattle.d64spec.proofs.SplitLaws.{map_range}
use mathlib.Core.Path.{◌≡◌, refl, sym, ap, ◌∙◌}
use mathlib.Core.Bool.{Bool, true, false, ◌&&◌}
use mathlib.Core.List.Perm
use mathlib.Core.List.{List, [], ◌∷◌, ◌++◌, map}
use lib.ListN.{length, take, drop, replicate, length-append, length-replicate, length-take, length-drop, get_or-replicate}
use lib.Seq.{ext_get_or, get_or-take, get_or-drop}
use lib.Dec.{eqb, ltb}
use borrow.Author.Tests.{eq-eqb, eqb-true, ltb-true}
use Rattle.d64spec.specs.Lists.{Bytes, ascending, count, filter, indicator, join, range, splice, zeros}
use Rattle.d64spec.specs.Answers.{Address, done}
use Rattle.d64spec.specs.Geometry.{Geometry, Valid, directory_start, map_address, sector_number, total, tracks}
use Rattle.d64spec.specs.Image.{Disk, disk, image, put}
use Rattle.d64spec.specs.Chain.{Link, decode_directory_link, directory_link, ends, follow, steps, to}
use Rattle.d64spec.specs.Directory.{directory_sectors, file_of, files, occupied, padded, plain_entry_of, plain_list, slot_in, slots_from, slots_in}
use Rattle.d64spec.specs.Owner.{claim_count, file_claims, is_free}
use Rattle.d64spec.specs.Map.{rewrite_map, with_entries}
use Rattle.d64spec.specs.Reply.{Change, reply, valid_name_argument}
use Rattle.d64spec.specs.Format.{call_format, empty_directory_sector, format_header, formatted_disk, formatted_map, free_after_format}
use Rattle.d64spec.specs.Call.{format}
use Rattle.d64spec.specs.Host.{host_reply}
use Rattle.d64spec.specs.Run.{plain_list_after}
use Rattle.d64spec.proofs.CallLaws.{format-done}
use Rattle.d64spec.proofs.BoundLaws.{sector_number-lt, map_on}
use Rattle.d64spec.proofs.RunLaws.{StepHolds}
use Rattle.d64spec.proofs.FrameLaws.{Sound}
use Rattle.d64spec.proofs.ImageLaws.{Whole, disk-whole, put_same, put_other, put_whole}
use Rattle.d64spec.proofs.MapLaws.{and-true}
use Rattle.d64spec.proofs.MapWriteLaws.{rewrite-whole, rewrite-accepted, rewrite-plain_list, rewrite-claims, rewrite-other}
use Rattle.d64spec.proofs.ScratchLaws.{is_occupied, claim_count-of}
use Rattle.d64spec.proofs.ScratchStep.{disk-step}

-- a part of zeros
pub part-zeros : (m k n : ℕ) → k + n ≤ m → take n (drop k (zeros m)) ≡ zeros n
part-zeros m k n h =
    let l : length (drop k (zeros m)) ≡ m - k = length-drop k (zeros m) ∙ ap (λ (x : ℕ). x - k) (length-replicate {A = ℕ} m 0) in
    let t : length (take n (drop k (zeros m))) ≡ n = length-take n (drop k (zeros m)) ∙ (omega arith) in
    ext_get_or 0 (take n (drop k (zeros m))) (zeros n) (t ∙ sym (length-replicate {A = ℕ} n 0))
    (λ i b. get_or-take n (drop k (zeros m)) i 0 (omega arith) ∙ get_or-drop k (zeros m) i 0 ∙ get_or-replicate {A = ℕ} m (k + i) 0 0 (omega arith) ∙ sym (get_or-replicate {A = ℕ} n i 0 0 (omega arith)))

-- 18/0 of a format but for the map, from its first byte to its last
unfoldable pub header : Bytes → ℕ → ℕ → Bytes
header name i j =
    (0x12 ∷ 0x01 ∷ 0x41 ∷ 0x00 ∷ []) ++ (zeros 0x8C ++ (padded name
    ++ ((0xA0 ∷ 0xA0 ∷ i ∷ j ∷ 0xA0 ∷ 0x32 ∷ 0x41 ∷ 0xA0 ∷ 0xA0 ∷ 0xA0 ∷ 0xA0 ∷ []) ++ zeros 0x55)))

-- a formatted disk but for the map
unfoldable pub blank_disk : Geometry → Bytes → ℕ → ℕ → Disk
blank_disk g name i j = put (put (disk (zeros (256 * total g))) (sector_number g directory_start) empty_directory_sector) (sector_number g map_address) (header name i j)

pub padded-length : (n : Bytes) → length n ≤ 16 → length (padded n) ≡ 16
unfolding padded
padded-length n h = length-append n (replicate (16 - length n) 0xA0) ∙ (let e = length-replicate {A = ℕ} (16 - length n) 0xA0 in omega arith)

header-length : (name : Bytes) (i j : ℕ) → length name ≤ 16 → length (header name i j) ≡ 256
unfolding header
header-length name i j h =
    let t : Bytes = (0xA0 ∷ 0xA0 ∷ i ∷ j ∷ 0xA0 ∷ 0x32 ∷ 0x41 ∷ 0xA0 ∷ 0xA0 ∷ 0xA0 ∷ 0xA0 ∷ []) ++ zeros 0x55 in
    let e : length (zeros 0x8C ++ (padded name ++ t)) ≡ 252
    = length-append (zeros 0x8C) (padded name ++ t) ∙ ap (λ (x : ℕ). 140 + x) (length-append (padded name) t ∙ ap (λ (x : ℕ). x + 96) (padded-length name h)) in
    ap (λ (x : ℕ). suc (suc (suc (suc x)))) e

module _ (g : Geometry) (v : Valid g) (name : Bytes) (i j : ℕ) (short : length name ≤ 16) where
  -- a disk of zeros
  abbrev d0 : Disk
  d0 = disk (zeros (256 * total g))

  -- the blank disk
  abbrev b : Disk
  b = blank_disk g name i j

  dir-below : sector_number g directory_start < total g
  dir-below = sector_number-lt g directory_start v.directory

  apart : sector_number g directory_start ≡ sector_number g map_address → ⊥
  unfolding sector_number
  apart e = omega arith

  pub blank-whole : Whole g b
  unfolding blank_disk
  blank-whole =
      put_whole g (put d0 (sector_number g directory_start) empty_directory_sector) (sector_number g map_address) (header name i j)
      (put_whole g d0 (sector_number g directory_start) empty_directory_sector (disk-whole g (zeros (256 * total g)) (length-replicate {A = ℕ} (256 * total g) 0)) dir-below (ap (λ (x : ℕ). suc (suc x)) (length-replicate {A = ℕ} 254 0)))
      (sector_number-lt g map_address (map_on g v.directory)) (header-length name i j short)

  pub blank-dir : b (sector_number g directory_start) ≡ empty_directory_sector
  unfolding blank_disk
  blank-dir = put_other (put d0 (sector_number g directory_start) empty_directory_sector) (sector_number g map_address) (header name i j) (sector_number g directory_start) apart ∙ put_same d0 (sector_number g directory_start) empty_directory_sector

  pub blank-other : (n : ℕ) → n < total g → (n ≡ sector_number g directory_start → ⊥) → (n ≡ sector_number g map_address → ⊥) → b n ≡ zeros 256
  unfolding blank_disk disk
  blank-other n h p q =
      put_other (put d0 (sector_number g directory_start) empty_directory_sector) (sector_number g map_address) (header name i j) n q
      ∙ put_other d0 (sector_number g directory_start) empty_directory_sector n p ∙ part-zeros (256 * total g) (256 * n) 256 (omega arith)

  blank-link : directory_link g (b (sector_number g directory_start)) ≡ ends
  unfolding directory_link decode_directory_link
  blank-link = rw blank-dir

  blank-directory : directory_sectors g b ≡ directory_start ∷ []
  unfolding directory_sectors
  blank-directory = go (steps g) (omega (arith, dir-below))
    where
      go : (n : ℕ) → sector_number g directory_start < n → follow g (directory_link g) b n (to directory_start) ≡ directory_start ∷ []
      go zero h = absurd (omega arith)
      go (suc zero) h = refl
      go (suc (suc n)) h = ap (λ (k : Link). directory_start ∷ follow g (directory_link g) b (suc n) k) blank-link

  blank-occupied : occupied g b ≡ []
  unfolding occupied slots_in slot_in
  blank-occupied = ap (λ (l : List Address). filter is_occupied (slots_from g b 0 l)) blank-directory ∙ ap (λ (x : Bytes). filter is_occupied (slots_in x directory_start 0 ++ [])) blank-dir

  blank-files : files g b ≡ []
  unfolding files
  blank-files = ap (map (file_of g b)) blank-occupied

  pub blank-claims : (n : ℕ) → claim_count g b n ≡ indicator (eqb n (sector_number g map_address)) + indicator (eqb n (sector_number g directory_start))
  blank-claims n =
      omega (arith, claim_count-of g b n, ap (λ (l : List Address). count n (map (sector_number g) l)) blank-directory, ap (λ l. count n (file_claims g l)) blank-files)

  pub blank-sound : Sound g b
  blank-sound = record {
    directory = rw blank-directory (refl, blank-link);
    entry = rw blank-files tt;
    names = λ n. rw blank-files (omega arith);
    once = λ n. rw (blank-claims n) (two (eqb n (sector_number g map_address)) (eqb n (sector_number g directory_start)) n refl refl);
  }
    where
      two : (x y : Bool) (n : ℕ) → eqb n (sector_number g map_address) ≡ x → eqb n (sector_number g directory_start) ≡ y → indicator x + indicator y ≤ 1
      two true true n p q = absurd (apart (sym (eqb-true n (sector_number g directory_start) q) ∙ eqb-true n (sector_number g map_address) p))
      two true false n p q = omega arith
      two false true n p q = omega arith
      two false false n p q = omega arith

  blank-plain_list : plain_list g (rewrite_map g b) ≡ []
  unfolding plain_list
  blank-plain_list = rewrite-plain_list g v b blank-whole blank-sound ∙ ap (map (plain_entry_of g b)) blank-files

  blank-free : (n : ℕ) → n < total g → claim_count g (rewrite_map g b) n ≡ 0 → rewrite_map g b n ≡ zeros 256
  blank-free n h o =
      let z : indicator (eqb n (sector_number g map_address)) + indicator (eqb n (sector_number g directory_start)) ≡ 0 = sym (blank-claims n) ∙ sym (rewrite-claims g v b blank-whole blank-sound n) ∙ o in
      let m : n ≡ sector_number g map_address → ⊥ = λ e. (let y : indicator (eqb n (sector_number g map_address)) ≡ 1 = rw (eq-eqb n (sector_number g map_address) e) in omega arith) in
      rewrite-other g b n m ∙ blank-other n h (λ e. (let y : indicator (eqb n (sector_number g directory_start)) ≡ 1 = rw (eq-eqb n (sector_number g directory_start) e) in omega arith)) m

-- 18/0 with p for the name
around : (p : Bytes) (i j : ℕ) → length p ≡ 16
    → splice (splice (splice (zeros 256) 0x00 (0x12 ∷ 0x01 ∷ 0x41 ∷ 0x00 ∷ [])) 0x90 p) 0xA0 (0xA0 ∷ 0xA0 ∷ i ∷ j ∷ 0xA0 ∷ 0x32 ∷ 0x41 ∷ 0xA0 ∷ 0xA0 ∷ 0xA0 ∷ 0xA0 ∷ [])
    ≡ (0x12 ∷ 0x01 ∷ 0x41 ∷ 0x00 ∷ []) ++ (zeros 0x8C ++ (p ++ ((0xA0 ∷ 0xA0 ∷ i ∷ j ∷ 0xA0 ∷ 0x32 ∷ 0x41 ∷ 0xA0 ∷ 0xA0 ∷ 0xA0 ∷ 0xA0 ∷ []) ++ zeros 0x55)))
around p i j z =
    let t : Bytes = 0xA0 ∷ 0xA0 ∷ i ∷ j ∷ 0xA0 ∷ 0x32 ∷ 0x41 ∷ 0xA0 ∷ 0xA0 ∷ 0xA0 ∷ 0xA0 ∷ [] in
    let b : Bytes = splice (zeros 256) 0x00 (0x12 ∷ 0x01 ∷ 0x41 ∷ 0x00 ∷ []) in
    let x : Bytes = (0x12 ∷ 0x01 ∷ 0x41 ∷ 0x00 ∷ []) ++ zeros 0x8C in
    let y : Bytes = zeros 0x60 in
    let n : 27 ≡ length p + 11 = omega arith in
    ap (λ (k : ℕ). splice (take 0x90 b ++ (p ++ drop (0x90 + k) b)) 0xA0 t) z
    ∙ ap₂ (λ (u w : Bytes). (x ++ u) ++ (t ++ w)) (take_at p y 16 z) (ap (λ (k : ℕ). drop k (p ++ y)) n ∙ drop-append-add p y 11)

-- THE HEADER, each run of bytes at its offset
pub header-same : (name : Bytes) (i j : ℕ) → length name ≤ 16 → format_header name i j ≡ header name i j
unfolding format_header header
header-same name i j short = around (padded name) i j (padded-length name short)

none-not : (n : ℕ) → not (ltb 0 n) ≡ eqb n 0
none-not zero = refl
none-not (suc n) = ap not (lt-ltb 0 (suc n) (omega arith)) ∙ sym (ne_eqb (suc n) 0 (λ e. omega arith))

pub blank-map : (g : Geometry) (name : Bytes) (i j : ℕ) → blank_disk g name i j (sector_number g map_address) ≡ header name i j
unfolding blank_disk
blank-map g name i j = put_same (put (disk (zeros (256 * total g))) (sector_number g directory_start) empty_directory_sector) (sector_number g map_address) (header name i j)

module _ (g : Geometry) (v : Valid g) (name : Bytes) (i j : ℕ) (short : length name ≤ 16) where
  pub free-same : ◌≡◌ {A = Address → Bool} (free_after_format g) (is_free g (blank_disk g name i j))
  unfolding free_after_format
  free-same = fun_ext (λ r.
      let n : count (sector_number g r) (sector_number g map_address ∷ sector_number g directory_start ∷ []) ≡ claim_count g (blank_disk g name i j) (sector_number g r) = omega (arith, blank-claims g v name i j short (sector_number g r)) in
      none-not (count (sector_number g r) (sector_number g map_address ∷ sector_number g directory_start ∷ [])) ∙ ap (λ (k : ℕ). eqb k 0) n)

  sector-same : (n : ℕ) → n < total g → formatted_disk g name i j n ≡ rewrite_map g (blank_disk g name i j) n
  unfolding formatted_disk formatted_map rewrite_map ascending
  sector-same n h = go (eqb n (sector_number g map_address)) (eqb n (sector_number g directory_start)) refl refl
    where
      b : Disk
      b = blank_disk g name i j

      s : Bytes
      s = with_entries g (free_after_format g) (format_header name i j) (range 1 (tracks g + 1 - 1))

      s' : Bytes
      s' = with_entries g (is_free g b) (b (sector_number g map_address)) (range 1 (tracks g))

      f : Disk
      f = put (λ n. zeros 256) (sector_number g directory_start) empty_directory_sector

      alike : s ≡ s'
      alike =
          let z : tracks g + 1 - 1 ≡ tracks g = omega arith in
          let y : format_header name i j ≡ b (sector_number g map_address) = header-same name i j short ∙ sym (blank-map g name i j) in
          ap (λ (k : ℕ). with_entries g (free_after_format g) (format_header name i j) (range 1 k)) z ∙ ap₂ (λ (p : Address → Bool) (m : Bytes). with_entries g p m (range 1 (tracks g))) free-same y

      go : (x y : Bool) → eqb n (sector_number g map_address) ≡ x → eqb n (sector_number g directory_start) ≡ y → put f (sector_number g map_address) s n ≡ put b (sector_number g map_address) s' n
      go true y p q = rw (eqb-true n (sector_number g map_address) p) (put_same f (sector_number g map_address) s ∙ alike ∙ sym (put_same b (sector_number g map_address) s'))
      go false true p q =
          let z : n ≡ sector_number g directory_start = eqb-true n (sector_number g directory_start) q in
          let m : n ≡ sector_number g map_address → ⊥ = eqb-false n (sector_number g map_address) p in
          put_other f (sector_number g map_address) s n m ∙ ap f z ∙ put_same (λ n. zeros 256) (sector_number g directory_start) empty_directory_sector ∙ sym (blank-dir g v name i j short) ∙ ap b (sym z) ∙ sym (put_other b (sector_number g map_address) s' n m)
      go false false p q =
          let m : n ≡ sector_number g map_address → ⊥ = eqb-false n (sector_number g map_address) p in
          let k : n ≡ sector_number g directory_start → ⊥ = eqb-false n (sector_number g directory_start) q in
          put_other f (sector_number g map_address) s n m ∙ put_other (λ n. zeros 256) (sector_number g directory_start) empty_directory_sector n k ∙ sym (blank-other g v name i j short n h k m) ∙ sym (put_other b (sector_number g map_address) s' n m)

  -- A FORMATTED IMAGE, said sector by sector
  pub formatted-same : image g (formatted_disk g name i j) ≡ image g (rewrite_map g (blank_disk g name i j))
  unfolding image
  formatted-same = ap join (map_range (formatted_disk g name i j) (rewrite_map g (blank_disk g name i j)) 0 (total g) (λ n l u. sector-same n (omega arith)))

pub name-short : (n : Bytes) → valid_name_argument n ≡ true → length n ≤ 16
unfolding valid_name_argument
name-short n e =
    let h = and-true (ltb 0 (length n)) (ltb (length n) 17 && eqb (count 0xA0 n) 0) e in
    let k = and-true (ltb (length n) 17) (eqb (count 0xA0 n) 0) h.1 in
    let l : length n < 17 = ltb-true (length n) 17 k.0 in omega arith

pub format-step : (g : Geometry) → Valid g → (img name : Bytes) (i j : ℕ) (ch : Change) → call_format g img name i j ≡ done ch
    → StepHolds g img (format name i j) (host_reply (reply img [] (done ch)))
unfolding reply plain_list_after
format-step g v img name i j ch e =
    let h = format-done g img name i j ch e in
    let s : length name ≤ 16 = name-short name h.asked in
    disk-step g img (format name i j) (host_reply (reply img [] (done ch))) (rewrite_map g (blank_disk g name i j)) (ap (λ (x : Change). x.image_after) (sym h.change) ∙ formatted-same g v name i j s)
    (rewrite-whole g v (blank_disk g name i j) (blank-whole g v name i j s) (blank-sound g v name i j s))
    (rewrite-accepted g v (blank_disk g name i j) (blank-whole g v name i j s) (blank-sound g v name i j s))
    (rw (blank-plain_list g v name i j s) (Perm.refl []))
    (λ n b o f. blank-free g v name i j s n b f)
    (λ n b o f y. blank-free g v name i j s n b f)
    tt
