-- Bits past a track's last sector (02, §5): left by every call but a format, which writes 0; ignored by the check. Bit by bit for a store and a
-- scratch: proofs/ChangesTheorem. Calls on a disk that has some set: proofs/EdgeTables.
use Prim.Native.Nat.{ℕ, zero, suc, ◌+◌, ◌*◌, ◌≤◌, ◌<◌}
use native.Mathlib.Omega.{arith}
use mathlib.Core.Path.{◌≡◌, refl, sym, ap, ap₂, ◌∙◌, fun_ext}
use mathlib.Core.Bool.{Bool, true, false, not}
use mathlib.Core.List.{List, [], ◌∷◌, ◌++◌, map}
use lib.ListN.{length}
use lib.Dec.{eqb}
use borrow.Author.Tests.{eq-eqb, ltb-false}
use Rattle.d64spec.specs.Lists.{Bytes, count, filter, indicator, member, range}
use Rattle.d64spec.specs.Answers.{Address, Answer, Result, ◌>>=◌, ◌>>◌, already_owned, done, need, refused, wrong_count, wrong_size}
use Rattle.d64spec.specs.Geometry.{Geometry, Valid, directory_start, map_address, sector_number, sectors_on, total, tracks}
use Rattle.d64spec.specs.Image.{Disk, disk}
use Rattle.d64spec.specs.Chain.{Link, bad, directory_link, ends, file_link, steps, to, walk}
use Rattle.d64spec.specs.Directory.{File, Slot, count_of, first_link, is_empty, name_of, occupied_in}
use Rattle.d64spec.specs.Owner.{claims_of}
use Rattle.d64spec.specs.Map.{map_ones}
use Rattle.d64spec.specs.Check.{DirectoryContents, check_directory, check_disk, check_entry, check_image, check_map, check_slot, check_slots, right_size, check_track}
use Rattle.d64spec.specs.Accepted.{Accepted}
use Rattle.d64spec.specs.Reply.{Change, reply}
use Rattle.d64spec.specs.Call.{Call, attempt, call_check, check, format, perform, read, scratch, store}
use Rattle.d64spec.specs.Run.{Request, after, run, serve}
use Rattle.d64spec.specs.SpareBits.{AlikeButSpare, Spare, SpareKept, bit_on, spare_after, spare_run}
use Rattle.d64spec.proofs.ListLaws.{count-append}
use Rattle.d64spec.proofs.ResultLaws.{done_inj, then-done}
use Rattle.d64spec.proofs.CallLaws.{read_done, scratch-done, store-done}
use Rattle.d64spec.proofs.WalkLaws.{walk-sound}
use Rattle.d64spec.proofs.MapLaws.{check_track-same, ones-same}
use Rattle.d64spec.proofs.FrameLaws.{all-of-count, same-slots}
use Rattle.d64spec.proofs.FormatTheorem.{format-bytes}
use Rattle.d64spec.proofs.ChangesTheorem.{scratched-bits, scratched-file, stored-bits, store-takes}
use Rattle.d64spec.proofs.HostLaws.{accepted-of}
use Rattle.d64spec.proofs.ExactTheorem.{check-exact}
use Rattle.d64spec.proofs.GivenBack.{answered-zero}
use Rattle.d64spec.proofs.RefusalTheorem.{refused-left}

-- ---- through a list of calls

module _ (g : Geometry) (v : Valid g) {t s : ℕ} (w : Spare g t s) where
  -- it is no sector of the track
  no-sector : {A : Type 0} → s < sectors_on g t → A
  no-sector h = let past : sectors_on g t ≤ s = w.past in absurd (omega arith)

  done-keeps : (img : Bytes) (c : Call) (ch : Change) → attempt g img c ≡ done ch → bit_on g ch.image_after t s ≡ spare_after (bit_on g img t s) c 0
  unfolding attempt call_check
  done-keeps img check ch e = ap (λ (x : Change). bit_on g x.image_after t s) (sym (done_inj (then-done (check_image g img) _ ch e).2))
  done-keeps img (read name out) ch e = ap (λ (x : Change). bit_on g x.image_after t s) (sym (read_done g img name out ch e).change)
  done-keeps img (format name i j) ch e = (format-bytes g v img name i j ch e).map.spare t s w.first w.last w.past w.within
  done-keeps img (store name kind bs) ch e =
      let h = store-done g img name kind bs ch e in
      let k = store-takes g img name kind bs ch e in
      stored-bits g img name kind bs ch e k.place k.start k.others k.found k.sectors v
      (accepted-of g v img h.size h.contents h.checked) t s w.first w.last w.within no-sector
  done-keeps img (scratch name) ch e =
      let h = scratch-done g img name ch e in
      let k = scratched-file g img name ch e in
      scratched-bits g v img (accepted-of g v img h.size h.contents h.checked) name ch e k.0 k.1 k.2 t s w.first w.last
      w.within no-sector

  -- a refused call leaves the image
  refused-keeps : (b : ℕ) (c : Call) (n : ℕ) → spare_after b c (suc n) ≡ b
  refused-keeps b check n = refl
  refused-keeps b (read name out) n = refl
  refused-keeps b (format name i j) n = refl
  refused-keeps b (store name kind bytes) n = refl
  refused-keeps b (scratch name) n = refl

  call-keeps : (img : Bytes) (q : Request) → bit_on g (after g img q) t s ≡ spare_after (bit_on g img t s) q.call (serve g img q).number
  call-keeps img q = go (serve g img q).number refl
    where
      go : (n : ℕ) → (serve g img q).number ≡ n → bit_on g (after g img q) t s ≡ spare_after (bit_on g img t s) q.call n
      go zero e = let a = answered-zero g img q e in ap (λ (x : Bytes). bit_on g x t s) a.image ∙ done-keeps img q.call a.change a.attempted
      go (suc n) e =
          ap (λ (x : Bytes). bit_on g x t s) (refused-left g v img q.block q.call (λ z. omega arith)).image
          ∙ sym (refused-keeps (bit_on g img t s) q.call n)

  run-keeps : (img : Bytes) (b : ℕ) → bit_on g img t s ≡ b → (l : List Request) → bit_on g (run g img l) t s ≡ spare_run g img b l
  run-keeps img b e [] = e
  run-keeps img b e (q ∷ l) = run-keeps (after g img q) _ (call-keeps img q ∙ ap (λ (x : ℕ). spare_after x q.call (serve g img q).number) e) l

-- LEFT AS THEY ARE by every call but a format, which writes 0: every layout that is valid, every image, every list of calls
pub spare-kept : (g : Geometry) → Valid g → (img : Bytes) (l : List Request) → SpareKept g img l
spare-kept g v img l t s w = run-keeps g v w img (bit_on g img t s) refl l

-- ---- ignored by the check: step 4 first

module _ (g : Geometry) (d e : Disk) (alike : AlikeButSpare g d e) where
  -- the map sectors
  abbrev m : Bytes
  m = d (sector_number g map_address)

  abbrev n : Bytes
  n = e (sector_number g map_address)

  -- they are not counted
  pub ones-alike : (t : ℕ) → 1 ≤ t → t ≤ tracks g → map_ones g m t ≡ map_ones g n t
  ones-alike t l h = ones-same g m n t (λ s b. alike.own t s l h b)

  track-alike : (free : Address → Bool) (t : ℕ) → 1 ≤ t → t ≤ tracks g → check_track g free m t ≡ check_track g free n t
  track-alike free t l h = check_track-same g m n t (λ s b. alike.own t s l h b) free free (alike.counts t l h) (λ s b. refl)

  -- STEP 4 GIVES THE SAME on both, whatever is free
  pub step-alike : (free : Address → Bool) (a k : ℕ) → 1 ≤ a → a + k ≤ tracks g + 1 → check_map g d free (range a k) ≡ check_map g e free (range a k)
  step-alike free a zero p q = refl
  step-alike free a (suc k) p q =
      ap₂ (λ (x r : Result (Unit {0})). x >> r) (track-alike free a p (omega arith))
      (step-alike free (suc a) k (omega arith) (omega arith))

  -- ---- the steps before: no walk reads 18/0, which has its owner

  -- its number
  abbrev z : ℕ
  z = sector_number g map_address

  walk-alike : (link : Bytes → Link) (k : ℕ) (own : List ℕ) (at : Address) (slot : ℕ) (l : Link) → 0 < count z own
      → walk g link d k own at slot l ≡ walk g link e k own at slot l
  walk-alike link zero own at slot l o = refl
  walk-alike link (suc k) own at slot ends o = refl
  walk-alike link (suc k) own at slot bad o = refl
  walk-alike link (suc k) own at slot (to r) o = go (member i own) refl (λ l. walk-alike link k (i ∷ own) r slot l (omega arith))
    where
      i : ℕ
      i = sector_number g r

      next : Disk → Bool → Result (List Address)
      next f b = elim b [ true ↦ refused (already_owned at slot) | false ↦ walk g link f k (i ∷ own) r slot (link (f i)) >>= (λ x. done (r ∷ x)) ]

      go : (b : Bool) → member i own ≡ b → ((l : Link) → walk g link d k (i ∷ own) r slot l ≡ walk g link e k (i ∷ own) r slot l) → next d b ≡ next e b
      go true t ih = refl
      go false t ih =
          let same : d i ≡ e i = alike.other i (λ q. let o' : 0 < count i own = rw q o in omega (arith, ltb-false 0 (count i own) t)) in
          ap (λ (w : Result (List Address)). w >>= (λ x. done (r ∷ x))) (ap (λ (b : Bytes). walk g link d k (i ∷ own) r slot (link b)) same ∙ ih (link (e i)))

  slots-alike : (own : List ℕ) (names : List Bytes) (l : List Slot) → 0 < count z own → check_slots g d own names l ≡ check_slots g e own names l
  unfolding check_slot first_link
  slots-alike own names [] o = refl
  slots-alike own names (s ∷ l) o =
      ap₂ (λ (x : Result (List Address)) (k : List Address → Result (List File)). x >>= k)
      (ap (λ (w : Result (List Address)).
      check_entry names s >> (w >>= (λ c. need (eqb (count_of s.bytes) (length c)) (wrong_count s.holder s.number) >> done c)))
      (walk-alike (file_link g) (steps g) own s.holder s.number (first_link g d s) o))
      (fun_ext (λ c. ap (λ (x : Result (List File)). x >>= (λ fs. done (record { slot = s; sectors = c } ∷ fs)))
      (slots-alike (map (sector_number g) c ++ own) (name_of s.bytes ∷ names) l (omega (arith, count-append z (map (sector_number g) c) own)))))

  -- steps 2 to 4
  disk-alike : check_disk g d ≡ check_disk g e
  unfolding check_disk check_directory
  disk-alike = by-directory (check_directory g d) refl ∙ ap (λ (x : Result (List Address)). x >>= from e) same
    where
      start : List ℕ
      start = z ∷ []

      self : indicator (eqb z z) ≡ 1
      self = ap indicator (eq-eqb z z refl)

      same : check_directory g d ≡ check_directory g e
      same = walk-alike (directory_link g) (steps g) start map_address 255 (to directory_start) (omega (arith, self))

      -- what follows the directory's sectors
      from : Disk → List Address → Result DirectoryContents
      from f ds =
          check_slots g f (z ∷ map (sector_number g) ds) [] (occupied_in g f ds)
          >>= (λ fs. check_map g f (λ r. eqb (count (sector_number g r) (claims_of g ds fs)) 0) (range 1 (tracks g)) >> done (record { walked = ds; found = fs }))

      by-directory : (x : Result (List Address)) → check_directory g d ≡ x → (check_directory g d >>= from d) ≡ (check_directory g d >>= from e)
      by-directory (refused f) q = rw q refl
      by-directory (done ds) q =
          let w = walk-sound g (directory_link g) d (steps g) start map_address 255 (to directory_start) ds q in
          let none : count z (map (sector_number g) ds) ≤ 0 = omega (arith, self, w.once z (omega (arith, self))) in
          let read = all-of-count g (λ i. d i ≡ e i) ds (λ i h.
          alike.other i (λ q. let h' : 0 < count z (map (sector_number g) ds) = rw q at h in omega arith)) in
          let slots : occupied_in g d ds ≡ occupied_in g e ds = ap (filter (λ s. not (is_empty s.bytes))) (sym (same-slots g d e 0 ds read)) in
          rw q (ap₂ (λ (x : Result (List File)) (k : List File → Result DirectoryContents). x >>= k)
          (ap (check_slots g d (z ∷ map (sector_number g) ds) []) slots
          ∙ slots-alike (z ∷ map (sector_number g) ds) [] (occupied_in g e ds) (omega (arith, self)))
          (fun_ext (λ fs. ap (λ (x : Result (Unit {0})). x >> done (record { walked = ds; found = fs }))
          (step-alike (λ r. eqb (count (sector_number g r) (claims_of g ds fs)) 0) 1 (tracks g) (omega arith) (omega arith)))))

-- ---- images

module _ (g : Geometry) (img new : Bytes) (size : length new ≡ length img) (alike : AlikeButSpare g (disk img) (disk new)) where
  -- THE CHECK FINDS THE SAME on two images that differ in these bits alone
  pub check-alike : check_image g img ≡ check_image g new
  unfolding check_image right_size
  check-alike =
      ap₂ (λ (b : Bool) (r : Result DirectoryContents). need b wrong_size >> r) (ap (λ (k : ℕ). eqb k (256 * total g)) (sym size))
      (disk-alike g (disk img) (disk new) alike)

  -- so its answer is the same, number and place
  pub answer-alike : (perform g img check).answer ≡ (perform g new check).answer
  unfolding perform reply attempt call_check
  answer-alike = go (check_image g img) refl
    where
      go : (x : Result DirectoryContents) → check_image g img ≡ x → (perform g img check).answer ≡ (perform g new check).answer
      go (refused f) q = rw (← check-alike, q) refl
      go (done c) q = rw (← check-alike, q) refl

  -- and where one is accepted, so is the other
  pub accepted-alike : Valid g → Accepted g img → Accepted g new
  accepted-alike v a = (check-exact g v new).0 (ap (λ (x : Answer). x.number) (sym answer-alike) ∙ (check-exact g v img).1 a)
