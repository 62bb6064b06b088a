-- Bytes of 18/0 in no map entry of the layout (02, §8): every call but a format leaves them, the check ignores them, and a format has them 0. So it is with
-- the bytes that Dolphin has the entries of tracks 36 to 40 in on a SpeedDOS disk, and the other way round.
-- In order: a list of calls; the check; those bytes; the entries themselves after a format.
use Prim.Native.Nat.{ℕ, zero, suc, ◌+◌, ◌-◌, ◌*◌, ◌/◌, ◌%◌, ◌≤◌, ◌<◌}
use native.Mathlib.Omega.{arith}
use native.Mathlib.Decide.{dec_le}
use mathlib.Core.Path.{◌≡◌, refl, sym, ap, ◌∙◌}
use mathlib.Core.Logic.{◌⊎◌, inl, inr}
use mathlib.Core.List.{List, [], ◌∷◌, map}
use lib.ListN.{get_or, length, replicate}
use Rattle.d64spec.specs.Lists.{Bytes, byte, part, range, zeros}
use Rattle.d64spec.specs.Answers.{done}
use Rattle.d64spec.specs.Geometry.{Geometry, Valid, dolphin, first_on, layout40, map_address, sector_number, sectors_on, speed_dos, tracks}
use Rattle.d64spec.specs.Image.{Disk, disk}
use Rattle.d64spec.specs.Bits.{binary, bit_of}
use Rattle.d64spec.specs.Map.{bitmap_byte, expected_bit, expected_entry, map_bit}
use Rattle.d64spec.specs.Check.{check_image}
use Rattle.d64spec.specs.Accepted.{Accepted}
use Rattle.d64spec.specs.Reply.{Change}
use Rattle.d64spec.specs.Format.{call_format, free_after_format}
use Rattle.d64spec.specs.Call.{Call, attempt, call_check, check, format, perform, read, scratch, store}
use Rattle.d64spec.specs.Run.{Request, after, serve}
use Rattle.d64spec.specs.Changes.{OutsideKept, OutsideMap}
use Rattle.d64spec.specs.SpareBits.{AlikeButSpare}
use Rattle.d64spec.specs.OutsideMap.{AlikeInMap, InDolphin, InSpeedDos, NoFormat, OutsideRun}
use Rattle.d64spec.proofs.ListLaws.{get_or-map-range}
use Rattle.d64spec.proofs.ResultLaws.{done_inj, then-done}
use Rattle.d64spec.proofs.CallLaws.{read_done, scratch-done, store-done}
use Rattle.d64spec.proofs.ChangesTheorem.{scratched-outside, stored-outside, store-takes}
use Rattle.d64spec.proofs.HostLaws.{accepted-of}
use Rattle.d64spec.proofs.GivenBack.{answered-zero}
use Rattle.d64spec.proofs.RefusalTheorem.{refused-left}
use Rattle.d64spec.proofs.SpareTheorem.{accepted-alike, answer-alike, check-alike}
use Rattle.d64spec.proofs.LayoutLaws.{known-dolphin, known-speed_dos, map-high, map-low, tracks40}
use Rattle.d64spec.proofs.FormatTheorem.{format-bytes}

-- ---- through a list of calls

module _ (g : Geometry) (v : Valid g) where
  -- the same image
  same-outside : (img : Bytes) (ch : Change) → ch.image_after ≡ img → OutsideKept g (disk img) (disk ch.image_after)
  same-outside img ch e = rw e (λ i h. refl)

  done-outside : (img : Bytes) (c : Call) (ch : Change) → NoFormat c → attempt g img c ≡ done ch → OutsideKept g (disk img) (disk ch.image_after)
  unfolding attempt call_check
  done-outside img check ch w e = same-outside img ch (ap (λ (x : Change). x.image_after) (sym (done_inj (then-done (check_image g img) _ ch e).2)))
  done-outside img (read name out) ch w e = same-outside img ch (ap (λ (x : Change). x.image_after) (sym (read_done g img name out ch e).change))
  done-outside img (format name i j) ch w e = absurd w
  done-outside img (store name kind bs) ch w e =
      let h = store-done g img name kind bs ch e in
      let k = store-takes g img name kind bs ch e in
      stored-outside g img name kind bs ch e k.place k.start k.others k.found k.sectors v
      (accepted-of g v img h.size h.contents h.checked)
  done-outside img (scratch name) ch w e =
      let h = scratch-done g img name ch e in
      scratched-outside g v img (accepted-of g v img h.size h.contents h.checked) name ch e

  call-outside : (img : Bytes) (q : Request) → NoFormat q.call → OutsideKept g (disk img) (disk (after g img q))
  call-outside img q w = go (serve g img q).number refl
    where
      go : (n : ℕ) → (serve g img q).number ≡ n → OutsideKept g (disk img) (disk (after g img q))
      go zero e = let a = answered-zero g img q e in rw a.image (done-outside img q.call a.change w a.attempted)
      go (suc n) e = rw (refused-left g v img q.block q.call (λ z. omega arith)).image (λ i h. refl)

  -- LEFT BY EVERY CALL BUT A FORMAT: every image, every list of such calls
  pub outside_kept : (img : Bytes) (l : List Request) → OutsideRun g img l
  outside_kept img [] w i h = refl
  outside_kept img (q ∷ l) w i h = outside_kept (after g img q) l w.1 i h ∙ call-outside img q w.0 i h

  -- ---- ignored by the check

  -- disks that differ in such bytes alone have the same counts and the same bits
  alike-map : (d e : Disk) → AlikeInMap g d e → AlikeButSpare g d e
  unfolding map_bit
  alike-map d e a = record {
    counts = λ t l h.
        let z : g.map_at t + 0 ≡ g.map_at t = omega arith in
        rw z at (a.entries t 0 l h (omega arith));
    own = λ t s l h b.
        let z : g.map_at t + (1 + s / 8) ≡ g.map_at t + 1 + s / 8 = omega arith in
        ap (λ (x : ℕ). bit_of x (s % 8)) (rw z at (a.entries t (1 + s / 8) l h (omega (arith, v.small t))));
    other = a.other;
  }

  module _ (img new : Bytes) (size : length new ≡ length img) (alike : AlikeInMap g (disk img) (disk new)) where
    -- THE CHECK FINDS THE SAME on two images that differ in such bytes alone, number and place
    pub check-outside : check_image g img ≡ check_image g new
    check-outside = check-alike g img new size (alike-map (disk img) (disk new) alike)

    pub answer-outside : (perform g img check).answer ≡ (perform g new check).answer
    answer-outside = answer-alike g img new size (alike-map (disk img) (disk new) alike)

    -- and where one is accepted, so is the other
    pub accepted-outside : Accepted g img → Accepted g new
    accepted-outside a = accepted-alike g img new size (alike-map (disk img) (disk new) alike) v a

-- ---- the bytes of the other layout's entries

-- bytes behind the name that are not the five entries from `extra` on
outside40 : (extra i : ℕ) → 0x90 ≤ i → (i < extra) ⊎ (extra + 20 ≤ i) → OutsideMap (layout40 extra) i
outside40 extra i b c t l h = elim (dec_le t 35) [
  | yes k ↦ inr (omega (arith, map-low extra t k))
  | no k ↦ elim c [
    | inl c ↦ inl (omega (arith, map-high extra t (omega arith)))
    | inr c ↦ inr (omega (arith, map-high extra t (omega arith), tracks40 extra))
  ]
]

-- DOLPHIN'S ENTRIES ARE OTHER BYTES ON A SPEEDDOS DISK, $AC to $BF
pub dolphin-outside : (i : ℕ) → InDolphin i → OutsideMap speed_dos i
unfolding speed_dos
dolphin-outside i h = outside40 0xC0 i (omega arith) (inl (omega arith))

-- AND SPEEDDOS' ON A DOLPHIN DISK, $C0 to $D3
pub speed_dos-outside : (i : ℕ) → InSpeedDos i → OutsideMap dolphin i
unfolding dolphin
speed_dos-outside i h = outside40 0xAC i (omega arith) (inr (omega arith))

-- a format has them 0
pub format-speed_dos : (img name : Bytes) (id1 id2 : ℕ) (ch : Change) → call_format speed_dos img name id1 id2 ≡ done ch
    → (i : ℕ) → InDolphin i → byte (disk ch.image_after (sector_number speed_dos map_address)) i ≡ 0
format-speed_dos img name id1 id2 ch e i h =
    (format-bytes speed_dos known-speed_dos.valid img name id1 id2 ch e).map.rest i (omega arith) (inr (omega arith)) (dolphin-outside i h)

pub format-dolphin : (img name : Bytes) (id1 id2 : ℕ) (ch : Change) → call_format dolphin img name id1 id2 ≡ done ch
    → (i : ℕ) → InSpeedDos i → byte (disk ch.image_after (sector_number dolphin map_address)) i ≡ 0
format-dolphin img name id1 id2 ch e i h =
    (format-bytes dolphin known-dolphin.valid img name id1 id2 ch e).map.rest i (omega arith) (inr (omega arith)) (speed_dos-outside i h)

-- ---- the five entries after a format: 17 free sectors each

-- 11 FF FF 01
abbrev free17 : Bytes
free17 = 0x11 ∷ 0xFF ∷ 0xFF ∷ 0x01 ∷ []

replicate-at : {A : Type 0} (x : A) (n i : ℕ) → get_or (replicate n x) i x ≡ x
replicate-at x zero i = refl
replicate-at x (suc n) zero = refl
replicate-at x (suc n) (suc i) = replicate-at x n i

-- what is alike on five tracks from 36 on
five : (f : ℕ → Bytes) (x : Bytes) → map f (range 36 5) ≡ replicate 5 x → (t : ℕ) → 36 ≤ t → t ≤ 40 → f t ≡ x
five f x e t l h =
    let z : t ≡ 36 + (t - 36) = omega arith in
    ap f z ∙ sym (get_or-map-range f 36 5 (t - 36) x (omega arith)) ∙ ap (λ (m : List Bytes). get_or m (t - 36) x) e ∙ replicate-at x 5 (t - 36)

entries-speed_dos : map (expected_entry speed_dos (free_after_format speed_dos) (zeros 256)) (range 36 5) ≡ replicate 5 free17
unfolding expected_entry expected_bit bitmap_byte binary map_bit bit_of free_after_format layout40 speed_dos sectors_on sector_number first_on
entries-speed_dos = refl

entries-dolphin : map (expected_entry dolphin (free_after_format dolphin) (zeros 256)) (range 36 5) ≡ replicate 5 free17
unfolding expected_entry expected_bit bitmap_byte binary map_bit bit_of free_after_format layout40 dolphin sectors_on sector_number first_on
entries-dolphin = refl

high-speed_dos : (t : ℕ) → 36 ≤ t → speed_dos.map_at t ≡ 0xC0 + 4 * (t - 36)
unfolding speed_dos
high-speed_dos t l = map-high 0xC0 t l

high-dolphin : (t : ℕ) → 36 ≤ t → dolphin.map_at t ≡ 0xAC + 4 * (t - 36)
unfolding dolphin
high-dolphin t l = map-high 0xAC t l

speed_dos-tracks : tracks speed_dos ≡ 40
unfolding speed_dos
speed_dos-tracks = tracks40 0xC0

dolphin-tracks : tracks dolphin ≡ 40
unfolding dolphin
dolphin-tracks = tracks40 0xAC

-- FORMAT FILLS THEM, from $C0 on in SpeedDOS
pub format-fills-speed_dos : (img name : Bytes) (id1 id2 : ℕ) (ch : Change) → call_format speed_dos img name id1 id2 ≡ done ch → (t : ℕ) → 36 ≤ t → t ≤ 40
    → part (0xC0 + 4 * (t - 36)) (0xC0 + 4 * (t - 36) + 3) (disk ch.image_after (sector_number speed_dos map_address)) ≡ free17
format-fills-speed_dos img name id1 id2 ch e t l h =
    rw (high-speed_dos t l) at
    ((format-bytes speed_dos known-speed_dos.valid img name id1 id2 ch e).map.entry t (omega arith) (omega (arith, speed_dos-tracks))
    ∙ five (expected_entry speed_dos (free_after_format speed_dos) (zeros 256)) free17 entries-speed_dos t l h)

-- and from $AC on in Dolphin
pub format-fills-dolphin : (img name : Bytes) (id1 id2 : ℕ) (ch : Change) → call_format dolphin img name id1 id2 ≡ done ch → (t : ℕ) → 36 ≤ t → t ≤ 40
    → part (0xAC + 4 * (t - 36)) (0xAC + 4 * (t - 36) + 3) (disk ch.image_after (sector_number dolphin map_address)) ≡ free17
format-fills-dolphin img name id1 id2 ch e t l h =
    rw (high-dolphin t l) at
    ((format-bytes dolphin known-dolphin.valid img name id1 id2 ch e).map.entry t (omega arith) (omega (arith, dolphin-tracks))
    ∙ five (expected_entry dolphin (free_after_format dolphin) (zeros 256)) free17 entries-dolphin t l h)
