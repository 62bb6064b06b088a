-- The definition's check of slots looks at the members of the owned sectors only, and what it finds is on the disk.
use Prim.Native.Nat.{ℕ, ◌<◌}
use mathlib.Core.Path.{◌≡◌, refl, ap, subst}
use mathlib.Core.List.{List, [], ◌∷◌, ◌++◌, map}
use lib.ListN.{length}
use lib.Dec.{eqb}
use Rattle.d64spec.specs.Lists.{All, Bytes}
use Rattle.d64spec.specs.Answers.{Address, Result, refused, done, ◌>>=◌, ◌>>◌, need, wrong_count}
use Rattle.d64spec.specs.Geometry.{Geometry, sector_number, total}
use Rattle.d64spec.specs.Image.{Disk}
use Rattle.d64spec.specs.Chain.{file_link, steps, walk}
use Rattle.d64spec.specs.Directory.{Slot, File, entry_byte, name_of, count_of, first_link}
use Rattle.d64spec.specs.Check.{check_entry, check_slot, check_slots}
use Rattle.d64spec.proofs.BoundLaws.{file_link-on, link_to-on}
use Rattle.d64spec.proofs.ResultLaws.{need-done, then-done, bind_done, done_inj}
use Rattle.owners.proofs.TableLaws.{Alike, alike-append}
use Rattle.owners.proofs.WalkTable.{walk-alike, walk-lt}

-- the sectors of a file are on the disk
abbrev pub FileOn : Geometry → File → Type 0
FileOn g f = All (λ x. x < total g) (map (sector_number g) f.sectors)

module _ (g : Geometry) (d : Disk) where
  pub slot-alike : (a b : List ℕ) (names : List Bytes) (s : Slot) → Alike a b → check_slot g d a names s ≡ check_slot g d b names s
  unfolding check_slot
  slot-alike a b names s h =
      ap (λ (w : Result (List Address)). check_entry names s >> (w >>= (λ l. need (eqb (count_of s.bytes) (length l)) (wrong_count s.holder s.number) >> done l)))
      (walk-alike g (file_link g) d (steps g) a b s.holder s.number (first_link g d s) h)

  -- THE CHECK OF SLOTS LOOKS AT MEMBERS ONLY
  pub slots-alike : (a b : List ℕ) (names : List Bytes) (l : List Slot) → Alike a b → check_slots g d a names l ≡ check_slots g d b names l
  slots-alike a b names [] h = refl
  slots-alike a b names (s ∷ l) h =
      go (check_slot g d a names s) (check_slot g d b names s) (slot-alike a b names s h)
      (λ c. slots-alike (map (sector_number g) c ++ a) (map (sector_number g) c ++ b) (name_of s.bytes ∷ names) l (alike-append (map (sector_number g) c) a b h))
    where
      later : List ℕ → List Address → Result (List File)
      later own c = check_slots g d (map (sector_number g) c ++ own) (name_of s.bytes ∷ names) l

      rest : List ℕ → List Address → Result (List File)
      rest own c = later own c >>= (λ fs. done (record { slot = s; sectors = c } ∷ fs))

      go : (x y : Result (List Address)) → x ≡ y → ((c : List Address) → later a c ≡ later b c) → (x >>= (λ c. rest a c)) ≡ (y >>= (λ c. rest b c))
      go x (refused f) e ih = rw e
      go x (done c) e ih = rw e (ap (λ (z : Result (List File)). z >>= (λ fs. done (record { slot = s; sectors = c } ∷ fs))) (ih c))

  -- the sectors of a slot that is checked are on the disk
  pub slot_lt : (own : List ℕ) (names : List Bytes) (s : Slot) (l : List Address) → check_slot g d own names s ≡ done l → All (λ x. x < total g) (map (sector_number g) l)
  unfolding check_slot first_link
  slot_lt own names s l e =
      let h1 = then-done (check_entry names s) _ l e in
      let h2 = bind_done (walk g (file_link g) d (steps g) own s.holder s.number (first_link g d s)) _ l h1.2 in
      let h3 = need-done (eqb (count_of s.bytes) (length h2.0)) (wrong_count s.holder s.number) _ l h2.2 in
      let z : h2.0 ≡ l = done_inj h3.1 in
      rw z at (walk-lt g (file_link g) d (file_link-on g) (steps g) own s.holder s.number (first_link g d s) h2.0
      (link_to-on g (entry_byte s.bytes 0x03) (entry_byte s.bytes 0x04)) h2.1)

  -- and those of all slots
  pub slots-lt : (own : List ℕ) (names : List Bytes) (l : List Slot) (fs : List File) → check_slots g d own names l ≡ done fs → All (FileOn g) fs
  slots-lt own names [] fs e = subst (All (FileOn g)) (done_inj e) tt
  slots-lt own names (s ∷ l) fs e =
      let h1 = bind_done (check_slot g d own names s) _ fs e in
      let h2 = bind_done (check_slots g d (map (sector_number g) h1.0 ++ own) (name_of s.bytes ∷ names) l) _ fs h1.2 in
      subst (All (FileOn g)) (done_inj h2.2)
      (slot_lt own names s h1.0 h1.1, slots-lt (map (sector_number g) h1.0 ++ own) (name_of s.bytes ∷ names) l h2.0 h2.1)
