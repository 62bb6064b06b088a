-- Where chains end: the last sector of a chain that is walked, and the table of the files' ends.
-- In order: a chain's last sector; entries of the table. What a call may rely on: proofs/CheckedLaws.
use Prim.Native.Nat.{ℕ, ◌<◌}
use native.Mathlib.Omega.{arith}
use native.Mathlib.Decide.{ℕ_discrete}
use mathlib.Core.Path.{◌≡◌, refl, sym, ap, ◌∙◌}
use mathlib.Core.List.{List, [], ◌∷◌, Memᴰ}
use lib.ListN.{length, get_or, set, length-set}
use lib.Seq.{get_or-set_same, get_or-set_other}
use Rattle.d64spec.specs.Lists.{Bytes, byte}
use Rattle.d64spec.specs.Answers.{Address, done}
use Rattle.d64spec.specs.Geometry.{Geometry, sector_number}
use Rattle.d64spec.specs.Image.{disk}
use Rattle.d64spec.specs.Chain.{link_to, file_link, steps, Chain}
use Rattle.d64spec.specs.Directory.{File}
use Rattle.d64spec.specs.Store.{last_of}
use Rattle.d64spec.proofs.WalkLaws.{walk-sound}
use Rattle.d64spec.proofs.ReadTheorem.{link_to-ends}
use Rattle.owners.specs.OwnerTable.{owned}
use Rattle.diskcheck.specs.Chains.{chain_walk}
use Rattle.diskcheck.specs.EndTable.{end_of, with_ends}

-- ---- a chain's last sector

module _ (g : Geometry) (img : Bytes) where
  -- the second byte of the last sector that is met after `holder`
  abbrev pub last_byte : Address → List Address → ℕ
  last_byte holder l = byte (disk img (sector_number g (last_of holder l))) 1

  -- is where the chain ends, whatever sector held the first link
  pub last_byte_lem : (holder : Address) (t s : ℕ) (l : List Address) → Chain g (file_link g) (disk img) (link_to g t s) l
      → last_byte holder l ≡ end_of g img l
  unfolding end_of last_of
  last_byte_lem holder t s [] c = absurd (link_to-ends g t s c)
  last_byte_lem holder t s (r ∷ l) c = refl

  -- of the definition's walk
  pub walk-last : (own : List ℕ) (holder : Address) (slot t s : ℕ) (l : List Address) → chain_walk g img own holder slot t s ≡ done l
      → last_byte holder l ≡ end_of g img l
  unfolding chain_walk
  walk-last own holder slot t s l e = last_byte_lem holder t s l
      (walk-sound g (file_link g) (disk img) (steps g) (owned own) holder slot (link_to g t s) l e).chain

-- ---- entries of the table

module _ (g : Geometry) (img : Bytes) (n x : ℕ) where
  -- x is the end of each of these files that lies in slot n
  abbrev EndsAt : List File → Type 0
  EndsAt l = (f : File) → Memᴰ f l → f.slot.number ≡ n → end_of g img f.sectors ≡ x

  -- an end noted at slot n
  get_or-noted : (es : List ℕ) (k y : ℕ) → n < length es → k ≡ n → get_or (set es k y) n 0 ≡ y
  get_or-noted es k y b e = rw e (get_or-set_same es n y 0 b)

  -- the entry stays, where each file of that slot ends there
  pub get_or-with_ends-kept : (l : List File) (es : List ℕ) → n < length es → EndsAt l → get_or es n 0 ≡ x → get_or (with_ends g img l es) n 0 ≡ x
  get_or-with_ends-kept [] es b same h = h
  get_or-with_ends-kept (f ∷ l) es b same h =
      let k : ℕ = f.slot.number in
      let y : ℕ = end_of g img f.sectors in
      get_or-with_ends-kept l (set es k y) (omega (arith, length-set es k y)) (λ y m. same y (Memᴰ.tail m))
      (elim (ℕ_discrete k n) [
        | yes e ↦ get_or-noted es k y b e ∙ same f (Memᴰ.head refl) e
        | no e ↦ get_or-set_other es k n y 0 (λ z. e (sym z)) ∙ h
      ])

  -- a file's entry is its end
  pub get_or-with_ends-same : {f : File} (l : List File) (es : List ℕ) → n < length es → EndsAt l → Memᴰ f l → f.slot.number ≡ n
      → get_or (with_ends g img l es) n 0 ≡ x
  get_or-with_ends-same {f = f} [] es b same m here = elim m [ ]
  get_or-with_ends-same {f = f} (h ∷ l) es b same (Memᴰ.head e) here =
      let k : ℕ = h.slot.number in
      let y : ℕ = end_of g img h.sectors in
      let at : k ≡ n = ap (λ (z : File). z.slot.number) (sym e) ∙ here in
      get_or-with_ends-kept l (set es k y) (omega (arith, length-set es k y)) (λ z m. same z (Memᴰ.tail m))
      (get_or-noted es k y b at ∙ same h (Memᴰ.head refl) at)
  get_or-with_ends-same {f = f} (h ∷ l) es b same (Memᴰ.tail m) here =
      let k : ℕ = h.slot.number in
      let y : ℕ = end_of g img h.sectors in
      get_or-with_ends-same {f = f} l (set es k y) (omega (arith, length-set es k y)) (λ z q. same z (Memᴰ.tail q)) m here
