-- Each sector of an accepted disk has exactly one owner, and the map marks exactly nobody's sectors free (demand 2).
use Prim.Native.Nat.{ℕ, ◌+◌, ◌≤◌, ◌<◌}
use native.Mathlib.Omega.{arith}
use native.Mathlib.Decide.{dec_le}
use mathlib.Core.Path.{◌≡◌, refl, sym, ap, ◌∙◌}
use mathlib.Core.Bool.{Bool, true, false}
use mathlib.Core.Logic.{◌↔◌}
use mathlib.Core.List.{List, [], ◌∷◌, map, Memᴰ}
use lib.Dec.{eqb}
use borrow.Author.Tests.{eq-eqb, eqb-true}
use Rattle.d64spec.specs.Lists.{count, indicator}
use Rattle.d64spec.specs.Answers.{address}
use Rattle.d64spec.specs.Geometry.{Geometry, map_address, sector_number, sectors_on, tracks}
use Rattle.d64spec.specs.Image.{Disk}
use Rattle.d64spec.specs.Directory.{File, directory_sectors, files}
use Rattle.d64spec.specs.Owner.{Among, Owner, Owns, claim_count, file_claims, nobody, the_directory, the_file, the_map}
use Rattle.d64spec.specs.Map.{map_bit}
use Rattle.d64spec.specs.Accepted.{AcceptedDisk}
use Rattle.d64spec.specs.Facts.{OneOwner}
use Rattle.d64spec.proofs.ListLaws.{count-append}
use Rattle.d64spec.proofs.ScratchLaws.{claim_count-of}

module _ (g : Geometry) (n : ℕ) where
  pub count-file : (f : File) (fs : List File) → count n (file_claims g (f ∷ fs)) ≡ count n (map (sector_number g) f.sectors) + count n (file_claims g fs)
  count-file f fs = count-append n (map (sector_number g) f.sectors) (file_claims g fs)

  -- a claimed sector is that of a file
  pub claimant : (fs : List File) → 0 < count n (file_claims g fs) → (f : File) × Memᴰ f fs × Among g n f.sectors
  claimant [] h = absurd (omega arith)
  claimant (f ∷ fs) h = elim (dec_le 1 (count n (map (sector_number g) f.sectors))) [
    | yes k ↦ (f, Memᴰ.head refl, k)
    | no k ↦ let r = claimant fs (omega (arith, count-file f fs)) in (r.0, Memᴰ.tail r.1, r.2)
  ]

  among_same : (f f' : File) → f ≡ f' → Among g n f.sectors → Among g n f'.sectors
  among_same f f' e h = rw e at h

  pub claims-some : {f : File} (fs : List File) → Memᴰ f fs → Among g n f.sectors → 0 < count n (file_claims g fs)
  claims-some {f = f} [] m h = elim m [ ]
  claims-some {f = f} (y ∷ fs) (Memᴰ.head e) h = omega (arith, count-file y fs, among_same f y e h)
  claims-some {f = f} (y ∷ fs) (Memᴰ.tail m) h = omega (arith, count-file y fs, claims-some {f = f} fs m h)

  -- a sector that is claimed once is that of one file
  claimant-one : {f f' : File} (fs : List File) → count n (file_claims g fs) ≤ 1 → Memᴰ f fs → Among g n f.sectors → Memᴰ f' fs → Among g n f'.sectors → f ≡ f'
  claimant-one {f = f} {f' = f'} [] u m h m' h' = elim m [ ]
  claimant-one {f = f} {f' = f'} (y ∷ fs) u (Memᴰ.head e) h (Memᴰ.head e') h' = e ∙ sym e'
  claimant-one {f = f} {f' = f'} (y ∷ fs) u (Memᴰ.head e) h (Memᴰ.tail m') h' = absurd (omega (arith, count-file y fs, among_same f y e h, claims-some fs m' h'))
  claimant-one {f = f} {f' = f'} (y ∷ fs) u (Memᴰ.tail m) h (Memᴰ.head e') h' = absurd (omega (arith, count-file y fs, among_same f' y e' h', claims-some fs m h))
  claimant-one {f = f} {f' = f'} (y ∷ fs) u (Memᴰ.tail m) h (Memᴰ.tail m') h' = claimant-one {f = f} {f' = f'} fs (omega (arith, count-file y fs)) m h m' h'

module _ (g : Geometry) (d : Disk) (n : ℕ) where
  pub map-claims : Owns g d the_map n → indicator (eqb n (sector_number g map_address)) ≡ 1
  map-claims h = rw (eq-eqb n (sector_number g map_address) h)

  pub some-owner : (o : Owner) × Owns g d o n
  some-owner = go (eqb n (sector_number g map_address)) refl
    where
      go : (b : Bool) → eqb n (sector_number g map_address) ≡ b → (o : Owner) × Owns g d o n
      go true t = (the_map, eqb-true n (sector_number g map_address) t)
      go false t = elim (dec_le 1 (count n (map (sector_number g) (directory_sectors g d)))) [
        | yes k ↦ (the_directory, k)
        | no k ↦ elim (dec_le 1 (count n (file_claims g (files g d)))) [
          | yes l ↦ let r = claimant g n (files g d) l in (the_file r.0, (r.1, r.2))
          | no l ↦ (nobody, let z : indicator (eqb n (sector_number g map_address)) ≡ 0 = ap indicator t in omega (arith, claim_count-of g d n))
        ]
      ]

  one-owner-at : claim_count g d n ≤ 1 → (o o' : Owner) → Owns g d o n → Owns g d o' n → o ≡ o'
  one-owner-at u the_map the_map h h' = refl
  one-owner-at u the_map the_directory h h' = absurd (omega (arith, claim_count-of g d n, map-claims h))
  one-owner-at u the_map nobody h h' = absurd (omega (arith, claim_count-of g d n, map-claims h))
  one-owner-at u the_map (the_file f) h h' = absurd (omega (arith, claim_count-of g d n, map-claims h, claims-some g n (files g d) h'.0 h'.1))
  one-owner-at u the_directory the_map h h' = absurd (omega (arith, claim_count-of g d n, map-claims h'))
  one-owner-at u the_directory the_directory h h' = refl
  one-owner-at u the_directory nobody h h' = absurd (omega (arith, claim_count-of g d n))
  one-owner-at u the_directory (the_file f) h h' = absurd (omega (arith, claim_count-of g d n, claims-some g n (files g d) h'.0 h'.1))
  one-owner-at u nobody the_map h h' = absurd (omega (arith, claim_count-of g d n, map-claims h'))
  one-owner-at u nobody the_directory h h' = absurd (omega (arith, claim_count-of g d n))
  one-owner-at u nobody nobody h h' = refl
  one-owner-at u nobody (the_file f) h h' = absurd (omega (arith, claim_count-of g d n, claims-some g n (files g d) h'.0 h'.1))
  one-owner-at u (the_file f) the_map h h' = absurd (omega (arith, claim_count-of g d n, map-claims h', claims-some g n (files g d) h.0 h.1))
  one-owner-at u (the_file f) the_directory h h' = absurd (omega (arith, claim_count-of g d n, claims-some g n (files g d) h.0 h.1))
  one-owner-at u (the_file f) nobody h h' = absurd (omega (arith, claim_count-of g d n, claims-some g n (files g d) h.0 h.1))
  one-owner-at u (the_file f) (the_file f') h h' = ap the_file (claimant-one g n (files g d) (omega (arith, claim_count-of g d n)) h.0 h.1 h'.0 h'.1)

-- EXACTLY ONE OWNER: each sector of an accepted disk
pub one-owner : (g : Geometry) (d : Disk) → AcceptedDisk g d → (n : ℕ) → OneOwner g d n
one-owner g d a n =
    let o = some-owner g d n in
    record { owner = o.0; owns = o.1; only = λ o' h. one-owner-at g d n (a.once n) o' o.0 h o.1 }

-- THE MAP MARKS EXACTLY NOBODY'S SECTORS FREE: a bit is 1 exactly where nobody owns the sector
pub marked-nobody : (g : Geometry) (d : Disk) → AcceptedDisk g d → (t s : ℕ) → 1 ≤ t → t ≤ tracks g → s < sectors_on g t
    → (map_bit g (d (sector_number g map_address)) t s ≡ 1) ↔ Owns g d nobody (sector_number g (address t s))
marked-nobody g d a t s l h b = (a.marks t l h).free s b
