-- No chain of an accepted disk is longer than all sectors but 18/0 and 18/1.
use Prim.Native.Nat.{ℕ, zero, suc, ◌+◌, ◌-◌, ◌≤◌, ◌<◌}
use native.Mathlib.Omega.{arith}
use mathlib.Core.Path.{◌≡◌, refl, ap, ◌∙◌}
use mathlib.Core.Bool.{Bool, true, false, cond, ◌&&◌}
use mathlib.Core.List.{List, [], ◌∷◌, ◌++◌, map}
use lib.ListN.{length, take, get_or, length-append, length-map}
use lib.Dec.{eqb, ltb}
use borrow.Author.Tests.{ltb-true, lt-ltb}
use Rattle.d64spec.specs.Lists.{All, Bytes, byte, sum}
use Rattle.d64spec.specs.Answers.{Address, address}
use Rattle.d64spec.specs.Geometry.{Geometry, Valid, directory_start, first_on, map_address, on_disk, sector_number, sectors_on, total}
use Rattle.d64spec.specs.Image.{Disk}
use Rattle.d64spec.specs.Chain.{Chain, Link, bad, decode_directory_link, decode_file_link, directory_link, ends, file_link, follow, link_to, steps, to}
use Rattle.d64spec.specs.Directory.{File, Slot, directory_sectors, entry_byte, file_of, files, first_link, occupied}
use Rattle.d64spec.specs.Owner.{claim_count, claim_list, claims_of, file_claims}
use Rattle.d64spec.specs.Accepted.{AcceptedDisk}
use Rattle.d64spec.proofs.PigeonholeLaws.{pigeon}

sum-take : (l : List ℕ) (t s : ℕ) → s < get_or l t 0 → sum (take t l) + s < sum l
sum-take [] t s h = absurd (omega arith)
sum-take (x ∷ l) zero s h = omega arith
sum-take (x ∷ l) (suc t) s h = omega (arith, sum-take l t s h)

-- a sector of the disk has a number below the total
pub sector_number-lt : (g : Geometry) (r : Address) → on_disk g r ≡ true → sector_number g r < total g
unfolding on_disk sector_number total sectors_on first_on
sector_number-lt g r h = omega (arith, sum-take (0 ∷ g.counts) r.track r.sector (ltb-true _ _ h))

-- where 18/1 is on the disk, so is 18/0
pub map_on : (g : Geometry) → on_disk g directory_start ≡ true → on_disk g map_address ≡ true
unfolding on_disk
map_on g h = lt-ltb 0 (sectors_on g 18) (let k : 1 < sectors_on g 18 = ltb-true _ _ h in omega arith)

-- a step that leads nowhere off the disk
abbrev pub OnDisk : Geometry → Link → Type 0
OnDisk g ends = Unit {0}
OnDisk g bad = Unit {0}
OnDisk g (to r) = on_disk g r ≡ true

pub link_to-on : (g : Geometry) (t s : ℕ) → OnDisk g (link_to g t s)
unfolding link_to
link_to-on g t s = go (on_disk g (address t s)) refl
  where
    go : (b : Bool) → on_disk g (address t s) ≡ b → OnDisk g (cond b (to (address t s)) bad)
    go true e = e
    go false e = tt

cond-on : (g : Geometry) (b : Bool) (x y : Link) → OnDisk g x → OnDisk g y → OnDisk g (cond b x y)
cond-on g true x y h k = h
cond-on g false x y h k = k

decode_file_link-on : (g : Geometry) (t s : ℕ) → OnDisk g (decode_file_link g t s)
unfolding decode_file_link
decode_file_link-on g zero zero = tt
decode_file_link-on g zero (suc n) = tt
decode_file_link-on g (suc t) s = link_to-on g (suc t) s

decode_directory_link-on : (g : Geometry) (t s : ℕ) → OnDisk g (decode_directory_link g t s)
unfolding decode_directory_link
decode_directory_link-on g zero s = tt
decode_directory_link-on g (suc t) s = cond-on g (eqb (suc t) 18 && ltb 0 s) (link_to g 18 s) bad (link_to-on g 18 s) tt

pub file_link-on : (g : Geometry) (b : Bytes) → OnDisk g (file_link g b)
unfolding file_link
file_link-on g b = decode_file_link-on g (byte b 0) (byte b 1)

pub directory_link-on : (g : Geometry) (b : Bytes) → OnDisk g (directory_link g b)
unfolding directory_link
directory_link-on g b = decode_directory_link-on g (byte b 0) (byte b 1)

module _ (g : Geometry) (step : Bytes → Link) (on : (b : Bytes) → OnDisk g (step b)) (d : Disk) where
  pub follow-on : (n : ℕ) (k : Link) → OnDisk g k → All (λ x. x < total g) (map (sector_number g) (follow g step d n k))
  follow-on zero k h = tt
  follow-on (suc n) ends h = tt
  follow-on (suc n) bad h = tt
  follow-on (suc n) (to r) h = (sector_number-lt g r h, follow-on n (step (d (sector_number g r))) (on (d (sector_number g r))))

module _ {A : Type 0} (P : A → Type 0) where
  pub all_append : (l m : List A) → All P l → All P m → All P (l ++ m)
  all_append [] m a b = b
  all_append (x ∷ l) m a b = (a.0, all_append l m a.1 b)

module _ (g : Geometry) (d : Disk) where
  file_claims-on : (l : List Slot) → All (λ x. x < total g) (file_claims g (map (file_of g d) l))
  unfolding file_of first_link
  file_claims-on [] = tt
  file_claims-on (s ∷ l) =
      all_append (λ x. x < total g) (map (sector_number g) (file_of g d s).sectors) (file_claims g (map (file_of g d) l))
      (follow-on g (file_link g) (file_link-on g) d (steps g) (first_link g d s) (link_to-on g (entry_byte s.bytes 0x03) (entry_byte s.bytes 0x04))) (file_claims-on l)

  pub claims-on : Valid g → All (λ x. x < total g) (claim_list g d)
  unfolding claim_list claims_of directory_sectors files
  claims-on v = (
    sector_number-lt g map_address (map_on g v.directory),
    all_append (λ x. x < total g) (map (sector_number g) (directory_sectors g d)) (file_claims g (files g d)) (follow-on g (directory_link g) (directory_link-on g) d (steps g) (to directory_start) v.directory) (file_claims-on (occupied g d)),
  )

  pub claims-few : Valid g → AcceptedDisk g d → length (claim_list g d) ≤ total g
  unfolding claim_count
  claims-few v a = pigeon (total g) (claim_list g d) (claims-on v) a.once

  -- each file claims no more than all files
  each-file : (fs : List File) (n : ℕ) → length (file_claims g fs) ≤ n → All (λ f. length f.sectors ≤ n) fs
  each-file [] n h = tt
  each-file (f ∷ l) n h =
      let e : length (map (sector_number g) f.sectors ++ file_claims g l) ≡ length f.sectors + length (file_claims g l)
      = length-append (map (sector_number g) f.sectors) (file_claims g l) ∙ ap (λ (x : ℕ). x + length (file_claims g l)) (length-map f.sectors (sector_number g)) in
      (omega arith, each-file l n (omega arith))

  pub directory-some : (l : List Address) → Chain g (directory_link g) d (to directory_start) l → 1 ≤ length l
  directory-some [] c = absurd (let z : ◌≡◌ {A = ℕ} 0 1 = cc in omega arith)
  directory-some (r ∷ l) c = omega arith

  pub file-bound : Valid g → AcceptedDisk g d → All (λ f. length f.sectors ≤ total g - 2) (files g d)
  unfolding claim_list claims_of
  file-bound v a =
      each-file (files g d) (total g - 2)
      (omega (
        arith,
        claims-few v a,
        directory-some (directory_sectors g d) a.directory,
        length-append (map (sector_number g) (directory_sectors g d)) (file_claims g (files g d)),
        length-map (directory_sectors g d) (sector_number g),
      ))
