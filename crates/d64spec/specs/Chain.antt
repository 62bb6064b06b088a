-- Chains (01, Chains; The directory): what a link says, the sectors along the links, and the data in them.
-- The directory and the files are both chains, with a decoder each; all else is said once, over the decoder.
-- In order: links; the two decoders; a chain, with no order and no bound; the sectors met; the walk of the check; the data.
-- Laws: proofs/ChainLaws, WalkLaws, LengthLaws.
use Rattle.std.specs.Prelude.{ℕ, zero, suc, ◌≡◌, true, false, cond, ◌&&◌, List, [], ◌∷◌, ◌++◌, eqb, ltb}
use Rattle.d64spec.specs.Lists.{Bytes, byte, part, member}
use Rattle.d64spec.specs.Answers.{Address, address, bad_link, already_owned, Result, refused, done, ◌>>=◌}
use Rattle.d64spec.specs.Geometry.{Geometry, total, sector_number, on_disk}
use Rattle.d64spec.specs.Image.{Disk}

-- what a link says: the chain ends here, it goes on at a sector, or it is no link
pub data Link : Type 0 where
  ends : Link
  to : Address → Link
  bad : Link

-- a link to track t, sector s, which the disk must have
unfoldable pub link_to : Geometry → ℕ → ℕ → Link
link_to g t s = cond (on_disk g (address t s)) (to (address t s)) bad

-- the two link bytes of a file's sector: track 0 ends the chain where the second byte is 1 or more (01, Chains)
unfoldable pub decode_file_link : Geometry → ℕ → ℕ → Link
decode_file_link g zero zero = bad
decode_file_link g zero (suc n) = ends
decode_file_link g (suc t) s = link_to g (suc t) s

-- the two link bytes of a directory sector: track 0 ends it; any other link must name 18/1 up to track 18's last sector (01, The directory)
unfoldable pub decode_directory_link : Geometry → ℕ → ℕ → Link
decode_directory_link g zero s = ends
decode_directory_link g (suc t) s = cond (eqb (suc t) 18 && ltb 0 s) (link_to g 18 s) bad

-- the link in a file's sector
unfoldable pub file_link : Geometry → Bytes → Link
file_link g b = decode_file_link g (byte b 0) (byte b 1)

-- the link in a directory sector
unfoldable pub directory_link : Geometry → Bytes → Link
directory_link g b = decode_directory_link g (byte b 0) (byte b 1)

-- one step more than the disk has sectors: a walk that takes more meets a sector twice, so that this number decides nothing (law `walk-enough`)
abbrev pub steps : Geometry → ℕ
steps g = suc (total g)

module _ (g : Geometry) (link : Bytes → Link) (d : Disk) where
  -- l is the whole chain that the link k starts
  abbrev pub Chain : Link → List Address → Type 0
  Chain k [] = k ≡ ends
  Chain k (r ∷ l) = (k ≡ to r) × Chain (link (d (sector_number g r))) l

  -- the sectors met from k on, at most n of them
  abbrev pub follow : ℕ → Link → List Address
  follow zero k = []
  follow (suc n) ends = []
  follow (suc n) bad = []
  follow (suc n) (to r) = r ∷ follow n (link (d (sector_number g r)))

  -- The walk of the check, from the link k that the sector `holder` holds: on the disk? then already owned? (01, Order of the check, 3).
  -- `own` are the sectors owned so far, the walk's own among them; a refusal names the sector that holds the link, and the slot.
  abbrev pub walk : ℕ → List ℕ → Address → ℕ → Link → Result (List Address)
  walk zero own holder slot k = refused (already_owned holder slot)
  walk (suc n) own holder slot ends = done []
  walk (suc n) own holder slot bad = refused (bad_link holder slot)
  walk (suc n) own holder slot (to r) =
      elim (member (sector_number g r) own) [
        | true ↦ refused (already_owned holder slot)
        | false ↦ walk n (sector_number g r ∷ own) r slot (link (d (sector_number g r))) >>= (λ l. done (r ∷ l))
      ]

module _ (g : Geometry) (d : Disk) where
  -- the data along a chain: bytes 2 to 255 of each sector but the last, whose data are bytes 2 to n (01, Chains)
  abbrev pub chain_data : List Address → Bytes
  chain_data [] = []
  chain_data (r ∷ []) = part 2 (byte (d (sector_number g r)) 1) (d (sector_number g r))
  chain_data (r ∷ q ∷ l) = part 2 255 (d (sector_number g r)) ++ chain_data (q ∷ l)
