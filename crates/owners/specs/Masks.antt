-- The owned sectors of each track as one number, bit s for sector s, kept beside the owner table (02, §4): step 4 of the check then compares a
-- track's marks at once. In order: a track's owned sectors by the table; the masks of all tracks; a sector by the masks alone. Laws: proofs/MaskLaws.
use Rattle.std.specs.Prelude.{ℕ, ◌+◌, ◌-◌, ◌≤◌, ◌≡◌, Bool, not, List, length, get_or, eqb}
use Rattle.d64spec.specs.Lists.{indicator}
use Rattle.d64spec.specs.Bits.{bit_of, binary}
use Rattle.d64spec.specs.Answers.{Address}
use Rattle.d64spec.specs.Geometry.{Geometry, first_on, sectors_on}

-- 1 where somebody owns the sector s past number `first`, else 0
unfoldable pub owned_bit : List ℕ → ℕ → ℕ → ℕ
owned_bit own first s = indicator (not (eqb (get_or own (first + s) 0) 0))

-- the n sectors from number `first` on that somebody owns, as a number: bit s for sector s
unfoldable pub owned_mask : List ℕ → ℕ → ℕ → ℕ
owned_mask own first n = binary (owned_bit own first) n

-- MASK AND TABLE: a number for each of 40 tracks, from track 1 on, whose bits are those of its sectors that have an owner in the table; a track that the
-- layout does not have has no sector, and 0
pub record Masks (g : Geometry) (own used : List ℕ) : Type 0 where
  pub size : length used ≡ 40
  pub mask : (t : ℕ) → 1 ≤ t → t ≤ 40 → get_or used (t - 1) 0 ≡ owned_mask own (first_on g t) (sectors_on g t)

-- nobody owns the sector: its bit in its track's number is 0
unfoldable pub unmarked : List ℕ → Address → Bool
unmarked used r = eqb (bit_of (get_or used (r.track - 1) 0) r.sector) 0
