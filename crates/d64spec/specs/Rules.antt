-- Facts that document 01 states of names, kinds and entries, said apart from the tests and the text of the calls.
-- That the tests agree with them: proofs/RuleLaws.
use Rattle.std.specs.Prelude.{ℕ, ◌+◌, ◌-◌, ◌≤◌, ◌≡◌, ◌⊎◌, List, [], ◌∷◌, ◌++◌, length, replicate}
use Rattle.d64spec.specs.Lists.{Bytes, byte, part, zeros, count}
use Rattle.d64spec.specs.Answers.{Address}
use Rattle.d64spec.specs.Geometry.{Geometry, sector_number, map_address}
use Rattle.d64spec.specs.Image.{Disk}
use Rattle.d64spec.specs.Directory.{entry_byte, from_byte0, count_of}

-- a name: 1 to 16 bytes that are not $A0 (01, The directory; Answer numbers, 9)
pub record IsName (n : Bytes) : Type 0 where
  pub some : 1 ≤ length n
  pub short : length n ≤ 16
  pub no_padding : count 0xA0 n ≡ 0

-- a name field: a name, then only $A0 up to 16 bytes (01, The directory)
pub record HoldsName (field n : Bytes) : Type 0 where
  pub name : IsName n
  pub padding : field ≡ n ++ replicate (16 - length n) 0xA0

-- a kind that a store takes: 1 SEQ or 2 PRG (01, Answer numbers, 10, as 02, §12, has it)
abbrev pub IsStorableKind : ℕ → Type 0
IsStorableKind k = (k ≡ 1) ⊎ (k ≡ 2)

-- a layout's number: 0, 1 or 2 (02, §8)
abbrev pub IsLayout : ℕ → Type 0
IsLayout n = (n ≡ 0) ⊎ ((n ≡ 1) ⊎ (n ≡ 2))

-- the type bytes that are carried on a disk: SEQ, PRG and USR, closed, locked or not (01, The directory)
abbrev pub type_bytes : List ℕ
type_bytes = 0x81 ∷ 0x82 ∷ 0x83 ∷ 0xC1 ∷ 0xC2 ∷ 0xC3 ∷ []

-- the DOS version allows writing: $41 or $00 (01, The map)
abbrev pub MayWrite : Geometry → Disk → Type 0
MayWrite g d = (byte (d (sector_number g map_address)) 2 ≡ 0x41) ⊎ (byte (d (sector_number g map_address)) 2 ≡ 0x00)

-- bytes 02-1F of a new entry: $80 + kind, first sector, name, nine zeros, count (01, Store)
pub record NewEntryBytes (b asked : Bytes) (kind : ℕ) (r : Address) (k : ℕ) : Type 0 where
  pub size : length b ≡ 30
  pub type : entry_byte b 0x02 ≡ 0x80 + kind
  pub track : entry_byte b 0x03 ≡ r.track
  pub sector : entry_byte b 0x04 ≡ r.sector
  pub name : part 0x05 0x14 (from_byte0 b) ≡ asked ++ replicate (16 - length asked) 0xA0
  pub nine : part 0x15 0x1D (from_byte0 b) ≡ zeros 9
  pub count : count_of b ≡ k
