-- USR files, kind 3, are retired: no store makes one; those on a disk are accepted, listed, told, read and scratched as before (02, §12).
-- In order: files through a list of calls (the statement: proofs/RetiredTheorem); a disk with USR files, and calls on it (computed: proofs/EdgeTables).
-- Not here: the kinds that a store takes (specs/Rules, `IsStorableKind`), and the type bytes that the check accepts (`type_bytes`).
use Rattle.std.specs.Prelude.{ℕ, ◌≡◌, ◌↔◌}
use mathlib.Core.List.{List, [], ◌∷◌, ◌++◌, Mem}
use Rattle.d64spec.specs.Lists.{Bytes, range}
use Rattle.d64spec.specs.Geometry.{Geometry}
use Rattle.d64spec.specs.Image.{disk}
use Rattle.d64spec.specs.Directory.{PlainEntry, plain_list}
use Rattle.d64spec.specs.Call.{Call, check, format, read, store, scratch}
use Rattle.d64spec.specs.Run.{Request, serve, after, run}
use Rattle.d64spec.specs.Trial.{image_with_ab, lent, name_a, name_b, name_c, patch18, requests, sent, text_a0}

-- ---- files through a list of calls

-- a call that, answered 0, removes the file of this name: a format, or a scratch of it
abbrev pub Removes : Call → Bytes → Type 0
Removes check n = ⊥
Removes (format name i j) n = Unit {0}
Removes (read name out) n = ⊥
Removes (store name kind bytes) n = ⊥
Removes (scratch name) n = name ≡ n

-- no call of the list does
abbrev pub Spared : Geometry → Bytes → List Request → Bytes → Type 0
Spared g img [] n = Unit {0}
Spared g img (q ∷ l) n = ((serve g img q).number ≡ 0 → Removes q.call n → ⊥) × Spared g (after g img q) l n

-- the disk has a file of this name, kind and bytes
abbrev pub Holds : Geometry → Bytes → PlainEntry → Type 0
Holds g img e = Mem e (plain_list g (disk img))

-- files that were there at the start of a list of calls
pub record StartKept (g : Geometry) (img : Bytes) (l : List Request) : Type 0 where
  -- of whatever kind, they are there until they are removed
  pub kept : (e : PlainEntry) → Holds g img e → Spared g img l e.name → Holds g (run g img l) e
  -- and the USR files that are there afterwards are exactly those
  pub usr : (e : PlainEntry) → e.kind ≡ 3 → Holds g (run g img l) e ↔ (Holds g img e × Spared g img l e.name)

-- ---- a disk with USR files

-- the small disk of specs/Trial; A, locked, 300 bytes in 19/0 and 19/1, and B, ten bytes in 19/2, are USR files
unfoldable pub usr_disk : Bytes
usr_disk = patch18 1 0x02 (0xC3 ∷ []) (patch18 1 0x22 (0x83 ∷ []) image_with_ab)

-- their lines of the listing: C3130041, fifteen times A0, 0200, LF; 83130242, fifteen times A0, 0100, LF
abbrev pub usr_lines : Bytes
usr_lines =
    0x43 ∷ 0x33 ∷ 0x31 ∷ 0x33 ∷ 0x30 ∷ 0x30 ∷ 0x34 ∷ 0x31 ∷ (text_a0 15 ++ (0x30 ∷ 0x32 ∷ 0x30 ∷ 0x30 ∷ 0x0A
    ∷ 0x38 ∷ 0x33 ∷ 0x31 ∷ 0x33 ∷ 0x30 ∷ 0x32 ∷ 0x34 ∷ 0x32 ∷ (text_a0 15 ++ (0x30 ∷ 0x31 ∷ 0x30 ∷ 0x30 ∷ 0x0A ∷ []))))

-- their entries of the plain list
abbrev pub usr_a : PlainEntry
usr_a = record { name = name_a; kind = 3; content = sent }

abbrev pub usr_b : PlainEntry
usr_b = record { name = name_b; kind = 3; content = range 1 10 }

-- and that of a PRG file of one byte
abbrev pub prg_c : PlainEntry
prg_c = record { name = name_c; kind = 2; content = 7 ∷ [] }

-- the numbers that they are answered with
abbrev pub numbers : Geometry → Bytes → List Request → List ℕ
numbers g img [] = []
numbers g img (q ∷ l) = (serve g img q).number ∷ numbers g (after g img q) l

-- calls that spare both files: as USR files C and B are refused with 10, and B as a PRG file with 12; C is stored as a PRG file; A is read
abbrev pub sparing : List Request
sparing = requests (store name_c 3 [] ∷ store name_b 3 [] ∷ store name_b 2 [] ∷ store name_c 2 (7 ∷ []) ∷ read name_a (lent 300) ∷ check ∷ [])

-- then A is scratched, and refused as a USR file: it is gone, and B stays
abbrev pub retiring : List Request
retiring = requests (scratch name_a ∷ store name_a 3 sent ∷ [])
