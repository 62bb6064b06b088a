-- Bits past a track's last sector (02, §5): the check looks at none of them, and no count counts them; a format writes 0, and every other call leaves
-- them as they are. That "no other byte changes" is said bit by bit: specs/Changes, `OtherBits`.
-- In order: such a bit; disks that differ in them; a list of calls (the statements: proofs/SpareTheorem); entries of each zone, and calls on a small
-- disk (computed: proofs/EdgeTables).
use Rattle.std.specs.Prelude.{ℕ, zero, suc, ◌+◌, ◌*◌, ◌-◌, ◌≤◌, ◌<◌, ◌≡◌, Bool, true, not, List, [], ◌∷◌, ◌++◌, eqb}
use Rattle.d64spec.specs.Lists.{Bytes, byte, equal, filter, join, part, zeros}
use Rattle.d64spec.specs.Geometry.{Geometry, layout35, map_address, sector_number, sectors_on, tracks}
use Rattle.d64spec.specs.Image.{Disk, disk}
use Rattle.d64spec.specs.Map.{entry_correct, expected_entry, map_bit}
use Rattle.d64spec.specs.Call.{Call, check, format, read, store, scratch}
use Rattle.d64spec.specs.Run.{Request, after, run, serve}
use Rattle.d64spec.specs.Trial.{image_with_a, image_with_eight, patch18, requests, small_layout}

-- ---- such a bit

-- bit s of track t's map entry is past the track's last sector
pub record Spare (g : Geometry) (t s : ℕ) : Type 0 where
  pub first : 1 ≤ t
  pub last : t ≤ tracks g
  pub past : sectors_on g t ≤ s
  pub within : s < 24

-- a bit of an image's map
abbrev pub bit_on : Geometry → Bytes → ℕ → ℕ → ℕ
bit_on g img t s = map_bit g (disk img (sector_number g map_address)) t s

-- two disks that are alike in every sector but 18/0, and there in each track's count and in the bits of its own sectors
pub record AlikeButSpare (g : Geometry) (d e : Disk) : Type 0 where
  pub counts : (t : ℕ) → 1 ≤ t → t ≤ tracks g → byte (d (sector_number g map_address)) (g.map_at t) ≡ byte (e (sector_number g map_address)) (g.map_at t)
  pub own : (t s : ℕ) → 1 ≤ t → t ≤ tracks g → s < sectors_on g t → map_bit g (d (sector_number g map_address)) t s ≡ map_bit g (e (sector_number g map_address)) t s
  pub other : (n : ℕ) → (n ≡ sector_number g map_address → ⊥) → d n ≡ e n

-- ---- a list of calls

-- such a bit after a call answered n: a format answered 0 writes 0; any other call, and any refused one, leaves it as it is
abbrev pub spare_after : ℕ → Call → ℕ → ℕ
spare_after b check n = b
spare_after b (read name out) n = b
spare_after b (format name i j) zero = 0
spare_after b (format name i j) (suc n) = b
spare_after b (store name kind bytes) n = b
spare_after b (scratch name) n = b

-- and after all of them
abbrev pub spare_run : Geometry → Bytes → ℕ → List Request → ℕ
spare_run g img b [] = b
spare_run g img b (q ∷ l) = spare_run g (after g img q) (spare_after b q.call (serve g img q).number) l

-- so it is with each such bit of an image
abbrev pub SpareKept : Geometry → Bytes → List Request → Type 0
SpareKept g img l = (t s : ℕ) → Spare g t s → bit_on g (run g img l) t s ≡ spare_run g img (bit_on g img t s) l

-- ---- entries of each zone

-- a map sector with these four bytes for track t, of 35
abbrev pub entry_alone : ℕ → Bytes → Bytes
entry_alone t e = zeros (4 * t) ++ e

-- an entry of track t, right or wrong where all of the track's sectors are free; or what is written there where all but sector 0 are
pub data EntryRow : Type 0 where
  right wrong : ℕ → Bytes → EntryRow
  written : ℕ → Bytes → Bytes → EntryRow

unfoldable pub entry_holds : EntryRow → Bool
entry_holds (right t e) = entry_correct layout35 (λ r. true) (entry_alone t e) t
entry_holds (wrong t e) = not (entry_correct layout35 (λ r. true) (entry_alone t e) t)
entry_holds (written t e new) = equal (expected_entry layout35 (λ r. not (eqb r.sector 0)) (entry_alone t e) t) new

-- the rows that fail
abbrev pub broken_entries : List EntryRow → List EntryRow
broken_entries l = filter (λ e. not (entry_holds e)) l

-- track t of n sectors, whose own bits of the last byte are `own`: with these alone, with all bits set, with one spare bit (`one`); counted in or not;
-- with sector 0, or the last one (`cut`), not marked
abbrev pub zone : ℕ → ℕ → ℕ → ℕ → ℕ → List EntryRow
zone t n own one cut =
    right t (n ∷ 0xFF ∷ 0xFF ∷ own ∷ [])
    ∷ right t (n ∷ 0xFF ∷ 0xFF ∷ 0xFF ∷ [])
    ∷ right t (n ∷ 0xFF ∷ 0xFF ∷ one ∷ [])
    ∷ wrong t (24 ∷ 0xFF ∷ 0xFF ∷ 0xFF ∷ [])
    ∷ wrong t ((n + 1) ∷ 0xFF ∷ 0xFF ∷ one ∷ [])
    ∷ wrong t (n ∷ 0xFE ∷ 0xFF ∷ one ∷ [])
    ∷ wrong t (n ∷ 0xFF ∷ 0xFF ∷ cut ∷ [])
    ∷ written t (n ∷ 0xFF ∷ 0xFF ∷ own ∷ []) ((n - 1) ∷ 0xFE ∷ 0xFF ∷ own ∷ [])
    ∷ written t (n ∷ 0xFF ∷ 0xFF ∷ 0xFF ∷ []) ((n - 1) ∷ 0xFE ∷ 0xFF ∷ 0xFF ∷ [])
    ∷ written t (24 ∷ 0x00 ∷ 0x00 ∷ one ∷ []) ((n - 1) ∷ 0xFE ∷ 0xFF ∷ one ∷ [])
    ∷ []

-- the first and the last track of each zone; 15 FF FF FF of track 1 is document 000's
unfoldable pub zone_rows : List EntryRow
zone_rows = join (
    zone 1 21 0x1F 0x3F 0xEF ∷ zone 17 21 0x1F 0x9F 0xEF ∷ zone 18 19 0x07 0x0F 0xFB ∷ zone 24 19 0x07 0x87 0xFB
    ∷ zone 25 18 0x03 0x07 0xFD ∷ zone 30 18 0x03 0x43 0xFD ∷ zone 31 17 0x01 0x03 0xFE ∷ zone 35 17 0x01 0x81 0xFE ∷ [])

-- ---- calls on the small disk of specs/Trial

-- with A. Of track 18's three sectors 18/2 is free: AC 5A C3 is that bit, 04, with the spare bits A8 5A C3. Track 19 has ten, and the spare bits 00 54 99
unfoldable pub spare_disk : Bytes
spare_disk = patch18 0 0x48 (1 ∷ 0xAC ∷ 0x5A ∷ 0xC3 ∷ 8 ∷ 0xFC ∷ 0x57 ∷ 0x99 ∷ []) image_with_a

-- eight files: the next one's entry takes 18/2, and its two sectors 19/8 and 19/9
unfoldable pub spare_eight : Bytes
spare_eight = patch18 0 0x48 (1 ∷ 0xAC ∷ 0x5A ∷ 0xC3 ∷ 2 ∷ 0x00 ∷ 0x57 ∷ 0x99 ∷ []) image_with_eight

-- the last of them in 18/2 and not in 19/7, so that no sector of track 18 is free
unfoldable pub spare_full : Bytes
spare_full =
    patch18 2 0x00 (0 ∷ 1 ∷ []) (patch18 1 0xE3 (18 ∷ 2 ∷ [])
    (patch18 0 0x48 (0 ∷ 0xA8 ∷ 0x5A ∷ 0xC3 ∷ 3 ∷ 0x80 ∷ 0x57 ∷ 0x99 ∷ []) image_with_eight))

-- the two entries after these calls
abbrev pub entries_after : Bytes → List Call → Bytes
entries_after img l = part 0x48 0x4F (run small_layout img (requests l))
