-- Format (01, What the calls do): an image all zero except 18/0 and 18/1. It runs no check; only 1 and 9 refuse it.
-- What stands in every byte of the image, and that it is accepted, empty and writable: proofs/FormatTheorem.
use Rattle.std.specs.Prelude.{ℕ, Bool, not, [], ◌∷◌}
use Rattle.d64spec.specs.Lists.{Bytes, ascending, splice, zeros, member}
use Rattle.d64spec.specs.Answers.{Address, wrong_size, bad_name_argument, Result, done, ◌>>◌, need}
use Rattle.d64spec.specs.Geometry.{Geometry, tracks, sector_number, map_address, directory_start}
use Rattle.d64spec.specs.Image.{Disk, image, put}
use Rattle.d64spec.specs.Directory.{padded}
use Rattle.d64spec.specs.Map.{with_entries}
use Rattle.d64spec.specs.Check.{right_size}
use Rattle.d64spec.specs.Reply.{Change, changed, valid_name_argument}

-- an empty directory sector: 00 FF and zeros
abbrev pub empty_directory_sector : Bytes
empty_directory_sector = 0x00 ∷ 0xFF ∷ zeros 254

-- 18/0 but for the map: each run of bytes at its offset, zero elsewhere
unfoldable pub format_header : Bytes → ℕ → ℕ → Bytes
format_header name id1 id2 =
    let a = splice (zeros 256) 0x00 (0x12 ∷ 0x01 ∷ 0x41 ∷ 0x00 ∷ []) in
    let b = splice a 0x90 (padded name) in
    splice b 0xA0 (0xA0 ∷ 0xA0 ∷ id1 ∷ id2 ∷ 0xA0 ∷ 0x32 ∷ 0x41 ∷ 0xA0 ∷ 0xA0 ∷ 0xA0 ∷ 0xA0 ∷ [])

-- all free but 18/0 and 18/1
unfoldable pub free_after_format : Geometry → Address → Bool
free_after_format g r = not (member (sector_number g r) (sector_number g map_address ∷ sector_number g directory_start ∷ []))

-- 18/0 with the map
unfoldable pub formatted_map : Geometry → Bytes → ℕ → ℕ → Bytes
formatted_map g name id1 id2 = with_entries g (free_after_format g) (format_header name id1 id2) (ascending 1 (tracks g))

-- all zero, except 18/1 and 18/0
unfoldable pub formatted_disk : Geometry → Bytes → ℕ → ℕ → Disk
formatted_disk g name id1 id2 =
    put (put (λ n. zeros 256) (sector_number g directory_start) empty_directory_sector) (sector_number g map_address) (formatted_map g name id1 id2)

-- format: a name and two id bytes
unfoldable pub call_format : Geometry → Bytes → Bytes → ℕ → ℕ → Result Change
call_format g img name id1 id2 = do
  need (right_size g img) wrong_size
  need (valid_name_argument name) bad_name_argument
  done (changed (image g (formatted_disk g name id1 id2)) 0 0)
