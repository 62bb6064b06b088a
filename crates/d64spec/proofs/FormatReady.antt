-- A formatted image is ready for use.
use Prim.Native.Nat.{ℕ, ◌≤◌}
use native.Mathlib.Omega.{arith}
use mathlib.Core.Path.{◌≡◌, sym, ap, ◌∙◌}
use mathlib.Core.Logic.{inl}
use mathlib.Core.List.Perm
use lib.ListN.{length}
use Rattle.d64spec.specs.Lists.{Bytes, byte}
use Rattle.d64spec.specs.Answers.{done}
use Rattle.d64spec.specs.Geometry.{Geometry, Valid, directory_start, map_address, sector_number}
use Rattle.d64spec.specs.Image.{Disk, disk, put}
use Rattle.d64spec.specs.Map.{rewrite_map}
use Rattle.d64spec.specs.Reply.{Change, reply, writable}
use Rattle.d64spec.specs.Format.{call_format, empty_directory_sector}
use Rattle.d64spec.specs.Run.{plain_list_after}
use Rattle.d64spec.specs.Facts.{Ready}
use Rattle.d64spec.proofs.CallLaws.{format-done}
use Rattle.d64spec.proofs.BoundLaws.{sector_number-lt, map_on}
use Rattle.d64spec.proofs.ImageLaws.{put_same, image-disk}
use Rattle.d64spec.proofs.MapWriteLaws.{rewrite-whole}
use Rattle.d64spec.proofs.FormatLaws.{formatted-same, blank-whole, blank-sound, name-short, format-step, blank_disk, header}
use Rattle.d64spec.proofs.MapBytes.{map_other}

-- the version byte of a blank disk, its map written
version : (g : Geometry) → Valid g → (name : Bytes) (i j : ℕ) → length name ≤ 16 → byte (rewrite_map g (blank_disk g name i j) (sector_number g map_address)) 2 ≡ 0x41
unfolding blank_disk header
version g v name i j short =
    map_other g v (blank_disk g name i j) ((blank-whole g v name i j short).full (sector_number g map_address) (sector_number-lt g map_address (map_on g v.directory))) 2 (λ t l h. inl (omega (arith, v.map_past t l h)))
    ∙ ap (λ (x : Bytes). byte x 2) (put_same (put (disk _) (sector_number g directory_start) empty_directory_sector) (sector_number g map_address) (header name i j))

-- the sectors after a format that is done
pub formatted-disk : (g : Geometry) → Valid g → (img name : Bytes) (i j : ℕ) (ch : Change) → call_format g img name i j ≡ done ch
    → (length name ≤ 16) × (disk ch.image_after ≡ rewrite_map g (blank_disk g name i j))
formatted-disk g v img name i j ch e =
    let h = format-done g img name i j ch e in
    let s : length name ≤ 16 = name-short name h.asked in
    let b : Disk = blank_disk g name i j in
    (s, ap (λ (x : Change). disk x.image_after) (sym h.change) ∙ ap disk (formatted-same g v name i j s) ∙ image-disk g (rewrite_map g b) (rewrite-whole g v b (blank-whole g v name i j s) (blank-sound g v name i j s)))

-- A FORMATTED IMAGE IS READY
pub format-ready : (g : Geometry) → Valid g → (img name : Bytes) (i j : ℕ) (ch : Change) → call_format g img name i j ≡ done ch → Ready g ch.image_after
unfolding reply plain_list_after writable
format-ready g v img name i j ch e =
    let r = format-step g v img name i j ch e in
    let z = formatted-disk g v img name i j ch e in
    record { accepted = r.accepted; writable = rw (z.1, version g v name i j z.0); bare = Perm.eq-nil r.holds }
