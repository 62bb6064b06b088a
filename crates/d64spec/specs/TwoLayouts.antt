-- SpeedDOS and Dolphin share a size and not a map, and an image may be accepted in both (02, §8): computed on two small layouts that differ only in where
-- the entry of track 36 stands, as those two do. The statement: proofs/LayoutTables, `two-layouts`.
use Rattle.std.specs.Prelude.{ℕ, ◌+◌, ◌*◌, ◌-◌, cond, [], ◌∷◌, ◌++◌, replicate, ltb}
use Rattle.d64spec.specs.Lists.{Bytes, splice, zeros}
use Rattle.d64spec.specs.Geometry.{Geometry}
use Rattle.d64spec.specs.Call.{Call, format, store}
use Rattle.d64spec.specs.Host.{host_call}
use Rattle.d64spec.specs.Trial.{lent_block, name_a, name_d}

-- three sectors on track 18, four on track 36, and no other: 18/0 is sector 0, 36/0 is sector 3; the entry of track 36 stands at this byte
unfoldable pub small_with : ℕ → Geometry
small_with extra = record { counts = replicate 17 0 ++ (3 ∷ (replicate 17 0 ++ (4 ∷ []))); map_at = λ t. cond (ltb t 36) (4 * t) (extra + 4 * (t - 36)) }

-- where SpeedDOS has it, and where Dolphin has it
unfoldable pub small_speed_dos : Geometry
small_speed_dos = small_with 0xC0

unfoldable pub small_dolphin : Geometry
small_dolphin = small_with 0xAC

-- the image after a host call
unfoldable pub after_in : Geometry → Bytes → Call → Bytes
after_in g img c = (host_call g img lent_block c).image_after

-- the number and the place of a host call
unfoldable pub says_in : Geometry → Bytes → Call → Bytes
says_in g img c = let r = host_call g img lent_block c in r.number ∷ r.block_after

-- formatted in the first: the bytes of the second's entry are 0
unfoldable pub formatted_once : Bytes
formatted_once = after_in small_speed_dos (zeros 1792) (format name_d 0x30 0x31)

-- with that entry too: 4 free, 36/0 to 36/3
unfoldable pub in_both : Bytes
in_both = splice formatted_once 0xAC (4 ∷ 0x0F ∷ 0x00 ∷ 0x00 ∷ [])

-- an empty file stored in 36/0, in one layout
unfoldable pub stored_in : Geometry → Bytes
stored_in g = after_in g in_both (store name_a 1 [])

-- done, with an empty report
abbrev pub accepts : Bytes
accepts = 0 ∷ 0 ∷ 0 ∷ 255 ∷ zeros 6

-- 8 at 36/0, whose bit is wrong
abbrev pub refuses36 : Bytes
refuses36 = 8 ∷ 36 ∷ 0 ∷ 255 ∷ zeros 6
