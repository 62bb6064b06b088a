-- The map in an image (01, The map, 18/0; Store and Scratch: the map follows). Laws: proofs/ImageMapLaws.
use Rattle.std.specs.Prelude.{◌≤◌, ◌≡◌, length}
use Rattle.d64spec.specs.Lists.{Bytes}
use Rattle.d64spec.specs.Geometry.{Geometry, sector_number, map_address}
use Rattle.d64spec.specs.Image.{disk, put}
use Rattle.sectors.specs.Sectors.{with_sector}
use Rattle.bam.specs.MapEntry.{Entries}
use Rattle.bam.specs.MapSector.{stored_entries}

-- the image with these entries in its map sector, 18/0; as it was where it does not have that sector whole
unfoldable pub with_map : Geometry → Entries → Bytes → Bytes
with_map g es img = with_sector img (sector_number g map_address) (stored_entries g es (disk img (sector_number g map_address)))

-- the map stands in its sector, and no other byte of the image changes: on the disk that is one sector put
pub record MapWritten (g : Geometry) (img : Bytes) (es : Entries) (img' : Bytes) : Type 0 where
  pub bytes : img' ≡ with_map g es img
  pub size : length img' ≡ length img
  pub laid : 91648 ≤ length img → disk img' ≡ put (disk img) (sector_number g map_address) (stored_entries g es (disk img (sector_number g map_address)))
