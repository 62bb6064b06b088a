-- `formatting::fresh_map_sector` meets its contract: the map stored over the header. Its table is what the definitions give for each of 40 tracks,
-- computed once for all layouts.
use mathlib.Core.Path.{refl}
use Rattle.d64spec.specs.Lists.{zeros}
use Rattle.d64spec.specs.Geometry.{layout40, speed_dos, sectors_on, sector_number, first_on}
use Rattle.d64spec.specs.Bits.{binary, bit_of}
use Rattle.d64spec.specs.Map.{map_bit, expected_bit, bitmap_byte, expected_entry}
use Rattle.d64spec.specs.Format.{free_after_format}
use Rattle.geometry.specs.declared.Layout.{Layout}
use Rattle.geometry.specs.Layout.{geometry_of}
use Rattle.geometry.proofs.TableLaws.{known_of, fronts}
use Rattle.bam.specs.Expected.{Expects}
use Rattle.formatting.specs.declared.TheConstants.{FRESH_MAP}
use Rattle.formatting.proofs.MapSectorLaws.{wrong_tracks, fresh-entries, map-stored}
use Rattle.formatting.proofs.fresh_map_sector.Goals as goal

fresh-map : (layout : Layout) → Expects (geometry_of layout) (free_after_format (geometry_of layout)) (zeros 256) FRESH_MAP
unfolding wrong_tracks expected_entry expected_bit bitmap_byte binary map_bit bit_of free_after_format layout40 speed_dos sectors_on sector_number first_on
fresh-map layout = fresh-entries _ (known_of layout) (fronts layout) _ refl refl

pub returns : goal.returns
returns c =
    map-stored _ (known_of c.args.layout) c.args.name.now c.args.id1 c.args.id2 c.requires c.fresh_header-m.type_inv.1.0.1
    c.fresh_header-m.ensures (fresh-map c.args.layout) c.store_map.ensures
