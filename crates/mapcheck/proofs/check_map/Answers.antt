-- `mapcheck::check_map`: the map that is lent is the sector's; where nothing is found wrong at once, nothing is. Assumes nothing.
use mathlib.Core.Path.{◌∙◌}
use Rattle.answers.specs.Faults.{verdict_of}
use Rattle.geometry.proofs.TableLaws.{known_of}
use Rattle.bam.proofs.MapShapeLaws.{map-shaped}
use Rattle.mapcheck.proofs.StepLaws.{entries-told}
use Rattle.mapcheck.proofs.check_map.Goals as goal

pub none_wrong-requires : goal.none_wrong-requires
none_wrong-requires c =
    let shape = map-shaped c.load_map-map.result _ c.load_map-map.type_inv in
    λ i h. (shape.entry i h).small 0

pub returns-then-none_wrong : goal.returns-then-none_wrong
unfolding verdict_of
returns-then-none_wrong c =
    let shape = map-shaped c.load_map-map.result _ c.load_map-map.type_inv in
    c.none_wrong.ensures.fine c.if-none_wrong.true ∙ entries-told _ (known_of c.args.layout) _ _ c.load_map-map.ensures shape

pub returns : goal.returns
returns c =
    let shape = map-shaped c.load_map-map.result _ c.load_map-map.type_inv in
    c.check_tracks.ensures ∙ entries-told _ (known_of c.args.layout) _ _ c.load_map-map.ensures shape
