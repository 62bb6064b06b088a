-- `diskcheck::check_owners` meets its contract: with the directory's sectors claimed, and their bits in track 18's mask, `check_rest` has the rest.
use mathlib.Core.Path.{refl, ap, ◌∙◌}
use Rattle.geometry.specs.Layout.{geometry_of}
use Rattle.geometry.proofs.TableLaws.{known_of}
use Rattle.diskcheck.specs.SlotChecks.{Tables}
use Rattle.diskcheck.specs.ImageChecks.{rest_step}
use Rattle.diskcheck.proofs.ImageLaws.{owners-ready, owners-before}
use Rattle.diskcheck.proofs.check_owners.Goals as goal

pub check_rest-requires : goal.check_rest-requires
check_rest-requires c = owners-ready _ (known_of c.args.layout) c.requires c.claim_directory.ensures refl refl

pub returns : goal.returns
returns c =
    let a = c.args in
    c.check_rest.ensures
    ∙ ap (λ (t : Tables). rest_step (geometry_of a.layout) a.img.now t a.directory.now.sectors a.directory.now.count)
    (owners-before _ (known_of a.layout) c.requires c.claim_directory.ensures refl)
