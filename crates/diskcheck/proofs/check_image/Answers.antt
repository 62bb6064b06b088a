-- `diskcheck::check_image` meets its contract. In order: the size; the directory of track 18; a fault of the slots or the map; none. The owner table is as
-- many of the 768 zeros as the layout has sectors.
use native.Mathlib.Omega.{arith}
use mathlib.Core.Path.{refl, ap, ◌∙◌}
use lib.ListN.{length-take}
use Rattle.std.proofs.lemmas.Result.{err_from_is_err_and}
use Rattle.d64spec.specs.Lists.{zeros}
use Rattle.d64spec.specs.Listing.{bytes_of_track18}
use Rattle.geometry.specs.Layout.{geometry_of}
use Rattle.geometry.proofs.TableLaws.{known_of}
use Rattle.directory.specs.Directories.{IsDirectory}
use Rattle.diskcheck.proofs.TrackLaws.{track18-lent}
use Rattle.diskcheck.proofs.ImageLaws.{take-zeros, size-wrong, directory-refused, directory-ready, rest-refused, checked-fine}
use Rattle.diskcheck.proofs.check_image.Goals.{In_ok-directory}
use Rattle.diskcheck.proofs.check_image.Goals as goal

-- the directory that was read is that of the image
read : (c : In_ok-directory) → IsDirectory (geometry_of c.args.layout) (bytes_of_track18 (geometry_of c.args.layout) c.args.img.now) c.in_ok-directory.directory
read c =
    let k = known_of c.args.layout in
    rw (c.track18.ensures ∙ track18-lent _ k c.args.img.now) at (c.in_ok-directory.ensures (geometry_of c.args.layout) k.on18)

pub returns-then-img-image_size : goal.returns-then-img-image_size
returns-then-img-image_size c = size-wrong _ _ (λ size. omega (arith, size, c.if-img-image_size.true, c.image_size.ensures))

pub returns-in_err-directory : goal.returns-in_err-directory
returns-in_err-directory c =
    let p = err_from_is_err_and c.from_residual.result c.from_residual.ensures.1 in
    let k = known_of c.args.layout in
    rw (p.1, p.2) (directory-refused _ k c.args.img.now (omega arith)
    (rw (c.track18.ensures ∙ track18-lent _ k c.args.img.now) at (c.in_err-directory.ensures (geometry_of c.args.layout) k.on18)))

pub slice_bounds-owners-end : goal.slice_bounds-owners-end
slice_bounds-owners-end c = omega (arith, c.all_sectors-all.ensures, (known_of c.args.layout).most)

pub slice_bounds-check_owners-end : goal.slice_bounds-check_owners-end
slice_bounds-check_owners-end c = simp length-take (omega (arith, c.all_sectors-all.ensures, (known_of c.args.layout).most))

pub check_owners-requires : goal.check_owners-requires
check_owners-requires c =
    directory-ready _ (known_of c.args.layout) c.args.img.now (omega arith) (read (goal.at.check_owners-requires c).In_ok-directory)
    (take-zeros 768 _ (omega (arith, c.all_sectors-all.ensures, (known_of c.args.layout).most)) ∙ ap zeros c.all_sectors-all.ensures) refl

pub returns-in_err-check_owners : goal.returns-in_err-check_owners
returns-in_err-check_owners c =
    let p = err_from_is_err_and c.from_residual-in_err-check_owners.result c.from_residual-in_err-check_owners.ensures.1 in
    rw (p.1, p.2) (rest-refused _ (known_of c.args.layout) c.args.img.now (omega arith) (read (goal.at.returns-in_err-check_owners c).In_ok-directory)
    _ _ _ c.in_err-check_owners.ensures)

pub returns : goal.returns
returns c =
    checked-fine _ (known_of c.args.layout) c.args.img.now (omega arith) (read (goal.at.returns c).In_ok-directory) _ _ c.in_ok-check_owners.ensures
