-- `sectors::sector` meets its contract: each of the three parts is the sector, past the image, cut off by its end, or whole.
use native.Mathlib.Omega.{arith}
use native.Mathlib.Nat.{add-sub_cancel_left}
use Rattle.d64spec.specs.Image.{disk}
use Rattle.sectors.proofs.SectorLaws.{is_sector, disk-past, disk-cut}
use Rattle.sectors.proofs.sector.Goals as goal

pub returns-then-whole-n : goal.returns-then-whole-n
returns-then-whole-n c =
    let a = c.args in
    is_sector _ _ (disk-past a.img.now a.n (omega arith))

pub returns-then-n-whole : goal.returns-then-n-whole
returns-then-n-whole c =
    let a = c.args in
    is_sector _ _ (disk-cut a.img.now a.n (omega arith))

pub returns : goal.returns
unfolding disk
returns c = is_sector _ _ (simp add-sub_cancel_left)
