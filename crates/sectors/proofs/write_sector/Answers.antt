-- `sectors::write_sector` meets its contract: what comes back of the loan is the sector's place with the content in it, and else nothing is lent.
use Prim.Native.Nat.{◌*◌}
use native.Mathlib.Omega.{arith}
use mathlib.Core.Path.{sym, ◌∙◌}
use Rattle.parts.proofs.OverwriteLaws.{copied_whole-back}
use Rattle.sectors.proofs.SectorLaws.{with_sector-whole, with_sector-size, with_sector-cut}
use Rattle.sectors.proofs.write_sector.Goals as goal

pub returns-then-content-eq256 : goal.returns-then-content-eq256
returns-then-content-eq256 c =
    let a = c.args in
    copied_whole-back a.img.now (256 * a.n) 256 a.content.now (omega arith) c.copy_from_slice.ensures.after
    ∙ sym (with_sector-whole a.img.now a.n a.content.now (omega arith) (omega arith))

pub returns-else-n-img : goal.returns-else-n-img
returns-else-n-img c =
    let a = c.args in
    elim c.else-n-img.branch [
      | goal.else-n-img-via-then-n-img+else-content-eq256 w ↦ sym (with_sector-size a.img.now a.n a.content.now w.if-content-eq256.false)
      | goal.else-n-img-via-else-n-img w ↦ let e = w.if-n-img.false in sym (with_sector-cut a.img.now a.n a.content.now (omega arith))
    ]
