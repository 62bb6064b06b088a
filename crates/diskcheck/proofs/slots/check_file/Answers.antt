-- `diskcheck::slots::check_file` meets its contract: the chain's claim decides first, then the count.
use native.Mathlib.Omega.{arith}
use mathlib.Core.Path.{refl}
use Rattle.std.proofs.lemmas.Result.{err_from_is_err_and}
use Rattle.diskcheck.proofs.SlotLaws.{file-refused, file-fine, file-miscounted}
use Rattle.diskcheck.proofs.slots.check_file.Goals as goal

pub returns-in_err-claim : goal.returns-in_err-claim
returns-in_err-claim c =
    let p = err_from_is_err_and c.from_residual.result c.from_residual.ensures.1 in
    let e = c.in_err-claim.ensures in
    record { step = rw (p.1, p.2) (file-refused _ _ _ _ _ _ _ _ e.claim); masks = e.masks }

pub returns-then-claim-sector_count : goal.returns-then-claim-sector_count
returns-then-claim-sector_count c =
    let count = c.sector_count.ensures.count in
    let e = c.in_ok-claim.ensures in
    record { step = file-miscounted _ _ _ _ _ _ _ _ e.claim _ (λ same. c.if-claim-sector_count.true (omega arith)); masks = e.masks }

pub returns : goal.returns
returns c =
    let count = c.sector_count.ensures.count in
    let e = c.in_ok-claim.ensures in
    record { step = file-fine _ _ _ _ _ _ _ _ e.claim (omega arith) refl refl; masks = e.masks }
