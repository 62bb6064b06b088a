-- `directory::read_directory` meets its contract: refused by its size, refused on the walk, or the walk's sectors with the first repeated name.
-- Assumes nothing.
use mathlib.Core.Path.{refl}
use native.Mathlib.Omega.{arith}
use mathlib.Core.Path.{◌≡◌}
use borrow.Author.Rules.{rules}
use lib.ListN.{length}
use Rattle.std.specs.Prelude.{Err}
use Rattle.directory.proofs.ReadLaws.{start-used, read-wrong-size, read-walk-refused, read-walk-done}
use Rattle.directory.proofs.read_directory.Goals as goal

pub returns-then-track18-ne4864 : goal.returns-then-track18-ne4864
returns-then-track18-ne4864 c = read-wrong-size _ (λ e. omega arith)

pub walk_directory-requires : goal.walk_directory-requires
walk_directory-requires c = (omega arith, omega (arith, start-used))

pub returns-in_err-walked : goal.returns-in_err-walked
returns-in_err-walked c =
    let is : c.from_residual.result ≡ Err c.in_err-walked.field-0.0 = search rules in
    rw is (read-walk-refused _ (omega arith) _ refl _ c.in_err-walked.ensures)

pub returns : goal.returns
returns c =
    let long : length c.in_ok-walked.walked.sectors ≡ 18 = search rules in
    read-walk-done _ (omega arith) _ refl c.in_ok-walked.ensures long c.first_repeated-repeated.ensures
