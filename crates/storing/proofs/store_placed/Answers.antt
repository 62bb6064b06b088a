-- `storing::store_placed` meets its contract. In order: content that no disk holds; the sectors needed; the free ones; what is written.
use Rattle.geometry.proofs.TableLaws.{known_of}
use native.Mathlib.Omega.{arith}
use Rattle.storing.proofs.DecisionLaws.{long-reply, few-reply, write-ready, done-reply}
use Rattle.storing.proofs.store_placed.Goals as goal

pub returns-then-file-gt190246 : goal.returns-then-file-gt190246
returns-then-file-gt190246 c =
    long-reply _ (known_of c.args.layout) c.requires (omega arith)

pub returns-then-place_sectors-needed : goal.returns-then-place_sectors-needed
returns-then-place_sectors-needed c =
    let n = c.sectors_needed-needed.ensures in
    few-reply _ (known_of c.args.layout) c.requires n (omega arith) c.place_sectors.ensures
    (omega arith)

pub write_file-requires : goal.write_file-requires
write_file-requires c =
    let n = c.sectors_needed-needed.ensures in
    write-ready _ (known_of c.args.layout) c.requires n (omega arith) c.place_sectors.ensures
    (omega arith)

pub returns : goal.returns
returns c =
    let n = c.sectors_needed-needed.ensures in
    done-reply _ (known_of c.args.layout) c.requires n (omega arith)
    c.place_sectors.ensures (omega arith) c.write_file.ensures
