use Rattle.std.proofs.Common.{arith}
use Rattle.std.proofs.lemmas.Result.{err_from_is_err_and}
use Rattle.book.specs.Calls.{printed}
use Rattle.recompression.specs.Contents.{rows_in}
use Rattle.shelf.proofs.Settlings.{settled_after, leaves_full}
use Rattle.shelf.proofs.printable.Printable.settle.Goals as goal

pub returns-in_err-file_leaves : goal.returns-in_err-file_leaves
returns-in_err-file_leaves g c =
    let p = err_from_is_err_and c.from_residual.result c.from_residual.ensures.1 in
    rw (p.1, p.2) (leaves_full (rows_in c.args.table.now) (rows_in c.file_leaves.new.table) (printed g.K.CellKind.coded c.args.self.now.cells.now) c.file_leaves.new.numbers
    c.in_err-file_leaves.field-0.0 c.in_err-file_leaves.ensures)

pub returns : goal.returns
returns g c =
    settled_after (rows_in c.args.table.now) (rows_in c.file_leaves.new.table) (printed g.K.CellKind.coded c.args.self.now.cells.now) c.file_leaves.new.numbers c.in_ok-file_leaves.ensures (omega arith)
    c.settle_leaves.result (rows_in c.settle_leaves.new.table) c.settle_leaves.ensures
