use Rattle.std.proofs.Common.{length, refl, arith}
use Rattle.book.specs.Calls.{printed}
use Rattle.recompression.specs.Contents.{rows_in}
use Rattle.shelf.proofs.LeafLoop.{length_printed}
use Rattle.shelf.proofs.Settlings.{told_short, told_settled}
use Rattle.shelf.proofs.printable.Printable.file.Goals as goal

pub returns-then-work-size : goal.returns-then-work-size
returns-then-work-size g c =
    let many = length_printed g.K.CellKind.coded c.args.self.now.cells.now in
    told_short (rows_in c.args.table.now) (printed g.K.CellKind.coded c.args.self.now.cells.now) (length c.args.work.now) (omega arith) _ refl

pub returns : goal.returns
returns g c =
    let many = length_printed g.K.CellKind.coded c.args.self.now.cells.now in
    told_settled (rows_in c.args.table.now) (printed g.K.CellKind.coded c.args.self.now.cells.now) (length c.args.work.now) (omega arith)
    c.settle_or_undo.result (rows_in c.settle_or_undo.new.table) c.settle_or_undo.ensures
