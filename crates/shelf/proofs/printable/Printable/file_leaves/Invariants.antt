use Rattle.book.specs.Calls.{printed}
use Rattle.recompression.specs.Contents.{rows_in}
use Rattle.shelf.proofs.LeafLoop.{Going}
use Rattle.shelf.proofs.printable.Printable.file_leaves.Given as goal

abbrev pub invariant-loop-i : goal.invariant-loop-i
invariant-loop-i g l = Going (rows_in l.initial.table) (printed g.K.CellKind.coded l.self.cells.now) l.i (rows_in l.table) l.numbers
