-- What the loop keeps: the cells so far are printable, and so none of them is the first that is not. Assumes nothing.
use Rattle.cells.specs.Printing.{PrintableBefore}
use Rattle.cells.proofs.Firsts.{NotBefore}
use Rattle.cells.proofs.printing.first_unprintable.Given as goal

abbrev pub invariant-loop-i : goal.invariant-loop-i
invariant-loop-i g l = PrintableBefore g.K.CellKind.coded l.cells l.i × NotBefore g.K.CellKind.coded l.cells l.i
