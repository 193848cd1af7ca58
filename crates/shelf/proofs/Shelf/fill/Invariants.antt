use Rattle.std.proofs.Common.{◌≡◌, ◌++◌, map, drop}
use Rattle.book.specs.Calls.{part_of}
use Rattle.cells.specs.Giving.{given_by}
use Rattle.shelf.specs.Contents.{rows_on}
use Rattle.shelf.proofs.Shelf.fill.Given as goal

abbrev pub invariant-loop-i : goal.invariant-loop-i
invariant-loop-i g l = l.cells ≡ map (given_by g.K.CellKind.has g.K.CellKind.spelled g.K.CellKind.BLANK) (part_of (rows_on l.self) l.number l.start l.i) ++ drop l.i l.initial.cells
