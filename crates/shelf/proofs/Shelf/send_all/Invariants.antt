use Rattle.std.proofs.Common.{◌≡◌, length}
use Rattle.shelf.specs.Contents.{book_of}
use Rattle.shelf.proofs.SendLoop.{Performed}
use Rattle.shelf.proofs.Shelf.send_all.Given as goal

abbrev pub invariant-loop-i : goal.invariant-loop-i
invariant-loop-i g l =
    Performed l.initial.self.kind g.K.CellKind.NUMBER g.K.CellKind.coded (book_of l.initial.self) (length l.initial.work) l.requests l.i (book_of l.self) l.answers
    × (l.self.kind ≡ l.initial.self.kind)
