-- What takes keep, from the theory. Assumes nothing.
use Rattle.cells.specs.Giving.{given_by}
use Rattle.book.proofs.TurnFacts.{takes_keep}
use Rattle.book.proofs.law_of_takes.Goals as goal

pub returns : goal.returns
returns g c =
    let K = g.K.CellKind in
    let laws = g.met.K.CellKind in
    takes_keep K.coded K.has (given_by K.has K.spelled K.BLANK) K.same (record { alike = laws.alike; known = laws.known; back = laws.back })
