-- The law of the book, from the theory. Assumes nothing.
use Rattle.cells.specs.Giving.{given_by}
use Rattle.book.proofs.RunFacts.{runs_keep, goes_on, new_is_lawful}
use Rattle.book.proofs.law_of_the_book.Goals as goal

pub returns : goal.returns
returns g c =
    let K = g.K.CellKind in
    let laws = g.met.K.CellKind in
    record {
      new = new_is_lawful;
      law = runs_keep K.coded K.has (given_by K.has K.spelled K.BLANK) K.same (record { alike = laws.alike; known = laws.known; back = laws.back });
      goes_on = goes_on K.coded;
    }
