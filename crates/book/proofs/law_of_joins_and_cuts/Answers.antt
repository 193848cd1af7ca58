-- What joins and cuts keep, from the theory. Assumes nothing.
use Rattle.book.proofs.TurnFacts.{joins_keep, cuts_keep}
use Rattle.book.proofs.law_of_joins_and_cuts.Goals as goal

pub returns : goal.returns
returns c = record { joins = joins_keep; cuts = cuts_keep }
