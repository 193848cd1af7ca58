-- What the loop of `find` keeps from row to row, and what falls. Assumes nothing.
use Rattle.recompression.proofs.WalkFacts.{Walking}
use Rattle.recompression.proofs.index.Index.find.Given as goal

abbrev pub invariant-loop-number : goal.invariant-loop-number
invariant-loop-number l = Walking l.rows l.shape l.number

abbrev pub decreases-loop-number : goal.decreases-loop-number
decreases-loop-number l = l.number
