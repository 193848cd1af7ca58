-- What the loop of `truncate` keeps from row to row, and what falls. Assumes nothing.
use Rattle.std.proofs.Common.{◌≤◌, min, length}
use Rattle.recompression.specs.Buckets.{Indexed}
use Rattle.recompression.proofs.index.Index.truncate.Given as goal

abbrev pub invariant-loop-left : goal.invariant-loop-left
invariant-loop-left l = record {
  within : l.left ≤ length l.rows;
  enough : min (length l.rows) l.count ≤ l.left;
  indexed : Indexed l.rows l.left l.self;
}

abbrev pub decreases-loop-left : goal.decreases-loop-left
decreases-loop-left l = l.left
