-- What falls in the calls of `expand_pair` and `expand_repeat`, and what the loop keeps. Assumes nothing.
use Rattle.std.proofs.Common.{◌-◌, ◌*◌, length}
use Rattle.recompression.specs.Tables.{in_use}
use Rattle.recompression.proofs.ExpandFacts.{Copied, calls_left}
use Rattle.recompression.proofs.table.Table.+expand_pair_expand_repeat.Given as goal

abbrev pub decreases-expand_pair : goal.decreases-expand_pair
decreases-expand_pair l = 2 * l.number - 1

abbrev pub decreases-expand_repeat : goal.decreases-expand_repeat
decreases-expand_repeat l = calls_left (length l.out.now) l.number l.copies

abbrev pub invariant-expand_repeat-loop-filled : goal.invariant-expand_repeat-loop-filled
invariant-expand_repeat-loop-filled l = Copied (in_use l.self.slots) l.number l.copies l.start (length l.fn.out) l.filled l.out

abbrev pub decreases-expand_repeat-loop-filled : goal.decreases-expand_repeat-loop-filled
decreases-expand_repeat-loop-filled l = length l.initial.out - l.filled
