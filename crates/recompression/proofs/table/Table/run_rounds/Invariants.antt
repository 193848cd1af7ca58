-- What the loop of `run_rounds` keeps from round to round, and what falls. Assumes nothing.
use Rattle.std.proofs.Common.{◌-◌, ◌*◌, length}
use Rattle.recompression.specs.Tables.{in_use}
use Rattle.recompression.proofs.SettleFacts.{Running}
use Rattle.recompression.proofs.table.Table.run_rounds.Given as goal

abbrev pub invariant-loop-size : goal.invariant-loop-size
invariant-loop-size l = Running (in_use l.initial.self.slots) l.initial.numbers (44 * length l.initial.numbers) l.rounds l.size (in_use l.self.slots) l.numbers

abbrev pub decreases-loop-size : goal.decreases-loop-size
decreases-loop-size l = l.most - l.rounds
