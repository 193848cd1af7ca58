-- What the loop of `run_round` keeps from block to block, and what falls. Assumes nothing.
use Rattle.std.proofs.Common.{◌-◌, length}
use Rattle.rows.specs.Rounds.{blocks}
use Rattle.recompression.specs.Tables.{in_use}
use Rattle.recompression.proofs.RoundFacts.{Going}
use Rattle.recompression.proofs.table.Table.run_round.Given as goal

abbrev pub invariant-loop-first : goal.invariant-loop-first
invariant-loop-first l = Going l.round (blocks l.round) (in_use l.initial.self.slots) l.initial.numbers l.read l.write (in_use l.self.slots) l.numbers

abbrev pub decreases-loop-first : goal.decreases-loop-first
decreases-loop-first l = length l.numbers - l.read
