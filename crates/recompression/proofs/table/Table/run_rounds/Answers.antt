-- What is left to show of `run_rounds`. Assumes nothing.
use Rattle.std.proofs.Common.{◌+◌, take, Some, inl, inr, sym, subst, ◌∙◌, arith}
use Rattle.std.proofs.lemmas.List.{length-take-le}
use Rattle.recompression.specs.Settlements.{RunThrough, reached_with}
use Rattle.recompression.specs.Tables.{in_use}
use Rattle.recompression.proofs.SettleFacts.{running_more, running_full, running_done}
use Rattle.recompression.proofs.table.Table.run_rounds.Goals as goal
use Rattle.recompression.proofs.table.Table.run_rounds.Goals.{then-loop-size-test+else-rounds-most, else-loop-size-test}

pub returns-in_err-size : goal.returns-in_err-size
returns-in_err-size c =
    let l = c.loop-size in
    rw c.from_residual.ensures
    (running_full l.invariant (omega arith) (omega arith) (l.rounds + 1) (omega arith) (in_use c.run_round.new.self.slots) c.run_round.new.numbers c.in_err-size.ensures)

pub loop-size-preserved : goal.loop-size-preserved
loop-size-preserved c =
    let l = c.loop-size in
    running_more l.invariant (omega arith) (omega arith) (l.rounds + 1) (omega arith) (in_use c.run_round.new.self.slots) c.run_round.new.numbers c.in_ok-size.size (l.rounds + 1) (omega arith)
    (c.run_round.auto.numbers ∙ length-take-le l.size l.numbers (omega arith)) c.in_ok-size.ensures

pub returns : goal.returns
returns c =
    let l = c.loop-size in
    let first = in_use c.args.self.now.slots in
    let done : RunThrough first c.args.numbers.now (Some (reached_with (take l.size l.numbers) l.rounds)) (in_use l.self.slots) =
    elim c.loop-size-test.branch [
      | then-loop-size-test+else-rounds-most w ↦ running_done l.invariant (inr (omega arith))
      | else-loop-size-test w ↦ running_done l.invariant (inl (omega arith))
    ] in
    subst (λ r. RunThrough first c.args.numbers.now (Some r) (in_use l.self.slots)) (sym c.of.ensures) done
