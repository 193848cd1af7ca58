-- What is left to show of `run_round`. Assumes nothing.
use Rattle.std.proofs.Common.{◌≡◌, ◌-◌, ◌∷◌, length, take, drop, sym, subst, rules, arith, length-take, length-drop}
use Rattle.rows.specs.Rounds.{blocks}
use Rattle.recompression.specs.InPlace.{IsFirst}
use Rattle.recompression.specs.Tables.{in_use}
use Rattle.recompression.proofs.RoundFacts.{going_all, going_more, going_full, no_blocks}
use Rattle.recompression.proofs.table.Table.run_round.Goals as goal

pub returns-in_err-numbers : goal.returns-in_err-numbers
returns-in_err-numbers c =
    let l = c.loop-first in
    let first = c.first_block-block in
    let filed = c.in_err-numbers.ensures in
    let whole : take (length l.numbers - l.read) (drop l.read l.numbers) ≡ c.in-Some.first.now ∷ c.in-Some.rest.now = search rules in
    rw c.from_residual.ensures
    (going_full l.invariant first.result.0 first.result.1
    (subst (λ s. IsFirst (blocks c.args.round) s first.result.0 first.result.1) (sym whole) first.ensures)
    (in_use c.file_block.new.self.slots) filed.rows l.numbers filed.number)

pub loop-first-preserved : goal.loop-first-preserved
loop-first-preserved c =
    let l = c.loop-first in
    let first = c.first_block-block in
    let filed = c.in_ok-numbers.ensures in
    let whole : take (length l.numbers - l.read) (drop l.read l.numbers) ≡ c.in-Some.first.now ∷ c.in-Some.rest.now = search rules in
    going_more l.invariant first.result.0 first.result.1
    (subst (λ s. IsFirst (blocks c.args.round) s first.result.0 first.result.1) (sym whole) first.ensures)
    (in_use c.file_block.new.self.slots) filed.rows c.in_ok-numbers.field-0 filed.number

pub returns : goal.returns
returns c =
    let l = c.loop-first in
    let none : length (take (length l.numbers - l.read) (drop l.read l.numbers)) ≡ 0 = search rules in
    going_all l.invariant (no_blocks c.args.round) (omega (arith, length-take (length l.numbers - l.read) (drop l.read l.numbers), length-drop l.read l.numbers))
