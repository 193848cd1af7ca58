-- Each turn counts what a step finds, until the first codes differ or no more are left.
use Rattle.std.proofs.Common.{drop, arith}
use Rattle.periodicity.specs.Agreement.{common}
use Rattle.periodicity.proofs.Agreements.{count_ahead_ends}
use Rattle.shelf.specs.Contents.{rows_on}
use Rattle.shelf_strip.specs.Sides.{seen}
use Rattle.shelf_strip.proofs.CountFacts.{step_fits, step_counts, step_stops}
use Rattle.shelf_strip.proofs.SeenFacts.{length_seen}
use Rattle.shelf_strip.proofs.strip.ShelfStrip.agreeing.Goals as goal

pub returns-then-more-eq0 : goal.returns-then-more-eq0
returns-then-more-eq0 c =
    let rows = rows_on c.args.self.now.shelf.now in
    let xs = seen c.args.side rows c.args.self.now.number in
    let steps = rw (c.at-left.ensures, c.at-right.ensures) at c.step-more.ensures in
    step_stops c.args.side rows c.args.self.now.number c.len-len.result c.len-len.ensures c.args.i c.args.j
    (common (drop c.args.i xs) (drop c.args.j xs)) c.loop-agreed.agreed c.step-more.result (omega arith) steps
    c.loop-agreed.invariant.1 c.if-more-eq0.true

pub loop-agreed-preserved : goal.loop-agreed-preserved
loop-agreed-preserved c =
    let rows = rows_on c.args.self.now.shelf.now in
    let xs = seen c.args.side rows c.args.self.now.number in
    let steps = rw (c.at-left.ensures, c.at-right.ensures) at c.step-more.ensures in
    let whole = common (drop c.args.i xs) (drop c.args.j xs) in
    let fits = step_fits c.args.side rows c.args.self.now.number c.len-len.result c.len-len.ensures c.args.i c.args.j whole c.loop-agreed.agreed c.step-more.result (omega arith) steps in (
      omega arith,
      step_counts c.args.side rows c.args.self.now.number c.len-len.result c.len-len.ensures c.args.i c.args.j whole c.loop-agreed.agreed c.step-more.result (omega arith) steps c.loop-agreed.invariant.1,
    )

pub returns : goal.returns
returns c =
    let rows = rows_on c.args.self.now.shelf.now in
    let xs = seen c.args.side rows c.args.self.now.number in
    let long = length_seen c.args.side rows c.args.self.now.number in
    count_ahead_ends xs c.args.i c.args.j c.loop-agreed.agreed (common (drop c.args.i xs) (drop c.args.j xs)) c.loop-agreed.invariant.1 (omega arith)
