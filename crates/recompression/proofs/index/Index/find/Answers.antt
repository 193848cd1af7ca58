-- What is left to show of `find`. Assumes nothing.
use Rattle.std.proofs.Common.{◌<◌, subst, sym, arith}
use Rattle.recompression.proofs.WalkFacts.{Walking, walking_first, walking_on, walk_falls, walk_ended}
use Rattle.recompression.proofs.index.Index.find.Goals as goal

pub loop-number-init : goal.loop-number-init
loop-number-init c = walking_first c.args.rows.now c.args.shape c.args.self.now c.bucket.result c.requires.indexed c.bucket.ensures.value

pub loop-number-smaller : goal.loop-number-smaller
loop-number-smaller c =
    subst (λ n. n < c.loop-number.number) (sym c.before-number.ensures)
    (walk_falls c.loop-number.invariant c.args.self.now c.requires.indexed c.loop-number-test.true)

pub loop-number-preserved : goal.loop-number-preserved
loop-number-preserved c =
    subst (Walking c.args.rows.now c.args.shape) (sym c.before-number.ensures)
    (walking_on c.loop-number.invariant c.args.self.now c.requires.indexed c.loop-number-test.true (sym c.if-has_shape.ensures))

pub returns : goal.returns
returns c = walk_ended c.loop-number.invariant (omega arith)
