-- What is left to show of `truncate`. Assumes nothing.
use Rattle.std.proofs.Common.{◌≡◌, suc, ◌-◌, subst, sym, arith}
use Rattle.recompression.specs.Buckets.{Indexed}
use Rattle.recompression.proofs.BucketFacts.{indexed_less, index_taken}
use Rattle.recompression.proofs.index.Index.truncate.Goals as goal

pub loop-left-preserved : goal.loop-left-preserved
loop-left-preserved c =
    let l = c.loop-left in
    let rows = c.args.rows.now in
    let one_more : l.left ≡ suc (l.left - 1) = omega arith in
    record {
      within = omega arith;
      enough = omega arith;
      indexed = subst (Indexed rows (l.left - 1)) (sym c.unlink.ensures)
          (indexed_less rows (l.left - 1) c.bucket.result l.self (subst (λ n. Indexed rows n l.self) one_more l.invariant.indexed) (omega arith) c.bucket.ensures.below c.bucket.ensures.value);
    }

pub returns : goal.returns
returns c =
    let l = c.loop-left in
    index_taken c.args.rows.now c.args.count l.left l.self l.invariant.within (omega arith) l.invariant.enough l.invariant.indexed
