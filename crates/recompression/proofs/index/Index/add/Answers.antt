-- What is left to show of `add`. Assumes nothing.
use Rattle.std.proofs.Common.{◌++◌, [], ◌∷◌, sym, subst}
use Rattle.recompression.specs.Buckets.{IndexOf}
use Rattle.recompression.proofs.BucketFacts.{index_added}
use Rattle.recompression.proofs.index.Index.add.Goals as goal

pub returns : goal.returns
returns c =
    subst (IndexOf (c.args.rows.now ++ (c.args.row ∷ []))) (sym c.link.ensures)
    (index_added c.args.rows.now c.args.row c.bucket.result c.args.self.now c.requires.indexed c.requires.room c.bucket.ensures.below c.bucket.ensures.value)
