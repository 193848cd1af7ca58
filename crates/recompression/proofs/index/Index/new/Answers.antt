-- What is left to show of `new`. Assumes nothing.
use Rattle.std.proofs.Common.{refl}
use Rattle.recompression.proofs.BucketFacts.{index_none}
use Rattle.recompression.proofs.index.Index.new.Goals as goal

pub returns : goal.returns
returns c = index_none _ refl refl
