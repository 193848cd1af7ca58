-- The chain counts the pairs that agree before the first that differ.
use Rattle.std.proofs.Common.{rules, tests, take, ◌∙◌}
use Rattle.std.proofs.lemmas.Iterator.{YieldsList-from_slice, YieldsList-from_zip}
use Rattle.std.proofs.lemmas.Iterator.Consumers.{count_from_yields_List}
use Rattle.std.proofs.lemmas.Iterator.Search.{YieldsList-from_take_while}
use Rattle.keepers.proofs.Chains.{both, pairs_taken, common_cut}
use Rattle.keepers.proofs.loose.agreeing_ahead.Goals as goal

pub returns : goal.returns
returns c =
    let room = c.min-room.result in
    let left = take room c.args.left.now in
    let right = take room c.args.right.now in
    count_from_yields_List c.take_while.result c.count.result c.count.ensures.ran
    (YieldsList-from_take_while _ both (YieldsList-from_zip (YieldsList-from_slice left cc) (YieldsList-from_slice right cc))
    c.take_while.ensures.closure c.take_while.ensures.done (λ x b q k. search (rules, tests)))
    ∙ pairs_taken left right
    ∙ common_cut c.args.left.now c.args.right.now room c.min-room.ensures
