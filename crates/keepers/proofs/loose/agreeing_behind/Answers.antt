-- The chain counts the pairs that agree before the first that differ, from the ends.
use Rattle.std.proofs.Common.{rules, tests, reverse, ◌∙◌}
use Rattle.std.proofs.lemmas.Iterator.{YieldsList-from_zip}
use Rattle.std.proofs.lemmas.Iterator.Adapters.{YieldsList-from_rev_slice}
use Rattle.std.proofs.lemmas.Iterator.Consumers.{count_from_yields_List}
use Rattle.std.proofs.lemmas.Iterator.Search.{YieldsList-from_take_while}
use Rattle.keepers.proofs.Chains.{both, pairs_taken, last_codes, common_cut_behind}
use Rattle.keepers.proofs.loose.agreeing_behind.Goals as goal

pub returns : goal.returns
returns c =
    let room = c.min-room.result in
    let left = last_codes room c.args.left.now in
    let right = last_codes room c.args.right.now in
    count_from_yields_List c.take_while.result c.count.result c.count.ensures.ran
    (YieldsList-from_take_while _ both (YieldsList-from_zip (YieldsList-from_rev_slice left cc) (YieldsList-from_rev_slice right cc))
    c.take_while.ensures.closure c.take_while.ensures.done (λ x b q k. search (rules, tests)))
    ∙ pairs_taken (reverse left) (reverse right)
    ∙ common_cut_behind c.args.left.now c.args.right.now room c.min-room.ensures
