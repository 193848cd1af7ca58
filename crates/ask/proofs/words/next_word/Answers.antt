-- The first word, from its first byte on, or none.
use Rattle.std.proofs.Common.{◌≡◌, ◌-◌, length, take, drop, sym, ◌∙◌, rules, tests}
use Rattle.std.specs.List.{prefix_len}
use Rattle.std.proofs.lemmas.Iterator.{YieldsList-from_slice}
use Rattle.std.proofs.lemmas.Iterator.Consumers.{count_from_yields_List, YieldsList-at}
use Rattle.std.proofs.lemmas.Iterator.Search.{position_from_yields_List, YieldsList-from_take_while}
use Rattle.std.proofs.lemmas.List.Folds.{length-prefix_len}
use Rattle.ask.proofs.Pieces.{visible, no_word, first_word}
use Rattle.ask.proofs.words.next_word.Goals as goal

pub returns-in_err-start : goal.returns-in_err-start
returns-in_err-start c =
    let at = position_from_yields_List visible _ _ c.position.result c.position.ensures.ran (YieldsList-from_slice c.args.line.now cc) (λ x b q k. search (rules, tests)) in
    rw c.from_residual.ensures (no_word c.args.line.now (sym at ∙ c.in_err-start.was))

pub returns : goal.returns
returns c =
    let at = position_from_yields_List visible _ _ c.position.result c.position.ensures.ran (YieldsList-from_slice c.args.line.now cc) (λ x b q k. search (rules, tests)) in
    let shown = take (length c.args.line.now - c.in_ok-start.start) (drop c.in_ok-start.start c.args.line.now) in
    let size : c.count-size.result ≡ length (take (prefix_len visible shown) shown) =
    count_from_yields_List c.take_while.result _ c.count-size.ensures.ran (YieldsList-from_take_while _ visible (YieldsList-at c.take_while.ensures.source (YieldsList-from_slice shown cc)) c.take_while.ensures.closure c.take_while.ensures.done (λ x b q k. search (rules, tests))) in
    first_word c.args.line.now c.in_ok-start.start c.count-size.result _ _ (sym at ∙ c.in_ok-start.was) (size ∙ length-prefix_len visible shown) c.split_at.ensures.front c.split_at.ensures.back
