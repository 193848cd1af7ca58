use Rattle.std.proofs.Common.{◌≡◌, ◌++◌, length, take, drop, replicate, Some, sym, ap, ◌∙◌, rules, tests}
use Rattle.std.proofs.lemmas.List.{map-id}
use Rattle.std.proofs.lemmas.Iterator.{YieldsList-from_take, items_from_drains}
use Rattle.std.proofs.lemmas.Iterator.Consumers.{YieldsList-at, YieldsList-from_chain, YieldsList-from_filter_map}
use Rattle.std.proofs.lemmas.Iterator.Adapters.{YieldsList-from_once, YieldsList-from_repeat_n}
use Rattle.periodicity.specs.declared.Progression.{Progression}
use Rattle.periodicity.specs.Fragments.{cut}
use Rattle.periodicity.specs.Periods.{periods_in, written_records}
use Rattle.periodicity.specs.Progressions.{progression_of, triple}
use Rattle.periodicity.proofs.Sameness.{length_part}
use Rattle.questions.proofs.Writes.{yields_down, records_listed, all_written}
use Rattle.questions.proofs.period.Part.write_records.Goals as goal

pub returns : goal.returns
returns g c =
    let self = c.args.self.now in
    let w = cut (g.K.Keeper.codes self.keeper.now) self.fragment in
    let h = c.write_first.ensures in
    let last = triple (length w) 0 1 in
    let is_last : c.length_record.result ≡ last = c.length_record.ensures ∙ ap (λ n. triple n 0 1) (sym (length_part (g.K.Keeper.codes self.keeper.now) self.fragment.start self.fragment.length self.lies)) in
    let drained =
    items_from_drains h.0 (h.1.1.0, h.1.1.1, λ _. (h.1.0, h.1.1.2))
    (YieldsList-from_take 17
    (YieldsList-at c.take.ensures.source
    (YieldsList-from_chain
    (YieldsList-at c.chain.ensures.first
    (YieldsList-from_chain
    (YieldsList-at c.chain-used.ensures.first
    (YieldsList-from_filter_map _ (λ t. progression_of (periods_in w t)) (YieldsList-at c.filter_map-borders.ensures.source (yields_down 16 c.border_ranges.ensures)) c.filter_map-borders.ensures.closure (λ x r q k. search (rules, tests))))
    (YieldsList-at c.chain-used.ensures.second (YieldsList-from_once (Some last) (c.once.ensures.item ∙ ap Some is_last)))
    c.chain-used.ensures.first_done c.chain-used.ensures.second_done))
    (YieldsList-at c.chain.ensures.second (YieldsList-from_repeat_n (λ (x y : Progression). y ≡ x) 16 (triple 0 0 0) c.unused.ensures.count c.unused.ensures.zeros (λ y same. same)))
    c.chain.ensures.first_done c.chain.ensures.second_done))
    c.take.ensures.count) in
    let all : h.0 ≡ written_records w = sym (map-id h.0) ∙ drained ∙ ap (λ rs. take 17 (rs ++ replicate 16 (triple 0 0 0))) (records_listed w 16) ∙ (all_written w).0 in
    h.2 ∙ ap (λ rs. rs ++ drop (length rs) c.args.records.now) all ∙ ap (λ n. written_records w ++ drop n c.args.records.now) (all_written w).1
