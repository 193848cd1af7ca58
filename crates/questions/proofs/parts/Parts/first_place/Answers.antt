use Rattle.std.proofs.Common.{rules, tests, true, false, ◌≡◌}
use Rattle.periodicity.specs.Places.{is_place}
use Rattle.std.proofs.lemmas.Iterator.{first_from_Range}
use Rattle.questions.proofs.Tests.{least_found}
use Rattle.questions.proofs.parts.Parts.first_place.Goals as goal

pub returns : goal.returns
returns g c =
    let test = is_place (g.K.Keeper.codes c.args.self.now.keeper.now) c.args.self.now.first in
    least_found test c.args.starts.start c.args.starts.end c.find.result
    (first_from_Range _ _ _ _ (λ i. test i ≡ true) (λ i. test i ≡ false) c.find.ensures.ran
    (λ x q k. search (rules, tests)) (λ x q k. (search rules, search (rules, tests))))
