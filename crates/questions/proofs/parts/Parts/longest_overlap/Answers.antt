use Rattle.std.proofs.Common.{rules, tests}
use Rattle.periodicity.specs.Fragments.{cut}
use Rattle.periodicity.specs.Overlaps.{is_overlap}
use Rattle.questions.proofs.Tests.{greatest_found}
use Rattle.questions.proofs.parts.Parts.longest_overlap.Goals as goal

pub returns : goal.returns
returns g c =
    let xs = g.K.Keeper.codes c.args.self.now.keeper.now in
    let test = is_overlap (cut xs c.args.self.now.first) (cut xs c.args.self.now.second) in
    greatest_found test _ _ (λ x b q k. search (rules, tests)) _ _ c.rfind.result c.rfind.ensures.ran
