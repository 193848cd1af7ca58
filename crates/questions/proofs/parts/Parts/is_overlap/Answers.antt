use Rattle.questions.proofs.Tests.{overlap_test}
use Rattle.questions.proofs.parts.Parts.is_overlap.Goals as goal

pub returns : goal.returns
returns g c =
    let self = c.args.self.now in
    overlap_test (g.K.Keeper.codes self.keeper.now) self.first self.second c.args.size c.common_ahead.result self.first_lies self.second_lies c.requires.in_first c.requires.in_second c.common_ahead.ensures
