use Rattle.questions.proofs.Tests.{place_test}
use Rattle.questions.proofs.parts.Parts.is_place.Goals as goal

pub returns : goal.returns
returns g c =
    place_test (g.K.Keeper.codes c.args.self.now.keeper.now) c.args.self.now.first c.args.i c.common_ahead.result c.args.self.now.first_lies c.requires c.common_ahead.ensures
