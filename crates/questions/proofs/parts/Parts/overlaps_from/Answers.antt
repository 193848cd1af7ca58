use Rattle.std.proofs.Common.{◌+◌, Some, sym, refl, subst}
use Rattle.periodicity.specs.Fragments.{cut}
use Rattle.periodicity.specs.Overlaps.{is_overlap}
use Rattle.periodicity.specs.Ranges.{Tells}
use Rattle.periodicity.proofs.Extensions.{greatest_overlap}
use Rattle.periodicity.proofs.OverlapsTold.{overlaps_told}
use Rattle.periodicity.proofs.Ranges.{tells_one}
use Rattle.questions.proofs.parts.Parts.overlaps_from.Goals as goal

pub returns-in_default : goal.returns-in_default
returns-in_default g c =
    let self = c.args.self.now in
    let xs = g.K.Keeper.codes self.keeper.now in
    let test = is_overlap (cut xs self.first) (cut xs self.second) in
    let found = rw c.lengths.ensures at c.in_ok-longest.ensures in
    let longest = greatest_overlap xs self.first self.second c.args.least _ (Some c.in_ok-longest.longest) self.first_lies self.second_lies refl found in
    subst (λ p. Tells test c.args.least (c.args.least + c.args.least) (Some p)) (sym c.alone.ensures)
    (tells_one test c.args.least (c.args.least + c.args.least) c.in_ok-longest.longest longest c.in_default.ensures)

pub returns : goal.returns
returns g c =
    let self = c.args.self.now in
    let xs = g.K.Keeper.codes self.keeper.now in
    let test = is_overlap (cut xs self.first) (cut xs self.second) in
    let found = rw c.lengths.ensures at c.in_ok-longest.ensures in
    let longest = greatest_overlap xs self.first self.second c.args.least _ (Some c.in_ok-longest.longest) self.first_lies self.second_lies refl found in
    subst (λ p. Tells test c.args.least (c.args.least + c.args.least) (Some p)) (sym c.progression.ensures)
    (overlaps_told (cut xs self.first) (cut xs self.second) c.args.least c.in_ok-longest.longest c.in-Some.next longest c.in-Some.ensures)
