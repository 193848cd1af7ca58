use Rattle.std.proofs.Common.{◌≡◌, ◌+◌, ◌-◌, Some, sym, refl, subst, arith, rules, tests}
use Rattle.periodicity.specs.Places.{is_place}
use Rattle.periodicity.specs.Ranges.{Tells}
use Rattle.periodicity.proofs.PlacesTold.{places_agree, places_told}
use Rattle.questions.proofs.parts.Parts.places.Goals as goal

pub progression-requires-clause-whole : goal.progression-requires-clause-whole
progression-requires-clause-whole g c =
    let self = c.args.self.now in
    let first = c.in_ok-first.ensures in
    let second = c.in-Some.ensures in
    places_agree (g.K.Keeper.codes self.keeper.now) self.first c.in_ok-first.first c.in-Some.second c.common_ahead-agreeing.result self.first_lies
    (omega (arith, first.1)) (omega (arith, second.1)) first.2 second.2 c.common_ahead-agreeing.ensures

pub returns-clause-places : goal.returns-clause-places
returns-clause-places g c =
    let self = c.args.self.now in
    let xs = g.K.Keeper.codes self.keeper.now in
    let field = self.second in
    let spare : c.in_ok-spare.spare ≡ field.length - self.first.length = search (rules, tests) in
    let told = rw spare at c.progression.ensures in
    subst (λ p. Tells (is_place xs self.first) field.start (field.start + (field.length + 1 - self.first.length)) (Some p)) (sym told)
    (places_told xs self.first field c.in_ok-first.first c.in-Some.second c.common_ahead-agreeing.result
    self.first_lies self.second_lies c.requires.near (search (rules, tests)) _
    (rw spare at c.in_ok-first.ensures) (rw spare at c.in-Some.ensures) c.common_ahead-agreeing.ensures refl)
