use Rattle.std.proofs.Common.{◌+◌, ◌-◌, sym}
use Rattle.periodicity.specs.Places.{is_place, places_of}
use Rattle.periodicity.specs.Progressions.{progression_of}
use Rattle.periodicity.proofs.PlacesTold.{places_named}
use Rattle.periodicity.proofs.Ranges.{progression_of_tells, names_tells}
use Rattle.questions.specs.Outcomes.{places_check}
use Rattle.questions.proofs.Checks.{answered_unchecked}
use Rattle.questions.proofs.place.places.Goals as goal

pub returns : goal.returns
returns g c =
    let parts = c.in_ok-parts.parts in
    let same = c.in_ok-parts.ensures.parts in
    let xs = g.K.Keeper.codes parts.keeper.now in
    let pattern = parts.first in
    let field = parts.second in
    let answer = c.places.result in
    let unchecked = c.places.ensures.unchecked in
    let test = is_place xs pattern in
    let size = field.length + 1 - pattern.length in
    record {
      value = rw (← same.0, ← same.1, ← same.2)
          (answered_unchecked (places_check xs pattern field) answer (progression_of (places_of xs pattern field)) unchecked (sym (progression_of_tells test field.start size answer c.places.ensures.places)));
      law = rw (← same.0, ← same.1, ← same.2) (unchecked, places_named xs pattern field parts.first_lies parts.second_lies answer (names_tells test field.start size answer c.places.ensures.places));
    }
