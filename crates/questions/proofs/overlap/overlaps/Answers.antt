use Rattle.std.proofs.Common.{◌≡◌, None, sym, arith}
use Rattle.std.proofs.lemmas.Bool.Decides.{nat_tests}
use Rattle.periodicity.specs.Fragments.{cut}
use Rattle.periodicity.specs.Overlaps.{is_overlap, overlaps_of}
use Rattle.periodicity.specs.Progressions.{progression_of}
use Rattle.periodicity.proofs.OverlapsTold.{overlaps_named}
use Rattle.periodicity.proofs.Ranges.{progression_of_tells, names_tells}
use Rattle.questions.specs.Outcomes.{overlaps_check}
use Rattle.questions.proofs.Checks.{answered_unchecked}
use Rattle.questions.proofs.overlap.overlaps.Goals as goal

pub returns : goal.returns
returns g c =
    let parts = c.in_ok-parts.parts in
    let same = c.in_ok-parts.ensures.parts in
    let xs = g.K.Keeper.codes parts.keeper.now in
    let least = c.args.least in
    let answer = c.overlaps_from.result in
    let unchecked : overlaps_check xs parts.first parts.second least ≡ None = grind (arith, nat_tests, parts.first_lies, parts.second_lies) in
    let test = is_overlap (cut xs parts.first) (cut xs parts.second) in
    record {
      value = rw (← same.0, ← same.1, ← same.2)
          (answered_unchecked (overlaps_check xs parts.first parts.second least) answer (progression_of (overlaps_of (cut xs parts.first) (cut xs parts.second) least)) unchecked (sym (progression_of_tells test least least answer c.overlaps_from.ensures)));
      law = rw (← same.0, ← same.1, ← same.2) (unchecked, overlaps_named (cut xs parts.first) (cut xs parts.second) least answer (names_tells test least least answer c.overlaps_from.ensures));
    }
