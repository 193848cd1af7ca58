use Rattle.std.proofs.Common.{◌≡◌, length, take, drop, None, sym, ap, ◌∙◌, subst, arith}
use Rattle.std.proofs.lemmas.List.{take_at}
use Rattle.std.proofs.lemmas.Bool.Decides.{nat_tests}
use Rattle.periodicity.specs.Fragments.{cut}
use Rattle.periodicity.specs.Periods.{written_records, PeriodsNamed}
use Rattle.periodicity.proofs.RecordsTold.{written_named}
use Rattle.periodicity.proofs.Sameness.{length_part}
use Rattle.questions.specs.Outcomes.{periods_check}
use Rattle.questions.proofs.Writes.{all_written}
use Rattle.questions.proofs.period.periods.Goals as goal

pub returns-clause-law : goal.returns-clause-law
returns-clause-law g c =
    let part = c.in_ok-part.part in
    let same = c.in_ok-part.ensures.part in
    let old = c.args.records.now in
    let after = c.write_records.new.records in
    let xs = g.K.Keeper.codes part.keeper.now in
    let w = cut xs part.fragment in
    let unchecked : periods_check xs part.fragment (length old) ≡ None = grind (arith, nat_tests, part.lies, part.some) in
    let long = length_part xs part.fragment.start part.fragment.length part.lies in
    let first : take 17 after ≡ written_records w = ap (take 17) c.write_records.ensures ∙ take_at (written_records w) (drop 17 old) 17 (all_written w).1 in
    rw (← same.0, ← same.1) (unchecked, subst (λ rs. PeriodsNamed w rs) (sym first) (written_named w (omega (arith, part.some)) (omega (arith, g.met.K.Keeper.short part.keeper.now))))
