use Rattle.std.proofs.Common.{◌+◌, ◌-◌, Some, None, ap, ◌∙◌, arith}
use Rattle.std.proofs.lemmas.Nat.{one_shl}
use Rattle.periodicity.specs.declared.Fragment.{Fragment}
use Rattle.periodicity.proofs.Extensions.{no_longer_overlap}
use Rattle.periodicity.proofs.RecordsRead.{record_from_borders}
use Rattle.questions.proofs.period.Part.range_record.Goals as goal

pub returns-then-least-self : goal.returns-then-least-self
returns-then-least-self g c =
    let self = c.args.self.now in
    let xs = g.K.Keeper.codes self.keeper.now in
    let rest = self.fragment.length - 1 in
    let first : Fragment = record { start = self.fragment.start; length = rest } in
    let second : Fragment = record { start = self.fragment.start + 1; length = rest } in
    record_from_borders xs self.fragment.start self.fragment.length self.lies self.some c.args.range _ None
    (one_shl c.args.range 64 (omega arith))
    (λ i lo hi. no_longer_overlap xs first second _ (omega (arith, self.lies, self.some)) (omega (arith, self.lies, self.some)) i (omega arith) hi)

pub returns-in_err-borders : goal.returns-in_err-borders
returns-in_err-borders g c =
    let self = c.args.self.now in
    let tells = rw (c.ends.ensures.keeper, c.ends.ensures.first, c.ends.ensures.second) at c.in_err-borders.ensures in
    c.from_residual.ensures ∙ record_from_borders (g.K.Keeper.codes self.keeper.now) self.fragment.start self.fragment.length self.lies self.some c.args.range _ None
    (one_shl c.args.range 64 (omega arith)) tells

pub returns : goal.returns
returns g c =
    let self = c.args.self.now in
    let tells = rw (c.ends.ensures.keeper, c.ends.ensures.first, c.ends.ensures.second) at c.in_ok-borders.ensures in
    ap Some c.borders_record.ensures ∙ record_from_borders (g.K.Keeper.codes self.keeper.now) self.fragment.start self.fragment.length self.lies self.some c.args.range _ (Some c.in_ok-borders.borders)
    (one_shl c.args.range 64 (omega arith)) tells
