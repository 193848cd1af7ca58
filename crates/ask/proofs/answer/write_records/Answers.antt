-- One record more, whether it is in use or not.
use Rattle.std.proofs.Common.{◌≡◌, length, refl, arith, rules}
use Rattle.ask.proofs.Records.{sofar_skip, sofar_more}
use Rattle.ask.proofs.answer.write_records.Goals as goal
use Rattle.ask.proofs.answer.write_records.Goals.{then-record-gt0+in_ok-write, else-record-gt0}

pub loop-record-preserved : goal.loop-record-preserved
loop-record-preserved g c =
    let full : length c.args.records ≡ 17 = search rules in
    elim c.if-record-gt0.branch [
      | then-record-gt0+in_ok-write w ↦ rw (w.before-is, w.f-is) (search rules, sofar_more g.W.Write.write_str_gives c.args.f.now c.args.records c.loop-record.before.now c.loop-record.record-index c.loop-record.f c.loop-record.invariant.1 w.write.new.self (omega arith) w.if-record-gt0.true (λ plain. w.in_ok-write.ensures.writes plain refl))
      | else-record-gt0 w ↦ rw (w.before-is, w.f-is) (c.loop-record.invariant.0, sofar_skip g.W.Write.write_str_gives c.args.f.now c.args.records c.loop-record.before.now c.loop-record.record-index c.loop-record.f c.loop-record.invariant.1 (omega arith) (omega (arith, w.if-record-gt0.false)))
    ]
