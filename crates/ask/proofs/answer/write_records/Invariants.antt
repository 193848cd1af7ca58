-- What has been written, and the records that are left.
use denote.Shadow.{shadow}
use denote.Text.{Utf8}
use Rattle.std.proofs.Common.{drop}
use Rattle.ask.proofs.Records.{Sofar}
use Rattle.ask.proofs.answer.write_records.Given as goal

abbrev pub invariant-loop-record : goal.invariant-loop-record
invariant-loop-record g l = shadow (Utf8 l.before) × Sofar g.W.Write.write_str_gives l.initial.f l.record-items l.before (drop l.record-index l.record-items) l.f
