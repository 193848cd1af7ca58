-- What has been written, and what is left.
use Rattle.job_stream.proofs.Writing.{Written}
use Rattle.job_stream.proofs.write_whole.Given as goal

abbrev pub invariant-loop-call : goal.invariant-loop-call
invariant-loop-call g l = Written (g.W.Write.contents l.fn.output) (g.W.Write.contents l.output) l.bytes l.rest
