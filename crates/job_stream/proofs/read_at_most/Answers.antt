-- What was read.
use Rattle.job_stream.proofs.Beginnings.{reads_beginning}
use Rattle.job_stream.proofs.read_at_most.Goals as goal

pub returns-clause-front : goal.returns-clause-front
returns-clause-front g c = reads_beginning g.R.Read.remaining c.take.result _ _ _ _ c.take.ensures.inner c.take.ensures.limit c.new-bytes.ensures.items c.in_ok-read_to_end.ensures.bytes
