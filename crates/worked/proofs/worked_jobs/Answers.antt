-- The examples of jobs hold.
use Rattle.worked.proofs.Jobs.{jobs_hold}
use Rattle.worked.proofs.worked_jobs.Goals as goal

pub returns-clause-hold : goal.returns-clause-hold
returns-clause-hold c = jobs_hold
