-- The examples of jobs compute to what they state, once the job and its calls are opened. Assumes nothing.
use Rattle.std.proofs.Common.{refl}
use Rattle.std.specs.Fmt.{digits}
use Rattle.rows.specs.Filing.{find}
use Rattle.rows.specs.Rounds.{is_left, blocks, file_all, rounds_from, settle}
use Rattle.rows.specs.Strips.{strip}
use Rattle.book.specs.Calls.{filing, taken, joined_up, cut_out}
use Rattle.job.specs.Commands.{command_at, entries}
use Rattle.job.specs.Lines.{line_text, printed_by}
use Rattle.job.specs.Runs.{told_of}
use Rattle.worked.specs.Examples.{AllHold}
use Rattle.worked.specs.Jobs.{jobs_examples}
use Rattle.worked.proofs.Joins.{◌also◌}

pub jobs_hold : AllHold jobs_examples
unfolding printed_by told_of entries command_at line_text digits taken filing joined_up cut_out settle rounds_from file_all blocks is_left find strip
jobs_hold = refl also refl also refl also refl also refl also tt
