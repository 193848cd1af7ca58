-- What has been printed, and the bytes that are left.
use Rattle.std.proofs.Common.{length, string_bytes}
use Rattle.job.specs.Desks.{standing_of}
use Rattle.job.proofs.Turns.{PrintsAll}
use Rattle.job.proofs.running.run_commands.Given as goal

-- together they come to all that is printed
abbrev pub invariant-loop-command : goal.invariant-loop-command
invariant-loop-command l = PrintsAll (string_bytes l.text) (standing_of l.desk) l.job l.rest

abbrev pub decreases-loop-command : goal.decreases-loop-command
decreases-loop-command l = length l.rest
