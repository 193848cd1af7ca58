-- One command more, and the end.
use Rattle.std.proofs.Common.{string_bytes}
use Rattle.job.proofs.Turns.{prints_line, prints_end}
use Rattle.job.proofs.running.run_commands.Goals as goal

pub loop-command-preserved-in_ok-print : goal.loop-command-preserved-in_ok-print
loop-command-preserved-in_ok-print c =
    prints_line (string_bytes c.loop-command.text) _ _ _ _ _ _ _ _ _ c.loop-command.invariant c.in-Some.ensures c.in_ok-line.ensures.done c.in-Some-2.is c.in_ok-print.ensures

pub returns : goal.returns
returns c = prints_end (string_bytes c.loop-command.text) _ _ _ _ c.loop-command.invariant c.in_default.ensures c.in_ok-print_stop.ensures
