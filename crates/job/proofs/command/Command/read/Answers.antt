-- What is read is spelled so, and what is spelled so is read.
use Rattle.std.proofs.Common.{arith}
use Rattle.job.proofs.Spelled.{read_spelled, spelled_read}
use Rattle.job.proofs.command.Command.read.Goals as goal

pub returns-clause-spelled : goal.returns-clause-spelled
returns-clause-spelled c = read_spelled c.args.bytes.now _ (λ i. omega (arith, c.type_inv.bytes i)) c.at_front.ensures

pub returns-clause-only : goal.returns-clause-only
returns-clause-only c = spelled_read c.args.bytes.now _ c.at_front.ensures
