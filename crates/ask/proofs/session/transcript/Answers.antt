use Rattle.std.proofs.Common.{rules, tests, string_bytes}
use Rattle.ask.proofs.Lawful.{transcript_lawful}
use Rattle.ask.proofs.session.transcript.Goals as goal

-- what is printed by the definition keeps the law
pub returns-clause-law : goal.returns-clause-law
returns-clause-law c = transcript_lawful c.args.text.now (string_bytes c.loop-i.all) (search (rules, tests))
