use Rattle.recompression.proofs.table.Table.+code_at.Given as goal

abbrev pub decreases-code_at : goal.decreases-code_at
decreases-code_at l = l.number
