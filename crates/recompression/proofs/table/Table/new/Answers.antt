-- What is left to show of `new`. Assumes nothing.
use Rattle.recompression.proofs.SlotFacts.{blank_sound}
use Rattle.recompression.proofs.table.Table.new.Goals as goal

pub invariant_of-result : goal.invariant_of-result
invariant_of-result c = record { sound = blank_sound c.new.result c.new.ensures.rows c.new.ensures.count c.new.ensures.index }
