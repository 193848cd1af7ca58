-- What is left to show of `truncate`. Assumes nothing.
use Rattle.std.proofs.Common.{sym, subst}
use Rattle.recompression.specs.Tables.{Sound}
use Rattle.recompression.proofs.SlotFacts.{truncated_sound}
use Rattle.recompression.proofs.table.Table.truncate.Goals as goal

pub invariant_of-self : goal.invariant_of-self
invariant_of-self c =
    let is = c.truncate.ensures.slots in
    record {
      sound = subst Sound (sym is) (truncated_sound c.args.count c.args.self.now.slots c.truncate.new.self.index c.args.self.now.sound c.truncate.ensures.indexed);
    }
