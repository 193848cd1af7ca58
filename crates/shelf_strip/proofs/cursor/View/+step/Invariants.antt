-- The sum of the numbers falls: one of them goes down to a part.
use Rattle.std.proofs.Common.{◌+◌}
use Rattle.shelf_strip.proofs.cursor.View.+step.Given as goal

abbrev pub decreases-step : goal.decreases-step
decreases-step l = l.left.number + l.right.number
