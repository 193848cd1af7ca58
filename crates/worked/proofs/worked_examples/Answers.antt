-- The table holds, one subject after the other.
use Rattle.std.proofs.Common.{◌++◌}
use Rattle.worked.specs.Agreement.{agreement_examples}
use Rattle.worked.specs.Places.{places_examples}
use Rattle.worked.specs.Overlaps.{overlaps_examples}
use Rattle.worked.specs.Periods.{periods_examples}
use Rattle.worked.specs.Shelf.{shelf_examples}
use Rattle.worked.proofs.Joins.{both_hold}
use Rattle.worked.proofs.Agreement.{agreement_hold}
use Rattle.worked.proofs.Places.{places_hold}
use Rattle.worked.proofs.Overlaps.{overlaps_hold}
use Rattle.worked.proofs.Periods.{periods_hold}
use Rattle.worked.proofs.Shelf.{shelf_hold}
use Rattle.worked.proofs.worked_examples.Goals as goal

pub returns-clause-hold : goal.returns-clause-hold
returns-clause-hold c =
    both_hold agreement_examples (places_examples ++ (overlaps_examples ++ (periods_examples ++ shelf_examples))) agreement_hold
    (both_hold places_examples (overlaps_examples ++ (periods_examples ++ shelf_examples)) places_hold
    (both_hold overlaps_examples (periods_examples ++ shelf_examples) overlaps_hold
    (both_hold periods_examples shelf_examples periods_hold shelf_hold)))
