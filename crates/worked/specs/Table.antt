-- The table of worked examples, one subject after the other; those of jobs stand beside it. Assumes nothing.
use Rattle.std.specs.Prelude.{◌++◌}
use Rattle.worked.specs.Examples.{Examples}
use Rattle.worked.specs.Agreement.{agreement_examples}
use Rattle.worked.specs.Places.{places_examples}
use Rattle.worked.specs.Overlaps.{overlaps_examples}
use Rattle.worked.specs.Periods.{periods_examples}
use Rattle.worked.specs.Shelf.{shelf_examples}

abbrev pub worked_table : Examples
worked_table = agreement_examples ++ (places_examples ++ (overlaps_examples ++ (periods_examples ++ shelf_examples)))
