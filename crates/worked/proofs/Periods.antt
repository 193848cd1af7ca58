-- The examples of periods compute to what they state, once the records are opened. Assumes nothing.
use Rattle.std.proofs.Common.{refl}
use Rattle.periodicity.specs.Periods.{records_below, written_records}
use Rattle.worked.specs.Examples.{AllHold}
use Rattle.worked.specs.Periods.{periods_examples}
use Rattle.worked.proofs.Joins.{◌also◌}

pub periods_hold : AllHold periods_examples
unfolding records_below written_records
periods_hold = refl also refl also refl also refl also refl also refl also refl also refl also refl also refl also refl also refl also refl also refl also tt
