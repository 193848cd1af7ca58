-- The examples of overlaps compute to what they state. Assumes nothing.
use Rattle.std.proofs.Common.{refl}
use Rattle.worked.specs.Examples.{AllHold}
use Rattle.worked.specs.Overlaps.{overlaps_examples}
use Rattle.worked.proofs.Joins.{◌also◌}

pub overlaps_hold : AllHold overlaps_examples
overlaps_hold = refl also refl also refl also refl also refl also refl also refl also refl also refl also refl also tt
