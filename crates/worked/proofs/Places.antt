-- The examples of places compute to what they state. Assumes nothing.
use Rattle.std.proofs.Common.{refl}
use Rattle.worked.specs.Examples.{AllHold}
use Rattle.worked.specs.Places.{places_examples}
use Rattle.worked.proofs.Joins.{◌also◌}

pub places_hold : AllHold places_examples
places_hold = refl also refl also refl also refl also refl also refl also refl also refl also refl also refl also refl also tt
