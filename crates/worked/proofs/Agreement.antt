-- The examples of codes and longest common extensions compute to what they state. Assumes nothing.
use Rattle.std.proofs.Common.{refl}
use Rattle.worked.specs.Examples.{AllHold}
use Rattle.worked.specs.Agreement.{agreement_examples}
use Rattle.worked.proofs.Joins.{◌also◌}

pub agreement_hold : AllHold agreement_examples
agreement_hold = refl also refl also refl also refl also refl also refl also refl also refl also refl also refl also tt
