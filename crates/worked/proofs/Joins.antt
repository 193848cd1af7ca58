-- How proofs of examples are put together. Assumes nothing.
use Rattle.std.proofs.Common.{[], ◌∷◌, ◌++◌}
use Rattle.worked.specs.Examples.{Examples, AllHold}

infixr 20 ◌also◌
-- one more example holds
pub ◌also◌ : {example rest : Type 0} → example → rest → example × rest
◌also◌ holds more = (holds, more)

-- two parts of the table hold
pub both_hold : (part rest : Examples) → AllHold part → AllHold rest → AllHold (part ++ rest)
both_hold [] rest none more = more
both_hold (example ∷ part) rest hold more = (hold.0, both_hold part rest hold.1 more)
