-- Examples: statements about definite strips and numbers. Assumes nothing.
use Rattle.std.specs.Prelude.{List, [], ◌∷◌}

-- an example is what it states
abbrev pub Examples : Type 1
Examples = List (Type 0)

-- each of them holds
abbrev pub AllHold : Examples → Type 0
AllHold [] = Unit {0}
AllHold (example ∷ more) = example × AllHold more
