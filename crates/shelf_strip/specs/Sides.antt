-- A number's strip, seen from either side. Assumes nothing.
use Rattle.std.specs.Prelude.{ℕ, List, reverse}
use Rattle.rows.specs.declared.Row.{Row}
use Rattle.rows.specs.Strips.{strip}
use Rattle.keepers.specs.declared.side.Side.{Side}
use Rattle.keepers.specs.declared.side.Side.TheVariants.{Ahead, Behind}

-- from the start on, or from the end back
abbrev pub seen : Side → List Row → ℕ → List ℕ
seen Ahead rows n = strip rows n
seen Behind rows n = reverse (strip rows n)

-- the part of a pair that comes first from that side, and the one that comes second
abbrev pub first_of : Side → ℕ → ℕ → ℕ
first_of Ahead left right = left
first_of Behind left right = right

abbrev pub second_of : Side → ℕ → ℕ → ℕ
second_of Ahead left right = right
second_of Behind left right = left
