-- The two sides of a place, and the longest common extensions on either. Assumes nothing.
use Rattle.std.specs.Prelude.{◌≡◌, ℕ, ◌-◌, ◌↔◌, min, max, List, Option}
use Rattle.periodicity.specs.Agreement.{ahead_of, behind_of}
use Rattle.keepers.specs.Extensions.{GreatestAhead, GreatestBehind}
use Rattle.keepers.specs.declared.side.Side.{Side}
use Rattle.keepers.specs.declared.side.Side.TheVariants.{Ahead, Behind}

-- the longest common extension on a side of two places
abbrev pub extension_of : Side → List ℕ → ℕ → ℕ → Option ℕ
extension_of Ahead strip i j = ahead_of strip i j
extension_of Behind strip i j = behind_of strip i j

-- that an answer is the greatest on a side of two places
abbrev pub GreatestOn : Side → List ℕ → ℕ → ℕ → Option ℕ → Type 0
GreatestOn Ahead strip i j answer = GreatestAhead strip i j answer
GreatestOn Behind strip i j answer = GreatestBehind strip i j answer

-- the theorem of the extensions: an answer is the one that is defined exactly when it is the greatest
abbrev pub ExtensionsGreatest : Type 0
ExtensionsGreatest = (side : Side) (strip : List ℕ) (i j : ℕ) (answer : Option ℕ) → (answer ≡ extension_of side strip i j) ↔ GreatestOn side strip i j answer

-- the side that it is in the same list backwards
abbrev pub turned : Side → Side
turned Ahead = Behind
turned Behind = Ahead

-- how many codes there are on a side of both places, where they lie within a list of that size
abbrev pub room_on : Side → ℕ → ℕ → ℕ → ℕ
room_on Ahead size i j = size - max i j
room_on Behind size i j = min i j
