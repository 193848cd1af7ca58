-- How the answers of a layer come from those of the list below it. Assumes nothing.
use Rattle.std.specs.Prelude.{◌≡◌, ℕ, ◌+◌, ◌-◌, ◌<◌, ◌≤◌, min, List, reverse, length, Option}
use Rattle.std.specs.Option.{option_map}
use Rattle.periodicity.specs.declared.Fragment.{Fragment}
use Rattle.periodicity.specs.Agreement.{code_of}
use Rattle.periodicity.specs.Fragments.{part}
use Rattle.keepers.specs.Sides.{extension_of, turned, room_on}
use Rattle.keepers.specs.declared.side.Side.{Side}

-- what is left of an answer where no more codes are counted than there is space for
unfoldable pub capped : ℕ → Option ℕ → Option ℕ
capped space answer = option_map (λ n. min n space) answer

-- a window of any start and size shows a fragment of the list below: the window's place i is below at the
-- fragment's start + i, and a common length is cut at the window's ends
pub record WindowAnswers (below : List ℕ) (start size : ℕ) (fragment : Fragment) : Type 0 where
  pub long : fragment.length ≡ length (part below start size)
  pub inside : fragment.start + fragment.length ≤ length below
  pub code : (i : ℕ) → i < fragment.length → code_of below (fragment.start + i) ≡ code_of (part below start size) i
  pub extension : (side : Side) (i j : ℕ) → i ≤ fragment.length → j ≤ fragment.length
      → capped (room_on side fragment.length i j) (extension_of side below (fragment.start + i) (fragment.start + j)) ≡ extension_of side (part below start size) i j

-- a list backwards has as many codes as the list below: the code at a place has as many before it as it has
-- after it below, and what is ahead in one is behind in the other
pub record ReversedAnswers (below : List ℕ) (many : ℕ) : Type 0 where
  pub long : many ≡ length (reverse below)
  pub code : (i : ℕ) → i < many → code_of below (many - 1 - i) ≡ code_of (reverse below) i
  pub extension : (side : Side) (i j : ℕ) → i ≤ many → j ≤ many → extension_of (turned side) below (many - i) (many - j) ≡ extension_of side (reverse below) i j
