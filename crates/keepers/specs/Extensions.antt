-- What the longest common extensions of two places are, in words that name no way to find them.
-- Assumes nothing.
use Rattle.std.specs.Prelude.{ℕ, ◌<◌, ◌≤◌, ◌⊎◌, List, reverse, length, take, drop, Option, MatchOption}
use Rattle.periodicity.specs.Agreement.{Greatest}

-- n answers for the places i and j of a strip: both lie within it, and n is the greatest number of codes
-- in which `left` and `right`, what lies on one side of i and on the same side of j, agree
pub record LongestWithin (strip : List ℕ) (i j : ℕ) (left right : List ℕ) (n : ℕ) : Type 0 where
  pub first_within : i ≤ length strip
  pub second_within : j ≤ length strip
  pub agreeing : Greatest left right n

-- an absent answer says that a place is above the length, and a present one is the greatest and says that
-- none is: so an answer is absent exactly when a place is above the length
abbrev pub Longest : List ℕ → ℕ → ℕ → List ℕ → List ℕ → Option ℕ → Type 0
Longest strip i j left right answer = MatchOption answer ((length strip < i) ⊎ (length strip < j)) (LongestWithin strip i j left right)

-- ahead of two places lies what follows from them on
abbrev pub GreatestAhead : List ℕ → ℕ → ℕ → Option ℕ → Type 0
GreatestAhead strip i j answer = Longest strip i j (drop i strip) (drop j strip) answer

-- behind two places lies what comes just before them, going back
abbrev pub GreatestBehind : List ℕ → ℕ → ℕ → Option ℕ → Type 0
GreatestBehind strip i j answer = Longest strip i j (reverse (take i strip)) (reverse (take j strip)) answer
