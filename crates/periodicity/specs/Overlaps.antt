-- The overlaps of two lists, suffixes of the second that are prefixes of the first, and what an answer says
-- of them. Assumes nothing.
use Rattle.std.specs.Prelude.{◌≡◌, ℕ, ◌+◌, ◌-◌, ◌*◌, ◌<◌, ◌≤◌, Bool, ◌&&◌, ◌↔◌, List, length, take, drop, filter, Option, nat_le, slice_index}
use Rattle.std.specs.List.{range_with_len, ContainsAt}
use Rattle.std.specs.List.Sorted.{IsStrictlyIncreasing}
use Rattle.periodicity.specs.declared.Progression.{Progression}
use Rattle.periodicity.specs.Agreement.{same}
use Rattle.periodicity.specs.Progressions.{named, Names}

-- two lists overlap in n codes: both have so many, and the last n of the second are, one by one, the first n
-- of the first
pub record Overlap (first second : List ℕ) (n : ℕ) : Type 0 where
  pub in_first : n ≤ length first
  pub in_second : n ≤ length second
  pub each : (k : ℕ) → k < n → slice_index second (length second - n + k) ≡ slice_index first k

-- whether the last n codes of the second list are the first n of the first
abbrev pub is_overlap : List ℕ → List ℕ → ℕ → Bool
is_overlap first second n = (nat_le n (length first) && nat_le n (length second)) && same (drop (length second - n) second) (take n first)

-- all lengths from d to 2d − 1 of suffixes of the second list that are prefixes of the first, ascending
abbrev pub overlaps_of : List ℕ → List ℕ → ℕ → List ℕ
overlaps_of first second d = filter (is_overlap first second) (range_with_len d d)

-- what an answer says of the overlaps of lengths from d to 2d − 1
pub record OverlapsNamed (first second : List ℕ) (d : ℕ) (answer : Option Progression) : Type 0 where
  -- it names all of them and counts them
  pub names : Names answer (overlaps_of first second d)
  -- ascending, each once
  pub ascending : IsStrictlyIncreasing (named answer)
  -- a number is among those exactly when it is from d to 2d − 1 and the lists overlap in so many codes
  pub exact : (n : ℕ) → ContainsAt (named answer) n ↔ ((d ≤ n) × (n < 2 * d) × Overlap first second n)
