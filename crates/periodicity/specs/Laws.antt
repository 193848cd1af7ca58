-- The facts of periodicity that the answers rest on, each in one statement. Assumes nothing.
use Rattle.std.specs.Prelude.{◌≡◌, ℕ, ◌+◌, ◌-◌, ◌*◌, ◌%◌, ◌<◌, ◌≤◌, true, ◌↔◌, List, length}
use Rattle.std.specs.List.{ContainsAt}
use Rattle.periodicity.specs.declared.Fragment.{Fragment}
use Rattle.periodicity.specs.Agreement.{same, common, Greatest}
use Rattle.periodicity.specs.Fragments.{inside}
use Rattle.periodicity.specs.Overlaps.{overlaps_of, Overlap}
use Rattle.periodicity.specs.Periods.{Period, has_period, written_records, PeriodsNamed}
use Rattle.periodicity.specs.Places.{places_of, PlaceIn}
use Rattle.periodicity.specs.Progressions.{progression_of, Names}

-- the tests mean what they say: two lists are the same exactly when they are equal, and a list passes the
-- test of a period exactly when it has it
abbrev pub TestsHold : Type 0
TestsHold = ((xs ys : List ℕ) → (same xs ys ≡ true) ↔ (xs ≡ ys)) × ((xs : List ℕ) (p : ℕ) → (has_period xs p ≡ true) ↔ Period xs p)

-- the common length is the greatest in which two lists agree
abbrev pub CommonGreatest : Type 0
CommonGreatest = (xs ys : List ℕ) → Greatest xs ys (common xs ys)

-- the difference of two periods is a period, when their sum is at most the length
abbrev pub DifferenceRepeats : Type 0
DifferenceRepeats = (xs : List ℕ) (p q : ℕ) → q ≤ p → p + q ≤ length xs → Period xs p → Period xs q → Period xs (p - q)

-- the least period divides each other period, when their sum is at most the length
abbrev pub LeastDivides : Type 0
LeastDivides = (xs : List ℕ) (p q : ℕ) → 0 < p → Period xs p → ((r : ℕ) → 0 < r → r < p → Period xs r → ⊥) → Period xs q → q + p ≤ length xs → q % p ≡ 0

-- overlaps of lengths from d to 2d − 1 are a progression
abbrev pub OverlapsProgress : Type 0
OverlapsProgress = (first second : List ℕ) (d : ℕ) → Names (progression_of (overlaps_of first second d)) (overlaps_of first second d)

-- of a pattern and a field that lie in the list, with the field shorter than twice the pattern, the places are a
-- progression
abbrev pub PlacesProgress : Type 0
PlacesProgress = (xs : List ℕ) (pattern field : Fragment) → inside xs pattern ≡ true → inside xs field ≡ true → field.length < 2 * pattern.length
    → Names (progression_of (places_of xs pattern field)) (places_of xs pattern field)

-- the overlaps listed are exactly the lengths from d to 2d − 1 in which the lists overlap
abbrev pub OverlapsExact : Type 0
OverlapsExact = (first second : List ℕ) (d n : ℕ) → ContainsAt (overlaps_of first second d) n ↔ ((d ≤ n) × (n < 2 * d) × Overlap first second n)

-- of a pattern and a field that lie in the list, the places listed are exactly those where the pattern stands in the
-- field
abbrev pub PlacesExact : Type 0
PlacesExact = (xs : List ℕ) (pattern field : Fragment) → inside xs pattern ≡ true → inside xs field ≡ true
    → (i : ℕ) → ContainsAt (places_of xs pattern field) i ↔ PlaceIn xs pattern field i

-- of a list of 1 to 65,535 codes, the records name its periods, range of borders by range, and joined all of them,
-- each once
abbrev pub RecordsName : Type 0
RecordsName = (xs : List ℕ) → 1 ≤ length xs → length xs ≤ 65535 → PeriodsNamed xs (written_records xs)
