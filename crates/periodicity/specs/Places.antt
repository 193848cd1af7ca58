-- The places of a pattern in a field of a strip, and what an answer says of them. Assumes nothing.
use Rattle.std.specs.Prelude.{◌≡◌, ℕ, ◌+◌, ◌-◌, ◌<◌, ◌≤◌, Bool, ◌↔◌, List, filter, Option, slice_index}
use Rattle.std.specs.List.{range_with_len, ContainsAt}
use Rattle.std.specs.List.Sorted.{IsStrictlyIncreasing}
use Rattle.periodicity.specs.declared.Fragment.{Fragment}
use Rattle.periodicity.specs.declared.Progression.{Progression}
use Rattle.periodicity.specs.Agreement.{same}
use Rattle.periodicity.specs.Fragments.{part, cut}
use Rattle.periodicity.specs.Progressions.{named, Names}

-- the pattern stands in the field, at place i of the strip: the field has room for it there, and the strip's codes from i on
-- are, one by one, the pattern's
pub record PlaceIn (xs : List ℕ) (pattern field : Fragment) (i : ℕ) : Type 0 where
  pub begins : field.start ≤ i
  pub ends : i + pattern.length ≤ field.start + field.length
  pub each : (k : ℕ) → k < pattern.length → slice_index xs (i + k) ≡ slice_index xs (pattern.start + k)

-- whether the codes from place i on, as many as the pattern has, are the pattern's
abbrev pub is_place : List ℕ → Fragment → ℕ → Bool
is_place xs pattern i = same (part xs i pattern.length) (cut xs pattern)

-- all places of the pattern in the field, ascending: starts, counted in the strip, of those parts of
-- the field that have the pattern's length and codes
abbrev pub places_of : List ℕ → Fragment → Fragment → List ℕ
places_of xs pattern field = filter (is_place xs pattern) (range_with_len field.start (field.length + 1 - pattern.length))

-- what an answer says of the places of a pattern in a field
pub record PlacesNamed (xs : List ℕ) (pattern field : Fragment) (answer : Option Progression) : Type 0 where
  -- it names all of them and counts them
  pub names : Names answer (places_of xs pattern field)
  -- ascending, each once
  pub ascending : IsStrictlyIncreasing (named answer)
  -- a number is among those exactly when the pattern stands there in the field
  pub exact : (i : ℕ) → ContainsAt (named answer) i ↔ PlaceIn xs pattern field i
