-- The laws of the three questions: unless a check refuses, an answer names exactly what is there.
-- Assumes nothing.
use Rattle.std.specs.Prelude.{◌≡◌, ℕ, Bool, List, take, Some, None, Ok, Err, Option, Result}
use Rattle.periodicity.specs.declared.Fragment.{Fragment}
use Rattle.periodicity.specs.declared.Progression.{Progression}
use Rattle.periodicity.specs.Fragments.{cut}
use Rattle.periodicity.specs.Places.{PlacesNamed}
use Rattle.periodicity.specs.Overlaps.{is_overlap, OverlapsNamed}
use Rattle.periodicity.specs.Periods.{PeriodsNamed}
use Rattle.questions.specs.declared.refusal.Refusal.{Refusal}
use Rattle.questions.specs.Outcomes.{places_check, overlaps_check, periods_check}

-- whether two fragments of a strip overlap in so many codes
abbrev pub overlap_in : List ℕ → Fragment → Fragment → ℕ → Bool
overlap_in xs first second = is_overlap (cut xs first) (cut xs second)

-- a call is refused exactly when a check applies, by the first that does; else its answer keeps the promise
abbrev pub UnlessRefused : {A : Type 0} → Option Refusal → Result A Refusal → (A → Type 0) → Type 0
UnlessRefused check (Ok a) Promise = (check ≡ None) × Promise a
UnlessRefused check (Err refusal) Promise = check ≡ Some refusal

-- first, step and count name exactly the places where the pattern's codes stand in the field, ascending, each
-- once
abbrev pub PlacesLaw : List ℕ → Fragment → Fragment → Result (Option Progression) Refusal → Type 0
PlacesLaw xs pattern field r = UnlessRefused (places_check xs pattern field) r (PlacesNamed xs pattern field)

-- .. exactly the lengths from d to 2d − 1 of suffixes of the second fragment that are prefixes of the first,
-- likewise
abbrev pub OverlapsLaw : List ℕ → Fragment → Fragment → ℕ → Result (Option Progression) Refusal → Type 0
OverlapsLaw xs first second least r = UnlessRefused (overlaps_check xs first second least) r (OverlapsNamed (cut xs first) (cut xs second) least)

-- the first 17 records name, range of borders by range, exactly the distances at which the fragment agrees with
-- itself, which are its periods, ascending, each once
abbrev pub PeriodsLaw : List ℕ → Fragment → ℕ → List Progression → Result (Unit {0}) Refusal → Type 0
PeriodsLaw xs fragment supplied records r =
    UnlessRefused (periods_check xs fragment supplied) r (λ _. PeriodsNamed (cut xs fragment) (take 17 records))
