-- Periods and borders of a list, and the records that name them. Assumes nothing.
use Rattle.std.specs.Prelude.{◌≡◌, ℕ, zero, suc, ◌+◌, ◌-◌, ◌^◌, ◌<◌, ◌≤◌, Bool, ◌&&◌, ◌↔◌, ◌⊎◌, List, [], ◌∷◌, ◌++◌, length, take, drop, replicate, filter, nat_le, nat_lt, slice_index}
use Rattle.std.specs.List.{range_with_len, flat_map, ContainsAt, All}
use Rattle.std.specs.List.Sorted.{IsStrictlyIncreasing}
use Rattle.std.specs.Option.{option_to_list}
use Rattle.periodicity.specs.declared.Progression.{Progression}
use Rattle.periodicity.specs.Agreement.{same}
use Rattle.periodicity.specs.Progressions.{triple, named_by, progression_of, Proper}

-- p is a period: every code equals the one p further on, where there is one
abbrev pub Period : List ℕ → ℕ → Type 0
Period xs p = (i : ℕ) → i + p < length xs → slice_index xs i ≡ slice_index xs (i + p)

-- the same as a test
abbrev pub has_period : List ℕ → ℕ → Bool
has_period xs p = same (drop p xs) (take (length xs - p) xs)

-- all periods from 1 to the length, ascending
abbrev pub periods_of : List ℕ → List ℕ
periods_of xs = filter (has_period xs) (range_with_len 1 (length xs))

-- whether a border, the length less a period, is from 2^t to 2^(t+1) − 1
abbrev pub border_in : ℕ → ℕ → Bool
border_in t border = nat_le (2 ^ t) border && nat_lt border (2 ^ (t + 1))

-- the periods whose borders lie in range t, ascending
abbrev pub periods_in : List ℕ → ℕ → List ℕ
periods_in xs t = filter (λ p. border_in t (length xs - p)) (periods_of xs)

-- the records of the ranges below t, greatest first: a range without a border gives none, and border 0,
-- whose period is the length, gives the last
unfoldable pub records_below : List ℕ → ℕ → List Progression
records_below xs zero = triple (length xs) 0 1 ∷ []
records_below xs (suc t) = option_to_list (progression_of (periods_in xs t)) ++ records_below xs t

-- the records of a list of at most 65,535 codes: its borders are below 2^16
abbrev pub records_of : List ℕ → List Progression
records_of xs = records_below xs 16

-- the 17 records that are written: those in use, then three zeros for each that is not
unfoldable pub written_records : List ℕ → List Progression
written_records xs = records_of xs ++ replicate (17 - length (records_of xs)) (triple 0 0 0)

-- p is a period whose border, the length less p, is from 2^t to 2^(t+1) − 1
pub record PeriodInRange (xs : List ℕ) (t p : ℕ) : Type 0 where
  pub positive : 1 ≤ p
  pub fits : p ≤ length xs
  pub period : Period xs p
  pub border_from : 2 ^ t ≤ length xs - p
  pub border_below : length xs - p < 2 ^ (t + 1)

-- a record names at least one number, each once, ascending, and exactly the periods whose borders lie in range t
pub record RangeNamed (xs : List ℕ) (t : ℕ) (r : Progression) : Type 0 where
  pub proper : Proper r
  pub ascending : IsStrictlyIncreasing (named_by r)
  pub exact : (p : ℕ) → ContainsAt (named_by r) p ↔ PeriodInRange xs t p

-- records name the periods range by range, from the range next below t down. A range in which no border lies has no
-- record; else the record in front names the range. Below range 0 stands the record of border 0, which names the
-- length alone, and after it are three zeros for each record that is not in use
abbrev pub RangeByRange : List ℕ → ℕ → List Progression → Type 0
RangeByRange xs zero records = (rest : List Progression) × (records ≡ triple (length xs) 0 1 ∷ rest) × All (λ r. r ≡ triple 0 0 0) rest
RangeByRange xs (suc t) records =
    (((p : ℕ) → PeriodInRange xs t p → ⊥) × RangeByRange xs t records)
    ⊎ ((r : Progression) × (rest : List Progression) × (records ≡ r ∷ rest) × RangeNamed xs t r × RangeByRange xs t rest)

-- what records say of the periods of a list
pub record PeriodsNamed (xs : List ℕ) (records : List Progression) : Type 0 where
  -- there are 17
  pub many : length records ≡ 17
  -- each in use names the periods of one range of borders, the greatest range first and border 0 last; borders of
  -- at most 65,535 codes are below 2^16
  pub ranges : RangeByRange xs 16 records
  -- one record after the other, they name all periods, ascending, each once
  pub once : flat_map named_by records ≡ periods_of xs
  -- a number is among those exactly when it is a distance, from 1 to the length, at which the list agrees
  -- with itself
  pub exact : (p : ℕ) → ContainsAt (flat_map named_by records) p ↔ ((1 ≤ p) × (p ≤ length xs) × Period xs p)
