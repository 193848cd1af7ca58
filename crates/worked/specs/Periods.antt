-- Worked examples of the periods of a fragment, and of the records that name them. Assumes nothing.
use Rattle.std.specs.Prelude.{◌≡◌, ℕ, List, [], ◌∷◌, ◌++◌, length, replicate}
use Rattle.std.specs.List.{flat_map}
use Rattle.periodicity.specs.declared.Fragment.{Fragment}
use Rattle.periodicity.specs.declared.Progression.{Progression}
use Rattle.periodicity.specs.Fragments.{cut}
use Rattle.periodicity.specs.Periods.{periods_of, written_records}
use Rattle.periodicity.specs.Progressions.{triple, named_by}
use Rattle.questions.specs.Outcomes.{Outcome, answered, refused, checked, periods_check, after_periods}
use Rattle.worked.specs.Examples.{Examples}
use Rattle.worked.specs.Strips.{abababa, aaaaaaa, abcab, lone_a, span}

-- what the question comes to when so many records are supplied
abbrev pub periods_outcome : List ℕ → Fragment → ℕ → Outcome (Unit {0})
periods_outcome xs f supplied = checked (periods_check xs f supplied) tt

-- the caller's records after the question
abbrev pub records_after : List ℕ → Fragment → List Progression → List Progression
records_after xs f old = after_periods (periods_check xs f (length old)) (cut xs f) old

-- records that are not in use
abbrev pub zeros : ℕ → List Progression
zeros n = replicate n (triple 0 0 0)

-- records as a caller may have left them
abbrev pub nines : ℕ → List Progression
nines n = replicate n (triple 9 9 9)

abbrev pub periods_examples : Examples
periods_examples =
    -- every number from 1 to 7 is a period of aaaaaaa
    (periods_of aaaaaaa ≡ 1 ∷ 2 ∷ 3 ∷ 4 ∷ 5 ∷ 6 ∷ 7 ∷ [])
    -- borders 6, 5, 4, then 3, 2, then 1, then the length itself
    ∷ (written_records aaaaaaa ≡ triple 1 1 3 ∷ triple 4 1 2 ∷ triple 6 0 1 ∷ triple 7 0 1 ∷ zeros 13)
    -- which name all periods, each once
    ∷ (flat_map named_by (written_records aaaaaaa) ≡ 1 ∷ 2 ∷ 3 ∷ 4 ∷ 5 ∷ 6 ∷ 7 ∷ [])
    -- abababa repeats by 2, 4, 6 and 7
    ∷ (periods_of abababa ≡ 2 ∷ 4 ∷ 6 ∷ 7 ∷ [])
    -- borders 5, 3 and 1 lie in three ranges
    ∷ (written_records abababa ≡ triple 2 0 1 ∷ triple 4 0 1 ∷ triple 6 0 1 ∷ triple 7 0 1 ∷ zeros 13)
    -- abcab has the border ab, and no border of one code
    ∷ (written_records abcab ≡ triple 3 0 1 ∷ triple 5 0 1 ∷ zeros 15)
    -- a code alone repeats by its length
    ∷ (written_records lone_a ≡ triple 1 0 1 ∷ zeros 16)
    -- 17 records suffice
    ∷ (periods_outcome aaaaaaa (span 0 7) 17 ≡ answered tt)
    -- a record past the 17th stays as it was
    ∷ (records_after aaaaaaa (span 0 7) (nines 18) ≡ triple 1 1 3 ∷ triple 4 1 2 ∷ triple 6 0 1 ∷ triple 7 0 1 ∷ (zeros 13 ++ nines 1))
    -- 16 records do not suffice
    ∷ (periods_outcome aaaaaaa (span 0 7) 16 ≡ refused 11)
    -- and stay as they were
    ∷ (records_after aaaaaaa (span 0 7) (nines 16) ≡ nines 16)
    -- an empty fragment, which comes before too few records
    ∷ (periods_outcome abababa (span 3 0) 0 ≡ refused 10)
    -- the fragment leaves the strip
    ∷ (periods_outcome abababa (span 3 5) 17 ≡ refused 7)
    -- which comes before an empty fragment
    ∷ (periods_outcome abababa (span 8 0) 17 ≡ refused 7)
    ∷ []
