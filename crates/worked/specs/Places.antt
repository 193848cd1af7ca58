-- Worked examples of the places of a pattern in a field. Assumes nothing.
use Rattle.std.specs.Prelude.{◌≡◌, [], ◌∷◌, Some, None}
use Rattle.periodicity.specs.Progressions.{triple, named}
use Rattle.questions.specs.Outcomes.{answered, refused, places_outcome}
use Rattle.worked.specs.Examples.{Examples}
use Rattle.worked.specs.Strips.{abababa, aaaaaaa, span}

abbrev pub places_examples : Examples
places_examples =
    -- aba in ababa: first 0, step 2, count 2
    (places_outcome abababa (span 0 3) (span 0 5) ≡ answered (Some (triple 0 2 2)))
    -- which names the places 0 and 2
    ∷ (named (Some (triple 0 2 2)) ≡ 0 ∷ 2 ∷ [])
    -- aba in ababab, which is twice as long
    ∷ (places_outcome abababa (span 0 3) (span 0 6) ≡ refused 8)
    -- aba in babab, from 1 on: at 2 alone, counted in the strip
    ∷ (places_outcome abababa (span 0 3) (span 1 5) ≡ answered (Some (triple 2 0 1)))
    -- aba is not in bab
    ∷ (places_outcome abababa (span 0 3) (span 1 3) ≡ answered None)
    -- ab is too short for aba
    ∷ (places_outcome abababa (span 0 3) (span 0 2) ≡ answered None)
    -- aaaa in aaaaaaa: at 0, 1, 2 and 3
    ∷ (places_outcome aaaaaaa (span 2 4) (span 0 7) ≡ answered (Some (triple 0 1 4)))
    -- twice nothing is nothing, so that no field is short enough for an empty pattern
    ∷ (places_outcome abababa (span 0 0) (span 0 0) ≡ refused 8)
    -- the pattern leaves the strip
    ∷ (places_outcome abababa (span 5 3) (span 0 5) ≡ refused 7)
    -- the field leaves the strip
    ∷ (places_outcome abababa (span 0 3) (span 3 5) ≡ refused 7)
    -- a field that leaves the strip and is too long is refused for the first
    ∷ (places_outcome abababa (span 0 1) (span 0 8) ≡ refused 7)
    ∷ []
