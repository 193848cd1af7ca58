-- Worked examples of overlaps: suffixes of the second fragment that are prefixes of the first. Assumes nothing.
use Rattle.std.specs.Prelude.{◌≡◌, [], ◌∷◌, Some, None}
use Rattle.periodicity.specs.Progressions.{triple, named}
use Rattle.questions.specs.Outcomes.{answered, refused, overlaps_outcome}
use Rattle.worked.specs.Examples.{Examples}
use Rattle.worked.specs.Strips.{abababa, aaaaaaa, span}

abbrev pub overlaps_examples : Examples
overlaps_examples =
    -- abababa ends as it begins by 1, 3, 5 and 7 codes; of 2 and 3 that is 3 alone
    (overlaps_outcome abababa (span 0 7) (span 0 7) 2 ≡ answered (Some (triple 3 0 1)))
    -- of 3, 4 and 5: first 3, step 2, count 2
    ∷ (overlaps_outcome abababa (span 0 7) (span 0 7) 3 ≡ answered (Some (triple 3 2 2)))
    -- which names the lengths 3 and 5
    ∷ (named (Some (triple 3 2 2)) ≡ 3 ∷ 5 ∷ [])
    -- of 8 to 15: none, as there are 7 codes
    ∷ (overlaps_outcome abababa (span 0 7) (span 0 7) 8 ≡ answered None)
    -- aaaaaaa, of 4 to 7: each
    ∷ (overlaps_outcome aaaaaaa (span 0 7) (span 0 7) 4 ≡ answered (Some (triple 4 1 4)))
    -- aba ends by the a that ab begins by
    ∷ (overlaps_outcome abababa (span 0 2) (span 0 3) 1 ≡ answered (Some (triple 1 0 1)))
    -- ab does not end by the a that aba begins by
    ∷ (overlaps_outcome abababa (span 0 3) (span 0 2) 1 ≡ answered None)
    -- at least 0 codes
    ∷ (overlaps_outcome abababa (span 0 7) (span 0 7) 0 ≡ refused 9)
    -- the second fragment leaves the strip
    ∷ (overlaps_outcome abababa (span 0 7) (span 1 7) 2 ≡ refused 7)
    -- the first fragment leaves the strip, and that comes before at least 0 codes
    ∷ (overlaps_outcome abababa (span 0 8) (span 0 7) 0 ≡ refused 7)
    ∷ []
