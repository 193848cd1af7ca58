-- Worked examples of jobs: the bytes that they print. Assumes nothing.
use Rattle.std.specs.Prelude.{◌≡◌, [], ◌∷◌, codes as ascii}
use Rattle.job.specs.Lines.{printed_by}
use Rattle.worked.specs.Examples.{Examples}

-- C is 67, T is 84, J is 74, K is 75 and F is 70
abbrev pub jobs_examples : Examples
jobs_examples =
    -- glyphs 5 and 9 are taken; glyph 5 does not stand in the field that is glyph 9
    (printed_by (67 ∷ 0 ∷ 5 ∷ 67 ∷ 0 ∷ 9 ∷ 84 ∷ 70 ∷ 0 ∷ 3 ∷ 0 ∷ 0 ∷ 0 ∷ 1 ∷ 0 ∷ 1 ∷ 0 ∷ 1 ∷ []) ≡ ascii "T 3\nF none\n")
    -- glyph 5 is taken and joined with itself, and the join is cut back to it
    ∷ (printed_by (67 ∷ 0 ∷ 5 ∷ 84 ∷ 74 ∷ 0 ∷ 1 ∷ 0 ∷ 1 ∷ 75 ∷ 0 ∷ 2 ∷ 0 ∷ 1 ∷ 0 ∷ 1 ∷ []) ≡ ascii "T 1\nJ 2\nK 1\n")
    -- an empty job prints nothing
    ∷ (printed_by [] ≡ [])
    -- an empty tray is the empty strip; no command has the letter X
    ∷ (printed_by (84 ∷ 88 ∷ []) ≡ ascii "T 0\njob stopped at 1\n")
    -- number 1 is not known; the second J is cut short, and the place is that of its letter
    ∷ (printed_by (74 ∷ 0 ∷ 1 ∷ 0 ∷ 1 ∷ 74 ∷ 0 ∷ 1 ∷ 0 ∷ []) ≡ ascii "J refused 6\njob stopped at 5\n")
    ∷ []
