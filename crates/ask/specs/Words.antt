-- The lines of a text and the words of a line. Assumes nothing.
use Rattle.std.specs.Prelude.{◌≡◌, ℕ, ◌<◌, Bool, true, false, cond, ◌||◌, List, [], ◌∷◌, ◌++◌, length, Some, None, Option, ◌==◌}
use Rattle.std.specs.Borrow.{Bor}
use Rattle.std.specs.Str.{bytes_eq}
use Rattle.ask.specs.declared.words.Words.{Words}
use Rattle.ask.specs.declared.words.Lines.{Lines}

-- blanks part words: space, tab and carriage return
abbrev pub is_blank : ℕ → Bool
is_blank b = b == 32 || (b == 9 || b == 13)

-- a newline ends a line
abbrev pub is_newline : ℕ → Bool
is_newline b = b == 10

-- a piece that has ended, before those that follow it; an empty piece is none
abbrev pub ended : List ℕ → List (List ℕ) → List (List ℕ)
ended [] pieces = pieces
ended (b ∷ bs) pieces = (b ∷ bs) ∷ pieces

-- the words of a line, when `so_far` has been read of the first
abbrev pub words_after : List ℕ → List ℕ → List (List ℕ)
words_after so_far [] = ended so_far []
words_after so_far (b ∷ bs) = cond (is_blank b) (ended so_far (words_after [] bs)) (words_after (so_far ++ (b ∷ [])) bs)

-- the words of a line
unfoldable pub words_of : List ℕ → List (List ℕ)
words_of bs = words_after [] bs

-- the lines of a text, when `so_far` has been read of the first: a last line without a newline counts
-- unless it is empty
abbrev pub lines_after : List ℕ → List ℕ → List (List ℕ)
lines_after so_far [] = ended so_far []
lines_after so_far (b ∷ bs) = cond (is_newline b) (so_far ∷ lines_after [] bs) (lines_after (so_far ++ (b ∷ [])) bs)

-- the lines of a text
unfoldable pub lines_of : List ℕ → List (List ℕ)
lines_of bs = lines_after [] bs

-- whether a word has the bytes of a name
abbrev pub is_named : List ℕ → List ℕ → Bool
is_named word name = bytes_eq word name

-- whether the first word has the bytes of a name, and the words after it; all words where it has not
abbrev pub named_front : List ℕ → List (List ℕ) → Bool × List (List ℕ)
named_front name [] = (false, [])
named_front name (w ∷ ws) = cond (is_named w name) (true, ws) (false, w ∷ ws)

-- the words of a line, and the lines of a text, that have not been taken
abbrev pub words_left : Words → List (List ℕ)
words_left words = words_of words.rest.now

abbrev pub lines_left : Lines → List (List ℕ)
lines_left lines = lines_of lines.rest.now

-- the first piece of a whole that is cut into pieces, and the rest, which is shorter
pub record CutOff (pieces_of : List ℕ → List (List ℕ)) (whole piece rest : List ℕ) : Type 0 where
  pub pieces : pieces_of whole ≡ piece ∷ pieces_of rest
  pub shorter : length rest < length whole

-- it is absent exactly when there is no piece
abbrev pub FirstOf : (List ℕ → List (List ℕ)) → List ℕ → Option (Bor (List ℕ) × Bor (List ℕ)) → Type 0
FirstOf pieces_of whole None = pieces_of whole ≡ []
FirstOf pieces_of whole (Some p) = CutOff pieces_of whole p.0.now p.1.now

abbrev pub FirstWord : List ℕ → Option (Bor (List ℕ) × Bor (List ℕ)) → Type 0
FirstWord bs r = FirstOf words_of bs r

abbrev pub FirstLine : List ℕ → Option (Bor (List ℕ) × Bor (List ℕ)) → Type 0
FirstLine bs r = FirstOf lines_of bs r
