-- What is printed in answer to a text of lines. Assumes nothing.
use Rattle.std.specs.Prelude.{ℕ, ◌+◌, List, [], ◌∷◌, ◌++◌, take, codes as ascii, decimal}
use Rattle.keepers.specs.Shortness.{most_codes}
use Rattle.ask.specs.Answers.{reply_to, reply_text, seen_through}
use Rattle.ask.specs.Lines.{Saying, says_nothing, says_strip, asks, not_understood, saying_of}
use Rattle.ask.specs.Words.{lines_of}

-- what is printed for a line, by its number, the strip that is set, and what the line says; a strip that
-- is too long is cut to as many codes as a keeper stands for
abbrev pub printed_for : ℕ → List ℕ → Saying → List ℕ
printed_for number strip says_nothing = []
printed_for number strip (says_strip codes) = []
printed_for number strip (asks layers question) = reply_text (reply_to question (seen_through layers (take most_codes strip))) ++ ascii "\n"
printed_for number strip not_understood = ascii "line " ++ (decimal number ++ ascii " not understood\n")

-- the strip that is set after a line
abbrev pub strip_after : List ℕ → Saying → List ℕ
strip_after strip says_nothing = strip
strip_after strip (says_strip codes) = codes
strip_after strip (asks layers question) = strip
strip_after strip not_understood = strip

-- what is printed for lines that come after so many, when this strip is set
abbrev pub transcript_from : ℕ → List ℕ → List (List ℕ) → List ℕ
transcript_from before strip [] = []
transcript_from before strip (l ∷ ls) =
    printed_for (before + 1) strip (saying_of l) ++ transcript_from (before + 1) (strip_after strip (saying_of l)) ls

-- what is printed for a text: the strip is empty at first
abbrev pub transcript_of : List ℕ → List ℕ
transcript_of bytes = transcript_from 0 [] (lines_of bytes)
