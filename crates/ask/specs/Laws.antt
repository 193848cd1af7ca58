-- What an answer owes to its question, and a printed text to the lines that it answers. Assumes nothing.
use Rattle.std.specs.Prelude.{◌≡◌, ℕ, ◌+◌, List, [], ◌∷◌, ◌++◌, take, codes as ascii, decimal, Result}
use Rattle.periodicity.specs.declared.Fragment.{Fragment}
use Rattle.periodicity.specs.declared.Progression.{Progression}
use Rattle.periodicity.specs.Fragments.{cut}
use Rattle.periodicity.specs.Periods.{PeriodsNamed}
use Rattle.questions.specs.declared.refusal.Refusal.{Refusal}
use Rattle.questions.specs.Answers.{UnlessRefused, PlacesLaw, OverlapsLaw}
use Rattle.questions.specs.Outcomes.{periods_check}
use Rattle.keepers.specs.Shortness.{most_codes}
use Rattle.ask.specs.declared.answer.Answer.{Answer}
use Rattle.ask.specs.declared.answer.Answer.TheVariants as answer
use Rattle.ask.specs.declared.question.Question.{Question}
use Rattle.ask.specs.declared.question.Question.TheVariants.{Places, Overlaps, Periods}
use Rattle.ask.specs.Answers.{reply_of, reply_text, seen_through}
use Rattle.ask.specs.Lines.{Saying, says_nothing, says_strip, asks, not_understood, saying_of}
use Rattle.ask.specs.Transcript.{strip_after}
use Rattle.ask.specs.Words.{lines_of}

-- unless a check refuses, the records of a fragment's periods name them, range of borders by range; 17 records are
-- always supplied
abbrev pub RecordsLaw : List ℕ → Fragment → Result (List Progression) Refusal → Type 0
RecordsLaw xs fragment r = UnlessRefused (periods_check xs fragment 17) r (PeriodsNamed (cut xs fragment))

-- an answer is one to the question, and keeps the law of that question about a list of codes
abbrev pub AnswerLaw : Question → List ℕ → Answer → Type 0
AnswerLaw (Places pattern field) xs (answer.Places r) = PlacesLaw xs pattern field r
AnswerLaw (Places pattern field) xs (answer.Overlaps r) = ⊥
AnswerLaw (Places pattern field) xs (answer.Periods r) = ⊥
AnswerLaw (Overlaps first second least) xs (answer.Places r) = ⊥
AnswerLaw (Overlaps first second least) xs (answer.Overlaps r) = OverlapsLaw xs first second least r
AnswerLaw (Overlaps first second least) xs (answer.Periods r) = ⊥
AnswerLaw (Periods fragment) xs (answer.Places r) = ⊥
AnswerLaw (Periods fragment) xs (answer.Overlaps r) = ⊥
AnswerLaw (Periods fragment) xs (answer.Periods r) = RecordsLaw xs fragment r

-- the text that is printed for a line, by its number, the strip that is set, and what the line says. To a question it
-- is that of an answer which keeps the law of the question about what is seen, through its layers, of the strip; a
-- strip that is too long is cut to as many codes as a keeper stands for
abbrev pub LineLaw : ℕ → List ℕ → Saying → List ℕ → Type 0
LineLaw number strip says_nothing text = text ≡ []
LineLaw number strip (says_strip codes) text = text ≡ []
LineLaw number strip (asks layers question) text =
    (answer : Answer) × AnswerLaw question (seen_through layers (take most_codes strip)) answer × (text ≡ reply_text (reply_of answer) ++ ascii "\n")
LineLaw number strip not_understood text = text ≡ ascii "line " ++ (decimal number ++ ascii " not understood\n")

-- the text for lines that come after so many, when this strip is set, is that for the first of them, and after it that
-- for the others, with the strip that the first leaves set
abbrev pub LinesLaw : ℕ → List ℕ → List (List ℕ) → List ℕ → Type 0
LinesLaw before strip [] text = text ≡ []
LinesLaw before strip (l ∷ ls) text =
    (first : List ℕ) × (rest : List ℕ) × (text ≡ first ++ rest)
    × LineLaw (before + 1) strip (saying_of l) first
    × LinesLaw (before + 1) (strip_after strip (saying_of l)) ls rest

-- the text that is printed for bytes is that for their lines, of which none comes before and for which the strip is
-- empty at first
abbrev pub TranscriptLaw : List ℕ → List ℕ → Type 0
TranscriptLaw bytes text = LinesLaw 0 [] (lines_of bytes) text
