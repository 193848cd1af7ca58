-- What is written of a job. Assumes nothing.
use Rattle.std.specs.Prelude.{◌≡◌, ℕ, true, List, [], ◌∷◌, ◌++◌, codes as ascii, decimal, Option, Result}
use Rattle.std.specs.List.{flat_map, AllZip}
use Rattle.cells.specs.Glyphs.{same_glyph, glyph_code, glyph_given}
use Rattle.book.specs.Laws.{OneNumber}
use Rattle.book.specs.Runs.{answers_of, strips_of}
use Rattle.book.specs.Calls.{Answer, strip_number, no_rows, refused, refused_at}
use Rattle.periodicity.specs.declared.Progression.{Progression}
use Rattle.questions.specs.declared.refusal.Refusal.{Refusal}
use Rattle.questions.specs.Answers.{PlacesLaw}
use Rattle.questions.specs.Found.{refused_shown, found_text}
use Rattle.questions.specs.Outcomes.{Outcome, outcome}
use Rattle.shelf.specs.Refusals.{told as answer_of}
use Rattle.job.specs.declared.line.Line.{Line}
use Rattle.job.specs.declared.line.Line.TheVariants as line
use Rattle.job.specs.Runs.{Told, of_take, of_join, of_cut, of_places, stopped, too_long, told_of, calls_of, answers_in, Asked, asked_of, found_in}

-- what a line of the program tells
abbrev pub told_in : Line → Told
told_in (line.Take r) = of_take (answer_of r)
told_in (line.Join r) = of_join (answer_of r)
told_in (line.Cut r) = of_cut (answer_of r)
told_in (line.Places found) = of_places (outcome found.0)
told_in (line.Stopped place) = stopped place
told_in line.TooLong = too_long

-- how an answer is shown: a number, or `refused` and the refusal's number
abbrev pub answer_shown : Answer → List ℕ
answer_shown (strip_number n) = decimal n
answer_shown (refused number) = refused_shown number
answer_shown (refused_at number place) = refused_shown number

-- the same after a space
abbrev pub answer_text : Answer → List ℕ
answer_text answer = ascii " " ++ answer_shown answer

-- the text of a line: the letter and what was answered, or how the job ended
unfoldable pub line_text : Told → List ℕ
line_text (of_take a) = ascii "T" ++ answer_text a
line_text (of_join a) = ascii "J" ++ answer_text a
line_text (of_cut a) = ascii "K" ++ answer_text a
line_text (of_places found) = ascii "F" ++ found_text found
line_text (stopped place) = ascii "job stopped at " ++ decimal place
line_text too_long = ascii "job too long"

-- the bytes of a line: its text, and byte 0A
abbrev pub line_bytes : Told → List ℕ
line_bytes t = line_text t ++ (10 ∷ [])

-- all bytes that a job prints
unfoldable pub printed_by : List ℕ → List ℕ
printed_by job = flat_map line_bytes (told_of job)

-- what an F line tells of its question keeps the law of places: it names exactly the places in the strip where the
-- pattern's codes stand in the field, or it is refused, by the first check that applies
abbrev pub LawfullyFound : Asked → Outcome (Option Progression) → Type 0
LawfullyFound asked found = (r : Result (Option Progression) Refusal) × (outcome r ≡ found) × PlacesLaw asked.strip asked.pattern asked.field r

-- one strip has one number, one number has one strip, in what a job prints: the text is that of the lines that the
-- job tells; the answers in their T, J and K lines are those that the plain book, which begins with no rows, has for
-- the calls that the job's bytes make; and any two of these lines that tell numbers tell equal ones exactly when the
-- strips that they wrote have the same length and the same glyphs, by the kind's rule of sameness. Each F line is
-- lawful, and there is one for each question of the job
pub record LawfulPrintout (job text : List ℕ) : Type 0 where
  pub prints : text ≡ printed_by job
  pub answers : answers_in (told_of job) ≡ answers_of true glyph_code no_rows (calls_of job)
  pub law : OneNumber same_glyph (answers_in (told_of job)) (strips_of true glyph_code glyph_given no_rows (calls_of job))
  pub places : AllZip LawfullyFound (asked_of job) (found_in (told_of job))
