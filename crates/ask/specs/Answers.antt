-- What questions come to, and what is written of it. Assumes nothing.
use Rattle.std.specs.Prelude.{ℕ, Bool, true, false, cond, List, [], ◌∷◌, ◌++◌, reverse, Some, None, codes as ascii, Option, ◌==◌}
use Rattle.periodicity.specs.declared.Fragment.{Fragment}
use Rattle.periodicity.specs.declared.Progression.{Progression}
use Rattle.periodicity.specs.Fragments.{cut}
use Rattle.periodicity.specs.Periods.{written_records}
use Rattle.periodicity.specs.Progressions.{triple_text}
use Rattle.questions.specs.Outcomes.{Outcome, answered, refused, outcome, checked, places_outcome, overlaps_outcome, periods_check}
use Rattle.questions.specs.Found.{found_text, refused_text}
use Rattle.ask.specs.declared.answer.Answer.{Answer}
use Rattle.ask.specs.declared.answer.Answer.TheVariants as answer
use Rattle.ask.specs.declared.question.Layers.{Layers}
use Rattle.ask.specs.declared.question.Question.{Question}
use Rattle.ask.specs.declared.question.Question.TheVariants.{Places, Overlaps, Periods}

-- what a question about places, overlaps or periods comes to
pub data Reply : Type 0 where
  of_places : Outcome (Option Progression) → Reply
  of_overlaps : Outcome (Option Progression) → Reply
  of_periods : Outcome (List Progression) → Reply

-- the records of the periods of a fragment, all 17; refused likewise
abbrev pub records_outcome : List ℕ → Fragment → Outcome (List Progression)
records_outcome xs fragment = checked (periods_check xs fragment 17) (written_records (cut xs fragment))

-- what a question about a list of codes comes to
abbrev pub reply_to : Question → List ℕ → Reply
reply_to (Places pattern field) xs = of_places (places_outcome xs pattern field)
reply_to (Overlaps first second least) xs = of_overlaps (overlaps_outcome xs first second least)
reply_to (Periods fragment) xs = of_periods (records_outcome xs fragment)

-- what an answer says
abbrev pub reply_of : Answer → Reply
reply_of (answer.Places r) = of_places (outcome r)
reply_of (answer.Overlaps r) = of_overlaps (outcome r)
reply_of (answer.Periods r) = of_periods (outcome r)

-- the codes that a question sees through a window, and reversed
abbrev pub windowed : Option Fragment → List ℕ → List ℕ
windowed None xs = xs
windowed (Some part) xs = cut xs part

abbrev pub reversed_if : Bool → List ℕ → List ℕ
reversed_if true xs = reverse xs
reversed_if false xs = xs

abbrev pub seen_through : Layers → List ℕ → List ℕ
seen_through layers xs = reversed_if layers.reversed (windowed layers.window xs)

-- the records in use, the first of them after `before` and the others after a slash
abbrev pub triples_text : List ℕ → List Progression → List ℕ
triples_text before [] = []
triples_text before (r ∷ rs) =
    cond (r.count == 0) (triples_text before rs) (before ++ (triple_text r ++ triples_text (ascii " / ") rs))

-- the records that were found, or how the refusal is shown
abbrev pub records_text : Outcome (List Progression) → List ℕ
records_text (answered records) = triples_text (ascii " ") records
records_text (refused number) = refused_text number

-- what is written of a reply: the question's name and what it comes to
abbrev pub reply_text : Reply → List ℕ
reply_text (of_places o) = ascii "places" ++ found_text o
reply_text (of_overlaps o) = ascii "overlaps" ++ found_text o
reply_text (of_periods o) = ascii "periods" ++ records_text o
