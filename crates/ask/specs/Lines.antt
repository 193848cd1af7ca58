-- What a line says. Assumes nothing.
use Rattle.std.specs.Prelude.{ℕ, ◌^◌, Bool, true, false, cond, List, [], ◌∷◌, Some, None, vec_items, codes as ascii, Option}
use Rattle.std.specs.Option.{option_map}
use Rattle.periodicity.specs.declared.Fragment.{Fragment}
use Rattle.ask.specs.declared.statement.Statement.{Statement}
use Rattle.ask.specs.declared.statement.Statement.TheVariants as statement
use Rattle.ask.specs.declared.words.Words.{Words}
use Rattle.ask.specs.declared.question.Layers.{Layers}
use Rattle.ask.specs.declared.question.Question.{Question}
use Rattle.ask.specs.declared.question.Question.TheVariants.{Places, Overlaps, Periods}
use Rattle.ask.specs.Numbers.{number_below}
use Rattle.ask.specs.Words.{words_of, words_left, is_named}

-- what stands at the front of some words, and the words after it; absent when nothing of the sort stands there
abbrev pub Front : Type 0 → Type 0
Front A = Option (A × List (List ℕ))

-- the same as the code gives it, which keeps the words after it apart
abbrev pub front_of : {A : Type 0} → Option A → Words → Front A
front_of None left = None
front_of (Some a) left = Some (a, words_left left)

-- what comes of what stands at the front, and of the words after it
abbrev pub then_read : {A B : Type 0} → Front A → (A → List (List ℕ) → Option B) → Option B
then_read None next = None
then_read (Some p) next = next p.0 p.1

-- .. unless words are left over
abbrev pub at_end : {A : Type 0} → List (List ℕ) → A → Option A
at_end [] a = Some a
at_end (w ∷ ws) a = None

-- a number
abbrev pub number_front : List (List ℕ) → Front ℕ
number_front [] = None
number_front (w ∷ ws) = option_map (λ n. (n, ws)) (number_below (2 ^ 64) w)

-- a fragment: its start and its length
abbrev pub fragment_front : List (List ℕ) → Front Fragment
fragment_front ws =
    then_read (number_front ws) (λ start rest. then_read (number_front rest) (λ size after. Some (record { start = start; length = size }, after)))

-- `window` and the fragment that it shows; words that begin otherwise name no window
abbrev pub window_front : List (List ℕ) → Front (Option Fragment)
window_front [] = Some (None, [])
window_front (w ∷ ws) =
    cond (is_named w (ascii "window")) (then_read (fragment_front ws) (λ part rest. Some (Some part, rest))) (Some (None, w ∷ ws))

-- `reversed`, or not
abbrev pub reversed_front : List (List ℕ) → Front Bool
reversed_front [] = Some (false, [])
reversed_front (w ∷ ws) = cond (is_named w (ascii "reversed")) (Some (true, ws)) (Some (false, w ∷ ws))

-- the layers: first a window, then a reversal
abbrev pub layers_front : List (List ℕ) → Front Layers
layers_front ws =
    then_read (window_front ws) (λ part rest. then_read (reversed_front rest) (λ reversed after. Some (record { window = part; reversed = reversed }, after)))

-- the three questions with their numbers, and nothing after them
abbrev pub places_words : List (List ℕ) → Option Question
places_words ws = then_read (fragment_front ws) (λ pattern rest. then_read (fragment_front rest) (λ field after. at_end after (Places pattern field)))

abbrev pub overlaps_words : List (List ℕ) → Option Question
overlaps_words ws =
    then_read (fragment_front ws) (λ first rest. then_read (fragment_front rest) (λ second after. then_read (number_front after) (λ least end. at_end end (Overlaps first second least))))

abbrev pub periods_words : List (List ℕ) → Option Question
periods_words ws = then_read (fragment_front ws) (λ fragment rest. at_end rest (Periods fragment))

abbrev pub question_words : List (List ℕ) → Option Question
question_words [] = None
question_words (w ∷ ws) =
    cond (is_named w (ascii "places")) (places_words ws)
    (cond (is_named w (ascii "overlaps")) (overlaps_words ws)
    (cond (is_named w (ascii "periods")) (periods_words ws) None))

-- words that are codes, all of them
abbrev pub code_before : Option ℕ → Option (List ℕ) → Option (List ℕ)
code_before None rest = None
code_before (Some code) None = None
code_before (Some code) (Some rest) = Some (code ∷ rest)

abbrev pub codes_words : List (List ℕ) → Option (List ℕ)
codes_words [] = Some []
codes_words (w ∷ ws) = code_before (number_below (2 ^ 32) w) (codes_words ws)

-- what a line says: nothing; that the strip is now this one; a question; or nothing that is understood
pub data Saying : Type 0 where
  says_nothing : Saying
  says_strip : List ℕ → Saying
  asks : Layers → Question → Saying
  not_understood : Saying

abbrev pub strip_saying : Option (List ℕ) → Saying
strip_saying None = not_understood
strip_saying (Some codes) = says_strip codes

abbrev pub question_saying : Option (Layers × Question) → Saying
question_saying None = not_understood
question_saying (Some p) = asks p.0 p.1

abbrev pub question_line : List (List ℕ) → Option (Layers × Question)
question_line ws = then_read (layers_front ws) (λ layers rest. option_map (λ question. (layers, question)) (question_words rest))

abbrev pub words_say : List (List ℕ) → Saying
words_say [] = says_nothing
words_say (w ∷ ws) = cond (is_named w (ascii "strip")) (strip_saying (codes_words ws)) (question_saying (question_line (w ∷ ws)))

-- what the bytes of a line say
abbrev pub saying_of : List ℕ → Saying
saying_of bs = words_say (words_of bs)

-- the saying that a statement stands for
abbrev pub said_by : Statement → Saying
said_by statement.Nothing = says_nothing
said_by (statement.Strip codes) = says_strip (vec_items codes)
said_by (statement.Question layers question) = asks layers question
said_by statement.NotUnderstood = not_understood
