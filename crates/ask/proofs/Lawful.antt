-- That what questions come to keeps their laws, and so does what is printed of it. Assumes nothing.
use Rattle.std.proofs.Common.{◌≡◌, ℕ, zero, suc, ◌+◌, ◌*◌, ◌≤◌, Bool, true, false, cond, ◌&&◌, leb, eqb, List, [], ◌∷◌, ◌++◌, length, take, take_all, Some, None, Option, codes as ascii, sym, refl, ap, subst, arith, length-take}
use Rattle.std.specs.Prelude.{Ok, Err, Result}
use lib.ListN.{length-reverse}
use Rattle.std.proofs.lemmas.Option.{none-some}
use Rattle.std.proofs.lemmas.Bool.{and_parts, leb-true, leb-false, eqb-false}
use Rattle.periodicity.specs.declared.Fragment.{Fragment}
use Rattle.periodicity.specs.declared.Progression.{Progression}
use Rattle.periodicity.specs.Fragments.{cut, inside}
use Rattle.periodicity.specs.Overlaps.{overlaps_of, OverlapsNamed}
use Rattle.periodicity.specs.Periods.{written_records, PeriodsNamed}
use Rattle.periodicity.specs.Places.{places_of, PlacesNamed}
use Rattle.periodicity.specs.Progressions.{progression_of}
use Rattle.periodicity.proofs.Agreements.{length_window}
use Rattle.periodicity.proofs.OverlapsTold.{overlaps_named}
use Rattle.periodicity.proofs.PlacesTold.{places_named}
use Rattle.periodicity.proofs.Proved.{overlaps_progress, places_progress}
use Rattle.periodicity.proofs.RecordsTold.{written_named}
use Rattle.periodicity.proofs.Sameness.{length_part}
use Rattle.questions.specs.declared.refusal.Refusal.{Refusal}
use Rattle.questions.specs.declared.refusal.Refusal.TheVariants.{FragmentLeavesStrip, FieldTooLong, EmptyFragment}
use Rattle.questions.specs.Answers.{UnlessRefused}
use Rattle.questions.specs.Outcomes.{outcome, checked, places_check, overlaps_check, periods_check}
use Rattle.keepers.specs.Shortness.{most_codes}
use Rattle.ask.specs.declared.answer.Answer.{Answer}
use Rattle.ask.specs.declared.answer.Answer.TheVariants as answer
use Rattle.ask.specs.declared.question.Layers.{Layers}
use Rattle.ask.specs.declared.question.Question.{Question}
use Rattle.ask.specs.declared.question.Question.TheVariants.{Places, Overlaps, Periods}
use Rattle.ask.specs.Answers.{of_places, of_overlaps, of_periods, reply_of, reply_to, reply_text, windowed, reversed_if, seen_through}
use Rattle.ask.specs.Laws.{AnswerLaw, LineLaw, LinesLaw, TranscriptLaw}
use Rattle.ask.specs.Lines.{Saying, says_nothing, says_strip, asks, not_understood, saying_of}
use Rattle.ask.specs.Transcript.{printed_for, strip_after, transcript_from, transcript_of}
use Rattle.ask.specs.Words.{lines_of}

-- the result of a call by its check and its answer
result_of : {A : Type 0} → Option Refusal → A → Result A Refusal
result_of None a = Ok a
result_of (Some refusal) a = Err refusal

outcome_of_result : {A : Type 0} (check : Option Refusal) (a : A) → outcome (result_of check a) ≡ checked check a
unfolding result_of
outcome_of_result None a = refl
outcome_of_result (Some refusal) a = refl

result_lawful : {A : Type 0} (check : Option Refusal) (a : A) (Promise : A → Type 0) → (check ≡ None → Promise a) → UnlessRefused check (result_of check a) Promise
unfolding result_of
result_lawful None a Promise promised = (refl, promised refl)
result_lawful (Some refusal) a Promise promised = refl

-- where no check applies, the first two tests are passed
passed : (ok bad : Bool) (first second : Refusal) (rest : Option Refusal) → cond ok (cond bad (Some first) rest) (Some second) ≡ None → (ok ≡ true) × (bad ≡ false)
passed true true first second rest none = absurd (none-some first (sym none))
passed true false first second rest none = (refl, refl)
passed false bad first second rest none = absurd (none-some second (sym none))

-- what each question finds keeps its law
places_lawful : (xs : List ℕ) (pattern field : Fragment) → places_check xs pattern field ≡ None → PlacesNamed xs pattern field (progression_of (places_of xs pattern field))
places_lawful xs pattern field unchecked =
    let tests = passed (inside xs pattern && inside xs field) (leb (2 * pattern.length) field.length) FieldTooLong FragmentLeavesStrip None unchecked in
    let lie = and_parts (inside xs pattern) (inside xs field) tests.0 in
    let near = leb-false (2 * pattern.length) field.length tests.1 in
    places_named xs pattern field (leb-true (pattern.start + pattern.length) (length xs) lie.0) (leb-true (field.start + field.length) (length xs) lie.1)
    (progression_of (places_of xs pattern field)) (places_progress xs pattern field lie.0 lie.1 (omega (arith, near)))

overlaps_lawful : (xs : List ℕ) (first second : Fragment) (least : ℕ)
    → OverlapsNamed (cut xs first) (cut xs second) least (progression_of (overlaps_of (cut xs first) (cut xs second) least))
overlaps_lawful xs first second least =
    overlaps_named (cut xs first) (cut xs second) least (progression_of (overlaps_of (cut xs first) (cut xs second) least)) (overlaps_progress (cut xs first) (cut xs second) least)

periods_lawful : (xs : List ℕ) (fragment : Fragment) → length xs ≤ 65535 → periods_check xs fragment 17 ≡ None → PeriodsNamed (cut xs fragment) (written_records (cut xs fragment))
periods_lawful xs fragment short unchecked =
    let tests = passed (inside xs fragment) (eqb fragment.length 0) EmptyFragment FragmentLeavesStrip None unchecked in
    let lies = leb-true (fragment.start + fragment.length) (length xs) tests.0 in
    let long = length_part xs fragment.start fragment.length lies in
    written_named (cut xs fragment) (some fragment.length (length (cut xs fragment)) long (eqb-false fragment.length 0 tests.1)) (omega arith)
  where
    some : (n m : ℕ) → m ≡ n → (n ≡ 0 → ⊥) → 1 ≤ m
    some zero m same positive = absurd (positive refl)
    some (suc n) m same positive = omega arith

-- where no more records than 17 are there, the first 17 are all of them
pub all_named : (xs : List ℕ) (records : List Progression) → length records ≡ 17 → PeriodsNamed xs (take 17 records) → PeriodsNamed xs records
all_named xs records many named = subst (λ rs. PeriodsNamed xs rs) (take_all 17 records (omega arith)) named

-- some answer says what a question comes to, and keeps the question's law
pub answered_lawfully : (question : Question) (xs : List ℕ) → length xs ≤ 65535 → (answer : Answer) × AnswerLaw question xs answer × (reply_of answer ≡ reply_to question xs)
answered_lawfully (Places pattern field) xs short =
    let check = places_check xs pattern field in
    let found = progression_of (places_of xs pattern field) in (
      answer.Places (result_of check found),
      result_lawful check found (PlacesNamed xs pattern field) (places_lawful xs pattern field),
      ap of_places (outcome_of_result check found),
    )
answered_lawfully (Overlaps first second least) xs short =
    let check = overlaps_check xs first second least in
    let found = progression_of (overlaps_of (cut xs first) (cut xs second) least) in (
      answer.Overlaps (result_of check found),
      result_lawful check found (OverlapsNamed (cut xs first) (cut xs second) least) (λ unchecked. overlaps_lawful xs first second least),
      ap of_overlaps (outcome_of_result check found),
    )
answered_lawfully (Periods fragment) xs short =
    let check = periods_check xs fragment 17 in
    let found = written_records (cut xs fragment) in (
      answer.Periods (result_of check found),
      result_lawful check found (PeriodsNamed (cut xs fragment)) (periods_lawful xs fragment short),
      ap of_periods (outcome_of_result check found),
    )

-- what is seen through layers is no longer than the strip
seen_short : (layers : Layers) (xs : List ℕ) → length xs ≤ 65535 → length (seen_through layers xs) ≤ 65535
seen_short layers xs short = reversed_short layers.reversed (windowed layers.window xs) (windowed_short layers.window)
  where
    windowed_short : (window : Option Fragment) → length (windowed window xs) ≤ 65535
    windowed_short None = short
    windowed_short (Some part) = omega (arith, length_window part.length part.start xs)

    reversed_short : (reversed : Bool) (ys : List ℕ) → length ys ≤ 65535 → length (reversed_if reversed ys) ≤ 65535
    reversed_short true ys few = omega (arith, length-reverse ys)
    reversed_short false ys few = few

-- what is printed for a line keeps its law, and so does all that is printed
printed_lawful : (number : ℕ) (strip : List ℕ) (saying : Saying) → LineLaw number strip saying (printed_for number strip saying)
printed_lawful number strip says_nothing = refl
printed_lawful number strip (says_strip codes) = refl
printed_lawful number strip (asks layers question) =
    let cut_short : length (take most_codes strip) ≤ 65535 = omega (arith, length-take most_codes strip) in
    let found = answered_lawfully question (seen_through layers (take most_codes strip)) (seen_short layers (take most_codes strip) cut_short) in
    (found.0, found.1, ap (λ reply. reply_text reply ++ ascii "\n") (sym found.2))
printed_lawful number strip not_understood = refl

lines_lawful : (before : ℕ) (strip : List ℕ) (lines : List (List ℕ)) → LinesLaw before strip lines (transcript_from before strip lines)
lines_lawful before strip [] = refl
lines_lawful before strip (l ∷ ls) = (
  printed_for (before + 1) strip (saying_of l),
  transcript_from (before + 1) (strip_after strip (saying_of l)) ls,
  refl,
  printed_lawful (before + 1) strip (saying_of l),
  lines_lawful (before + 1) (strip_after strip (saying_of l)) ls,
)

pub transcript_lawful : (bytes text : List ℕ) → text ≡ transcript_of bytes → TranscriptLaw bytes text
transcript_lawful bytes text is = subst (λ t. TranscriptLaw bytes t) (sym is) (lines_lawful 0 [] (lines_of bytes))
