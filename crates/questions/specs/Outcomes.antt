-- Refusals, their numbers and sentences, and what a question comes to. Assumes nothing.
use Rattle.std.specs.Prelude.{ℕ, ◌*◌, cond, ◌&&◌, List, ◌++◌, drop, Some, None, Ok, Err, codes as ascii, Option, Result, ◌==◌, nat_le, nat_lt}
use Rattle.periodicity.specs.declared.Fragment.{Fragment}
use Rattle.periodicity.specs.declared.Progression.{Progression}
use Rattle.periodicity.specs.Fragments.{cut, inside}
use Rattle.periodicity.specs.Places.{places_of}
use Rattle.periodicity.specs.Overlaps.{overlaps_of}
use Rattle.periodicity.specs.Periods.{written_records}
use Rattle.periodicity.specs.Progressions.{progression_of}
use Rattle.questions.specs.declared.refusal.Refusal.{Refusal}
use Rattle.questions.specs.declared.refusal.Refusal.TheVariants.{FragmentLeavesStrip, FieldTooLong, ZeroOverlap, EmptyFragment, TooFewRecords}

-- the number of each refusal; no other definition gives these refusals numbers. A shelf has refusals of its own, of
-- which one, that a part leaves the strip, also has the number 7
abbrev pub refusal_number : Refusal → ℕ
refusal_number FragmentLeavesStrip = 7
refusal_number FieldTooLong = 8
refusal_number ZeroOverlap = 9
refusal_number EmptyFragment = 10
refusal_number TooFewRecords = 11

-- the sentence of each refusal
abbrev pub refusal_sentence : Refusal → List ℕ
refusal_sentence FragmentLeavesStrip = ascii "a fragment leaves the strip"
refusal_sentence FieldTooLong = ascii "the field is at least twice as long as the pattern"
refusal_sentence ZeroOverlap = ascii "an overlap of 0 was asked for"
refusal_sentence EmptyFragment = ascii "the fragment is empty"
refusal_sentence TooFewRecords = ascii "fewer than 17 records were supplied"

-- what a question comes to: its answer, or the number of its refusal
pub data Outcome (A : Type 0) : Type 0 where
  answered : A → Outcome A
  refused : ℕ → Outcome A

-- the outcome that a call's result stands for: the refusal's number, or the answer
abbrev pub outcome : {A : Type 0} → Result A Refusal → Outcome A
outcome (Ok a) = answered a
outcome (Err e) = refused (refusal_number e)

-- the answer, unless a check refuses
abbrev pub checked : {A : Type 0} → Option Refusal → A → Outcome A
checked None a = answered a
checked (Some refusal) a = refused (refusal_number refusal)

-- the refusal of the first check of each question that applies: a fragment leaves the strip; then the field is at
-- least twice the pattern's length
abbrev pub places_check : List ℕ → Fragment → Fragment → Option Refusal
places_check xs pattern field =
    cond (inside xs pattern && inside xs field) (cond (nat_le (2 * pattern.length) field.length) (Some FieldTooLong) None) (Some FragmentLeavesStrip)

-- .. then the least length is 0
abbrev pub overlaps_check : List ℕ → Fragment → Fragment → ℕ → Option Refusal
overlaps_check xs first second least = cond (inside xs first && inside xs second) (cond (least == 0) (Some ZeroOverlap) None) (Some FragmentLeavesStrip)

-- .. then the fragment is empty, then fewer than 17 records are supplied
abbrev pub periods_check : List ℕ → Fragment → ℕ → Option Refusal
periods_check xs fragment supplied =
    cond (inside xs fragment) (cond (fragment.length == 0) (Some EmptyFragment) (cond (nat_lt supplied 17) (Some TooFewRecords) None)) (Some FragmentLeavesStrip)

-- what each question comes to
abbrev pub places_outcome : List ℕ → Fragment → Fragment → Outcome (Option Progression)
places_outcome xs pattern field = checked (places_check xs pattern field) (progression_of (places_of xs pattern field))

abbrev pub overlaps_outcome : List ℕ → Fragment → Fragment → ℕ → Outcome (Option Progression)
overlaps_outcome xs first second least = checked (overlaps_check xs first second least) (progression_of (overlaps_of (cut xs first) (cut xs second) least))

-- the caller's records after the question: the first 17 written, the others as they were; all as they
-- were when a check refuses
abbrev pub after_periods : Option Refusal → List ℕ → List Progression → List Progression
after_periods None codes old = written_records codes ++ drop 17 old
after_periods (Some refusal) codes old = old
