-- One strip has one number, one number has one strip, in the lines of a job. Assumes nothing.
use Rattle.std.proofs.Common.{◌≡◌, ℕ, ◌+◌, ◌*◌, ◌<◌, ◌≤◌, Ok, Err, Result, IfOk, String, Global, string_bytes, Bool, true, false, cond, leb, ◌↔◌, List, [], ◌∷◌, ◌++◌, length, Some, None, sym, refl, ap, ◌∙◌, subst, arith}
use Rattle.std.proofs.lemmas.Bool.{leb-true, leb-false}
use Rattle.std.proofs.lemmas.Result.{IfOk-weaker}
use Rattle.std.specs.List.{flat_map, AllZip}
use Rattle.std.specs.declared.alloc.AllocError.{AllocError}
use Rattle.cells.specs.Glyphs.{same_glyph, glyph_known, glyph_code, glyph_given}
use Rattle.periodicity.specs.declared.Fragment.{Fragment}
use Rattle.periodicity.specs.Fragments.{inside}
use Rattle.periodicity.specs.Places.{places_of, PlacesNamed}
use Rattle.periodicity.specs.Progressions.{progression_of}
use Rattle.periodicity.proofs.PlacesTold.{places_named}
use Rattle.periodicity.proofs.Proved.{places_progress}
use Rattle.questions.specs.declared.refusal.Refusal.TheVariants.{FragmentLeavesStrip, FieldTooLong}
use Rattle.questions.specs.Outcomes.{places_outcome}
use Rattle.rows.specs.Strips.{strip}
use Rattle.book.specs.Calls as book
use Rattle.book.specs.Laws.{OneNumber, NewIsLawful, RunsKeep}
use Rattle.book.specs.Runs.{answers_of, strips_of}
use Rattle.job.specs.declared.command.Command.{Command}
use Rattle.job.specs.declared.command.Command.TheVariants.{Glyph as put, Take, Join, Cut, Places}
use Rattle.job.specs.Commands.{Entry, reads, unreadable, entries}
use Rattle.job.specs.Runs.{most_bytes, Standing, nothing_yet, calls_by, tray_after, fits, turn, stopped, too_long, told_by, after, told_from, calls_from, told_of, calls_of, answers_in, asked_by, asked_from, asked_of, found_in}
use Rattle.job.specs.Lines.{line_bytes, printed_by, LawfullyFound, LawfulPrintout}
use Rattle.job.proofs.Turns.{printed_too_long, printed_run}

-- the answers in what entries tell are those of the calls that they make
pub answers_told : (s : Standing) (es : List Entry) → answers_in (told_from s es) ≡ answers_of true glyph_code s.book (calls_from s.tray es)
answers_told s [] = refl
answers_told s (unreadable place ∷ rest) = refl
answers_told s (reads place command ∷ rest) = by (λ t. answers_told t rest) (fits s.tray command) command
  where
    by : ((t : Standing) → answers_in (told_from t rest) ≡ answers_of true glyph_code t.book (calls_from t.tray rest)) → (b : Bool) (c : Command)
        → answers_in (cond b (told_by s c ++ told_from (after s c) rest) (stopped place ∷ [])) ≡ answers_of true glyph_code s.book (cond b (calls_by s.tray c ++ calls_from (tray_after s.tray c) rest) [])
    by later false c = refl
    by later true (put number) = later (after s (put number))
    by later true Take = ap (λ l. (turn s.book (book.taking s.tray)).answer ∷ l) (later (after s Take))
    by later true (Join left right) = ap (λ l. (turn s.book (book.joining left right)).answer ∷ l) (later (after s (Join left right)))
    by later true (Cut number part) = ap (λ l. (turn s.book (book.cutting number part.start part.length)).answer ∷ l) (later (after s (Cut number part)))
    by later true (Places number pattern field) = later (after s (Places number pattern field))

answers_job : (job : List ℕ) → answers_in (told_of job) ≡ answers_of true glyph_code book.no_rows (calls_of job)
unfolding told_of calls_of
answers_job job = by (leb (length job) most_bytes)
  where
    by : (b : Bool) → answers_in (cond b (told_from nothing_yet (entries job)) (too_long ∷ [])) ≡ answers_of true glyph_code book.no_rows (cond b (calls_from [] (entries job)) [])
    by true = answers_told nothing_yet (entries job)
    by false = refl

-- an F line is lawful
found_lawful : (xs : List ℕ) (pattern field : Fragment) → LawfullyFound (record { strip = xs; pattern = pattern; field = field }) (places_outcome xs pattern field)
found_lawful xs pattern field = by (inside xs pattern) (inside xs field) (leb (2 * pattern.length) field.length) refl refl refl
  where
    named : inside xs pattern ≡ true → inside xs field ≡ true → leb (2 * pattern.length) field.length ≡ false → PlacesNamed xs pattern field (progression_of (places_of xs pattern field))
    named pattern_lies field_lies near =
        places_named xs pattern field (leb-true (pattern.start + pattern.length) (length xs) pattern_lies) (leb-true (field.start + field.length) (length xs) field_lies) (progression_of (places_of xs pattern field))
        (places_progress xs pattern field pattern_lies field_lies (leb-false (2 * pattern.length) field.length near))

    by : (p f n : Bool) → inside xs pattern ≡ p → inside xs field ≡ f → leb (2 * pattern.length) field.length ≡ n → LawfullyFound (record { strip = xs; pattern = pattern; field = field }) (places_outcome xs pattern field)
    by true true false is_p is_f is_n = (Ok (progression_of (places_of xs pattern field)), rw (is_p, is_f, is_n) refl, (rw (is_p, is_f, is_n) refl, named is_p is_f is_n))
    by true true true is_p is_f is_n = (Err FieldTooLong, rw (is_p, is_f, is_n) refl, rw (is_p, is_f, is_n) refl)
    by true false n is_p is_f is_n = (Err FragmentLeavesStrip, rw (is_p, is_f) refl, rw (is_p, is_f) refl)
    by false f n is_p is_f is_n = (Err FragmentLeavesStrip, rw is_p refl, rw is_p refl)

-- so is each, in what entries tell
pub found_told : (s : Standing) (es : List Entry) → AllZip LawfullyFound (asked_from s es) (found_in (told_from s es))
found_told s [] = tt
found_told s (unreadable place ∷ rest) = tt
found_told s (reads place command ∷ rest) = by (λ t. found_told t rest) (fits s.tray command) command
  where
    by : ((t : Standing) → AllZip LawfullyFound (asked_from t rest) (found_in (told_from t rest))) → (b : Bool) (c : Command)
        → AllZip LawfullyFound (cond b (asked_by s c ++ asked_from (after s c) rest) []) (found_in (cond b (told_by s c ++ told_from (after s c) rest) (stopped place ∷ [])))
    by later false c = tt
    by later true (put number) = later (after s (put number))
    by later true Take = later (after s Take)
    by later true (Join left right) = later (after s (Join left right))
    by later true (Cut number part) = later (after s (Cut number part))
    by later true (Places number pattern field) = (found_lawful (strip s.book.rows number) pattern field, later (after s (Places number pattern field)))

found_job : (job : List ℕ) → AllZip LawfullyFound (asked_of job) (found_in (told_of job))
unfolding told_of asked_of
found_job job = by (leb (length job) most_bytes)
  where
    by : (b : Bool) → AllZip LawfullyFound (cond b (asked_from nothing_yet (entries job)) []) (found_in (cond b (told_from nothing_yet (entries job)) (too_long ∷ [])))
    by true = found_told nothing_yet (entries job)
    by false = tt

-- what a job prints is lawful
pub printout_lawful : NewIsLawful → RunsKeep glyph_code glyph_known glyph_given same_glyph → (job text : List ℕ) → text ≡ printed_by job → LawfulPrintout job text
unfolding printed_by
printout_lawful new keeps job text is =
    record {
      prints = is;
      answers = answers_job job;
      law = subst (λ answers. OneNumber same_glyph answers (strips_of true glyph_code glyph_given book.no_rows (calls_of job))) (sym (answers_job job))
          (keeps true book.no_rows (calls_of job) new.0 (new.1 glyph_known)).law;
      places = found_job job;
    }

-- a job that is too long prints that alone, and any other what its commands tell
pub prints_too_long : (job : List ℕ) (r : Result (String Global) AllocError) → most_bytes < length job → IfOk r (λ text. string_bytes text ≡ line_bytes too_long) → IfOk r (λ text. string_bytes text ≡ printed_by job)
prints_too_long job r long told = IfOk-weaker r _ _ (λ text is. is ∙ printed_too_long job long) told

pub prints_run : (job : List ℕ) (r : Result (String Global) AllocError) → length job ≤ most_bytes → IfOk r (λ text. string_bytes text ≡ flat_map line_bytes (told_from nothing_yet (entries job))) → IfOk r (λ text. string_bytes text ≡ printed_by job)
prints_run job r short told = IfOk-weaker r _ _ (λ text is. is ∙ printed_run job short) told

-- and what is printed is lawful
pub prints_lawfully : NewIsLawful → RunsKeep glyph_code glyph_known glyph_given same_glyph → (job : List ℕ) (r : Result (String Global) AllocError) → IfOk r (λ text. string_bytes text ≡ printed_by job) → IfOk r (λ text. LawfulPrintout job (string_bytes text))
prints_lawfully new keeps job r printed = IfOk-weaker r _ _ (λ text is. printout_lawful new keeps job (string_bytes text) is) printed

pub ruleset printouts = (prints_too_long, prints_run, prints_lawfully)
