-- What a job does: the lines that it prints and the calls that it makes, by the plain book. Assumes nothing.
use Rattle.std.specs.Prelude.{ℕ, Bool, true, cond, List, [], ◌∷◌, ◌++◌, length, Option, nat_le, nat_lt}
use Rattle.cells.specs.declared.glyph.Glyph.{Glyph}
use Rattle.cells.specs.Glyphs.{glyph_of, glyph_code}
use Rattle.rows.specs.Strips.{strip}
use Rattle.book.specs.Calls as book
use Rattle.book.specs.Runs.{Sent}
use Rattle.periodicity.specs.declared.Fragment.{Fragment}
use Rattle.periodicity.specs.declared.Progression.{Progression}
use Rattle.questions.specs.Outcomes.{Outcome, places_outcome}
use Rattle.job.specs.declared.command.Command.{Command}
use Rattle.job.specs.declared.command.Command.TheVariants.{Glyph as put, Take, Join, Cut, Places}
use Rattle.job.specs.Commands.{Entry, reads, unreadable, entries}

-- the most bytes of a job, glyphs on the tray, and places of the work area
abbrev pub most_bytes : ℕ
most_bytes = 32768

abbrev pub most_glyphs : ℕ
most_glyphs = 8192

abbrev pub work_places : ℕ
work_places = 8192

-- how things stand between two commands: the book, and the glyphs on the tray
pub record Standing : Type 0 where
  pub book : book.Book
  pub tray : List Glyph

abbrev pub nothing_yet : Standing
nothing_yet = record { book = book.no_rows; tray = [] }

-- the call on the shelf that a command is, if it is one
abbrev pub calls_by : List Glyph → Command → List (Sent Glyph)
calls_by tray (put number) = []
calls_by tray Take = record { call = book.taking tray; places = work_places } ∷ []
calls_by tray (Join left right) = record { call = book.joining left right; places = work_places } ∷ []
calls_by tray (Cut number part) = record { call = book.cutting number part.start part.length; places = work_places } ∷ []
calls_by tray (Places number pattern field) = []

-- whether the tray has room for a glyph
abbrev pub has_room : List Glyph → Bool
has_room tray = nat_lt (length tray) most_glyphs

-- the tray after a command: a full one takes no glyph, and T empties it, refused or not
abbrev pub tray_after : List Glyph → Command → List Glyph
tray_after tray (put number) = cond (has_room tray) (tray ++ (glyph_of number ∷ [])) tray
tray_after tray Take = []
tray_after tray (Join left right) = tray
tray_after tray (Cut number part) = tray
tray_after tray (Places number pattern field) = tray

-- whether a command can be done: a glyph only while the tray has room
abbrev pub fits : List Glyph → Command → Bool
fits tray (put number) = has_room tray
fits tray Take = true
fits tray (Join left right) = true
fits tray (Cut number part) = true
fits tray (Places number pattern field) = true

-- what a call comes to by the book of a glyph shelf
abbrev pub turn : book.Book → book.Call Glyph → book.Turn
turn b call = book.turn true glyph_code b call work_places

-- what a line tells
pub data Told : Type 0 where
  of_take : book.Answer → Told
  of_join : book.Answer → Told
  of_cut : book.Answer → Told
  of_places : Outcome (Option Progression) → Told
  stopped : ℕ → Told
  too_long : Told

-- what a command tells, if it prints a line
abbrev pub told_by : Standing → Command → List Told
told_by s (put number) = []
told_by s Take = of_take (turn s.book (book.taking s.tray)).answer ∷ []
told_by s (Join left right) = of_join (turn s.book (book.joining left right)).answer ∷ []
told_by s (Cut number part) = of_cut (turn s.book (book.cutting number part.start part.length)).answer ∷ []
told_by s (Places number pattern field) = of_places (places_outcome (strip s.book.rows number) pattern field) ∷ []

-- the book after it
abbrev pub book_by : Standing → Command → book.Book
book_by s (put number) = s.book
book_by s Take = (turn s.book (book.taking s.tray)).book
book_by s (Join left right) = (turn s.book (book.joining left right)).book
book_by s (Cut number part) = (turn s.book (book.cutting number part.start part.length)).book
book_by s (Places number pattern field) = s.book

abbrev pub after : Standing → Command → Standing
after s command = record { book = book_by s command; tray = tray_after s.tray command }

-- what the entries of a job tell: it stops where none can be read and where the tray is full
abbrev pub told_from : Standing → List Entry → List Told
told_from s [] = []
told_from s (unreadable place ∷ rest) = stopped place ∷ []
told_from s (reads place command ∷ rest) =
    cond (fits s.tray command) (told_by s command ++ told_from (after s command) rest) (stopped place ∷ [])

-- the calls on the shelf that they make
abbrev pub calls_from : List Glyph → List Entry → List (Sent Glyph)
calls_from tray [] = []
calls_from tray (unreadable place ∷ rest) = []
calls_from tray (reads place command ∷ rest) =
    cond (fits tray command) (calls_by tray command ++ calls_from (tray_after tray command) rest) []

-- what a job tells, from its bytes and the plain book alone
unfoldable pub told_of : List ℕ → List Told
told_of job = cond (nat_le (length job) most_bytes) (told_from nothing_yet (entries job)) (too_long ∷ [])

-- the calls that a job makes, from its bytes alone
unfoldable pub calls_of : List ℕ → List (Sent Glyph)
calls_of job = cond (nat_le (length job) most_bytes) (calls_from [] (entries job)) []

-- the answers in the T, J and K lines
abbrev pub answers_in : List Told → List book.Answer
answers_in [] = []
answers_in (of_take a ∷ rest) = a ∷ answers_in rest
answers_in (of_join a ∷ rest) = a ∷ answers_in rest
answers_in (of_cut a ∷ rest) = a ∷ answers_in rest
answers_in (of_places found ∷ rest) = answers_in rest
answers_in (stopped place ∷ rest) = answers_in rest
answers_in (too_long ∷ rest) = answers_in rest

-- what an F command asks: the places of a pattern in a field of the strip that its number has at that moment
pub record Asked : Type 0 where
  pub strip : List ℕ
  pub pattern : Fragment
  pub field : Fragment

-- the question that a command asks, if it is one
abbrev pub asked_by : Standing → Command → List Asked
asked_by s (put number) = []
asked_by s Take = []
asked_by s (Join left right) = []
asked_by s (Cut number part) = []
asked_by s (Places number pattern field) = record { strip = strip s.book.rows number; pattern = pattern; field = field } ∷ []

-- the questions that entries ask
abbrev pub asked_from : Standing → List Entry → List Asked
asked_from s [] = []
asked_from s (unreadable place ∷ rest) = []
asked_from s (reads place command ∷ rest) =
    cond (fits s.tray command) (asked_by s command ++ asked_from (after s command) rest) []

-- the questions that a job asks, from its bytes and the plain book alone
unfoldable pub asked_of : List ℕ → List Asked
asked_of job = cond (nat_le (length job) most_bytes) (asked_from nothing_yet (entries job)) []

-- what was found, in the F lines
abbrev pub found_in : List Told → List (Outcome (Option Progression))
found_in [] = []
found_in (of_take a ∷ rest) = found_in rest
found_in (of_join a ∷ rest) = found_in rest
found_in (of_cut a ∷ rest) = found_in rest
found_in (of_places found ∷ rest) = found ∷ found_in rest
found_in (stopped place ∷ rest) = found_in rest
found_in (too_long ∷ rest) = found_in rest
