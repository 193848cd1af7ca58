-- The laws of the rounds, each in one statement. Assumes nothing.
use Rattle.std.specs.Prelude.{◌≡◌, ℕ, zero, suc, ◌<◌, ◌≤◌, List, ◌++◌, map, length, take, Some, Option}
use Rattle.std.specs.List.{AllByRecursion}
use Rattle.rows.specs.declared.Shape.{Shape}
use Rattle.rows.specs.declared.Row.{Row}
use Rattle.rows.specs.Filing.{row_of}
use Rattle.rows.specs.Lawful.{Lawful}
use Rattle.rows.specs.Rounds.{Filed, then, round, Settled, rounds_from, leaves, settle, number_left}
use Rattle.rows.specs.Strips.{strip, expanded}

-- what holds of every strip of at most 65,535 codes that lawful rows settle
abbrev pub OnceSettled : (List Row → List ℕ → Settled → Type 0) → Type 0
OnceSettled holds = (rows : List Row) (codes : List ℕ) (s : Settled) → Lawful rows → length codes ≤ 65535 → settle rows codes ≡ Some s
    → holds rows codes s

-- the rounds end with at most one number: the limit on their count is never what ends them
abbrev pub RoundsEnd : Type 0
RoundsEnd = OnceSettled (λ rows codes s. length s.numbers ≤ 1)

-- the number left writes the strip
abbrev pub StripKept : Type 0
StripKept = OnceSettled (λ rows codes s. strip s.rows (number_left s.numbers) ≡ codes)

-- the rows are lawful again, and begin with those of before
abbrev pub RowsKept : Type 0
RowsKept = OnceSettled (λ rows codes s. Lawful s.rows × (added : List Row) × (s.rows ≡ rows ++ added))

-- on all rows that come after, the strip settles again, adds none, comes to the same number, and runs as many
-- rounds
pub record Replayed (rows : List Row) (codes : List ℕ) (s : Settled) : Type 0 where
  pub again : Settled
  pub settles : settle rows codes ≡ Some again
  pub adds_none : again.rows ≡ rows
  pub comes : number_left again.numbers ≡ number_left s.numbers
  pub same_rounds : again.rounds ≡ s.rounds

abbrev pub Replays : Type 0
Replays = (rows : List Row) (codes : List ℕ) (s : Settled) (more : List Row) → settle rows codes ≡ Some s
    → Replayed (s.rows ++ more) codes s

-- every number of a string is that of a row in use
abbrev pub AllInUse : List Row → List ℕ → Type 0
AllInUse rows numbers = AllByRecursion (λ n. (0 < n) × (n ≤ length rows)) numbers

-- a round on lawful rows keeps the strip of a string of their numbers: the strips of the numbers, joined, are the same
-- before and after
abbrev pub RoundKeepsStrip : Type 0
RoundKeepsStrip = (k : ℕ) (f g : Filed) → Lawful f.rows → AllInUse f.rows f.numbers → round k f ≡ Some g
    → expanded g.rows g.numbers ≡ expanded f.rows f.numbers

-- where there are at most 1,024 rows, any 44 rounds on end shorten a string of two or more of their numbers; they may
-- stop before, at a single number
abbrev pub RoundsShorten : Type 0
RoundsShorten = (k : ℕ) (f : Filed) (s : Settled) → length f.rows ≤ 1024 → AllInUse f.rows f.numbers → 2 ≤ length f.numbers
    → rounds_from 44 k f ≡ Some s → length s.numbers < length f.numbers

-- what rounds 1 to j make of a string: what is left of it, and the rows
unfoldable pub rounds_run : ℕ → Filed → Option Filed
rounds_run zero f = Some f
rounds_run (suc j) f = then (rounds_run j f) (round (suc j))

-- what they make of a strip: its leaves are the string
unfoldable pub after_rounds : ℕ → List Row → List ℕ → Option Filed
after_rounds j rows codes = then (leaves rows codes) (rounds_run j)

-- the rounds on any string, with any limit on their count, stop at the first string of at most one number: after fewer
-- rounds two or more are left
abbrev pub StringStopsFirst : Type 0
StringStopsFirst = (most : ℕ) (f : Filed) (s : Settled) (j : ℕ) → rounds_from most 0 f ≡ Some s → j < s.rounds
    → (g : Filed) × (rounds_run j f ≡ Some g) × (2 ≤ length g.numbers)

-- what settling leaves is what the rounds that it ran leave
abbrev pub SettlesByRounds : Type 0
SettlesByRounds = (rows : List Row) (codes : List ℕ) (s : Settled) → settle rows codes ≡ Some s
    → after_rounds s.rounds rows codes ≡ Some (record { numbers = s.numbers; rows = s.rows })

-- so do those on a strip
abbrev pub StopsFirst : Type 0
StopsFirst = (rows : List Row) (codes : List ℕ) (s : Settled) (j : ℕ) → settle rows codes ≡ Some s → j < s.rounds
    → (f : Filed) × (after_rounds j rows codes ≡ Some f) × (2 ≤ length f.numbers)

-- so no round is run on a strip of at most one cell
abbrev pub NoRounds : Type 0
NoRounds = (rows : List Row) (codes : List ℕ) (s : Settled) → settle rows codes ≡ Some s → length codes ≤ 1 → s.rounds ≡ 0

-- the row of the number that a strip comes to keeps how many rounds were run. No codes come to number 0, in no
-- rounds, and its row is the blank one, of round 0
abbrev pub RoundsKept : Type 0
RoundsKept = OnceSettled (λ rows codes s. (row_of s.rows (number_left s.numbers)).round ≡ s.rounds)

-- what holds after any number of rounds on a strip of at most 65,535 codes, where they began on lawful rows
abbrev pub BetweenRounds : (ℕ → List ℕ → Filed → Type 0) → Type 0
BetweenRounds holds = (j : ℕ) (rows : List Row) (codes : List ℕ) (f : Filed) → Lawful rows → length codes ≤ 65535 → after_rounds j rows codes ≡ Some f
    → holds j codes f

-- between the rounds the rows are lawful, and every number of the string is that of one
abbrev pub LawfulBetween : Type 0
LawfulBetween = BetweenRounds (λ j codes f. Lawful f.rows × AllInUse f.rows f.numbers)

-- a part of the string after j rounds writes a fragment of the strip, and j rounds on that fragment alone come to
-- the part, on the same rows, with none added
pub record IsFragment (j : ℕ) (codes : List ℕ) (rows : List Row) (before part after : List ℕ) : Type 0 where
  pub writes : codes ≡ expanded rows before ++ (expanded rows part ++ expanded rows after)
  pub alone : after_rounds j rows (expanded rows part) ≡ Some (record { numbers = part; rows = rows })

abbrev pub PartsAreFragments : Type 0
PartsAreFragments = BetweenRounds (λ j codes f. (before part after : List ℕ) → f.numbers ≡ before ++ (part ++ after)
    → IsFragment j codes f.rows before part after)

-- the strip of number 0 or of a known number is the same after rows were added
abbrev pub StripsStay : Type 0
StripsStay = (rows more : List Row) (n : ℕ) → n ≤ length rows → strip (rows ++ more) n ≡ strip rows n

-- the first rows of lawful rows are lawful
abbrev pub FrontLawful : Type 0
FrontLawful = (rows : List Row) (n : ℕ) → Lawful rows → Lawful (take n rows)

-- what the rows are made of
abbrev pub shapes : List Row → List Shape
shapes rows = map (λ row. row.shape) rows

-- lawful rows are told by their shapes alone: the lengths and the rounds that they keep follow
abbrev pub ShapesTell : Type 0
ShapesTell = (a b : List Row) → Lawful a → Lawful b → shapes a ≡ shapes b → a ≡ b
