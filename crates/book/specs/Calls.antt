-- What a take, a join or a cut writes, answers and leaves. Assumes nothing.
use Rattle.std.specs.Prelude.{ℕ, ◌+◌, Bool, cond, ◌&&◌, List, [], ◌++◌, map, length, take, drop, Some, None, Option, nat_le, nat_lt}
use Rattle.std.specs.Option.{unwrap_or}
use Rattle.cells.specs.Printing.{first_unprintable}
use Rattle.rows.specs.declared.Row.{Row}
use Rattle.rows.specs.Rounds.{Settled, settle, number_left}
use Rattle.rows.specs.Strips.{strip}

-- a call: given cells are taken, the strips of two numbers are joined, or a part of a number's strip is cut
pub data Call (C : Type 0) : Type 0 where
  taking : List C → Call C
  joining : ℕ → ℕ → Call C
  cutting : ℕ → ℕ → ℕ → Call C

-- what a call is answered: the number of a strip, or a refusal by its number; of an unprintable cell also its place
pub data Answer : Type 0 where
  strip_number : ℕ → Answer
  refused : ℕ → Answer
  refused_at : ℕ → ℕ → Answer

-- how the book stands between two calls: its rows
pub record Book : Type 0 where
  pub rows : List Row

-- a book with no rows
abbrev pub no_rows : Book
no_rows = record { rows = [] }

-- the book with other rows
abbrev pub with_rows : Book → List Row → Book
with_rows book rows = record { rows = rows }

-- what a call comes to: its answer, and the book after it
pub record Turn : Type 0 where
  pub answer : Answer
  pub book : Book

-- a refusal leaves the book as it stood
abbrev pub refusing : Book → Answer → Turn
refusing book answer = record { answer = answer; book = book }

-- what filing a strip comes to: its answer, and the rows after it
pub record Filing : Type 0 where
  pub answer : Answer
  pub rows : List Row

-- it is not filed, and the rows stay as they stood
abbrev pub unfiled : List Row → Answer → Filing
unfiled rows answer = record { answer = answer; rows = rows }

-- the rounds need a row 1,025, or come to a number
abbrev pub settling : List Row → Option Settled → Filing
settling rows None = unfiled rows (refused 5)
settling rows (Some s) = record { answer = strip_number (number_left s.numbers); rows = s.rows }

-- a strip of codes is filed: the work area has fewer places than the strip has cells, or the rounds run
unfoldable pub filing : List Row → List ℕ → ℕ → Filing
filing rows codes places = cond (nat_lt places (length codes)) (unfiled rows (refused 4)) (settling rows (settle rows codes))

-- the same as a turn of the book
abbrev pub in_book : Book → Filing → Turn
in_book book f = record { answer = f.answer; book = with_rows book f.rows }

abbrev pub filed_in : Book → List ℕ → ℕ → Turn
filed_in book codes places = in_book book (filing book.rows codes places)

-- the codes of printable cells
abbrev pub printed : {C : Type 0} → (C → Option ℕ) → List C → List ℕ
printed coded cells = map (λ cell. unwrap_or (coded cell) 0) cells

-- taking: the shelf has another kind number; over 65,535 cells; a cell is not printable, with the place of
-- the first; then as the strip is filed
abbrev pub printing : {C : Type 0} → (C → Option ℕ) → Book → List C → ℕ → Option ℕ → Turn
printing coded book cells places None = filed_in book (printed coded cells) places
printing coded book cells places (Some place) = refusing book (refused_at 3 place)

unfoldable pub taken : {C : Type 0} → Bool → (C → Option ℕ) → Book → List C → ℕ → Turn
taken same_kind coded book cells places =
    cond same_kind
    (cond (nat_le (length cells) 65535) (printing coded book cells places (first_unprintable coded cells)) (refusing book (refused 2)))
    (refusing book (refused 1))

-- a number is known when it is at most the count of rows
abbrev pub is_known : List Row → ℕ → Bool
is_known rows n = nat_le n (length rows)

-- joining: left or right unknown; over 65,535 cells; then as the strip is filed
unfoldable pub joined_up : Book → ℕ → ℕ → ℕ → Turn
joined_up book left right places =
    cond (is_known book.rows left && is_known book.rows right)
    (cond (nat_le (length (strip book.rows left) + length (strip book.rows right)) 65535) (filed_in book (strip book.rows left ++ strip book.rows right) places) (refusing book (refused 2)))
    (refusing book (refused 6))

-- cutting: the number unknown; the part leaves the strip; then as the strip is filed
abbrev pub part_of : List Row → ℕ → ℕ → ℕ → List ℕ
part_of rows n start size = take size (drop start (strip rows n))

unfoldable pub cut_out : Book → ℕ → ℕ → ℕ → ℕ → Turn
cut_out book n start size places =
    cond (is_known book.rows n)
    (cond (nat_le (start + size) (length (strip book.rows n))) (filed_in book (part_of book.rows n start size) places) (refusing book (refused 7)))
    (refusing book (refused 6))

-- what a call comes to, by the book
abbrev pub turn : {C : Type 0} → Bool → (C → Option ℕ) → Book → Call C → ℕ → Turn
turn same_kind coded book (taking cells) places = taken same_kind coded book cells places
turn same_kind coded book (joining left right) places = joined_up book left right places
turn same_kind coded book (cutting n start size) places = cut_out book n start size places

-- the strip that a call writes: a take its cells, a join or a cut the cells given back for the codes
abbrev pub wrote : {C : Type 0} → (ℕ → C) → Book → Call C → List C
wrote given book (taking cells) = cells
wrote given book (joining left right) = map given (strip book.rows left ++ strip book.rows right)
wrote given book (cutting n start size) = map given (part_of book.rows n start size)
