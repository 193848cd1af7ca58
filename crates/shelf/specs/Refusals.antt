-- Refusals by number, and the answers that results stand for. Assumes nothing.
use Rattle.std.specs.Prelude.{◌≡◌, ℕ, ◌<◌, ◌≤◌, List, ◌++◌, length, Some, Ok, Err, Option, codes as ascii, decimal, Result}
use Rattle.book.specs.Calls.{Answer, strip_number, refused, refused_at, Book, Turn, Filing}
use Rattle.book.specs.Laws.{KindKept}
use Rattle.cells.specs.Printing.{first_unprintable}
use Rattle.rows.specs.declared.Row.{Row}
use Rattle.rows.specs.Strips.{strip}
use Rattle.shelf.specs.declared.refusal.Refusal.{Refusal}
use Rattle.shelf.specs.declared.refusal.Refusal.TheVariants.{OtherKind, TooLong, Unprintable, WorkAreaTooShort, ShelfFull, UnknownNumber, FragmentLeavesStrip}

-- the number of each refusal
abbrev pub refusal_number : Refusal → ℕ
refusal_number OtherKind = 1
refusal_number TooLong = 2
refusal_number (Unprintable place) = 3
refusal_number WorkAreaTooShort = 4
refusal_number ShelfFull = 5
refusal_number UnknownNumber = 6
refusal_number FragmentLeavesStrip = 7

-- the sentence of each refusal
abbrev pub refusal_sentence : Refusal → List ℕ
refusal_sentence OtherKind = ascii "the shelf has another kind of cell"
refusal_sentence TooLong = ascii "the strip would have over 65535 cells"
refusal_sentence (Unprintable place) = ascii "the cell at place " ++ (decimal place ++ ascii " is not printable")
refusal_sentence WorkAreaTooShort = ascii "the work area is shorter than the strip"
refusal_sentence ShelfFull = ascii "the shelf has no row left"
refusal_sentence UnknownNumber = ascii "the number is unknown"
refusal_sentence FragmentLeavesStrip = ascii "a fragment leaves the strip"

-- why cells are refused before any is filed: there are over 65,535, or one is not printable, with the place
-- of the first
abbrev pub Unfit : {C : Type 0} → (C → Option ℕ) → List C → Refusal → Type 0
Unfit coded cells TooLong = 65535 < length cells
Unfit coded cells (Unprintable place) = (length cells ≤ 65535) × (first_unprintable coded cells ≡ Some place)
Unfit coded cells _ = ⊥

-- a refusal as the book tells it: its number, and of an unprintable cell also its place
abbrev pub refusal_told : Refusal → Answer
refusal_told (Unprintable place) = refused_at (refusal_number (Unprintable place)) place
refusal_told refusal = refused (refusal_number refusal)

-- the answer that a call's result stands for
abbrev pub told : Result ℕ Refusal → Answer
told (Ok n) = strip_number n
told (Err e) = refusal_told e

-- a call's result and the book that it leaves are those of a turn of the book
abbrev pub ComesTo : Result ℕ Refusal → Book → Turn → Type 0
ComesTo r book t = (told r ≡ t.answer) × (book ≡ t.book)

-- the same of a strip that is filed, and the rows
abbrev pub StripFiled : Result ℕ Refusal → List Row → Filing → Type 0
StripFiled r rows f = (told r ≡ f.answer) × (rows ≡ f.rows)

-- the number answered writes these codes, now and when rows have been added
abbrev pub StaysWritten : List ℕ → List Row → Result ℕ Refusal → Type 0
StaysWritten codes rows (Ok n) = (more : List Row) → strip (rows ++ more) n ≡ codes
StaysWritten codes rows (Err e) = Unit {0}

-- a call that writes these codes: what it answers and leaves is the book's turn, the rows stay of their kind, and the
-- number answered writes the codes
pub record Writes (codes : List ℕ) (before : Book) (t : Turn) (r : Result ℕ Refusal) (after : Book) : Type 0 where
  pub outcome : ComesTo r after t
  pub kept : KindKept before.rows after.rows
  pub back : StaysWritten codes after.rows r
