-- The kind and the rows of a shelf. Assumes nothing.
use Rattle.std.specs.Prelude.{ℕ, cond, List, length, Some, None, Option, nat_le, nat_lt, slice_index}
use Rattle.book.specs.Calls.{Book, no_rows, with_rows}
use Rattle.rows.specs.declared.Row.{Row}
use Rattle.rows.specs.Strips.{strip}
use Rattle.recompression.specs.Contents.{rows_in, slots_in}
use Rattle.shelf.specs.declared.Shelf.{Shelf}

-- the number of the kind of its cells
abbrev pub kind_of : Shelf → ℕ
kind_of s = s.kind

abbrev pub rows_on : Shelf → List Row
rows_on s = rows_in s.table

-- all slots, in use or not
abbrev pub slots_on : Shelf → List Row
slots_on s = slots_in s.table

-- the shelf as the plain book tells it
abbrev pub book_of : Shelf → Book
book_of s = with_rows no_rows (rows_on s)

-- the length of a known number's strip; none for a number that is not known
abbrev pub length_at : List Row → ℕ → Option ℕ
length_at rows n = cond (nat_le n (length rows)) (Some (length (strip rows n))) None

-- the code at a place of a number's strip; none from its length on, and so for a number that is not known
abbrev pub code_at : List Row → ℕ → ℕ → Option ℕ
code_at rows n place = cond (nat_lt place (length (strip rows n))) (Some (slice_index (strip rows n) place)) None
