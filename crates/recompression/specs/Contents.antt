-- The rows of a table, and what a number is answered with. Assumes nothing.
use Rattle.std.specs.Prelude.{◌≡◌, ℕ, ◌-◌, ◌≤◌, true, cond, ◌&&◌, List, ◌++◌, length, replicate, Some, None, Option, nat_le, nat_lt, slice_index_or}
use Rattle.rows.specs.declared.Row.{Row}
use Rattle.rows.specs.Filing.{blank_row, row_of, Numbered}
use Rattle.recompression.specs.declared.table.Table.{Table}
use Rattle.recompression.specs.Tables.{in_use, is_blank_row}

-- the rows in use, in the order of their numbers
abbrev pub rows_in : Table → List Row
rows_in t = in_use t.slots

-- all slots, in use or not
abbrev pub slots_in : Table → List Row
slots_in t = t.slots.rows

-- rows, and blank ones after them up to 1,024
abbrev pub with_blanks : List Row → List Row
with_blanks rows = rows ++ replicate (1024 - length rows) blank_row

-- there are 1,024 slots, and those after the rows in use are blank, slot by slot: a type that holds a table can keep
-- this of it
pub record UnusedBlank (t : Table) : Type 0 where
  pub long : length (slots_in t) ≡ 1024
  pub blank : (k : ℕ) → length (rows_in t) ≤ k → is_blank_row (slice_index_or (slots_in t) k blank_row) ≡ true

-- the row of a known number; none for number 0 and for one that is not known
abbrev pub row_at : List Row → ℕ → Option Row
row_at rows n = cond (nat_lt 0 n && nat_le n (length rows)) (Some (row_of rows n)) None

-- what filing a shape answers: its number, or none where a row 1,025 would be needed
abbrev pub number_in : Option Numbered → Option ℕ
number_in None = None
number_in (Some f) = Some f.number

-- the rows that it leaves: as they were where it answers none
abbrev pub rows_left : List Row → Option Numbered → List Row
rows_left rows None = rows
rows_left rows (Some f) = f.rows

-- what filing answers and leaves, of rows that were there before
pub record FilesAs (before : List Row) (filed : Option Numbered) (answer : Option ℕ) (after : List Row) : Type 0 where
  pub number : answer ≡ number_in filed
  pub rows : after ≡ rows_left before filed
