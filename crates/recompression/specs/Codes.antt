-- The code at a place of a number's strip, as far as its row keeps its length. Assumes nothing.
use Rattle.std.specs.Prelude.{ℕ, cond, List, Some, None, Option, nat_lt, slice_index}
use Rattle.rows.specs.declared.Row.{Row}
use Rattle.rows.specs.Filing.{row_of}
use Rattle.rows.specs.Strips.{strip}

-- absent from the kept length on
abbrev pub code_in : List Row → ℕ → ℕ → Option ℕ
code_in rows n place = cond (nat_lt place (row_of rows n).length) (Some (slice_index (strip rows n) place)) None
