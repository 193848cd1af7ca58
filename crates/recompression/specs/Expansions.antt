-- What a part of a number's strip is written out as. Assumes nothing.
use Rattle.std.specs.Prelude.{◌≡◌, ℕ, ◌+◌, ◌<◌, ◌≤◌, cond, List, length, take, drop, Ok, Err, Result, nat_lt}
use Rattle.rows.specs.declared.Shape.{Shape}
use Rattle.rows.specs.declared.Row.{Row}
use Rattle.rows.specs.Filing.{row_of}
use Rattle.rows.specs.Strips.{times, leaf_string}
use Rattle.recompression.specs.declared.table.expansion.OutOfStrip.{OutOfStrip}

-- so many leaf numbers of a number's strip, from a place on
abbrev pub written_out : List Row → ℕ → ℕ → ℕ → List ℕ
written_out rows n start count = take count (drop start (leaf_string rows n))

-- and of copies of it, one after the other
abbrev pub copies_out : List Row → ℕ → ℕ → ℕ → ℕ → List ℕ
copies_out rows n copies start count = take count (drop start (times copies (leaf_string rows n)))

-- they are written where the number's row keeps a length that has them all; otherwise nothing is changed
abbrev pub ExpandsTo : List Row → ℕ → ℕ → List ℕ → Result (Unit {0}) OutOfStrip → List ℕ → Type 0
ExpandsTo rows n start old (Ok done) new = (start + length old ≤ (row_of rows n).length) × (new ≡ written_out rows n start (length old))
ExpandsTo rows n start old (Err refused) new = ((row_of rows n).length < start + length old) × (new ≡ old)

-- the length that a part of row n keeps: a part that is not below its row stands for the empty strip
abbrev pub part_length : List Row → ℕ → ℕ → ℕ
part_length rows n part = cond (nat_lt part n) (row_of rows part).length 0

-- so many places from the start on, asked of a known row of that shape, which keeps a length that has them all
pub record Asked (rows : List Row) (n : ℕ) (shape : Shape) (start count : ℕ) : Type 0 where
  pub is : (row_of rows n).shape ≡ shape
  pub some : 0 < n
  pub known : n ≤ length rows
  pub within : start + count ≤ (row_of rows n).length
