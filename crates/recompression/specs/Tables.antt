-- What always holds of a table's slots. Assumes nothing.
use Rattle.std.specs.Prelude.{◌≡◌, ℕ, ◌+◌, ◌-◌, ◌≤◌, min, Bool, true, false, ◌&&◌, List, ◌++◌, length, take, replicate, ◌==◌, slice_index_or, slice_set}
use Rattle.rows.specs.declared.Shape.{Shape}
use Rattle.rows.specs.declared.Shape.TheVariants.{Leaf, Pair, Repeat}
use Rattle.rows.specs.declared.Row.{Row}
use Rattle.rows.specs.Filing.{blank_row, row_of}
use Rattle.rows.specs.Strips.{strip}
use Rattle.recompression.specs.declared.index.Index.{Index}
use Rattle.recompression.specs.declared.slots.Slots.{Slots}
use Rattle.recompression.specs.Buckets.{IndexOf, Distinct}

-- the rows in use
abbrev pub in_use : Slots → List Row
in_use s = take s.count s.rows

abbrev pub is_blank_shape : Shape → Bool
is_blank_shape (Leaf code) = code == 0
is_blank_shape (Pair left right) = false
is_blank_shape (Repeat part times) = false

-- whether a row is the blank one
abbrev pub is_blank_row : Row → Bool
is_blank_row row = is_blank_shape row.shape && row.length == 0 && row.round == 0

-- each row keeps the length of its strip, as far as the field can hold it. A number that is not known has
-- the empty strip and the blank row, so that this holds of every number
abbrev pub LengthsKept : List Row → Type 0
LengthsKept rows = (n : ℕ) → (row_of rows n).length ≡ min 65535 (length (strip rows n))

-- there are 1,024 slots, those after the rows in use are blank, and the rows in use keep their lengths, are indexed
-- and are all of different shapes
pub record Sound (s : Slots) : Type 0 where
  pub long : length s.rows ≡ 1024
  pub few : s.count ≤ 1024
  pub blank : (k : ℕ) → s.count ≤ k → is_blank_row (slice_index_or s.rows k blank_row) ≡ true
  pub lengths : LengthsKept (in_use s)
  pub indexed : IndexOf (in_use s) s.index
  pub distinct : Distinct (in_use s)

-- slots with a row put after those in use, and the index that they then have
abbrev pub appended : Slots → Row → Index → Slots
appended s row index = record { rows = slice_set s.rows s.count row; index = index; count = s.count + 1 }

-- slots with at most the first n rows in use, and those after them made blank, and the index that they then have
abbrev pub truncated : ℕ → Slots → Index → Slots
truncated n s index = record { index = index; rows = take (min s.count n) s.rows ++ replicate (length s.rows - min s.count n) blank_row; count = min s.count n }
