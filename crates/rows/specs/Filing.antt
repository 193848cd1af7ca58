-- How a shape gets its number: the first row of that shape, or a row added after the others.
-- Assumes nothing.
use Rattle.std.specs.Prelude.{ℕ, ◌+◌, ◌*◌, min, Bool, false, cond, ◌&&◌, List, [], ◌∷◌, ◌++◌, length, Some, None, Option, ◌==◌, nat_lt, slice_index_or}
use Rattle.rows.specs.declared.Shape.{Shape}
use Rattle.rows.specs.declared.Shape.TheVariants.{Leaf, Pair, Repeat}
use Rattle.rows.specs.declared.Row.{Row}

-- whether two shapes are alike
abbrev pub alike : Shape → Shape → Bool
alike (Leaf a) (Leaf b) = a == b
alike (Leaf a) (Pair l r) = false
alike (Leaf a) (Repeat p m) = false
alike (Pair a b) (Leaf c) = false
alike (Pair a b) (Pair l r) = a == l && b == r
alike (Pair a b) (Repeat p m) = false
alike (Repeat a b) (Leaf c) = false
alike (Repeat a b) (Pair l r) = false
alike (Repeat a b) (Repeat p m) = a == p && b == m

-- the number of the first row of that shape; rows count on from n
abbrev pub find_from : ℕ → List Row → Shape → Option ℕ
find_from n [] shape = None
find_from n (row ∷ rows) shape = cond (alike row.shape shape) (Some n) (find_from (n + 1) rows shape)

unfoldable pub find : List Row → Shape → Option ℕ
find rows shape = find_from 1 rows shape

abbrev pub blank_row : Row
blank_row = record { shape = Leaf 0; length = 0; round = 0 }

-- the row of a number, blank for number 0 and for one that is not known
abbrev pub row_of : List Row → ℕ → Row
row_of rows n = slice_index_or (blank_row ∷ rows) n blank_row

-- the length of what a shape writes, from the lengths that the rows of its parts keep
abbrev pub whole_length : List Row → Shape → ℕ
whole_length rows (Leaf code) = 1
whole_length rows (Pair left right) = (row_of rows left).length + (row_of rows right).length
whole_length rows (Repeat part count) = (row_of rows part).length * count

-- the length that a row of that shape keeps: the field could hold no more than 65,535, which a shelf never passes
abbrev pub shape_length : List Row → Shape → ℕ
shape_length rows shape = min 65535 (whole_length rows shape)

abbrev pub row_made : ℕ → List Row → Shape → Row
row_made k rows shape = record { shape = shape; length = shape_length rows shape; round = k }

-- a number, and the rows with which it was found
pub record Numbered : Type 0 where
  pub number : ℕ
  pub rows : List Row

-- a row on the shelf is used where it exists; otherwise one is added with the next number, made in round
-- k, unless there are 1,024 already
abbrev pub numbered : ℕ → List Row → Shape → Option ℕ → Option Numbered
numbered k rows shape (Some n) = Some (record { number = n; rows = rows })
numbered k rows shape None =
    cond (nat_lt (length rows) 1024) (Some (record { number = length rows + 1; rows = rows ++ (row_made k rows shape ∷ []) })) None

abbrev pub file : ℕ → List Row → Shape → Option Numbered
file k rows shape = numbered k rows shape (find rows shape)
