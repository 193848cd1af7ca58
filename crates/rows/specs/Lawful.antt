-- What every shelf keeps of its rows. Assumes nothing.
use Rattle.std.specs.Prelude.{◌≡◌, ℕ, ◌+◌, ◌<◌, ◌≤◌, Bool, true, false, ◌&&◌, List, length, take, Some, None, Option, ◌==◌, nat_le, nat_lt}
use Rattle.rows.specs.declared.Shape.{Shape}
use Rattle.rows.specs.declared.Shape.TheVariants.{Leaf, Pair, Repeat}
use Rattle.rows.specs.declared.Row.{Row}
use Rattle.rows.specs.Filing.{find, row_of}
use Rattle.rows.specs.Rounds.{Settled, settle, number_left}
use Rattle.rows.specs.Strips.{strip}

-- parts are known numbers, at least 1 and smaller than the row's own, and a repeat has at least 2 of them
abbrev pub parts_below : ℕ → Shape → Bool
parts_below n (Leaf code) = true
parts_below n (Pair left right) = (nat_lt 0 left && nat_lt left n) && (nat_lt 0 right && nat_lt right n)
parts_below n (Repeat part count) = (nat_lt 0 part && nat_lt part n) && nat_le 2 count

-- it is the first row of its shape, so that no two rows are alike
abbrev pub found_as : ℕ → Option ℕ → Bool
found_as n None = false
found_as n (Some m) = m == n

-- the rounds, run on a strip with only the rows up to row n, add none and come to row n in round k
abbrev pub comes_to : ℕ → ℕ → Option Settled → Bool
comes_to n k None = false
comes_to n k (Some s) = (length s.numbers == 1 && number_left s.numbers == n) && (length s.rows == n && s.rounds == k)

-- row n keeps all that a shelf promises of it
unfoldable pub lawful_row : List Row → ℕ → Bool
lawful_row rows n =
    (parts_below n (row_of rows n).shape && found_as n (find rows (row_of rows n).shape))
    && (((row_of rows n).length == length (strip rows n) && nat_le (length (strip rows n)) 65535)
    && comes_to n (row_of rows n).round (settle (take n rows) (strip rows n)))

-- there are at most 1,024 rows, and each is lawful
abbrev pub Lawful : List Row → Type 0
Lawful rows = (length rows ≤ 1024) × ((k : ℕ) → k < length rows → lawful_row rows (k + 1) ≡ true)
