-- A round that is run in place on a list of numbers. Assumes nothing.
use Rattle.std.specs.Prelude.{◌≡◌, ℕ, ◌<◌, ◌≤◌, List, ◌∷◌, length, take, drop, Some, None, Option, slice_index}
use Rattle.rows.specs.declared.Shape.TheVariants.{Pair}
use Rattle.rows.specs.declared.Row.{Row}
use Rattle.rows.specs.Filing.{Numbered, file}
use Rattle.recompression.specs.declared.table.rounds.Block.{Block as Held}
use Rattle.recompression.specs.declared.table.rounds.Block.TheVariants.{One, New}
use Rattle.rows.specs.Rounds.{Block, one, new, pairs, file_all}

-- a block filed by itself: a number stays as it is, and a shape gets its number
abbrev pub file_block : ℕ → List Row → Block → Option Numbered
file_block k rows (one n) = Some (record { number = n; rows = rows })
file_block k rows (new shape) = file k rows shape

-- a block as the code holds it
abbrev pub block_of : Held → Block
block_of (One n) = one n
block_of (New shape) = new shape

-- the first block of a string, and how many numbers it takes, where `parts` gives the blocks of a string
abbrev pub IsFirst : (List ℕ → List Block) → List ℕ → Held → ℕ → Type 0
IsFirst parts numbers block taken = (0 < taken) × (taken ≤ length numbers) × (parts numbers ≡ block_of block ∷ parts (drop taken numbers))

-- the number with which the first of a string is joined in round k, if it is, and the blocks after it
abbrev pub Partner : ℕ → List ℕ → Option ℕ → Type 0
Partner k numbers (Some right) = (2 ≤ length numbers) × (pairs k numbers ≡ new (Pair (slice_index numbers 0) right) ∷ pairs k (drop 2 numbers))
Partner k numbers None = pairs k numbers ≡ one (slice_index numbers 0) ∷ pairs k (drop 1 numbers)

-- what a round leaves that files these blocks: the string in the first m numbers, no more than there were,
-- and the rows; or, where the table is full, rows that begin with those of before
abbrev pub Ran : ℕ → List Block → List Row → Option ℕ → List Row → List ℕ → Type 0
Ran k bs rows (Some m) after numbers = (m ≤ length numbers) × (file_all k bs rows ≡ Some (record { numbers = take m numbers; rows = after }))
Ran k bs rows None after numbers = (file_all k bs rows ≡ None) × (take (length rows) after ≡ rows)
