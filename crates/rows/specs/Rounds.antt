-- The recompression rounds. Assumes nothing.
use Rattle.std.specs.Prelude.{ℕ, zero, suc, ◌+◌, ◌-◌, ◌*◌, ◌/◌, ◌%◌, ◌^◌, Bool, cond, not, ◌&&◌, List, [], ◌∷◌, map, length, Some, None, Option, ◌==◌, nat_lt, slice_index}
use Rattle.rows.specs.declared.Shape.{Shape}
use Rattle.rows.specs.declared.Shape.TheVariants.{Leaf, Pair, Repeat}
use Rattle.rows.specs.declared.Row.{Row}
use Rattle.rows.specs.Filing.{file}

-- a block of a string: a number that stays as it is, or a stretch or a pair that becomes a row
pub data Block : Type 0 where
  one : ℕ → Block
  new : Shape → Block

-- a stretch of m equal numbers is a repeat when m is at least 2
abbrev pub stretch : ℕ → ℕ → Block
stretch n m = cond (nat_lt m 2) (one n) (new (Repeat n m))

-- the longest stretches of equal numbers; m of the number n were seen so far
abbrev pub stretches_from : ℕ → ℕ → List ℕ → List Block
stretches_from n m [] = stretch n m ∷ []
stretches_from n m (x ∷ xs) = cond (x == n) (stretches_from n (m + 1) xs) (stretch n m ∷ stretches_from x 1 xs)

abbrev pub stretches : List ℕ → List Block
stretches [] = []
stretches (x ∷ xs) = stretches_from x 1 xs

-- the class of a number in even round k: with r the remainder of k ÷ 2 − 1 by 22, left when its bit r is
-- 1 for r below 11, else when its bit r − 11 is 0; a number that is not left is right
abbrev pub left_at : ℕ → ℕ → Bool
left_at r n = cond (nat_lt r 11) ((n / 2 ^ r) % 2 == 1) ((n / 2 ^ (r - 11)) % 2 == 0)

unfoldable pub is_left : ℕ → ℕ → Bool
is_left k n = left_at ((k / 2 - 1) % 22) n

-- whether a left number is followed by a right one
abbrev pub joins : ℕ → ℕ → ℕ → Bool
joins k x y = is_left k x && not (is_left k y)

abbrev mutual
  -- every left number followed by a right number makes a pair, from left to right
  pub pairs : ℕ → List ℕ → List Block
  pairs k [] = []
  pairs k (x ∷ xs) = pairs_from k x xs

  pub pairs_from : ℕ → ℕ → List ℕ → List Block
  pairs_from k x [] = one x ∷ []
  pairs_from k x (y ∷ ys) = cond (joins k x y) (new (Pair x y) ∷ pairs k ys) (one x ∷ pairs_from k y ys)

-- the blocks of a string in round k
unfoldable pub blocks : ℕ → List ℕ → List Block
blocks k numbers = cond (k % 2 == 1) (stretches numbers) (pairs k numbers)

-- what is left of a string, and the rows
pub record Filed : Type 0 where
  pub numbers : List ℕ
  pub rows : List Row

-- what comes after a step that may find the shelf full
abbrev pub then : {A B : Type 0} → Option A → (A → Option B) → Option B
then None next = None
then (Some a) next = next a

abbrev pub with_number : ℕ → Filed → Option Filed
with_number n f = Some (record { numbers = n ∷ f.numbers; rows = f.rows })

-- blocks filed from left to right, in round k
unfoldable pub file_all : ℕ → List Block → List Row → Option Filed
file_all k [] rows = Some (record { numbers = []; rows = rows })
file_all k (one n ∷ bs) rows = then (file_all k bs rows) (with_number n)
file_all k (new shape ∷ bs) rows = then (file k rows shape) (λ found. then (file_all k bs found.rows) (with_number found.number))

-- one round
abbrev pub round : ℕ → Filed → Option Filed
round k f = file_all k (blocks k f.numbers) f.rows

-- what rounds leave: the string, the rows, and how many rounds were run
pub record Settled : Type 0 where
  pub numbers : List ℕ
  pub rows : List Row
  pub rounds : ℕ

abbrev pub settled : Filed → ℕ → Settled
settled f k = record { numbers = f.numbers; rows = f.rows; rounds = k }

-- rounds k + 1, k + 2 and on, until at most one number is left, and at most so many of them
unfoldable pub rounds_from : ℕ → ℕ → Filed → Option Settled
rounds_from zero k f = Some (settled f k)
rounds_from (suc most) k f = cond (nat_lt (length f.numbers) 2) (Some (settled f k)) (then (round (k + 1) f) (rounds_from most (k + 1)))

-- the leaves of codes, from left to right
abbrev pub leaf_block : ℕ → Block
leaf_block code = new (Leaf code)

abbrev pub leaves : List Row → List ℕ → Option Filed
leaves rows codes = file_all 0 (map leaf_block codes) rows

-- any 44 rounds on end shorten a string of two or more numbers from 1 to 1,024, which those of all rows are, so that this
-- many rounds are enough for it. Other numbers may never pair, as 1 and 2,049 do not
abbrev pub enough_rounds : ℕ → ℕ
enough_rounds n = 44 * n

-- what a strip comes to: its leaves, and then the rounds until at most one number is left; or none when
-- a row 1,025 would be needed
unfoldable pub settle : List Row → List ℕ → Option Settled
settle rows codes = then (leaves rows codes) (rounds_from (enough_rounds (length codes)) 0)

-- the number that a string is left with: 0 when it is empty
abbrev pub number_left : List ℕ → ℕ
number_left numbers = slice_index numbers 0
