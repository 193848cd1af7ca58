-- The blocks of a round as a reader of the string sees them, told without the way in which they are found, and their
-- laws. Assumes nothing.
use Rattle.std.specs.Prelude.{◌≡◌, ℕ, ◌%◌, ◌<◌, ◌≤◌, ◌↔◌, Bool, true, false, cond, List, [], ◌∷◌, ◌++◌, length, replicate, ◌==◌}
use Rattle.std.specs.List.{flat_map, AllByRecursion}
use Rattle.rows.specs.declared.Shape.TheVariants.{Leaf, Pair, Repeat}
use Rattle.rows.specs.Rounds.{Block, one, new, is_left, joins, blocks}

-- the numbers that a block was read from
abbrev pub symbols : Block → List ℕ
symbols (one n) = n ∷ []
symbols (new (Leaf code)) = []
symbols (new (Pair left right)) = left ∷ right ∷ []
symbols (new (Repeat part count)) = replicate count part

-- the string that blocks were read from
abbrev pub spelled : List Block → List ℕ
spelled bs = flat_map symbols bs

-- a block is of the form of round k: in every round a single number; in odd rounds a number two or more times; in
-- even rounds a left number and then a right one
abbrev pub InRound : ℕ → Block → Type 0
InRound k (one n) = Unit {0}
InRound k (new (Leaf code)) = ⊥
InRound k (new (Pair left right)) = ((k % 2 == 1) ≡ false) × (joins k left right ≡ true)
InRound k (new (Repeat part count)) = ((k % 2 == 1) ≡ true) × (2 ≤ count)

-- the first and the last number of a block; a leaf is read from codes, not from a string, and 0 stands for its ends
abbrev pub first_number : Block → ℕ
first_number (one n) = n
first_number (new (Leaf code)) = 0
first_number (new (Pair left right)) = left
first_number (new (Repeat part count)) = part

abbrev pub last_number : Block → ℕ
last_number (one n) = n
last_number (new (Leaf code)) = 0
last_number (new (Pair left right)) = right
last_number (new (Repeat part count)) = part

-- whether neighbours x and y belong in one block of round k: equal numbers in odd rounds, a left number and then a
-- right one in even rounds
abbrev pub merges : ℕ → ℕ → ℕ → Bool
merges k x y = cond (k % 2 == 1) (y == x) (joins k x y)

-- no two neighbouring blocks would merge, the last number of the one with the first of the next
abbrev pub NoneMerge : ℕ → List Block → Type 0
NoneMerge k bs = (before after : List Block) (a b : Block) → bs ≡ before ++ (a ∷ b ∷ after) → merges k (last_number a) (first_number b) ≡ false

-- blocks cut a string up as round k does: they spell it, each is of the round's form, and no two neighbours would merge
pub record CutUp (k : ℕ) (numbers : List ℕ) (bs : List Block) : Type 0 where
  pub spells : spelled bs ≡ numbers
  pub formed : AllByRecursion (InRound k) bs
  pub apart : NoneMerge k bs

-- the blocks of a round are the one list of blocks that does so
abbrev pub BlocksCutUp : Type 0
BlocksCutUp = (k : ℕ) (numbers : List ℕ) (bs : List Block) → CutUp k numbers bs ↔ (bs ≡ blocks k numbers)

-- a string ends in a number, or begins with it
abbrev pub EndsIn : ℕ → List ℕ → Type 0
EndsIn n numbers = (front : List ℕ) × (numbers ≡ front ++ (n ∷ []))

abbrev pub BeginsWith : ℕ → List ℕ → Type 0
BeginsWith n numbers = (rest : List ℕ) × (numbers ≡ n ∷ rest)

-- so in an odd round every longest stretch of m equal numbers, m at least 2, is one block, the repeat of that number m
-- times
abbrev pub StretchesRepeat : Type 0
StretchesRepeat = (k n m : ℕ) (before after : List ℕ) → k % 2 ≡ 1 → 2 ≤ m → (EndsIn n before → ⊥) → (BeginsWith n after → ⊥)
    → blocks k (before ++ (replicate m n ++ after)) ≡ blocks k before ++ (new (Repeat n m) ∷ blocks k after)

-- and in an even round every left number that a right one follows is one block with it, their pair
abbrev pub PairsMade : Type 0
PairsMade = (k x y : ℕ) (before after : List ℕ) → k % 2 ≡ 0 → is_left k x ≡ true → is_left k y ≡ false
    → blocks k (before ++ (x ∷ y ∷ after)) ≡ blocks k before ++ (new (Pair x y) ∷ blocks k after)

-- the first and the last number of a string, or d where it is empty
abbrev pub first_or : ℕ → List ℕ → ℕ
first_or d [] = d
first_or d (x ∷ xs) = x

abbrev pub last_or : ℕ → List ℕ → ℕ
last_or d [] = d
last_or d (x ∷ xs) = last_or x xs

-- two strings side by side are cut up as each is alone exactly where the numbers at their seam do not merge
abbrev pub SeamsRead : Type 0
SeamsRead = (k : ℕ) (a b : List ℕ) → 0 < length a → 0 < length b
    → (blocks k (a ++ b) ≡ blocks k a ++ blocks k b) ↔ (merges k (last_or 0 a) (first_or 0 b) ≡ false)

-- a string is cut up into its blocks
abbrev pub BlocksSpell : Type 0
BlocksSpell = (k : ℕ) (numbers : List ℕ) → spelled (blocks k numbers) ≡ numbers

-- and blocks that stand side by side are those of their own numbers alone
abbrev pub BlocksLocal : Type 0
BlocksLocal = (k : ℕ) (numbers : List ℕ) (before middle after : List Block) → blocks k numbers ≡ before ++ (middle ++ after)
    → blocks k (spelled middle) ≡ middle
