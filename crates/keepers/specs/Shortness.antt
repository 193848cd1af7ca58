-- How many codes a keeper stands for at most. Assumes nothing.
use Rattle.std.specs.Prelude.{ℕ, ◌≤◌, List, length}

-- the most codes that a keeper stands for
abbrev pub most_codes : ℕ
most_codes = 65535

-- a list that a keeper can stand for
abbrev pub ShortList : List ℕ → Type 0
ShortList xs = length xs ≤ most_codes

-- the law of a keeper: the list that it stands for is such a one
abbrev pub AllShort : {K : Type 0} → (K → List ℕ) → Type 0
AllShort {K} codes = (keeper : K) → ShortList (codes keeper)
