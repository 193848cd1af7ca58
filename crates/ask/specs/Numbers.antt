-- The numbers that words write. Assumes nothing.
use Rattle.std.specs.Prelude.{ℕ, ◌+◌, ◌-◌, ◌*◌, cond, ◌&&◌, List, [], ◌∷◌, Some, None, Option, nat_lt}
use Rattle.std.specs.Str.{all_ascii_digits}

-- the number that decimal digits write, after one that has been read
abbrev pub value_after : ℕ → List ℕ → ℕ
value_after n [] = n
value_after n (b ∷ bs) = value_after (n * 10 + (b - 48)) bs

-- the number that a word writes: absent when the word is empty, has a byte that is no digit, or when the
-- number is not below the limit
unfoldable pub number_below : ℕ → List ℕ → Option ℕ
number_below limit [] = None
number_below limit (b ∷ bs) =
    cond (all_ascii_digits (b ∷ bs) && nat_lt (value_after 0 (b ∷ bs)) limit) (Some (value_after 0 (b ∷ bs))) None
