-- How far two lists of codes agree. Assumes nothing.
use Rattle.std.specs.Prelude.{◌≡◌, ℕ, ◌<◌, ◌≤◌, Bool, true, false, cond, ◌&&◌, List, [], ◌∷◌, reverse, length, take, drop, Some, None, Option, ◌==◌, nat_eq, nat_le, nat_lt, slice_index}
use Rattle.std.specs.List as shelf

-- whether two lists are the same, code for code
abbrev pub same : List ℕ → List ℕ → Bool
same [] [] = true
same [] (y ∷ ys) = false
same (x ∷ xs) [] = false
same (x ∷ xs) (y ∷ ys) = x == y && same xs ys

-- how many codes agree from the front on, before the first that differ or the end of either list
abbrev pub common : List ℕ → List ℕ → ℕ
common xs ys = shelf.common_prefix_len nat_eq xs ys

-- two lists agree in their first n codes: both have so many, and each is the same in both
pub record Agree (xs ys : List ℕ) (n : ℕ) : Type 0 where
  pub left_room : n ≤ length xs
  pub right_room : n ≤ length ys
  pub each : (k : ℕ) → k < n → slice_index xs k ≡ slice_index ys k

-- n is the greatest number of codes in which two lists agree
pub record Greatest (xs ys : List ℕ) (n : ℕ) : Type 0 where
  pub agree : Agree xs ys n
  pub most : (m : ℕ) → Agree xs ys m → m ≤ n

-- whether both places lie in the strip or just past its end
abbrev pub both_within : List ℕ → ℕ → ℕ → Bool
both_within xs i j = nat_le i (length xs) && nat_le j (length xs)

-- the code at a place, absent from the length on
abbrev pub code_of : List ℕ → ℕ → Option ℕ
code_of xs i = cond (nat_lt i (length xs)) (Some (slice_index xs i)) None

-- the longest common extension ahead of two places: from them on; absent when one is above the length
abbrev pub ahead_of : List ℕ → ℕ → ℕ → Option ℕ
ahead_of xs i j = cond (both_within xs i j) (Some (common (drop i xs) (drop j xs))) None

-- the longest common extension behind two places: just before them, going back; absent likewise
abbrev pub behind_of : List ℕ → ℕ → ℕ → Option ℕ
behind_of xs i j = cond (both_within xs i j) (Some (common (reverse (take i xs)) (reverse (take j xs)))) None
