-- The first cell of a list that cannot be printed, under any rule that gives the printable cells their codes. Assumes nothing.
use Rattle.std.specs.Prelude.{◌≡◌, ℕ, suc, ◌<◌, true, cond, List, [], ◌∷◌, length, is_some, Some, None, Option, MatchOption}
use Rattle.std.specs.Option.{option_map}
use Rattle.std.specs.List.{HoldsAt}

-- The place of the first cell that has no code, counted from 0, or `None` where every cell has one.
abbrev pub first_unprintable : {K : Type 0} → (K → Option ℕ) → List K → Option ℕ
first_unprintable code_of [] = None
first_unprintable code_of (x ∷ xs) = cond (is_some (code_of x)) (option_map suc (first_unprintable code_of xs)) (Some 0)

-- A cell is printable when it has a code.
abbrev pub Printable : {K : Type 0} → (K → Option ℕ) → K → Type 0
Printable code_of x = is_some (code_of x) ≡ true

-- Every cell before place n is printable.
abbrev pub PrintableBefore : {K : Type 0} → (K → Option ℕ) → List K → ℕ → Type 0
PrintableBefore code_of xs n = (k : ℕ) → k < n → HoldsAt (Printable code_of) xs k

-- What the answer r says, in words. If it is `None`, every cell is printable. If it is place i, then i is a
-- place of the list, the cell there is not printable, and every cell before it is.
abbrev pub FoundFirst : {K : Type 0} → (K → Option ℕ) → List K → Option ℕ → Type 0
FoundFirst code_of xs r =
    MatchOption r (PrintableBefore code_of xs (length xs)) (λ i. (i < length xs) × HoldsAt (λ x. code_of x ≡ None) xs i × PrintableBefore code_of xs i)
