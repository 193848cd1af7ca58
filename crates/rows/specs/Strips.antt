-- The strips that rows write. Assumes nothing.
use Rattle.std.specs.Prelude.{ℕ, zero, suc, ◌+◌, List, [], ◌∷◌, ◌++◌, length, slice_index_or}
use Rattle.std.specs.List.{flat_map}
use Rattle.rows.specs.declared.Shape.{Shape}
use Rattle.rows.specs.declared.Shape.TheVariants.{Leaf, Pair, Repeat}
use Rattle.rows.specs.declared.Row.{Row}

-- a list, so many times over
abbrev pub times : {A : Type 0} → ℕ → List A → List A
times zero xs = []
times (suc n) xs = xs ++ times n xs

-- what a number stands for, given what rows 1, 2 and on stand for: nothing for number 0 and for one that
-- is not known
abbrev pub known_as : {A : Type 0} → List (List A) → ℕ → List A
known_as done n = slice_index_or ([] ∷ done) n []

-- what a shape writes, given what the rows before it write: a leaf its one cell, a pair its left part and
-- then its right part, a repeat its part so many times
abbrev pub written : List (List ℕ) → Shape → List ℕ
written done (Leaf code) = code ∷ []
written done (Pair left right) = known_as done left ++ known_as done right
written done (Repeat part count) = times count (known_as done part)

-- the strips of all rows, one after the other
abbrev pub strips_from : List (List ℕ) → List Row → List (List ℕ)
strips_from done [] = done
strips_from done (row ∷ rows) = strips_from (done ++ (written done row.shape ∷ [])) rows

-- the strip of a number, as codes
unfoldable pub strip : List Row → ℕ → List ℕ
strip rows n = known_as (strips_from [] rows) n

-- the strips of a string of numbers, joined
abbrev pub expanded : List Row → List ℕ → List ℕ
expanded rows numbers = flat_map (strip rows) numbers

-- the same with the number of each leaf in place of its code: what the rounds start from
abbrev pub leaf_written : List (List ℕ) → Shape → List ℕ
leaf_written done (Leaf code) = (length done + 1) ∷ []
leaf_written done (Pair left right) = known_as done left ++ known_as done right
leaf_written done (Repeat part count) = times count (known_as done part)

abbrev pub leaf_strings_from : List (List ℕ) → List Row → List (List ℕ)
leaf_strings_from done [] = done
leaf_strings_from done (row ∷ rows) = leaf_strings_from (done ++ (leaf_written done row.shape ∷ [])) rows

-- the leaf numbers of a number's strip
unfoldable pub leaf_string : List Row → ℕ → List ℕ
leaf_string rows n = known_as (leaf_strings_from [] rows) n
