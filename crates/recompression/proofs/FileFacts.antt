-- What filing answers: a row that is found, one that is added, or none. Assumes nothing.
use Rattle.std.proofs.Common.{◌≡◌, ℕ, ◌+◌, ◌<◌, ◌≤◌, ltb, List, [], ◌∷◌, ◌++◌, length, Some, None, ap, ◌∙◌}
use Rattle.std.proofs.lemmas.Bool.{cond-true, cond-false, lt-ltb, le-ltb}
use Rattle.rows.specs.declared.Shape.{Shape}
use Rattle.rows.specs.declared.Row.{Row}
use Rattle.rows.specs.Filing.{find, row_made, numbered, file}

-- a row that is added, and a table that is full
pub numbered_added : (k : ℕ) (rows : List Row) (shape : Shape) → length rows < 1024
    → numbered k rows shape None ≡ Some (record { number = length rows + 1; rows = rows ++ (row_made k rows shape ∷ []) })
numbered_added k rows shape room =
    cond-true (ltb (length rows) 1024) (Some (record { number = length rows + 1; rows = rows ++ (row_made k rows shape ∷ []) })) None
    (lt-ltb (length rows) 1024 room)

pub numbered_full : (k : ℕ) (rows : List Row) (shape : Shape) → 1024 ≤ length rows → numbered k rows shape None ≡ None
numbered_full k rows shape full =
    cond-false (ltb (length rows) 1024) (Some (record { number = length rows + 1; rows = rows ++ (row_made k rows shape ∷ []) })) None
    (le-ltb (length rows) 1024 full)

-- filing a shape that is found, one that needs a row, and one that finds the table full
pub file_as_found : (k : ℕ) (rows : List Row) (shape : Shape) (n : ℕ) → find rows shape ≡ Some n → file k rows shape ≡ Some (record { number = n; rows = rows })
file_as_found k rows shape n found = ap (numbered k rows shape) found

pub file_as_added : (k : ℕ) (rows : List Row) (shape : Shape) → find rows shape ≡ None → length rows < 1024
    → file k rows shape ≡ Some (record { number = length rows + 1; rows = rows ++ (row_made k rows shape ∷ []) })
file_as_added k rows shape none room = ap (numbered k rows shape) none ∙ numbered_added k rows shape room

pub file_full : (k : ℕ) (rows : List Row) (shape : Shape) → find rows shape ≡ None → 1024 ≤ length rows → file k rows shape ≡ None
file_full k rows shape none full = ap (numbered k rows shape) none ∙ numbered_full k rows shape full
