-- Leaves filed into a work area, and strips settled from them. Assumes nothing.
use Rattle.std.specs.Prelude.{◌≡◌, ℕ, List, length, take, Some, None, Ok, Err, Result}
use Rattle.rows.specs.declared.Row.{Row}
use Rattle.rows.specs.Rounds.{Settled, leaves, settle, number_left}
use Rattle.shelf.specs.declared.refusal.Refusal.{Refusal}
use Rattle.shelf.specs.declared.refusal.Refusal.TheVariants.{ShelfFull}

-- all leaves are filed, and these are their numbers; or the table is full, and its rows begin with those
-- of before
abbrev pub LeavesFiled : {A : Type 0} → List Row → List ℕ → Result A Refusal → List Row → List ℕ → Type 0
LeavesFiled rows codes (Ok done) after numbers = leaves rows codes ≡ Some (record { numbers = numbers; rows = after })
LeavesFiled rows codes (Err e) after numbers = (e ≡ ShelfFull) × (leaves rows codes ≡ None) × (take (length rows) after ≡ rows)

-- a strip comes to a number; or a row 1,025 would be needed, and the rows begin with those of before
abbrev pub SettlesAs : List Row → List ℕ → Result ℕ Refusal → List Row → Type 0
SettlesAs rows codes (Ok n) after = (s : Settled) × (settle rows codes ≡ Some s) × (n ≡ number_left s.numbers) × (after ≡ s.rows)
SettlesAs rows codes (Err e) after = (e ≡ ShelfFull) × (settle rows codes ≡ None) × (take (length rows) after ≡ rows)

-- the same, with the rows as they were where it is refused
abbrev pub SettlesOrUndoes : List Row → List ℕ → Result ℕ Refusal → List Row → Type 0
SettlesOrUndoes rows codes (Ok n) after = SettlesAs rows codes (Ok n) after
SettlesOrUndoes rows codes (Err e) after = (e ≡ ShelfFull) × (settle rows codes ≡ None) × (after ≡ rows)
