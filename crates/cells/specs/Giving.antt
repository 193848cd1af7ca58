-- The cell given back for a code, in any kind. Assumes nothing.
use Rattle.std.specs.Prelude.{ℕ, Bool, cond}

-- The cell that the number spells, if the kind has it as a code, and else the blank.
abbrev pub given_by : {K : Type 0} → (ℕ → Bool) → (ℕ → K) → K → ℕ → K
given_by has spelled blank n = cond (has n) (spelled n) blank
