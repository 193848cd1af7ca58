-- Progressions: a first number, a step and a count, and the list that they name. Assumes nothing.
use Rattle.std.specs.Prelude.{◌≡◌, ℕ, zero, suc, ◌+◌, ◌-◌, ◌*◌, ◌≤◌, List, [], ◌∷◌, ◌++◌, length, Some, None, Option, codes as ascii, decimal}
use Rattle.periodicity.specs.declared.Progression.{Progression}

-- first, first + step, and on, as many as count
abbrev pub progression : ℕ → ℕ → ℕ → List ℕ
progression first step zero = []
progression first step (suc n) = first ∷ progression (first + step) step n

abbrev pub triple : ℕ → ℕ → ℕ → Progression
triple first step count = record { first = first; step = step; count = count }

-- a first number, a step and a count
abbrev pub triple_text : Progression → List ℕ
triple_text p = decimal p.first ++ (ascii " " ++ (decimal p.step ++ (ascii " " ++ decimal p.count)))

-- the numbers that a progression names
abbrev pub named_by : Progression → List ℕ
named_by p = progression p.first p.step p.count

-- the numbers that an answer names: none when it is absent
abbrev pub named : Option Progression → List ℕ
named None = []
named (Some p) = named_by p

-- how many numbers an answer counts: 0 when it is absent
abbrev pub counted : Option Progression → ℕ
counted None = 0
counted (Some p) = p.count

-- the answer that tells an ascending list: absent for none; else its first, how far on the second is
-- (0 when there is none) and how many there are
abbrev pub progression_of : List ℕ → Option Progression
progression_of [] = None
progression_of (x ∷ []) = Some (triple x 0 1)
progression_of (x ∷ (y ∷ zs)) = Some (triple x (y - x) (length (x ∷ (y ∷ zs))))

-- a progression names at least one number, and its step is 0 exactly when it names one alone
pub record Proper (p : Progression) : Type 0 where
  pub some : 1 ≤ p.count
  pub alone : p.count ≡ 1 → p.step ≡ 0
  pub still : p.step ≡ 0 → p.count ≡ 1

-- an answer names exactly the numbers of a list, so that its count is their number
abbrev pub Present : Option Progression → Type 0
Present None = Unit {0}
Present (Some p) = Proper p

pub record Names (answer : Option Progression) (numbers : List ℕ) : Type 0 where
  pub all : named answer ≡ numbers
  pub many : counted answer ≡ length numbers
  pub proper : Present answer

-- a progression of borders of a list of n codes, as the periods n − border, ascending again
abbrev pub mirrored : ℕ → Progression → Progression
mirrored n p = triple (n - (p.first + (p.count - 1) * p.step)) p.step p.count
