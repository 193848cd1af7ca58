-- Numbers in a range that pass a test, and answers that tell them. Assumes nothing.
use Rattle.std.specs.Prelude.{◌≡◌, ℕ, ◌+◌, ◌*◌, ◌<◌, ◌≤◌, Bool, true, false, Some, None, Option}
use Rattle.periodicity.specs.declared.Progression.{Progression}
use Rattle.periodicity.specs.Progressions.{Proper}

-- no number from a on and below b passes the test
abbrev pub NoneFrom : (ℕ → Bool) → ℕ → ℕ → Type 0
NoneFrom test a b = (i : ℕ) → a ≤ i → i < b → test i ≡ false

-- the least number from a on and below b that passes the test, or that there is none
abbrev pub LeastFrom : (ℕ → Bool) → ℕ → ℕ → Option ℕ → Type 0
LeastFrom test a b None = NoneFrom test a b
LeastFrom test a b (Some x) = (a ≤ x) × (x < b) × (test x ≡ true) × NoneFrom test a x

-- the greatest such number, or that there is none
abbrev pub GreatestFrom : (ℕ → Bool) → ℕ → ℕ → Option ℕ → Type 0
GreatestFrom test a b None = NoneFrom test a b
GreatestFrom test a b (Some x) = (a ≤ x) × (x < b) × (test x ≡ true) × NoneFrom test (x + 1) b

-- the numbers from a on and below b that pass the test are exactly first, first + step, and on
pub record Stepwise (test : ℕ → Bool) (a b first step count : ℕ) : Type 0 where
  pub moves : 1 < count → 0 < step
  pub passes : (j : ℕ) → j < count → test (first + j * step) ≡ true
  pub within : (j : ℕ) → j < count → (a ≤ first + j * step) × (first + j * step < b)
  pub only : (i : ℕ) → a ≤ i → i < b → test i ≡ true → (j : ℕ) × (j < count) × (i ≡ first + j * step)

-- an answer tells exactly the numbers from a on and below b that pass the test
abbrev pub Tells : (ℕ → Bool) → ℕ → ℕ → Option Progression → Type 0
Tells test a b None = NoneFrom test a b
Tells test a b (Some p) = Proper p × Stepwise test a b p.first p.step p.count
