-- From the tests that a question makes to the outcome and the law that it promises. Assumes nothing.
use Rattle.std.proofs.Common.{◌≡◌, None, Option, sym, ap, ◌∙◌}
use Rattle.questions.specs.declared.refusal.Refusal.{Refusal}
use Rattle.questions.specs.Outcomes.{answered, checked}

-- no check applies
pub answered_unchecked : {A : Type 0} (check : Option Refusal) (a b : A) → check ≡ None → a ≡ b → answered a ≡ checked check b
answered_unchecked check a b none e = ap answered e ∙ ap (λ o. checked o b) (sym none)
