-- The lengths of strips on a shelf. Assumes nothing.
use Rattle.std.proofs.Common.{◌≡◌, ℕ, zero, suc, ◌<◌, ◌≤◌, leb, List, length, Some, None, Option, unwrap_or, sym, ap, ◌∙◌, inl, inr, arith}
use Rattle.std.proofs.lemmas.Bool.{cases_lt, cond-true, cond-false, le-leb, lt-leb}
use Rattle.recompression.proofs.CodeFacts.{strip_unknown}
use Rattle.rows.specs.declared.Row.{Row}
use Rattle.rows.specs.Strips.{strip}
use Rattle.rows.proofs.StripFacts.{strip_none}
use Rattle.shelf.specs.Contents.{length_at}

-- a number that is not known has the empty strip
pub length_or_none : (rows : List Row) (n r : ℕ) (o : Option ℕ) → o ≡ length_at rows n → r ≡ unwrap_or o 0 → r ≡ length (strip rows n)
length_or_none rows n r o is r_is =
    elim (cases_lt (length rows) n) [
      | inl unknown ↦
          r_is ∙ ap (λ x. unwrap_or x 0) (is ∙ cond-false (leb n (length rows)) (Some (length (strip rows n))) None (lt-leb n (length rows) unknown))
          ∙ sym (ap length (strip_unknown rows n unknown))
      | inr known ↦ r_is ∙ ap (λ x. unwrap_or x 0) (is ∙ cond-true (leb n (length rows)) (Some (length (strip rows n))) None (le-leb n (length rows) known))
    ]

-- a number whose strip has a code is known
pub known_by_code : (rows : List Row) (n : ℕ) → 0 < length (strip rows n) → (0 < n) × (n ≤ length rows)
known_by_code rows zero some = absurd (omega (arith, ap length (strip_none rows)))
known_by_code rows (suc n) some =
    elim (cases_lt (length rows) (suc n)) [
      | inl unknown ↦ absurd (omega (arith, ap length (strip_unknown rows (suc n) unknown)))
      | inr known ↦ (omega arith, known)
    ]
