-- What printable cells at the front of a list say of its first unprintable cell. Assumes nothing.
use Rattle.std.proofs.Common.{◌≡◌, ℕ, zero, suc, ◌+◌, ◌<◌, ◌≤◌, List, [], ◌∷◌, length, get_or, is_some, Some, None, Option, sym, refl, ap, ◌∙◌, suc-le-suc, le_of_suc-le-suc, not-suc-le-zero, arith, below_more}
use Rattle.std.specs.Option.{option_map}
use Rattle.std.proofs.lemmas.List.Elements.{at_read}
use Rattle.std.proofs.lemmas.Bool.{cond-true, cond-false}
use Rattle.cells.specs.Printing.{first_unprintable, Printable, PrintableBefore}

module _ {K : Type 0} (code_of : K → Option ℕ) where
  -- The first is not before place n: it is the cell at n, if that is not printable, and none, if the list ends at n.
  abbrev pub NotBefore : List K → ℕ → Type 0
  NotBefore xs n =
      ((d : K) → n < length xs → code_of (get_or xs n d) ≡ None → Some n ≡ first_unprintable code_of xs)
      × (length xs ≤ n → None ≡ first_unprintable code_of xs)

  printable_not_before : (xs : List K) (n : ℕ) → PrintableBefore code_of xs n → NotBefore xs n
  printable_not_before [] n h = (λ d l e. absurd (not-suc-le-zero l), λ l. refl)
  printable_not_before (x ∷ xs) zero h = (λ d l e. sym (cond-false (is_some (code_of x)) _ _ (ap is_some e)), λ l. absurd (not-suc-le-zero l))
  printable_not_before (x ∷ xs) (suc n) h =
      let rest = printable_not_before xs n (λ k l. h (suc k) (suc-le-suc l)) in
      let later = sym (cond-true (is_some (code_of x)) (option_map suc (first_unprintable code_of xs)) (Some 0) (h 0 (omega arith) x)) in
      (λ d l e. ap (option_map suc) (rest.0 d (le_of_suc-le-suc l) e) ∙ later, λ l. ap (option_map suc) (rest.1 (le_of_suc-le-suc l)) ∙ later)

  -- What a walk along the list keeps: with no cell passed, and with one printable cell more.
  pub front_none : (xs : List K) → PrintableBefore code_of xs 0 × NotBefore xs 0
  front_none xs =
      let none : PrintableBefore code_of xs 0 = λ k l. absurd (not-suc-le-zero l) in
      (none, printable_not_before xs 0 none)

  pub front_more : (xs : List K) (i : ℕ) (x : K) → i < length xs → x ≡ get_or xs i x → Printable code_of x → PrintableBefore code_of xs i → PrintableBefore code_of xs (i + 1) × NotBefore xs (i + 1)
  front_more xs i x l read printable h =
      let more : PrintableBefore code_of xs (i + 1) = below_more _ _ h (at_read xs (Printable code_of) i x l read printable) in
      (more, printable_not_before xs (i + 1) more)
