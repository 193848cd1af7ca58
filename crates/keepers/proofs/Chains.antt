-- That counting the pairs of two lists that agree, before the first that differ, is counting how far the lists
-- agree. Assumes nothing.
use Rattle.std.proofs.Common.{◌≡◌, ℕ, ◌+◌, ◌-◌, ◌≤◌, min, Bool, cond, eqb, List, [], ◌∷◌, reverse, length, take, drop, sym, refl, ap, ap₂, ◌∙◌, arith}
use Rattle.std.specs.List.{prefix_len, zip}
use Rattle.std.proofs.lemmas.List.{length-reverse, reverse-reverse, take_rest}
use Rattle.std.proofs.lemmas.List.Folds.{length-prefix_len}
use Rattle.std.proofs.lemmas.List.Sums.{common_prefix_len-le}
use Rattle.periodicity.proofs.Agreements.{drop_reverse, common_take}
use Rattle.periodicity.specs.Agreement.{common}

abbrev pub both : ℕ × ℕ → Bool
both p = eqb p.0 p.1

common_pairs : (xs ys : List ℕ) → prefix_len both (zip xs ys) ≡ common xs ys
common_pairs [] ys = refl
common_pairs (x ∷ xs) [] = refl
common_pairs (x ∷ xs) (y ∷ ys) = ap (λ n. cond (eqb x y) (1 + n) 0) (common_pairs xs ys)

pub pairs_taken : (xs ys : List ℕ) → length (take (prefix_len both (zip xs ys)) (zip xs ys)) ≡ common xs ys
pairs_taken xs ys = length-prefix_len both (zip xs ys) ∙ common_pairs xs ys

-- lists cut at the end of the shorter agree as far as the whole lists do
pub common_cut : (xs ys : List ℕ) (room : ℕ) → room ≡ min (length xs) (length ys) → common (take room xs) (take room ys) ≡ common xs ys
common_cut xs ys room is = common_take room room xs ys ∙ omega (arith, common_prefix_len-le eqb xs ys, is)

-- the last codes of a list, as a slice from a place on has them
abbrev pub last_codes : ℕ → List ℕ → List ℕ
last_codes room xs = take (length xs - (length xs - room)) (drop (length xs - room) xs)

reverse_last : (xs : List ℕ) (room : ℕ) → room ≤ length xs → reverse (last_codes room xs) ≡ take room (reverse xs)
reverse_last xs room fits =
    let start = length xs - room in
    ap reverse (take_rest xs start)
    ∙ ap (λ l. reverse (drop start l)) (sym (reverse-reverse xs))
    ∙ ap reverse (drop_reverse start (reverse xs) (omega (arith, length-reverse xs)))
    ∙ reverse-reverse (take (length (reverse xs) - start) (reverse xs))
    ∙ ap (λ n. take n (reverse xs)) (omega (arith, length-reverse xs, fits))

-- the same of their ends
pub common_cut_behind : (xs ys : List ℕ) (room : ℕ) → room ≡ min (length xs) (length ys) → common (reverse (last_codes room xs)) (reverse (last_codes room ys)) ≡ common (reverse xs) (reverse ys)
common_cut_behind xs ys room is =
    ap₂ common (reverse_last xs room (omega (arith, is))) (reverse_last ys room (omega (arith, is)))
    ∙ common_cut (reverse xs) (reverse ys) room (is ∙ ap₂ min (sym (length-reverse xs)) (sym (length-reverse ys)))
