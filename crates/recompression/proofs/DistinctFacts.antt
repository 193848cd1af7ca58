-- Rows of which no two are alike, when a row is added after the others or rows are taken off. Assumes nothing.
use Rattle.std.proofs.Common.{◌≡◌, ℕ, ◌+◌, List, [], ◌∷◌, ◌++◌, length, get_or, take, drop, Some, None, ap, ◌∙◌, inl, inr, arith, length-take}
use Rattle.std.proofs.lemmas.List.{get_or_append_left, get_or_push, get_or-take, take-append-drop, length_push}
use Rattle.std.proofs.lemmas.Bool.{cases_lt}
use Rattle.rows.specs.declared.Row.{Row}
use Rattle.rows.specs.Filing.{blank_row, find}
use Rattle.rows.proofs.FilingFacts.{find_append, find_added, find_before}
use Rattle.recompression.specs.Buckets.{Distinct}

pub distinct_none : Distinct []
distinct_none k h = absurd (omega arith)

pub distinct_added : (rows : List Row) (row : Row) → Distinct rows → find rows row.shape ≡ None → Distinct (rows ++ (row ∷ []))
distinct_added rows row distinct none k h =
    let more = rows ++ (row ∷ []) in
    elim (cases_lt k (length rows)) [
      | inl before ↦
          let same : get_or more k blank_row ≡ get_or rows k blank_row = get_or_append_left rows (row ∷ []) blank_row k before in
          ap (λ (r : Row). find more r.shape) same ∙ find_append rows (row ∷ []) (get_or rows k blank_row).shape (k + 1) (distinct k before)
      | inr after ↦
          let last : length rows ≡ k = omega (arith, length_push rows row) in
          ap (λ (r : Row). find more r.shape) (get_or_push rows row blank_row k last) ∙ find_added rows row none ∙ ap (λ n. Some (n + 1)) last
    ]

pub distinct_taken : (n : ℕ) (rows : List Row) → Distinct rows → Distinct (take n rows)
distinct_taken n rows distinct k h =
    let front = take n rows in
    let split : front ++ drop n rows ≡ rows = take-append-drop n rows in
    let size = length-take n rows in
    let same : get_or front k blank_row ≡ get_or rows k blank_row = get_or-take n rows k blank_row (omega arith) in
    find_before front (drop n rows) (get_or front k blank_row).shape (k + 1) (omega arith)
    (ap (λ rs. find rs (get_or front k blank_row).shape) split ∙ ap (λ (r : Row). find rows r.shape) same ∙ distinct k (omega arith))
