-- Leaf numbers written into a work area, and the strips that they are the leaves of. Assumes nothing.
use Rattle.std.proofs.Common.{◌≡◌, ℕ, ◌≤◌, List, ◌++◌, length, take, drop, sym, ap, ◌∙◌, arith}
use Rattle.std.proofs.lemmas.List.{take_all}
use Rattle.book.specs.Calls.{part_of}
use Rattle.rows.specs.declared.Row.{Row}
use Rattle.rows.specs.Filing.{row_of}
use Rattle.rows.specs.Lawful.{Lawful}
use Rattle.rows.specs.Rounds.{settle}
use Rattle.rows.specs.Strips.{strip, leaf_string}
use Rattle.rows.proofs.Counts.{settle_from_leaves}
use Rattle.rows.proofs.LeafFacts.{LeavesOf, leaves_append, leaves_take, leaves_drop, length_leaves, leaf_string_names, leaves_found}
use Rattle.recompression.specs.Expansions.{written_out}
use Rattle.recompression.specs.Settlements.{all_rounds}
use Rattle.shelf.proofs.RowFacts.{kept_length}

-- the rounds on leaf numbers are those on the strip that they are the leaves of
pub settles_leaves : (rows : List Row) (codes numbers : List ℕ) → LeavesOf rows codes numbers → settle rows codes ≡ all_rounds rows numbers
settles_leaves rows codes numbers named = settle_from_leaves rows rows codes numbers (leaves_found rows codes numbers named)

module _ (rows : List Row) (law : Lawful rows) where
  -- all leaf numbers of a known number
  pub whole_string : (n : ℕ) → n ≤ length rows → take (row_of rows n).length (leaf_string rows n) ≡ leaf_string rows n
  whole_string n known =
      let many = length_leaves rows (strip rows n) (leaf_string rows n) (leaf_string_names rows law n) in
      take_all (row_of rows n).length (leaf_string rows n) (omega (arith, kept_length rows law n known))

  pub joined_rounds : (left right : ℕ) (numbers : List ℕ) → left ≤ length rows → right ≤ length rows
      → numbers ≡ written_out rows left 0 (row_of rows left).length ++ written_out rows right 0 (row_of rows right).length
      → settle rows (strip rows left ++ strip rows right) ≡ all_rounds rows numbers
  joined_rounds left right numbers left_known right_known is =
      settles_leaves rows (strip rows left ++ strip rows right) (leaf_string rows left ++ leaf_string rows right)
      (leaves_append rows (strip rows left) (strip rows right) (leaf_string rows left) (leaf_string rows right) (leaf_string_names rows law left) (leaf_string_names rows law right))
      ∙ ap (all_rounds rows) (sym (is ∙ ap (λ xs. xs ++ take (row_of rows right).length (leaf_string rows right)) (whole_string left left_known) ∙ ap (λ xs. leaf_string rows left ++ xs) (whole_string right right_known)))

  pub cut_rounds : (n start size : ℕ) (numbers : List ℕ) → numbers ≡ written_out rows n start size → settle rows (part_of rows n start size) ≡ all_rounds rows numbers
  cut_rounds n start size numbers is =
      settles_leaves rows (part_of rows n start size) (written_out rows n start size)
      (leaves_take rows size (drop start (strip rows n)) (drop start (leaf_string rows n)) (leaves_drop rows start (strip rows n) (leaf_string rows n) (leaf_string_names rows law n)))
      ∙ ap (all_rounds rows) (sym is)
