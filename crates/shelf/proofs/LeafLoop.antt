-- Leaves filed one after the other into a work area. Assumes nothing.
use Rattle.std.proofs.Common.{◌≡◌, ℕ, ◌+◌, ◌<◌, ◌≤◌, List, ◌∷◌, ◌++◌, map, length, get_or, take, drop, set, Some, None, Option, unwrap_or, sym, ap, ◌∙◌, arith}
use lib.ListN.{length-map}
use Rattle.std.proofs.lemmas.List.{append-nil, append_assoc, drop_more, drop_all, take_more_set, take_all, take-append-le}
use Rattle.book.specs.Calls.{printed}
use Rattle.book.proofs.CodeFacts.{printed_codes, codes_at, length_codes}
use Rattle.cells.specs.Printing.{first_unprintable}
use Rattle.rows.specs.declared.Shape.TheVariants.{Leaf}
use Rattle.rows.specs.declared.Row.{Row}
use Rattle.rows.specs.Filing.{file}
use Rattle.rows.specs.Rounds.{then, with_number, file_all, leaf_block, leaves}
use Rattle.rows.proofs.FilingFacts.{file_grows}
use Rattle.recompression.specs.Contents.{number_in, rows_left}
use Rattle.recompression.proofs.RoundFacts.{filed_some, filed_none, after, after_more}

-- i leaves are filed: the others come after them, and the rows of before stand first
pub record Going (old : List Row) (codes : List ℕ) (i : ℕ) (rows : List Row) (numbers : List ℕ) : Type 0 where
  pub rest : leaves old codes ≡ then (file_all 0 (map leaf_block (drop i codes)) rows) (after (take i numbers))
  pub more : List Row
  pub grows : rows ≡ old ++ more

module _ (old : List Row) (codes : List ℕ) (i : ℕ) (rows : List Row) (numbers : List ℕ) (going : Going old codes i rows numbers) (code : ℕ) (within : i < length codes) (is : get_or codes i 0 ≡ code) where
  front : map leaf_block (drop i codes) ≡ leaf_block code ∷ map leaf_block (drop (i + 1) codes)
  front = ap (map leaf_block) (drop_more codes i 0 within) ∙ ap (λ c. leaf_block c ∷ map leaf_block (drop (i + 1) codes)) is

  pub one_filed : (n : ℕ) (grown : List Row) → i < length numbers → Some n ≡ number_in (file 0 rows (Leaf code)) → grown ≡ rows_left rows (file 0 rows (Leaf code))
      → Going old codes (i + 1) grown (set numbers i n)
  unfolding file_all
  one_filed n grown room number left =
      let filed = filed_some rows grown (file 0 rows (Leaf code)) n number left in
      let added = file_grows 0 rows (Leaf code) (record { number = n; rows = grown }) filed in
      let tail = file_all 0 (map leaf_block (drop (i + 1) codes)) grown in
      record {
        rest = going.rest
            ∙ ap (λ bs. then (file_all 0 bs rows) (after (take i numbers))) front
            ∙ ap (λ o. then (then o (λ found. then (file_all 0 (map leaf_block (drop (i + 1) codes)) found.rows) (with_number found.number))) (after (take i numbers))) filed
            ∙ after_more (take i numbers) n tail
            ∙ ap (λ ns. then tail (after ns)) (sym (take_more_set numbers i n room));
        more = going.more ++ added.added;
        grows = added.grows ∙ ap (λ rs. rs ++ added.added) going.grows ∙ append_assoc old going.more added.added;
      }

  pub none_left : None ≡ number_in (file 0 rows (Leaf code)) → leaves old codes ≡ None
  unfolding file_all
  none_left number =
      going.rest
      ∙ ap (λ bs. then (file_all 0 bs rows) (after (take i numbers))) front
      ∙ ap (λ o. then (then o (λ found. then (file_all 0 (map leaf_block (drop (i + 1) codes)) found.rows) (with_number found.number))) (after (take i numbers))) (filed_none (file 0 rows (Leaf code)) number)

  pub rows_kept : (after_rows : List Row) → None ≡ number_in (file 0 rows (Leaf code)) → after_rows ≡ rows_left rows (file 0 rows (Leaf code)) → take (length old) after_rows ≡ old
  rows_kept after_rows number left =
      ap (take (length old)) (left ∙ ap (rows_left rows) (filed_none (file 0 rows (Leaf code)) number) ∙ going.grows)
      ∙ take-append-le (length old) old going.more (omega arith) ∙ take_all (length old) old (omega arith)

pub all_filed : (old : List Row) (codes : List ℕ) (i : ℕ) (rows : List Row) (numbers : List ℕ) → Going old codes i rows numbers → length codes ≤ i → length numbers ≡ length codes
    → leaves old codes ≡ Some (record { numbers = numbers; rows = rows })
unfolding file_all
all_filed old codes i rows numbers going past same =
    going.rest
    ∙ ap (λ cs. then (file_all 0 (map leaf_block cs) rows) (after (take i numbers))) (drop_all i codes past)
    ∙ ap (λ ns. Some (record { numbers = ns; rows = rows })) (append-nil (take i numbers) ∙ take_all i numbers (omega arith))

-- the code of a cell that was read
module _ {C : Type 0} (coded : C → Option ℕ) (cells : List C) (i : ℕ) (x : C) (printable : first_unprintable coded cells ≡ None) (inside : i < length cells) (is : x ≡ get_or cells i x) where
  pub code_there : coded x ≡ Some (get_or (printed coded cells) i 0)
  code_there = ap coded is ∙ codes_at coded cells (printed coded cells) i x (printed_codes coded cells printable) inside

  pub code_read : (code : ℕ) → Some code ≡ coded x → (i < length (printed coded cells)) × (get_or (printed coded cells) i 0 ≡ code)
  code_read code read =
      let e : get_or (printed coded cells) i 0 ≡ code = let f = read ∙ code_there in cc in
      (omega (arith, length_codes coded cells (printed coded cells) (printed_codes coded cells printable)), e)

pub length_printed : {C : Type 0} (coded : C → Option ℕ) (cells : List C) → length (printed coded cells) ≡ length cells
length_printed coded cells = length-map cells (λ cell. unwrap_or (coded cell) 0)
