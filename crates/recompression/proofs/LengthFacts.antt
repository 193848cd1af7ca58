-- Rows keep the lengths of their strips when a row is added after them or rows are taken off. Assumes nothing.
use Rattle.std.proofs.Common.{◌≡◌, ℕ, zero, suc, ◌+◌, ◌*◌, ◌<◌, ◌≤◌, min, List, [], ◌∷◌, ◌++◌, length, take, drop, sym, refl, ap, ◌∙◌, subst, inl, inr, arith, length-append}
use Rattle.std.proofs.lemmas.Nat.{mul-le}
use Rattle.std.proofs.lemmas.List.{get_or_past, length_push, take-append-drop}
use Rattle.std.proofs.lemmas.Bool.{cases_lt}
use Rattle.rows.specs.declared.Shape.{Shape}
use Rattle.rows.specs.declared.Shape.TheVariants.{Leaf, Pair, Repeat}
use Rattle.rows.specs.declared.Row.{Row}
use Rattle.rows.specs.Filing.{blank_row, row_of, shape_length, row_made}
use Rattle.rows.specs.Strips.{times, strips_from, strip}
use Rattle.rows.proofs.StripFacts.{length_strips, strip_none, strip_append, strip_added, shape_strip, written_strip, row_append, row_added}
use Rattle.recompression.specs.Tables.{LengthsKept}

-- a number that is not known has the blank row and the empty strip
strip_unknown : (rows : List Row) (n : ℕ) → length rows < n → strip rows n ≡ []
unfolding strip
strip_unknown rows n h = let l = length_strips rows in get_or_past ([] ∷ strips_from [] rows) n [] (omega arith)

row_unknown : (rows : List Row) (n : ℕ) → length rows < n → row_of rows n ≡ blank_row
row_unknown rows n h = get_or_past (blank_row ∷ rows) n blank_row (omega arith)

unknown_kept : (rows : List Row) (n : ℕ) → length rows < n → (row_of rows n).length ≡ min 65535 (length (strip rows n))
unknown_kept rows n h = ap (λ r. r.length) (row_unknown rows n h) ∙ sym (ap (λ xs. min 65535 (length xs)) (strip_unknown rows n h))

pub length_times : {A : Type 0} (n : ℕ) (xs : List A) → length (times n xs) ≡ n * length xs
length_times zero xs = omega arith
length_times (suc n) xs = length-append xs (times n xs) ∙ (let rest = length_times n xs in omega arith)

-- a product of a number that was cut at 65,535
pub capped_product : (a m : ℕ) → min 65535 (min 65535 a * m) ≡ min 65535 (m * a)
capped_product a zero = omega arith
capped_product a (suc m) =
    elim (cases_lt 65535 a) [
      | inl large ↦
          let few : min 65535 a ≡ 65535 = omega arith in
          let one : 65535 * 1 ≤ min 65535 a * suc m = mul-le 65535 1 (min 65535 a) (suc m) (omega arith) (omega arith) in
          let other : 1 * 65535 ≤ suc m * a = mul-le 1 65535 (suc m) a (omega arith) (omega arith) in
          omega arith
      | inr small ↦
          let all : min 65535 a ≡ a = omega arith in
          ap (λ b. min 65535 (b * suc m)) all ∙ (omega arith)
    ]

-- the length that a shape is given, from lengths that are kept, is that of what it writes
pub shape_length_kept : (rows : List Row) (shape : Shape) → LengthsKept rows → shape_length rows shape ≡ min 65535 (length (shape_strip rows shape))
shape_length_kept rows (Leaf code) kept = refl
shape_length_kept rows (Pair left right) kept =
    let l = kept left in
    let r = kept right in
    let both = length-append (strip rows left) (strip rows right) in
    omega arith
shape_length_kept rows (Repeat part count) kept =
    ap (λ a. min 65535 (a * count)) (kept part) ∙ capped_product (length (strip rows part)) count ∙ ap (min 65535) (sym (length_times count (strip rows part)))

-- with no rows
pub lengths_none : LengthsKept []
lengths_none zero = sym (ap (λ xs. min 65535 (length xs)) (strip_none []))
lengths_none (suc n) = unknown_kept [] (suc n) (omega arith)

-- with a row added
pub lengths_added : (rows : List Row) (k : ℕ) (shape : Shape) → LengthsKept rows → LengthsKept (rows ++ (row_made k rows shape ∷ []))
lengths_added rows k shape kept n =
    let row = row_made k rows shape in
    elim (cases_lt (length rows) n) [
      | inr known ↦
          ap (λ r. r.length) (row_append rows (row ∷ []) n known) ∙ kept n ∙ sym (ap (λ xs. min 65535 (length xs)) (strip_append rows (row ∷ []) n known))
      | inl past ↦ elim (cases_lt (length rows + 1) n) [
        | inl unknown ↦ unknown_kept (rows ++ (row ∷ [])) n (let l = length_push rows row in omega arith)
        | inr last ↦
            let number : length rows + 1 ≡ n = omega arith in
            subst (λ m. (row_of (rows ++ (row ∷ [])) m).length ≡ min 65535 (length (strip (rows ++ (row ∷ [])) m))) number
            (ap (λ r. r.length) (row_added rows row) ∙ shape_length_kept rows shape kept
            ∙ sym (ap (λ xs. min 65535 (length xs)) (strip_added rows row ∙ written_strip rows shape)))
      ]
    ]

-- with rows taken off
lengths_front : (rows more : List Row) → LengthsKept (rows ++ more) → LengthsKept rows
lengths_front rows more kept n =
    elim (cases_lt (length rows) n) [
      | inl unknown ↦ unknown_kept rows n unknown
      | inr known ↦
          sym (ap (λ r. r.length) (row_append rows more n known)) ∙ kept n ∙ ap (λ xs. min 65535 (length xs)) (strip_append rows more n known)
    ]

pub lengths_taken : (m : ℕ) (rows : List Row) → LengthsKept rows → LengthsKept (take m rows)
lengths_taken m rows kept = lengths_front (take m rows) (drop m rows) (subst LengthsKept (sym (take-append-drop m rows)) kept)
