-- The leaf numbers of a row by those of its parts, and that there are as many of them as cells of its strip.
-- Assumes nothing.
use Rattle.std.proofs.Common.{◌≡◌, ℕ, zero, suc, ◌+◌, ◌-◌, ◌*◌, ◌<◌, ◌≤◌, min, cond, ltb, List, [], ◌∷◌, ◌++◌, length, get_or, take, drop, sym, refl, ap, ◌∙◌, subst, inl, inr, arith, length-append}
use Rattle.std.proofs.lemmas.List.{append-nil, append_assoc, get_or_at, get_or_past, get_or-append_right, length_push, length-take-le}
use Rattle.std.proofs.lemmas.Bool.{cases_lt, cond-true, cond-false, lt-ltb, le-ltb}
use Rattle.rows.specs.declared.Shape.{Shape}
use Rattle.rows.specs.declared.Shape.TheVariants.{Leaf, Pair, Repeat}
use Rattle.rows.specs.declared.Row.{Row}
use Rattle.rows.specs.Filing.{row_of}
use Rattle.rows.specs.Strips.{times, known_as, written, strips_from, strip, leaf_written, leaf_strings_from, leaf_string}
use Rattle.rows.proofs.StripFacts.{known_append, rows_split}
use Rattle.recompression.specs.Expansions.{part_length}
use Rattle.recompression.specs.Tables.{LengthsKept}
use Rattle.recompression.proofs.LengthFacts.{length_times}

-- leaf strings begin with those that were done before, and there is one for each row
leaves_begin : (done : List (List ℕ)) (rows : List Row) → (more : List (List ℕ)) × (leaf_strings_from done rows ≡ done ++ more) × (length more ≡ length rows)
leaves_begin done [] = ([], sym (append-nil done), refl)
leaves_begin done (row ∷ rows) =
    let rest = leaves_begin (done ++ (leaf_written done row.shape ∷ [])) rows in
    (leaf_written done row.shape ∷ rest.0, rest.1 ∙ append_assoc done (leaf_written done row.shape ∷ []) rest.0, ap suc rest.2)

leaves_append : (done : List (List ℕ)) (rows more : List Row) → leaf_strings_from done (rows ++ more) ≡ leaf_strings_from (leaf_strings_from done rows) more
leaves_append done [] more = refl
leaves_append done (row ∷ rows) more = leaves_append (done ++ (leaf_written done row.shape ∷ [])) rows more

length_leaves : (rows : List Row) → length (leaf_strings_from [] rows) ≡ length rows
length_leaves rows = let all = leaves_begin [] rows in ap length all.1 ∙ all.2

-- they do not change under added rows
leaf_string_append : (rows more : List Row) (n : ℕ) → n ≤ length rows → leaf_string (rows ++ more) n ≡ leaf_string rows n
unfolding leaf_string
leaf_string_append rows more n h =
    let added = leaves_begin (leaf_strings_from [] rows) more in
    ap (λ done. known_as done n) (leaves_append [] rows more ∙ added.1)
    ∙ known_append (leaf_strings_from [] rows) added.0 n (subst (λ k. n ≤ k) (sym (length_leaves rows)) h)

leaf_string_added : (rows : List Row) (row : Row) → leaf_string (rows ++ (row ∷ [])) (length rows + 1) ≡ leaf_written (leaf_strings_from [] rows) row.shape
unfolding leaf_string
leaf_string_added rows row =
    let w = leaf_written (leaf_strings_from [] rows) row.shape in
    let place : length rows + 1 ≡ length ([] ∷ leaf_strings_from [] rows) = let l = length_leaves rows in omega arith in
    ap (λ done. known_as done (length rows + 1)) (leaves_append [] rows (row ∷ []))
    ∙ get_or_at ([] ∷ leaf_strings_from [] rows) w [] [] (length rows + 1) (sym place)

-- the leaf string of a part of row n: empty for a part that is not below it
abbrev pub part_string : List Row → ℕ → ℕ → List ℕ
part_string rows n part = cond (ltb part n) (leaf_string rows part) []

-- and what a shape of row n is written out as
abbrev pub shape_leaves : List Row → ℕ → Shape → List ℕ
shape_leaves rows n (Leaf code) = n ∷ []
shape_leaves rows n (Pair left right) = part_string rows n left ++ part_string rows n right
shape_leaves rows n (Repeat part count) = times count (part_string rows n part)

known_part : (before more : List Row) (part : ℕ) → known_as (leaf_strings_from [] before) part ≡ part_string (before ++ more) (length before + 1) part
unfolding leaf_string
known_part before more part =
    elim (cases_lt part (length before + 1)) [
      | inl below ↦
          sym (cond-true (ltb part (length before + 1)) (leaf_string (before ++ more) part) [] (lt-ltb part (length before + 1) below)
          ∙ leaf_string_append before more part (omega arith))
      | inr above ↦
          let l = length_leaves before in
          get_or_past ([] ∷ leaf_strings_from [] before) part [] (omega arith)
          ∙ sym (cond-false (ltb part (length before + 1)) (leaf_string (before ++ more) part) [] (le-ltb part (length before + 1) above))
    ]

known_shape : (before more : List Row) (shape : Shape) → leaf_written (leaf_strings_from [] before) shape ≡ shape_leaves (before ++ more) (length before + 1) shape
known_shape before more (Leaf code) = ap (λ n. (n + 1) ∷ []) (length_leaves before)
known_shape before more (Pair left right) =
    ap (λ xs. xs ++ known_as (leaf_strings_from [] before) right) (known_part before more left)
    ∙ ap (λ xs. part_string (before ++ more) (length before + 1) left ++ xs) (known_part before more right)
known_shape before more (Repeat part count) = ap (times count) (known_part before more part)

-- the leaf string of a row, by its shape
pub leaf_string_of_row : (rows : List Row) (n : ℕ) → 0 < n → n ≤ length rows → leaf_string rows n ≡ shape_leaves rows n (row_of rows n).shape
leaf_string_of_row rows n some known =
    let before = take (n - 1) rows in
    let row = row_of rows n in
    let split = rows_split rows n some known in
    let grown : rows ≡ before ++ ((row ∷ []) ++ drop n rows) = split ∙ append_assoc before (row ∷ []) (drop n rows) in
    let front : length before ≡ n - 1 = length-take-le (n - 1) rows (omega arith) in
    let number : length before + 1 ≡ n = omega arith in
    let short : length before + 1 ≤ length (before ++ (row ∷ [])) = simp length-append (omega arith) in
    ap (λ rs. leaf_string rs n) split
    ∙ ap (leaf_string ((before ++ (row ∷ [])) ++ drop n rows)) (sym number)
    ∙ leaf_string_append (before ++ (row ∷ [])) (drop n rows) (length before + 1) short
    ∙ leaf_string_added before row
    ∙ known_shape before ((row ∷ []) ++ drop n rows) row.shape
    ∙ ap (λ m. shape_leaves (before ++ ((row ∷ []) ++ drop n rows)) m row.shape) number
    ∙ ap (λ rs. shape_leaves rs n row.shape) (sym grown)

-- strips and leaf strings are equally long
abbrev Level : List (List ℕ) → List (List ℕ) → Type 0
Level done leaves = (length done ≡ length leaves) × ((n : ℕ) → length (known_as done n) ≡ length (known_as leaves n))

level_shape : (done leaves : List (List ℕ)) (shape : Shape) → Level done leaves → length (written done shape) ≡ length (leaf_written leaves shape)
level_shape done leaves (Leaf code) level = refl
level_shape done leaves (Pair left right) level =
    let l = level.1 left in
    let r = level.1 right in
    length-append (known_as done left) (known_as done right)
    ∙ (let e : length (known_as done left) + length (known_as done right) ≡ length (known_as leaves left) + length (known_as leaves right) = omega arith in e)
    ∙ sym (length-append (known_as leaves left) (known_as leaves right))
level_shape done leaves (Repeat part count) level =
    length_times count (known_as done part) ∙ ap (λ m. count * m) (level.1 part) ∙ sym (length_times count (known_as leaves part))

known_push : (done : List (List ℕ)) (xs : List ℕ) (n : ℕ) → length done < n → known_as (done ++ (xs ∷ [])) n ≡ get_or (xs ∷ []) (n - (length done + 1)) []
known_push done xs n past = get_or-append_right ([] ∷ done) (xs ∷ []) (length done + 1) n [] (omega arith) (omega arith)

level_one : (xs ys : List ℕ) (k : ℕ) → length xs ≡ length ys → length (get_or (xs ∷ []) k []) ≡ length (get_or (ys ∷ []) k [])
level_one xs ys zero same = same
level_one xs ys (suc k) same = refl

level_more : (done leaves : List (List ℕ)) (xs ys : List ℕ) → Level done leaves → length xs ≡ length ys → Level (done ++ (xs ∷ [])) (leaves ++ (ys ∷ []))
level_more done leaves xs ys level same = (
  length_push done xs ∙ ap (λ m. m + 1) level.0 ∙ sym (length_push leaves ys),
  λ n. elim (cases_lt (length done) n) [
    | inr known ↦ ap length (known_append done (xs ∷ []) n known) ∙ level.1 n ∙ sym (ap length (known_append leaves (ys ∷ []) n (omega (arith, level.0))))
    | inl past ↦
        ap length (known_push done xs n past) ∙ level_one xs ys (n - (length done + 1)) same
        ∙ ap (λ m. length (get_or (ys ∷ []) (n - (m + 1)) [])) level.0
        ∙ sym (ap length (known_push leaves ys n (omega (arith, level.0))))
  ],
)

level_all : (done leaves : List (List ℕ)) (rows : List Row) → Level done leaves → Level (strips_from done rows) (leaf_strings_from leaves rows)
level_all done leaves [] level = level
level_all done leaves (row ∷ rows) level =
    level_all (done ++ (written done row.shape ∷ [])) (leaves ++ (leaf_written leaves row.shape ∷ [])) rows
    (level_more done leaves (written done row.shape) (leaf_written leaves row.shape) level (level_shape done leaves row.shape level))

pub length_leaf_string : (rows : List Row) (n : ℕ) → length (strip rows n) ≡ length (leaf_string rows n)
unfolding strip leaf_string
length_leaf_string rows n = (level_all [] [] rows (refl, λ m. refl)).1 n

-- so the lengths that are kept are those of leaf strings
pub leaves_kept : (rows : List Row) → LengthsKept rows → (n : ℕ) → (row_of rows n).length ≡ min 65535 (length (leaf_string rows n))
leaves_kept rows kept n = kept n ∙ ap (min 65535) (length_leaf_string rows n)

pub part_kept : (rows : List Row) → LengthsKept rows → (n part : ℕ) → part_length rows n part ≡ min 65535 (length (part_string rows n part))
part_kept rows kept n part =
    elim (cases_lt part n) [
      | inl below ↦
          cond-true (ltb part n) (row_of rows part).length 0 (lt-ltb part n below) ∙ leaves_kept rows kept part
          ∙ sym (ap (λ xs. min 65535 (length xs)) (cond-true (ltb part n) (leaf_string rows part) [] (lt-ltb part n below)))
      | inr above ↦
          cond-false (ltb part n) (row_of rows part).length 0 (le-ltb part n above)
          ∙ sym (ap (λ xs. min 65535 (length xs)) (cond-false (ltb part n) (leaf_string rows part) [] (le-ltb part n above)))
    ]

-- a part with a length is below its row, and is written out as its number is
pub part_known : (rows : List Row) (n part : ℕ) → 0 < part_length rows n part
    → (part < n) × (part_length rows n part ≡ (row_of rows part).length) × (part_string rows n part ≡ leaf_string rows part)
part_known rows n part some =
    elim (cases_lt part n) [
      | inl below ↦
          (below, cond-true (ltb part n) (row_of rows part).length 0 (lt-ltb part n below), cond-true (ltb part n) (leaf_string rows part) [] (lt-ltb part n below))
      | inr above ↦ absurd (omega (arith, cond-false (ltb part n) (row_of rows part).length 0 (le-ltb part n above)))
    ]
