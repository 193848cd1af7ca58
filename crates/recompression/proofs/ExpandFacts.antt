-- Parts of leaf strings written out one after the other: those of a leaf, of a pair by where its left part
-- ends, and of a repeat copy by copy. Assumes nothing.
use Rattle.std.proofs.Common.{◌≡◌, ℕ, zero, suc, ◌+◌, ◌-◌, ◌*◌, ◌%◌, ◌<◌, ◌≤◌, min, List, [], ◌∷◌, ◌++◌, length, take, drop, set, replicate, sym, refl, ap, Some, ◌∙◌, subst, inl, inr, mod-lt, mod-eq_of_lt, arith, length-append, length-drop}
use native.Mathlib.Nat.{mod-eq-sub-mod}
use borrow.Rule.Slice.PartMut.{put_mid}
use Rattle.std.proofs.lemmas.List.{append-nil, drop-append-le, drop-drop, drop-replicate, take_all, take-replicate, take-append-le, length-take-le}
use Rattle.std.proofs.lemmas.Slice.{take-put_mid}
use Rattle.std.proofs.lemmas.Bool.{cases_lt}
use Rattle.std.proofs.Math.Seq.{take-add, drop-append-add, take-append-add}
use Rattle.rows.specs.declared.Shape.{Shape}
use Rattle.rows.specs.declared.Shape.TheVariants.{Leaf, Pair, Repeat}
use Rattle.rows.specs.declared.Row.{Row}
use Rattle.rows.specs.Filing.{row_of, shape_length}
use Rattle.rows.specs.Strips.{times, leaf_string}
use Rattle.recompression.specs.Contents.{row_at}
use Rattle.recompression.specs.Expansions.{part_length, copies_out, written_out, Asked}
use Rattle.recompression.specs.Tables.{LengthsKept}
use Rattle.recompression.proofs.LeafFacts.{part_string, shape_leaves, leaf_string_of_row, leaves_kept, part_kept, part_known}
use Rattle.recompression.proofs.SlotFacts.{row_of_some}
use Rattle.recompression.proofs.LengthFacts.{capped_product, length_times}

-- past the first of two lists
drop_past : (xs ys : List ℕ) (n : ℕ) → length xs ≤ n → drop n (xs ++ ys) ≡ drop (n - length xs) ys
drop_past xs ys n past = let e : n ≡ length xs + (n - length xs) = omega arith in ap (λ m. drop m (xs ++ ys)) e ∙ drop-append-add xs ys (n - length xs)

take_past : (xs ys : List ℕ) (n : ℕ) → length xs ≤ n → take n (xs ++ ys) ≡ xs ++ take (n - length xs) ys
take_past xs ys n past = let e : n ≡ length xs + (n - length xs) = omega arith in ap (λ m. take m (xs ++ ys)) e ∙ take-append-add xs ys (n - length xs)

-- a part of a list, and the list with it written over
pub length_part : (xs : List ℕ) (i j : ℕ) → j ≤ length xs → length (take (j - i) (drop i xs)) ≡ j - i
length_part xs i j within = length-take-le (j - i) (drop i xs) (let l = length-drop i xs in omega arith)

pub length_put : (xs ys : List ℕ) (i k : ℕ) → i + k ≤ length xs → length ys ≡ k → length (put_mid i k xs ys) ≡ length xs
length_put xs ys i k within long =
    let front = length-take-le i xs (omega arith) in
    simp (length-append, length-drop) (omega arith)

-- so many from a place on, in two steps
take_in_two : (xs : List ℕ) (i j : ℕ) → i ≤ j → take j xs ≡ take i xs ++ take (j - i) (drop i xs)
take_in_two xs i j less = let e : j ≡ i + (j - i) = omega arith in ap (λ m. take m xs) e ∙ take-add i (j - i) xs

-- places of two lists, from the first and then from the second, when the length of the first is known as far
-- as 65,535
pub two_parts : (xs ys : List ℕ) (start count limit split : ℕ) → limit ≡ min 65535 (length xs) → start + count ≤ 65535 → split ≡ min (limit - start) count
    → take split (drop start xs) ++ take (count - split) (drop (start - limit) ys) ≡ take count (drop start (xs ++ ys))
two_parts xs ys start count limit split is few at = elim (cases_lt start (length xs)) [
  | inr past ↦
      let whole : start - limit ≡ start - length xs = omega arith in
      let none : split ≡ 0 = omega arith in
      let all : count - split ≡ count = omega arith in
      ap (λ m. take m (drop start xs) ++ take (count - split) (drop (start - limit) ys)) none
      ∙ ap (λ m. take m (drop (start - limit) ys)) all
      ∙ ap (λ m. take count (drop m ys)) whole
      ∙ ap (take count) (sym (drop_past xs ys start past))
  | inl inside ↦
      let front = drop start xs in
      let long : length front ≡ length xs - start = length-drop start xs in
      let here : drop start (xs ++ ys) ≡ front ++ ys = drop-append-le start xs ys (omega arith) in
      elim (cases_lt (length front) count) [
        | inr enough ↦
            let all : split ≡ count = omega arith in
            let none : count - split ≡ 0 = omega arith in
            ap (λ m. take split front ++ take m (drop (start - limit) ys)) none
            ∙ append-nil (take split front)
            ∙ ap (λ m. take m front) all
            ∙ sym (take-append-le count front ys enough)
            ∙ ap (take count) (sym here)
        | inl more ↦
            let all : split ≡ length front = omega arith in
            let first : start - limit ≡ 0 = omega arith in
            ap (λ m. take m front ++ take (count - split) (drop (start - limit) ys)) all
            ∙ ap (λ zs. zs ++ take (count - split) (drop (start - limit) ys)) (take_all (length front) front (omega arith))
            ∙ ap (λ m. front ++ take (count - split) (drop m ys)) first
            ∙ ap (λ m. front ++ take (count - m) ys) all
            ∙ sym (take_past front ys count (omega arith))
            ∙ ap (take count) (sym here)
      ]
]

-- a part of one copy, among so many
copy_part : (m : ℕ) (xs : List ℕ) (place count : ℕ) → place < m * length xs → place % length xs + count ≤ length xs
    → take count (drop place (times m xs)) ≡ take count (drop (place % length xs) xs)
copy_part zero xs place count inside fits = absurd (omega arith)
copy_part (suc m) xs place count inside fits = elim (cases_lt place (length xs)) [
  | inl first ↦
      let here : place % length xs ≡ place = mod-eq_of_lt first in
      let long = length-drop place xs in
      ap (take count) (drop-append-le place xs (times m xs) (omega arith))
      ∙ take-append-le count (drop place xs) (times m xs) (omega arith)
      ∙ ap (λ i. take count (drop i xs)) (sym here)
  | inr later ↦
      let same : place % length xs ≡ (place - length xs) % length xs = mod-eq-sub-mod later in
      ap (take count) (drop_past xs (times m xs) place later)
      ∙ copy_part m xs (place - length xs) count (omega arith) (omega arith)
      ∙ ap (λ i. take count (drop i xs)) (sym same)
]

-- the same when the length of a copy is known as far as 65,535
pub copy_part_within : (m : ℕ) (xs : List ℕ) (place count limit : ℕ) → limit ≡ min 65535 (length xs) → place < min 65535 (m * length xs) → place % limit + count ≤ limit
    → take count (drop place (times m xs)) ≡ take count (drop (place % limit) xs)
copy_part_within m xs place count limit is inside fits = elim (cases_lt 65535 (length xs)) [
  | inr short ↦
      let all : limit ≡ length xs = omega arith in
      copy_part m xs place count (omega arith) (subst (λ l. place % l + count ≤ l) all fits) ∙ ap (λ l. take count (drop (place % l) xs)) (sym all)
  | inl long ↦
      let low : place < limit = omega arith in
      let here : place % limit ≡ place = mod-eq_of_lt low in
      let lower : place < length xs = omega arith in
      let there : place % length xs ≡ place = mod-eq_of_lt lower in
      copy_part m xs place count (omega arith) (omega arith) ∙ ap (λ i. take count (drop i xs)) (there ∙ sym here)
]

-- copies are written out as far as `filled`
pub record Copied (rows : List Row) (n m start count filled : ℕ) (out : List ℕ) : Type 0 where
  pub long : length out ≡ count
  pub within : filled ≤ count
  pub done : take filled out ≡ copies_out rows n m start filled

-- what falls in the calls: a number that no place is asked of is not looked into, and one copy is less than others
abbrev pub calls_left : ℕ → ℕ → ℕ → ℕ
calls_left zero n m = 0
calls_left (suc count) n m = 2 * n + min 1 ((m - 1) + (1 - m))

calls_left_le : (count n m : ℕ) → calls_left count n m ≤ 2 * n + 1
calls_left_le zero n m = omega arith
calls_left_le (suc count) n m = omega arith

pub calls_left_some : (count n m : ℕ) → 0 < count → calls_left count n m ≡ 2 * n + min 1 ((m - 1) + (1 - m))
calls_left_some zero n m more = absurd (omega arith)
calls_left_some (suc count) n m more = refl

-- of one copy as of the strip itself
pub one_copy : (rows : List Row) (n start count : ℕ) → copies_out rows n 1 start count ≡ written_out rows n start count
one_copy rows n start count = ap (λ xs. take count (drop start xs)) (append-nil (leaf_string rows n))

-- copies of a list of one
times_one : (m n : ℕ) → times m (n ∷ []) ≡ replicate m n
times_one zero n = refl
times_one (suc m) n = ap (λ xs. n ∷ xs) (times_one m n)

-- copies of a number's strip are as long as a row that repeats it
copies_long : (rows : List Row) → LengthsKept rows → (n m : ℕ) → shape_length rows (Repeat n m) ≡ min 65535 (m * length (leaf_string rows n))
copies_long rows kept n m = ap (λ a. min 65535 (a * m)) (leaves_kept rows kept n) ∙ capped_product (length (leaf_string rows n)) m

-- a part is its own one copy, and is below its row where any place is asked of it
part_asked : (rows : List Row) → LengthsKept rows → (n part from size : ℕ) → size ≤ part_length rows n part - from → size ≤ shape_length rows (Repeat part 1) - from
part_asked rows kept n part from size fits = elim (cases_lt 0 (part_length rows n part)) [
  | inl some ↦ (let known = part_known rows n part some in let long = leaves_kept rows kept part in omega (arith, known.1))
  | inr none ↦ omega arith
]

part_falls : (rows : List Row) → LengthsKept rows → (n part from size : ℕ) → 0 < n → size ≤ part_length rows n part - from → calls_left size part 1 < 2 * n - 1
part_falls rows kept n part from zero some fits = omega arith
part_falls rows kept n part from (suc size) some fits = let known = part_known rows n part (omega arith) in omega (arith, known.0)

part_out : (rows : List Row) → LengthsKept rows → (n part from size : ℕ) → size ≤ part_length rows n part - from → copies_out rows part 1 from size ≡ take size (drop from (part_string rows n part))
part_out rows kept n part from zero fits = refl
part_out rows kept n part from (suc size) fits =
    let known = part_known rows n part (omega arith) in
    ap (λ xs. take (suc size) (drop from xs)) (append-nil (leaf_string rows part) ∙ sym known.2)

copies_some : (rows : List Row) (n m start count : ℕ) → count ≤ shape_length rows (Repeat n m) - start → 0 < count → 0 < (row_of rows n).length
copies_some rows n m start count fits more = elim (cases_lt 0 (row_of rows n).length) [
  | inl some ↦ some
  | inr none ↦
      let empty : (row_of rows n).length ≡ 0 = omega arith in
      let zeros : (row_of rows n).length * m ≡ 0 * m = ap (λ l. l * m) empty in
      absurd (omega arith)
]

-- a list of one, written over
pub set_alone : (xs : List ℕ) (n : ℕ) → length xs ≡ 1 → set xs 0 n ≡ replicate (length xs) n
set_alone [] n one = absurd (omega arith)
set_alone (x ∷ []) n one = refl
set_alone (x ∷ y ∷ xs) n one = absurd (omega arith)

-- a leaf is its own number, in each copy
pub leaf_out : (rows : List Row) → LengthsKept rows → (n m start count : ℕ) {row : Row} {code : ℕ} → row_at rows n ≡ Some row → row.shape ≡ Leaf code
    → count ≤ shape_length rows (Repeat n m) - start → replicate count n ≡ copies_out rows n m start count
leaf_out rows kept n m start count found same fits =
    let known = row_of_some rows n _ found in
    let string : leaf_string rows n ≡ n ∷ [] = leaf_string_of_row rows n known.0 known.1 ∙ ap (shape_leaves rows n) (ap (λ r. r.shape) known.2 ∙ same) in
    let enough : count ≤ m - start = omega (arith, copies_long rows kept n m, ap (λ xs. m * length xs) string) in
    sym
    (ap (λ xs. take count (drop start (times m xs))) string ∙ ap (λ xs. take count (drop start xs)) (times_one m n)
    ∙ ap (take count) (drop-replicate start m n) ∙ take-replicate count (m - start) n enough)

module _ {rows : List Row} {n start : ℕ} (kept : LengthsKept rows) where
  -- the leaf string of a row that is asked for
  module _ {shape : Shape} {count : ℕ} (asked : Asked rows n shape start count) where
    string_is : leaf_string rows n ≡ shape_leaves rows n shape
    string_is = leaf_string_of_row rows n asked.some asked.known ∙ ap (shape_leaves rows n) asked.is

    kept_is : (row_of rows n).length ≡ min 65535 (length (shape_leaves rows n shape))
    kept_is = leaves_kept rows kept n ∙ ap (λ xs. min 65535 (length xs)) string_is

    few : start + count ≤ 65535
    few = omega (arith, kept_is, asked.within)

  module _ {left right count : ℕ} (asked : Asked rows n (Pair left right) start count) (split : ℕ) (at : split ≡ min (part_length rows n left - start) count) where
    left_fits : split ≤ part_length rows n left - start
    left_fits = omega arith

    right_fits : count - split ≤ part_length rows n right - (start - part_length rows n left)
    right_fits =
        let a = part_kept rows kept n left in
        let b = part_kept rows kept n right in
        let all = kept_is asked in
        let both = length-append (part_string rows n left) (part_string rows n right) in
        omega (arith, asked.within)

    pub right_asked : (count - split ≤ shape_length rows (Repeat right 1) - (start - part_length rows n left)) × (calls_left (count - split) right 1 < 2 * n - 1)
    right_asked =
        let from = start - part_length rows n left in
        (part_asked rows kept n right from (count - split) right_fits, part_falls rows kept n right from (count - split) asked.some right_fits)

    pub pair_out : copies_out rows left 1 start split ++ copies_out rows right 1 (start - part_length rows n left) (count - split) ≡ written_out rows n start count
    pair_out =
        let from = start - part_length rows n left in
        ap (λ xs. xs ++ copies_out rows right 1 from (count - split)) (part_out rows kept n left start split left_fits)
        ∙ ap (λ xs. take split (drop start (part_string rows n left)) ++ xs) (part_out rows kept n right from (count - split) right_fits)
        ∙ two_parts (part_string rows n left) (part_string rows n right) start count (part_length rows n left) split (part_kept rows kept n left) (few asked) at
        ∙ ap (λ xs. take count (drop start xs)) (sym (string_is asked))

  module _ {part m count : ℕ} (asked : Asked rows n (Repeat part m) start count) (more : 0 < count) where
    repeat_long : (row_of rows n).length ≡ min 65535 (m * length (part_string rows n part))
    repeat_long = kept_is asked ∙ ap (min 65535) (length_times m (part_string rows n part))

    -- a part that is asked for anything is below its row
    repeat_part : (part < n) × (part_string rows n part ≡ leaf_string rows part)
    repeat_part = elim (cases_lt 0 (part_length rows n part)) [
      | inl some ↦ (let known = part_known rows n part some in (known.0, known.2))
      | inr none ↦
          let empty : length (part_string rows n part) ≡ 0 = let p = part_kept rows kept n part in omega arith in
          let zeros : m * length (part_string rows n part) ≡ m * 0 = ap (λ l. m * l) empty in
          absurd (omega (arith, repeat_long, asked.within))
    ]

    pub repeat_asked : count ≤ shape_length rows (Repeat part m) - start
    repeat_asked =
        let same = ap (λ xs. min 65535 (m * length xs)) repeat_part.1 in
        omega (arith, repeat_long, same, copies_long rows kept part m, asked.within)

    pub repeat_falls : calls_left count part m < 2 * n
    repeat_falls = let below = calls_left_le count part m in omega (arith, repeat_part.0)

    pub repeat_out : copies_out rows part m start count ≡ written_out rows n start count
    repeat_out = ap (λ xs. take count (drop start xs)) (sym (string_is asked ∙ ap (times m) repeat_part.1))

  module _ {row : Row} (found : row_at rows n ≡ Some row) {m count : ℕ} (fits : count ≤ shape_length rows (Repeat n m) - start) where
    -- of one copy, its row is asked
    pub one_asked : {shape : Shape} → row.shape ≡ shape → m ≡ 1 → 0 < count → Asked rows n shape start count
    one_asked same one more =
        let known = row_of_some rows n row found in
        let whole : (row_of rows n).length * m ≡ (row_of rows n).length * 1 = ap (λ k. (row_of rows n).length * k) one in
        record { is = ap (λ r. r.shape) known.2 ∙ same; some = known.0; known = known.1; within = omega arith }

  -- of copies, what is asked for in the one that is next
  module _ {row : Row} (found : row_at rows n ≡ Some row) {m count limit : ℕ} (fits : count ≤ shape_length rows (Repeat n m) - start) (long : limit ≡ row.length) {filled : ℕ} (out : List ℕ)
      (g : Copied rows n m start count filled out) (less : filled < length out) {place end : ℕ} (there : place ≡ (start + filled) % limit) (at : end ≡ min (length out) (filled + (limit - place))) where
    is : limit ≡ (row_of rows n).length
    is = long ∙ sym (ap (λ r. r.length) (row_of_some rows n row found).2)

    low : place < limit
    low = let l = mod-lt (start + filled) (subst (λ l. 0 < l) (sym is) (copies_some rows n m start count fits (omega (arith, g.long)))) in omega arith

    size : length (take (end - filled) (drop filled out)) ≡ end - filled
    size = length_part out filled end (omega (arith, g.long))

    pub copied_more : (ys : List ℕ) → ys ≡ written_out rows n place (length (take (end - filled) (drop filled out))) → length ys ≡ length (take (end - filled) (drop filled out))
        → Copied rows n m start count end (put_mid filled (end - filled) out ys)
    copied_more ys written whole =
        let l = low in
        let i = is in
        let long = g.long in
        let from : place ≡ (start + filled) % (row_of rows n).length = there ∙ ap (λ l. (start + filled) % l) is in
        let copy = copy_part_within m (leaf_string rows n) (start + filled) (end - filled) (row_of rows n).length (leaves_kept rows kept n) (omega (arith, copies_long rows kept n m)) (omega arith) in
        let string = times m (leaf_string rows n) in
        record {
          long = length_put out ys filled (end - filled) (omega (arith, g.long)) (whole ∙ size) ∙ g.long;
          within = omega arith;
          done =
              take-put_mid filled (end - filled) out ys end (omega (arith, whole, size)) (omega (arith, g.long))
              ∙ ap (λ xs. xs ++ ys) g.done
              ∙ ap (λ xs. copies_out rows n m start filled ++ xs)
              (written ∙ ap (written_out rows n place) size ∙ ap (λ i. written_out rows n i (end - filled)) from ∙ sym copy ∙ ap (take (end - filled)) (sym (drop-drop filled start string)))
              ∙ sym (take_in_two (drop start string) filled end (omega arith));
        }
