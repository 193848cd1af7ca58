-- Strips do not change under added rows, and a row's strip is that of its parts. Assumes nothing.
use Rattle.std.proofs.Common.{◌≡◌, ℕ, zero, suc, ◌+◌, ◌-◌, ◌<◌, ◌≤◌, true, ◌&&◌, ltb, leb, List, [], ◌∷◌, ◌++◌, length, take, drop, sym, refl, ap, ◌∙◌, subst, arith, length-append}
use Rattle.std.proofs.lemmas.List.{append_assoc, append-nil, get_or_append_left, get_or_at, length-take-le}
use Rattle.std.proofs.lemmas.Bool.{and_parts, ltb-true}
use Rattle.rows.specs.declared.Shape.{Shape}
use Rattle.rows.specs.declared.Shape.TheVariants.{Leaf, Pair, Repeat}
use Rattle.rows.specs.declared.Row.{Row}
use Rattle.rows.specs.Filing.{blank_row, row_of}
use Rattle.rows.specs.Lawful.{parts_below}
use Rattle.rows.specs.Strips.{times, known_as, written, strips_from, strip, expanded}

-- the strips of rows begin with those that were done before, and there is one for each row
strips_begin : (done : List (List ℕ)) (rows : List Row) → (more : List (List ℕ)) × (strips_from done rows ≡ done ++ more) × (length more ≡ length rows)
strips_begin done [] = ([], sym (append-nil done), refl)
strips_begin done (row ∷ rows) =
    let rest = strips_begin (done ++ (written done row.shape ∷ [])) rows in
    (written done row.shape ∷ rest.0, rest.1 ∙ append_assoc done (written done row.shape ∷ []) rest.0, ap suc rest.2)

strips_append : (done : List (List ℕ)) (rows more : List Row) → strips_from done (rows ++ more) ≡ strips_from (strips_from done rows) more
strips_append done [] more = refl
strips_append done (row ∷ rows) more = strips_append (done ++ (written done row.shape ∷ [])) rows more

pub length_strips : (rows : List Row) → length (strips_from [] rows) ≡ length rows
length_strips rows = let all = strips_begin [] rows in ap length all.1 ∙ all.2

-- what a number stands for does not change when more is known
pub known_append : (done more : List (List ℕ)) (n : ℕ) → n ≤ length done → known_as (done ++ more) n ≡ known_as done n
known_append done more n h = get_or_append_left ([] ∷ done) more [] n (omega arith)

-- strips do not change under added rows
pub strip_append : (rows more : List Row) (n : ℕ) → n ≤ length rows → strip (rows ++ more) n ≡ strip rows n
unfolding strip
strip_append rows more n h =
    let added = strips_begin (strips_from [] rows) more in
    ap (λ done. known_as done n) (strips_append [] rows more ∙ added.1)
    ∙ known_append (strips_from [] rows) added.0 n (subst (λ k. n ≤ k) (sym (length_strips rows)) h)

pub strip_none : (rows : List Row) → strip rows 0 ≡ []
unfolding strip
strip_none rows = refl

-- the strip of a row that was just added
pub strip_added : (rows : List Row) (row : Row) → strip (rows ++ (row ∷ [])) (length rows + 1) ≡ written (strips_from [] rows) row.shape
unfolding strip
strip_added rows row =
    let w = written (strips_from [] rows) row.shape in
    let place : length rows + 1 ≡ length ([] ∷ strips_from [] rows) = let l = length_strips rows in omega arith in
    ap (λ done. known_as done (length rows + 1)) (strips_append [] rows (row ∷ []))
    ∙ get_or_at ([] ∷ strips_from [] rows) w [] [] (length rows + 1) (sym place)

-- what a shape writes, by the strips of its parts
abbrev pub shape_strip : List Row → Shape → List ℕ
shape_strip rows (Leaf code) = code ∷ []
shape_strip rows (Pair left right) = strip rows left ++ strip rows right
shape_strip rows (Repeat part count) = times count (strip rows part)

pub written_strip : (rows : List Row) (shape : Shape) → written (strips_from [] rows) shape ≡ shape_strip rows shape
unfolding strip
written_strip rows (Leaf code) = refl
written_strip rows (Pair left right) = refl
written_strip rows (Repeat part count) = refl

-- parts that are known are written alike with more rows
pub shape_strip_append : (rows more : List Row) (shape : Shape) → parts_below (length rows + 1) shape ≡ true → shape_strip (rows ++ more) shape ≡ shape_strip rows shape
shape_strip_append rows more (Leaf code) h = refl
shape_strip_append rows more (Pair left right) h =
    let sides = and_parts (ltb 0 left && ltb left (length rows + 1)) (ltb 0 right && ltb right (length rows + 1)) h in
    let l = ltb-true left (length rows + 1) (and_parts (ltb 0 left) (ltb left (length rows + 1)) sides.0).1 in
    let r = ltb-true right (length rows + 1) (and_parts (ltb 0 right) (ltb right (length rows + 1)) sides.1).1 in
    ap (λ xs. xs ++ strip (rows ++ more) right) (strip_append rows more left (omega arith)) ∙ ap (λ xs. strip rows left ++ xs) (strip_append rows more right (omega arith))
shape_strip_append rows more (Repeat part count) h =
    let sides = and_parts (ltb 0 part && ltb part (length rows + 1)) (leb 2 count) h in
    let p = ltb-true part (length rows + 1) (and_parts (ltb 0 part) (ltb part (length rows + 1)) sides.0).1 in
    ap (times count) (strip_append rows more part (omega arith))

-- the row of a number does not change either
pub row_append : (rows more : List Row) (n : ℕ) → n ≤ length rows → row_of (rows ++ more) n ≡ row_of rows n
row_append rows more n h = get_or_append_left (blank_row ∷ rows) more blank_row n (omega arith)

pub row_added : (rows : List Row) (row : Row) → row_of (rows ++ (row ∷ [])) (length rows + 1) ≡ row
row_added rows row = let place : length (blank_row ∷ rows) ≡ length rows + 1 = omega arith in get_or_at (blank_row ∷ rows) row [] blank_row (length rows + 1) place

-- rows before, at and after a number
pub rows_split : (rows : List Row) (n : ℕ) → 0 < n → n ≤ length rows → rows ≡ (take (n - 1) rows ++ (row_of rows n ∷ [])) ++ drop n rows
rows_split [] n some h = absurd (omega arith)
rows_split (row ∷ rows) zero some h = absurd (omega arith)
rows_split (row ∷ rows) (suc zero) some h = refl
rows_split (row ∷ rows) (suc (suc n)) some h =
    let e : suc (suc n) - 1 ≡ suc n = omega arith in
    let s : suc n - 1 ≡ n = omega arith in
    let rest = rows_split rows (suc n) (omega arith) (omega arith) in
    ap (λ rs. row ∷ rs) (rest ∙ ap (λ k. (take k rows ++ (row_of rows (suc n) ∷ [])) ++ drop (suc n) rows) s)
    ∙ ap (λ k. (take k (row ∷ rows) ++ (row_of (row ∷ rows) (suc (suc n)) ∷ [])) ++ drop (suc (suc n)) (row ∷ rows)) (sym e)

-- every row has its parts below it
abbrev pub Parts : List Row → Type 0
Parts rows = (n : ℕ) → 0 < n → n ≤ length rows → parts_below n (row_of rows n).shape ≡ true

-- so a row's strip is that of its parts
pub strip_of_row : (rows : List Row) → Parts rows → (n : ℕ) → 0 < n → n ≤ length rows → strip rows n ≡ shape_strip rows (row_of rows n).shape
strip_of_row rows parts n some h =
    let before = take (n - 1) rows in
    let row = row_of rows n in
    let split = rows_split rows n some h in
    let front : length before ≡ n - 1 = length-take-le (n - 1) rows (omega arith) in
    let number : length before + 1 ≡ n = omega arith in
    let below = subst (λ k. parts_below k row.shape ≡ true) (sym number) (parts n some h) in
    let grown : rows ≡ before ++ ((row ∷ []) ++ drop n rows) = split ∙ append_assoc before (row ∷ []) (drop n rows) in
    let short : length before + 1 ≤ length (before ++ (row ∷ [])) = simp length-append (omega arith) in
    ap (λ rs. strip rs n) split
    ∙ ap (strip ((before ++ (row ∷ [])) ++ drop n rows)) (sym number)
    ∙ strip_append (before ++ (row ∷ [])) (drop n rows) (length before + 1) short
    ∙ strip_added before row
    ∙ written_strip before row.shape
    ∙ sym (ap (λ rs. shape_strip rs row.shape) grown ∙ shape_strip_append before ((row ∷ []) ++ drop n rows) row.shape below)

-- the strips of strings
pub expanded_append : (rows : List Row) (a b : List ℕ) → expanded rows (a ++ b) ≡ expanded rows a ++ expanded rows b
expanded_append rows [] b = refl
expanded_append rows (n ∷ a) b = ap (λ xs. strip rows n ++ xs) (expanded_append rows a b) ∙ sym (append_assoc (strip rows n) (expanded rows a) (expanded rows b))

pub expanded_one : (rows : List Row) (n : ℕ) → expanded rows (n ∷ []) ≡ strip rows n
expanded_one rows n = append-nil (strip rows n)
