-- Lawful rows are told by their shapes alone: what is found, the strips and the rounds depend on nothing else.
-- Assumes nothing.
use Rattle.std.proofs.Common.{◌≡◌, ℕ, zero, suc, ◌+◌, ◌<◌, ◌≤◌, cond, List, [], ◌∷◌, ◌++◌, length, take, Some, sym, refl, ap, ◌∙◌, arith}
use lib.ListN.{length-map}
use Rattle.std.proofs.lemmas.List.{ext_get_or, take-map}
use Rattle.std.proofs.lemmas.Option.{same_Some}
use Rattle.rows.specs.declared.Shape.{Shape}
use Rattle.rows.specs.declared.Row.{Row}
use Rattle.rows.specs.Filing.{alike, find_from, find, blank_row, row_of}
use Rattle.rows.specs.Laws.{shapes}
use Rattle.rows.specs.Lawful.{Lawful}
use Rattle.rows.specs.Rounds.{settle}
use Rattle.rows.specs.Strips.{known_as, written, strips_from, strip}
use Rattle.rows.proofs.LawfulFacts.{row_lawful}
use Rattle.rows.proofs.NamingFacts.{FindsAlike, settle_again}

abbrev shape_of : Row → Shape
shape_of row = row.shape

same_length : (a b : List Row) → shapes a ≡ shapes b → length a ≡ length b
same_length a b same = sym (length-map a shape_of) ∙ ap length same ∙ length-map b shape_of

same_front : (n : ℕ) (a b : List Row) → shapes a ≡ shapes b → shapes (take n a) ≡ shapes (take n b)
same_front n a b same = sym (take-map shape_of n a) ∙ ap (take n) same ∙ take-map shape_of n b

-- shapes are found alike, under the same numbers
found_same : (i : ℕ) (a b : List Row) (shape : Shape) → shapes a ≡ shapes b → find_from i a shape ≡ find_from i b shape
found_same i [] [] shape same = refl
found_same i [] (r ∷ b) shape same = absurd (let z = ap length same in omega arith)
found_same i (q ∷ a) [] shape same = absurd (let z = ap length same in omega arith)
found_same i (q ∷ a) (r ∷ b) shape same =
    let head : q.shape ≡ r.shape = cc in
    let tail : shapes a ≡ shapes b = cc in
    ap (λ s. cond (alike s shape) (Some i) (find_from (i + 1) a shape)) head ∙ ap (cond (alike r.shape shape) (Some i)) (found_same (i + 1) a b shape tail)

finds_alike : (a b : List Row) → shapes a ≡ shapes b → FindsAlike a b
unfolding find
finds_alike a b same shape n h = sym (found_same 1 a b shape same) ∙ h

-- strips are the same
strips_same : (done : List (List ℕ)) (a b : List Row) → shapes a ≡ shapes b → strips_from done a ≡ strips_from done b
strips_same done [] [] same = refl
strips_same done [] (r ∷ b) same = absurd (let z = ap length same in omega arith)
strips_same done (q ∷ a) [] same = absurd (let z = ap length same in omega arith)
strips_same done (q ∷ a) (r ∷ b) same =
    let head : q.shape ≡ r.shape = cc in
    let tail : shapes a ≡ shapes b = cc in
    ap (λ s. strips_from (done ++ (written done s ∷ [])) a) head ∙ strips_same (done ++ (written done r.shape ∷ [])) a b tail

strip_same : (a b : List Row) (n : ℕ) → shapes a ≡ shapes b → strip a n ≡ strip b n
unfolding strip
strip_same a b n same = ap (λ done. known_as done n) (strips_same [] a b same)

shape_same : (a b : List Row) (n : ℕ) → shapes a ≡ shapes b → (row_of a n).shape ≡ (row_of b n).shape
shape_same a b zero same = refl
shape_same [] [] (suc n) same = refl
shape_same [] (r ∷ b) (suc n) same = absurd (let z = ap length same in omega arith)
shape_same (q ∷ a) [] (suc n) same = absurd (let z = ap length same in omega arith)
shape_same (q ∷ a) (r ∷ b) (suc zero) same = cc
shape_same (q ∷ a) (r ∷ b) (suc (suc n)) same = let tail : shapes a ≡ shapes b = cc in shape_same a b (suc n) tail

-- and so, on lawful rows, are the lengths and the rounds that they keep
row_same : (a b : List Row) → Lawful a → Lawful b → shapes a ≡ shapes b → (n : ℕ) → 0 < n → n ≤ length a → row_of a n ≡ row_of b n
row_same a b law_a law_b same n some within =
    let of_a = row_lawful a law_a n some within in
    let of_b = row_lawful b law_b n some (omega (arith, same_length a b same)) in
    let strips : strip a n ≡ strip b n = strip_same a b n same in
    let shape = shape_same a b n same in
    let long : (row_of a n).length ≡ (row_of b n).length = of_a.long ∙ ap length strips ∙ sym of_b.long in
    let again = settle_again (take n a) (strip a n) (record { numbers = n ∷ []; rows = take n a; rounds = (row_of a n).round }) (take n b)
    (finds_alike (take n a) (take n b) (same_front n a b same)) of_a.comes in
    let round : (row_of a n).round ≡ (row_of b n).round = ap (λ g. g.rounds) (same_Some _ _ (sym again ∙ ap (settle (take n b)) strips ∙ of_b.comes)) in
    λ i. record { shape = shape i; length = long i; round = round i }

pub told_by_shapes : (a b : List Row) → Lawful a → Lawful b → shapes a ≡ shapes b → a ≡ b
told_by_shapes a b law_a law_b same =
    ext_get_or blank_row a b (same_length a b same) (λ i within. row_same a b law_a law_b same (suc i) (omega arith) (omega arith))
