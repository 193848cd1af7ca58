-- What a row is seen as from either side, by what its parts are seen as. Assumes nothing.
use Rattle.std.proofs.Common.{◌≡◌, ℕ, zero, suc, ◌<◌, ◌≤◌, true, ◌&&◌, ltb, leb, List, [], ◌∷◌, ◌++◌, reverse, length, sym, refl, ap, ◌∙◌}
use lib.ListN.{length-reverse}
use Rattle.std.proofs.lemmas.List.{append_assoc, append-nil, reverse-append}
use Rattle.std.proofs.lemmas.Bool.{and_parts, ltb-true}
use Rattle.rows.specs.declared.Shape.{Shape}
use Rattle.rows.specs.declared.Shape.TheVariants.{Leaf, Pair, Repeat}
use Rattle.rows.specs.declared.Row.{Row}
use Rattle.rows.specs.Filing.{row_of}
use Rattle.rows.specs.Lawful.{Lawful, parts_below}
use Rattle.rows.specs.Strips.{times, strip}
use Rattle.rows.proofs.LawfulFacts.{lawful_parts}
use Rattle.rows.proofs.StripFacts.{shape_strip, strip_of_row}
use Rattle.keepers.specs.declared.side.Side.{Side}
use Rattle.keepers.specs.declared.side.Side.TheVariants.{Ahead, Behind}
use Rattle.shelf_strip.specs.Sides.{seen, first_of, second_of}

pub length_seen : (side : Side) (rows : List Row) (n : ℕ) → length (seen side rows n) ≡ length (strip rows n)
length_seen Ahead rows n = refl
length_seen Behind rows n = length-reverse (strip rows n)

-- copies backwards are copies of what is backwards
times_turn : (m : ℕ) (xs : List ℕ) → times m xs ++ xs ≡ xs ++ times m xs
times_turn zero xs = sym (append-nil xs)
times_turn (suc m) xs = append_assoc xs (times m xs) xs ∙ ap (λ ys. xs ++ ys) (times_turn m xs)

reverse_times : (m : ℕ) (xs : List ℕ) → reverse (times m xs) ≡ times m (reverse xs)
reverse_times zero xs = refl
reverse_times (suc m) xs = reverse-append xs (times m xs) ∙ ap (λ ys. ys ++ reverse xs) (reverse_times m xs) ∙ times_turn m (reverse xs)

-- what a shape is seen as
abbrev pub seen_shape : Side → List Row → Shape → List ℕ
seen_shape side rows (Leaf code) = code ∷ []
seen_shape side rows (Pair left right) = seen side rows (first_of side left right) ++ seen side rows (second_of side left right)
seen_shape side rows (Repeat part count) = times count (seen side rows part)

shape_ahead : (rows : List Row) (shape : Shape) → shape_strip rows shape ≡ seen_shape Ahead rows shape
shape_ahead rows (Leaf code) = refl
shape_ahead rows (Pair left right) = refl
shape_ahead rows (Repeat part count) = refl

shape_behind : (rows : List Row) (shape : Shape) → reverse (shape_strip rows shape) ≡ seen_shape Behind rows shape
shape_behind rows (Leaf code) = refl
shape_behind rows (Pair left right) = reverse-append (strip rows left) (strip rows right)
shape_behind rows (Repeat part count) = reverse_times count (strip rows part)

pub seen_of_row : (side : Side) (rows : List Row) → Lawful rows → (n : ℕ) → 0 < n → n ≤ length rows → seen side rows n ≡ seen_shape side rows (row_of rows n).shape
seen_of_row Ahead rows law n some known = strip_of_row rows (lawful_parts rows law) n some known ∙ shape_ahead rows (row_of rows n).shape
seen_of_row Behind rows law n some known = ap reverse (strip_of_row rows (lawful_parts rows law) n some known) ∙ shape_behind rows (row_of rows n).shape

-- parts are below their row
sides_below : (side : Side) (n left right : ℕ) → left < n → right < n → (first_of side left right < n) × (second_of side left right < n)
sides_below Ahead n left right l r = (l, r)
sides_below Behind n left right l r = (r, l)

pub pair_below : (side : Side) (n left right : ℕ) → parts_below n (Pair left right) ≡ true → (first_of side left right < n) × (second_of side left right < n)
pair_below side n left right h =
    let both = and_parts (ltb 0 left && ltb left n) (ltb 0 right && ltb right n) h in
    sides_below side n left right
    (ltb-true left n (and_parts (ltb 0 left) (ltb left n) both.0).1)
    (ltb-true right n (and_parts (ltb 0 right) (ltb right n) both.1).1)

pub repeat_below : (n part count : ℕ) → parts_below n (Repeat part count) ≡ true → part < n
repeat_below n part count h = ltb-true part n (and_parts (ltb 0 part) (ltb part n) (and_parts (ltb 0 part && ltb part n) (leb 2 count) h).0).1
