-- Every code of a number's strip is that of a leaf with a number no greater. Assumes nothing.
use Rattle.std.proofs.Common.{◌≡◌, ℕ, zero, suc, ◌-◌, ◌<◌, ◌≤◌, true, List, reverse, length, Some, sym, subst, inl, inr, arith}
use lib.ListN.{length-reverse}
use Rattle.std.proofs.ByRecursion.{All-append, All-get_or, All-from_get_or, All-weaker}
use Rattle.std.proofs.lemmas.List.{get_or-reverse}
use Rattle.std.proofs.lemmas.Bool.{cases_lt}
use Rattle.std.specs.List.{AllByRecursion}
use Rattle.recompression.proofs.CodeFacts.{strip_unknown}
use Rattle.rows.specs.declared.Shape.{Shape}
use Rattle.rows.specs.declared.Shape.TheVariants.{Leaf, Pair, Repeat}
use Rattle.rows.specs.declared.Row.{Row}
use Rattle.rows.specs.Filing.{find, row_of}
use Rattle.rows.specs.Lawful.{Lawful, parts_below}
use Rattle.rows.specs.Strips.{times, strip}
use Rattle.rows.proofs.LawfulFacts.{row_lawful, lawful_parts}
use Rattle.rows.proofs.StripFacts.{shape_strip, strip_none, strip_of_row}
use Rattle.keepers.specs.declared.side.Side.{Side}
use Rattle.keepers.specs.declared.side.Side.TheVariants.{Ahead, Behind}
use Rattle.shelf_strip.specs.Sides.{seen}
use Rattle.shelf_strip.proofs.SeenFacts.{pair_below, repeat_below}

-- the code has a leaf, with a number that is at most n
abbrev pub HasLeaf : List Row → ℕ → ℕ → Type 0
HasLeaf rows n code = (m : ℕ) × (m ≤ n) × (find rows (Leaf code) ≡ Some m)

all_times : (P : ℕ → Type 0) (m : ℕ) (xs : List ℕ) → AllByRecursion P xs → AllByRecursion P (times m xs)
all_times P zero xs all = tt
all_times P (suc m) xs all = All-append P xs (times m xs) all (all_times P m xs all)

all_reverse : (P : ℕ → Type 0) (xs : List ℕ) → AllByRecursion P xs → AllByRecursion P (reverse xs)
all_reverse P xs all =
    All-from_get_or P (reverse xs) 0 (λ k h.
    let inside : k < length xs = omega (arith, length-reverse xs) in
    subst P (sym (get_or-reverse xs k 0 inside)) (All-get_or P xs (length xs - 1 - k) 0 (omega arith) all))

module _ (rows : List Row) (law : Lawful rows) where
  leaf_weaker : (m n : ℕ) → m ≤ n → (xs : List ℕ) → AllByRecursion (HasLeaf rows m) xs → AllByRecursion (HasLeaf rows n) xs
  leaf_weaker m n le xs all = All-weaker (HasLeaf rows m) (HasLeaf rows n) (λ code leaf. (leaf.0, omega (arith, leaf.1), leaf.2)) xs all

  shape_leaves : (n : ℕ) (shape : Shape) → parts_below n shape ≡ true → find rows shape ≡ Some n → ((part : ℕ) → part < n → AllByRecursion (HasLeaf rows part) (strip rows part)) → AllByRecursion (HasLeaf rows n) (shape_strip rows shape)
  shape_leaves n (Leaf code) parts found below = ((n, omega arith, found), tt)
  shape_leaves n (Pair left right) parts found below =
      let falls = pair_below Ahead n left right parts in
      All-append (HasLeaf rows n) (strip rows left) (strip rows right)
      (leaf_weaker left n (omega (arith, falls.0)) (strip rows left) (below left falls.0))
      (leaf_weaker right n (omega (arith, falls.1)) (strip rows right) (below right falls.1))
  shape_leaves n (Repeat part count) parts found below =
      let falls = repeat_below n part count parts in
      all_times (HasLeaf rows n) count (strip rows part) (leaf_weaker part n (omega arith) (strip rows part) (below part falls))

  strip_leaves : (most n : ℕ) → n ≤ most → AllByRecursion (HasLeaf rows n) (strip rows n)
  strip_leaves most zero few = subst (AllByRecursion (HasLeaf rows 0)) (sym (strip_none rows)) tt
  strip_leaves zero (suc n) few = absurd (omega arith)
  strip_leaves (suc most) (suc n) few =
      elim (cases_lt (length rows) (suc n)) [
        | inl unknown ↦ subst (AllByRecursion (HasLeaf rows (suc n))) (sym (strip_unknown rows (suc n) unknown)) tt
        | inr known ↦
            let row = row_lawful rows law (suc n) (omega arith) known in
            subst (AllByRecursion (HasLeaf rows (suc n))) (sym (strip_of_row rows (lawful_parts rows law) (suc n) (omega arith) known))
            (shape_leaves (suc n) (row_of rows (suc n)).shape row.parts row.found (λ part falls. strip_leaves most part (omega arith)))
      ]

  pub seen_leaves : (side : Side) (n : ℕ) → AllByRecursion (HasLeaf rows n) (seen side rows n)
  seen_leaves Ahead n = strip_leaves n n (omega arith)
  seen_leaves Behind n = all_reverse (HasLeaf rows n) (strip rows n) (strip_leaves n n (omega arith))
