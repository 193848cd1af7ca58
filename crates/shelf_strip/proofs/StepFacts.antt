-- What a step says of two cursors that stand together, and of a leaf and a smaller number. Assumes nothing.
use Rattle.std.proofs.Common.{◌≡◌, ℕ, ◌+◌, ◌%◌, ◌<◌, ◌≤◌, min, true, false, eqb, List, [], ◌∷◌, length, get_or, Some, sym, ap, ◌∙◌, ap₂, inl, inr, arith}
use Rattle.std.proofs.ByRecursion.{All-get_or}
use Rattle.std.proofs.lemmas.Bool.{and_parts, and_from, eqb-true, eq-eqb, cases_lt, both_ways}
use Rattle.rows.specs.declared.Shape.TheVariants.{Leaf}
use Rattle.rows.specs.declared.Row.{Row}
use Rattle.rows.specs.Filing.{find, row_of}
use Rattle.rows.specs.Lawful.{Lawful}
use Rattle.rows.proofs.LawfulFacts.{row_lawful}
use Rattle.keepers.specs.declared.side.Side.{Side}
use Rattle.shelf_strip.specs.declared.cursor.Cursor.{Cursor}
use Rattle.shelf_strip.specs.Sides.{seen}
use Rattle.shelf_strip.specs.Cursors.{same_stand, code_under, Stands, Steps}
use Rattle.shelf_strip.proofs.CursorFacts.{under_plain, number_known, seen_as}
use Rattle.shelf_strip.proofs.LeafFacts.{HasLeaf, seen_leaves}

module _ (side : Side) (rows : List Row) where
  reach_some : (c : Cursor) → Stands side rows c → 0 < c.reach
  reach_some c stands = let within = stands.within in let reaches = stands.reaches in omega arith

  -- cursors at the same place go on alike
  same_code : (a b : Cursor) → a.number ≡ b.number → a.place ≡ b.place → (k : ℕ) → code_under side rows a k ≡ code_under side rows b k
  unfolding code_under
  same_code a b number place k = ap₂ (λ n p. get_or (seen side rows n) ((p + k) % length (seen side rows n)) 0) number place

  pub steps_same : (a b : Cursor) (r : ℕ) → Stands side rows a → Stands side rows b → same_stand a b ≡ true → r ≡ min a.reach b.reach → Steps side rows a b r
  steps_same a b r a_stands b_stands same is =
      let both = and_parts (eqb a.number b.number) (eqb a.place b.place) same in
      let a_some = reach_some a a_stands in
      let b_some = reach_some b b_stands in
      record {
        left_short = omega arith;
        right_short = omega arith;
        each = λ k h. same_code a b (eqb-true a.number b.number both.0) (eqb-true a.place b.place both.1) k;
        stops = λ none e. omega arith;
      }

  module _ (law : Lawful rows) where
    -- a cursor on a leaf stands at its code
    leaf_place : (c : Cursor) → Stands side rows c → (code : ℕ) → (row_of rows c.number).shape ≡ Leaf code → c.place ≡ 0
    leaf_place c stands code is = let one = ap length (seen_as side rows law c stands (Leaf code) is) in let within = stands.within in omega arith

    leaf_code : (c : Cursor) → Stands side rows c → (code : ℕ) → (row_of rows c.number).shape ≡ Leaf code → code_under side rows c 0 ≡ code
    leaf_code c stands code is =
        let start : c.place + 0 ≡ 0 = let p = leaf_place c stands code is in omega arith in
        let within = stands.within in
        under_plain side rows c 0 (omega arith) ∙ ap (λ xs. get_or xs (c.place + 0) 0) (seen_as side rows law c stands (Leaf code) is) ∙ ap (λ p. get_or (code ∷ []) p 0) start

    -- no two rows are alike, so a leaf differs from every code under a smaller number
    apart : (a b : Cursor) → Stands side rows a → Stands side rows b → (code : ℕ) → (row_of rows b.number).shape ≡ Leaf code → a.number < b.number → code_under side rows a 0 ≡ code_under side rows b 0 → ⊥
    apart a b a_stands b_stands code is less same =
        let within = a_stands.within in
        let inside : a.place + 0 < length (seen side rows a.number) = omega arith in
        let read : get_or (seen side rows a.number) (a.place + 0) 0 ≡ code = sym (under_plain side rows a 0 inside) ∙ same ∙ leaf_code b b_stands code is in
        let leaf = All-get_or (HasLeaf rows a.number) (seen side rows a.number) (a.place + 0) 0 inside (seen_leaves rows law side a.number) in
        let known = number_known side rows law b b_stands in
        let own : find rows (Leaf code) ≡ Some b.number = ap (find rows) (sym is) ∙ (row_lawful rows law b.number known.0 known.1).found in
        let other : find rows (Leaf code) ≡ Some leaf.0 = ap (λ x. find rows (Leaf x)) (sym read) ∙ leaf.2 in
        let one : b.number ≡ leaf.0 = cc in
        omega (arith, leaf.1)

    pub apart_right : (a b : Cursor) → Stands side rows a → Stands side rows b → (code : ℕ) → (row_of rows b.number).shape ≡ Leaf code → a.number < b.number → Steps side rows a b 0
    apart_right a b a_stands b_stands code is less =
        record { left_short = omega arith; right_short = omega arith; each = λ k h. absurd (omega arith); stops = λ none e. apart a b a_stands b_stands code is less e }

    -- two cursors on one leaf would stand together
    pub apart_left : (a b : Cursor) → Stands side rows a → Stands side rows b → (code : ℕ) → (row_of rows a.number).shape ≡ Leaf code → b.number ≤ a.number → same_stand a b ≡ false → Steps side rows a b 0
    apart_left a b a_stands b_stands code is le differ =
        elim (cases_lt b.number a.number) [
          | inl less ↦ record { left_short = omega arith; right_short = omega arith; each = λ k h. absurd (omega arith); stops = λ none e. apart b a b_stands a_stands code is less (sym e) }
          | inr not_less ↦
              let equal : a.number ≡ b.number = omega arith in
              let a_start = leaf_place a a_stands code is in
              let b_start = leaf_place b b_stands code (ap (λ n. (row_of rows n).shape) (sym equal) ∙ is) in
              let places : a.place ≡ b.place = omega arith in
              absurd (both_ways (same_stand a b) differ (and_from (eqb a.number b.number) (eqb a.place b.place) (eq-eqb a.number b.number equal) (eq-eqb a.place b.place places)))
        ]
