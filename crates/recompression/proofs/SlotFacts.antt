-- What slots hold after a row is put in or taken off, and how a row in use is read. Assumes nothing.
use Rattle.std.proofs.Common.{◌≡◌, ℕ, ◌+◌, ◌-◌, ◌<◌, ◌≤◌, true, false, ◌&&◌, eqb, ltb, leb, ◌≢◌, List, [], ◌∷◌, ◌++◌, length, get_or, take, drop, set, replicate, Some, None, sym, refl, ap, ◌∙◌, subst, inl, inr, min, arith, length-set, length-append, length-take, length-drop}
use Rattle.std.proofs.lemmas.List.{take_more_set, take_at, take_all, take-take, length-replicate, get_or-append_right, get_or_append_left, get_or-take, ext_get_or, length-take-le, get_or-set_other, get_or-drop, replicate-append-replicate}
use borrow.Rule.Slice.PartMut.{mid_of, post_of, put_mid, Post-is}
use Rattle.std.proofs.lemmas.Bool.{both_ways, cases_Bool, cases_lt, cond-true, cond-false, and_from, and_parts, eqb-true, lt-ltb, le-leb, ltb-true, leb-true}
use Rattle.rows.specs.declared.Shape.{Shape}
use Rattle.rows.specs.declared.Shape.TheVariants.{Leaf, Pair, Repeat}
use Rattle.rows.specs.declared.Row.{Row}
use Rattle.rows.specs.Filing.{blank_row, row_of, row_made, find}
use Rattle.recompression.specs.Contents.{UnusedBlank, row_at, with_blanks}
use Rattle.recompression.specs.Buckets.{IndexOf, Distinct}
use Rattle.recompression.specs.Tables.{in_use, is_blank_shape, is_blank_row, LengthsKept, Sound, appended, truncated}
use Rattle.recompression.specs.declared.index.Index.{Index}
use Rattle.recompression.specs.declared.slots.Slots.{Slots}
use Rattle.recompression.specs.declared.table.Table.{Table}
use Rattle.recompression.proofs.DistinctFacts.{distinct_none, distinct_added, distinct_taken}
use Rattle.recompression.proofs.Fills.{filled_at}
use Rattle.recompression.proofs.LengthFacts.{lengths_none, lengths_added, lengths_taken}

-- blank slots, none in use
pub none_in_use : (s : Slots) → s.count ≡ 0 → in_use s ≡ []
none_in_use s none = ap (λ n. take n s.rows) none

pub blank_sound : (s : Slots) → s.rows ≡ replicate 1024 blank_row → s.count ≡ 0 → IndexOf [] s.index → Sound s
blank_sound s blank none indexed = record {
  long = ap length blank;
  few = omega arith;
  blank = λ k h. ap (λ rows. is_blank_row (get_or rows k blank_row)) blank ∙ rw (filled_at 1024 k blank_row);
  lengths = subst LengthsKept (sym (none_in_use s none)) lengths_none;
  indexed = subst (λ rows. IndexOf rows s.index) (sym (none_in_use s none)) indexed;
  distinct = subst Distinct (sym (none_in_use s none)) distinct_none;
}

-- a row that is put at i leaves those after it
blank_after : (rows : List Row) (i : ℕ) (row : Row) → ((k : ℕ) → i ≤ k → is_blank_row (get_or rows k blank_row) ≡ true)
    → (k : ℕ) → i + 1 ≤ k → is_blank_row (get_or (set rows i row) k blank_row) ≡ true
blank_after rows i row after k h =
    let ne : k ≢ i = omega arith in
    rw get_or-set_other (after k (omega arith))

pub length_in_use : (s : Slots) → Sound s → length (in_use s) ≡ s.count
length_in_use s sound = length-take-le s.count s.rows (omega (arith, sound.long, sound.few))

pub appended_rows : (s : Slots) (row : Row) (index : Index) → s.count < 1024 → Sound s → in_use (appended s row index) ≡ in_use s ++ (row ∷ [])
appended_rows s row index room sound = take_more_set s.rows s.count row (omega arith)

pub appended_sound : (s : Slots) (k : ℕ) (shape : Shape) (index : Index) → s.count < 1024 → Sound s → find (in_use s) shape ≡ None
    → IndexOf (in_use s ++ (row_made k (in_use s) shape ∷ [])) index → Sound (appended s (row_made k (in_use s) shape) index)
appended_sound s k shape index room sound none indexed =
    let row = row_made k (in_use s) shape in
    let rows = appended_rows s row index room sound in
    record {
      long = length-set s.rows s.count row ∙ sound.long;
      few = omega arith;
      blank = blank_after s.rows s.count row sound.blank;
      lengths = subst LengthsKept (sym rows) (lengths_added (in_use s) k shape sound.lengths);
      indexed = subst (λ rs. IndexOf rs index) (sym rows) indexed;
      distinct = subst Distinct (sym rows) (distinct_added (in_use s) row sound.distinct none);
    }

-- slots cut off after the first n rows in use
module _ (n : ℕ) (s : Slots) (index : Index) (sound : Sound s) where
  front_long : length (take (min s.count n) s.rows) ≡ min s.count n
  front_long = length-take-le (min s.count n) s.rows (omega arith)

  pub truncated_rows : in_use (truncated n s index) ≡ take n (in_use s)
  truncated_rows =
      take_at (take (min s.count n) s.rows) (replicate (length s.rows - min s.count n) blank_row) (min s.count n) front_long
      ∙ elim (cases_lt s.count n) [
        | inl more ↦
            let all : min s.count n ≡ s.count = omega arith in
            ap (λ m. take m s.rows) all ∙ sym (take_all n (in_use s) (omega (arith, length_in_use s sound)))
        | inr few ↦
            let first : min s.count n ≡ n = omega arith in
            ap (λ m. take m s.rows) first ∙ sym (take-take n s.count s.rows few)
      ]

  blank_from : (k : ℕ) → min s.count n ≤ k → is_blank_row (get_or (truncated n s index).rows k blank_row) ≡ true
  blank_from k past =
      let more = length s.rows - min s.count n in
      ap is_blank_row (get_or-append_right (take (min s.count n) s.rows) (replicate more blank_row) (min s.count n) k blank_row front_long past ∙ filled_at more (k - min s.count n) blank_row)

  pub truncated_sound : IndexOf (take n (in_use s)) index → Sound (truncated n s index)
  truncated_sound indexed = record {
    long = simp (length-append, length-replicate) (omega (arith, front_long, sound.long, sound.few));
    few = omega (arith, sound.few);
    blank = blank_from;
    lengths = subst LengthsKept (sym truncated_rows) (lengths_taken n (in_use s) sound.lengths);
    indexed = subst (λ rs. IndexOf rs index) (sym truncated_rows) indexed;
    distinct = subst Distinct (sym truncated_rows) (distinct_taken n (in_use s) sound.distinct);
  }

-- a row that passes the test is the blank one
blank_shape : (shape : Shape) → is_blank_shape shape ≡ true → shape ≡ Leaf 0
blank_shape (Leaf code) h = ap Leaf (eqb-true code 0 h)
blank_shape (Pair left right) h = absurd (both_ways false refl h)
blank_shape (Repeat part times) h = absurd (both_ways false refl h)

pub is_blank : (row : Row) → is_blank_row row ≡ true → row ≡ blank_row
is_blank row h =
    let row_of_fields = λ (shape : Shape) (long round : ℕ). let r : Row = record { shape = shape; length = long; round = round } in r in
    let all = and_parts (is_blank_shape row.shape && eqb row.length 0) (eqb row.round 0) h in
    let both = and_parts (is_blank_shape row.shape) (eqb row.length 0) all.0 in
    ap (λ s. row_of_fields s row.length row.round) (blank_shape row.shape both.0)
    ∙ ap (λ n. row_of_fields (Leaf 0) n row.round) (eqb-true row.length 0 both.1)
    ∙ ap (row_of_fields (Leaf 0) 0) (eqb-true row.round 0 all.1)

-- where the slots from n on are blank, those from m on are once those between are made so
pub blanks_joined : (rows : List Row) (m n : ℕ) → m ≤ n → ((k : ℕ) → n ≤ k → is_blank_row (get_or rows k blank_row) ≡ true)
    → put_mid m (n - m) rows (replicate (length (mid_of m (n - m) rows)) blank_row) ≡ take m rows ++ replicate (length rows - m) blank_row
blanks_joined rows m n less blank =
    let after : drop n rows ≡ replicate (length rows - n) blank_row =
    ext_get_or blank_row (drop n rows) (replicate (length rows - n) blank_row) (length-drop n rows ∙ sym (length-replicate (length rows - n) blank_row))
    (λ k h. get_or-drop n rows k blank_row ∙ is_blank (get_or rows (n + k) blank_row) (blank (n + k) (omega arith)) ∙ sym (filled_at (length rows - n) k blank_row)) in
    let all : length (mid_of m (n - m) rows) + (length rows - n) ≡ length rows - m = omega (arith, length-take (n - m) (drop m rows), length-drop m rows) in
    ap (λ xs. take m rows ++ (replicate (length (mid_of m (n - m) rows)) blank_row ++ xs)) (Post-is m n rows less ∙ after)
    ∙ ap (λ xs. take m rows ++ xs) (replicate-append-replicate (length (mid_of m (n - m) rows)) (length rows - n) blank_row ∙ ap (λ k. replicate k blank_row) all)

-- so in slots of which those not in use are
pub blank_on : (s : Slots) (m : ℕ) (ys : List Row) → Sound s → m ≤ s.count → ys ≡ replicate (length (mid_of m (s.count - m) s.rows)) blank_row
    → take m s.rows ++ (ys ++ post_of m (s.count - m) s.rows) ≡ take m s.rows ++ replicate (length s.rows - m) blank_row
blank_on s m ys sound less filled = ap (put_mid m (s.count - m) s.rows) filled ∙ blanks_joined s.rows m s.count less sound.blank

-- the rows in use, and blank slots after them
module _ (s : Slots) (sound : Sound s) where
  slot_at : (k : ℕ) → k < length s.rows → get_or s.rows k blank_row ≡ get_or (with_blanks (in_use s)) k blank_row
  slot_at k h =
      let count = length_in_use s sound in
      let blanks = replicate (1024 - length (in_use s)) blank_row in
      elim (cases_lt k (length (in_use s))) [
        | inl used ↦ sym (get_or-take s.count s.rows k blank_row (omega arith)) ∙ sym (get_or_append_left (in_use s) blanks blank_row k used)
        | inr after ↦
            is_blank (get_or s.rows k blank_row) (sound.blank k (omega arith))
            ∙ sym (get_or-append_right (in_use s) blanks (length (in_use s)) k blank_row refl after ∙ filled_at (1024 - length (in_use s)) (k - length (in_use s)) blank_row)
      ]

  same_length : length s.rows ≡ length (with_blanks (in_use s))
  same_length = let count = length_in_use s sound in simp (length-append, length-replicate) (omega (arith, count, sound.long, sound.few))

  pub slots_blank : s.rows ≡ with_blanks (in_use s)
  slots_blank = ext_get_or blank_row s.rows (with_blanks (in_use s)) same_length slot_at

-- every table is so, by its type
pub unused_blank : (t : Table) → UnusedBlank t
unused_blank t = record {
  long = t.sound.long;
  blank = λ k h. t.sound.blank k (let count = length_in_use t.slots t.sound in omega arith);
}

-- the row of a known number
pub row_at_known : (rows : List Row) (n : ℕ) → 0 < n → n ≤ length rows → row_at rows n ≡ Some (row_of rows n)
row_at_known rows n some h =
    cond-true (ltb 0 n && leb n (length rows)) (Some (row_of rows n)) None (and_from (ltb 0 n) (leb n (length rows)) (lt-ltb 0 n some) (le-leb n (length rows) h))

pub row_of_some : (rows : List Row) (n : ℕ) (row : Row) → row_at rows n ≡ Some row → (0 < n) × (n ≤ length rows) × (row_of rows n ≡ row)
row_of_some rows n row e = elim (cases_Bool (ltb 0 n && leb n (length rows))) [
  | inl inside ↦
      let both = and_parts (ltb 0 n) (leb n (length rows)) inside in
      let same = sym (cond-true (ltb 0 n && leb n (length rows)) (Some (row_of rows n)) None inside) ∙ e in
      (ltb-true 0 n both.0, leb-true n (length rows) both.1, cc)
  | inr outside ↦
      let none = sym (cond-false (ltb 0 n && leb n (length rows)) (Some (row_of rows n)) None outside) ∙ e in
      absurd (let z : ◌≡◌ {A = ℕ} 0 1 = cc in omega arith)
]
