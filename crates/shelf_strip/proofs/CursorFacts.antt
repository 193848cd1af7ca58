-- A cursor that goes down into a part goes on as before. Assumes nothing.
use Rattle.std.proofs.Common.{◌≡◌, ℕ, suc, ◌+◌, ◌-◌, ◌*◌, ◌/◌, ◌%◌, ◌<◌, ◌≤◌, true, ltb, List, length, get_or, Some, None, sym, ap, ap₂, ◌∙◌, subst, inl, inr, mod-lt, mod-eq_of_lt, suc-mul, mul_comm, arith, length-append}
use native.Mathlib.Nat.{mod-add-mod}
use Rattle.std.proofs.lemmas.Nat.{div-add-mod', mul-le}
use Rattle.std.proofs.lemmas.List.{get_or_append_left, get_or-append_right}
use Rattle.std.proofs.lemmas.Bool.{cases_lt, cond-true, cond-false, lt-ltb, le-ltb}
use Rattle.recompression.specs.Contents.{row_at}
use Rattle.recompression.proofs.CodeFacts.{at_times, length_times, known_row}
use Rattle.recompression.proofs.SlotFacts.{row_at_known}
use Rattle.rows.specs.declared.Shape.{Shape}
use Rattle.rows.specs.declared.Shape.TheVariants.{Pair, Repeat}
use Rattle.rows.specs.declared.Row.{Row}
use Rattle.rows.specs.Filing.{row_of}
use Rattle.rows.specs.Lawful.{Lawful, parts_below}
use Rattle.rows.specs.Strips.{strip}
use Rattle.rows.proofs.LawfulFacts.{row_lawful}
use Rattle.keepers.specs.declared.side.Side.{Side}
use Rattle.shelf_strip.specs.declared.cursor.Cursor.{Cursor}
use Rattle.shelf_strip.specs.Sides.{seen, first_of, second_of}
use Rattle.shelf_strip.specs.Cursors.{in_pair, in_copies, code_under, Stands, Continues}
use Rattle.shelf_strip.proofs.LengthFacts.{known_by_code}
use Rattle.shelf_strip.proofs.SeenFacts.{length_seen, seen_shape, seen_of_row, pair_below, repeat_below}

-- the row that was read
pub shape_read : (rows : List Row) (n : ℕ) (row : Row) (shape : Shape) → Some row ≡ row_at rows n → row.shape ≡ shape → (row_of rows n).shape ≡ shape
shape_read rows n row shape read is = ap (λ r. r.shape) (sym (known_row rows n row read).2) ∙ is

-- within the first copy, places are those of the strip
pub under_plain : (side : Side) (rows : List Row) (c : Cursor) (k : ℕ) → c.place + k < length (seen side rows c.number) → code_under side rows c k ≡ get_or (seen side rows c.number) (c.place + k) 0
unfolding code_under
under_plain side rows c k inside = ap (λ p. get_or (seen side rows c.number) p 0) (mod-eq_of_lt inside)

-- what is left of the copies from a place on has at least the rest of the copy under it
copy_fits : (p f count w : ℕ) → w ≡ f * count → p < w → 0 < f → f ≤ p % f + (w - p)
copy_fits p f count w whole inside some =
    let parts : p / f * f + p % f ≡ p = div-add-mod' p f in
    let turned = mul_comm f count in
    elim (cases_lt (p / f) count) [
      | inl fits ↦
          let fewer : suc (p / f) ≤ count = omega arith in
          let more : suc (p / f) * f ≤ count * f = mul-le (suc (p / f)) f count f fewer (omega arith) in
          let one = suc-mul (p / f) f in
          omega arith
      | inr past ↦
          let less : count * f ≤ p / f * f = mul-le count f (p / f) f past (omega arith) in
          absurd (omega arith)
    ]

module _ (side : Side) (rows : List Row) (law : Lawful rows) (c : Cursor) (stands : Stands side rows c) where
  pub number_known : (0 < c.number) × (c.number ≤ length rows)
  number_known = known_by_code rows c.number (let l = length_seen side rows c.number in let w = stands.within in omega arith)

  pub row_there : None ≡ row_at rows c.number → ⊥
  row_there none =
      let e = none ∙ row_at_known rows c.number number_known.0 number_known.1 in
      let z : ◌≡◌ {A = ℕ} 0 1 = cc in
      omega arith

  -- the strip of the cursor's number, by its row
  pub seen_as : (shape : Shape) → (row_of rows c.number).shape ≡ shape → seen side rows c.number ≡ seen_shape side rows shape
  seen_as shape is = seen_of_row side rows law c.number number_known.0 number_known.1 ∙ ap (seen_shape side rows) is

  parts_fall : (shape : Shape) → (row_of rows c.number).shape ≡ shape → parts_below c.number shape ≡ true
  parts_fall shape is = ap (parts_below c.number) (sym is) ∙ (row_lawful rows law c.number number_known.0 number_known.1).parts

  module _ (left right : ℕ) (is : (row_of rows c.number).shape ≡ Pair left right) where
    parts_add : length (seen side rows c.number) ≡ length (seen side rows (first_of side left right)) + length (seen side rows (second_of side left right))
    parts_add = ap length (seen_as (Pair left right) is) ∙ length-append (seen side rows (first_of side left right)) (seen side rows (second_of side left right))

    pub pair_lengths : length (seen side rows c.number) ≡ length (strip rows (first_of side left right)) + length (strip rows (second_of side left right))
    pair_lengths = parts_add ∙ ap₂ (λ f s. f + s) (length_seen side rows (first_of side left right)) (length_seen side rows (second_of side left right))

    module _ (f : ℕ) (f_is : f ≡ length (seen side rows (first_of side left right))) (s : ℕ) (s_is : s ≡ length (seen side rows (second_of side left right))) where
      total : length (seen side rows c.number) ≡ f + s
      total = parts_add ∙ omega arith

      goes_first : c.place < f → Continues side rows c (record { number = first_of side left right; place = c.place; reach = f - c.place })
      goes_first front =
          let first = seen side rows (first_of side left right) in
          let second = seen side rows (second_of side left right) in
          let d : Cursor = record { number = first_of side left right; place = c.place; reach = f - c.place } in
          let whole = total in
          let reaches = stands.reaches in
          record {
            stands = record { within = omega arith; reaches = omega arith };
            falls = (pair_below side c.number left right (parts_fall (Pair left right) is)).0;
            short = omega arith;
            each = λ k h.
                under_plain side rows d k (omega arith)
                ∙ sym (under_plain side rows c k (omega arith) ∙ ap (λ xs. get_or xs (c.place + k) 0) (seen_as (Pair left right) is) ∙ get_or_append_left first second 0 (c.place + k) (omega arith));
          }

      goes_second : f ≤ c.place → Continues side rows c (record { number = second_of side left right; place = c.place - f; reach = s - (c.place - f) })
      goes_second back =
          let first = seen side rows (first_of side left right) in
          let second = seen side rows (second_of side left right) in
          let d : Cursor = record { number = second_of side left right; place = c.place - f; reach = s - (c.place - f) } in
          let whole = total in
          let reaches = stands.reaches in
          let within = stands.within in
          record {
            stands = record { within = omega arith; reaches = omega arith };
            falls = (pair_below side c.number left right (parts_fall (Pair left right) is)).1;
            short = omega arith;
            each = λ k h.
                let place : c.place + k - f ≡ c.place - f + k = omega arith in
                under_plain side rows d k (omega arith)
                ∙ sym (under_plain side rows c k (omega arith) ∙ ap (λ xs. get_or xs (c.place + k) 0) (seen_as (Pair left right) is)
                ∙ get_or-append_right first second f (c.place + k) 0 (sym f_is) (omega arith) ∙ ap (λ p. get_or second p 0) place);
          }

      pub goes_in_pair : Continues side rows c (in_pair (first_of side left right) f (second_of side left right) s c.place)
      goes_in_pair =
          let one : Cursor = record { number = first_of side left right; place = c.place; reach = f - c.place } in
          let other : Cursor = record { number = second_of side left right; place = c.place - f; reach = s - (c.place - f) } in
          elim (cases_lt c.place f) [
            | inl front ↦ subst (Continues side rows c) (sym (cond-true (ltb c.place f) one other (lt-ltb c.place f front))) (goes_first front)
            | inr back ↦ subst (Continues side rows c) (sym (cond-false (ltb c.place f) one other (le-ltb c.place f back))) (goes_second back)
          ]

  module _ (part count : ℕ) (is : (row_of rows c.number).shape ≡ Repeat part count) where
    copies_length : length (seen side rows c.number) ≡ length (seen side rows part) * count
    copies_length = ap length (seen_as (Repeat part count) is) ∙ length_times count (seen side rows part)

    part_some : 0 < length (seen side rows part)
    part_some =
        let whole = copies_length in
        let within = stands.within in
        elim (cases_lt 0 (length (seen side rows part))) [
          | inl some ↦ some
          | inr none ↦
              let z : length (seen side rows part) ≡ 0 = omega arith in
              let zero_long : length (seen side rows part) * count ≡ 0 = ap (λ k. k * count) z ∙ (let m : 0 * count ≡ 0 = omega arith in m) in
              absurd (omega arith)
        ]

    pub copy_some : 0 < length (strip rows part)
    copy_some = let some = part_some in let l = length_seen side rows part in omega arith

    pub goes_in_copies : (f : ℕ) → f ≡ length (seen side rows part) → (w : ℕ) → w ≡ length (seen side rows c.number) → Continues side rows c (in_copies part f w c.place)
    unfolding code_under
    goes_in_copies f f_is w w_is =
        let xs = seen side rows part in
        let whole = copies_length in
        let some = part_some in
        let positive : 0 < f = omega arith in
        let low : c.place % f < f = mod-lt c.place positive in
        let left_in_copy : f ≤ c.place % f + (w - c.place) = copy_fits c.place f count w (w_is ∙ whole ∙ ap (λ q. q * count) (sym f_is)) (let within = stands.within in omega arith) positive in
        let reaches = stands.reaches in
        record {
          stands = record { within = omega arith; reaches = omega arith };
          falls = repeat_below c.number part count (parts_fall (Repeat part count) is);
          short = omega arith;
          each = λ k h.
              ap (λ q. get_or xs ((c.place % q + k) % length xs) 0) f_is ∙ ap (λ p. get_or xs p 0) (mod-add-mod c.place (length xs) k)
              ∙ sym (under_plain side rows c k (omega arith) ∙ ap (λ ys. get_or ys (c.place + k) 0) (seen_as (Repeat part count) is) ∙ at_times count xs (c.place + k) some (omega arith));
        }
