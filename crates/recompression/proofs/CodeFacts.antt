-- The code at a place of a row, from the codes of its parts. Assumes nothing.
use Rattle.std.proofs.Common.{◌≡◌, ℕ, zero, suc, ◌+◌, ◌-◌, ◌*◌, ◌/◌, ◌%◌, ◌<◌, ◌≤◌, min, ◌&&◌, ltb, leb, List, [], ◌∷◌, ◌++◌, length, get_or, take, drop, Some, None, sym, refl, ap, ◌∙◌, subst, inl, inr, arith, length-append}
use Rattle.std.proofs.lemmas.Nat.{mod_below, mod-mul-add, div-add-mod'}
use Rattle.std.proofs.lemmas.List.{take-append-drop, length-take-le, get_or_append_left, get_or-append_right, get_or_past}
use Rattle.std.proofs.lemmas.Bool.{cases_Bool, cases_lt, cond-true, cond-false, lt-ltb, le-ltb, ltb-true, leb-true, and_parts}
use Rattle.rows.specs.declared.Shape.{Shape}
use Rattle.rows.specs.declared.Shape.TheVariants.{Leaf, Pair, Repeat}
use Rattle.rows.specs.declared.Row.{Row}
use Rattle.rows.specs.Filing.{row_of}
use Rattle.rows.specs.Strips.{times, strips_from, strip}
use Rattle.rows.proofs.StripFacts.{length_strips, strip_append, strip_added, written_strip, shape_strip, rows_split}
use Rattle.recompression.specs.Contents.{row_at}
use Rattle.recompression.specs.Codes.{code_in}
use Rattle.recompression.specs.Expansions.{part_length}
use Rattle.recompression.specs.Tables.{LengthsKept}

-- a number that is not known has the empty strip
pub strip_unknown : (rows : List Row) (n : ℕ) → length rows < n → strip rows n ≡ []
unfolding strip
strip_unknown rows n past = get_or_past ([] ∷ strips_from [] rows) n [] (let l = length_strips rows in omega arith)

-- a code of a list written so many times over
pub at_times : (m : ℕ) (xs : List ℕ) (place : ℕ) → 0 < length xs → place < length xs * m → get_or (times m xs) place 0 ≡ get_or xs (place % length xs) 0
at_times zero xs place some within = absurd (omega arith)
at_times (suc m) xs place some within =
    elim (cases_lt place (length xs)) [
      | inl front ↦
          let e : place ≡ 0 * length xs + place = omega arith in
          get_or_append_left xs (times m xs) 0 place front ∙ ap (λ k. get_or xs k 0) (sym (ap (λ k. k % length xs) e ∙ mod-mul-add 0 (length xs) place front))
      | inr back ↦
          get_or-append_right xs (times m xs) (length xs) place 0 refl back
          ∙ at_times m xs (place - length xs) some (omega arith)
          ∙ ap (λ k. get_or xs k 0) (one_less (length xs) place some back)
    ]
  where
    one_less : (q p : ℕ) → 0 < q → q ≤ p → (p - q) % q ≡ p % q
    one_less q p pos le =
        let r = mod_below (p - q) q pos in
        let parts = div-add-mod' (p - q) q in
        let e : p ≡ suc ((p - q) / q) * q + (p - q) % q = omega arith in
        sym (ap (λ k. k % q) e ∙ mod-mul-add (suc ((p - q) / q)) q ((p - q) % q) r)

pub length_times : (m : ℕ) (xs : List ℕ) → length (times m xs) ≡ length xs * m
length_times zero xs = omega arith
length_times (suc m) xs = length-append xs (times m xs) ∙ (let ih = length_times m xs in omega arith)

module _ (rows : List Row) (kept : LengthsKept rows) (n : ℕ) (some : 0 < n) (within : n ≤ length rows) where
  before : List Row
  before = take (n - 1) rows

  length_before : length before ≡ n - 1
  unfolding before
  length_before = length-take-le (n - 1) rows (omega arith)

  -- a row's strip is that of its shape, with the rows before it
  pub strip_shape : strip rows n ≡ shape_strip (take (n - 1) rows) (row_of rows n).shape
  unfolding before
  strip_shape =
      let row = row_of rows n in
      let split = rows_split rows n some within in
      let front = length_before in
      let number : length before + 1 ≡ n = omega arith in
      let short : length before + 1 ≤ length (before ++ (row ∷ [])) = simp length-append (omega arith) in
      ap (λ rs. strip rs n) split
      ∙ ap (strip ((before ++ (row ∷ [])) ++ drop n rows)) (sym number)
      ∙ strip_append (before ++ (row ∷ [])) (drop n rows) (length before + 1) short
      ∙ strip_added before row
      ∙ written_strip before row.shape

  -- a part below the row has its own strip there, and any other part the empty one
  pub part_below : (part : ℕ) → part < n → strip (take (n - 1) rows) part ≡ strip rows part
  unfolding before
  part_below part below =
      let front = length_before in
      sym (ap (λ rs. strip rs part) (sym (take-append-drop (n - 1) rows)) ∙ strip_append before (drop (n - 1) rows) part (omega arith))

  pub part_not_below : (part : ℕ) → n ≤ part → strip (take (n - 1) rows) part ≡ []
  unfolding before
  part_not_below part above = let front = length_before in strip_unknown before part (omega arith)

  pub part_kept : (part : ℕ) → part_length rows n part ≡ min 65535 (length (strip (take (n - 1) rows) part))
  part_kept part =
      elim (cases_lt part n) [
        | inl below ↦ cond-true (ltb part n) (row_of rows part).length 0 (lt-ltb part n below) ∙ kept part ∙ ap (λ xs. min 65535 (length xs)) (sym (part_below part below))
        | inr above ↦ cond-false (ltb part n) (row_of rows part).length 0 (le-ltb part n above) ∙ (let e = ap length (part_not_below part above) in omega arith)
      ]

  -- the code of a place that the row keeps
  in_row : (place code : ℕ) → place < (row_of rows n).length → get_or (strip rows n) place 0 ≡ code → Some code ≡ code_in rows n place
  in_row place code inside is = ap Some (sym is) ∙ sym (cond-true (ltb place (row_of rows n).length) (Some (get_or (strip rows n) place 0)) None (lt-ltb place (row_of rows n).length inside))

  in_part : (part place : ℕ) → part < n → place < part_length rows n part → code_in rows part place ≡ Some (get_or (strip (take (n - 1) rows) part) place 0)
  in_part part place below inside =
      let here : part_length rows n part ≡ (row_of rows part).length = cond-true (ltb part n) (row_of rows part).length 0 (lt-ltb part n below) in
      cond-true (ltb place (row_of rows part).length) (Some (get_or (strip rows part) place 0)) None (lt-ltb place (row_of rows part).length (omega arith))
      ∙ ap (λ xs. Some (get_or xs place 0)) (sym (part_below part below))

  -- a part with a length is below its row
  pub part_falls : (part : ℕ) → 0 < part_length rows n part → part < n
  part_falls part long =
      elim (cases_lt part n) [
        | inl below ↦ below
        | inr above ↦ let none : part_length rows n part ≡ 0 = cond-false (ltb part n) (row_of rows part).length 0 (le-ltb part n above) in absurd (omega arith)
      ]

  module _ (place : ℕ) (inside : place < (row_of rows n).length) where
    pub code_leaf : (code : ℕ) → (row_of rows n).shape ≡ Leaf code → Some code ≡ code_in rows n place
    code_leaf code is =
        let strip_is : strip rows n ≡ code ∷ [] = strip_shape ∙ ap (shape_strip (take (n - 1) rows)) is in
        let first : place ≡ 0 = omega (arith, kept n, ap length strip_is) in
        in_row place code inside (ap (λ xs. get_or xs place 0) strip_is ∙ ap (λ k. get_or (code ∷ []) k 0) first)

    module _ (left right : ℕ) (is : (row_of rows n).shape ≡ Pair left right) where
      l : List ℕ
      l = strip (take (n - 1) rows) left

      r : List ℕ
      r = strip (take (n - 1) rows) right

      pair_is : strip rows n ≡ l ++ r
      unfolding l r
      pair_is = strip_shape ∙ ap (shape_strip (take (n - 1) rows)) is

      pub code_left : place < part_length rows n left → code_in rows left place ≡ code_in rows n place
      unfolding l r
      code_left front =
          let falls = part_falls left (omega arith) in
          in_part left place falls front
          ∙ in_row place (get_or l place 0) inside (ap (λ xs. get_or xs place 0) pair_is ∙ get_or_append_left l r 0 place (omega (arith, part_kept left)))

      sizes : part_length rows n left ≤ place → (length l ≤ place) × (part_length rows n left ≡ length l) × (place - length l < part_length rows n right)
      unfolding l r
      sizes back =
          let a = part_kept left in
          let b = part_kept right in
          let whole = kept n in
          let sum = ap length pair_is ∙ length-append l r in
          (omega arith, omega arith, omega arith)

      pub code_right : part_length rows n left ≤ place → (right < n) × (code_in rows right (place - part_length rows n left) ≡ code_in rows n place)
      unfolding l r
      code_right back =
          let size = sizes back in
          let falls = part_falls right (omega (arith, size.2)) in
          let offset : place - part_length rows n left ≡ place - length l = omega (arith, size.1) in (
            falls,
            ap (code_in rows right) offset
                ∙ in_part right (place - length l) falls size.2
                ∙ in_row place (get_or r (place - length l) 0) inside (ap (λ xs. get_or xs place 0) pair_is ∙ get_or-append_right l r (length l) place 0 refl size.0),
          )

    module _ (part count : ℕ) (is : (row_of rows n).shape ≡ Repeat part count) where
      p : List ℕ
      p = strip (take (n - 1) rows) part

      repeat_is : strip rows n ≡ times count p
      unfolding p
      repeat_is = strip_shape ∙ ap (shape_strip (take (n - 1) rows)) is

      part_some : 0 < length p
      unfolding p
      part_some =
          let whole = kept n in
          let long : length (strip rows n) ≡ length p * count = ap length repeat_is ∙ length_times count p in
          elim (cases_lt 0 (length p)) [
            | inl some_codes ↦ some_codes
            | inr none ↦
                let z : length p ≡ 0 = omega arith in
                let zero_long : length p * count ≡ 0 = ap (λ k. k * count) z ∙ (let m : 0 * count ≡ 0 = omega arith in m) in
                absurd (omega arith)
          ]

      pub repeat_some : 0 < part_length rows n part
      unfolding p
      repeat_some = let some_codes = part_some in omega (arith, part_kept part)

      -- places below 65,535 fall alike in a part that is longer than the field can hold
      rest_is : place % part_length rows n part ≡ place % length p
      unfolding p
      rest_is =
          elim (cases_lt 65535 (length p)) [
            | inl long ↦
                let size : part_length rows n part ≡ 65535 = omega (arith, part_kept part) in
                let low : place < 65535 = omega (arith, kept n) in
                let e : place ≡ 0 * 65535 + place = omega arith in
                let f : place ≡ 0 * length p + place = omega arith in
                ap (λ k. place % k) size ∙ (ap (λ k. k % 65535) e ∙ mod-mul-add 0 65535 place low) ∙ sym (ap (λ k. k % length p) f ∙ mod-mul-add 0 (length p) place (omega arith))
            | inr short ↦ ap (λ k. place % k) (let size : part_length rows n part ≡ length p = omega (arith, part_kept part) in size)
          ]

      pub code_repeat : code_in rows part (place % part_length rows n part) ≡ code_in rows n place
      unfolding p
      code_repeat =
          let some_codes = repeat_some in
          let falls = part_falls part some_codes in
          let long : length (strip rows n) ≡ length p * count = ap length repeat_is ∙ length_times count p in
          in_part part (place % part_length rows n part) falls (mod_below place (part_length rows n part) some_codes)
          ∙ in_row place (get_or p (place % part_length rows n part) 0) inside
          (ap (λ xs. get_or xs place 0) repeat_is ∙ at_times count p place part_some (omega (arith, kept n)) ∙ ap (λ k. get_or p k 0) (sym rest_is))

-- the row of a known number
pub known_row : (rows : List Row) (n : ℕ) (row : Row) → Some row ≡ row_at rows n → (0 < n) × (n ≤ length rows) × (row ≡ row_of rows n)
known_row rows n row h =
    elim (cases_Bool (ltb 0 n && leb n (length rows))) [
      | inr unknown ↦ absurd (let e = h ∙ cond-false (ltb 0 n && leb n (length rows)) (Some (row_of rows n)) None unknown in let z : ◌≡◌ {A = ℕ} 0 1 = cc in omega arith)
      | inl known ↦
          let both = and_parts (ltb 0 n) (leb n (length rows)) known in
          (ltb-true 0 n both.0, leb-true n (length rows) both.1, (let e = h ∙ cond-true (ltb 0 n && leb n (length rows)) (Some (row_of rows n)) None known in let f : row ≡ row_of rows n = cc in f))
    ]

-- a row of that shape was read, and keeps the place
pub record Seen (rows : List Row) (n place : ℕ) (shape : Shape) : Type 0 where
  pub some : 0 < n
  pub within : n ≤ length rows
  pub inside : place < (row_of rows n).length
  pub is : (row_of rows n).shape ≡ shape

pub seen : (rows : List Row) (n place : ℕ) (row : Row) (shape : Shape) → Some row ≡ row_at rows n → place < row.length → row.shape ≡ shape → Seen rows n place shape
seen rows n place row shape h inside is =
    let known = known_row rows n row h in
    record { some = known.0; within = known.1; inside = subst (λ r. place < r.length) known.2 inside; is = ap (λ r. r.shape) (sym known.2) ∙ is }

-- the code of that place, by the shape
module _ {rows : List Row} {n place : ℕ} (kept : LengthsKept rows) where
  pub leaf_seen : {code : ℕ} → Seen rows n place (Leaf code) → Some code ≡ code_in rows n place
  leaf_seen {code} s = code_leaf rows kept n s.some s.within place s.inside code s.is

  pub left_seen : {left right : ℕ} → Seen rows n place (Pair left right) → place < part_length rows n left → code_in rows left place ≡ code_in rows n place
  left_seen {left} {right} s = code_left rows kept n s.some s.within place s.inside left right s.is

  pub right_seen : {left right : ℕ} → Seen rows n place (Pair left right) → part_length rows n left ≤ place → (right < n) × (code_in rows right (place - part_length rows n left) ≡ code_in rows n place)
  right_seen {left} {right} s = code_right rows kept n s.some s.within place s.inside left right s.is

  pub repeat_seen : {part times : ℕ} → Seen rows n place (Repeat part times)
      → (0 < part_length rows n part) × (part < n) × (code_in rows part (place % part_length rows n part) ≡ code_in rows n place)
  repeat_seen {part} {times} s =
      let some = repeat_some rows kept n s.some s.within place s.inside part times s.is in
      (some, part_falls rows kept n s.some s.within part some, code_repeat rows kept n s.some s.within place s.inside part times s.is)
