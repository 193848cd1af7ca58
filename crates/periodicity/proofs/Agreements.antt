-- How far lists agree: `common` is the greatest agreeing length, and how it goes through a window of a
-- list and through its reversal. Assumes nothing.
use Rattle.std.proofs.Common.{◌≡◌, ℕ, zero, suc, ◌+◌, ◌-◌, ◌<◌, ◌≤◌, min, max, true, false, cond, eqb, leb, ◌⊎◌, List, [], ◌∷◌, ◌++◌, reverse, length, get_or, take, drop, Some, None, sym, ap, ◌∙◌, ap₂, inl, inr, arith, length-drop, take-append-drop, length-take, length-take-le, get_or-drop, take_all, get_or-take, take-take, drop-drop, take_at, take-add, drop_at}
use lib.ListN.{length-reverse}
use Rattle.std.proofs.lemmas.List.{drop_all, drop-take, reverse-append, reverse-reverse, get_or-reverse}
use Rattle.std.proofs.lemmas.Bool.{eq-eqb, ne_eqb, eqb-true, leb-true, leb-false, le-leb, lt-leb, lt-ltb, le-ltb, and_from, and_left, and_right, and_parts, and_cases, cases_Bool, cases_lt, cond-true, cond-false}
use Rattle.std.proofs.lemmas.List.Sums.{common_prefix_len-le, common_prefix_len-drop_yes, common_prefix_len-drop_no}
use Rattle.std.specs.Option.{option_map}
use Rattle.periodicity.specs.Agreement.{common, Agree, Greatest, both_within, code_of, ahead_of, behind_of}

-- Of two lists that each have a first code: what `common` counts shows that these are the same.
heads_counted : (x y n k : ℕ) → k < cond (eqb x y) (1 + n) 0 → (x ≡ y) × (k < 1 + n)
heads_counted x y n k h = by (cases_Bool (eqb x y))
  where
    by : (eqb x y ≡ true) ⊎ (eqb x y ≡ false) → (x ≡ y) × (k < 1 + n)
    by (inl e) = (eqb-true x y e, omega (arith, cond-true (eqb x y) (1 + n) 0 e))
    by (inr e) = absurd (omega (arith, cond-false (eqb x y) (1 + n) 0 e))

-- The codes that `common` counts are the same in both lists, and no greater number of codes is.
common_each : (xs ys : List ℕ) (k : ℕ) → k < common xs ys → get_or xs k 0 ≡ get_or ys k 0
common_each [] ys k h = absurd (omega arith)
common_each (x ∷ xs) [] k h = absurd (omega arith)
common_each (x ∷ xs) (y ∷ ys) zero h = (heads_counted x y (common xs ys) zero h).0
common_each (x ∷ xs) (y ∷ ys) (suc k) h = common_each xs ys k (omega (arith, (heads_counted x y (common xs ys) (suc k) h).1))

common_most : (xs ys : List ℕ) (m : ℕ) → Agree xs ys m → m ≤ common xs ys
common_most [] ys m a = a.left_room
common_most (x ∷ xs) [] m a = a.right_room
common_most (x ∷ xs) (y ∷ ys) zero a = omega arith
common_most (x ∷ xs) (y ∷ ys) (suc m) a =
    let same : eqb x y ≡ true = eq-eqb x y (a.each 0 (omega arith)) in
    let rest : Agree xs ys m =
    record { left_room = omega (arith, a.left_room); right_room = omega (arith, a.right_room); each = λ k h. a.each (suc k) (omega arith) } in
    omega (arith, cond-true (eqb x y) (1 + common xs ys) 0 same, common_most xs ys m rest)

-- `common` is the greatest number of codes in which two lists agree
pub common_greatest : (xs ys : List ℕ) → Greatest xs ys (common xs ys)
common_greatest xs ys =
    let rooms = common_prefix_len-le eqb xs ys in
    record { agree = record { left_room = rooms.0; right_room = rooms.1; each = common_each xs ys }; most = common_most xs ys }

-- A loop that counts what agrees in two lists: n codes are counted, and the rest of t still lies ahead.
module _ (a b : List ℕ) (n t : ℕ) (counted : n + common (drop n a) (drop n b) ≡ t) where
  pub count_more : n < length a → n < length b → get_or a n 0 ≡ get_or b n 0 → (n + 1) + common (drop (n + 1) a) (drop (n + 1) b) ≡ t
  count_more h k e = omega (arith, common_prefix_len-drop_yes eqb a b n 0 0 h k (eq-eqb _ _ e))

  pub count_stops : n < length a → n < length b → (get_or a n 0 ≡ get_or b n 0 → ⊥) → n ≡ t
  count_stops h k e = omega (arith, common_prefix_len-drop_no eqb a b n 0 0 h k (ne_eqb _ _ e))

  pub count_ends : min (length a) (length b) ≤ n → n ≡ t
  count_ends h =
      let rooms = common_prefix_len-le eqb (drop n a) (drop n b) in
      omega (arith, rooms.0, rooms.1, length-drop n a, length-drop n b)

-- The same in one list, from two places on, which are read there.
module _ (xs : List ℕ) (i j n t : ℕ) (counted : n + common (drop n (drop i xs)) (drop n (drop j xs)) ≡ t) where
  pub count_ahead_more : n < length xs - max i j → get_or xs (i + n) 0 ≡ get_or xs (j + n) 0
      → (n + 1) + common (drop (n + 1) (drop i xs)) (drop (n + 1) (drop j xs)) ≡ t
  count_ahead_more h e =
      let left : n < length (drop i xs) = simp length-drop (omega arith) in
      let right : n < length (drop j xs) = simp length-drop (omega arith) in
      count_more (drop i xs) (drop j xs) n t counted left right (get_or-drop i xs n 0 ∙ e ∙ sym (get_or-drop j xs n 0))

  pub count_ahead_stops : n < length xs - max i j → (get_or xs (i + n) 0 ≡ get_or xs (j + n) 0 → ⊥) → n ≡ t
  count_ahead_stops h e =
      let left : n < length (drop i xs) = simp length-drop (omega arith) in
      let right : n < length (drop j xs) = simp length-drop (omega arith) in
      count_stops (drop i xs) (drop j xs) n t counted left right (λ f. e (sym (get_or-drop i xs n 0) ∙ f ∙ get_or-drop j xs n 0))

  pub count_ahead_ends : length xs - max i j ≤ n → n ≡ t
  count_ahead_ends h =
      let short : min (length (drop i xs)) (length (drop j xs)) ≤ n = simp length-drop (omega arith) in
      count_ends (drop i xs) (drop j xs) n t counted short

-- The same just before two places of one list, going back.
length_back : (xs : List ℕ) (i : ℕ) → i ≤ length xs → length (reverse (take i xs)) ≡ i
length_back xs i h = length-reverse (take i xs) ∙ length-take-le i xs h

get_or_back : (xs : List ℕ) (i n : ℕ) → i ≤ length xs → n < i → get_or (reverse (take i xs)) n 0 ≡ get_or xs (i - 1 - n) 0
get_or_back xs i n h k =
    let room : n < length (take i xs) = omega (arith, length-take-le i xs h) in
    get_or-reverse (take i xs) n 0 room
    ∙ ap (λ m. get_or (take i xs) (m - 1 - n) 0) (length-take-le i xs h)
    ∙ get_or-take i xs (i - 1 - n) 0 (omega arith)

module _ (xs : List ℕ) (i j n t : ℕ) (i_in : i ≤ length xs) (j_in : j ≤ length xs)
    (counted : n + common (drop n (reverse (take i xs))) (drop n (reverse (take j xs))) ≡ t) where
  pub count_behind_more : n < min i j → get_or xs (i - 1 - n) 0 ≡ get_or xs (j - 1 - n) 0
      → (n + 1) + common (drop (n + 1) (reverse (take i xs))) (drop (n + 1) (reverse (take j xs))) ≡ t
  count_behind_more h e =
      count_more (reverse (take i xs)) (reverse (take j xs)) n t counted
      (omega (arith, length_back xs i i_in)) (omega (arith, length_back xs j j_in))
      (get_or_back xs i n i_in (omega arith) ∙ e ∙ sym (get_or_back xs j n j_in (omega arith)))

  pub count_behind_stops : n < min i j → (get_or xs (i - 1 - n) 0 ≡ get_or xs (j - 1 - n) 0 → ⊥) → n ≡ t
  count_behind_stops h e =
      count_stops (reverse (take i xs)) (reverse (take j xs)) n t counted
      (omega (arith, length_back xs i i_in)) (omega (arith, length_back xs j j_in))
      (λ f. e (sym (get_or_back xs i n i_in (omega arith)) ∙ f ∙ get_or_back xs j n j_in (omega arith)))

  pub count_behind_ends : min i j ≤ n → n ≡ t
  count_behind_ends h =
      count_ends (reverse (take i xs)) (reverse (take j xs)) n t counted
      (omega (arith, length_back xs i i_in, length_back xs j j_in))

-- The code at a place, by cases.
pub code_within : (xs : List ℕ) (i : ℕ) → i < length xs → code_of xs i ≡ Some (get_or xs i 0)
code_within xs i h = cond-true _ _ _ (lt-ltb i (length xs) h)

pub code_past : (xs : List ℕ) (i : ℕ) → length xs ≤ i → code_of xs i ≡ None
code_past xs i h = cond-false _ _ _ (le-ltb i (length xs) h)

-- An answer about two places, n where both are within, by cases and back.
abbrev Above : List ℕ → ℕ → ℕ → Type 0
Above xs i j = (length xs < i) ⊎ (length xs < j)

module _ (xs : List ℕ) (i j n : ℕ) where
  answered : i ≤ length xs → j ≤ length xs → cond (both_within xs i j) (Some n) None ≡ Some n
  answered h k = cond-true _ _ _ (and_from _ _ (le-leb i (length xs) h) (le-leb j (length xs) k))

  unanswered : Above xs i j → cond (both_within xs i j) (Some n) None ≡ None
  unanswered (inl h) = cond-false _ _ _ (and_left _ _ (lt-leb i (length xs) h))
  unanswered (inr h) = cond-false _ _ _ (and_right _ _ (lt-leb j (length xs) h))

  from_present : (m : ℕ) → cond (both_within xs i j) (Some n) None ≡ Some m → (i ≤ length xs) × (j ≤ length xs) × (n ≡ m)
  from_present m e = by (cases_Bool (both_within xs i j))
    where
      by : (both_within xs i j ≡ true) ⊎ (both_within xs i j ≡ false) → (i ≤ length xs) × (j ≤ length xs) × (n ≡ m)
      by (inl t) =
          let both = and_parts (leb i (length xs)) (leb j (length xs)) t in
          let some = cond-true (both_within xs i j) (Some n) None t in
          let same : n ≡ m = cc in
          (leb-true i (length xs) both.0, leb-true j (length xs) both.1, same)
      by (inr t) =
          let none = cond-false (both_within xs i j) (Some n) None t in
          let clash : ◌≡◌ {A = ℕ} 0 1 = cc in
          absurd (omega arith)

  from_absent : cond (both_within xs i j) (Some n) None ≡ None → Above xs i j
  from_absent e = by (cases_Bool (both_within xs i j))
    where
      by : (both_within xs i j ≡ true) ⊎ (both_within xs i j ≡ false) → Above xs i j
      by (inl t) =
          let some = cond-true (both_within xs i j) (Some n) None t in
          let clash : ◌≡◌ {A = ℕ} 0 1 = cc in
          absurd (omega arith)
      by (inr t) =
          elim (and_cases (leb i (length xs)) (leb j (length xs)) t)
          [ inl f ↦ inl (leb-false i (length xs) f) | inr f ↦ inr (leb-false j (length xs) f) ]

-- The longest common extension ahead: present exactly when both places are within, and then the greatest.
module _ (xs : List ℕ) (i j : ℕ) where
  pub ahead_within : i ≤ length xs → j ≤ length xs → ahead_of xs i j ≡ Some (common (drop i xs) (drop j xs))
  ahead_within = answered xs i j (common (drop i xs) (drop j xs))

  pub ahead_above : (length xs < i) ⊎ (length xs < j) → ahead_of xs i j ≡ None
  ahead_above = unanswered xs i j (common (drop i xs) (drop j xs))

  pub ahead_present : (n : ℕ) → ahead_of xs i j ≡ Some n → (i ≤ length xs) × (j ≤ length xs) × Greatest (drop i xs) (drop j xs) n
  ahead_present n e =
      let found = from_present xs i j (common (drop i xs) (drop j xs)) n e in
      (found.0, found.1, rw (← found.2) (common_greatest (drop i xs) (drop j xs)))

  pub ahead_absent : ahead_of xs i j ≡ None → (length xs < i) ⊎ (length xs < j)
  ahead_absent = from_absent xs i j (common (drop i xs) (drop j xs))

  -- The same behind.
  pub behind_within : i ≤ length xs → j ≤ length xs → behind_of xs i j ≡ Some (common (reverse (take i xs)) (reverse (take j xs)))
  behind_within = answered xs i j (common (reverse (take i xs)) (reverse (take j xs)))

  pub behind_above : (length xs < i) ⊎ (length xs < j) → behind_of xs i j ≡ None
  behind_above = unanswered xs i j (common (reverse (take i xs)) (reverse (take j xs)))

  pub behind_present : (n : ℕ) → behind_of xs i j ≡ Some n → (i ≤ length xs) × (j ≤ length xs) × Greatest (reverse (take i xs)) (reverse (take j xs)) n
  behind_present n e =
      let found = from_present xs i j (common (reverse (take i xs)) (reverse (take j xs))) n e in
      (found.0, found.1, rw (← found.2) (common_greatest (reverse (take i xs)) (reverse (take j xs))))

  pub behind_absent : behind_of xs i j ≡ None → (length xs < i) ⊎ (length xs < j)
  behind_absent = from_absent xs i j (common (reverse (take i xs)) (reverse (take j xs)))

-- A number of codes past the end of a list is as good as its length.
pub take_min : {X : Type 0} (n : ℕ) (xs : List X) → take (min n (length xs)) xs ≡ take n xs
take_min n xs = by (cases_lt n (length xs))
  where
    by : (n < length xs) ⊎ (length xs ≤ n) → take (min n (length xs)) xs ≡ take n xs
    by (inl h) = ap (λ m. take m xs) (omega arith)
    by (inr h) = take_all (min n (length xs)) xs (omega arith) ∙ sym (take_all n xs h)

pub drop_min : {X : Type 0} (n : ℕ) (xs : List X) → drop (min n (length xs)) xs ≡ drop n xs
drop_min n xs = by (cases_lt n (length xs))
  where
    by : (n < length xs) ⊎ (length xs ≤ n) → drop (min n (length xs)) xs ≡ drop n xs
    by (inl h) = ap (λ m. drop m xs) (omega arith)
    by (inr h) = drop_all (min n (length xs)) xs (omega arith) ∙ sym (drop_all n xs h)

-- The first codes of two lists agree as far as the lists do, or as far as they go.
pub common_take : (m n : ℕ) (xs ys : List ℕ) → common (take m xs) (take n ys) ≡ min (common xs ys) (min m n)
common_take zero n xs ys = omega arith
common_take (suc m) zero [] ys = omega arith
common_take (suc m) zero (x ∷ xs) ys = omega arith
common_take (suc m) (suc n) [] ys = omega arith
common_take (suc m) (suc n) (x ∷ xs) [] = omega arith
common_take (suc m) (suc n) (x ∷ xs) (y ∷ ys) =
    elim (eqb x y) as (λ t. cond t (1 + common (take m xs) (take n ys)) 0 ≡ min (cond t (1 + common xs ys) 0) (min (suc m) (suc n)))
    [ true ↦ omega (arith, common_take m n xs ys) | false ↦ omega arith ]

-- A window of a list, any start and length.
pub length_window : (l s : ℕ) (xs : List ℕ) → length (take l (drop s xs)) ≡ min l (length xs - s)
length_window l s xs = simp (length-take, length-drop)

-- It starts at the smaller of its start and the length of the list, and is trimmed to what remains.
window_trimmed : (l s : ℕ) (xs : List ℕ) → take (length (take l (drop s xs))) (drop (min s (length xs)) xs) ≡ take l (drop s xs)
window_trimmed l s xs =
    ap (take (length (take l (drop s xs)))) (drop_min s xs)
    ∙ ap (λ n. take n (drop s xs)) (length-take l (drop s xs))
    ∙ take_min l (drop s xs)

-- What lies in a window from one of its places on, and before one of its places, going back.
drop_window : (i l s : ℕ) (xs : List ℕ) → i ≤ l → drop i (take l (drop s xs)) ≡ take (l - i) (drop (s + i) xs)
drop_window i l s xs h =
    let parts : l ≡ i + (l - i) = omega arith in
    ap (λ n. drop i (take n (drop s xs))) parts ∙ drop-take i (l - i) (drop s xs) ∙ ap (take (l - i)) (drop-drop i s xs)

back_window : (i l s : ℕ) (xs : List ℕ) → i ≤ l → s + i ≤ length xs → reverse (take i (take l (drop s xs))) ≡ take i (reverse (take (s + i) xs))
back_window i l s xs h k =
    let full : length (reverse (take i (drop s xs))) ≡ i = simp (length-reverse, length-take, length-drop) (omega arith) in
    ap reverse (take-take i l (drop s xs) h)
    ∙ sym (ap (λ ys. take i (reverse ys)) (take-add s i xs)
    ∙ ap (take i) (reverse-append (take s xs) (take i (drop s xs)))
    ∙ take_at (reverse (take i (drop s xs))) (reverse (take s xs)) i full)

-- The answers of a window that lies in the list, from those of the list: a common length is cut at the
-- window's ends.
module _ (xs : List ℕ) (s l : ℕ) (inside : s + l ≤ length xs) where
  window_length : length (take l (drop s xs)) ≡ l
  window_length = simp (length-take, length-drop) (omega arith)

  code_inside : (i : ℕ) → i < l → code_of xs (s + i) ≡ code_of (take l (drop s xs)) i
  code_inside i h =
      let room : i < length (take l (drop s xs)) = omega (arith, window_length) in
      code_within xs (s + i) (omega arith)
      ∙ ap Some (sym (get_or-take l (drop s xs) i 0 h ∙ get_or-drop s xs i 0))
      ∙ sym (code_within (take l (drop s xs)) i room)

  module _ (i j : ℕ) (i_in : i ≤ l) (j_in : j ≤ l) where
    ahead_inside : option_map (λ n. min n (l - max i j)) (ahead_of xs (s + i) (s + j)) ≡ ahead_of (take l (drop s xs)) i j
    ahead_inside =
        let whole = common (drop (s + i) xs) (drop (s + j) xs) in
        let cut : min whole (l - max i j) ≡ min whole (min (l - i) (l - j)) = omega arith in
        ap (option_map (λ n. min n (l - max i j))) (ahead_within xs (s + i) (s + j) (omega arith) (omega arith))
        ∙ ap Some (cut ∙ sym (common_take (l - i) (l - j) (drop (s + i) xs) (drop (s + j) xs)))
        ∙ ap Some (sym (rw (drop_window i l s xs i_in, drop_window j l s xs j_in)))
        ∙ sym (ahead_within (take l (drop s xs)) i j (omega (arith, window_length)) (omega (arith, window_length)))

    behind_inside : option_map (λ n. min n (min i j)) (behind_of xs (s + i) (s + j)) ≡ behind_of (take l (drop s xs)) i j
    behind_inside =
        let i_room : s + i ≤ length xs = omega arith in
        let j_room : s + j ≤ length xs = omega arith in
        ap (option_map (λ n. min n (min i j))) (behind_within xs (s + i) (s + j) i_room j_room)
        ∙ ap Some (sym (common_take i j (reverse (take (s + i) xs)) (reverse (take (s + j) xs))))
        ∙ ap Some (sym (rw (back_window i l s xs i_in i_room, back_window j l s xs j_in j_room)))
        ∙ sym (behind_within (take l (drop s xs)) i j (omega (arith, window_length)) (omega (arith, window_length)))

-- The answers of any window of a list, which has len codes and starts at first, from those of the list.
module _ (xs : List ℕ) (l s first len : ℕ) (starts : first ≡ min s (length xs)) (long : len ≡ length (take l (drop s xs))) where
  pub window_inside : first + len ≤ length xs
  window_inside = omega (arith, length_window l s xs)

  window_same : take len (drop first xs) ≡ take l (drop s xs)
  window_same = ap₂ (λ n m. take n (drop m xs)) long starts ∙ window_trimmed l s xs

  pub code_window : (i : ℕ) → i < len → code_of xs (first + i) ≡ code_of (take l (drop s xs)) i
  code_window i i_in = code_inside xs first len window_inside i i_in ∙ ap (λ ys. code_of ys i) window_same

  module _ (i j : ℕ) (i_in : i ≤ len) (j_in : j ≤ len) where
    pub ahead_window : option_map (λ n. min n (len - max i j)) (ahead_of xs (first + i) (first + j)) ≡ ahead_of (take l (drop s xs)) i j
    ahead_window = ahead_inside xs first len window_inside i j i_in j_in ∙ ap (λ ys. ahead_of ys i j) window_same

    pub behind_window : option_map (λ n. min n (min i j)) (behind_of xs (first + i) (first + j)) ≡ behind_of (take l (drop s xs)) i j
    behind_window = behind_inside xs first len window_inside i j i_in j_in ∙ ap (λ ys. behind_of ys i j) window_same

-- A list backwards.
reverse_parts : (n : ℕ) (xs : List ℕ) → reverse xs ≡ reverse (drop n xs) ++ reverse (take n xs)
reverse_parts n xs = ap reverse (sym (take-append-drop n xs)) ∙ reverse-append (take n xs) (drop n xs)

pub drop_reverse : (i : ℕ) (xs : List ℕ) → i ≤ length xs → drop i (reverse xs) ≡ reverse (take (length xs - i) xs)
drop_reverse i xs h =
    let front : length (reverse (drop (length xs - i) xs)) ≡ i = simp (length-reverse, length-drop) (omega arith) in
    ap (drop i) (reverse_parts (length xs - i) xs) ∙ drop_at (reverse (drop (length xs - i) xs)) (reverse (take (length xs - i) xs)) i front

-- Its answers, from those of the list, which has n codes: what is ahead in one is behind in the other.
module _ (xs : List ℕ) (n : ℕ) (long : n ≡ length xs) where
  pub code_reverse : (i : ℕ) → i < n → code_of xs (n - 1 - i) ≡ code_of (reverse xs) i
  code_reverse i h =
      let room : i < length (reverse xs) = simp length-reverse (omega arith) in
      code_within xs (n - 1 - i) (omega arith)
      ∙ ap (λ k. Some (get_or xs (k - 1 - i) 0)) long
      ∙ ap Some (sym (get_or-reverse xs i 0 (omega arith)))
      ∙ sym (code_within (reverse xs) i room)

  pub ahead_reverse : (i j : ℕ) → i ≤ n → j ≤ n → behind_of xs (n - i) (n - j) ≡ ahead_of (reverse xs) i j
  ahead_reverse i j h k =
      let i_room : i ≤ length xs = omega arith in
      let j_room : j ≤ length xs = omega arith in
      let i_back : i ≤ length (reverse xs) = simp length-reverse i_room in
      let j_back : j ≤ length (reverse xs) = simp length-reverse j_room in
      ap (λ m. behind_of xs (m - i) (m - j)) long
      ∙ behind_within xs (length xs - i) (length xs - j) (omega arith) (omega arith)
      ∙ sym (ahead_within (reverse xs) i j i_back j_back ∙ rw (drop_reverse i xs i_room, drop_reverse j xs j_room))

pub behind_reverse : (xs : List ℕ) (n : ℕ) → n ≡ length xs → (i j : ℕ) → i ≤ n → j ≤ n → ahead_of xs (n - i) (n - j) ≡ behind_of (reverse xs) i j
behind_reverse xs n long i j h k =
    let back_long : n ≡ length (reverse xs) = long ∙ sym (length-reverse xs) in
    let i_twice : n - (n - i) ≡ i = omega arith in
    let j_twice : n - (n - j) ≡ j = omega arith in
    ap (λ ys. ahead_of ys (n - i) (n - j)) (sym (reverse-reverse xs))
    ∙ sym (ahead_reverse (reverse xs) n back_long (n - i) (n - j) (omega arith) (omega arith))
    ∙ rw (i_twice, j_twice)
