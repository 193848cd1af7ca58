-- The periods of a list by ranges of their borders: each range is a progression, and all of them joined
-- are all periods. Assumes nothing.
use Rattle.std.proofs.Common.{◌≡◌, ℕ, zero, suc, ◌+◌, ◌-◌, ◌*◌, ◌^◌, ◌<◌, ◌≤◌, Bool, true, false, cond, ◌&&◌, ltb, leb, ◌↔◌, List, [], ◌∷◌, ◌++◌, length, take, drop, replicate, Some, None, filter, Option, sym, refl, ap, ◌∙◌, subst, inl, inr, arith, length-append, length-drop, length-take, get_or-drop, get_or-take}
use lib.ListN.{length-replicate}
use Rattle.std.specs.List.{range_with_len, flat_map, ContainsAt}
use Rattle.std.specs.List.Sorted.{IsStrictlyIncreasing}
use Rattle.std.specs.Option.{option_to_list, option_map}
use Rattle.std.proofs.lemmas.Nat.{pow-add, pow_pos}
use Rattle.std.proofs.lemmas.List.Elements.{filter-append, All-replicate}
use Rattle.std.proofs.lemmas.List.Kept.{IsStrictlyIncreasing-filter}
use Rattle.std.proofs.lemmas.List.{append-nil, append_assoc}
use Rattle.std.proofs.lemmas.Bool.{both_ways, cases_Bool, and_parts, and_from, and_left, and_right, le-leb, lt-leb, lt-ltb, le-ltb, leb-true, ltb-true}
use Rattle.periodicity.specs.declared.Progression.{Progression}
use Rattle.periodicity.specs.Overlaps.{is_overlap}
use Rattle.periodicity.specs.Periods.{Period, has_period, periods_of, border_in, periods_in, records_below, records_of, written_records, PeriodInRange, RangeByRange, PeriodsNamed}
use Rattle.periodicity.specs.Progressions.{triple, named, named_by, progression_of, mirrored, Names}
use Rattle.periodicity.specs.Ranges.{Stepwise, Tells}
use Rattle.periodicity.proofs.Ranges.{kept_none, progression_of_tells, names_tells, pass_from_has, has_from_pass, passes_ascend}
use Rattle.periodicity.proofs.OverlapsTold.{overlaps_tell}
use Rattle.periodicity.proofs.Sameness.{at, room_from_overlap, fit_from_overlap, overlap_from_fit, period_from_test, test_from_period}

-- filters of lists and of ranges
pub kept_by_twice : (f g : ℕ → Bool) (xs : List ℕ) → filter f (filter g xs) ≡ filter (λ x. g x && f x) xs
kept_by_twice f g [] = refl
kept_by_twice f g (x ∷ xs) =
    elim (g x) as (λ b. filter f (cond b (x ∷ filter g xs) (filter g xs)) ≡ cond (b && f x) (x ∷ filter (λ z. g z && f z) xs) (filter (λ z. g z && f z) xs))
    [ true ↦ ap (λ ys. cond (f x) (x ∷ ys) ys) (kept_by_twice f g xs) | false ↦ kept_by_twice f g xs ]

pub counting_append : (a m k : ℕ) → range_with_len a (m + k) ≡ range_with_len a m ++ range_with_len (a + m) k
counting_append a zero k =
    let e : zero + k ≡ k = omega arith in
    let s : a ≡ a + zero = omega arith in
    ap (range_with_len a) e ∙ ap (λ b. range_with_len b k) s
counting_append a (suc m) k =
    let e : suc m + k ≡ suc (m + k) = omega arith in
    let s : a + 1 + m ≡ a + suc m = omega arith in
    ap (range_with_len a) e ∙ ap (λ ys. a ∷ ys) (counting_append (a + 1) m k ∙ ap (λ b. range_with_len (a + 1) m ++ range_with_len b k) s)

pub kept_alike : (f g : ℕ → Bool) (a c : ℕ) → ((i : ℕ) → a ≤ i → i < a + c → f i ≡ g i) → filter f (range_with_len a c) ≡ filter g (range_with_len a c)
kept_alike f g a zero alike = refl
kept_alike f g a (suc c) alike =
    ap (λ b. cond b (a ∷ filter f (range_with_len (a + 1) c)) (filter f (range_with_len (a + 1) c))) (alike a (omega arith) (omega arith))
    ∙ ap (λ ys. cond (g a) (a ∷ ys) ys) (kept_alike f g (a + 1) c (λ i lo hi. alike i (omega arith) (omega arith)))

joined_append : (f : Progression → List ℕ) (ps qs : List Progression) → flat_map f (ps ++ qs) ≡ flat_map f ps ++ flat_map f qs
joined_append f [] qs = refl
joined_append f (p ∷ ps) qs = ap (λ ys. f p ++ ys) (joined_append f ps qs) ∙ sym (append_assoc (f p) (flat_map f ps) (flat_map f qs))

joined_answer : (o : Option Progression) → flat_map named_by (option_to_list o) ≡ named o
joined_answer None = refl
joined_answer (Some p) = append-nil (named_by p)

-- a border shorter than the list is an overlap of the list without its last code and without its first
module _ (xs : List ℕ) (some : 1 ≤ length xs) where
  n : ℕ
  n = length xs

  front : List ℕ
  front = take (length xs - 1) xs

  back : List ℕ
  back = drop 1 xs

  length_front : length front ≡ n - 1
  unfolding front n
  length_front = simp length-take (omega arith)

  length_back : length back ≡ n - 1
  unfolding back n
  length_back = simp length-drop

  pub period_from_overlap : (l : ℕ) → is_overlap (take (length xs - 1) xs) (drop 1 xs) l ≡ true → (l + 1 ≤ length xs) × (has_period xs (length xs - l) ≡ true)
  unfolding n front back
  period_from_overlap l t =
      let rooms = room_from_overlap front back l t in
      let long = length_back in
      let fit = fit_from_overlap front back l t in
      let short : l + 1 ≤ n = omega arith in (
        short,
        test_from_period xs (n - l) (λ i h.
            let below : i < l = omega arith in
            let inner : i < n - 1 = omega arith in
            let place : 1 + (length back - l + i) ≡ i + (n - l) = omega arith in
            sym (get_or-take (n - 1) xs i 0 inner) ∙ sym (fit i below) ∙ get_or-drop 1 xs (length back - l + i) 0 ∙ ap (at xs) place),
      )

  pub overlap_from_period : (l : ℕ) → l + 1 ≤ length xs → has_period xs (length xs - l) ≡ true → is_overlap (take (length xs - 1) xs) (drop 1 xs) l ≡ true
  unfolding n front back
  overlap_from_period l short t =
      let period = period_from_test xs (n - l) t in
      let long = length_back in
      let wide = length_front in
      overlap_from_fit front back l (omega arith) (omega arith) (λ k h.
      let inner : k < n - 1 = omega arith in
      let place : 1 + (length back - l + k) ≡ k + (n - l) = omega arith in
      get_or-drop 1 xs (length back - l + k) 0 ∙ ap (at xs) place ∙ sym (period k (omega arith)) ∙ sym (get_or-take (n - 1) xs k 0 inner))

  module _ (t : ℕ) where
    -- the range as a test on borders
    pub in_range_from : (border : ℕ) → border_in t border ≡ true → (2 ^ t ≤ border) × (border < 2 ^ t + 2 ^ t)
    in_range_from border b =
        let parts = and_parts (leb (2 ^ t) border) (ltb border (2 ^ (t + 1))) b in
        let twice = pow-add 2 t 1 in
        let lo = leb-true (2 ^ t) border parts.0 in
        let hi = ltb-true border (2 ^ (t + 1)) parts.1 in
        (lo, omega arith)

    pub from_in_range : (border : ℕ) → 2 ^ t ≤ border → border < 2 ^ t + 2 ^ t → border_in t border ≡ true
    from_in_range border lo hi =
        let twice = pow-add 2 t 1 in
        and_from (leb (2 ^ t) border) (ltb border (2 ^ (t + 1))) (le-leb (2 ^ t) border lo) (lt-ltb border (2 ^ (t + 1)) (omega arith))

    below_range : (border : ℕ) → border < 2 ^ t → border_in t border ≡ false
    below_range border h = and_left (leb (2 ^ t) border) (ltb border (2 ^ (t + 1))) (lt-leb (2 ^ t) border h)

    above_range : (border : ℕ) → 2 ^ (t + 1) ≤ border → border_in t border ≡ false
    above_range border h = and_right (leb (2 ^ t) border) (ltb border (2 ^ (t + 1))) (le-ltb border (2 ^ (t + 1)) h)

    in_this : ℕ → Bool
    in_this p = has_period xs p && border_in t (length xs - p)

    -- an answer about the borders of the range, mirrored, is the answer about its periods
    mirror : (answer : Option Progression) → Tells (is_overlap front back) (2 ^ t) (2 ^ t + 2 ^ t) answer → Tells in_this 1 (1 + n) (option_map (mirrored n) answer)
    unfolding n front back in_this
    mirror None none = λ p lo hi.
        elim (cases_Bool (border_in t (n - p))) [
          | inr off ↦ and_right (has_period xs p) (border_in t (n - p)) off
          | inl on ↦
              let range = in_range_from (n - p) on in
              elim (cases_Bool (has_period xs p)) [
                | inr off ↦ and_left (has_period xs p) (border_in t (n - p)) off
                | inl is ↦
                    let small = pow_pos t in
                    let same_p : n - (n - p) ≡ p = omega arith in
                    absurd (both_ways (is_overlap front back (n - p)) (none (n - p) range.0 range.1)
                    (overlap_from_period (n - p) (omega arith) (subst (λ k. has_period xs k ≡ true) (sym same_p) is)))
              ]
        ]
    mirror (Some a) told_so = (record { some = told_so.0.some; alone = told_so.0.alone; still = told_so.0.still }, steps a.first a.step a.count told_so.0.some told_so.1)
      where
        other_end : (x q c j : ℕ) → j < c → x + (c - 1) * q ≡ (x + (c - 1 - j) * q) + j * q
        other_end x q c j h =
            let split : c - 1 ≡ (c - 1 - j) + j = omega arith in
            let times : (c - 1) * q ≡ ((c - 1 - j) + j) * q = ap (λ k. k * q) split in
            omega arith

        steps : (x q c : ℕ) → 1 ≤ c → Stepwise (is_overlap front back) (2 ^ t) (2 ^ t + 2 ^ t) x q c → Stepwise in_this 1 (1 + n) (n - (x + (c - 1) * q)) q c
        steps x q c has s =
            record {
              moves = s.moves;
              passes = λ j h. pass j h;
              within = λ j h. room j h;
              only = λ p lo hi is. found p lo hi (and_parts (has_period xs p) (border_in t (n - p)) is);
            }
          where
            period_at : (j : ℕ) → j < c → (n - (x + (c - 1) * q)) + j * q ≡ n - (x + (c - 1 - j) * q)
            period_at j h =
                let whole = other_end x q c j h in
                let last = period_from_overlap (x + (c - 1) * q) (s.passes (c - 1) (omega arith)) in
                omega (arith, last.0)

            pass : (j : ℕ) → j < c → in_this ((n - (x + (c - 1) * q)) + j * q) ≡ true
            pass j h =
                let l = x + (c - 1 - j) * q in
                let w = s.within (c - 1 - j) (omega arith) in
                let is = period_from_overlap l (s.passes (c - 1 - j) (omega arith)) in
                let border : n - (n - l) ≡ l = omega (arith, is.0) in
                subst (λ p. in_this p ≡ true) (sym (period_at j h))
                (and_from (has_period xs (n - l)) (border_in t (n - (n - l))) is.1 (subst (λ k. border_in t k ≡ true) (sym border) (from_in_range l w.0 w.1)))

            room : (j : ℕ) → j < c → (1 ≤ (n - (x + (c - 1) * q)) + j * q) × ((n - (x + (c - 1) * q)) + j * q < 1 + n)
            room j h =
                let is = period_from_overlap (x + (c - 1 - j) * q) (s.passes (c - 1 - j) (omega arith)) in
                let at_j = period_at j h in
                (omega (arith, is.0), omega (arith, is.0))

            found : (p : ℕ) → 1 ≤ p → p < 1 + n → (has_period xs p ≡ true) × (border_in t (n - p) ≡ true) → (j : ℕ) × (j < c) × (p ≡ (n - (x + (c - 1) * q)) + j * q)
            found p lo hi both =
                let range = in_range_from (n - p) both.1 in
                let small = pow_pos t in
                let same_p : n - (n - p) ≡ p = omega arith in
                let o = overlap_from_period (n - p) (omega arith) (subst (λ k. has_period xs k ≡ true) (sym same_p) both.0) in
                let j = s.only (n - p) range.0 range.1 o in
                let at_j = period_at (c - 1 - j.0) (omega (arith, j.1)) in
                let back_j : c - 1 - (c - 1 - j.0) ≡ j.0 = omega (arith, j.1) in
                let times : (c - 1 - (c - 1 - j.0)) * q ≡ j.0 * q = ap (λ k. k * q) back_j in
                (c - 1 - j.0, omega (arith, j.1), omega (arith, j.2))

    -- what the record of the range is, from the answer about its borders
    pub told_from_borders : (answer : Option Progression) → Tells (is_overlap (take (length xs - 1) xs) (drop 1 xs)) (2 ^ t) (2 ^ t + 2 ^ t) answer
        → (progression_of (periods_in xs t) ≡ option_map (mirrored (length xs)) answer) × Names (option_map (mirrored (length xs)) answer) (periods_in xs t)
    unfolding n front back in_this
    told_from_borders answer tells =
        let joint : periods_in xs t ≡ filter in_this (range_with_len 1 n) = kept_by_twice (λ p. border_in t (n - p)) (has_period xs) (range_with_len 1 n) in
        let m = mirror answer tells in (
          ap progression_of joint ∙ progression_of_tells in_this 1 n (option_map (mirrored n) answer) m,
          subst (λ ys. Names (option_map (mirrored n) answer) ys) (sym joint) (names_tells in_this 1 n (option_map (mirrored n) answer) m),
        )

    -- the periods of the range are those in one stretch of numbers
    stretch : periods_in xs t ≡ filter (has_period xs) (range_with_len (n - 2 ^ (t + 1) + 1) ((n - 2 ^ t) - (n - 2 ^ (t + 1))))
    unfolding n in_this
    stretch =
        let twice = pow-add 2 t 1 in
        let small = pow_pos t in
        let lo = n - 2 ^ (t + 1) in
        let mid = (n - 2 ^ t) - (n - 2 ^ (t + 1)) in
        let hi = n - (n - 2 ^ t) in
        let sum : n ≡ lo + (mid + hi) = omega arith in
        let start : 1 + lo ≡ lo + 1 = omega arith in
        let cut : range_with_len 1 n ≡ range_with_len 1 lo ++ (range_with_len (lo + 1) mid ++ range_with_len (lo + 1 + mid) hi) =
        ap (range_with_len 1) sum ∙ counting_append 1 lo (mid + hi) ∙ ap (λ b. range_with_len 1 lo ++ range_with_len b (mid + hi)) start
        ∙ ap (λ ys. range_with_len 1 lo ++ ys) (counting_append (lo + 1) mid hi) in
        let none_low : filter in_this (range_with_len 1 lo) ≡ [] =
        kept_none in_this 1 lo (λ p a b. and_right (has_period xs p) (border_in t (n - p)) (above_range (n - p) (omega arith))) in
        let none_high : filter in_this (range_with_len (lo + 1 + mid) hi) ≡ [] =
        kept_none in_this (lo + 1 + mid) hi (λ p a b. and_right (has_period xs p) (border_in t (n - p)) (below_range (n - p) (omega arith))) in
        let inner : filter in_this (range_with_len (lo + 1) mid) ≡ filter (has_period xs) (range_with_len (lo + 1) mid) =
        kept_alike in_this (has_period xs) (lo + 1) mid (λ p a b. and_true (has_period xs p) (border_in t (n - p)) (from_in_range (n - p) (omega arith) (omega arith))) in
        kept_by_twice (λ p. border_in t (n - p)) (has_period xs) (range_with_len 1 n)
        ∙ ap (filter in_this) cut
        ∙ filter-append in_this (range_with_len 1 lo) (range_with_len (lo + 1) mid ++ range_with_len (lo + 1 + mid) hi)
        ∙ ap (λ ys. ys ++ filter in_this (range_with_len (lo + 1) mid ++ range_with_len (lo + 1 + mid) hi)) none_low
        ∙ filter-append in_this (range_with_len (lo + 1) mid) (range_with_len (lo + 1 + mid) hi)
        ∙ ap (λ ys. filter in_this (range_with_len (lo + 1) mid) ++ ys) none_high
        ∙ append-nil (filter in_this (range_with_len (lo + 1) mid))
        ∙ inner
      where
        and_true : (u v : Bool) → v ≡ true → (u && v) ≡ u
        and_true true v e = e
        and_true false v e = refl

  -- each range is told by its record
  pub range_named : (t : ℕ) → Names (progression_of (periods_in xs t)) (periods_in xs t)
  range_named t =
      let borders = overlaps_tell (take (length xs - 1) xs) (drop 1 xs) (2 ^ t) in
      let both = told_from_borders t borders.0 borders.1 in
      subst (λ o. Names o (periods_in xs t)) (sym both.0) both.1

  -- the records of the ranges below t name the periods whose borders are below 2^t
  records_join : (t : ℕ) → flat_map named_by (records_below xs t) ≡ filter (has_period xs) (range_with_len (n - 2 ^ t + 1) (n - (n - 2 ^ t)))
  unfolding n records_below
  records_join zero =
      let start : n ≡ n - 2 ^ 0 + 1 = omega arith in
      let size : 1 ≡ n - (n - 2 ^ 0) = omega arith in
      let whole = test_from_period xs n (λ i h. absurd (omega arith)) in
      sym (ap (λ c. filter (has_period xs) (range_with_len (n - 2 ^ 0 + 1) c)) (sym size) ∙ ap (λ a. filter (has_period xs) (range_with_len a 1)) (sym start)
      ∙ ap (λ b. cond b (n ∷ []) []) whole)
  records_join (suc t) =
      let here : flat_map named_by (option_to_list (progression_of (periods_in xs t))) ≡ periods_in xs t = joined_answer (progression_of (periods_in xs t)) ∙ (range_named t).all in
      let twice = pow-add 2 t 1 in
      let power : 2 ^ suc t ≡ 2 ^ (t + 1) = omega arith in
      let lo = n - 2 ^ (t + 1) in
      let mid = (n - 2 ^ t) - lo in
      let sum : mid + (n - (n - 2 ^ t)) ≡ n - lo = omega arith in
      let next : lo + 1 + mid ≡ n - 2 ^ t + 1 = omega arith in
      joined_append named_by (option_to_list (progression_of (periods_in xs t))) (records_below xs t)
      ∙ ap (λ ys. ys ++ flat_map named_by (records_below xs t)) (here ∙ stretch t)
      ∙ ap (λ ys. filter (has_period xs) (range_with_len (lo + 1) mid) ++ ys) (records_join t ∙ ap (λ a. filter (has_period xs) (range_with_len a (n - (n - 2 ^ t)))) (sym next))
      ∙ sym (filter-append (has_period xs) (range_with_len (lo + 1) mid) (range_with_len (lo + 1 + mid) (n - (n - 2 ^ t))))
      ∙ ap (filter (has_period xs)) (sym (counting_append (lo + 1) mid (n - (n - 2 ^ t))))
      ∙ ap (λ c. filter (has_period xs) (range_with_len (lo + 1) c)) sum
      ∙ ap (λ k. filter (has_period xs) (range_with_len (n - k + 1) (n - (n - k)))) (sym power)

  -- all records together name all periods, each once
  pub records_name_all : length xs ≤ 65535 → flat_map named_by (records_of xs) ≡ periods_of xs
  unfolding n
  records_name_all short =
      let start : n - 2 ^ 16 + 1 ≡ 1 = omega arith in
      let size : n - (n - 2 ^ 16) ≡ n = omega arith in
      records_join 16 ∙ ap (λ a. filter (has_period xs) (range_with_len a (n - (n - 2 ^ 16)))) start ∙ ap (λ c. filter (has_period xs) (range_with_len 1 c)) size

-- how many records there are
pub records_few : (xs : List ℕ) (t : ℕ) → length (records_below xs t) ≤ t + 1
unfolding records_below
records_few xs zero = omega arith
records_few xs (suc t) =
    let few = records_few xs t in
    let one : length (option_to_list (progression_of (periods_in xs t))) ≤ 1 = at_most_one (progression_of (periods_in xs t)) in
    simp length-append (omega arith)
  where
    at_most_one : (o : Option Progression) → length (option_to_list o) ≤ 1
    at_most_one None = omega arith
    at_most_one (Some p) = omega arith

-- records of three zeros name nothing
pub zeros_name_none : (k : ℕ) → flat_map named_by (replicate k (triple 0 0 0)) ≡ []
zeros_name_none zero = refl
zeros_name_none (suc k) = zeros_name_none k

-- records filled up to 17 by zeros
padded : (records : List Progression) → length records ≤ 17
    → (length (records ++ replicate (17 - length records) (triple 0 0 0)) ≡ 17)
    × (flat_map named_by (records ++ replicate (17 - length records) (triple 0 0 0)) ≡ flat_map named_by records)
padded records few =
    let rest = 17 - length records in (
      simp (length-append, length-replicate) (omega arith),
      joined_append named_by records (replicate rest (triple 0 0 0)) ∙ ap (λ ys. flat_map named_by records ++ ys) (zeros_name_none rest) ∙ append-nil (flat_map named_by records),
    )

-- the 17 records that are written name all periods, each once
pub written_name_all : (xs : List ℕ) → 1 ≤ length xs → length xs ≤ 65535 → (length (written_records xs) ≡ 17) × (flat_map named_by (written_records xs) ≡ periods_of xs)
unfolding written_records
written_name_all xs some short =
    let both = padded (records_of xs) (records_few xs 16) in
    (both.0, both.1 ∙ records_name_all xs some short)

-- a number is among the periods exactly when it is a distance at which the list agrees with itself
pub period_among : (xs : List ℕ) (p : ℕ) → ContainsAt (periods_of xs) p ↔ ((1 ≤ p) × (p ≤ length xs) × Period xs p)
period_among xs p = (
  λ has.
      let kept = pass_from_has (has_period xs) 1 (length xs) p has in
      (kept.0, omega (arith, kept.1), period_from_test xs p kept.2),
  λ period. has_from_pass (has_period xs) 1 (length xs) p period.0 (omega (arith, period.1)) (test_from_period xs p period.2),
)

-- the records of a list, range by range
module _ (xs : List ℕ) (some : 1 ≤ length xs) where
  -- a number is among the periods of a range exactly when it is one whose border lies there
  range_among : (t p : ℕ) → ContainsAt (periods_in xs t) p ↔ PeriodInRange xs t p
  range_among t p =
      let joint = kept_by_twice (λ q. border_in t (length xs - q)) (has_period xs) (range_with_len 1 (length xs)) in
      let test : ℕ → Bool = λ q. has_period xs q && border_in t (length xs - q) in (
        λ has.
            let kept = pass_from_has test 1 (length xs) p (subst (λ ys. ContainsAt ys p) joint has) in
            let parts = and_parts (has_period xs p) (border_in t (length xs - p)) kept.2 in
            let range = and_parts (leb (2 ^ t) (length xs - p)) (ltb (length xs - p) (2 ^ (t + 1))) parts.1 in
            record {
              positive = kept.0;
              fits = omega (arith, kept.1);
              period = period_from_test xs p parts.0;
              border_from = leb-true (2 ^ t) (length xs - p) range.0;
              border_below = ltb-true (length xs - p) (2 ^ (t + 1)) range.1;
            },
        λ is.
            let range = and_from (leb (2 ^ t) (length xs - p)) (ltb (length xs - p) (2 ^ (t + 1))) (le-leb (2 ^ t) (length xs - p) is.border_from) (lt-ltb (length xs - p) (2 ^ (t + 1)) is.border_below) in
            subst (λ ys. ContainsAt ys p) (sym joint)
            (has_from_pass test 1 (length xs) p is.positive (omega (arith, is.fits)) (and_from (has_period xs p) (border_in t (length xs - p)) (test_from_period xs p is.period) range)),
      )

  -- one more range, by what its periods are told by
  range_first : (t : ℕ) (answer : Option Progression) (rest : List Progression) → Names answer (periods_in xs t) → RangeByRange xs t rest
      → RangeByRange xs (suc t) (option_to_list answer ++ rest)
  range_first t None rest names below =
      inl (λ p is. let has = subst (λ ys. ContainsAt ys p) (sym names.all) ((range_among t p).1 is) in absurd (omega (arith, has.1)), below)
  range_first t (Some r) rest names below =
      inr (
        r,
        rest,
        refl,
        record {
          proper = names.proper;
          ascending = subst (λ ys. IsStrictlyIncreasing ys) (sym names.all) (IsStrictlyIncreasing-filter (λ p. border_in t (length xs - p)) (periods_of xs) (passes_ascend (has_period xs) 1 (length xs)));
          exact = λ p. subst (λ ys. ContainsAt ys p ↔ PeriodInRange xs t p) (sym names.all) (range_among t p);
        },
        below,
      )

  -- the records of the ranges below t, and zeros after them
  pub ranges_named : (t k : ℕ) → RangeByRange xs t (records_below xs t ++ replicate k (triple 0 0 0))
  unfolding records_below
  ranges_named zero k = (replicate k (triple 0 0 0), refl, All-replicate (λ r. r ≡ triple 0 0 0) k (triple 0 0 0) refl)
  ranges_named (suc t) k =
      let answer = progression_of (periods_in xs t) in
      let zeros = replicate k (triple 0 0 0) in
      subst (λ rs. RangeByRange xs (suc t) rs) (sym (append_assoc (option_to_list answer) (records_below xs t) zeros))
      (range_first t answer (records_below xs t ++ zeros) (range_named xs some t) (ranges_named t k))

-- the 17 records that are written, in their ranges and order, name exactly the periods, each once
pub written_named : (xs : List ℕ) → 1 ≤ length xs → length xs ≤ 65535 → PeriodsNamed xs (written_records xs)
unfolding written_records
written_named xs some short =
    let both = written_name_all xs some short in
    let all = both.1 in
    record {
      many = both.0;
      ranges = ranges_named xs some 16 (17 - length (records_of xs));
      once = all;
      exact = λ p. subst (λ ys. ContainsAt ys p ↔ ((1 ≤ p) × (p ≤ length xs) × Period xs p)) (sym all) (period_among xs p);
    }

-- the records, range by range
pub records_step : (xs : List ℕ) (t : ℕ) → 0 < t → records_below xs t ≡ option_to_list (progression_of (periods_in xs (t - 1))) ++ records_below xs (t - 1)
unfolding records_below
records_step xs zero some = absurd (omega arith)
records_step xs (suc t) some = let e : t ≡ suc t - 1 = omega arith in ap (λ k. option_to_list (progression_of (periods_in xs k)) ++ records_below xs k) e

pub records_last : (xs : List ℕ) → records_below xs 0 ≡ triple (length xs) 0 1 ∷ []
unfolding records_below
records_last xs = refl
