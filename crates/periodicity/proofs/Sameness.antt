-- The tests on lists of codes, and what they say code by code. Assumes nothing.
use Rattle.std.proofs.Common.{◌≡◌, ℕ, ◌+◌, ◌-◌, ◌<◌, ◌≤◌, true, false, ◌&&◌, eqb, leb, List, [], ◌∷◌, length, get_or, take, drop, sym, refl, ap, ◌∙◌, subst, arith, length-drop, length-take, get_or-drop, get_or-take}
use Rattle.std.proofs.lemmas.List.{ext_get_or}
use Rattle.std.proofs.lemmas.Bool.{both_ways, and_parts, and_from, eqb-true, eq-eqb, leb-true, le-leb}
use Rattle.periodicity.specs.declared.Fragment.{Fragment}
use Rattle.periodicity.specs.Agreement.{same}
use Rattle.periodicity.specs.Fragments.{part, cut}
use Rattle.periodicity.specs.Places.{is_place, PlaceIn}
use Rattle.periodicity.specs.Overlaps.{is_overlap, Overlap}
use Rattle.periodicity.specs.Periods.{Period, has_period}
use Rattle.periodicity.proofs.Matches.{Match}
use Rattle.periodicity.proofs.Borders.{Fit}

-- the sequence of a list's codes
abbrev pub at : List ℕ → ℕ → ℕ
at xs k = get_or xs k 0

pub equal_from_same : (xs ys : List ℕ) → same xs ys ≡ true → xs ≡ ys
equal_from_same [] [] t = refl
equal_from_same [] (y ∷ ys) t = absurd (both_ways false refl t)
equal_from_same (x ∷ xs) [] t = absurd (both_ways false refl t)
equal_from_same (x ∷ xs) (y ∷ ys) t =
    let both = and_parts (eqb x y) (same xs ys) t in
    ap (λ z. z ∷ xs) (eqb-true x y both.0) ∙ ap (λ zs. y ∷ zs) (equal_from_same xs ys both.1)

pub same_itself : (xs : List ℕ) → same xs xs ≡ true
same_itself [] = refl
same_itself (x ∷ xs) = and_from (eqb x x) (same xs xs) (eq-eqb x x refl) (same_itself xs)

pub same_from_equal : (xs ys : List ℕ) → xs ≡ ys → same xs ys ≡ true
same_from_equal xs ys e = subst (λ zs. same xs zs ≡ true) e (same_itself xs)

-- a part, code by code
pub at_part : (xs : List ℕ) (i m k : ℕ) → k < m → at (part xs i m) k ≡ at xs (i + k)
at_part xs i m k h = get_or-take m (drop i xs) k 0 h ∙ get_or-drop i xs k 0

pub length_part : (xs : List ℕ) (i m : ℕ) → i + m ≤ length xs → length (part xs i m) ≡ m
length_part xs i m h = simp (length-take, length-drop) (omega arith)

-- a place is where the codes of the pattern stand
module _ (xs : List ℕ) (pattern : Fragment) (in_strip : pattern.start + pattern.length ≤ length xs) where
  pub match_from_place : (i : ℕ) → is_place xs pattern i ≡ true → Match (at xs) (at (cut xs pattern)) pattern.length i
  match_from_place i t k h =
      sym (at_part xs i pattern.length k h) ∙ ap (λ ys. at ys k) (equal_from_same (part xs i pattern.length) (cut xs pattern) t)

  pub place_from_match : (i : ℕ) → i + pattern.length ≤ length xs → Match (at xs) (at (cut xs pattern)) pattern.length i → is_place xs pattern i ≡ true
  place_from_match i room match =
      let here = length_part xs i pattern.length room in
      let there = length_part xs pattern.start pattern.length in_strip in
      same_from_equal (part xs i pattern.length) (cut xs pattern)
      (ext_get_or 0 (part xs i pattern.length) (cut xs pattern) (here ∙ sym there)
      (λ k h. let below : k < pattern.length = omega arith in at_part xs i pattern.length k below ∙ match k below))

  pub place_from_test : (field : Fragment) (i : ℕ) → field.start ≤ i → i + pattern.length ≤ field.start + field.length → is_place xs pattern i ≡ true
      → PlaceIn xs pattern field i
  place_from_test field i begins ends t =
      record {
        begins = begins;
        ends = ends;
        each = λ k h. match_from_place i t k h ∙ at_part xs pattern.start pattern.length k h;
      }

  pub test_from_place : (field : Fragment) (i : ℕ) → field.start + field.length ≤ length xs → PlaceIn xs pattern field i → is_place xs pattern i ≡ true
  test_from_place field i in_field place =
      place_from_match i (omega (arith, place.ends)) (λ k h. place.each k h ∙ sym (at_part xs pattern.start pattern.length k h))

-- an overlap is a length that fits
module _ (first second : List ℕ) where
  pub room_from_overlap : (n : ℕ) → is_overlap first second n ≡ true → (n ≤ length first) × (n ≤ length second)
  room_from_overlap n t =
      let rooms = and_parts (leb n (length first)) (leb n (length second)) (and_parts (leb n (length first) && leb n (length second)) (same (drop (length second - n) second) (take n first)) t).0 in
      (leb-true n (length first) rooms.0, leb-true n (length second) rooms.1)

  pub fit_from_overlap : (n : ℕ) → is_overlap first second n ≡ true → Fit (at first) (at second) (length second) n
  fit_from_overlap n t k h =
      let codes = equal_from_same (drop (length second - n) second) (take n first) (and_parts (leb n (length first) && leb n (length second)) (same (drop (length second - n) second) (take n first)) t).1 in
      sym (get_or-drop (length second - n) second k 0) ∙ ap (λ ys. at ys k) codes ∙ get_or-take n first k 0 h

  pub overlap_from_fit : (n : ℕ) → n ≤ length first → n ≤ length second → Fit (at first) (at second) (length second) n → is_overlap first second n ≡ true
  overlap_from_fit n in_first in_second fit =
      let long : length (drop (length second - n) second) ≡ length (take n first) = simp (length-take, length-drop) (omega arith) in
      and_from (leb n (length first) && leb n (length second)) (same (drop (length second - n) second) (take n first))
      (and_from (leb n (length first)) (leb n (length second)) (le-leb n (length first) in_first) (le-leb n (length second) in_second))
      (same_from_equal (drop (length second - n) second) (take n first)
      (ext_get_or 0 (drop (length second - n) second) (take n first) long
      (λ k h.
      let below : k < n = omega (arith, simp length-drop at h) in
      get_or-drop (length second - n) second k 0 ∙ fit k below ∙ sym (get_or-take n first k 0 below))))

  pub overlap_from_test : (n : ℕ) → is_overlap first second n ≡ true → Overlap first second n
  overlap_from_test n t =
      let rooms = room_from_overlap n t in
      record { in_first = rooms.0; in_second = rooms.1; each = fit_from_overlap n t }

  pub test_from_overlap : (n : ℕ) → Overlap first second n → is_overlap first second n ≡ true
  test_from_overlap n overlap = overlap_from_fit n overlap.in_first overlap.in_second overlap.each

-- the test of a period
pub period_from_test : (xs : List ℕ) (p : ℕ) → has_period xs p ≡ true → Period xs p
period_from_test xs p t i h =
    let e : p + i ≡ i + p = omega arith in
    let below : i < length xs - p = omega arith in
    sym (sym (ap (at xs) e) ∙ sym (get_or-drop p xs i 0) ∙ ap (λ ys. at ys i) (equal_from_same (drop p xs) (take (length xs - p) xs) t) ∙ get_or-take (length xs - p) xs i 0 below)

pub test_from_period : (xs : List ℕ) (p : ℕ) → Period xs p → has_period xs p ≡ true
test_from_period xs p period =
    let long : length (drop p xs) ≡ length (take (length xs - p) xs) = simp (length-take, length-drop) (omega arith) in
    same_from_equal (drop p xs) (take (length xs - p) xs)
    (ext_get_or 0 (drop p xs) (take (length xs - p) xs) long
    (λ k h.
    let below : k < length xs - p = omega (arith, simp length-drop at h) in
    let e : k + p ≡ p + k = omega arith in
    get_or-drop p xs k 0 ∙ sym (period k (omega arith) ∙ ap (at xs) e) ∙ sym (get_or-take (length xs - p) xs k 0 below)))
