-- The overlaps of lengths from d to 2d − 1 are a progression, fixed by the greatest two; and what an answer
-- that names them says. Assumes nothing.
use Rattle.std.proofs.Common.{◌≡◌, ℕ, ◌+◌, ◌-◌, ◌*◌, ◌/◌, ◌<◌, ◌≤◌, true, ◌↔◌, List, length, Some, None, Option, sym, ap, ◌∙◌, subst, inl, inr, arith}
use Rattle.std.proofs.lemmas.Nat.{div-add-mod'}
use Rattle.std.proofs.lemmas.Bool.{both_ways, cases_lt}
use Rattle.std.specs.List.{ContainsAt}
use Rattle.std.specs.List.Sorted.{IsStrictlyIncreasing}
use Rattle.periodicity.specs.declared.Progression.{Progression}
use Rattle.periodicity.specs.Overlaps.{is_overlap, overlaps_of, Overlap, OverlapsNamed}
use Rattle.periodicity.specs.Progressions.{triple, Names}
use Rattle.periodicity.specs.Ranges.{NoneFrom, GreatestFrom, Stepwise, Tells}
use Rattle.periodicity.proofs.Ranges.{multiple_within, counted_within, greatest_in, tells_one, pass_from_has, has_from_pass, passes_ascend}
use Rattle.periodicity.proofs.Borders.{Fit, shorter_divides, multiple_fits}
use Rattle.periodicity.proofs.Sameness.{at, room_from_overlap, fit_from_overlap, overlap_from_fit, overlap_from_test, test_from_overlap}

-- the greatest length is l, the next q less
module _ (first second : List ℕ) (d l q : ℕ) (apart : 0 < q) (low : d + q ≤ l) (high : l < d + d)
    (longest : is_overlap first second l ≡ true) (next : is_overlap first second (l - q) ≡ true)
    (above : NoneFrom (is_overlap first second) (l + 1) (d + d)) (between : NoneFrom (is_overlap first second) (l - q + 1) l) where
  x : ℕ → ℕ
  x = at first

  y : ℕ → ℕ
  y = at second

  e : ℕ
  e = length second

  times : ℕ
  times = (l - d) / q

  room : (l ≤ length first) × (l ≤ length second)
  room = room_from_overlap first second l longest

  fit : Fit x y e l
  unfolding x y e
  fit = fit_from_overlap first second l longest

  next_fit : Fit x y e (l - q)
  unfolding x y e
  next_fit = fit_from_overlap first second (l - q) next

  none_between : (r : ℕ) → 0 < r → r < q → Fit x y e (l - r) → ⊥
  unfolding x y e
  none_between r some below shorter =
      let space = room in
      both_ways (is_overlap first second (l - r)) (between (l - r) (omega arith) (omega arith))
      (overlap_from_fit first second (l - r) (omega arith) (omega arith) shorter)

  -- each multiple of the distance down to d is an overlap
  multiple_passes : (j : ℕ) → j * q ≤ l - d → is_overlap first second (l - j * q) ≡ true
  unfolding x y e
  multiple_passes j h =
      let space = room in
      overlap_from_fit first second (l - j * q) (omega arith) (omega arith)
      (multiple_fits x y e l space.1 fit q apart (omega arith) next_fit j (omega arith))

  -- an overlap shorter by s is such a multiple
  shorter_counted : (s : ℕ) → s ≤ l - d → is_overlap first second (l - s) ≡ true → (s / q) * q ≡ s
  unfolding x y e
  shorter_counted s h pass =
      let space = room in
      let rest = shorter_divides x y e l space.1 fit q apart (omega arith) next_fit s (omega arith) (fit_from_overlap first second (l - s) pass) none_between in
      omega (arith, div-add-mod' s q)

  -- the multiple counted from the least
  from_least : (j : ℕ) → j < 1 + times → ((l - times * q) + j * q ≡ l - (times - j) * q) × ((times - j) * q ≤ l - d) × (times * q ≤ l - d)
  unfolding times
  from_least j h =
      let all = multiple_within times q (l - d) apart (omega arith) in
      let some = multiple_within (times - j) q (l - d) apart (omega arith) in
      let split : times * q ≡ (times - j) * q + j * q = parts times j (omega arith) in
      (omega arith, some, all)
    where
      parts : (t j : ℕ) → j ≤ t → t * q ≡ (t - j) * q + j * q
      parts t j le = let e₀ : t ≡ (t - j) + j = omega arith in ap (λ n. n * q) e₀ ∙ (let s : ((t - j) + j) * q ≡ (t - j) * q + j * q = omega arith in s)

  passes_all : (j : ℕ) → j < 1 + times → is_overlap first second ((l - times * q) + j * q) ≡ true
  passes_all j h = let at_j = from_least j h in subst (λ n. is_overlap first second n ≡ true) (sym at_j.0) (multiple_passes (times - j) at_j.1)

  only_multiples : (n : ℕ) → d ≤ n → n < d + d → is_overlap first second n ≡ true → (j : ℕ) × (j < 1 + times) × (n ≡ (l - times * q) + j * q)
  unfolding times
  only_multiples n lo hi pass =
      elim (cases_lt l n) [
        | inl more ↦ absurd (both_ways (is_overlap first second n) (above n (omega arith) hi) pass)
        | inr not_more ↦
            let e₀ : l - (l - n) ≡ n = omega arith in
            let whole = shorter_counted (l - n) (omega arith) (subst (λ k. is_overlap first second k ≡ true) (sym e₀) pass) in
            let few = counted_within ((l - n) / q) q (l - d) apart (omega arith) in
            let at_j = from_least (times - (l - n) / q) (omega arith) in
            let back : times - (times - (l - n) / q) ≡ (l - n) / q = omega arith in
            let same : (times - (times - (l - n) / q)) * q ≡ ((l - n) / q) * q = ap (λ k. k * q) back in
            (times - (l - n) / q, omega arith, omega arith)
      ]

  pub overlaps_stepwise : Stepwise (is_overlap first second) d (d + d) (l - ((l - d) / q) * q) q (1 + (l - d) / q)
  unfolding times
  overlaps_stepwise =
      record {
        moves = λ h. apart;
        passes = passes_all;
        within = λ j h. let at_j = from_least j h in (omega arith, omega arith);
        only = only_multiples;
      }

-- what the greatest two lengths tell
module _ (first second : List ℕ) (d l n : ℕ) where
  pub overlaps_told : GreatestFrom (is_overlap first second) d (d + d) (Some l) → GreatestFrom (is_overlap first second) d l (Some n)
      → Tells (is_overlap first second) d (d + d) (Some (triple (l - ((l - d) / (l - n)) * (l - n)) (l - n) (1 + (l - d) / (l - n))))
  overlaps_told longest next =
      let q = l - n in
      let some : 0 < q = omega (arith, next.1) in
      let is : l - q ≡ n = omega (arith, next.1) in
      let at_next = subst (λ k. is_overlap first second k ≡ true) (sym is) next.2 in
      let between = subst (λ k. NoneFrom (is_overlap first second) (k + 1) l) (sym is) next.3 in
      let steps = overlaps_stepwise first second d l q some (omega (arith, next.0, next.1)) longest.1 longest.2 at_next longest.3 between in
      let two : 1 < 1 + (l - d) / q = counted_within 1 q (l - d) some (omega (arith, next.0, next.1)) in
      (record { some = omega arith; alone = λ one. absurd (omega arith); still = λ none. absurd (omega arith) }, steps)

-- the overlaps of any two lists, for any d, are told by some answer
pub overlaps_tell : (first second : List ℕ) (d : ℕ) → (answer : Option Progression) × Tells (is_overlap first second) d (d + d) answer
overlaps_tell first second d = outer (greatest_in (is_overlap first second) d d)
  where
    inner : (l : ℕ) → GreatestFrom (is_overlap first second) d (d + d) (Some l) → (r : Option ℕ) × GreatestFrom (is_overlap first second) d l r
        → (answer : Option Progression) × Tells (is_overlap first second) d (d + d) answer
    inner l longest (None, none) = (Some (triple l 0 1), tells_one (is_overlap first second) d (d + d) l longest none)
    inner l longest (Some n, next) = (Some (triple (l - ((l - d) / (l - n)) * (l - n)) (l - n) (1 + (l - d) / (l - n))), overlaps_told first second d l n longest next)

    outer : (r : Option ℕ) × GreatestFrom (is_overlap first second) d (d + d) r → (answer : Option Progression) × Tells (is_overlap first second) d (d + d) answer
    outer (None, none) = (None, none)
    outer (Some l, longest) =
        let back : d + (l - d) ≡ l = omega (arith, longest.0) in
        let found = greatest_in (is_overlap first second) d (l - d) in
        inner l longest (found.0, subst (λ b. GreatestFrom (is_overlap first second) d b found.0) back found.1)

-- what an answer that names the overlaps says
module _ (first second : List ℕ) (d : ℕ) where
  -- a number is among them exactly when it is from d to 2d − 1 and the lists overlap in so many codes
  pub overlap_among : (n : ℕ) → ContainsAt (overlaps_of first second d) n ↔ ((d ≤ n) × (n < 2 * d) × Overlap first second n)
  overlap_among n = (
    λ has.
        let kept = pass_from_has (is_overlap first second) d d n has in
        (kept.0, omega (arith, kept.1), overlap_from_test first second n kept.2),
    λ overlap. has_from_pass (is_overlap first second) d d n overlap.0 (omega (arith, overlap.1)) (test_from_overlap first second n overlap.2),
  )

  pub overlaps_named : (answer : Option Progression) → Names answer (overlaps_of first second d) → OverlapsNamed first second d answer
  overlaps_named answer names =
      record {
        names = names;
        ascending = subst (λ ys. IsStrictlyIncreasing ys) (sym names.all) (passes_ascend (is_overlap first second) d d);
        exact = λ n. subst (λ ys. ContainsAt ys n ↔ ((d ≤ n) × (n < 2 * d) × Overlap first second n)) (sym names.all) (overlap_among n);
      }
