-- What passes a test in a range, as a list and as a progression. Assumes nothing.
use Rattle.std.proofs.Common.{◌≡◌, ℕ, zero, suc, ◌+◌, ◌-◌, ◌*◌, ◌/◌, ◌<◌, ◌≤◌, Bool, true, false, cond, List, [], ◌∷◌, length, Some, None, filter, Option, sym, refl, ap, ◌∙◌, subst, inl, inr, mul-le-mul_right, arith}
use Rattle.std.specs.List.{range_with_len, ContainsAt, AllByRecursion}
use Rattle.std.specs.List.Sorted.{IsStrictlyIncreasing}
use Rattle.std.proofs.lemmas.Nat.{div-add-mod', le-div}
use Rattle.std.proofs.lemmas.List.FromFn.{length-range_with_len, get_or-range_with_len}
use Rattle.std.proofs.lemmas.List.Kept.{IsStrictlyIncreasing-filter}
use Rattle.std.proofs.ByRecursion.{All-from_get_or, all-has, all_kept_by, has_append_right, kept_by_passes}
use Rattle.std.proofs.lemmas.Bool.{both_ways, cases_Bool, cases_lt, cases_eq}
use Rattle.periodicity.specs.declared.Progression.{Progression}
use Rattle.periodicity.specs.Progressions.{progression, triple, progression_of, Proper, Names}
use Rattle.periodicity.specs.Ranges.{NoneFrom, LeastFrom, GreatestFrom, Stepwise, Tells}

-- the first number of a progression that moves on is told apart from the others
module _ (test : ℕ → Bool) where
  -- one step on, where the first number of the range passes
  step_yes : (a c x q n : ℕ) → a ≡ x → Stepwise test a (a + suc c) x q (suc n) → Stepwise test (a + 1) (a + 1 + c) (x + q) q n
  step_yes a c x q n e s =
      record {
        moves = λ h. s.moves (omega arith);
        passes = λ j h. let here = s.passes (suc j) (omega arith) in subst (λ k. test k ≡ true) (let eq : x + suc j * q ≡ x + q + j * q = omega arith in eq) here;
        within = λ j h. let w = s.within (suc j) (omega arith) in let pos = s.moves (omega arith) in (omega arith, omega arith);
        only = λ i lo hi t. later i lo (s.only i (omega arith) (omega arith) t);
      }
    where
      later : (i : ℕ) → a + 1 ≤ i → (j : ℕ) × (j < suc n) × (i ≡ x + j * q) → (j : ℕ) × (j < n) × (i ≡ x + q + j * q)
      later i lo (zero, h, eq) = absurd (omega arith)
      later i lo (suc j, h, eq) = (j, omega arith, omega arith)

  -- one step on, where it does not
  step_no : (a c x q n : ℕ) → test a ≡ false → Stepwise test a (a + suc c) x q n → Stepwise test (a + 1) (a + 1 + c) x q n
  step_no a c x q n no_pass s =
      record {
        moves = s.moves;
        passes = s.passes;
        within = λ j h. let w = s.within j h in let off = apart j h in (omega arith, omega arith);
        only = λ i lo hi t. s.only i (omega arith) (omega arith) t;
      }
    where
      apart : (j : ℕ) → j < n → a ≡ x + j * q → ⊥
      apart j h eq = both_ways (test a) no_pass (subst (λ k. test k ≡ true) (sym eq) (s.passes j h))

  -- where the first number of the range passes, it is the progression's first
  starts : (a c x q n : ℕ) → test a ≡ true → Stepwise test a (a + suc c) x q n → (a ≡ x) × (0 < n)
  starts a c x q n pass s =
      let at = s.only a (omega arith) (omega arith) pass in
      let w = s.within 0 (omega arith) in
      (omega arith, omega arith)

  -- the list of what passes is the list that the progression names
  pub kept_stepwise : (a c x q n : ℕ) → Stepwise test a (a + c) x q n → filter test (range_with_len a c) ≡ progression x q n
  kept_stepwise a zero x q zero s = refl
  kept_stepwise a zero x q (suc n) s = let w = s.within 0 (omega arith) in absurd (omega arith)
  kept_stepwise a (suc c) x q zero s =
      elim (cases_Bool (test a)) [
        | inl pass ↦ let at = starts a c x q zero pass s in absurd (omega arith)
        | inr fail ↦ rw fail (kept_stepwise (a + 1) c x q zero (step_no a c x q zero fail s))
      ]
  kept_stepwise a (suc c) x q (suc n) s =
      elim (cases_Bool (test a)) [
        | inl pass ↦
            let at = starts a c x q (suc n) pass s in
            rw pass (ap (λ k. k ∷ filter test (range_with_len (a + 1) c)) at.0 ∙ ap (λ ks. x ∷ ks) (kept_stepwise (a + 1) c (x + q) q n (step_yes a c x q n at.0 s)))
        | inr fail ↦ rw fail (kept_stepwise (a + 1) c x q (suc n) (step_no a c x q (suc n) fail s))
      ]

  -- nothing passes
  pub kept_none : (a c : ℕ) → NoneFrom test a (a + c) → filter test (range_with_len a c) ≡ []
  kept_none a c none = kept_stepwise a c 0 0 0 (record { moves = λ h. absurd (omega arith); passes = λ j h. absurd (omega arith); within = λ j h. absurd (omega arith); only = λ i lo hi t. absurd (both_ways (test i) (none i lo hi) t) })

-- a progression told
pub length_progression : (x q n : ℕ) → length (progression x q n) ≡ n
length_progression x q zero = refl
length_progression x q (suc n) = ap suc (length_progression (x + q) q n)

pub progression_of_progression : (p : Progression) → Proper p → progression_of (progression p.first p.step p.count) ≡ Some p
progression_of_progression p = go p.first p.step p.count
  where
    go : (x q n : ℕ) → Proper (triple x q n) → progression_of (progression x q n) ≡ Some (triple x q n)
    go x q zero h = absurd (omega (arith, h.some))
    go x q (suc zero) h = ap (λ s. Some (triple x s 1)) (sym (h.alone refl))
    go x q (suc (suc n)) h =
        let step : (x + q) - x ≡ q = omega arith in
        let many : suc (suc (length (progression (x + q + q) q n))) ≡ suc (suc n) = ap (λ k. suc (suc k)) (length_progression (x + q + q) q n) in
        ap (λ s. Some (triple x s (suc (suc (length (progression (x + q + q) q n)))))) step ∙ ap (λ k. Some (triple x q k)) many

-- an answer that tells what passes is the list's, and names it
module _ (test : ℕ → Bool) (a c : ℕ) where
  pub progression_of_tells : (answer : Option Progression) → Tells test a (a + c) answer → progression_of (filter test (range_with_len a c)) ≡ answer
  progression_of_tells None none = ap progression_of (kept_none test a c none)
  progression_of_tells (Some p) t = ap progression_of (kept_stepwise test a c p.first p.step p.count t.1) ∙ progression_of_progression p t.0

  pub names_tells : (answer : Option Progression) → Tells test a (a + c) answer → Names answer (filter test (range_with_len a c))
  names_tells None none =
      let empty = kept_none test a c none in
      record { all = sym empty; many = sym (ap length empty); proper = tt }
  names_tells (Some p) t =
      let same = kept_stepwise test a c p.first p.step p.count t.1 in
      record { all = sym same; many = sym (ap length same ∙ length_progression p.first p.step p.count); proper = t.0 }

-- the least and the greatest number that pass, found by going through the range
module _ (test : ℕ → Bool) where
  pub least_in : (a c : ℕ) → (r : Option ℕ) × LeastFrom test a (a + c) r
  least_in a zero = (None, λ i lo hi. absurd (omega arith))
  least_in a (suc c) =
      elim (cases_Bool (test a)) [
        | inl pass ↦ (Some a, (omega arith, omega arith, pass, λ i lo hi. absurd (omega arith)))
        | inr fail ↦ later (least_in (a + 1) c) fail
      ]
    where
      below : (b : ℕ) → test a ≡ false → NoneFrom test (a + 1) b → NoneFrom test a b
      below b fail none i lo hi =
          elim (cases_eq a i) [ inl e ↦ subst (λ k. test k ≡ false) e fail | inr off ↦ none i (omega arith) hi ]

      later : (r : Option ℕ) × LeastFrom test (a + 1) (a + 1 + c) r → test a ≡ false → (r : Option ℕ) × LeastFrom test a (a + suc c) r
      later (None, none) fail = (None, λ i lo hi. below (a + 1 + c) fail none i lo (omega arith))
      later (Some x, h) fail = (Some x, (omega arith, omega arith, h.2, below x fail h.3))

  pub greatest_in : (a c : ℕ) → (r : Option ℕ) × GreatestFrom test a (a + c) r
  greatest_in a zero = (None, λ i lo hi. absurd (omega arith))
  greatest_in a (suc c) = later (greatest_in (a + 1) c)
    where
      later : (r : Option ℕ) × GreatestFrom test (a + 1) (a + 1 + c) r → (r : Option ℕ) × GreatestFrom test a (a + suc c) r
      later (Some x, h) = (Some x, (omega arith, omega arith, h.2, λ i lo hi. h.3 i lo (omega arith)))
      later (None, none) =
          elim (cases_Bool (test a)) [
            | inl pass ↦ (Some a, (omega arith, omega arith, pass, λ i lo hi. none i lo (omega arith)))
            | inr fail ↦ (None, λ i lo hi. elim (cases_eq a i) [ inl e ↦ subst (λ k. test k ≡ false) e fail | inr off ↦ none i (omega arith) (omega arith) ])
          ]

-- one number alone passes
pub stepwise_one : (test : ℕ → Bool) (a b x : ℕ) → a ≤ x → x < b → test x ≡ true → NoneFrom test a x → NoneFrom test (x + 1) b → Stepwise test a b x 0 1
stepwise_one test a b x lo hi pass before after =
    record {
      moves = λ h. absurd (omega arith);
      passes = λ j h. let e : x ≡ x + j * 0 = omega arith in subst (λ i. test i ≡ true) e pass;
      within = λ j h. (omega arith, omega arith);
      only = λ i low high t. (0, omega arith, alone i low high t);
    }
  where
    alone : (i : ℕ) → a ≤ i → i < b → test i ≡ true → i ≡ x + 0 * 0
    alone i low high t =
        elim (cases_lt i x) [
          | inl less ↦ absurd (both_ways (test i) (before i low less) t)
          | inr not_less ↦
              elim (cases_eq i x) [ inl e ↦ omega arith | inr off ↦ absurd (both_ways (test i) (after i (omega arith) high) t) ]
        ]

-- how many multiples of a step go up to a reach, and that a multiple within it is counted
pub multiple_within : (j q reach : ℕ) → 0 < q → j < 1 + reach / q → j * q ≤ reach
multiple_within j q reach apart h =
    let few : j ≤ reach / q = omega arith in
    omega (arith, mul-le-mul_right q few, div-add-mod' reach q)

pub counted_within : (j q reach : ℕ) → 0 < q → j * q ≤ reach → j < 1 + reach / q
counted_within j q reach apart h = omega (arith, le-div j reach q apart h)

-- one more number of a range fails, at its end or at its start
pub none_more : (test : ℕ → Bool) (a i : ℕ) → NoneFrom test a i → test i ≡ false → NoneFrom test a (i + 1)
none_more test a i none fail k lo hi = elim (cases_eq k i) [ inl e ↦ subst (λ j. test j ≡ false) (sym e) fail | inr off ↦ none k lo (omega arith) ]

pub none_before : (test : ℕ → Bool) (i b : ℕ) → NoneFrom test (i + 1) b → test i ≡ false → NoneFrom test i b
none_before test i b none fail k lo hi = elim (cases_eq k i) [ inl e ↦ subst (λ j. test j ≡ false) (sym e) fail | inr off ↦ none k (omega arith) hi ]

-- the greatest number that passes, where none further up does
pub greatest_further : (test : ℕ → Bool) (a b c : ℕ) (r : Option ℕ) → b ≤ c → NoneFrom test b c → GreatestFrom test a b r → GreatestFrom test a c r
greatest_further test a b c None le none found = λ i lo hi. elim (cases_lt i b) [ inl below ↦ found i lo below | inr above ↦ none i above hi ]
greatest_further test a b c (Some x) le none found =
    (found.0, omega (arith, found.1), found.2, λ i lo hi. elim (cases_lt i b) [ inl below ↦ found.3 i lo below | inr above ↦ none i above hi ])

-- the greatest number that passes, where none below it does, tells all
pub tells_one : (test : ℕ → Bool) (a b x : ℕ) → GreatestFrom test a b (Some x) → NoneFrom test a x → Tells test a b (Some (triple x 0 1))
tells_one test a b x found none =
    (record { some = omega arith; alone = λ one. refl; still = λ step. refl }, stepwise_one test a b x found.0 found.1 found.2 none found.3)

-- the numbers of a range, and what stands in a list that is longer by one or not
counting_within : (a c : ℕ) → AllByRecursion (λ x. (a ≤ x) × (x < a + c)) (range_with_len a c)
counting_within a c =
    All-from_get_or (λ x. (a ≤ x) × (x < a + c)) (range_with_len a c) 0 (λ i h.
    let below : i < c = subst (λ n. i < n) (length-range_with_len a c) h in
    subst (λ x. (a ≤ x) × (x < a + c)) (sym (get_or-range_with_len a c i 0 below)) (omega arith, omega arith))

has_here : (b : Bool) (a p : ℕ) (ys : List ℕ) → b ≡ true → a ≡ p → ContainsAt (cond b (a ∷ ys) ys) p
has_here true a p ys pass e = (0, omega arith, λ d. e)
has_here false a p ys pass e = absurd (both_ways false refl pass)

has_later : (b : Bool) (a p : ℕ) (ys : List ℕ) → ContainsAt ys p → ContainsAt (cond b (a ∷ ys) ys) p
has_later true a p ys has = has_append_right (a ∷ []) ys p has
has_later false a p ys has = has

-- a number is among those of a range that pass exactly when it lies in the range and passes
module _ (test : ℕ → Bool) where
  pub pass_from_has : (a c p : ℕ) → ContainsAt (filter test (range_with_len a c)) p → (a ≤ p) × (p < a + c) × (test p ≡ true)
  pass_from_has a c p has =
      let kept = filter test (range_with_len a c) in
      let within = all-has (λ x. (a ≤ x) × (x < a + c)) kept p (all_kept_by test (λ x. (a ≤ x) × (x < a + c)) (range_with_len a c) (counting_within a c)) has in
      (within.0, within.1, all-has (λ x. test x ≡ true) kept p (kept_by_passes test (range_with_len a c)) has)

  pub has_from_pass : (a c p : ℕ) → a ≤ p → p < a + c → test p ≡ true → ContainsAt (filter test (range_with_len a c)) p
  has_from_pass a zero p lo hi pass = absurd (omega arith)
  has_from_pass a (suc c) p lo hi pass =
      elim (cases_eq a p) [
        | inl e ↦ has_here (test a) a p (filter test (range_with_len (a + 1) c)) (subst (λ k. test k ≡ true) (sym e) pass) e
        | inr off ↦ has_later (test a) a p (filter test (range_with_len (a + 1) c)) (has_from_pass (a + 1) c p (omega arith) (omega arith) pass)
      ]

-- the numbers of a range ascend, and so do those that pass
range_ascends : (a c : ℕ) → IsStrictlyIncreasing (range_with_len a c)
range_ascends a c k h =
    let next : k + 1 < c = omega (arith, length-range_with_len a c) in
    let here = get_or-range_with_len a c k 0 (omega arith) in
    let there = get_or-range_with_len a c (k + 1) 0 next in
    omega (arith, here, there)

pub passes_ascend : (test : ℕ → Bool) (a c : ℕ) → IsStrictlyIncreasing (filter test (range_with_len a c))
passes_ascend test a c = IsStrictlyIncreasing-filter test (range_with_len a c) (range_ascends a c)
