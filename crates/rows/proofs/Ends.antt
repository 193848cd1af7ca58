-- Why the rounds end: no round makes a string longer, and some one of any 44 rounds on end makes a string of
-- two or more numbers shorter. Assumes nothing.
use Rattle.std.proofs.Common.{◌≡◌, ℕ, zero, suc, ◌+◌, ◌-◌, ◌*◌, ◌/◌, ◌%◌, ◌^◌, ◌<◌, ◌≤◌, true, false, not, eqb, ltb, List, [], ◌∷◌, map, length, sym, refl, ap, ◌∙◌, subst, inl, inr, arith}
use Rattle.std.proofs.lemmas.Nat.{pow-add, shr-shr}
use Rattle.std.proofs.lemmas.Bool.{cases_Bool, cases_eq, cond-true, cond-false, cond_both, and_from, not_from_false, eq-eqb, ne_eqb, lt-ltb, le-ltb, cases_lt}
use Rattle.rows.specs.declared.Shape.TheVariants.{Pair}
use Rattle.rows.specs.Rounds.{one, new, stretch, stretches_from, stretches, left_at, is_left, joins, pairs, pairs_from, blocks}

-- stretches are no more than the numbers
stretches_from_shorter : (n m : ℕ) (xs : List ℕ) → length (stretches_from n m xs) ≤ suc (length xs)
stretches_from_shorter n m [] = omega arith
stretches_from_shorter n m (x ∷ xs) =
    let longer = stretches_from_shorter n (m + 1) xs in
    let other = stretches_from_shorter x 1 xs in
    cond_both (eqb x n) (stretches_from n (m + 1) xs) (stretch n m ∷ stretches_from x 1 xs) (λ bs. length bs ≤ suc (suc (length xs)))
    (λ t. omega arith) (λ t. omega arith)

stretches_shorter : (xs : List ℕ) → length (stretches xs) ≤ length xs
stretches_shorter [] = omega arith
stretches_shorter (x ∷ xs) = stretches_from_shorter x 1 xs

-- a number that goes on a stretch of one shortens the string
equal_shortens : (n : ℕ) (xs : List ℕ) → length (stretches (n ∷ (n ∷ xs))) ≤ suc (length xs)
equal_shortens n xs =
    rw (cond-true (eqb n n) (stretches_from n (1 + 1) xs) (stretch n 1 ∷ stretches_from n 1 xs) (eq-eqb n n refl))
    (stretches_from_shorter n (1 + 1) xs)

-- as many stretches as numbers are single ones
stretches_from_single : (n : ℕ) (xs : List ℕ) → length (stretches_from n 1 xs) ≡ suc (length xs) → stretches_from n 1 xs ≡ map one (n ∷ xs)
stretches_from_single n [] same = refl
stretches_from_single n (x ∷ xs) same = elim (cases_Bool (eqb x n)) [
  | inl t ↦
      let e = cond-true (eqb x n) (stretches_from n (1 + 1) xs) (stretch n 1 ∷ stretches_from x 1 xs) t in
      let longer = stretches_from_shorter n (1 + 1) xs in
      absurd (omega (arith, ap length e))
  | inr t ↦
      let e = cond-false (eqb x n) (stretches_from n (1 + 1) xs) (stretch n 1 ∷ stretches_from x 1 xs) t in
      e ∙ ap (λ bs. one n ∷ bs) (stretches_from_single x xs (omega (arith, ap length e)))
]

stretches_single : (xs : List ℕ) → length (stretches xs) ≡ length xs → stretches xs ≡ map one xs
stretches_single [] same = refl
stretches_single (x ∷ xs) same = stretches_from_single x xs same

-- pairs and single numbers are no more than the numbers
mutual
  pairs_shorter : (k : ℕ) (xs : List ℕ) → length (pairs k xs) ≤ length xs
  pairs_shorter k [] = omega arith
  pairs_shorter k (x ∷ xs) = pairs_from_shorter k x xs

  pairs_from_shorter : (k x : ℕ) (ys : List ℕ) → length (pairs_from k x ys) ≤ suc (length ys)
  pairs_from_shorter k x [] = omega arith
  pairs_from_shorter k x (y ∷ ys) =
      let after = pairs_shorter k ys in
      let next = pairs_from_shorter k y ys in
      cond_both (joins k x y) (new (Pair x y) ∷ pairs k ys) (one x ∷ pairs_from k y ys) (λ bs. length bs ≤ suc (suc (length ys)))
      (λ t. omega arith) (λ t. omega arith)

-- a pair at the front shortens the string
join_shortens : (k x y : ℕ) (ys : List ℕ) → joins k x y ≡ true → length (pairs k (x ∷ (y ∷ ys))) ≤ suc (length ys)
join_shortens k x y ys t =
    let e = cond-true (joins k x y) (new (Pair x y) ∷ pairs k ys) (one x ∷ pairs_from k y ys) t in
    let after = pairs_shorter k ys in
    omega (arith, ap length e)

-- as many blocks as numbers are single numbers
pairs_from_single : (k x : ℕ) (ys : List ℕ) → length (pairs_from k x ys) ≡ suc (length ys) → pairs_from k x ys ≡ map one (x ∷ ys)
pairs_from_single k x [] same = refl
pairs_from_single k x (y ∷ ys) same = elim (cases_Bool (joins k x y)) [
  | inl t ↦
      let shorter = join_shortens k x y ys t in
      absurd (omega arith)
  | inr t ↦
      let e = cond-false (joins k x y) (new (Pair x y) ∷ pairs k ys) (one x ∷ pairs_from k y ys) t in
      e ∙ ap (λ bs. one x ∷ bs) (pairs_from_single k y ys (omega (arith, ap length e)))
]

pairs_single : (k : ℕ) (xs : List ℕ) → length (pairs k xs) ≡ length xs → pairs k xs ≡ map one xs
pairs_single k [] same = refl
pairs_single k (x ∷ xs) same = pairs_from_single k x xs same

-- odd rounds take stretches, even rounds take pairs
odd_blocks : (k : ℕ) (s : List ℕ) → k % 2 ≡ 1 → blocks k s ≡ stretches s
unfolding blocks
odd_blocks k s odd = cond-true (eqb (k % 2) 1) (stretches s) (pairs k s) (eq-eqb (k % 2) 1 odd)

even_blocks : (k : ℕ) (s : List ℕ) → k % 2 ≡ 0 → blocks k s ≡ pairs k s
unfolding blocks
even_blocks k s even = cond-false (eqb (k % 2) 1) (stretches s) (pairs k s) (ne_eqb (k % 2) 1 (λ odd. omega arith))

-- no round makes a string longer
pub blocks_shorter : (k : ℕ) (s : List ℕ) → length (blocks k s) ≤ length s
unfolding blocks
blocks_shorter k s =
    cond_both (eqb (k % 2) 1) (stretches s) (pairs k s) (λ bs. length bs ≤ length s) (λ odd. stretches_shorter s) (λ even. pairs_shorter k s)

-- a string that is not shortened has only single blocks
pub blocks_unshortened : (k : ℕ) (s : List ℕ) → length (blocks k s) ≡ length s → blocks k s ≡ map one s
unfolding blocks
blocks_unshortened k s =
    cond_both (eqb (k % 2) 1) (stretches s) (pairs k s) (λ bs. length bs ≡ length s → bs ≡ map one s) (λ odd. stretches_single s)
    (λ even. pairs_single k s)

-- a bit in which the halves differ is, one place up, a bit in which the numbers differ
differ_one_up : (b x y : ℕ) → ((x / 2 / 2 ^ b) % 2 ≡ (y / 2 / 2 ^ b) % 2 → ⊥) → (x / 2 ^ (1 + b)) % 2 ≡ (y / 2 ^ (1 + b)) % 2 → ⊥
differ_one_up b x y differ same = differ (rw (shr-shr x 1 b, shr-shr y 1 b) same)

-- two different numbers of n bits differ in one of them
differ_in_a_bit : (n x y : ℕ) → x < 2 ^ n → y < 2 ^ n → (x ≡ y → ⊥) → (b : ℕ) × (b < n) × ((x / 2 ^ b) % 2 ≡ (y / 2 ^ b) % 2 → ⊥)
differ_in_a_bit zero x y hx hy differ = absurd (differ (omega arith))
differ_in_a_bit (suc n) x y hx hy differ =
    let twice : 2 ^ (1 + n) ≡ 2 ^ 1 * 2 ^ n = pow-add 2 1 n in
    let count : 1 + n ≡ suc n = omega arith in
    let whole : 2 ^ suc n ≡ 2 * 2 ^ n = ap (λ m. 2 ^ m) (sym count) ∙ twice in
    elim (cases_eq (x % 2) (y % 2)) [
      | inr off ↦ (0, omega arith, λ same. off (omega arith))
      | inl on ↦
          let deeper = differ_in_a_bit n (x / 2) (y / 2) (omega arith) (omega arith) (λ same. differ (omega arith)) in
          (1 + deeper.0, omega (arith, deeper.1), differ_one_up deeper.0 x y deeper.2)
    ]

-- remainders below 11 ask for a bit that is 1, the others for a bit that is 0
left_by_one : (b n : ℕ) → b < 11 → left_at b n ≡ eqb ((n / 2 ^ b) % 2) 1
left_by_one b n low = cond-true (ltb b 11) (eqb ((n / 2 ^ b) % 2) 1) (eqb ((n / 2 ^ (b - 11)) % 2) 0) (lt-ltb b 11 low)

left_by_zero : (b n : ℕ) → left_at (b + 11) n ≡ eqb ((n / 2 ^ b) % 2) 0
left_by_zero b n =
    let place : b + 11 - 11 ≡ b = omega arith in
    cond-false (ltb (b + 11) 11) (eqb ((n / 2 ^ (b + 11)) % 2) 1) (eqb ((n / 2 ^ (b + 11 - 11)) % 2) 0) (le-ltb (b + 11) 11 (omega arith))
    ∙ ap (λ c. eqb ((n / 2 ^ c) % 2) 0) place

-- of two numbers that differ in bit b, the first is left and the second right for b or for b + 11
differ_in_class : (b x y : ℕ) → b < 11 → ((x / 2 ^ b) % 2 ≡ (y / 2 ^ b) % 2 → ⊥)
    → (r : ℕ) × (r < 22) × (left_at r x ≡ true) × (left_at r y ≡ false)
differ_in_class b x y low differ = elim (cases_eq ((x / 2 ^ b) % 2) 1) [
  | inl set ↦ (
    b,
    omega arith,
    left_by_one b x low ∙ eq-eqb ((x / 2 ^ b) % 2) 1 set,
    left_by_one b y low ∙ ne_eqb ((y / 2 ^ b) % 2) 1 (λ too. differ (set ∙ sym too)),
  )
  | inr clear ↦ (
    b + 11,
    omega arith,
    left_by_zero b x ∙ eq-eqb ((x / 2 ^ b) % 2) 0 (omega arith),
    left_by_zero b y ∙ ne_eqb ((y / 2 ^ b) % 2) 0 (λ too. differ (omega arith)),
  )
]

-- two different numbers below 2,048 are left and right, in this order, for one of the 22 remainders
pub classes_differ : (x y : ℕ) → x < 2048 → y < 2048 → (x ≡ y → ⊥) → (r : ℕ) × (r < 22) × (left_at r x ≡ true) × (left_at r y ≡ false)
classes_differ x y hx hy differ =
    let bit = differ_in_a_bit 11 x y hx hy differ in
    differ_in_class bit.0 x y bit.1 bit.2

-- some number among 22 on end has the remainder r
meets_remainder : (a r : ℕ) → r < 22 → (i : ℕ) × (i < 22) × ((a + i) % 22 ≡ r)
meets_remainder a r h = elim (cases_lt r (a % 22)) [
  | inl below ↦ (r + 22 - a % 22, omega arith, omega arith)
  | inr above ↦ (r - a % 22, omega arith, omega arith)
]

-- any 44 rounds on end contain an even round of each remainder
pub even_round : (k r : ℕ) → 1 ≤ k → r < 22 → (j : ℕ) × (j < 44) × ((k + j) % 2 ≡ 0) × (((k + j) / 2 - 1) % 22 ≡ r)
even_round k r some h =
    let found = meets_remainder ((k + 1) / 2 - 1) r h in
    let i = found.0 in
    let few : i < 22 = found.1 in
    let half : (k + (k % 2 + 2 * i)) / 2 - 1 ≡ (k + 1) / 2 - 1 + i = omega arith in
    (k % 2 + 2 * i, omega arith, omega arith, ap (λ a. a % 22) half ∙ found.2)

-- any two rounds on end contain an odd round
pub odd_round : (k : ℕ) → (j : ℕ) × (j < 44) × ((k + j) % 2 ≡ 1)
odd_round k = ((k + 1) % 2, omega arith, omega arith)

-- an odd round that does not shorten a string shows that its first two numbers differ
unshortened_differ : (k x y : ℕ) (s : List ℕ) → k % 2 ≡ 1 → length (blocks k (x ∷ (y ∷ s))) ≡ length (x ∷ (y ∷ s)) → x ≡ y → ⊥
unshortened_differ k x y s odd same equal =
    let e = odd_blocks k (x ∷ (y ∷ s)) odd in
    let shorter : length (stretches (x ∷ (y ∷ s))) ≤ suc (length s) = subst (λ z. length (stretches (x ∷ (z ∷ s))) ≤ suc (length s)) equal (equal_shortens x s) in
    omega (arith, ap length e)

-- a left number and then a right one are joined
joins_from_classes : (k r x y : ℕ) → (k / 2 - 1) % 22 ≡ r → left_at r x ≡ true → left_at r y ≡ false → joins k x y ≡ true
unfolding is_left
joins_from_classes k r x y class left right =
    and_from (is_left k x) (not (is_left k y)) (ap (λ q. left_at q x) class ∙ left)
    (not_from_false (is_left k y) (ap (λ q. left_at q y) class ∙ right))

-- an even round joins the first two numbers, so that it shortens the string
join_in_round : (k x y : ℕ) (s : List ℕ) → k % 2 ≡ 0 → joins k x y ≡ true → length (blocks k (x ∷ (y ∷ s))) ≡ length (x ∷ (y ∷ s)) → ⊥
join_in_round k x y s even t same =
    let e = even_blocks k (x ∷ (y ∷ s)) even in
    let shorter = join_shortens k x y s t in
    omega (arith, ap length e)

-- some one of any 44 rounds on end makes a string of two or more numbers shorter
pub some_round_shortens : (k : ℕ) (x y : ℕ) (s : List ℕ) → 1 ≤ k → x < 2048 → y < 2048
    → ((j : ℕ) → j < 44 → length (blocks (k + j) (x ∷ (y ∷ s))) ≡ length (x ∷ (y ∷ s))) → ⊥
some_round_shortens k x y s some hx hy same =
    let odd = odd_round k in
    let differ = unshortened_differ (k + odd.0) x y s odd.2 (same odd.0 odd.1) in
    let class = classes_differ x y hx hy differ in
    let even = even_round k class.0 some class.1 in
    let joined = joins_from_classes (k + even.0) class.0 x y even.3 class.2 class.3 in
    join_in_round (k + even.0) x y s even.2 joined (same even.0 even.1)
