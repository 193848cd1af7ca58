-- Repetition in a sequence of codes: differences, remainders and multiples of periods. Assumes nothing.
use Rattle.std.proofs.Common.{◌≡◌, ℕ, zero, suc, ◌+◌, ◌-◌, ◌*◌, ◌/◌, ◌%◌, ◌<◌, ◌≤◌, sym, ap, ◌∙◌, subst, inl, inr, arith}
use Rattle.std.proofs.lemmas.Nat.{div-add-mod'}
use Rattle.std.proofs.lemmas.Bool.{cases_lt}

-- the first n codes of a sequence have period q
abbrev pub Repeats : (ℕ → ℕ) → ℕ → ℕ → Type 0
Repeats x n q = (k : ℕ) → k + q < n → x k ≡ x (k + q)

-- the code at one place, where it is written in two ways
pub moved : (x : ℕ → ℕ) (i j : ℕ) → i ≡ j → x i ≡ x j
moved x i j e = ap x e

module _ (x : ℕ → ℕ) (n : ℕ) where
  -- the difference of two periods whose sum fits: go on by one and back by the other, or back and on
  pub repeats_less : (p q : ℕ) → q ≤ p → p + q ≤ n → Repeats x n p → Repeats x n q → Repeats x n (p - q)
  repeats_less p q le fits rp rq k h =
      elim (cases_lt (k + p) n) [
        | inl on ↦
            let there : (k + (p - q)) + q ≡ k + p = omega arith in
            rp k on ∙ moved x (k + p) ((k + (p - q)) + q) (sym there) ∙ sym (rq (k + (p - q)) (omega arith))
        | inr off ↦
            let back : (k - q) + q ≡ k = omega arith in
            let on : (k - q) + p ≡ k + (p - q) = omega arith in
            moved x k ((k - q) + q) (sym back) ∙ sym (rq (k - q) (omega arith)) ∙ rp (k - q) (omega arith) ∙ moved x ((k - q) + p) (k + (p - q)) on
      ]

  -- what is left of a period after as many of another as go into it
  pub repeats_rest : (j r q : ℕ) → q + (r + j * q) ≤ n → Repeats x n q → Repeats x n (r + j * q) → Repeats x n r
  repeats_rest zero r q fits rq rp = λ k h.
      let e : k + (r + 0 * q) ≡ k + r = omega arith in
      rp k (omega arith) ∙ moved x (k + (r + 0 * q)) (k + r) e
  repeats_rest (suc j) r q fits rq rp =
      let e : (r + suc j * q) - q ≡ r + j * q = omega arith in
      repeats_rest j r q (omega arith) rq (subst (λ d. Repeats x n d) e (repeats_less (r + suc j * q) q (omega arith) (omega arith) rp rq))

  -- the remainder of one period by another
  pub repeats_mod : (p q : ℕ) → p + q ≤ n → Repeats x n p → Repeats x n q → Repeats x n (p % q)
  repeats_mod p q fits rp rq =
      let e : p ≡ p % q + (p / q) * q = omega (arith, div-add-mod' p q) in
      repeats_rest (p / q) (p % q) q (omega arith) rq (subst (λ d. Repeats x n d) e rp)

  -- the multiples of a period
  pub repeats_times : (j q : ℕ) → Repeats x n q → Repeats x n (j * q)
  repeats_times zero q rq k h = let e : k ≡ k + 0 * q = omega arith in moved x k (k + 0 * q) e
  repeats_times (suc j) q rq k h =
      let e : (k + j * q) + q ≡ k + suc j * q = omega arith in
      repeats_times j q rq k (omega arith) ∙ rq (k + j * q) (omega arith) ∙ moved x ((k + j * q) + q) (k + suc j * q) e
