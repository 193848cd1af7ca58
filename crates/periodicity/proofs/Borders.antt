-- Suffixes of one sequence that are prefixes of another: two lengths fix the shorter ones.
-- Assumes nothing.
use Rattle.std.proofs.Common.{◌≡◌, ℕ, ◌+◌, ◌-◌, ◌*◌, ◌%◌, ◌<◌, ◌≤◌, sym, ◌∙◌, inl, inr, arith}
use Rattle.std.proofs.lemmas.Nat.{mod_below}
use Rattle.std.proofs.lemmas.Bool.{cases_eq}
use Rattle.periodicity.proofs.Repeats.{Repeats, moved, repeats_mod, repeats_times}

-- the n codes of the sequence y before place e are the first n of x
abbrev pub Fit : (ℕ → ℕ) → (ℕ → ℕ) → ℕ → ℕ → Type 0
Fit x y e n = (k : ℕ) → k < n → y (e - n + k) ≡ x k

module _ (x y : ℕ → ℕ) (e l : ℕ) (room : l ≤ e) (fit : Fit x y e l) where
  -- a shorter length that fits is less by a period of the longer one
  pub shorter_repeats : (s : ℕ) → s ≤ l → Fit x y e (l - s) → Repeats x l s
  shorter_repeats s le shorter k h =
      let at : e - (l - s) + k ≡ e - l + (k + s) = omega arith in
      sym (shorter k (omega arith)) ∙ moved y (e - (l - s) + k) (e - l + (k + s)) at ∙ fit (k + s) h

  -- and a period of the longer one makes a shorter length that fits
  pub repeats_shorter : (s : ℕ) → s ≤ l → Repeats x l s → Fit x y e (l - s)
  repeats_shorter s le rs k h =
      let at : e - (l - s) + k ≡ e - l + (k + s) = omega arith in
      moved y (e - (l - s) + k) (e - l + (k + s)) at ∙ fit (k + s) (omega arith) ∙ sym (rs k (omega arith))

  module _ (q : ℕ) (apart : 0 < q) (inside : q ≤ l) (next : Fit x y e (l - q)) where
    -- lengths that fit are multiples of the first distance shorter, when none lies between the first two
    pub shorter_divides : (s : ℕ) → s + q ≤ l → Fit x y e (l - s) → ((r : ℕ) → 0 < r → r < q → Fit x y e (l - r) → ⊥) → s % q ≡ 0
    shorter_divides s sum shorter none =
        let rr = repeats_mod x l s q sum (shorter_repeats s (omega arith) shorter) (shorter_repeats q inside next) in
        let small = mod_below s q apart in
        elim (cases_eq (s % q) 0) [
          | inl is ↦ is
          | inr some ↦ absurd (none (s % q) (omega arith) small (repeats_shorter (s % q) (omega arith) rr))
        ]

    -- and each multiple of it fits
    pub multiple_fits : (j : ℕ) → j * q ≤ l → Fit x y e (l - j * q)
    multiple_fits j le = repeats_shorter (j * q) le (repeats_times x l j q (shorter_repeats q inside next))
