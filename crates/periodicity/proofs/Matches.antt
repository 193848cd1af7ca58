-- The places of a pattern in a sequence: two of them less than the pattern apart fix the others.
-- Assumes nothing.
use Rattle.std.proofs.Common.{◌≡◌, ℕ, zero, suc, ◌+◌, ◌-◌, ◌*◌, ◌/◌, ◌%◌, ◌<◌, ◌≤◌, sym, ap, ◌∙◌, subst, inl, inr, arith}
use Rattle.std.proofs.lemmas.Nat.{div-add-mod', mod_below, mod-mul-add}
use Rattle.std.proofs.lemmas.Bool.{cases_lt, cases_eq}
use Rattle.periodicity.proofs.Repeats.{Repeats, moved, repeats_mod, repeats_times}

-- the m codes from place i on are those of the pattern y
abbrev pub Match : (ℕ → ℕ) → (ℕ → ℕ) → ℕ → ℕ → Type 0
Match x y m i = (k : ℕ) → k < m → x (i + k) ≡ y k

module _ (x y : ℕ → ℕ) (m : ℕ) where
  -- the distance of two places is a period of the pattern
  pub distance_repeats : (i d : ℕ) → Match x y m i → Match x y m (i + d) → Repeats y m d
  distance_repeats i d here there k h =
      let e : (i + d) + k ≡ i + (k + d) = omega arith in
      sym (there k (omega arith)) ∙ moved x ((i + d) + k) (i + (k + d)) e ∙ here (k + d) h

  module _ (i q : ℕ) (first : Match x y m i) (second : Match x y m (i + q)) (apart : 0 < q) where
    -- a third place between the first two, from a period r of the pattern below their distance
    between : (r : ℕ) → r < q → q + r < m → Repeats y m r → Match x y m (i + r)
    between r below fits rr k h =
        elim (cases_lt (k + r) m) [
          | inl on ↦
              let e : (i + r) + k ≡ i + (k + r) = omega arith in
              moved x ((i + r) + k) (i + (k + r)) e ∙ first (k + r) on ∙ sym (rr k on)
          | inr off ↦
              let rq = distance_repeats i q first second in
              let e : (i + r) + k ≡ (i + q) + ((k - q) + r) = omega arith in
              let back : (k - q) + q ≡ k = omega arith in
              moved x ((i + r) + k) ((i + q) + ((k - q) + r)) e ∙ second ((k - q) + r) (omega arith)
              ∙ sym (rr (k - q) (omega arith)) ∙ rq (k - q) (omega arith) ∙ moved y ((k - q) + q) k back
        ]

    -- a later place is a multiple of the first distance away, when no place lies between the first two
    pub later_divides : (s : ℕ) → s < m → q ≤ s → Match x y m (i + s) → ((r : ℕ) → 0 < r → r < q → Match x y m (i + r) → ⊥) → s % q ≡ 0
    later_divides s near le third none =
        let rq = distance_repeats i q first second in
        let rest : (i + q) + (s - q) ≡ i + s = omega arith in
        let rs = distance_repeats (i + q) (s - q) second (subst (λ j. Match x y m j) (sym rest) third) in
        let rr = repeats_mod y m (s - q) q (omega arith) rs rq in
        let small = mod_below (s - q) q apart in
        let parts = div-add-mod' (s - q) q in
        let zero_rest : (s - q) % q ≡ 0 =
        elim (cases_eq ((s - q) % q) 0) [
          | inl e ↦ e
          | inr some ↦ absurd (none ((s - q) % q) (omega arith) small (between ((s - q) % q) small (omega arith) rr))
        ] in
        whole s ((s - q) / q) (omega arith)
      where
        whole : (n d : ℕ) → n ≡ q + d * q → n % q ≡ 0
        whole n d e =
            let times : n ≡ suc d * q + 0 = omega arith in
            ap (λ k. k % q) times ∙ mod-mul-add (suc d) q 0 apart

    -- the sequence repeats from the first place to the end of any such later place
    pub repeats_through : (j : ℕ) → j * q < m → Match x y m (i + j * q) → (k : ℕ) → k + q < j * q + m → x (i + k) ≡ x ((i + q) + k)
    repeats_through j near last k h =
        let rq = distance_repeats i q first second in
        elim (cases_lt (k + q) m) [
          | inl on ↦
              let e : i + (k + q) ≡ (i + q) + k = omega arith in
              first k (omega arith) ∙ rq k on ∙ sym (first (k + q) on) ∙ moved x (i + (k + q)) ((i + q) + k) e
          | inr off ↦
              let e : (i + q) + k ≡ (i + j * q) + ((k + q) - j * q) = omega arith in
              let right = moved x ((i + q) + k) ((i + j * q) + ((k + q) - j * q)) e ∙ last ((k + q) - j * q) (omega arith) in
              left j near last k h off ∙ sym right
        ]
      where
        left : (j : ℕ) → j * q < m → Match x y m (i + j * q) → (k : ℕ) → k + q < j * q + m → m ≤ k + q → x (i + k) ≡ y ((k + q) - j * q)
        left zero near last k h off = absurd (omega arith)
        left (suc j) near last k h off =
            elim (cases_lt k m) [
              | inl in_first ↦
                  let times = repeats_times y m j q (distance_repeats i q first second) in
                  let e : ((k + q) - suc j * q) + j * q ≡ k = omega arith in
                  first k in_first ∙ sym (times ((k + q) - suc j * q) (omega arith) ∙ moved y (((k + q) - suc j * q) + j * q) k e)
              | inr past ↦
                  let e : i + k ≡ (i + suc j * q) + (k - suc j * q) = omega arith in
                  let on : (k - suc j * q) + q ≡ (k + q) - suc j * q = omega arith in
                  moved x (i + k) ((i + suc j * q) + (k - suc j * q)) e ∙ last (k - suc j * q) (omega arith)
                  ∙ distance_repeats i q first second (k - suc j * q) (omega arith) ∙ moved y ((k - suc j * q) + q) ((k + q) - suc j * q) on
            ]

    -- and where it repeats so far, each multiple of the distance is a place
    pub multiple_matches : (e j : ℕ) → ((k : ℕ) → k < e → x (i + k) ≡ x ((i + q) + k)) → j * q + m ≤ q + e → Match x y m (i + j * q)
    multiple_matches e j agree fits k h =
        let z : ℕ → ℕ = λ n. x (i + n) in
        let rz : Repeats z (q + e) q = λ n below. let on : (i + q) + n ≡ i + (n + q) = omega arith in agree n (omega arith) ∙ moved x ((i + q) + n) (i + (n + q)) on in
        let at : (i + j * q) + k ≡ i + (k + j * q) = omega arith in
        moved x ((i + j * q) + k) (i + (k + j * q)) at ∙ sym (repeats_times z (q + e) j q rz k (omega arith)) ∙ first k h
