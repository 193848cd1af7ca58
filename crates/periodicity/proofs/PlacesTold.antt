-- The places of a pattern in a field shorter than twice the pattern are a progression, fixed by the
-- first two; and what an answer that names them says. Assumes nothing.
use Rattle.std.proofs.Common.{◌≡◌, ℕ, zero, suc, ◌+◌, ◌-◌, ◌*◌, ◌/◌, ◌<◌, ◌≤◌, min, true, ◌↔◌, List, length, drop, Some, Option, sym, ◌∙◌, subst, inl, inr, arith, length-drop, get_or-drop}
use Rattle.std.proofs.lemmas.Nat.{div-add-mod'}
use Rattle.std.proofs.lemmas.Bool.{both_ways, cases_lt, cases_eq}
use Rattle.std.specs.List.{ContainsAt}
use Rattle.std.specs.List.Sorted.{IsStrictlyIncreasing}
use Rattle.periodicity.specs.declared.Fragment.{Fragment}
use Rattle.periodicity.specs.declared.Progression.{Progression}
use Rattle.periodicity.specs.Agreement.{Greatest}
use Rattle.periodicity.specs.Fragments.{cut}
use Rattle.periodicity.specs.Places.{is_place, places_of, PlaceIn, PlacesNamed}
use Rattle.periodicity.specs.Progressions.{Proper, triple, Names}
use Rattle.periodicity.specs.Ranges.{NoneFrom, LeastFrom, Stepwise, Tells}
use Rattle.periodicity.proofs.Ranges.{multiple_within, counted_within, pass_from_has, has_from_pass, passes_ascend}
use Rattle.periodicity.proofs.Matches.{Match, later_divides, repeats_through, multiple_matches}
use Rattle.periodicity.proofs.Sameness.{at, match_from_place, place_from_match, place_from_test, test_from_place}

-- two places agree for at least the pattern's length
pub places_agree : (xs : List ℕ) (pattern : Fragment) (i j e : ℕ) → pattern.start + pattern.length ≤ length xs
    → i + pattern.length ≤ length xs → j + pattern.length ≤ length xs
    → is_place xs pattern i ≡ true → is_place xs pattern j ≡ true → Greatest (drop i xs) (drop j xs) e → pattern.length ≤ e
places_agree xs pattern i j e in_strip room_i room_j first second agree =
    agree.most pattern.length (record {
      left_room = simp length-drop (omega arith);
      right_room = simp length-drop (omega arith);
      each = λ k h. get_or-drop i xs k 0 ∙ match_from_place xs pattern in_strip i first k h
          ∙ sym (get_or-drop j xs k 0 ∙ match_from_place xs pattern in_strip j second k h);
    })

-- the pattern's first place is i, its second q further on, and the strip agrees with itself for e codes
-- from them on; starts range from a up to b, b left out, and b − a is at most the pattern's length
module _ (xs : List ℕ) (pattern : Fragment) (a b i q e : ℕ)
    (in_strip : pattern.start + pattern.length ≤ length xs) (ends : b + pattern.length ≤ length xs + 1) (near : b ≤ a + pattern.length)
    (apart : 0 < q) (low : a ≤ i) (high : i + q < b)
    (first : is_place xs pattern i ≡ true) (second : is_place xs pattern (i + q) ≡ true)
    (before : NoneFrom (is_place xs pattern) a i) (between : NoneFrom (is_place xs pattern) (i + 1) (i + q))
    (agree : Greatest (drop i xs) (drop (i + q) xs) e) where
  m : ℕ
  m = pattern.length

  x : ℕ → ℕ
  x = at xs

  y : ℕ → ℕ
  y = at (cut xs pattern)

  reach : ℕ
  reach = min (q + e - m) (b - 1 - i)

  here : Match x y m i
  unfolding m x y
  here = match_from_place xs pattern in_strip i first

  there : Match x y m (i + q)
  unfolding m x y
  there = match_from_place xs pattern in_strip (i + q) second

  none_between : (r : ℕ) → 0 < r → r < q → Match x y m (i + r) → ⊥
  unfolding m x y
  none_between r some below match =
      both_ways (is_place xs pattern (i + r)) (between (i + r) (omega arith) (omega arith)) (place_from_match xs pattern in_strip (i + r) (omega arith) match)

  -- the strip from the first place agrees with the strip from the second for e codes
  shifted : (k : ℕ) → k < e → x (i + k) ≡ x ((i + q) + k)
  unfolding x
  shifted k h = sym (get_or-drop i xs k 0) ∙ agree.agree.each k h ∙ get_or-drop (i + q) xs k 0

  -- the second place lies within that agreement
  second_fits : m ≤ e
  unfolding m
  second_fits = places_agree xs pattern i (i + q) e in_strip (omega arith) (omega arith) first second agree

  -- a multiple of the distance within reach is a place
  multiple_passes : (j : ℕ) → j * q ≤ reach → is_place xs pattern (i + j * q) ≡ true
  unfolding m x y reach
  multiple_passes j h =
      let fits = second_fits in
      place_from_match xs pattern in_strip (i + j * q) (omega arith) (multiple_matches x y m i q here there apart e j shifted (omega arith))

  -- a place further on is such a multiple
  later_counted : (s : ℕ) → i + s < b → q ≤ s → is_place xs pattern (i + s) ≡ true → ((s / q) * q ≡ s) × ((s / q) * q ≤ reach)
  unfolding m x y reach
  later_counted s lies le pass =
      let third = match_from_place xs pattern in_strip (i + s) pass in
      let rest = later_divides x y m i q here there apart s (omega arith) le third none_between in
      let whole : (s / q) * q ≡ s = omega (arith, div-add-mod' s q) in
      let last = subst (λ n. Match x y m (i + n)) (sym whole) third in
      let through = repeats_through x y m i q here there apart (s / q) (omega arith) last in
      let more : (s + m) - q ≤ e =
      agree.most ((s + m) - q) (record {
        left_room = simp length-drop (omega arith);
        right_room = simp length-drop (omega arith);
        each = λ k h. get_or-drop i xs k 0 ∙ through k (omega arith) ∙ sym (get_or-drop (i + q) xs k 0);
      }) in
      (whole, omega arith)

  only_multiples : (n : ℕ) → a ≤ n → n < b → is_place xs pattern n ≡ true → (j : ℕ) × (j < 1 + reach / q) × (n ≡ i + j * q)
  only_multiples n lo hi pass =
      elim (cases_lt n i) [
        | inl less ↦ absurd (both_ways (is_place xs pattern n) (before n lo less) pass)
        | inr not_less ↦
            let e₀ : i + (n - i) ≡ n = omega arith in
            elim (cases_eq n i) [
              | inl is ↦ (0, omega arith, omega arith)
              | inr off ↦
                  elim (cases_lt n (i + q)) [
                    | inl inner ↦ absurd (both_ways (is_place xs pattern n) (between n (omega arith) inner) pass)
                    | inr outer ↦
                        let found = later_counted (n - i) (omega arith) (omega arith) (subst (λ k. is_place xs pattern k ≡ true) (sym e₀) pass) in
                        ((n - i) / q, counted_within ((n - i) / q) q reach apart found.1, omega (arith, found.0))
                  ]
            ]
      ]

  pub places_stepwise : Stepwise (is_place xs pattern) a b i q (1 + min (q + e - pattern.length) (b - 1 - i) / q)
  unfolding m reach
  places_stepwise =
      record {
        moves = λ h. apart;
        passes = λ j h. multiple_passes j (multiple_within j q reach apart h);
        within = λ j h. let w = multiple_within j q reach apart h in (omega arith, omega arith);
        only = only_multiples;
      }

-- what the first two places in a field tell
module _ (xs : List ℕ) (pattern field : Fragment) (i j e : ℕ)
    (in_strip : pattern.start + pattern.length ≤ length xs) (in_field : field.start + field.length ≤ length xs)
    (near : field.length < 2 * pattern.length) (long : pattern.length ≤ field.length) where
  pub places_told : (extent : ℕ) → LeastFrom (is_place xs pattern) field.start (field.start + (field.length - pattern.length) + 1) (Some i)
      → LeastFrom (is_place xs pattern) (i + 1) (field.start + (field.length - pattern.length) + 1) (Some j)
      → Greatest (drop i xs) (drop j xs) e
      → extent ≡ min (j - i + e - pattern.length) (field.start + (field.length - pattern.length) + 1 - 1 - i)
      → Tells (is_place xs pattern) field.start (field.start + (field.length + 1 - pattern.length)) (Some (triple i (j - i) (1 + extent / (j - i))))
  places_told extent first second agree is =
      let q = j - i in
      let b = field.start + (field.length - pattern.length) + 1 in
      let lies = first.1 in
      let next : i + q ≡ j = omega (arith, second.0) in
      let at_next = subst (λ n. is_place xs pattern n ≡ true) (sym next) second.2 in
      let between = subst (λ n. NoneFrom (is_place xs pattern) (i + 1) n) (sym next) second.3 in
      let agree_next = subst (λ n. Greatest (drop i xs) (drop n xs) e) (sym next) agree in
      let some : 0 < q = omega (arith, second.0) in
      let ends : b ≡ field.start + (field.length + 1 - pattern.length) = omega arith in
      let steps = places_stepwise xs pattern field.start b i q e in_strip (omega arith) (omega arith) some first.0 (omega (arith, second.1)) first.2 at_next first.3 between agree_next in
      let steps_b = subst (λ n. Stepwise (is_place xs pattern) field.start b i q (1 + n / q)) (sym is) steps in
      let hit = steps_b.only j (omega (arith, first.0, second.0)) second.1 second.2 in
      (proper extent q hit.0 some hit.1 (omega (arith, hit.2)), subst (λ n. Stepwise (is_place xs pattern) field.start n i q (1 + extent / q)) ends steps_b)
    where
      proper : (r q k : ℕ) → 0 < q → k < 1 + r / q → q ≡ k * q → Proper (triple i q (1 + r / q))
      proper r q zero some less is_q = absurd (omega arith)
      proper r q (suc k) some less is_q = record { some = omega arith; alone = λ one. absurd (omega arith); still = λ none. absurd (omega arith) }

-- what an answer that names the places says
module _ (xs : List ℕ) (pattern field : Fragment) (in_strip : pattern.start + pattern.length ≤ length xs) (in_field : field.start + field.length ≤ length xs) where
  -- a number is among the places exactly when the pattern stands there in the field
  pub place_among : (i : ℕ) → ContainsAt (places_of xs pattern field) i ↔ PlaceIn xs pattern field i
  place_among i =
      let size = field.length + 1 - pattern.length in (
        λ has.
            let kept = pass_from_has (is_place xs pattern) field.start size i has in
            place_from_test xs pattern in_strip field i kept.0 (omega (arith, kept.0, kept.1)) kept.2,
        λ place.
            has_from_pass (is_place xs pattern) field.start size i place.begins (omega (arith, place.begins, place.ends)) (test_from_place xs pattern in_strip field i in_field place),
      )

  pub places_named : (answer : Option Progression) → Names answer (places_of xs pattern field) → PlacesNamed xs pattern field answer
  places_named answer names =
      record {
        names = names;
        ascending = subst (λ ys. IsStrictlyIncreasing ys) (sym names.all) (passes_ascend (is_place xs pattern) field.start (field.length + 1 - pattern.length));
        exact = λ i. subst (λ ys. ContainsAt ys i ↔ PlaceIn xs pattern field i) (sym names.all) (place_among i);
      }
