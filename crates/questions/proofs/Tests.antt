-- Tests by the longest common extension, and what a search by a test finds. Assumes nothing.
use Rattle.std.proofs.Common.{◌≡◌, ℕ, ◌+◌, ◌-◌, ◌<◌, ◌≤◌, true, false, Bool, List, [], ◌∷◌, length, drop, Some, None, Option, sym, ap, subst, ◌∙◌, inl, inr, arith}
use Rattle.std.specs.Fn.{CalledAt}
use Rattle.std.specs.Iterator.{Yields, FindsItem}
use Rattle.std.specs.List.{FoldsTo}
use Rattle.std.specs.declared.ops.Range.{Range}
use Rattle.std.proofs.iter.runs.Sources.{nat_range_steps_back}
use denote.Param.Members.{Mut}
use denote.Ref.{Bor}
use Rattle.std.specs.Prelude.{nat_le, MatchOption}
use Rattle.std.proofs.lemmas.Bool.{cases_Bool, leb-true, leb-false}
use Rattle.periodicity.specs.declared.Fragment.{Fragment}
use Rattle.periodicity.specs.Agreement.{Greatest}
use Rattle.periodicity.specs.Fragments.{cut}
use Rattle.periodicity.specs.Places.{is_place}
use Rattle.periodicity.specs.Overlaps.{is_overlap}
use Rattle.periodicity.specs.Ranges.{NoneFrom, LeastFrom, GreatestFrom}
use Rattle.periodicity.proofs.Ranges.{none_more}
use Rattle.periodicity.proofs.Extensions.{place_from_common, no_place_from_common, overlap_from_common, no_overlap_from_common}

-- the pattern stands at a place exactly when at least its codes agree
pub place_test : (xs : List ℕ) (pattern : Fragment) (i n : ℕ) → pattern.start + pattern.length ≤ length xs → i + pattern.length ≤ length xs
    → Greatest (drop pattern.start xs) (drop i xs) n → nat_le pattern.length n ≡ is_place xs pattern i
place_test xs pattern i n in_strip room agree =
    elim (cases_Bool (nat_le pattern.length n)) [
      | inl passes ↦ passes ∙ sym (place_from_common xs pattern i n in_strip room agree (leb-true pattern.length n passes))
      | inr fails ↦ fails ∙ sym (no_place_from_common xs pattern i n in_strip room agree (leb-false pattern.length n fails))
    ]

-- two fragments overlap in so many codes exactly when at least as many agree
pub overlap_test : (xs : List ℕ) (first second : Fragment) (l n : ℕ) → first.start + first.length ≤ length xs → second.start + second.length ≤ length xs
    → l ≤ first.length → l ≤ second.length → Greatest (drop first.start xs) (drop (second.start + (second.length - l)) xs) n
    → nat_le l n ≡ is_overlap (cut xs first) (cut xs second) l
overlap_test xs first second l n in_first in_second short fits agree =
    elim (cases_Bool (nat_le l n)) [
      | inl passes ↦ passes ∙ sym (overlap_from_common xs first second l n in_first in_second short fits agree (leb-true l n passes))
      | inr fails ↦ fails ∙ sym (no_overlap_from_common xs first second l n in_first in_second short fits agree (leb-false l n fails))
    ]

-- what a search finds from the front of a range on
pub least_found : (test : ℕ → Bool) (a b : ℕ) (r : Option ℕ)
    → MatchOption r (NoneFrom test a b) (λ x. (a ≤ x) × (x < b) × (test x ≡ true) × NoneFrom test a x) → LeastFrom test a b r
least_found test a b None found = found
least_found test a b (Some x) found = found

-- .. and from the back
module _ (test : ℕ → Bool) {F : Type 0} (g : Mut F (Bor ℕ × Unit {0}) Bool) (f : F)
    (computes : (x : ℕ) (b : Bool) (q : F) → CalledAt g f x b q → (q ≡ f) × (b ≡ test x)) where
  passed : (xs : List ℕ) (s t : Range ℕ) (j : F) → Yields nat_range_steps_back s xs t → FoldsTo (λ p x q. CalledAt g p x false q) f xs j
      → (t.start ≡ s.start) × (t.end ≤ s.end) × (j ≡ f) × NoneFrom test t.end s.end
  passed [] s t j y k = (ap (λ (r : Range ℕ). r.start) (sym y), omega (arith, ap (λ (r : Range ℕ). r.end) y), sym k, λ i lo hi. absurd (omega (arith, ap (λ (r : Range ℕ). r.end) y)))
  passed (x ∷ xs) s t j y k =
      let e = computes x false k.0 k.1 in
      let rest = passed xs y.0 t j y.2 (subst (λ p. FoldsTo (λ p x q. CalledAt g p x false q) p xs j) e.0 k.2) in
      let none : NoneFrom test t.end (y.0.end + 1) = none_more test t.end y.0.end rest.3 (ap test (sym y.1.1.1) ∙ sym e.1) in
      (rest.0 ∙ y.1.0, omega (arith, rest.1, y.1.1.2), rest.2, subst (λ b. NoneFrom test t.end b) (sym y.1.1.2) none)

  pub greatest_found : (s u : Range ℕ) (r : Option ℕ) → FindsItem nat_range_steps_back g s f r u → GreatestFrom test s.start s.end r
  greatest_found s u None found =
      let behind = passed found.0 s found.2.0 found.1 found.2.1 found.3 in
      λ i lo hi. behind.3 i (omega (arith, behind.0, found.2.2.1.0)) hi
  greatest_found s u (Some x) found =
      let behind = passed found.0 s found.2.0 found.1 found.2.1 found.3 in
      let step = found.2.2 in
      let passes = computes x true found.4.0 (subst (λ p. CalledAt g p x true found.4.0) behind.2 found.4.1) in (
        omega (arith, behind.0, step.1.0, step.1.1, step.1.2),
        omega (arith, behind.1, step.1.1, step.1.2),
        sym passes.1,
        λ i lo hi. behind.3 i (omega (arith, step.1.1, step.1.2)) hi,
      )
