-- That the extensions that are defined are the greatest, and no other answer is. Assumes nothing.
use Rattle.std.proofs.Common.{◌≡◌, ℕ, ◌-◌, ◌≤◌, List, reverse, length, take, drop, Some, None, Option, sym, refl, ap, ap₂, ◌∙◌, length-drop, take_all, inl, inr, arith}
use Rattle.periodicity.specs.Agreement.{common, ahead_of, behind_of}
use Rattle.periodicity.proofs.Agreements.{ahead_within, ahead_present, ahead_absent, behind_present, behind_absent}
use Rattle.keepers.specs.declared.side.Side.{Side}
use Rattle.keepers.specs.declared.side.Side.TheVariants.{Ahead, Behind}
use Rattle.keepers.specs.Sides.{extension_of, ExtensionsGreatest}
use Rattle.keepers.specs.Extensions.{Longest, LongestWithin, GreatestAhead, GreatestBehind}

module _ (strip : List ℕ) (i j : ℕ) where
  pub ahead_greatest : (answer : Option ℕ) → answer ≡ ahead_of strip i j → GreatestAhead strip i j answer
  ahead_greatest None e = ahead_absent strip i j (sym e)
  ahead_greatest (Some n) e =
      let found = ahead_present strip i j n (sym e) in
      record { first_within = found.0; second_within = found.1; agreeing = found.2 }

  pub behind_greatest : (answer : Option ℕ) → answer ≡ behind_of strip i j → GreatestBehind strip i j answer
  behind_greatest None e = behind_absent strip i j (sym e)
  behind_greatest (Some n) e =
      let found = behind_present strip i j n (sym e) in
      record { first_within = found.0; second_within = found.1; agreeing = found.2 }

  -- two answers that are the greatest are one
  module _ (left right : List ℕ) where
    absent_or_within : (n : ℕ) → Longest strip i j left right None → LongestWithin strip i j left right n → ⊥
    absent_or_within n (inl past) within = absurd (omega (arith, within.first_within))
    absent_or_within n (inr past) within = absurd (omega (arith, within.second_within))

    one_greatest : (a b : Option ℕ) → Longest strip i j left right a → Longest strip i j left right b → a ≡ b
    one_greatest None None one other = refl
    one_greatest None (Some n) one other = absurd (absent_or_within n one other)
    one_greatest (Some n) None one other = absurd (absent_or_within n other one)
    one_greatest (Some n) (Some m) one other =
        let up : n ≤ m = other.agreeing.most n one.agreeing.agree in
        let down : m ≤ n = one.agreeing.most m other.agreeing.agree in
        ap Some (let same : n ≡ m = omega arith in same)

pub extensions_greatest : ExtensionsGreatest
extensions_greatest Ahead strip i j answer = (
  ahead_greatest strip i j answer,
  λ greatest. one_greatest strip i j (drop i strip) (drop j strip) answer (ahead_of strip i j) greatest (ahead_greatest strip i j (ahead_of strip i j) refl),
)
extensions_greatest Behind strip i j answer = (
  behind_greatest strip i j answer,
  λ greatest. one_greatest strip i j (reverse (take i strip)) (reverse (take j strip)) answer (behind_of strip i j) greatest (behind_greatest strip i j (behind_of strip i j) refl),
)

-- the slices from two places on reach to the end of the strip
pub ahead_counted : (side : Side) (xs : List ℕ) (i j n : ℕ) → side ≡ Ahead → i ≤ length xs → j ≤ length xs → n ≡ common (take (length xs - i) (drop i xs)) (take (length xs - j) (drop j xs)) → Some n ≡ extension_of side xs i j
ahead_counted side xs i j n is i_in j_in counted =
    let left = take_all (length xs - i) (drop i xs) (omega (arith, length-drop {A = ℕ})) in
    let right = take_all (length xs - j) (drop j xs) (omega (arith, length-drop {A = ℕ})) in
    ap Some (counted ∙ ap₂ common left right) ∙ sym (ahead_within xs i j i_in j_in) ∙ ap (λ s. extension_of s xs i j) (sym is)
