-- A number is read digit by digit. Assumes nothing.
use Rattle.std.proofs.Common.{◌≡◌, ℕ, ◌+◌, ◌-◌, ◌*◌, ◌<◌, ◌≤◌, true, false, cond, ◌&&◌, ltb, List, [], ◌∷◌, length, get_or, drop, Some, None, Option, sym, refl, ap, ◌∙◌, arith}
use Rattle.std.specs.Char.{is_ascii_digit}
use Rattle.std.specs.Str.{all_ascii_digits}
use Rattle.std.proofs.lemmas.List.{at_drop_more, at_drop_all}
use Rattle.std.proofs.lemmas.Bool.{cond-true, cond-false, and_right, le-ltb, lt-ltb}
use Rattle.std.proofs.lemmas.Bool.Decides.{nat_tests}
use Rattle.std.specs.declared.result.Result.{Result}
use Rattle.std.specs.declared.result.Result.TheVariants.{Ok, Err}
use Rattle.std.specs.Result.{OkIff, result_ok}
use Rattle.ask.specs.Numbers.{value_after, number_below}

-- what comes of a number that has been read and the digits that follow
abbrev pub read_on : ℕ → ℕ → List ℕ → Option ℕ
read_on limit n bs = cond (all_ascii_digits bs && ltb (value_after n bs) limit) (Some (value_after n bs)) None

pub number_reads : (limit : ℕ) (bs : List ℕ) → (length bs ≡ 0 → ⊥) → number_below limit bs ≡ read_on limit 0 bs
unfolding number_below
number_reads limit [] some = absurd (some refl)
number_reads limit (b ∷ bs) some = refl

pub no_number : (limit : ℕ) (bs : List ℕ) → length bs ≡ 0 → number_below limit bs ≡ None
unfolding number_below
no_number limit [] none = refl
no_number limit (b ∷ bs) none = absurd (omega arith)

-- digits only add to a number
value_grows : (n : ℕ) (bs : List ℕ) → n ≤ value_after n bs
value_grows n [] = omega arith
value_grows n (b ∷ bs) = let more = value_grows (n * 10 + (b - 48)) bs in omega arith

too_large : (limit n : ℕ) (bs : List ℕ) → limit ≤ n → read_on limit n bs ≡ None
too_large limit n bs h =
    let more = value_grows n bs in
    cond-false _ _ _ (and_right (all_ascii_digits bs) _ (le-ltb (value_after n bs) limit (omega arith)))

-- one digit more; none, when the byte is no digit or the number is too large
pub read_digit : (limit n : ℕ) (bs : List ℕ) (i : ℕ) → i < length bs → is_ascii_digit (get_or bs i 0) ≡ true → read_on limit n (drop i bs) ≡ read_on limit (n * 10 + (get_or bs i 0 - 48)) (drop (i + 1) bs)
read_digit limit n bs i h e = at_drop_more (read_on limit n) bs i 0 h ∙ ap (λ t. cond ((t && all_ascii_digits (drop (i + 1) bs)) && ltb (value_after n (get_or bs i 0 ∷ drop (i + 1) bs)) limit) (Some (value_after n (get_or bs i 0 ∷ drop (i + 1) bs))) None) e

pub read_other : (limit n : ℕ) (bs : List ℕ) (i : ℕ) → i < length bs → is_ascii_digit (get_or bs i 0) ≡ false → read_on limit n (drop i bs) ≡ None
read_other limit n bs i h e = at_drop_more (read_on limit n) bs i 0 h ∙ ap (λ t. cond ((t && all_ascii_digits (drop (i + 1) bs)) && ltb (value_after n (get_or bs i 0 ∷ drop (i + 1) bs)) limit) (Some (value_after n (get_or bs i 0 ∷ drop (i + 1) bs))) None) e

pub read_past : (limit n : ℕ) (bs : List ℕ) (i : ℕ) → i < length bs → is_ascii_digit (get_or bs i 0) ≡ true → limit ≤ n * 10 + (get_or bs i 0 - 48) → read_on limit n (drop i bs) ≡ None
read_past limit n bs i h e over = read_digit limit n bs i h e ∙ too_large limit _ (drop (i + 1) bs) over

pub read_all : (limit n : ℕ) (bs : List ℕ) (i : ℕ) → length bs ≤ i → n < limit → read_on limit n (drop i bs) ≡ Some n
read_all limit n bs i h fits = at_drop_all (read_on limit n) bs i h ∙ cond-true (ltb n limit) _ _ (lt-ltb n limit fits)

-- a smaller limit leaves a number that is below it, and no other
module _ (least most : ℕ) where
  pub narrow_none : (bs : List ℕ) → least ≤ most → number_below most bs ≡ None → number_below least bs ≡ None
  unfolding number_below
  narrow_none [] h e = refl
  narrow_none (b ∷ bs) h e = grind (arith, nat_tests)

  pub narrow_some : (bs : List ℕ) (n : ℕ) → n < least → number_below most bs ≡ Some n → number_below least bs ≡ Some n
  unfolding number_below
  narrow_some [] n h e = e
  narrow_some (b ∷ bs) n h e = grind (arith, nat_tests)

  pub narrow_over : (bs : List ℕ) (n : ℕ) → number_below most bs ≡ Some n → (n < least → ⊥) → number_below least bs ≡ None
  unfolding number_below
  narrow_over [] n e h = refl
  narrow_over (b ∷ bs) n e h = grind (arith, nat_tests)

  pub narrow_to : {E : Type 0} (bs : List ℕ) (n : ℕ) (r : Result ℕ E) → number_below most bs ≡ Some n → OkIff r (n < least) n → result_ok r ≡ number_below least bs
  narrow_to bs n (Ok m) e fits = ap Some fits.1 ∙ sym (narrow_some bs n fits.0 e)
  narrow_to bs n (Err x) e over = sym (narrow_over bs n e over)

pub ruleset narrowing = (narrow_none, narrow_to)
