-- A loop that counts what agrees, several codes at a time. Assumes nothing.
use Rattle.std.proofs.Common.{◌≡◌, ℕ, zero, suc, ◌+◌, ◌-◌, ◌<◌, ◌≤◌, max, List, reverse, length, get_or, take, drop, Some, sym, ap, ap₂, ◌∙◌, subst, arith}
use Rattle.periodicity.specs.Agreement.{common}
use Rattle.periodicity.proofs.Agreements.{behind_within, count_ahead_more, count_ahead_stops, drop_reverse}
use Rattle.rows.specs.declared.Row.{Row}
use Rattle.rows.specs.Strips.{strip}
use Rattle.keepers.specs.declared.side.Side.{Side}
use Rattle.keepers.specs.declared.side.Side.TheVariants.{Behind}
use Rattle.keepers.specs.Sides.{extension_of}
use Rattle.shelf_strip.specs.Sides.{seen}
use Rattle.shelf_strip.specs.Cursors.{at_place, Stands, Steps}
use Rattle.shelf_strip.proofs.CursorFacts.{under_plain}
use Rattle.shelf_strip.proofs.SeenFacts.{length_seen}

-- n codes are counted, and the rest of t still lies ahead
abbrev pub Counted : List ℕ → ℕ → ℕ → ℕ → ℕ → Type 0
Counted xs i j t n = n + common (drop n (drop i xs)) (drop n (drop j xs)) ≡ t

count_many : (xs : List ℕ) (i j t n r : ℕ) → Counted xs i j t n → n + r ≤ length xs - max i j → ((k : ℕ) → k < r → get_or xs (i + n + k) 0 ≡ get_or xs (j + n + k) 0) → Counted xs i j t (n + r)
count_many xs i j t n zero counted room each = let e : n ≡ n + 0 = omega arith in subst (Counted xs i j t) e counted
count_many xs i j t n (suc r) counted room each =
    let here : i + n + 0 ≡ i + n = omega arith in
    let there : j + n + 0 ≡ j + n = omega arith in
    let first = ap (λ p. get_or xs p 0) (sym here) ∙ each 0 (omega arith) ∙ ap (λ p. get_or xs p 0) there in
    let one : Counted xs i j t (n + 1) = count_ahead_more xs i j n t counted (omega arith) first in
    let rest = count_many xs i j t (n + 1) r one (omega arith) (λ k h.
    let left : i + (n + 1) + k ≡ i + n + suc k = omega arith in
    let right : j + (n + 1) + k ≡ j + n + suc k = omega arith in
    ap (λ p. get_or xs p 0) left ∙ each (suc k) (omega arith) ∙ ap (λ p. get_or xs p 0) (sym right)) in
    let e : n + 1 + r ≡ n + suc r = omega arith in
    subst (Counted xs i j t) e rest

module _ (side : Side) (rows : List Row) (number long : ℕ) (is : long ≡ length (strip rows number)) where
  same_long : long ≡ length (seen side rows number)
  same_long = is ∙ sym (length_seen side rows number)

  pub stands_at : (place : ℕ) → place < long → Stands side rows (at_place number long place)
  stands_at place inside = let l = same_long in record { within = omega arith; reaches = omega arith }

  module _ (i j t n r : ℕ) (inside : n < long - max i j) (steps : Steps side rows (at_place number long (i + n)) (at_place number long (j + n)) r) where
    pub step_fits : n + r ≤ long - max i j
    step_fits = let left = steps.left_short in let right = steps.right_short in omega arith

    pub step_counts : Counted (seen side rows number) i j t n → Counted (seen side rows number) i j t (n + r)
    step_counts counted =
        let l = same_long in
        let fits = step_fits in
        count_many (seen side rows number) i j t n r counted (omega arith) (λ k h.
        sym (under_plain side rows (at_place number long (i + n)) k (omega arith)) ∙ steps.each k h ∙ under_plain side rows (at_place number long (j + n)) k (omega arith))

    pub step_stops : Counted (seen side rows number) i j t n → r ≡ 0 → n ≡ t
    step_stops counted none =
        let l = same_long in
        let here : i + n + 0 ≡ i + n = omega arith in
        let there : j + n + 0 ≡ j + n = omega arith in
        count_ahead_stops (seen side rows number) i j n t counted (omega arith) (λ e.
        steps.stops none
        (under_plain side rows (at_place number long (i + n)) 0 (omega arith) ∙ ap (λ p. get_or (seen side rows number) p 0) here ∙ e
        ∙ sym (under_plain side rows (at_place number long (j + n)) 0 (omega arith) ∙ ap (λ p. get_or (seen side rows number) p 0) there)))

-- what lies before a place, going back, is what lies from it on, seen from the end
pub back_from : (xs : List ℕ) (long i : ℕ) → long ≡ length xs → i ≤ length xs → drop (long - i) (reverse xs) ≡ reverse (take i xs)
back_from xs long i is inside =
    let twice : length xs - (length xs - i) ≡ i = omega arith in
    ap (λ l. drop (l - i) (reverse xs)) is ∙ drop_reverse (length xs - i) xs (omega arith) ∙ ap (λ k. reverse (take k xs)) twice

-- so what agrees from two places on, seen from the end, is what agrees behind them
pub behind_seen : (side : Side) (xs : List ℕ) (long i j n : ℕ) → side ≡ Behind → long ≡ length xs → i ≤ length xs → j ≤ length xs → n ≡ common (drop (long - i) (reverse xs)) (drop (long - j) (reverse xs)) → Some n ≡ extension_of side xs i j
behind_seen side xs long i j n is same i_in j_in counted =
    let both = ap₂ common (back_from xs long i same i_in) (back_from xs long j same j_in) in
    ap Some (counted ∙ both) ∙ sym (behind_within xs i j i_in j_in) ∙ ap (λ s. extension_of s xs i j) (sym is)
