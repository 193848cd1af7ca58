-- Rounds run one after another in place, and what the last of them leaves. Assumes nothing.
use Rattle.std.proofs.Common.{◌≡◌, ℕ, suc, ◌+◌, ◌-◌, ◌%◌, ◌<◌, ◌≤◌, ltb, eqb, ◌⊎◌, List, ◌++◌, length, take, drop, Some, None, Ok, Err, Option, Result, sym, refl, ap, ◌∙◌, subst, inl, inr, arith, length-take, length-append, length-drop}
use Rattle.std.proofs.lemmas.List.{take-take, take-append-le, length-take-le}
use Rattle.std.proofs.lemmas.Bool.{cond_both, cond-true, cond-false, eq-eqb, ne_eqb}
use Rattle.rows.specs.declared.Row.{Row}
use Rattle.rows.specs.Rounds.{blocks, stretches, pairs, then, file_all, Settled, rounds_from, enough_rounds}
use Rattle.rows.proofs.Counts.{string_stops_first, settle_from_leaves, rounds_kept}
use Rattle.rows.proofs.NamingFacts.{file_all_grows, rounds_stop, rounds_go, rounds_spent}
use Rattle.recompression.specs.InPlace.{Ran}
use Rattle.recompression.specs.Settlements.{all_rounds, reached_with, reached, settlement_of, settlement, RunThrough, StopsFirstAt, KeepsRounds}
use Rattle.recompression.specs.declared.table.settle.Reached.{Reached}
use Rattle.recompression.specs.declared.table.settle.Unsettled.{Unsettled}
use Rattle.recompression.specs.declared.table.settle.Unsettled.TheVariants.{TooLong, Full}
use Rattle.recompression.proofs.RoundFacts.{begins_with_more}

pub odd_blocks : (k : ℕ) (s : List ℕ) → k % 2 ≡ 1 → stretches s ≡ blocks k s
unfolding blocks
odd_blocks k s odd = sym (cond-true (eqb (k % 2) 1) (stretches s) (pairs k s) (eq-eqb (k % 2) 1 odd))

pub even_blocks : (k : ℕ) (s : List ℕ) → (k % 2 ≡ 1 → ⊥) → pairs k s ≡ blocks k s
unfolding blocks
even_blocks k s even = sym (cond-false (eqb (k % 2) 1) (stretches s) (pairs k s) (ne_eqb (k % 2) 1 even))

-- after k rounds, the string is in the first `size` numbers, and the rounds that are left come to the same
pub record Running (first : List Row) (old : List ℕ) (most k size : ℕ) (rows : List Row) (numbers : List ℕ) : Type 0 where
  pub few : size ≤ length old
  pub spent : k ≤ most
  pub long : length numbers ≡ length old
  pub rest : all_rounds first old ≡ rounds_from (most - k) k (record { numbers = take size numbers; rows = rows })
  pub begins : take (length first) rows ≡ first

module _ {first : List Row} {old : List ℕ} {most k size : ℕ} {rows : List Row} {numbers : List ℕ} (g : Running first old most k size rows numbers) where
  string_long : length (take size numbers) ≡ size
  string_long = length-take-le size numbers (omega (arith, g.few, g.long))

  next_round : 2 ≤ size → k < most → all_rounds first old ≡ then (file_all (k + 1) (blocks (k + 1) (take size numbers)) rows) (rounds_from (most - (k + 1)) (k + 1))
  next_round two more =
      let one_fewer : most - k ≡ suc (most - (k + 1)) = omega arith in
      g.rest ∙ ap (λ n. rounds_from n k (record { numbers = take size numbers; rows = rows })) one_fewer
      ∙ rounds_go (most - (k + 1)) k (record { numbers = take size numbers; rows = rows }) (omega (arith, string_long))

  module _ (two : 2 ≤ size) (more : k < most) (round : ℕ) (is_next : round ≡ k + 1) (grown : List Row) (part : List ℕ) where
    pub running_more : (m next : ℕ) → next ≡ k + 1 → length part ≡ size → Ran round (blocks round (take size numbers)) rows (Some m) grown part
        → Running first old most next m grown (part ++ drop size numbers)
    running_more m next after same ran =
        let there = subst (λ r. Ran r (blocks r (take size numbers)) rows (Some m) grown part) is_next ran in
        let all = file_all_grows (k + 1) (blocks (k + 1) (take size numbers)) rows (record { numbers = take m part; rows = grown }) there.1 in
        subst (λ j. Running first old most j m grown (part ++ drop size numbers)) (sym after) (record {
          few = omega (arith, there.0, g.few);
          spent = omega arith;
          long = simp (length-append, length-drop) (omega (arith, g.few, g.long));
          rest =
              next_round two more ∙ ap (λ o. then o (rounds_from (most - (k + 1)) (k + 1))) there.1
              ∙ ap (λ ns. rounds_from (most - (k + 1)) (k + 1) (record { numbers = ns; rows = grown })) (sym (take-append-le m part (drop size numbers) there.0));
          begins = subst (λ rs. take (length first) rs ≡ first) (sym all.grows) (begins_with_more first rows all.added g.begins);
        })

    pub running_full : Ran round (blocks round (take size numbers)) rows None grown part → RunThrough first old None grown
    running_full ran =
        let there = subst (λ r. Ran r (blocks r (take size numbers)) rows None grown part) is_next ran in
        let shorter : length first ≤ length rows = let l = length-take (length first) rows in let e = ap length g.begins in omega arith in (
          next_round two more ∙ ap (λ o. then o (rounds_from (most - (k + 1)) (k + 1))) there.0,
          sym (take-take (length first) (length rows) grown shorter) ∙ ap (take (length first)) there.1 ∙ g.begins,
        )

  pub running_done : (size < 2) ⊎ (most ≤ k) → RunThrough first old (Some (reached_with (take size numbers) k)) rows
  running_done done = (record { numbers = take size numbers; rows = rows; rounds = k }, g.rest ∙ last done, refl, refl)
    where
      last : (size < 2) ⊎ (most ≤ k) → rounds_from (most - k) k (record { numbers = take size numbers; rows = rows }) ≡ Some (record { numbers = take size numbers; rows = rows; rounds = k })
      last (inl short) = rounds_stop (most - k) k (record { numbers = take size numbers; rows = rows }) (omega (arith, string_long))
      last (inr over) = let z : most - k ≡ 0 = omega arith in ap (λ n. rounds_from n k (record { numbers = take size numbers; rows = rows })) z ∙ rounds_spent k (record { numbers = take size numbers; rows = rows })

-- what holds of each string that the rounds come to the end of holds of what is answered of a string
module _ (rows : List Row) (numbers : List ℕ) (holds : Result Reached Unsettled → List Row → Type 0) (of_refused : (e : Unsettled) → holds (Err e) rows)
    (of_reached : (s : Settled) → all_rounds rows numbers ≡ Some s → holds (Ok (reached s)) s.rows) where
  of_settlement_of : (o : Option Settled) → all_rounds rows numbers ≡ o → holds (settlement_of rows o).answer (settlement_of rows o).rows
  of_settlement_of None is = of_refused Full
  of_settlement_of (Some s) is = of_reached s is

  of_settlement : holds (settlement rows numbers).answer (settlement rows numbers).rows
  of_settlement = cond_both (ltb 65535 (length numbers)) (record { answer = Err TooLong; rows = rows }) (settlement_of rows (all_rounds rows numbers)) (λ t. holds t.answer t.rows)
      (λ e. of_refused TooLong) (λ e. of_settlement_of (all_rounds rows numbers) refl)

-- the laws of the rounds, of what is answered of a string
first_of_all : (rows : List Row) (numbers : List ℕ) → StopsFirstAt rows numbers (settlement rows numbers).answer
first_of_all rows numbers = of_settlement rows numbers (λ answer after. StopsFirstAt rows numbers answer) (λ e. tt)
    (λ s is j below. string_stops_first (enough_rounds (length numbers)) (record { numbers = numbers; rows = rows }) s j is below)

pub stops_first_at : (rows : List Row) (numbers : List ℕ) (r : Result Reached Unsettled) → r ≡ (settlement rows numbers).answer → StopsFirstAt rows numbers r
stops_first_at rows numbers r is = subst (StopsFirstAt rows numbers) (sym is) (first_of_all rows numbers)

kept_of_all : (rows : List Row) (numbers : List ℕ) → KeepsRounds rows numbers (settlement rows numbers).answer (settlement rows numbers).rows
kept_of_all rows numbers = of_settlement rows numbers (KeepsRounds rows numbers) (λ e. tt)
    (λ s is old codes law short filed. rounds_kept old codes s law short (settle_from_leaves old rows codes numbers filed ∙ is))

pub keeps_rounds : (rows : List Row) (numbers : List ℕ) (r : Result Reached Unsettled) (after : List Row) → r ≡ (settlement rows numbers).answer → after ≡ (settlement rows numbers).rows
    → KeepsRounds rows numbers r after
keeps_rounds rows numbers r after is left =
    subst (λ a. KeepsRounds rows numbers a after) (sym is) (subst (KeepsRounds rows numbers (settlement rows numbers).answer) (sym left) (kept_of_all rows numbers))
