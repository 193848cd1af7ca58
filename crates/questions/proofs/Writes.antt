-- The records of the periods, as an iterator gives them. Assumes nothing.
use Rattle.std.proofs.Common.{◌≡◌, ℕ, ◌+◌, ◌-◌, ◌≤◌, List, [], ◌∷◌, ◌++◌, length, take, replicate, Some, None, Option, zero, suc, sym, refl, ap, subst, ◌∙◌, arith, length-append, zero-add}
use Rattle.std.proofs.Math.Seq.{take-append-add}
use lib.ListN.{length-replicate}
use Rattle.std.proofs.lemmas.List.{take-replicate}
use Rattle.std.proofs.lemmas.Iterator.{YieldsList}
use Rattle.std.proofs.lemmas.Iterator.Consumers.{YieldsList-from_shown}
use Rattle.std.proofs.iter.runs.Sources.{nat_range_steps_back}
use Rattle.std.specs.Iterator.Adapters.{rev_source, rev_steps}
use Rattle.std.specs.List.{filter_map, cons_option}
use Rattle.std.specs.Option.{option_to_list}
use Rattle.std.specs.declared.iter.Rev.{Rev}
use Rattle.std.specs.declared.ops.Range.{Range}
use Rattle.periodicity.specs.declared.Progression.{Progression}
use Rattle.periodicity.specs.Periods.{periods_in, records_below, records_of, written_records}
use Rattle.periodicity.specs.Progressions.{progression_of, triple}
use Rattle.periodicity.proofs.RecordsTold.{records_few}

-- the numbers from a on, so many of them, backwards
abbrev pub down : ℕ → ℕ → List ℕ
down a zero = []
down a (suc n) = (a + n) ∷ down a n

shown : Range ℕ → List ℕ
shown r = down r.start (r.end - r.start)

-- a range from its back gives them
pub yields_down : {s : Rev (Range ℕ)} (n : ℕ) → rev_source s ≡ record { start = 0; end = n } → YieldsList (rev_steps nat_range_steps_back) (λ x. x) s (down 0 n)
unfolding shown
yields_down {s} n e =
    let all : n - 0 ≡ n = omega arith in
    subst (λ xs. YieldsList (rev_steps nat_range_steps_back) (λ x. x) s xs) (ap shown e ∙ ap (down 0) all)
    (YieldsList-from_shown (rev_steps nat_range_steps_back) (λ x. x) (λ s. shown (rev_source s)) stops goes s)
  where
    stops : (s t : Rev (Range ℕ)) → rev_steps nat_range_steps_back s None t → length (shown (rev_source s)) ≡ 0
    stops s t h = ap (λ k. length (down (rev_source s).start k)) h.1.0

    goes : (s : Rev (Range ℕ)) (x : ℕ) (t : Rev (Range ℕ)) → rev_steps nat_range_steps_back s (Some x) t → shown (rev_source s) ≡ x ∷ shown (rev_source t)
    goes s x t h =
        let a = (rev_source s).start in
        let left = (rev_source t).end - (rev_source t).start in
        let many : (rev_source s).end - (rev_source s).start ≡ suc left = omega (arith, h.0, h.1.0, h.1.2) in
        let last : a + left ≡ x = omega (arith, h.0, h.1.0, h.1.1, h.1.2) in
        ap (down a) many ∙ ap (λ k. k ∷ down a left) last ∙ ap (λ k. x ∷ down k left) (sym h.0)

-- the records of the ranges, greatest first, and that of the length
kept_first : (o : Option Progression) (rs last : List Progression) → cons_option o rs ++ last ≡ option_to_list o ++ (rs ++ last)
kept_first None rs last = refl
kept_first (Some p) rs last = refl

pub records_listed : (w : List ℕ) (t : ℕ) → filter_map (λ t. progression_of (periods_in w t)) (down 0 t) ++ option_to_list (Some (triple (length w) 0 1)) ≡ records_below w t
unfolding records_below
records_listed w zero = refl
records_listed w (suc t) =
    ap (λ k. cons_option (progression_of (periods_in w k)) (filter_map (λ t. progression_of (periods_in w t)) (down 0 t)) ++ option_to_list (Some (triple (length w) 0 1))) (zero-add t)
    ∙ kept_first (progression_of (periods_in w t)) (filter_map (λ t. progression_of (periods_in w t)) (down 0 t)) (option_to_list (Some (triple (length w) 0 1)))
    ∙ ap (λ rs. option_to_list (progression_of (periods_in w t)) ++ rs) (records_listed w t)

records_some : (w : List ℕ) (t : ℕ) → 1 ≤ length (records_below w t)
unfolding records_below
records_some w zero = omega arith
records_some w (suc t) = omega (arith, records_some w t, length-append (option_to_list (progression_of (periods_in w t))) (records_below w t))

-- and zeros, 17 of all of them
pub all_written : (w : List ℕ) → (take 17 (records_of w ++ replicate 16 (triple 0 0 0)) ≡ written_records w) × (length (written_records w) ≡ 17)
unfolding written_records
all_written w =
    let few = records_few w 16 in
    let some = records_some w 16 in
    let many = length (records_of w) in
    let parts : 17 ≡ many + (17 - many) = omega arith in
    let zeros = replicate 16 (triple 0 0 0) in (
      ap (λ n. take n (records_of w ++ zeros)) parts ∙ take-append-add (records_of w) zeros (17 - many)
          ∙ ap (λ rs. records_of w ++ rs) (take-replicate (17 - many) 16 (triple 0 0 0) (omega arith)),
      simp (length-append, length-replicate) (omega arith),
    )
