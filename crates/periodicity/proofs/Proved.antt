-- The laws of periodicity. Assumes nothing.
use Rattle.std.proofs.Common.{◌≡◌, ℕ, ◌+◌, ◌-◌, ◌*◌, ◌/◌, ◌%◌, ◌<◌, ◌≤◌, min, Bool, List, length, drop, Some, None, filter, Option, sym, refl, subst, inl, inr, arith}
use Rattle.std.proofs.lemmas.Nat.{mod_below}
use Rattle.std.proofs.lemmas.Bool.{cases_eq, cases_lt, leb-true}
use Rattle.std.specs.List.{range_with_len}
use Rattle.periodicity.specs.declared.Fragment.{Fragment}
use Rattle.periodicity.specs.declared.Progression.{Progression}
use Rattle.periodicity.specs.Agreement.{common}
use Rattle.periodicity.specs.Laws.{TestsHold, CommonGreatest, DifferenceRepeats, LeastDivides, OverlapsProgress, PlacesProgress, OverlapsExact, PlacesExact, RecordsName}
use Rattle.periodicity.specs.Overlaps.{is_overlap}
use Rattle.periodicity.specs.Places.{is_place}
use Rattle.periodicity.specs.Progressions.{progression_of, triple, Names}
use Rattle.periodicity.specs.Ranges.{LeastFrom, Tells}
use Rattle.periodicity.proofs.Agreements.{common_greatest}
use Rattle.periodicity.proofs.OverlapsTold.{overlaps_tell, overlap_among}
use Rattle.periodicity.proofs.PlacesTold.{places_told, place_among}
use Rattle.periodicity.proofs.Ranges.{progression_of_tells, names_tells, least_in, stepwise_one}
use Rattle.periodicity.proofs.RecordsTold.{written_named}
use Rattle.periodicity.proofs.Repeats.{repeats_less, repeats_mod}
use Rattle.periodicity.proofs.Sameness.{at, equal_from_same, same_from_equal, period_from_test, test_from_period}

pub tests_hold : TestsHold
tests_hold = (λ xs ys. (equal_from_same xs ys, same_from_equal xs ys), λ xs p. (period_from_test xs p, test_from_period xs p))

pub greatest_common : CommonGreatest
greatest_common xs ys = common_greatest xs ys

pub difference_repeats : DifferenceRepeats
difference_repeats xs p q le fits has_p has_q = repeats_less (at xs) (length xs) p q le fits has_p has_q

pub least_divides : LeastDivides
least_divides xs p q some has_p least has_q fits =
    let small = mod_below q p some in
    elim (cases_eq (q % p) 0) [
      | inl zero_rest ↦ zero_rest
      | inr rest ↦ absurd (least (q % p) (omega arith) small (repeats_mod (at xs) (length xs) q p fits has_q has_p))
    ]

-- an answer that tells a filtered range is the one that the list tells
named_by_told : (test : ℕ → Bool) (a c : ℕ) (answer : Option Progression) → Tells test a (a + c) answer
    → Names (progression_of (filter test (range_with_len a c))) (filter test (range_with_len a c))
named_by_told test a c answer tells =
    subst (λ o. Names o (filter test (range_with_len a c))) (sym (progression_of_tells test a c answer tells)) (names_tells test a c answer tells)

pub overlaps_progress : OverlapsProgress
overlaps_progress first second d = let tell = overlaps_tell first second d in named_by_told (is_overlap first second) d d tell.0 tell.1

-- the places of a pattern in a field that is at least as long
module _ (xs : List ℕ) (pattern field : Fragment) (in_strip : pattern.start + pattern.length ≤ length xs) (in_field : field.start + field.length ≤ length xs)
    (near : field.length < 2 * pattern.length) (long : pattern.length ≤ field.length) where
  end : ℕ
  end = field.start + (field.length - pattern.length) + 1

  from_second : (i : ℕ) → LeastFrom (is_place xs pattern) field.start end (Some i) → (r : Option ℕ) × LeastFrom (is_place xs pattern) (i + 1) end r
      → (answer : Option Progression) × Tells (is_place xs pattern) field.start (field.start + (field.length + 1 - pattern.length)) answer
  unfolding end
  from_second i first (None, none) = (
    Some (triple i 0 1),
    (
      record { some = omega arith; alone = λ one. refl; still = λ step. refl },
      stepwise_one (is_place xs pattern) field.start (field.start + (field.length + 1 - pattern.length)) i first.0 (omega (arith, first.1)) first.2 first.3
          (λ n lo hi. none n lo (omega arith)),
    ),
  )
  from_second i first (Some j, second) =
      let e = common (drop i xs) (drop j xs) in (
        Some (triple i (j - i) (1 + min (j - i + e - pattern.length) (field.start + (field.length - pattern.length) + 1 - 1 - i) / (j - i))),
        places_told xs pattern field i j e in_strip in_field near long (min (j - i + e - pattern.length) (field.start + (field.length - pattern.length) + 1 - 1 - i))
            first second (common_greatest (drop i xs) (drop j xs)) refl,
      )

  from_first : (r : Option ℕ) × LeastFrom (is_place xs pattern) field.start end r
      → (answer : Option Progression) × Tells (is_place xs pattern) field.start (field.start + (field.length + 1 - pattern.length)) answer
  unfolding end
  from_first (None, none) = (None, λ n lo hi. none n lo (omega arith))
  from_first (Some i, first) =
      let found = least_in (is_place xs pattern) (i + 1) (end - (i + 1)) in
      let back : i + 1 + (end - (i + 1)) ≡ end = omega (arith, first.1) in
      from_second i first (found.0, subst (λ b. LeastFrom (is_place xs pattern) (i + 1) b found.0) back found.1)

  places_tell : (answer : Option Progression) × Tells (is_place xs pattern) field.start (field.start + (field.length + 1 - pattern.length)) answer
  unfolding end
  places_tell =
      let found = least_in (is_place xs pattern) field.start (field.length - pattern.length + 1) in
      let same_end : field.start + (field.length - pattern.length + 1) ≡ end = omega arith in
      from_first (found.0, subst (λ b. LeastFrom (is_place xs pattern) field.start b found.0) same_end found.1)

pub places_progress : PlacesProgress
places_progress xs pattern field lies_pattern lies_field near =
    let in_strip = leb-true (pattern.start + pattern.length) (length xs) lies_pattern in
    let in_field = leb-true (field.start + field.length) (length xs) lies_field in
    let size = field.length + 1 - pattern.length in
    elim (cases_lt field.length pattern.length) [
      | inl short ↦ named_by_told (is_place xs pattern) field.start size None (λ n lo hi. absurd (omega arith))
      | inr long ↦ let tell = places_tell xs pattern field in_strip in_field near long in named_by_told (is_place xs pattern) field.start size tell.0 tell.1
    ]

pub overlaps_exact : OverlapsExact
overlaps_exact first second d n = overlap_among first second d n

pub places_exact : PlacesExact
places_exact xs pattern field lies_pattern lies_field i =
    let in_strip = leb-true (pattern.start + pattern.length) (length xs) lies_pattern in
    let in_field = leb-true (field.start + field.length) (length xs) lies_field in
    place_among xs pattern field in_strip in_field i

pub records_name : RecordsName
records_name xs some short = written_named xs some short
