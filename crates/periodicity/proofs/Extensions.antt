-- Places and overlaps read off the longest common extension of two places. Assumes nothing.
use Rattle.std.proofs.Common.{◌≡◌, ℕ, ◌+◌, ◌-◌, ◌<◌, ◌≤◌, min, true, false, List, length, drop, Option, sym, ap, ◌∙◌, inl, inr, arith, length-drop, get_or-drop}
use Rattle.std.proofs.lemmas.Bool.{cases_Bool}
use Rattle.periodicity.specs.declared.Fragment.{Fragment}
use Rattle.periodicity.specs.Agreement.{Greatest}
use Rattle.periodicity.specs.Fragments.{cut}
use Rattle.periodicity.specs.Places.{is_place}
use Rattle.periodicity.specs.Overlaps.{is_overlap}
use Rattle.periodicity.specs.Ranges.{NoneFrom, GreatestFrom}
use Rattle.periodicity.proofs.Ranges.{greatest_further}
use Rattle.periodicity.proofs.Sameness.{at, at_part, length_part, match_from_place, place_from_match, room_from_overlap, fit_from_overlap, overlap_from_fit}

-- the strip agrees with itself for n codes from the pattern's start and from i on
module _ (xs : List ℕ) (pattern : Fragment) (i n : ℕ)
    (in_strip : pattern.start + pattern.length ≤ length xs) (room : i + pattern.length ≤ length xs)
    (agree : Greatest (drop pattern.start xs) (drop i xs) n) where
  pub place_from_common : pattern.length ≤ n → is_place xs pattern i ≡ true
  place_from_common enough =
      place_from_match xs pattern in_strip i room (λ k h.
      sym (at_part xs pattern.start pattern.length k h ∙ sym (get_or-drop pattern.start xs k 0) ∙ agree.agree.each k (omega arith) ∙ get_or-drop i xs k 0))

  pub no_place_from_common : n < pattern.length → is_place xs pattern i ≡ false
  no_place_from_common less =
      elim (cases_Bool (is_place xs pattern i)) [
        | inr no_place ↦ no_place
        | inl place ↦
            let match = match_from_place xs pattern in_strip i place in
            let most : pattern.length ≤ n =
            agree.most pattern.length (record {
              left_room = simp length-drop (omega arith);
              right_room = simp length-drop (omega arith);
              each = λ k h. get_or-drop pattern.start xs k 0 ∙ sym (at_part xs pattern.start pattern.length k h) ∙ sym (get_or-drop i xs k 0 ∙ match k h);
            }) in
            absurd (omega arith)
      ]

-- .. from the first fragment's start and from l codes before the second fragment's end on
module _ (xs : List ℕ) (first second : Fragment) (l n : ℕ)
    (in_first : first.start + first.length ≤ length xs) (in_second : second.start + second.length ≤ length xs)
    (short : l ≤ first.length) (fits : l ≤ second.length)
    (agree : Greatest (drop first.start xs) (drop (second.start + (second.length - l)) xs) n) where
  -- a code of the suffix
  suffix_at : (k : ℕ) → k < l → at (cut xs second) (length (cut xs second) - l + k) ≡ at (drop (second.start + (second.length - l)) xs) k
  suffix_at k h =
      let long = length_part xs second.start second.length in_second in
      let place : second.start + (length (cut xs second) - l + k) ≡ second.start + (second.length - l) + k = omega arith in
      at_part xs second.start second.length (length (cut xs second) - l + k) (omega arith)
      ∙ ap (at xs) place ∙ sym (get_or-drop (second.start + (second.length - l)) xs k 0)

  -- and of the prefix
  prefix_at : (k : ℕ) → k < l → at (cut xs first) k ≡ at (drop first.start xs) k
  prefix_at k h = at_part xs first.start first.length k (omega arith) ∙ sym (get_or-drop first.start xs k 0)

  pub overlap_from_common : l ≤ n → is_overlap (cut xs first) (cut xs second) l ≡ true
  overlap_from_common enough =
      let long_first = length_part xs first.start first.length in_first in
      let long_second = length_part xs second.start second.length in_second in
      overlap_from_fit (cut xs first) (cut xs second) l (omega arith) (omega arith)
      (λ k h. suffix_at k h ∙ sym (prefix_at k h ∙ agree.agree.each k (omega arith)))

  pub no_overlap_from_common : n < l → is_overlap (cut xs first) (cut xs second) l ≡ false
  no_overlap_from_common less =
      elim (cases_Bool (is_overlap (cut xs first) (cut xs second) l)) [
        | inr no_overlap ↦ no_overlap
        | inl overlap ↦
            let fit = fit_from_overlap (cut xs first) (cut xs second) l overlap in
            let most : l ≤ n =
            agree.most l (record {
              left_room = simp length-drop (omega arith);
              right_room = simp length-drop (omega arith);
              each = λ k h. sym (prefix_at k h) ∙ sym (fit k h) ∙ suffix_at k h;
            }) in
            absurd (omega arith)
      ]

-- no suffix is longer than its list, so that a search for overlaps may end there
pub no_longer_overlap : (xs : List ℕ) (first second : Fragment) (b : ℕ)
    → first.start + first.length ≤ length xs → second.start + second.length ≤ length xs
    → NoneFrom (is_overlap (cut xs first) (cut xs second)) (min first.length second.length + 1) b
no_longer_overlap xs first second b in_first in_second l lo hi =
    let long_first = length_part xs first.start first.length in_first in
    let long_second = length_part xs second.start second.length in_second in
    elim (cases_Bool (is_overlap (cut xs first) (cut xs second) l)) [
      | inr no_overlap ↦ no_overlap
      | inl overlap ↦ let rooms = room_from_overlap (cut xs first) (cut xs second) l overlap in absurd (omega arith)
    ]

pub greatest_overlap : (xs : List ℕ) (first second : Fragment) (d b : ℕ) (r : Option ℕ)
    → first.start + first.length ≤ length xs → second.start + second.length ≤ length xs → b ≡ min (d + d) (min first.length second.length + 1)
    → GreatestFrom (is_overlap (cut xs first) (cut xs second)) d b r → GreatestFrom (is_overlap (cut xs first) (cut xs second)) d (d + d) r
greatest_overlap xs first second d b r in_first in_second e =
    greatest_further (is_overlap (cut xs first) (cut xs second)) d b (d + d) r (omega arith)
    (λ i lo hi. no_longer_overlap xs first second (d + d) in_first in_second i (omega arith) hi)
