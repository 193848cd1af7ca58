-- The record of a range read off the overlaps of a fragment without its last code and without its first.
-- Assumes nothing.
use Rattle.std.proofs.Common.{◌≡◌, ℕ, ◌+◌, ◌-◌, ◌*◌, ◌^◌, ◌≤◌, List, length, take, drop, Some, Option, sym, ap, ◌∙◌, subst, arith, take-take, drop-drop}
use Rattle.std.proofs.lemmas.List.{drop-take}
use Rattle.std.specs.Option.{option_map}
use Rattle.periodicity.specs.declared.Progression.{Progression}
use Rattle.periodicity.specs.Fragments.{part}
use Rattle.periodicity.specs.Overlaps.{is_overlap}
use Rattle.periodicity.specs.Periods.{periods_in}
use Rattle.periodicity.specs.Progressions.{progression_of, mirrored}
use Rattle.periodicity.specs.Ranges.{Tells}
use Rattle.periodicity.proofs.RecordsTold.{told_from_borders}
use Rattle.periodicity.proofs.Sameness.{length_part, room_from_overlap}

module _ (xs : List ℕ) (start n : ℕ) (lies : start + n ≤ length xs) (some : 1 ≤ n) where
  without_last : part xs start (n - 1) ≡ take (n - 1) (part xs start n)
  without_last = sym (take-take (n - 1) n (drop start xs) (omega arith))

  without_first : part xs (start + 1) (n - 1) ≡ drop 1 (part xs start n)
  without_first =
      let whole : 1 + (n - 1) ≡ n = omega arith in
      sym (ap (λ m. drop 1 (take m (drop start xs))) (sym whole) ∙ drop-take 1 (n - 1) (drop start xs) ∙ ap (take (n - 1)) (drop-drop 1 start xs))

  pub record_from_borders : (t d : ℕ) (answer : Option Progression) → d ≡ 2 ^ t
      → Tells (is_overlap (part xs start (n - 1)) (part xs (start + 1) (n - 1))) d (d + d) answer
      → option_map (mirrored n) answer ≡ progression_of (periods_in (part xs start n) t)
  record_from_borders t d answer power tells =
      let w = part xs start n in
      let long = length_part xs start n lies in
      let front : part xs start (n - 1) ≡ take (length w - 1) w = without_last ∙ ap (λ m. take (m - 1) w) (sym long) in
      let tells_front = subst (λ ys. Tells (is_overlap ys (part xs (start + 1) (n - 1))) d (d + d) answer) front tells in
      let tells_both = subst (λ ys. Tells (is_overlap (take (length w - 1) w) ys) d (d + d) answer) without_first tells_front in
      let tells_power = subst (λ m. Tells (is_overlap (take (length w - 1) w) (drop 1 w)) m (m + m) answer) power tells_both in
      ap (λ m. option_map (mirrored m) answer) (sym long) ∙ sym (told_from_borders w (omega arith) t answer tells_power).0

  -- the greatest border is shorter than the fragment
  pub border_short : (d : ℕ) (borders : Progression) → Tells (is_overlap (part xs start (n - 1)) (part xs (start + 1) (n - 1))) d (d + d) (Some borders)
      → borders.first + (borders.count - 1) * borders.step ≤ n - 1
  border_short d borders tells =
      let many = tells.0.some in
      let passes = tells.1.passes (borders.count - 1) (omega arith) in
      let room = room_from_overlap (part xs start (n - 1)) (part xs (start + 1) (n - 1)) (borders.first + (borders.count - 1) * borders.step) passes in
      omega (arith, room.0, length_part xs start (n - 1) (omega arith))
