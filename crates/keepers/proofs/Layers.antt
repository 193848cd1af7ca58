-- The answers of a window and of a reversed layer, from those of the list below, and that both keep to the most codes of
-- a keeper. Assumes nothing.
use Rattle.std.proofs.Common.{◌≡◌, ℕ, ◌-◌, min, List, reverse, length, take, drop, sym, ◌∙◌, arith}
use lib.ListN.{length-reverse}
use Rattle.periodicity.proofs.Agreements.{length_window, window_inside, code_window, ahead_window, behind_window, code_reverse, ahead_reverse, behind_reverse}
use Rattle.periodicity.specs.Fragments.{part}
use Rattle.keepers.specs.declared.side.Side.TheVariants.{Ahead, Behind}
use Rattle.keepers.specs.Layers.{capped, WindowAnswers, ReversedAnswers}
use Rattle.keepers.specs.Shortness.{ShortList}

pub window_answers : (below : List ℕ) (from size first len : ℕ) → first ≡ min from (length below) → len ≡ min size (length below - first) → WindowAnswers below from size (record { start = first; length = len })
unfolding capped
window_answers below from size first len starts longs =
    let long : len ≡ length (take size (drop from below)) = omega (arith, length_window size from below) in
    record {
      long = long;
      inside = window_inside below size from first len starts long;
      code = code_window below size from first len starts long;
      extension = elim [ Ahead ↦ ahead_window below size from first len starts long | Behind ↦ behind_window below size from first len starts long ];
    }

pub reversed_answers : (below : List ℕ) (many : ℕ) → many ≡ length below → ReversedAnswers below many
reversed_answers below many long =
    record {
      long = long ∙ sym (length-reverse below);
      code = code_reverse below many long;
      extension = elim [ Ahead ↦ ahead_reverse below many long | Behind ↦ behind_reverse below many long ];
    }

-- a window of a short list is short
pub short_window : (xs : List ℕ) (start size : ℕ) → ShortList xs → ShortList (part xs start size)
short_window xs start size few = omega (arith, length_window size start xs, few)

-- a short list backwards is short
pub short_reverse : (xs : List ℕ) → ShortList xs → ShortList (reverse xs)
short_reverse xs few = simp length-reverse few
