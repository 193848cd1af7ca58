-- Takes, check by check. Assumes nothing.
use Rattle.std.proofs.Common.{◌≡◌, ℕ, ◌≤◌, Bool, true, List, length, None, Some, Err, Option, Result, subst}
use Rattle.cells.specs.Printing.{first_unprintable}
use Rattle.book.specs.Calls.{Book, with_rows, printed, filing, taken}
use Rattle.book.proofs.CallFacts.{taken_long, taken_short}
use Rattle.rows.specs.declared.Row.{Row}
use Rattle.shelf.specs.declared.refusal.Refusal.{Refusal}
use Rattle.shelf.specs.declared.refusal.Refusal.TheVariants.{OtherKind, TooLong, Unprintable, WorkAreaTooShort, ShelfFull, UnknownNumber, FragmentLeavesStrip}
use Rattle.shelf.specs.Refusals.{ComesTo, StripFiled, Unfit}
use Rattle.shelf.proofs.Settlings.{filed_comes, comes_refused}

module _ {C : Type 0} (coded : C → Option ℕ) (book : Book) (places : ℕ) (same_kind : Bool) (is : same_kind ≡ true) where
  -- cells that fail a check are refused for it
  pub comes_unfit : (cells : List C) (e : Refusal) → Unfit coded cells e → ComesTo (Err e) book (taken same_kind coded book cells places)
  comes_unfit cells TooLong long = comes_refused TooLong book _ (taken_long coded book cells places same_kind is long)
  comes_unfit cells (Unprintable place) unfit = comes_refused (Unprintable place) book _ (taken_short coded book cells places same_kind is unfit.0 (Some place) unfit.1)
  comes_unfit cells OtherKind unfit = absurd unfit
  comes_unfit cells WorkAreaTooShort unfit = absurd unfit
  comes_unfit cells ShelfFull unfit = absurd unfit
  comes_unfit cells UnknownNumber unfit = absurd unfit
  comes_unfit cells FragmentLeavesStrip unfit = absurd unfit

  -- cells that pass both come to what their strip comes to
  pub comes_fit : (fit cells : List C) → fit ≡ cells → length fit ≤ 65535 → first_unprintable coded fit ≡ None → (r : Result ℕ Refusal) (after : List Row)
      → StripFiled r after (filing book.rows (printed coded fit) places) → ComesTo r (with_rows book after) (taken same_kind coded book cells places)
  comes_fit fit cells same short printable r after files =
      subst (λ cs. ComesTo r (with_rows book after) (taken same_kind coded book cs places)) same
      (filed_comes book r after (filing book.rows (printed coded fit) places) (taken same_kind coded book fit places) (taken_short coded book fit places same_kind is short None printable) files)
