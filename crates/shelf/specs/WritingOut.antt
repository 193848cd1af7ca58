-- What writing out answers and leaves. Assumes nothing.
use Rattle.std.specs.Prelude.{◌≡◌, ℕ, ◌+◌, Bool, true, cond, List, ◌++◌, map, length, Some, None, Ok, Err, Option, Result, nat_le}
use Rattle.std.specs.List.{AllZip}
use Rattle.book.specs.Calls.{is_known, part_of}
use Rattle.rows.specs.declared.Row.{Row}
use Rattle.rows.specs.Strips.{strip}
use Rattle.shelf.specs.declared.refusal.Refusal.{Refusal}
use Rattle.shelf.specs.declared.refusal.Refusal.TheVariants.{OtherKind, UnknownNumber, FragmentLeavesStrip}
use Rattle.shelf.specs.Refusals.{refusal_number}

-- the number of the refusal, if it is one
abbrev pub refusal_of : {A : Type 0} → Result A Refusal → Option ℕ
refusal_of (Ok a) = None
refusal_of (Err e) = Some (refusal_number e)

-- the refusal of the first check that applies: the shelf has another kind number; the number is unknown; the part
-- leaves the strip
abbrev pub writing_check : Bool → List Row → ℕ → ℕ → ℕ → Option Refusal
writing_check same_kind rows n start size =
    cond same_kind (cond (is_known rows n) (cond (nat_le (start + size) (length (strip rows n))) None (Some FragmentLeavesStrip)) (Some UnknownNumber)) (Some OtherKind)

-- the number of that refusal
abbrev pub check_number : Option Refusal → Option ℕ
check_number None = None
check_number (Some refusal) = Some (refusal_number refusal)

-- the caller's list afterwards: the cells given back for the codes of the part; as it was when a check
-- refuses
abbrev pub cells_after : {C : Type 0} → (ℕ → C) → Option Refusal → List Row → ℕ → ℕ → List C → List C
cells_after given None rows n start old = map given (part_of rows n start (length old))
cells_after given (Some refusal) rows n start old = old

-- a number's strip has the same cells as these, no more and no fewer; and written out into a list of as many places,
-- no check refuses it, and the list then has the same cells
pub record WritesBack {C : Type 0} (same : C → C → Type 0) (given : ℕ → C) (rows : List Row) (cells : List C) (n : ℕ) (old : List C) : Type 0 where
  pub whole : AllZip same cells (map given (strip rows n))
  pub allowed : writing_check true rows n 0 (length old) ≡ None
  pub same_cells : AllZip same cells (cells_after given None rows n 0 old)

-- so it is with the number answered, now and when rows have been added
abbrev pub WrittenBack : {C : Type 0} → (C → C → Type 0) → (ℕ → C) → List Row → List C → Result ℕ Refusal → Type 0
WrittenBack {C} same given rows cells (Ok n) = (more : List Row) (old : List C) → length old ≡ length cells → WritesBack same given (rows ++ more) cells n old
WrittenBack {C} same given rows cells (Err e) = Unit {0}
