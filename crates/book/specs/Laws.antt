-- One strip has one number, one number has one strip; and what single calls of the book keep. Assumes nothing.
use Rattle.std.specs.Prelude.{◌≡◌, ℕ, ◌≤◌, Bool, true, ◌↔◌, List, [], ◌++◌, map, length, Option, slice_index_or}
use Rattle.std.specs.List.{AllZip, AllByRecursion}
use Rattle.rows.specs.declared.Row.{Row}
use Rattle.rows.specs.declared.Shape.{Shape}
use Rattle.rows.specs.declared.Shape.TheVariants.{Leaf, Pair, Repeat}
use Rattle.rows.specs.Lawful.{Lawful}
use Rattle.rows.specs.Strips.{strip}
use Rattle.book.specs.Calls.{Answer, strip_number, refused, Book, no_rows, Turn, taken, joined_up, part_of, cut_out}
use Rattle.book.specs.Runs.{Sent, book_after, answers_of, strips_of}

-- rows are of a kind when it has the code of every leaf
abbrev pub leaf_of_kind : (ℕ → Bool) → Shape → Type 0
leaf_of_kind has (Leaf code) = has code ≡ true
leaf_of_kind has (Pair left right) = Unit {0}
leaf_of_kind has (Repeat part count) = Unit {0}

abbrev pub OfKind : (ℕ → Bool) → List Row → Type 0
OfKind has rows = AllByRecursion (λ row. leaf_of_kind has row.shape) rows

-- call i was answered by n, the number of a strip
abbrev pub AnsweredBy : List Answer → ℕ → ℕ → Type 0
AnsweredBy answers i n = slice_index_or answers i (refused 0) ≡ strip_number n

-- any two calls that were answered by numbers of strips have equal numbers exactly when the strips that they wrote
-- have the same length and the same cells
abbrev pub OneNumber : {C : Type 0} → (C → C → Type 0) → List Answer → List (List C) → Type 0
OneNumber same answers strips = (i j m n : ℕ) → AnsweredBy answers i m → AnsweredBy answers j n → (m ≡ n) ↔ AllZip same (slice_index_or strips i []) (slice_index_or strips j [])

-- the rows are lawful, and begin with those of before
pub record LawfullyGrown (before after : List Row) : Type 0 where
  pub lawful : Lawful after
  pub added : List Row
  pub grows : after ≡ before ++ added

-- rows of a kind, whichever it is, are still of that kind
abbrev pub KindKept : List Row → List Row → Type 0
KindKept before after = (has : ℕ → Bool) → OfKind has before → OfKind has after

-- a number that is answered writes these codes, also when rows have been added since
abbrev pub Stays : List ℕ → Turn → Type 0
Stays codes t = (n : ℕ) → t.answer ≡ strip_number n → (more : List Row) → strip (t.book.rows ++ more) n ≡ codes

-- a number that is answered is known, and the cells given back for its strip are the same as these, no more and no
-- fewer, also when rows have been added since
abbrev pub WritesCells : {C : Type 0} → (ℕ → C) → (C → C → Type 0) → List C → Turn → Type 0
WritesCells given same cells t =
    (n : ℕ) → t.answer ≡ strip_number n → (more : List Row) → (n ≤ length (t.book.rows ++ more)) × AllZip same cells (map given (strip (t.book.rows ++ more) n))

-- what a take keeps of a lawful book of the kind, and what its number writes
pub record TakeKeeps {C : Type 0} (has : ℕ → Bool) (given : ℕ → C) (same : C → C → Type 0) (before : Book) (cells : List C) (t : Turn) : Type 0 where
  pub rows : LawfullyGrown before.rows t.book.rows
  pub kind : OfKind has before.rows → OfKind has t.book.rows
  pub writes : WritesCells given same cells t

abbrev pub TakesKeep : {C : Type 0} → (C → Option ℕ) → (ℕ → Bool) → (ℕ → C) → (C → C → Type 0) → Type 0
TakesKeep {C} coded has given same =
    (same_kind : Bool) (book : Book) (cells : List C) (places : ℕ) → Lawful book.rows → TakeKeeps has given same book cells (taken same_kind coded book cells places)

-- what a join or a cut keeps of a lawful book, and that its number writes the codes
pub record PartsKeep (before : Book) (codes : List ℕ) (t : Turn) : Type 0 where
  pub rows : LawfullyGrown before.rows t.book.rows
  pub kind : KindKept before.rows t.book.rows
  pub writes : Stays codes t

abbrev pub JoinsKeep : Type 0
JoinsKeep = (book : Book) (left right places : ℕ) → Lawful book.rows → PartsKeep book (strip book.rows left ++ strip book.rows right) (joined_up book left right places)

abbrev pub CutsKeep : Type 0
CutsKeep = (book : Book) (n start size places : ℕ) → Lawful book.rows → PartsKeep book (part_of book.rows n start size) (cut_out book n start size places)

-- a book with no rows is lawful, and of every kind
abbrev pub NewIsLawful : Type 0
NewIsLawful = Lawful no_rows.rows × ((has : ℕ → Bool) → OfKind has no_rows.rows)

-- what any list of calls keeps of a lawful book of the kind, with any work lengths: and the law holds of its answers
pub record RunKeeps {C : Type 0} (coded : C → Option ℕ) (has : ℕ → Bool) (given : ℕ → C) (same : C → C → Type 0) (same_kind : Bool) (start : Book) (calls : List (Sent C)) : Type 0 where
  pub rows : LawfullyGrown start.rows (book_after same_kind coded start calls).rows
  pub kind : OfKind has (book_after same_kind coded start calls).rows
  pub law : OneNumber same (answers_of same_kind coded start calls) (strips_of same_kind coded given start calls)

abbrev pub RunsKeep : {C : Type 0} → (C → Option ℕ) → (ℕ → Bool) → (ℕ → C) → (C → C → Type 0) → Type 0
RunsKeep {C} coded has given same =
    (same_kind : Bool) (start : Book) (calls : List (Sent C)) → Lawful start.rows → OfKind has start.rows → RunKeeps coded has given same same_kind start calls

-- calls that come after others: the book, the answers and the strips of the whole list are those of the two parts, the
-- second of which goes on from where the first ended
pub record InTwoParts {C : Type 0} (coded : C → Option ℕ) (same_kind : Bool) (start : Book) (past calls : List (Sent C)) : Type 0 where
  pub book : book_after same_kind coded start (past ++ calls) ≡ book_after same_kind coded (book_after same_kind coded start past) calls
  pub answers : answers_of same_kind coded start (past ++ calls) ≡ answers_of same_kind coded start past ++ answers_of same_kind coded (book_after same_kind coded start past) calls
  pub strips : (given : ℕ → C) → strips_of same_kind coded given start (past ++ calls) ≡ strips_of same_kind coded given start past ++ strips_of same_kind coded given (book_after same_kind coded start past) calls

abbrev pub RunsGoOn : {C : Type 0} → (C → Option ℕ) → Type 0
RunsGoOn {C} coded = (same_kind : Bool) (start : Book) (past calls : List (Sent C)) → InTwoParts coded same_kind start past calls
