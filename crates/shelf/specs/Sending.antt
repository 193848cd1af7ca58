-- Requests as calls of the book. Assumes nothing.
use Rattle.std.specs.Prelude.{◌≡◌, ℕ, min, Bool, true, List, ◌++◌, map, take, drop, Option, Result}
use Rattle.book.specs.Calls.{Call, Answer, Book, no_rows, taking, joining, cutting}
use Rattle.book.specs.Laws.{OfKind, OneNumber}
use Rattle.book.specs.Runs as book
use Rattle.rows.specs.Lawful.{Lawful}
use Rattle.shelf.specs.declared.request.Request.{Request}
use Rattle.shelf.specs.declared.request.Request.TheVariants.{Take, Join, Cut}
use Rattle.shelf.specs.declared.request.Sent.{Sent}
use Rattle.shelf.specs.declared.refusal.Refusal.{Refusal}
use Rattle.shelf.specs.Refusals.{told}

-- the call that a request is
abbrev pub call_of : {C : Type 0} → Request C → Call C
call_of (Take cells) = taking cells.now
call_of (Join left right) = joining left right
call_of (Cut number part) = cutting number part.start part.length

-- with the places that it may use, at most those there are
abbrev pub sent_with : {C : Type 0} → ℕ → Sent C → book.Sent C
sent_with area s = record { call = call_of s.request; places = min s.places area }

abbrev pub calls_sent : {C : Type 0} → ℕ → List (Sent C) → List (book.Sent C)
calls_sent area requests = map (sent_with area) requests

-- calls that go on with a history of calls on a shelf of the kind that began as `start`: the shelf is then as the book
-- run on the whole history leaves it, and the law holds of all its answers, earlier and later ones
pub record GoesOn {C : Type 0} (coded : C → Option ℕ) (given : ℕ → C) (same : C → C → Type 0) (start : Book) (past calls : List (book.Sent C)) (answers : List Answer) (after : Book) : Type 0 where
  pub leaves : after ≡ book.book_after true coded start (past ++ calls)
  pub law : OneNumber same (book.answers_of true coded start past ++ answers) (book.strips_of true coded given start (past ++ calls))

-- they do so whichever history it was that left the shelf as it is at entry, on a shelf of the kind that began with any
-- lawful rows of the kind; a new shelf begins with none
abbrev pub AnyHistory : {C : Type 0} → (C → Option ℕ) → (ℕ → Bool) → (ℕ → C) → (C → C → Type 0) → Bool → Book → List (book.Sent C) → List Answer → Book → Type 0
AnyHistory {C} coded has given same same_kind before calls answers after =
    (start : Book) (past : List (book.Sent C)) → Lawful start.rows → OfKind has start.rows → same_kind ≡ true → before ≡ book.book_after true coded start past
    → GoesOn coded given same start past calls answers after

-- calls sent to a shelf, with `count` places for their answers: how they leave it and the answers are those of the book,
-- and the other places stay as they were. Rows of the kind stay of it, and then the law of one number holds of the
-- answers, also where the shelf has another kind number; and on a shelf of the kind so it does over any history
pub record SentTo {C : Type 0} (coded : C → Option ℕ) (has : ℕ → Bool) (given : ℕ → C) (same : C → C → Type 0) (same_kind : Bool) (before : Book) (calls : List (book.Sent C)) (count : ℕ) (old new : List (Result ℕ Refusal)) (after : Book) : Type 0 where
  pub leaves : after ≡ book.book_after same_kind coded before calls
  pub answers : map told (take count new) ≡ book.answers_of same_kind coded before calls
  pub others : drop count new ≡ drop count old
  pub kept : OfKind has before.rows → OfKind has after.rows
  pub law : OfKind has before.rows → OneNumber same (map told (take count new)) (book.strips_of same_kind coded given before calls)
  pub history : AnyHistory coded has given same same_kind before calls (map told (take count new)) after

-- calls sent to a new shelf of the kind: the same by a book that begins with no rows, with nothing assumed
pub record Begun {C : Type 0} (coded : C → Option ℕ) (has : ℕ → Bool) (given : ℕ → C) (same : C → C → Type 0) (calls : List (book.Sent C)) (count : ℕ) (old new : List (Result ℕ Refusal)) (after : Book) : Type 0 where
  pub leaves : after ≡ book.book_after true coded no_rows calls
  pub answers : map told (take count new) ≡ book.answers_of true coded no_rows calls
  pub others : drop count new ≡ drop count old
  pub kept : OfKind has after.rows
  pub law : OneNumber same (map told (take count new)) (book.strips_of true coded given no_rows calls)
