-- Calls that go on with a history. Assumes nothing.
use Rattle.std.proofs.Common.{◌≡◌, ℕ, Bool, true, List, ◌++◌, Option, sym, ap, ◌∙◌, subst}
use Rattle.rows.specs.Lawful.{Lawful}
use Rattle.book.specs.Calls.{Answer, Book}
use Rattle.book.specs.Laws.{OfKind, OneNumber, RunsKeep, RunsGoOn}
use Rattle.book.specs.Runs.{Sent, book_after, answers_of, strips_of}
use Rattle.shelf.specs.Sending.{GoesOn}

pub goes_on_with : {C : Type 0} (coded : C → Option ℕ) (has : ℕ → Bool) (given : ℕ → C) (same : C → C → Type 0) → RunsKeep coded has given same → RunsGoOn coded
    → (same_kind : Bool) (before start : Book) (past calls : List (Sent C)) (answers : List Answer) (after : Book) → Lawful start.rows → OfKind has start.rows → same_kind ≡ true
    → before ≡ book_after true coded start past → after ≡ book_after same_kind coded before calls → answers ≡ answers_of same_kind coded before calls
    → GoesOn coded given same start past calls answers after
goes_on_with coded has given same keeps goes_on same_kind before start past calls answers after lawful of_kind same_is before_is after_is answers_are =
    let whole = goes_on true start past calls in
    let answers_told : answers_of true coded start (past ++ calls) ≡ answers_of true coded start past ++ answers =
    whole.answers ∙ ap (λ xs. answers_of true coded start past ++ xs) (sym (answers_are ∙ (λ i. answers_of (same_is i) coded (before_is i) calls))) in
    record {
      leaves = after_is ∙ (λ i. book_after (same_is i) coded (before_is i) calls) ∙ sym whole.book;
      law = subst (λ xs. OneNumber same xs (strips_of true coded given start (past ++ calls))) answers_told (keeps true start (past ++ calls) lawful of_kind).law;
    }
