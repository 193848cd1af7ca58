-- Requests sent to a new shelf. Assumes nothing.
use Rattle.std.proofs.Common.{◌≡◌, ℕ, min, Bool, true, eqb, List, length, take, Option, Result, subst}
use Rattle.std.proofs.lemmas.Bool.{eq-eqb}
use Rattle.book.specs.Calls.{Book, no_rows}
use Rattle.shelf.specs.declared.refusal.Refusal.{Refusal}
use Rattle.shelf.specs.declared.request.Sent.{Sent}
use Rattle.shelf.specs.Sending.{SentTo, Begun, calls_sent}

-- what was sent to a shelf of the kind with no rows, in the book's terms alone
pub begun : {C : Type 0} (coded : C → Option ℕ) (has : ℕ → Bool) (given : ℕ → C) (same : C → C → Type 0) (kind tag area : ℕ) (before : Book) (requests : List (Sent C)) (count : ℕ) (old new : List (Result ℕ Refusal)) (after : Book)
    → kind ≡ tag → before ≡ no_rows → count ≡ min (length requests) (length old)
    → SentTo coded has given same (eqb kind tag) before (calls_sent area (take count requests)) count old new after
    → Begun coded has given same (calls_sent area (take (min (length requests) (length old)) requests)) (min (length requests) (length old)) old new after
begun coded has given same kind tag area before requests count old new after alike none many sent =
    let to : Bool → Book → ℕ → Type 0 = λ b book k. SentTo coded has given same b book (calls_sent area (take k requests)) k old new after in
    let anew = subst (to true no_rows) many (subst (λ book. to true book count) none (subst (λ b. to b before count) (eq-eqb kind tag alike) sent)) in
    record { leaves = anew.leaves; answers = anew.answers; others = anew.others; kept = anew.kept tt; law = anew.law tt }
