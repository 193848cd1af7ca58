-- One strip has one number, one number has one strip, over any list of calls. Assumes nothing.
use Rattle.std.proofs.Common.{◌≡◌, ℕ, zero, suc, Bool, List, [], ◌∷◌, ◌++◌, get_or, Option, sym, refl, ap, ◌∙◌, subst, arith}
use Rattle.std.proofs.lemmas.List.{append-nil, append_assoc}
use Rattle.rows.specs.Lawful.{Lawful}
use Rattle.rows.proofs.LawfulFacts.{lawful_none}
use Rattle.rows.proofs.OneNumber.{Stands, stands_append, one_number}
use Rattle.book.specs.Calls.{Book, turn, wrote}
use Rattle.book.specs.Laws.{OfKind, AnsweredBy, OneNumber, LawfullyGrown, RunKeeps, RunsKeep, RunsGoOn, NewIsLawful}
use Rattle.book.specs.Runs.{Sent, book_after, answers_of, strips_of}
use Rattle.book.proofs.CodeFacts.{KindLaws, CodesOf, same_from_codes, codes_from_same}
use Rattle.book.proofs.TurnFacts.{Told, turn_told}

module _ {C : Type 0} (same_kind : Bool) (coded : C → Option ℕ) (has : ℕ → Bool) (given : ℕ → C) (same : C → C → Type 0) (laws : KindLaws coded has given same) where
  -- what a list of calls leaves
  record Ran (book : Book) (sents : List (Sent C)) : Type 0 where
    pub kept : LawfullyGrown book.rows (book_after same_kind coded book sents).rows
    pub of_kind : OfKind has (book_after same_kind coded book sents).rows
    pub tells : (i n : ℕ) → AnsweredBy (answers_of same_kind coded book sents) i n
        → (codes : List ℕ) × Stands (book_after same_kind coded book sents).rows codes n × CodesOf coded (get_or (strips_of same_kind coded given book sents) i []) codes

  ran : (book : Book) → Lawful book.rows → OfKind has book.rows → (sents : List (Sent C)) → Ran book sents
  ran book law kinds [] = record {
    kept = record { lawful = law; added = []; grows = sym (append-nil book.rows) };
    of_kind = kinds;
    tells = λ i n is. let z : ◌≡◌ {A = ℕ} 0 1 = cc in absurd (omega arith);
  }
  ran book law kinds (sent ∷ rest) =
      let t = turn same_kind coded book sent.call sent.places in
      let told = turn_told coded has given same laws book law kinds same_kind sent.call sent.places in
      let later = ran t.book told.kept.lawful told.of_kind rest in
      record {
        kept = record {
          lawful = later.kept.lawful;
          added = told.kept.added ++ later.kept.added;
          grows = later.kept.grows ∙ ap (λ rs. rs ++ later.kept.added) told.kept.grows ∙ append_assoc book.rows told.kept.added later.kept.added;
        };
        of_kind = later.of_kind;
        tells = at told later;
      }
    where
      at : Told coded has book.rows (wrote given book sent.call) (turn same_kind coded book sent.call sent.places) → Ran (turn same_kind coded book sent.call sent.places).book rest
          → (i n : ℕ) → AnsweredBy (answers_of same_kind coded book (sent ∷ rest)) i n
          → (codes : List ℕ) × Stands (book_after same_kind coded book (sent ∷ rest)).rows codes n × CodesOf coded (get_or (strips_of same_kind coded given book (sent ∷ rest)) i []) codes
      at told later zero n is =
          let here = told.tells n is in
          (here.0, subst (λ rs. Stands rs here.0 n) (sym later.kept.grows) (stands_append (turn same_kind coded book sent.call sent.places).book.rows later.kept.added here.0 n here.1), here.2)
      at told later (suc i) n is = later.tells i n is

  -- the law
  run_keeps : (book : Book) (sents : List (Sent C)) → Lawful book.rows → OfKind has book.rows → RunKeeps coded has given same same_kind book sents
  run_keeps book sents law kinds =
      let all = ran book law kinds sents in
      record { rows = all.kept; kind = all.of_kind; law = by all }
    where
      by : Ran book sents → OneNumber same (answers_of same_kind coded book sents) (strips_of same_kind coded given book sents)
      by all i j m n at_i at_j =
          let left = all.tells i m at_i in
          let right = all.tells j n at_j in
          let numbers = one_number (book_after same_kind coded book sents).rows left.0 right.0 m n left.1 right.1 in
          let xs = get_or (strips_of same_kind coded given book sents) i [] in
          let ys = get_or (strips_of same_kind coded given book sents) j [] in (
            λ equal. same_from_codes coded has given same laws xs ys left.0 right.0 left.2 right.2 (numbers.0 equal),
            λ each. numbers.1 (codes_from_same coded has given same laws xs ys left.0 right.0 left.2 right.2 each),
          )

pub runs_keep : {C : Type 0} (coded : C → Option ℕ) (has : ℕ → Bool) (given : ℕ → C) (same : C → C → Type 0) → KindLaws coded has given same → RunsKeep coded has given same
runs_keep coded has given same laws same_kind start calls law kinds = run_keeps same_kind coded has given same laws start calls law kinds

-- a list of calls after another
pub goes_on : {C : Type 0} (coded : C → Option ℕ) → RunsGoOn coded
goes_on coded same_kind book [] sents = record { book = refl; answers = refl; strips = λ given. refl }
goes_on coded same_kind book (s ∷ past) sents =
    let t = turn same_kind coded book s.call s.places in
    let later = goes_on coded same_kind t.book past sents in
    record {
      book = later.book;
      answers = ap (λ xs. t.answer ∷ xs) later.answers;
      strips = λ given. ap (λ xs. wrote given book s.call ∷ xs) (later.strips given);
    }

-- a book with no rows
pub new_is_lawful : NewIsLawful
new_is_lawful = (lawful_none, λ has. tt)
