use Rattle.std.proofs.Common.{◌≡◌, eqb, ◌++◌, map, length, take, drop, sym, ap, ◌∙◌, subst, rules}
use Rattle.std.proofs.lemmas.List.{take_at, drop_at}
use Rattle.book.specs.Laws.{OfKind, OneNumber}
use Rattle.book.specs.Runs.{answers_of, strips_of}
use Rattle.cells.specs.Giving.{given_by}
use Rattle.shelf.specs.Contents.{book_of}
use Rattle.shelf.specs.Refusals.{told}
use Rattle.shelf.specs.Sending.{calls_sent}
use Rattle.shelf.proofs.Histories.{goes_on_with}
use Rattle.shelf.proofs.Shelf.send.Goals as goal

pub returns-clause-sent : goal.returns-clause-sent
returns-clause-sent g c =
    let K = g.K.CellKind in
    let given = given_by K.has K.spelled K.BLANK in
    let shelf = c.args.self.now in
    let book = book_of shelf in
    let same_kind = eqb shelf.kind K.NUMBER in
    let area = length c.args.work.now in
    let requests = c.args.requests.now in
    let count = c.min-count.result in
    let rest = drop count c.args.answers.now in
    let long : length c.send_all.new.answers ≡ count = search rules in
    let sents = calls_sent area (take count requests) in
    let told_are : map told (take count (c.send_all.new.answers ++ rest)) ≡ answers_of same_kind K.coded book sents =
    ap (map told) (take_at c.send_all.new.answers rest count long) ∙ c.send_all.ensures.answers in
    let law = c.law_of_the_book.ensures in
    record {
      leaves = c.send_all.ensures.book;
      answers = told_are;
      others = drop_at c.send_all.new.answers rest count long;
      kept = λ of_kind. subst (λ b. OfKind K.has b.rows) (sym c.send_all.ensures.book) (law.law same_kind book sents shelf.lawful of_kind).kind;
      law = λ of_kind. subst (λ xs. OneNumber K.same xs (strips_of same_kind K.coded given book sents)) (sym told_are) (law.law same_kind book sents shelf.lawful of_kind).law;
      history = λ start past lawful of_kind same is.
          goes_on_with K.coded K.has given K.same law.law law.goes_on same_kind book start past sents _ _ lawful of_kind same is c.send_all.ensures.book told_are;
    }
