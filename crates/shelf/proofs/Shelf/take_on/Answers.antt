use Rattle.std.proofs.Common.{◌≡◌, false, eqb, length, sym, subst}
use Rattle.std.proofs.lemmas.Result.{err_from_is_err_and}
use Rattle.book.specs.Calls.{taken, with_rows}
use Rattle.book.specs.Laws.{OfKind}
use Rattle.book.proofs.CallFacts.{taken_other_kind}
use Rattle.cells.specs.Giving.{given_by}
use Rattle.recompression.specs.Contents.{rows_in}
use Rattle.recompression.proofs.SlotFacts.{unused_blank}
use Rattle.rows.specs.Lawful.{Lawful}
use Rattle.shelf.specs.Contents.{book_of}
use Rattle.shelf.specs.declared.refusal.Refusal.TheVariants.{OtherKind}
use Rattle.shelf.proofs.Settlings.{back_from, comes_refused}
use Rattle.shelf.proofs.TakeFacts.{comes_unfit, comes_fit}
use Rattle.shelf.proofs.Shelf.take_on.Goals as goal

pub returns-then-not-is_of_kind-clause-outcome : goal.returns-then-not-is_of_kind-clause-outcome
returns-then-not-is_of_kind-clause-outcome g c =
    let K = g.K.CellKind in
    let shelf = c.args.self.now in
    let other : eqb shelf.kind K.NUMBER ≡ false = sym c.if-not-is_of_kind.ensures in
    comes_refused OtherKind (book_of shelf) _ (taken_other_kind K.coded (book_of shelf) c.args.cells.now (length c.args.work.now) (eqb shelf.kind K.NUMBER) other)

pub returns-in_err-of-clause-outcome : goal.returns-in_err-of-clause-outcome
returns-in_err-of-clause-outcome g c =
    let K = g.K.CellKind in
    let shelf = c.args.self.now in
    let p = err_from_is_err_and c.from_residual.result c.from_residual.ensures.1 in
    rw (p.1, p.2) (comes_unfit K.coded (book_of shelf) (length c.args.work.now) (eqb shelf.kind K.NUMBER) (sym c.if-not-is_of_kind.ensures)
    c.args.cells.now c.in_err-of.field-0.0 c.in_err-of.ensures.unfit)

pub invariant_of-self : goal.invariant_of-self
invariant_of-self g c =
    let K = g.K.CellKind in
    let shelf = c.args.self.now in
    let fit = c.in_ok-of.field-0 in
    let comes = comes_fit K.coded (book_of shelf) (length c.args.work.now) (eqb shelf.kind K.NUMBER) (sym c.if-not-is_of_kind.ensures)
    fit.cells.now c.args.cells.now c.in_ok-of.ensures.fit fit.short fit.printable c.file.result (rows_in c.file.new.table) c.file.ensures in
    record { lawful = subst (λ b. Lawful b.rows) (sym comes.1) (c.law_of_takes.ensures (eqb shelf.kind K.NUMBER) (book_of shelf) c.args.cells.now (length c.args.work.now) shelf.lawful).rows.lawful; unused = unused_blank c.file.new.table }

pub returns-clause-outcome : goal.returns-clause-outcome
returns-clause-outcome g c =
    let K = g.K.CellKind in
    let shelf = c.args.self.now in
    let fit = c.in_ok-of.field-0 in
    comes_fit K.coded (book_of shelf) (length c.args.work.now) (eqb shelf.kind K.NUMBER) (sym c.if-not-is_of_kind.ensures)
    fit.cells.now c.args.cells.now c.in_ok-of.ensures.fit fit.short fit.printable c.file.result (rows_in c.file.new.table) c.file.ensures

pub returns-then-not-is_of_kind-clause-kept : goal.returns-then-not-is_of_kind-clause-kept
returns-then-not-is_of_kind-clause-kept g c = λ of_kind. of_kind

pub returns-in_err-of-clause-kept : goal.returns-in_err-of-clause-kept
returns-in_err-of-clause-kept g c = λ of_kind. of_kind

pub returns-clause-kept : goal.returns-clause-kept
returns-clause-kept g c =
    let K = g.K.CellKind in
    let shelf = c.args.self.now in
    let fit = c.in_ok-of.field-0 in
    let comes = comes_fit K.coded (book_of shelf) (length c.args.work.now) (eqb shelf.kind K.NUMBER) (sym c.if-not-is_of_kind.ensures)
    fit.cells.now c.args.cells.now c.in_ok-of.ensures.fit fit.short fit.printable c.file.result (rows_in c.file.new.table) c.file.ensures in
    λ of_kind. subst (λ b. OfKind K.has b.rows) (sym comes.1) ((c.law_of_takes.ensures (eqb shelf.kind K.NUMBER) (book_of shelf) c.args.cells.now (length c.args.work.now) shelf.lawful).kind of_kind)

pub returns-clause-back : goal.returns-clause-back
returns-clause-back g c =
    let K = g.K.CellKind in
    let shelf = c.args.self.now in
    let places = length c.args.work.now in
    let fit = c.in_ok-of.field-0 in
    let comes = comes_fit K.coded (book_of shelf) places (eqb shelf.kind K.NUMBER) (sym c.if-not-is_of_kind.ensures)
    fit.cells.now c.args.cells.now c.in_ok-of.ensures.fit fit.short fit.printable c.file.result (rows_in c.file.new.table) c.file.ensures in
    back_from K.same (given_by K.has K.spelled K.BLANK) c.args.cells.now c.file.result (with_rows (book_of shelf) (rows_in c.file.new.table)) (taken (eqb shelf.kind K.NUMBER) K.coded (book_of shelf) c.args.cells.now places) comes
    (c.law_of_takes.ensures (eqb shelf.kind K.NUMBER) (book_of shelf) c.args.cells.now places shelf.lawful).writes
