use Rattle.std.proofs.Common.{◌≡◌, None, sym, ap, ◌∙◌, arith, rules}
use Rattle.std.specs.Option.{ok_or}
use Rattle.std.proofs.lemmas.Result.{err_from_is_err_and}
use Rattle.rows.specs.declared.Shape.TheVariants.{Leaf}
use Rattle.rows.specs.Filing.{file}
use Rattle.book.specs.Calls.{printed}
use Rattle.recompression.specs.Contents.{number_in, rows_in}
use Rattle.shelf.specs.declared.refusal.Refusal.TheVariants.{ShelfFull}
use Rattle.shelf.proofs.LeafLoop.{code_read, code_there, one_filed, none_left, rows_kept, all_filed, length_printed}
use Rattle.shelf.proofs.printable.Printable.file_leaves.Goals as goal

pub unwrap-code-requires : goal.unwrap-code-requires
unwrap-code-requires g c =
    let self = c.args.self.now in
    rw (c.code.ensures, code_there g.K.CellKind.coded self.cells.now c.loop-i.i c.cell-item.result self.printable c.loop-i-test.true c.cell-item.is) (search rules)

pub returns-in_err-numbers : goal.returns-in_err-numbers
returns-in_err-numbers g c =
    let self = c.args.self.now in
    let old = rows_in c.args.table.now in
    let codes = printed g.K.CellKind.coded self.cells.now in
    let code = code_read g.K.CellKind.coded self.cells.now c.loop-i.i c.cell-item.result self.printable c.loop-i-test.true c.cell-item.is c.unwrap-code.result (sym c.unwrap-code.ensures ∙ c.code.ensures) in
    let none : None ≡ number_in (file 0 (rows_in c.loop-i.table) (Leaf c.unwrap-code.result)) = sym c.in_err-numbers.ensures.ok_part ∙ c.file.ensures.number in
    let full : c.in_err-numbers.field-0.0 ≡ ShelfFull = let e = c.in_err-numbers.ensures.value ∙ ap (λ o. ok_or o ShelfFull) c.in_err-numbers.ensures.ok_part in cc in
    let p = err_from_is_err_and c.from_residual.result c.from_residual.ensures.1 in
    rw (p.1, p.2) (
      full,
      none_left old codes c.loop-i.i (rows_in c.loop-i.table) c.loop-i.numbers c.loop-i.invariant c.unwrap-code.result code.0 code.1 none,
      rows_kept old codes c.loop-i.i (rows_in c.loop-i.table) c.loop-i.numbers c.loop-i.invariant c.unwrap-code.result code.0 code.1 (rows_in c.file.new.self) none c.file.ensures.rows,
    )

pub loop-i-preserved : goal.loop-i-preserved
loop-i-preserved g c =
    let self = c.args.self.now in
    let old = rows_in c.args.table.now in
    let codes = printed g.K.CellKind.coded self.cells.now in
    let code = code_read g.K.CellKind.coded self.cells.now c.loop-i.i c.cell-item.result self.printable c.loop-i-test.true c.cell-item.is c.unwrap-code.result (sym c.unwrap-code.ensures ∙ c.code.ensures) in
    one_filed old codes c.loop-i.i (rows_in c.loop-i.table) c.loop-i.numbers c.loop-i.invariant c.unwrap-code.result code.0 code.1
    c.in_ok-numbers.field-0 (rows_in c.file.new.self) (omega arith) (sym c.in_ok-numbers.ensures.ok_part ∙ c.file.ensures.number) c.file.ensures.rows

pub returns : goal.returns
returns g c =
    let self = c.args.self.now in
    let codes = printed g.K.CellKind.coded self.cells.now in
    let many = length_printed g.K.CellKind.coded self.cells.now in
    all_filed (rows_in c.args.table.now) codes c.loop-i.i (rows_in c.loop-i.table) c.loop-i.numbers c.loop-i.invariant (omega arith) (omega arith)
