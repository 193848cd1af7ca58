use Rattle.std.proofs.Common.{◌≡◌, ◌+◌, get_or, set, ap, ◌∙◌, arith, rules}
use Rattle.rows.proofs.LawfulFacts.{strip_short}
use Rattle.rows.specs.Strips.{strip}
use Rattle.cells.specs.Giving.{given_by}
use Rattle.shelf.specs.Contents.{rows_on}
use Rattle.shelf.proofs.CellLoop.{code_inside, filled_more}
use Rattle.shelf.proofs.Shelf.fill.Goals as goal

pub overflow_add-start : goal.overflow_add-start
overflow_add-start g c =
    let shelf = c.args.self.now in
    omega (arith, strip_short (rows_on shelf) shelf.lawful c.args.number)

pub unwrap-requires : goal.unwrap-requires
unwrap-requires g c =
    let shelf = c.args.self.now in
    let found = code_inside (rows_on shelf) shelf.lawful c.args.number (c.args.start + c.loop-i.i) c.requires.known (omega arith) in
    rw (c.code_at.ensures, found) (search rules)

pub loop-i-preserved : goal.loop-i-preserved
loop-i-preserved g c =
    let shelf = c.args.self.now in
    let found = code_inside (rows_on shelf) shelf.lawful c.args.number (c.args.start + c.loop-i.i) c.requires.known (omega arith) in
    let code : c.unwrap.result ≡ get_or (strip (rows_on shelf) c.args.number) (c.args.start + c.loop-i.i) 0 = let e = c.code_at.ensures ∙ found in let u = c.unwrap.ensures in cc in
    ap (set c.loop-i.cells c.loop-i.i) c.cell.ensures.given
    ∙ filled_more (given_by g.K.CellKind.has g.K.CellKind.spelled g.K.CellKind.BLANK) (strip (rows_on shelf) c.args.number) c.args.start c.args.cells.now c.requires.inside c.loop-i.i c.loop-i.cells c.unwrap.result (omega arith) c.loop-i.invariant code
