use Rattle.std.proofs.Common.{length, ◌∙◌, arith}
use Rattle.shelf.specs.Contents.{book_of}
use Rattle.shelf.proofs.SendLoop.{performed_more}
use Rattle.shelf.proofs.Shelf.send_all.Goals as goal

pub loop-i-preserved : goal.loop-i-preserved
loop-i-preserved g c =
    let shelf = c.args.self.now in (
      performed_more shelf.kind g.K.CellKind.NUMBER g.K.CellKind.coded (book_of shelf) (length c.args.work.now) c.args.requests.now c.law_of_the_book.ensures.goes_on c.loop-i.i c.index-requests-i.result
          (book_of c.loop-i.self) (book_of c.perform.new.self) c.loop-i.answers c.perform.result c.loop-i.self.kind (length c.loop-i.work)
          (omega arith) c.index-requests-i.is (omega arith) c.loop-i.invariant.1 (omega arith) c.loop-i.invariant.0 c.perform.ensures.outcome,
      c.perform.ensures.kind ∙ c.loop-i.invariant.1,
    )
