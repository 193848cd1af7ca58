use Rattle.std.proofs.Common.{◌≡◌, ◌+◌, length, take, sym, ap, ◌∙◌, subst, arith, length-take}
use Rattle.std.specs.Option.{ok_or}
use Rattle.std.proofs.lemmas.Bool.{leb-true, leb-false}
use Rattle.std.proofs.lemmas.Result.{err_from_is_err_and}
use Rattle.recompression.specs.Contents.{rows_in}
use Rattle.recompression.proofs.SlotFacts.{unused_blank}
use Rattle.recompression.specs.Expansions.{written_out}
use Rattle.rows.specs.Lawful.{Lawful}
use Rattle.shelf.specs.Contents.{book_of, rows_on}
use Rattle.shelf.specs.declared.refusal.Refusal.TheVariants.{UnknownNumber}
use Rattle.shelf.proofs.JoinFacts.{unknown_cut, leaving_cut, small_work_cut, settled_cut}
use Rattle.shelf.proofs.RowFacts.{known_told, unknown_told}
use Rattle.shelf.proofs.Shelf.cut_on.Goals as goal

pub returns-in_err-whole-clause-writes : goal.returns-in_err-whole-clause-writes
returns-in_err-whole-clause-writes c =
    let shelf = c.args.self.now in
    let part = c.args.part in
    let keeps = c.law_of_joins_and_cuts.ensures.cuts (book_of shelf) c.args.number part.start part.length (length c.args.work.now) shelf.lawful in
    let why : c.in_err-whole.field-0.0 ≡ UnknownNumber = let e = c.in_err-whole.ensures.value ∙ ap (λ o. ok_or o UnknownNumber) c.in_err-whole.ensures.ok_part in cc in
    let p = err_from_is_err_and c.from_residual.result c.from_residual.ensures.1 in
    rw (p.1, p.2, why) (unknown_cut (book_of shelf) shelf.lawful c.args.number part.start part.length (length c.args.work.now) keeps
    (unknown_told (rows_on shelf) c.args.number (sym c.in_err-whole.ensures.ok_part ∙ c.length_of.ensures)))

pub returns-then-not-lies_within-clause-writes : goal.returns-then-not-lies_within-clause-writes
returns-then-not-lies_within-clause-writes c =
    let shelf = c.args.self.now in
    let part = c.args.part in
    let keeps = c.law_of_joins_and_cuts.ensures.cuts (book_of shelf) c.args.number part.start part.length (length c.args.work.now) shelf.lawful in
    let told = known_told (rows_on shelf) shelf.lawful c.args.number c.in_ok-whole.whole (sym c.in_ok-whole.ensures.ok_part ∙ c.length_of.ensures) in
    let past = leb-false (part.start + part.length) c.in_ok-whole.whole (sym c.if-not-lies_within.ensures) in
    leaving_cut (book_of shelf) shelf.lawful c.args.number part.start part.length (length c.args.work.now) keeps told.0 (omega (arith, told.1, past))

pub returns-then-work-part-clause-writes : goal.returns-then-work-part-clause-writes
returns-then-work-part-clause-writes c =
    let shelf = c.args.self.now in
    let part = c.args.part in
    let keeps = c.law_of_joins_and_cuts.ensures.cuts (book_of shelf) c.args.number part.start part.length (length c.args.work.now) shelf.lawful in
    let told = known_told (rows_on shelf) shelf.lawful c.args.number c.in_ok-whole.whole (sym c.in_ok-whole.ensures.ok_part ∙ c.length_of.ensures) in
    let inside = leb-true (part.start + part.length) c.in_ok-whole.whole (sym c.if-not-lies_within.ensures) in
    small_work_cut (book_of shelf) shelf.lawful c.args.number part.start part.length (length c.args.work.now) keeps told.0 (omega (arith, told.1, inside)) (omega arith)

pub expand_part-requires : goal.expand_part-requires
expand_part-requires c =
    let shelf = c.args.self.now in
    let part = c.args.part in
    let told = known_told (rows_on shelf) shelf.lawful c.args.number c.in_ok-whole.whole (sym c.in_ok-whole.ensures.ok_part ∙ c.length_of.ensures) in
    let inside = leb-true (part.start + part.length) c.in_ok-whole.whole (sym c.if-not-lies_within.ensures) in
    simp length-take (omega (arith, told.1, inside))

pub settle_leaves-requires : goal.settle_leaves-requires
settle_leaves-requires c =
    let shelf = c.args.self.now in
    let part = c.args.part in
    let told = known_told (rows_on shelf) shelf.lawful c.args.number c.in_ok-whole.whole (sym c.in_ok-whole.ensures.ok_part ∙ c.length_of.ensures) in
    let inside = leb-true (part.start + part.length) c.in_ok-whole.whole (sym c.if-not-lies_within.ensures) in
    let all : length (take part.length c.args.work.now) ≡ part.length = simp length-take (omega arith) in
    omega (arith, told.2, inside, all)

pub invariant_of-self : goal.invariant_of-self
invariant_of-self c =
    let shelf = c.args.self.now in
    let part = c.args.part in
    let keeps = c.law_of_joins_and_cuts.ensures.cuts (book_of shelf) c.args.number part.start part.length (length c.args.work.now) shelf.lawful in
    let told = known_told (rows_on shelf) shelf.lawful c.args.number c.in_ok-whole.whole (sym c.in_ok-whole.ensures.ok_part ∙ c.length_of.ensures) in
    let inside = leb-true (part.start + part.length) c.in_ok-whole.whole (sym c.if-not-lies_within.ensures) in
    let all : length (take part.length c.args.work.now) ≡ part.length = simp length-take (omega arith) in
    let settled = settled_cut (book_of shelf) shelf.lawful c.args.number part.start part.length (length c.args.work.now) keeps told.0 (omega (arith, told.1, inside))
    c.settle_leaves.result (rows_in c.settle_leaves.new.table) c.expand_part.new.out (omega arith) (c.expand_part.ensures ∙ ap (written_out (rows_on shelf) c.args.number part.start) all) c.settle_leaves.ensures in
    record { lawful = subst (λ b. Lawful b.rows) (sym settled.outcome.1) keeps.rows.lawful; unused = unused_blank c.settle_leaves.new.table }

pub returns-clause-writes : goal.returns-clause-writes
returns-clause-writes c =
    let shelf = c.args.self.now in
    let part = c.args.part in
    let keeps = c.law_of_joins_and_cuts.ensures.cuts (book_of shelf) c.args.number part.start part.length (length c.args.work.now) shelf.lawful in
    let told = known_told (rows_on shelf) shelf.lawful c.args.number c.in_ok-whole.whole (sym c.in_ok-whole.ensures.ok_part ∙ c.length_of.ensures) in
    let inside = leb-true (part.start + part.length) c.in_ok-whole.whole (sym c.if-not-lies_within.ensures) in
    let all : length (take part.length c.args.work.now) ≡ part.length = simp length-take (omega arith) in
    settled_cut (book_of shelf) shelf.lawful c.args.number part.start part.length (length c.args.work.now) keeps told.0 (omega (arith, told.1, inside))
    c.settle_leaves.result (rows_in c.settle_leaves.new.table) c.expand_part.new.out (omega arith) (c.expand_part.ensures ∙ ap (written_out (rows_on shelf) c.args.number part.start) all) c.settle_leaves.ensures
