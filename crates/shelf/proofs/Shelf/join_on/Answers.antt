use Rattle.std.proofs.Common.{◌≡◌, ◌+◌, length, sym, ap, ◌∙◌, subst, inl, inr, arith}
use Rattle.std.specs.Option.{ok_or}
use Rattle.std.proofs.lemmas.Result.{err_from_is_err_and}
use Rattle.recompression.specs.Contents.{rows_in}
use Rattle.recompression.proofs.SlotFacts.{unused_blank}
use Rattle.rows.specs.Lawful.{Lawful}
use Rattle.shelf.specs.Contents.{book_of, rows_on}
use Rattle.shelf.specs.declared.refusal.Refusal.TheVariants.{UnknownNumber}
use Rattle.shelf.proofs.JoinFacts.{join_unknown, join_too_long, join_small_work, join_settled}
use Rattle.shelf.proofs.RowFacts.{known_told, unknown_told}
use Rattle.shelf.proofs.Shelf.join_on.Goals as goal

pub returns-in_err-left_length-clause-writes : goal.returns-in_err-left_length-clause-writes
returns-in_err-left_length-clause-writes c =
    let shelf = c.args.self.now in
    let keeps = c.law_of_joins_and_cuts.ensures.joins (book_of shelf) c.args.left c.args.right (length c.args.work.now) shelf.lawful in
    let why : c.in_err-left_length.field-0.0 ≡ UnknownNumber = let e = c.in_err-left_length.ensures.value ∙ ap (λ o. ok_or o UnknownNumber) c.in_err-left_length.ensures.ok_part in cc in
    let p = err_from_is_err_and c.from_residual.result c.from_residual.ensures.1 in
    rw (p.1, p.2, why) (join_unknown (book_of shelf) shelf.lawful c.args.left c.args.right (length c.args.work.now) keeps
    (inl (unknown_told (rows_on shelf) c.args.left (sym c.in_err-left_length.ensures.ok_part ∙ c.length_of.ensures))))

pub returns-in_err-right_length-clause-writes : goal.returns-in_err-right_length-clause-writes
returns-in_err-right_length-clause-writes c =
    let shelf = c.args.self.now in
    let keeps = c.law_of_joins_and_cuts.ensures.joins (book_of shelf) c.args.left c.args.right (length c.args.work.now) shelf.lawful in
    let why : c.in_err-right_length.field-0.0 ≡ UnknownNumber = let e = c.in_err-right_length.ensures.value ∙ ap (λ o. ok_or o UnknownNumber) c.in_err-right_length.ensures.ok_part in cc in
    let p = err_from_is_err_and c.from_residual-in_err-right_length.result c.from_residual-in_err-right_length.ensures.1 in
    rw (p.1, p.2, why) (join_unknown (book_of shelf) shelf.lawful c.args.left c.args.right (length c.args.work.now) keeps
    (inr (unknown_told (rows_on shelf) c.args.right (sym c.in_err-right_length.ensures.ok_part ∙ c.length_of-2.ensures))))

pub joint_length-length-requires : goal.joint_length-length-requires
joint_length-length-requires c =
    let shelf = c.args.self.now in
    let left = known_told (rows_on shelf) shelf.lawful c.args.left c.in_ok-left_length.left_length (sym c.in_ok-left_length.ensures.ok_part ∙ c.length_of.ensures) in
    let right = known_told (rows_on shelf) shelf.lawful c.args.right c.in_ok-right_length.right_length (sym c.in_ok-right_length.ensures.ok_part ∙ c.length_of-2.ensures) in
    omega (arith, left.2, right.2)

pub returns-then-length-gt-MAX_CELLS-clause-writes : goal.returns-then-length-gt-MAX_CELLS-clause-writes
returns-then-length-gt-MAX_CELLS-clause-writes c =
    let shelf = c.args.self.now in
    let keeps = c.law_of_joins_and_cuts.ensures.joins (book_of shelf) c.args.left c.args.right (length c.args.work.now) shelf.lawful in
    let left = known_told (rows_on shelf) shelf.lawful c.args.left c.in_ok-left_length.left_length (sym c.in_ok-left_length.ensures.ok_part ∙ c.length_of.ensures) in
    let right = known_told (rows_on shelf) shelf.lawful c.args.right c.in_ok-right_length.right_length (sym c.in_ok-right_length.ensures.ok_part ∙ c.length_of-2.ensures) in
    join_too_long (book_of shelf) shelf.lawful c.args.left c.args.right (length c.args.work.now) keeps left.0 right.0 (c.in_ok-left_length.left_length + c.in_ok-right_length.right_length) (omega (arith, left.1, right.1)) (omega arith)

pub returns-then-work-length-clause-writes : goal.returns-then-work-length-clause-writes
returns-then-work-length-clause-writes c =
    let shelf = c.args.self.now in
    let keeps = c.law_of_joins_and_cuts.ensures.joins (book_of shelf) c.args.left c.args.right (length c.args.work.now) shelf.lawful in
    let left = known_told (rows_on shelf) shelf.lawful c.args.left c.in_ok-left_length.left_length (sym c.in_ok-left_length.ensures.ok_part ∙ c.length_of.ensures) in
    let right = known_told (rows_on shelf) shelf.lawful c.args.right c.in_ok-right_length.right_length (sym c.in_ok-right_length.ensures.ok_part ∙ c.length_of-2.ensures) in
    join_small_work (book_of shelf) shelf.lawful c.args.left c.args.right (length c.args.work.now) keeps left.0 right.0 (c.in_ok-left_length.left_length + c.in_ok-right_length.right_length) (omega (arith, left.1, right.1)) (omega arith) (omega arith)

pub invariant_of-self : goal.invariant_of-self
invariant_of-self c =
    let shelf = c.args.self.now in
    let keeps = c.law_of_joins_and_cuts.ensures.joins (book_of shelf) c.args.left c.args.right (length c.args.work.now) shelf.lawful in
    let left = known_told (rows_on shelf) shelf.lawful c.args.left c.in_ok-left_length.left_length (sym c.in_ok-left_length.ensures.ok_part ∙ c.length_of.ensures) in
    let right = known_told (rows_on shelf) shelf.lawful c.args.right c.in_ok-right_length.right_length (sym c.in_ok-right_length.ensures.ok_part ∙ c.length_of-2.ensures) in
    let settled = join_settled (book_of shelf) shelf.lawful c.args.left c.args.right (length c.args.work.now) keeps left.0 right.0 (c.in_ok-left_length.left_length + c.in_ok-right_length.right_length) (omega (arith, left.1, right.1)) (omega arith)
    c.settle_leaves.result (rows_in c.settle_leaves.new.table) c.expand_both.new.numbers (omega arith) c.expand_both.ensures c.settle_leaves.ensures in
    record { lawful = subst (λ b. Lawful b.rows) (sym settled.outcome.1) keeps.rows.lawful; unused = unused_blank c.settle_leaves.new.table }

pub returns-clause-writes : goal.returns-clause-writes
returns-clause-writes c =
    let shelf = c.args.self.now in
    let keeps = c.law_of_joins_and_cuts.ensures.joins (book_of shelf) c.args.left c.args.right (length c.args.work.now) shelf.lawful in
    let left = known_told (rows_on shelf) shelf.lawful c.args.left c.in_ok-left_length.left_length (sym c.in_ok-left_length.ensures.ok_part ∙ c.length_of.ensures) in
    let right = known_told (rows_on shelf) shelf.lawful c.args.right c.in_ok-right_length.right_length (sym c.in_ok-right_length.ensures.ok_part ∙ c.length_of-2.ensures) in
    join_settled (book_of shelf) shelf.lawful c.args.left c.args.right (length c.args.work.now) keeps left.0 right.0 (c.in_ok-left_length.left_length + c.in_ok-right_length.right_length) (omega (arith, left.1, right.1)) (omega arith)
    c.settle_leaves.result (rows_in c.settle_leaves.new.table) c.expand_both.new.numbers (omega arith) c.expand_both.ensures c.settle_leaves.ensures
