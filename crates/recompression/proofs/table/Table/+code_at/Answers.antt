-- What is left to show of `code_at`. Assumes nothing.
use Rattle.std.proofs.Common.{◌-◌, ◌%◌, ap, ◌∙◌, arith}
use Rattle.recompression.specs.Contents.{rows_in}
use Rattle.recompression.specs.Codes.{code_in}
use Rattle.recompression.proofs.CodeFacts.{seen, leaf_seen, left_seen, right_seen, repeat_seen}
use Rattle.recompression.proofs.table.Table.+code_at.Goals as goal

pub code_at-requires-else-place-first : goal.code_at-requires-else-place-first
code_at-requires-else-place-first t c =
    let s = seen (rows_in c.args.self.now) c.args.number c.args.place c.in_ok-row.row _ c.in_ok-row.ensures (omega arith) c.in-Pair.is in
    let right = right_seen c.args.self.now.sound.lengths s (omega arith) in
    (omega (arith, right.0), tt)

pub nonzero_rem-place : goal.nonzero_rem-place
nonzero_rem-place t c =
    let s = seen (rows_in c.args.self.now) c.args.number c.args.place c.in_ok-row.row _ c.in_ok-row.ensures (omega arith) c.in-Repeat.is in
    let part = repeat_seen c.args.self.now.sound.lengths s in
    omega (arith, part.0)

pub code_at-requires-in-Repeat : goal.code_at-requires-in-Repeat
code_at-requires-in-Repeat t c =
    let s = seen (rows_in c.args.self.now) c.args.number c.args.place c.in_ok-row.row _ c.in_ok-row.ensures (omega arith) c.in-Repeat.is in
    let part = repeat_seen c.args.self.now.sound.lengths s in
    (omega (arith, part.1), tt)

pub returns-in-Leaf : goal.returns-in-Leaf
returns-in-Leaf t c =
    leaf_seen c.args.self.now.sound.lengths (seen (rows_in c.args.self.now) c.args.number c.args.place c.in_ok-row.row _ c.in_ok-row.ensures (omega arith) c.in-Leaf.is)

pub returns-then-place-first : goal.returns-then-place-first
returns-then-place-first t c =
    let s = seen (rows_in c.args.self.now) c.args.number c.args.place c.in_ok-row.row _ c.in_ok-row.ensures (omega arith) c.in-Pair.is in
    c.code_at.ensures ∙ left_seen c.args.self.now.sound.lengths s (omega arith)

pub returns-else-place-first : goal.returns-else-place-first
returns-else-place-first t c =
    let rows = rows_in c.args.self.now in
    let s = seen rows c.args.number c.args.place c.in_ok-row.row _ c.in_ok-row.ensures (omega arith) c.in-Pair.is in
    c.code_at-else-place-first.ensures
    ∙ ap (λ first. code_in rows c.in-Pair.right (c.args.place - first)) c.part_length-first.ensures
    ∙ (right_seen c.args.self.now.sound.lengths s (omega arith)).1

pub returns-in-Repeat : goal.returns-in-Repeat
returns-in-Repeat t c =
    let rows = rows_in c.args.self.now in
    let s = seen rows c.args.number c.args.place c.in_ok-row.row _ c.in_ok-row.ensures (omega arith) c.in-Repeat.is in
    c.code_at-in-Repeat.ensures ∙ ap (λ size. code_in rows c.in-Repeat.part (c.args.place % size)) c.part_length.ensures ∙ (repeat_seen c.args.self.now.sound.lengths s).2
