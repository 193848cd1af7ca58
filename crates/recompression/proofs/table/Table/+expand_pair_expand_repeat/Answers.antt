-- What is left to show of `expand_pair` and `expand_repeat`. Assumes nothing.
use Rattle.std.proofs.Common.{◌≡◌, ◌-◌, ◌*◌, ◌++◌, ◌<◌, min, length, take, drop, sym, subst, ap, ◌∙◌, arith}
use Rattle.recompression.specs.Expansions.{part_length, copies_out}
use Rattle.recompression.specs.Tables.{in_use}
use Rattle.recompression.proofs.ExpandFacts.{calls_left, calls_left_some, one_copy, one_asked, set_alone, leaf_out, right_asked, pair_out, repeat_asked, repeat_falls, repeat_out, copied_more}
use Rattle.recompression.proofs.table.Table.+expand_pair_expand_repeat.Goals as goal

pub expand_pair-expand_repeat-requires-2 : goal.expand_pair-expand_repeat-requires-2
expand_pair-expand_repeat-requires-2 t c =
    let rows = in_use c.args.self.now.slots in
    let split = c.min-split.result in
    let at : split ≡ min (part_length rows c.args.number c.args.left - c.args.start) (length c.args.out.now) = omega arith in
    let asked = right_asked c.args.self.now.sound.lengths c.requires split at in
    let from : c.saturating_sub-2.result ≡ c.args.start - part_length rows c.args.number c.args.left = omega arith in
    let size : length c.split_at_mut-front.result.1.now ≡ length c.args.out.now - split = omega (arith, c.split_at_mut-front.ensures.back_len) in
    (omega (arith, subst (λ k. calls_left k c.args.right 1 < 2 * c.args.number - 1) (sym size) asked.1), omega (arith, asked.0))

pub expand_pair-returns : goal.expand_pair-returns
expand_pair-returns t c =
    let rows = in_use c.args.self.now.slots in
    let split = c.min-split.result in
    let at : split ≡ min (part_length rows c.args.number c.args.left - c.args.start) (length c.args.out.now) = omega arith in
    let halves = c.split_at_mut-front in
    let from : c.saturating_sub-2.result ≡ c.args.start - part_length rows c.args.number c.args.left = omega arith in
    let front : length halves.result.0.now ≡ split = omega (arith, halves.ensures.front_len) in
    let back : length halves.result.1.now ≡ length c.args.out.now - split = omega (arith, halves.ensures.back_len) in
    ap (λ xs. xs ++ c.expand_repeat-2.new.out) (c.expand_repeat.ensures ∙ ap (copies_out rows c.args.left 1 c.args.start) front)
    ∙ ap (λ xs. copies_out rows c.args.left 1 c.args.start split ++ xs)
    (c.expand_repeat-2.ensures ∙ ap (copies_out rows c.args.right 1 c.saturating_sub-2.result) back ∙ ap (λ i. copies_out rows c.args.right 1 i (length c.args.out.now - split)) from)
    ∙ pair_out c.args.self.now.sound.lengths c.requires split at

pub expand_repeat-returns-in-Leaf : goal.expand_repeat-returns-in-Leaf
expand_repeat-returns-in-Leaf t c = set_alone c.args.out.now c.args.number (omega arith) ∙ leaf_out (in_use c.args.self.now.slots) c.args.self.now.sound.lengths c.args.number c.args.copies c.args.start (length c.args.out.now) (sym c.in-Some.ensures) c.in-Leaf.is c.requires

pub expand_repeat-returns-in-Leaf-2 : goal.expand_repeat-returns-in-Leaf-2
expand_repeat-returns-in-Leaf-2 t c = c.fill.ensures.after (λ y same. same) ∙ leaf_out (in_use c.args.self.now.slots) c.args.self.now.sound.lengths c.args.number c.args.copies c.args.start (length c.args.out.now) (sym c.in-Some.ensures) c.in-Leaf-2.is c.requires

pub expand_repeat-loop-filled-preserved : goal.expand_repeat-loop-filled-preserved
expand_repeat-loop-filled-preserved t c =
    let l = c.loop-filled in
    copied_more c.args.self.now.sound.lengths (sym c.in-Some.ensures) c.requires c.from-copy_length.ensures l.out l.invariant (omega arith) c.place_in_copy-place.ensures c.min-end.ensures c.expand_repeat-in-loop-filled.new.out
    (c.expand_repeat-in-loop-filled.ensures ∙ one_copy (in_use c.args.self.now.slots) c.args.number c.place_in_copy-place.result (length (take (c.min-end.result - l.filled) (drop l.filled l.out)))) (omega arith)

pub expand_repeat-expand_repeat-requires : goal.expand_repeat-expand_repeat-requires
expand_repeat-expand_repeat-requires t c =
    let some : 0 < length c.args.out.now = grind arith in
    let asked = one_asked c.args.self.now.sound.lengths (sym c.in-Some.ensures) c.requires c.in-Repeat.is (omega arith) some in (
      omega (arith, calls_left_some (length c.args.out.now) c.args.number c.args.copies some, repeat_falls c.args.self.now.sound.lengths asked some),
      repeat_asked c.args.self.now.sound.lengths asked some,
    )

pub expand_repeat-returns-in-Repeat : goal.expand_repeat-returns-in-Repeat
expand_repeat-returns-in-Repeat t c =
    let rows = in_use c.args.self.now.slots in
    let some : 0 < length c.args.out.now = grind arith in
    let one : c.args.copies ≡ 1 = omega arith in
    let asked = one_asked c.args.self.now.sound.lengths (sym c.in-Some.ensures) c.requires c.in-Repeat.is one some in
    c.expand_repeat.ensures ∙ repeat_out c.args.self.now.sound.lengths asked some
    ∙ sym (ap (λ m. copies_out rows c.args.number m c.args.start (length c.args.out.now)) one ∙ one_copy rows c.args.number c.args.start (length c.args.out.now))
