-- The row under a cursor is known, and its parts have the lengths that are read.
use Rattle.std.proofs.Common.{length, sym, ap, ◌∙◌, subst, ap₂, arith}
use Rattle.rows.specs.declared.Shape.TheVariants.{Pair, Repeat}
use Rattle.rows.specs.Strips.{strip}
use Rattle.shelf.specs.Contents.{rows_on}
use Rattle.shelf_strip.specs.Cursors.{in_pair, Continues}
use Rattle.shelf_strip.specs.Sides.{first_of, second_of}
use Rattle.shelf_strip.proofs.CursorFacts.{shape_read, pair_lengths, goes_in_pair, copy_some, goes_in_copies}
use Rattle.shelf_strip.proofs.SeenFacts.{length_seen}
use Rattle.shelf_strip.proofs.cursor.View.descend.Goals as goal

pub in_pair-requires : goal.in_pair-requires
in_pair-requires c =
    let rows = rows_on c.args.self.shelf.now in
    let shape = Pair c.in-Pair.left c.in-Pair.right in
    let is = shape_read rows c.args.cursor.number c.in_ok-row.row shape c.in_ok-row.ensures c.in-Pair.is in
    let whole = pair_lengths c.args.self.side rows c.args.self.shelf.now.lawful c.args.cursor c.requires c.in-Pair.left c.in-Pair.right is in
    let first = c.strip_length.ensures ∙ ap (λ n. length (strip rows n)) (ap (λ p. p.0) c.in_order-first.ensures) in
    let second = c.strip_length-in-Pair.ensures ∙ ap (λ n. length (strip rows n)) (ap (λ p. p.1) c.in_order-first.ensures) in
    omega (arith, c.requires.within)

pub in_copies-requires : goal.in_copies-requires
in_copies-requires c =
    let rows = rows_on c.args.self.shelf.now in
    let shape = Repeat c.in-Repeat.part c.in-Repeat.times in
    let is = shape_read rows c.args.cursor.number c.in_ok-row.row shape c.in_ok-row.ensures c.in-Repeat.is in
    let some = copy_some c.args.self.side rows c.args.self.shelf.now.lawful c.args.cursor c.requires c.in-Repeat.part c.in-Repeat.times is in
    let long = length_seen c.args.self.side rows c.args.cursor.number in
    record { some = omega (arith, c.strip_length-in-Repeat.ensures); within = omega (arith, c.strip_length-in-Repeat-2.ensures, c.requires.within) }

pub returns-in-Pair : goal.returns-in-Pair
returns-in-Pair c =
    let rows = rows_on c.args.self.shelf.now in
    let side = c.args.self.side in
    let left = c.in-Pair.left in
    let right = c.in-Pair.right in
    let is = shape_read rows c.args.cursor.number c.in_ok-row.row (Pair left right) c.in_ok-row.ensures c.in-Pair.is in
    let first = c.strip_length.ensures ∙ ap (λ n. length (strip rows n)) (ap (λ p. p.0) c.in_order-first.ensures) ∙ sym (length_seen side rows (first_of side left right)) in
    let second = c.strip_length-in-Pair.ensures ∙ ap (λ n. length (strip rows n)) (ap (λ p. p.1) c.in_order-first.ensures) ∙ sym (length_seen side rows (second_of side left right)) in
    let same = c.in_pair.ensures ∙ ap₂ (λ f s. in_pair f c.strip_length.result s c.strip_length-in-Pair.result c.args.cursor.place) (ap (λ p. p.0) c.in_order-first.ensures) (ap (λ p. p.1) c.in_order-first.ensures) in
    subst (Continues side rows c.args.cursor) (sym same)
    (goes_in_pair side rows c.args.self.shelf.now.lawful c.args.cursor c.requires left right is c.strip_length.result first c.strip_length-in-Pair.result second)

pub returns-in-Repeat : goal.returns-in-Repeat
returns-in-Repeat c =
    let rows = rows_on c.args.self.shelf.now in
    let side = c.args.self.side in
    let part = c.in-Repeat.part in
    let count = c.in-Repeat.times in
    let is = shape_read rows c.args.cursor.number c.in_ok-row.row (Repeat part count) c.in_ok-row.ensures c.in-Repeat.is in
    let copy = c.strip_length-in-Repeat.ensures ∙ sym (length_seen side rows part) in
    let whole = c.strip_length-in-Repeat-2.ensures ∙ sym (length_seen side rows c.args.cursor.number) in
    subst (Continues side rows c.args.cursor) (sym c.in_copies.ensures)
    (goes_in_copies side rows c.args.self.shelf.now.lawful c.args.cursor c.requires part count is c.strip_length-in-Repeat.result copy c.strip_length-in-Repeat-2.result whole)
