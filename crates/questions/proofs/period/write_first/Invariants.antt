use Rattle.std.proofs.Common.{◌≡◌, List, ◌+◌, ◌≤◌, ◌++◌, length, drop}
use Rattle.std.specs.Iterator.{Yields, size}
use Rattle.std.specs.Iterator.Adapters.{enumerate_source, enumerate_count}
use Rattle.periodicity.specs.declared.Progression.{Progression}
use Rattle.questions.proofs.period.write_first.Given as goal

abbrev pub invariant-loop-place : goal.invariant-loop-place
invariant-loop-place g l =
    (goal.iterator-loop-place g).can_next l.place-iterator
    × (goal.iterator-loop-place g).is_finite l.place-iterator
    × ((xs : List Progression)
    × Yields g.I.Iterator.next_gives l.fn.new xs (enumerate_source l.place-iterator)
    × (enumerate_count l.place-iterator ≡ length xs)
    × (length xs + size (g.I.Iterator.remaining (enumerate_source l.place-iterator)) ≤ size (g.I.Iterator.remaining l.fn.new))
    × (l.records ≡ xs ++ drop (length xs) l.initial.records))
