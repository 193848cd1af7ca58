-- The codes that have been read, and the words that are left.
use Rattle.std.proofs.Common.{◌≡◌, ◌++◌, vec_items}
use Rattle.std.specs.Option.{option_map}
use Rattle.ask.specs.Lines.{codes_words}
use Rattle.ask.specs.Words.{words_left}
use Rattle.ask.proofs.words.Words.codes.Given as goal

abbrev pub invariant-loop-word : goal.invariant-loop-word
invariant-loop-word l =
    (goal.iterator-loop-word).can_next l.word-iterator
    × (goal.iterator-loop-word).is_finite l.word-iterator
    × (option_map (λ codes. vec_items l.codes ++ codes) (codes_words (words_left l.word-iterator)) ≡ codes_words (words_left l.fn.self))
