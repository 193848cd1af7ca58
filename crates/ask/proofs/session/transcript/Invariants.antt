-- What has been printed, and the lines that are left.
use Rattle.std.proofs.Common.{◌≡◌, ◌+◌, ◌≤◌, ◌++◌, length, vec_items, string_bytes}
use Rattle.ask.specs.Words.{lines_left}
use Rattle.ask.specs.Transcript.{transcript_from, transcript_of}
use Rattle.ask.proofs.session.transcript.Given as goal

-- together they are all that is printed
abbrev pub invariant-loop-i : goal.invariant-loop-i
invariant-loop-i l =
    (goal.iterator-loop-i).can_next l.i-iterator
    × (goal.iterator-loop-i).is_finite l.i-iterator
    × (l.i-iterator.count + length l.i-iterator.iter.rest.now ≤ length l.text)
    × (string_bytes l.all ++ transcript_from l.i-iterator.count (vec_items l.strip) (lines_left l.i-iterator.iter) ≡ transcript_of l.text)
