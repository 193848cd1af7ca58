-- What the rounds, run on a string of numbers, answer and leave. Assumes nothing.
use Rattle.std.specs.Prelude.{◌≡◌, ℕ, ◌<◌, ◌≤◌, cond, List, length, take, Some, None, Ok, Err, Option, Result, nat_lt}
use Rattle.rows.specs.declared.Row.{Row}
use Rattle.rows.specs.Filing.{row_of}
use Rattle.rows.specs.Laws.{rounds_run}
use Rattle.rows.specs.Lawful.{Lawful}
use Rattle.rows.specs.Rounds.{Filed, Settled, rounds_from, leaves, enough_rounds, number_left}
use Rattle.recompression.specs.declared.table.settle.Reached.{Reached}
use Rattle.recompression.specs.declared.table.settle.Unsettled.{Unsettled}
use Rattle.recompression.specs.declared.table.settle.Unsettled.TheVariants.{TooLong, Full}

-- rounds 1, 2 and on, as many as are enough for the string
abbrev pub all_rounds : List Row → List ℕ → Option Settled
all_rounds rows numbers = rounds_from (enough_rounds (length numbers)) 0 (record { numbers = numbers; rows = rows })

-- what is answered of a string: the number left, and how many rounds were run
abbrev pub reached_with : List ℕ → ℕ → Reached
reached_with numbers rounds = record { number = number_left numbers; rounds = rounds }

abbrev pub reached : Settled → Reached
reached s = reached_with s.numbers s.rounds

-- an answer, and the rows that are left
pub record Settlement : Type 0 where
  pub answer : Result Reached Unsettled
  pub rows : List Row

abbrev pub settlement_of : List Row → Option Settled → Settlement
settlement_of rows None = record { answer = Err Full; rows = rows }
settlement_of rows (Some s) = record { answer = Ok (reached s); rows = s.rows }

-- a string of more than 65,535 numbers is refused, and so is one that would need a row 1,025: the rows are
-- then as they were. Any other string of known numbers comes to one number, or to 0 when it is empty; of a
-- string with other numbers, the first that the rounds leave is answered
abbrev pub settlement : List Row → List ℕ → Settlement
settlement rows numbers = cond (nat_lt 65535 (length numbers)) (record { answer = Err TooLong; rows = rows }) (settlement_of rows (all_rounds rows numbers))

-- what the rounds leave before a refusal is undone: rows that begin with those of before
abbrev pub RunThrough : List Row → List ℕ → Option Reached → List Row → Type 0
RunThrough rows numbers (Some r) after = (s : Settled) × (all_rounds rows numbers ≡ Some s) × (r ≡ reached s) × (after ≡ s.rows)
RunThrough rows numbers None after = (all_rounds rows numbers ≡ None) × (take (length rows) after ≡ rows)

-- no round is run on a string of at most one number: after fewer rounds than are answered two or more are left
abbrev pub StopsFirstAt : List Row → List ℕ → Result Reached Unsettled → Type 0
StopsFirstAt rows numbers (Err e) = Unit {0}
StopsFirstAt rows numbers (Ok r) = (j : ℕ) → j < r.rounds
    → (f : Filed) × (rounds_run j (record { numbers = numbers; rows = rows }) ≡ Some f) × (2 ≤ length f.numbers)

-- where the numbers are the leaves of a strip of at most 65,535 codes, filed on lawful rows, the row of the number
-- answered keeps the rounds answered
abbrev pub KeepsRounds : List Row → List ℕ → Result Reached Unsettled → List Row → Type 0
KeepsRounds rows numbers (Err e) after = Unit {0}
KeepsRounds rows numbers (Ok r) after = (old : List Row) (codes : List ℕ) → Lawful old → length codes ≤ 65535
    → leaves old codes ≡ Some (record { numbers = numbers; rows = rows }) → (row_of after r.number).round ≡ r.rounds
