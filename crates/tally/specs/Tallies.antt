-- How many cases were run, and how many of them agree. Assumes nothing.
use Rattle.std.specs.Prelude.{ℕ, ◌+◌, ◌-◌, ◌^◌, min, Bool, cond, List, ◌++◌, codes as ascii, decimal}
use Rattle.tally.specs.declared.Tally.{Tally}

-- a sum, as far as a number of 64 bits goes
abbrev pub sum : ℕ → ℕ → ℕ
sum m n = min (m + n) (2 ^ 64 - 1)

abbrev pub none_yet : Tally
none_yet = record { run = 0; agree = 0 }

-- a tally after one case more
abbrev pub with_case : Tally → Bool → Tally
with_case tally agrees = record { run = sum tally.run 1; agree = cond agrees (sum tally.agree 1) tally.agree }

-- the cases of two tallies
abbrev pub together : Tally → Tally → Tally
together tally other = record { run = sum tally.run other.run; agree = sum tally.agree other.agree }

-- what is printed of a tally
abbrev pub tally_text : Tally → List ℕ
tally_text tally = decimal tally.agree ++ (ascii " of " ++ (decimal tally.run ++ ascii " agree"))
