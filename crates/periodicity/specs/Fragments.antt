-- Fragments of a list: a start and a length. Assumes nothing.
use Rattle.std.specs.Prelude.{ℕ, ◌+◌, Bool, List, length, take, drop, nat_le}
use Rattle.periodicity.specs.declared.Fragment.{Fragment}

-- the codes from a place on, so many of them
abbrev pub part : List ℕ → ℕ → ℕ → List ℕ
part xs start size = take size (drop start xs)

-- the codes of a fragment
abbrev pub cut : List ℕ → Fragment → List ℕ
cut xs f = part xs f.start f.length

-- whether a fragment lies within so many places
abbrev pub within : ℕ → Fragment → Bool
within len f = nat_le (f.start + f.length) len

-- whether a fragment lies in the strip
abbrev pub inside : List ℕ → Fragment → Bool
inside xs f = nat_le (f.start + f.length) (length xs)
