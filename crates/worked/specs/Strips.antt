-- The strips of the examples, each named by its letters, and fragments of them. Assumes nothing.
use Rattle.std.specs.Prelude.{ℕ, List, [], ◌∷◌}
use Rattle.periodicity.specs.declared.Fragment.{Fragment}

-- the code of a is 97, of b 98, of c 99
abbrev pub abababa : List ℕ
abababa = 97 ∷ 98 ∷ 97 ∷ 98 ∷ 97 ∷ 98 ∷ 97 ∷ []

abbrev pub aaaaaaa : List ℕ
aaaaaaa = 97 ∷ 97 ∷ 97 ∷ 97 ∷ 97 ∷ 97 ∷ 97 ∷ []

abbrev pub abcab : List ℕ
abcab = 97 ∷ 98 ∷ 99 ∷ 97 ∷ 98 ∷ []

abbrev pub lone_a : List ℕ
lone_a = 97 ∷ []

-- the fragment that starts at a place, and has so many codes
abbrev pub span : ℕ → ℕ → Fragment
span place size = record { start = place; length = size }
