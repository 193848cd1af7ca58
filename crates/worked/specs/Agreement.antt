-- Worked examples of codes and of longest common extensions. Assumes nothing.
use Rattle.std.specs.Prelude.{◌≡◌, [], ◌∷◌, Some, None}
use Rattle.periodicity.specs.Agreement.{code_of, ahead_of, behind_of}
use Rattle.worked.specs.Examples.{Examples}
use Rattle.worked.specs.Strips.{abababa}

abbrev pub agreement_examples : Examples
agreement_examples =
    -- the second code of abababa is b
    (code_of abababa 1 ≡ Some 98)
    -- seven codes stand at the places 0 to 6
    ∷ (code_of abababa 7 ≡ None)
    -- from 0 and from 2 on: abababa and ababa
    ∷ (ahead_of abababa 0 2 ≡ Some 5)
    -- from 0 and from 1 on: a and b differ at once
    ∷ (ahead_of abababa 0 1 ≡ Some 0)
    -- nothing comes after the end, which is no reason to be absent
    ∷ (ahead_of abababa 2 7 ≡ Some 0)
    -- past the end
    ∷ (ahead_of abababa 0 8 ≡ None)
    -- just before 7 and just before 5, going back: abababa and ababa
    ∷ (behind_of abababa 7 5 ≡ Some 5)
    -- just before 3 and just before 2: a and b
    ∷ (behind_of abababa 3 2 ≡ Some 0)
    -- nothing comes before the start
    ∷ (behind_of abababa 0 5 ≡ Some 0)
    -- past the end
    ∷ (behind_of abababa 8 1 ≡ None)
    ∷ []
