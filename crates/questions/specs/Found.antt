-- How what a question comes to is shown. Assumes nothing.
use Rattle.std.specs.Prelude.{ℕ, List, ◌++◌, Some, None, codes as ascii, decimal, Option}
use Rattle.periodicity.specs.declared.Progression.{Progression}
use Rattle.periodicity.specs.Progressions.{triple_text}
use Rattle.questions.specs.Outcomes.{Outcome, answered, refused}

-- how a refusal is shown, and what was found: three numbers, or `none`
abbrev pub refused_shown : ℕ → List ℕ
refused_shown number = ascii "refused " ++ decimal number

abbrev pub found_shown : Outcome (Option Progression) → List ℕ
found_shown (answered None) = ascii "none"
found_shown (answered (Some p)) = triple_text p
found_shown (refused number) = refused_shown number

-- the same after a space
abbrev pub refused_text : ℕ → List ℕ
refused_text number = ascii " " ++ refused_shown number

abbrev pub found_text : Outcome (Option Progression) → List ℕ
found_text found = ascii " " ++ found_shown found
