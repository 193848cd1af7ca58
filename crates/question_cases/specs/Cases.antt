-- The lines that a case stands for. Assumes nothing.
use Rattle.std.specs.Prelude.{ℕ, List, ◌++◌, codes as ascii}
use Rattle.question_cases.specs.declared.case.Case.{Case}

-- the lines that set the strip and ask
abbrev pub asking_lines : Case → List ℕ
asking_lines c =
    ascii "strip " ++ (c.codes.now ++ (ascii "\n" ++ (c.layers.now ++ (ascii " " ++ (c.question.now ++ (ascii " " ++ (c.arguments.now ++ ascii "\n")))))))

-- the line that is expected
abbrev pub expected_line : Case → List ℕ
expected_line c = c.question.now ++ (ascii " " ++ (c.answer.now ++ ascii "\n"))
