-- What is written of a failure, and the status that a program ends with. Assumes nothing.
use Rattle.std.specs.Prelude.{ℕ, List, Some, None, Ok, Err, codes as ascii, Option, ⊤}
use Rattle.std.specs.declared.result.Result.{Result}
use Rattle.failures.specs.declared.failure.Failure.{Failure}
use Rattle.failures.specs.declared.failure.Failure.TheVariants.{Read, Memory, Write}

-- what failed, in words of our own
abbrev pub sentence_of : Failure → List ℕ
sentence_of (Read error) = ascii "standard input could not be read"
sentence_of Memory = ascii "there is too little memory"
sentence_of (Write error) = ascii "standard output could not be written"

-- the whole text, where no words of the system's are in it: nothing is said of those
abbrev pub text_of : Failure → Option (List ℕ)
text_of (Read error) = None
text_of Memory = Some (sentence_of Memory)
text_of (Write error) = None

-- the status of a program that came to this: 0 where nothing failed, 1 where something did
abbrev pub status_of : Result ⊤ Failure → ℕ
status_of (Ok _) = 0
status_of (Err _) = 1
