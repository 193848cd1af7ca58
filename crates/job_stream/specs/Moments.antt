-- When a job over streams failed, and what that leaves. Assumes nothing.
use Rattle.std.specs.Prelude.{ℕ, ◌≤◌, ◌≢◌, List, length, take, Option, ⊤}
use Rattle.std.specs.Io.KnownBytes.{Appends}
use Rattle.std.specs.IoError.{error_kind}
use Rattle.std.specs.declared.io.ErrorKind.TheVariants.{Interrupted}
use Rattle.failures.specs.declared.failure.Failure.{Failure}
use Rattle.failures.specs.declared.failure.Failure.TheVariants.{Read, Memory, Write}

-- before anything was written: reading failed, or there was too little memory
abbrev pub FailedBeforeWriting : Failure → Type 0
FailedBeforeWriting (Read error) = ⊤
FailedBeforeWriting Memory = ⊤
FailedBeforeWriting (Write error) = ⊥

-- a call that was interrupted is tried again: no failure tells of one
abbrev pub TriedAgain : Failure → Type 0
TriedAgain (Read error) = error_kind error ≢ Interrupted
TriedAgain Memory = ⊤
TriedAgain (Write error) = error_kind error ≢ Interrupted

-- known bytes grow by a beginning of these: none of them, some, or all
abbrev pub AppendsBeginning : Option (List ℕ) → Option (List ℕ) → List ℕ → Type 0
AppendsBeginning old new bytes = (count : ℕ) × (count ≤ length bytes) × Appends old new (take count bytes)
