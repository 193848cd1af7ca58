-- The beginning of an input, and what it tells of the whole. Assumes nothing.
use Rattle.std.proofs.Common.{◌≡◌, ℕ, ◌+◌, ◌<◌, Bool, true, false, cond, leb, IfSome, Option, Some, None, List, [], ◌∷◌, ◌++◌, length, take, sym, refl, ap, ◌∙◌, subst, arith}
use Rattle.std.proofs.lemmas.Bool.{leb-true, leb-false, lt-leb}
use Rattle.std.proofs.lemmas.List.{length-take-le, take_all}
use Rattle.std.specs.List.{flat_map}
use Rattle.std.specs.Option.{option_map}
use Rattle.std.specs.Io.Take.{take_inner, take_limit, take_remaining}
use Rattle.std.specs.declared.io.traits.Take.{Take}
use Rattle.job.specs.Commands.{entries}
use Rattle.job.specs.Runs.{most_bytes, nothing_yet, too_long, told_from, told_of}
use Rattle.job.specs.Lines.{line_bytes, printed_by}

-- what is read of an input through a limit, after no bytes, is its beginning
pub reads_beginning : {R : Type 0} (remaining : R → Option (List ℕ)) (limited : Take R) (input : R) (limit : ℕ) (none read : List ℕ) → take_inner limited ≡ input → take_limit limited ≡ limit → none ≡ []
    → IfSome (take_remaining remaining limited) (λ bytes. read ≡ none ++ bytes) → IfSome (remaining input) (λ bytes. read ≡ take limit bytes)
reads_beginning remaining limited input limit none read input_is limit_is none_is reads =
    by (remaining input)
    (subst (λ start. IfSome (option_map (take limit) (remaining input)) (λ bytes. read ≡ start ++ bytes)) none_is
    (subst (λ reader. IfSome (option_map (take limit) (remaining reader)) (λ bytes. read ≡ none ++ bytes)) input_is
    (subst (λ n. IfSome (option_map (take n) (remaining (take_inner limited))) (λ bytes. read ≡ none ++ bytes)) limit_is reads)))
  where
    by : (known : Option (List ℕ)) → IfSome (option_map (take limit) known) (λ bytes. read ≡ bytes) → IfSome known (λ bytes. read ≡ take limit bytes)
    by None within = tt
    by (Some bytes) within = within

-- all jobs that are too long print the same
printed_long : (job : List ℕ) → most_bytes < length job → printed_by job ≡ flat_map line_bytes (too_long ∷ [])
unfolding printed_by told_of
printed_long job long = ap (λ b. flat_map line_bytes (cond b (told_from nothing_yet (entries job)) (too_long ∷ []))) (lt-leb (length job) most_bytes long)

-- one byte more than a job may have is enough
pub printed_beginning : (bytes : List ℕ) → printed_by (take (most_bytes + 1) bytes) ≡ printed_by bytes
printed_beginning bytes = by (leb (length bytes) (most_bytes + 1)) refl
  where
    by : (b : Bool) → leb (length bytes) (most_bytes + 1) ≡ b → printed_by (take (most_bytes + 1) bytes) ≡ printed_by bytes
    by true is = ap printed_by (take_all (most_bytes + 1) bytes (leb-true (length bytes) (most_bytes + 1) is))
    by false is =
        let more : most_bytes + 1 < length bytes = leb-false (length bytes) (most_bytes + 1) is in
        let long : most_bytes < length (take (most_bytes + 1) bytes) = omega (arith, length-take-le (most_bytes + 1) bytes (omega (arith, more))) in
        printed_long (take (most_bytes + 1) bytes) long ∙ sym (printed_long bytes (omega (arith, more)))
