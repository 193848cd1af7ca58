-- Bytes written in several calls. Assumes nothing.
use Rattle.std.proofs.Common.{◌≡◌, ℕ, ◌+◌, ◌-◌, ◌≤◌, Result, Ok, Err, List, [], ◌++◌, length, take, drop, Option, Some, None, IfSome, OnErr, is_ok, sym, refl, ap, ◌∙◌, subst, append_assoc, arith}
use Rattle.std.proofs.Math.Seq.{take-add}
use Rattle.std.proofs.lemmas.List.{append-nil, length-drop, drop-drop, take_rest, take_all}
use Rattle.std.specs.Io.KnownBytes.{Appends, Keeps}
use Rattle.job.specs.Lines.{printed_by}
use Rattle.job_stream.specs.Moments.{AppendsBeginning}

-- nothing is appended by bytes that stay
keeps_appends : (old new : Option (List ℕ)) → Keeps old new → Appends old new []
keeps_appends None new keeps = tt
keeps_appends (Some xs) None keeps = keeps
keeps_appends (Some xs) (Some ys) keeps = keeps ∙ sym (append-nil xs)

appends_then : (a b c : Option (List ℕ)) (xs ys : List ℕ) → Appends a b xs → Appends b c ys → Appends a c (xs ++ ys)
appends_then None b c xs ys first second = tt
appends_then (Some ws) None c xs ys first second = absurd first
appends_then (Some ws) (Some bs) None xs ys first second = second
appends_then (Some ws) (Some bs) (Some cs) xs ys first second = second ∙ ap (λ l. l ++ ys) first ∙ append_assoc ws xs ys

-- so many of the bytes have been appended, and these are left
pub record Written (old new : Option (List ℕ)) (bytes rest : List ℕ) : Type 0 where
  pub count : ℕ
  pub within : count ≤ length bytes
  pub left : rest ≡ drop count bytes
  pub appended : Appends old new (take count bytes)

stays_appended : (known : Option (List ℕ)) → Appends known known []
stays_appended None = tt
stays_appended (Some xs) = sym (append-nil xs)

pub written_none : (known : Option (List ℕ)) (bytes : List ℕ) → Written known known bytes bytes
written_none known bytes = record { count = 0; within = omega arith; left = refl; appended = stays_appended known }

-- one call more
pub written_more : (old known new : Option (List ℕ)) (bytes rest : List ℕ) (n : ℕ) → Written old known bytes rest → n ≤ length rest → Appends known new (take n rest) → Written old new bytes (take (length rest - n) (drop n rest))
written_more old known new bytes rest n so_far fits appended =
    let size : length rest ≡ length bytes - so_far.count = ap (λ r. length r) so_far.left ∙ length-drop so_far.count bytes in
    record {
      count = so_far.count + n;
      within = omega (arith, so_far.within, fits, size);
      left = take_rest rest n ∙ ap (λ r. drop n r) so_far.left ∙ drop-drop n so_far.count bytes;
      appended = subst (Appends old new) (ap (λ r. take so_far.count bytes ++ take n r) so_far.left ∙ sym (take-add so_far.count n bytes))
          (appends_then old known new (take so_far.count bytes) (take n rest) so_far.appended appended);
    }

-- where no bytes are left all are written
pub written_whole : (old new : Option (List ℕ)) (bytes rest : List ℕ) → Written old new bytes rest → length rest ≤ 0 → Appends old new bytes
written_whole old new bytes rest so_far none =
    let size : length rest ≡ length bytes - so_far.count = ap (λ r. length r) so_far.left ∙ length-drop so_far.count bytes in
    subst (Appends old new) (take_all so_far.count bytes (omega (arith, size, none))) so_far.appended

-- and before that a beginning is, which stays where a call fails
pub written_begun : (old new : Option (List ℕ)) (bytes rest : List ℕ) → Written old new bytes rest → AppendsBeginning old new bytes
written_begun old new bytes rest so_far = (so_far.count, so_far.within, so_far.appended)

pub written_failed : (old known new : Option (List ℕ)) (bytes rest : List ℕ) → Written old known bytes rest → Keeps known new → AppendsBeginning old new bytes
written_failed old known new bytes rest so_far keeps =
    (so_far.count, so_far.within, subst (Appends old new) (append-nil (take so_far.count bytes)) (appends_then old known new (take so_far.count bytes) [] so_far.appended (keeps_appends known new keeps)))

pub ruleset writing = (written_none, written_more, written_whole, written_begun, written_failed)

-- the same of what a job prints, which its input tells where its bytes are known
pub nothing_printed : (input known : Option (List ℕ)) → IfSome input (λ bytes. AppendsBeginning known known (printed_by bytes))
nothing_printed None known = tt
nothing_printed (Some bytes) known = (0, omega arith, stays_appended known)

pub begins_printed : (input old new : Option (List ℕ)) (text read : List ℕ) → IfSome input (λ bytes. printed_by read ≡ printed_by bytes) → text ≡ printed_by read → AppendsBeginning old new text → IfSome input (λ bytes. AppendsBeginning old new (printed_by bytes))
begins_printed None old new text read reads prints begun = tt
begins_printed (Some bytes) old new text read reads prints begun = subst (AppendsBeginning old new) (prints ∙ reads) begun

-- where the failure of writing is told in other words
pub failed_write : {A B E F : Type 0} (r : Result A E) (s : Result B F) (input old new : Option (List ℕ)) (text read : List ℕ) → is_ok s ≡ is_ok r → IfSome input (λ bytes. printed_by read ≡ printed_by bytes) → text ≡ printed_by read
    → OnErr r (AppendsBeginning old new text) → OnErr s (IfSome input (λ bytes. AppendsBeginning old new (printed_by bytes)))
failed_write (Ok a) (Ok b) input old new text read same reads prints begun = tt
failed_write (Ok a) (Err f) input old new text read same reads prints begun = cc
failed_write (Err e) (Ok b) input old new text read same reads prints begun = tt
failed_write (Err e) (Err f) input old new text read same reads prints begun = begins_printed input old new text read reads prints begun

pub ruleset printing = (nothing_printed, failed_write)
