-- Commands are done one after the other, from place to place. Assumes nothing.
use Rattle.std.proofs.Common.{◌≡◌, ℕ, zero, suc, ◌-◌, ◌<◌, ◌≤◌, Bool, true, false, cond, eqb, List, [], ◌∷◌, ◌++◌, length, Some, None, Option, sym, refl, ap, ◌∙◌, subst, append_assoc, arith}
use Rattle.std.proofs.lemmas.Grind.{flat_map-append}
use Rattle.std.proofs.lemmas.List.{append-nil}
use Rattle.std.proofs.lemmas.Bool.{le-leb, lt-leb}
use Rattle.std.specs.List.{flat_map}
use Rattle.cells.specs.declared.glyph.Glyph.{Glyph}
use Rattle.job.specs.declared.command.Command.{Command}
use Rattle.job.specs.Commands.{Front, ◌>>=◌, operand_at, fragment_at, glyph_at, take_at, join_at, cut_at, places_at, said_by, command_at, Entry, entry_before, entries_within, entries}
use Rattle.job.specs.Desks.{told_at_end, told_lines, doable, Does}
use Rattle.job.specs.declared.line.Line.{Line}
use Rattle.job.specs.Lines.{told_in, line_bytes, printed_by}
use Rattle.job.specs.Runs.{most_bytes, Standing, nothing_yet, Told, stopped, too_long, fits, told_by, after, told_from, told_of}

-- what stands at the front leaves at most so many bytes
abbrev Leaves : {A : Type 0} → ℕ → Front A → Type 0
Leaves n None = Unit {0}
Leaves n (Some read) = length read.1 ≤ n

then_leaves : {A B : Type 0} (n : ℕ) (front : Front A) (next : A × List ℕ → Front B) → Leaves n front → ((a : A) (rest : List ℕ) → length rest ≤ n → Leaves n (next (a, rest))) → Leaves n (front >>= next)
then_leaves n None next first later = tt
then_leaves n (Some read) next first later = later read.0 read.1 first

operand_leaves : (n : ℕ) (bytes : List ℕ) → length bytes ≤ n → Leaves n (operand_at bytes)
operand_leaves n [] within = tt
operand_leaves n (high ∷ []) within = tt
operand_leaves n (high ∷ low ∷ rest) within = omega (arith, within)

fragment_leaves : (n : ℕ) (bytes : List ℕ) → length bytes ≤ n → Leaves n (fragment_at bytes)
fragment_leaves n bytes within =
    then_leaves n (operand_at bytes) _ (operand_leaves n bytes within) (λ start left short.
    then_leaves n (operand_at left) _ (operand_leaves n left short) (λ size rest shorter. shorter))

either_leaves : {A : Type 0} (n : ℕ) (b : Bool) (x y : Front A) → Leaves n x → Leaves n y → Leaves n (cond b x y)
either_leaves n true x y at_x at_y = at_x
either_leaves n false x y at_x at_y = at_y

said_leaves : (letter : ℕ) (bytes : List ℕ) → Leaves (length bytes) (said_by letter bytes)
said_leaves letter bytes =
    let n = length bytes in
    let number = operand_leaves n bytes (omega arith) in
    either_leaves n (eqb letter 67) (glyph_at bytes) _ (then_leaves n (operand_at bytes) _ number (λ x rest short. short))
    (either_leaves n (eqb letter 84) (take_at bytes) _ (omega arith)
    (either_leaves n (eqb letter 74) (join_at bytes) _ (then_leaves n (operand_at bytes) _ number (λ x left short. then_leaves n (operand_at left) _ (operand_leaves n left short) (λ y rest shorter. shorter)))
    (either_leaves n (eqb letter 75) (cut_at bytes) _ (then_leaves n (operand_at bytes) _ number (λ x left short. then_leaves n (fragment_at left) _ (fragment_leaves n left short) (λ y rest shorter. shorter)))
    (either_leaves n (eqb letter 70) (places_at bytes) None
    (then_leaves n (operand_at bytes) _ number (λ x left short. then_leaves n (fragment_at left) _ (fragment_leaves n left short) (λ y more shorter. then_leaves n (fragment_at more) _ (fragment_leaves n more shorter) (λ z rest shortest. shortest))))
    tt))))

-- a command that was read leaves fewer bytes
command_leaves : (bytes : List ℕ) (command : Command) (rest : List ℕ) → command_at bytes ≡ Some (command, rest) → length rest < length bytes
unfolding command_at
command_leaves [] command rest is = cc
command_leaves (letter ∷ bs) command rest is =
    let short : length rest ≤ length bs = subst (Leaves (length bs)) is (said_leaves letter bs) in
    omega (arith, short)

-- a command that can be done was read
doable_read : (tray : List Glyph) (front : Front Command) (command : Command) (rest : List ℕ) → doable tray front ≡ Some (command, rest) → (front ≡ Some (command, rest)) × (fits tray command ≡ true)
doable_read tray None command rest is = cc
doable_read tray (Some read) command rest is = by (fits tray read.0) refl is
  where
    by : (b : Bool) → fits tray read.0 ≡ b → cond b (Some read) None ≡ Some (command, rest) → (◌≡◌ {A = Front Command} (Some read) (Some (command, rest))) × (fits tray command ≡ true)
    by true can same = let e : read ≡ (command, rest) = cc in (same, subst (λ x. fits tray x.0 ≡ true) e can)
    by false can same = cc

pub next_shorter : (tray : List Glyph) (bytes : List ℕ) (command : Command) (rest : List ℕ) → Some (command, rest) ≡ doable tray (command_at bytes) → length rest < length bytes
next_shorter tray bytes command rest is = command_leaves bytes command rest (doable_read tray (command_at bytes) command rest (sym is)).0

-- where no command can be read or done, the job stops
stop_before : (s : Standing) (place : ℕ) (front : Front Command) (more : List ℕ → List Entry) → doable s.tray front ≡ None → told_from s (entry_before place front more) ≡ stopped place ∷ []
stop_before s place None more is = refl
stop_before s place (Some read) more is = by (fits s.tray read.0) is
  where
    by : (b : Bool) → cond b (Some read) None ≡ None → cond b (told_by s read.0 ++ told_from (after s read.0) (more read.1)) (stopped place ∷ []) ≡ stopped place ∷ []
    by true same = cc
    by false same = refl

-- else the command is done, and what follows it
done_before : (s : Standing) (place : ℕ) (front : Front Command) (more : List ℕ → List Entry) (command : Command) (rest : List ℕ) → doable s.tray front ≡ Some (command, rest)
    → told_from s (entry_before place front more) ≡ told_by s command ++ told_from (after s command) (more rest)
done_before s place front more command rest is =
    let parts = doable_read s.tray front command rest is in
    ap (λ x. told_from s (entry_before place x more)) parts.0
    ∙ ap (λ b. cond b (told_by s command ++ told_from (after s command) (more rest)) (stopped place ∷ [])) parts.1

-- what is still told of the bytes that are left of a job
abbrev Later : ℕ → Standing → List ℕ → List ℕ → List Told
Later limit s job rest = told_from s (entries_within limit (length job) rest)

-- what has been printed of a job, and what is still told, come to the whole
pub record PrintsAll (text : List ℕ) (s : Standing) (job rest : List ℕ) : Type 0 where
  pub within : length rest ≤ length job
  pub limit : ℕ
  pub enough : length rest ≤ limit
  pub prints : text ++ flat_map line_bytes (told_from s (entries_within limit (length job) rest)) ≡ flat_map line_bytes (told_from nothing_yet (entries job))

pub prints_start : (text : List ℕ) (s : Standing) (job : List ℕ) → text ≡ [] → s ≡ nothing_yet → PrintsAll text s job job
unfolding entries
prints_start text s job none new = record {
  within = omega arith;
  limit = length job;
  enough = omega arith;
  prints = λ i. none i ++ flat_map line_bytes (Later (length job) (new i) job job);
}

-- the bytes of a line that was printed, and of none
prints_some : (text text' : List ℕ) (printed : Option Line) (line : Line) → printed ≡ Some line → text' ≡ text ++ line_bytes (told_in line) → text' ≡ text ++ flat_map line_bytes (told_lines printed)
prints_some text text' printed line is text_is = text_is ∙ ap (λ l. text ++ l) (sym (append-nil (line_bytes (told_in line)))) ∙ ap (λ o. text ++ flat_map line_bytes (told_lines o)) (sym is)

prints_none : (text : List ℕ) (printed : Option Line) → printed ≡ None → text ≡ text ++ flat_map line_bytes (told_lines printed)
prints_none text printed is = sym (append-nil text) ∙ ap (λ o. text ++ flat_map line_bytes (told_lines o)) (sym is)

-- one turn, with what the code has of it
prints_more : (text text' : List ℕ) (s s' : Standing) (job bytes rest : List ℕ) (command : Command) (tells : List Told) → PrintsAll text s job bytes → Some (command, rest) ≡ doable s.tray (command_at bytes) → Does s command tells s'
    → text' ≡ text ++ flat_map line_bytes tells → PrintsAll text' s' job rest
prints_more text text' s s' job [] rest command tells all is done text_is = let fewer : length rest < 0 = next_shorter s.tray [] command rest is in absurd (omega (arith, fewer))
prints_more text text' s s' job (b ∷ bs) rest command tells all is done text_is = by all.limit all.enough all.prints
  where
    by : (limit : ℕ) → length (b ∷ bs) ≤ limit → text ++ flat_map line_bytes (Later limit s job (b ∷ bs)) ≡ flat_map line_bytes (told_from nothing_yet (entries job)) → PrintsAll text' s' job rest
    by zero enough prints = absurd (omega (arith, enough))
    by (suc limit) enough prints =
        let shorter = next_shorter s.tray (b ∷ bs) command rest is in
        let later = Later limit (after s command) job rest in
        record {
          within = omega (arith, shorter, all.within);
          limit = limit;
          enough = omega (arith, enough, shorter);
          prints =
              (λ i. (text_is ∙ ap (λ ts. text ++ flat_map line_bytes ts) done.tells_it) i ++ flat_map line_bytes (Later limit (done.leaves i) job rest))
              ∙ append_assoc text (flat_map line_bytes (told_by s command)) (flat_map line_bytes later)
              ∙ ap (λ l. text ++ l) (sym (flat_map-append line_bytes (told_by s command) later))
              ∙ ap (λ ts. text ++ flat_map line_bytes ts) (sym (done_before s (length job - length (b ∷ bs)) (command_at (b ∷ bs)) (entries_within limit (length job)) command rest (sym is)))
              ∙ prints;
        }

-- one that prints a line, and one that prints none
pub prints_line : (text text' : List ℕ) (s s' : Standing) (job bytes rest : List ℕ) (command : Command) (printed : Option Line) (line : Line) → PrintsAll text s job bytes → Some (command, rest) ≡ doable s.tray (command_at bytes)
    → Does s command (told_lines printed) s' → printed ≡ Some line → text' ≡ text ++ line_bytes (told_in line) → PrintsAll text' s' job rest
prints_line text text' s s' job bytes rest command printed line all is done some text_is =
    prints_more text text' s s' job bytes rest command (told_lines printed) all is done (prints_some text text' printed line some text_is)

pub prints_nothing : (text : List ℕ) (s s' : Standing) (job bytes rest : List ℕ) (command : Command) (printed : Option Line) → PrintsAll text s job bytes → Some (command, rest) ≡ doable s.tray (command_at bytes)
    → Does s command (told_lines printed) s' → printed ≡ None → PrintsAll text s' job rest
prints_nothing text s s' job bytes rest command printed all is done none =
    prints_more text text s s' job bytes rest command (told_lines printed) all is done (prints_none text printed none)

-- at the end all has been printed, with the line that says where the job stopped
pub prints_end : (text text' : List ℕ) (s : Standing) (job rest : List ℕ) → PrintsAll text s job rest → None ≡ doable s.tray (command_at rest) → text' ≡ text ++ flat_map line_bytes (told_at_end job rest) → text' ≡ flat_map line_bytes (told_from nothing_yet (entries job))
prints_end text text' s job rest all is text_is = text_is ∙ by rest all.limit all.enough all.prints is
  where
    by : (rest : List ℕ) (limit : ℕ) → length rest ≤ limit → text ++ flat_map line_bytes (Later limit s job rest) ≡ flat_map line_bytes (told_from nothing_yet (entries job)) → None ≡ doable s.tray (command_at rest)
        → text ++ flat_map line_bytes (told_at_end job rest) ≡ flat_map line_bytes (told_from nothing_yet (entries job))
    by [] zero enough prints is = prints
    by [] (suc limit) enough prints is = prints
    by (b ∷ bs) zero enough prints is = absurd (omega (arith, enough))
    by (b ∷ bs) (suc limit) enough prints is =
        ap (λ ts. text ++ flat_map line_bytes ts) (sym (stop_before s (length job - length (b ∷ bs)) (command_at (b ∷ bs)) (entries_within limit (length job)) (sym is))) ∙ prints

-- what one turn needs, and the two ends
pub ruleset turns = (next_shorter, prints_start, prints_nothing)

-- a job that is too long prints that alone, and any other what its commands tell
pub printed_too_long : (job : List ℕ) → most_bytes < length job → line_bytes too_long ≡ printed_by job
unfolding printed_by told_of
printed_too_long job long = sym (append-nil (line_bytes too_long)) ∙ ap (λ b. flat_map line_bytes (cond b (told_from nothing_yet (entries job)) (too_long ∷ []))) (sym (lt-leb (length job) most_bytes long))

pub printed_run : (job : List ℕ) → length job ≤ most_bytes → flat_map line_bytes (told_from nothing_yet (entries job)) ≡ printed_by job
unfolding printed_by told_of
printed_run job short = ap (λ b. flat_map line_bytes (cond b (told_from nothing_yet (entries job)) (too_long ∷ []))) (sym (le-leb (length job) most_bytes short))
