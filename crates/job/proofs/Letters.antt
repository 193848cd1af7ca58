-- Commands by their letters. Assumes nothing.
use Rattle.std.proofs.Common.{◌≡◌, ℕ, ◌+◌, ◌-◌, ◌*◌, ◌<◌, ◌≤◌, Bool, true, false, cond, eqb, List, [], ◌∷◌, length, get_or, take, drop, Some, None, sym, refl, ap, ◌∙◌, arith}
use Rattle.std.proofs.lemmas.Bool.{eqb-true}
use Rattle.std.proofs.lemmas.List.{take_rest}
use Rattle.periodicity.specs.declared.Fragment.{Fragment}
use Rattle.job.specs.declared.command.Command.{Command}
use Rattle.job.specs.declared.command.Command.TheVariants.{Glyph, Take, Join, Cut, Places}
use Rattle.job.specs.Commands.{Front, glyph_at, join_at, cut_at, places_at, said_by, command_at}

-- the operand in the bytes from a place on, and the fragment in two
abbrev word : List ℕ → ℕ → ℕ
word bytes k = 256 * get_or bytes k 0 + get_or bytes (k + 1) 0

abbrev span : List ℕ → ℕ → Fragment
span bytes k = record { start = word bytes k; length = word bytes (k + 2) }

-- a whole command is read by its letter
pub reads_glyph : (bytes : List ℕ) (number : ℕ) → 3 ≤ length bytes → get_or bytes 0 0 ≡ 67 → number ≡ word bytes 1 → Some (Glyph number, take (length bytes - 3) (drop 3 bytes)) ≡ command_at bytes
unfolding command_at
reads_glyph (letter ∷ a ∷ b ∷ rest) number long is at_number =
    (λ i. Some (Glyph (at_number i), take_rest (letter ∷ a ∷ b ∷ rest) 3 i)) ∙ ap (λ l. said_by l (a ∷ b ∷ rest)) (sym is)
reads_glyph bytes number long is at_number = absurd (omega (arith, long))

pub reads_take : (bytes : List ℕ) → 1 ≤ length bytes → get_or bytes 0 0 ≡ 84 → Some (Take, take (length bytes - 1) (drop 1 bytes)) ≡ command_at bytes
unfolding command_at
reads_take (letter ∷ rest) long is = ap (λ r. Some (Take, r)) (take_rest (letter ∷ rest) 1) ∙ ap (λ l. said_by l rest) (sym is)
reads_take [] long is = absurd (omega (arith, long))

pub reads_join : (bytes : List ℕ) (left right : ℕ) → 5 ≤ length bytes → get_or bytes 0 0 ≡ 74 → left ≡ word bytes 1 → right ≡ word bytes 3 → Some (Join left right, take (length bytes - 5) (drop 5 bytes)) ≡ command_at bytes
unfolding command_at
reads_join (letter ∷ a ∷ b ∷ c ∷ d ∷ rest) left right long is at_left at_right =
    (λ i. Some (Join (at_left i) (at_right i), take_rest (letter ∷ a ∷ b ∷ c ∷ d ∷ rest) 5 i)) ∙ ap (λ l. said_by l (a ∷ b ∷ c ∷ d ∷ rest)) (sym is)
reads_join bytes left right long is at_left at_right = absurd (omega (arith, long))

-- K and F are read by their operands, in the bytes after the letter
pub reads_cut : (bytes : List ℕ) (found : Front Command) → 1 ≤ length bytes → get_or bytes 0 0 ≡ 75 → found ≡ cut_at (take (length bytes - 1) (drop 1 bytes)) → found ≡ command_at bytes
unfolding command_at
reads_cut (letter ∷ rest) found long is read = read ∙ ap cut_at (take_rest (letter ∷ rest) 1) ∙ ap (λ l. said_by l rest) (sym is)
reads_cut [] found long is read = absurd (omega (arith, long))

pub reads_places : (bytes : List ℕ) (found : Front Command) → 1 ≤ length bytes → get_or bytes 0 0 ≡ 70 → found ≡ places_at (take (length bytes - 1) (drop 1 bytes)) → found ≡ command_at bytes
unfolding command_at
reads_places (letter ∷ rest) found long is read = read ∙ ap places_at (take_rest (letter ∷ rest) 1) ∙ ap (λ l. said_by l rest) (sym is)
reads_places [] found long is read = absurd (omega (arith, long))

pub operands_cut : (bytes : List ℕ) (number : ℕ) (part : Fragment) → 6 ≤ length bytes → number ≡ word bytes 0 → part ≡ span bytes 2 → Some (Cut number part, take (length bytes - 6) (drop 6 bytes)) ≡ cut_at bytes
operands_cut (a ∷ b ∷ c ∷ d ∷ e ∷ f ∷ rest) number part long at_number at_part =
    λ i. Some (Cut (at_number i) (at_part i), take_rest (a ∷ b ∷ c ∷ d ∷ e ∷ f ∷ rest) 6 i)
operands_cut bytes number part long at_number at_part = absurd (omega (arith, long))

pub operands_places : (bytes : List ℕ) (number : ℕ) (pattern field : Fragment) → 10 ≤ length bytes → number ≡ word bytes 0 → pattern ≡ span bytes 2 → field ≡ span bytes 6
    → Some (Places number pattern field, take (length bytes - 10) (drop 10 bytes)) ≡ places_at bytes
operands_places (a ∷ b ∷ c ∷ d ∷ e ∷ f ∷ g ∷ h ∷ j ∷ k ∷ rest) number pattern field long at_number at_pattern at_field =
    λ i. Some (Places (at_number i) (at_pattern i) (at_field i), take_rest (a ∷ b ∷ c ∷ d ∷ e ∷ f ∷ g ∷ h ∷ j ∷ k ∷ rest) 10 i)
operands_places bytes number pattern field long at_number at_pattern at_field = absurd (omega (arith, long))

-- operands that are cut short are not read
glyph_short : (bytes : List ℕ) → length bytes < 2 → glyph_at bytes ≡ None
glyph_short (a ∷ b ∷ rest) short = absurd (omega (arith, short))
glyph_short bytes short = refl

join_short : (bytes : List ℕ) → length bytes < 4 → join_at bytes ≡ None
join_short (a ∷ b ∷ c ∷ d ∷ rest) short = absurd (omega (arith, short))
join_short bytes short = refl

pub cut_short : (bytes : List ℕ) → length bytes < 6 → None ≡ cut_at bytes
cut_short (a ∷ b ∷ c ∷ d ∷ e ∷ f ∷ rest) short = absurd (omega (arith, short))
cut_short bytes short = refl

pub places_short : (bytes : List ℕ) → length bytes < 10 → None ≡ places_at bytes
places_short (a ∷ b ∷ c ∷ d ∷ e ∷ f ∷ g ∷ h ∷ j ∷ k ∷ rest) short = absurd (omega (arith, short))
places_short bytes short = refl

-- no command is there when each letter that is known needs more bytes than there are
pub reads_none : (bytes : List ℕ) → (get_or bytes 0 0 ≡ 67 → length bytes < 3) → (get_or bytes 0 0 ≡ 84 → length bytes < 1) → (get_or bytes 0 0 ≡ 74 → length bytes < 5) → (get_or bytes 0 0 ≡ 75 → length bytes < 1)
    → (get_or bytes 0 0 ≡ 70 → length bytes < 1) → None ≡ command_at bytes
unfolding command_at
reads_none [] glyph take join cut places = refl
reads_none (letter ∷ rest) glyph take join cut places = sym (
    none 67 _ _ (λ is. glyph_short rest (omega (arith, glyph is)))
    (none 84 _ _ (λ is. absurd (omega (arith, take is)))
    (none 74 _ _ (λ is. join_short rest (omega (arith, join is)))
    (none 75 _ _ (λ is. absurd (omega (arith, cut is)))
    (none 70 _ _ (λ is. absurd (omega (arith, places is))) refl)))))
  where
    none : (known : ℕ) (x y : Front Command) → (letter ≡ known → x ≡ None) → y ≡ None → cond (eqb letter known) x y ≡ None
    none known x y at_x at_y = by (eqb letter known) refl
      where
        by : (b : Bool) → eqb letter known ≡ b → cond b x y ≡ None
        by true is = at_x (eqb-true letter known is)
        by false is = at_y

-- what can stand at the front of some bytes
pub ruleset readings = (reads_glyph, reads_take, reads_join, reads_cut, reads_places, reads_none)

-- what the operands of K and F are, or that they are cut short
pub ruleset operands = (operands_cut, cut_short, operands_places, places_short)
