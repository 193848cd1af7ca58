-- What is read is spelled so, and what is spelled so is read. Assumes nothing.
use Rattle.std.proofs.Common.{◌≡◌, ℕ, suc, ◌+◌, ◌-◌, ◌*◌, ◌/◌, ◌%◌, ◌<◌, Bool, true, false, cond, eqb, List, [], ◌∷◌, ◌++◌, get_or, Some, None, IfSome, sym, refl, ap, ◌∙◌, subst, append_assoc, arith}
use Rattle.std.proofs.Math.Nat.{div-add-mod, mod-eq-sub-mul-div}
use Rattle.std.proofs.lemmas.Nat.{div-mul-add}
use Rattle.std.proofs.lemmas.Bool.{eqb-true}
use Rattle.job.specs.declared.command.Command.{Command}
use Rattle.job.specs.declared.command.Command.TheVariants.{Glyph, Take, Join, Cut, Places}
use Rattle.job.specs.Commands.{Front, ◌>>=◌, operand_at, fragment_at, glyph_at, take_at, join_at, cut_at, places_at, said_by, command_at, number_spelled, fragment_spelled, spelling}

-- a number and its two bytes
high_is : (high low : ℕ) → low < 256 → (256 * high + low) / 256 ≡ high
high_is high low small = let e : 256 * high + low ≡ high * 256 + low = omega arith in rw e (div-mul-add high 256 low small)

low_is : (high low : ℕ) → low < 256 → (256 * high + low) % 256 ≡ low
low_is high low small =
    mod-eq-sub-mul-div (256 * high + low) 256 ∙ ap (λ q. (256 * high + low) - 256 * q) (high_is high low small) ∙ omega arith

whole : (n : ℕ) → 256 * (n / 256) + n % 256 ≡ n
whole n = div-add-mod n 256

abbrev IsBytes : List ℕ → Type 0
IsBytes bytes = (i : ℕ) → get_or bytes i 0 < 256

-- what was read is spelled at the front of the bytes, before those after it
abbrev Stands : {A : Type 0} → List ℕ → (A → List ℕ) → Front A → Type 0
Stands bytes spelled None = Unit {0}
Stands bytes spelled (Some read) = (bytes ≡ spelled read.0 ++ read.1) × IsBytes read.1

then_stands : {A B : Type 0} (bytes : List ℕ) (first : A → List ℕ) (both : B → List ℕ) (front : Front A) (next : A × List ℕ → Front B) → Stands bytes first front
    → ((a : A) (rest : List ℕ) → bytes ≡ first a ++ rest → IsBytes rest → Stands bytes both (next (a, rest))) → Stands bytes both (front >>= next)
then_stands bytes first both None next stands later = tt
then_stands bytes first both (Some read) next stands later = later read.0 read.1 stands.0 stands.1

-- an operand after what is spelled before it, and a fragment
operand_stands : (bytes before rest : List ℕ) → bytes ≡ before ++ rest → IsBytes rest → Stands bytes (λ n. before ++ number_spelled n) (operand_at rest)
operand_stands bytes before [] is fits = tt
operand_stands bytes before (high ∷ []) is fits = tt
operand_stands bytes before (high ∷ low ∷ rest) is fits = (
  is ∙ (λ i. before ++ (sym (high_is high low (fits 1)) i ∷ sym (low_is high low (fits 1)) i ∷ rest)) ∙ sym (append_assoc before (number_spelled (256 * high + low)) rest),
  λ i. fits (suc (suc i)),
)

fragment_stands : (bytes before rest : List ℕ) → bytes ≡ before ++ rest → IsBytes rest → Stands bytes (λ part. before ++ fragment_spelled part) (fragment_at rest)
fragment_stands bytes before rest is fits =
    then_stands bytes (λ n. before ++ number_spelled n) (λ part. before ++ fragment_spelled part) (operand_at rest) _ (operand_stands bytes before rest is fits) (λ start more begins more_fits.
    then_stands bytes (λ n. (before ++ number_spelled start) ++ number_spelled n) (λ part. before ++ fragment_spelled part) (operand_at more) _ (operand_stands bytes (before ++ number_spelled start) more begins more_fits) (λ size last ends last_fits.
    (ends ∙ ap (λ l. l ++ last) (append_assoc before (number_spelled start) (number_spelled size)), last_fits)))

glyph_stands : (bs : List ℕ) → IsBytes bs → Stands (67 ∷ bs) spelling (glyph_at bs)
glyph_stands bs fits = then_stands (67 ∷ bs) (λ n. 67 ∷ number_spelled n) spelling (operand_at bs) _ (operand_stands (67 ∷ bs) (67 ∷ []) bs refl fits) (λ n rest is rest_fits. (is, rest_fits))

join_stands : (bs : List ℕ) → IsBytes bs → Stands (74 ∷ bs) spelling (join_at bs)
join_stands bs fits =
    then_stands (74 ∷ bs) (λ n. 74 ∷ number_spelled n) spelling (operand_at bs) _ (operand_stands (74 ∷ bs) (74 ∷ []) bs refl fits) (λ left more begins more_fits.
    then_stands (74 ∷ bs) (λ n. (74 ∷ number_spelled left) ++ number_spelled n) spelling (operand_at more) _ (operand_stands (74 ∷ bs) (74 ∷ number_spelled left) more begins more_fits) (λ right rest is rest_fits. (is, rest_fits)))

cut_stands : (bs : List ℕ) → IsBytes bs → Stands (75 ∷ bs) spelling (cut_at bs)
cut_stands bs fits =
    then_stands (75 ∷ bs) (λ n. 75 ∷ number_spelled n) spelling (operand_at bs) _ (operand_stands (75 ∷ bs) (75 ∷ []) bs refl fits) (λ number more begins more_fits.
    then_stands (75 ∷ bs) (λ part. (75 ∷ number_spelled number) ++ fragment_spelled part) spelling (fragment_at more) _ (fragment_stands (75 ∷ bs) (75 ∷ number_spelled number) more begins more_fits) (λ part rest is rest_fits. (is, rest_fits)))

places_stands : (bs : List ℕ) → IsBytes bs → Stands (70 ∷ bs) spelling (places_at bs)
places_stands bs fits =
    then_stands (70 ∷ bs) (λ n. 70 ∷ number_spelled n) spelling (operand_at bs) _ (operand_stands (70 ∷ bs) (70 ∷ []) bs refl fits) (λ number more begins more_fits.
    then_stands (70 ∷ bs) (λ part. (70 ∷ number_spelled number) ++ fragment_spelled part) spelling (fragment_at more) _ (fragment_stands (70 ∷ bs) (70 ∷ number_spelled number) more begins more_fits) (λ pattern last goes_on last_fits.
    then_stands (70 ∷ bs) (λ part. (70 ∷ (number_spelled number ++ fragment_spelled pattern)) ++ fragment_spelled part) spelling (fragment_at last) _ (fragment_stands (70 ∷ bs) (70 ∷ (number_spelled number ++ fragment_spelled pattern)) last goes_on last_fits) (λ field rest is rest_fits. (is, rest_fits))))

said_stands : (letter : ℕ) (bs : List ℕ) → IsBytes bs → Stands (letter ∷ bs) spelling (said_by letter bs)
said_stands letter bs fits =
    known 67 (glyph_at bs) _ (glyph_stands bs fits)
    (known 84 (take_at bs) _ (refl, fits)
    (known 74 (join_at bs) _ (join_stands bs fits)
    (known 75 (cut_at bs) _ (cut_stands bs fits)
    (known 70 (places_at bs) None (places_stands bs fits) tt))))
  where
    known : (k : ℕ) (x y : Front Command) → Stands (k ∷ bs) spelling x → Stands (letter ∷ bs) spelling y → Stands (letter ∷ bs) spelling (cond (eqb letter k) x y)
    known k x y at_x at_y = by (eqb letter k) refl
      where
        by : (b : Bool) → eqb letter k ≡ b → Stands (letter ∷ bs) spelling (cond b x y)
        by true is = subst (λ l. Stands (l ∷ bs) spelling x) (sym (eqb-true letter k is)) at_x
        by false is = at_y

-- what is read stands there spelled
pub read_spelled : (bytes : List ℕ) (front : Front Command) → ((i : ℕ) → get_or bytes i 0 < 256) → front ≡ command_at bytes → IfSome front (λ read. bytes ≡ spelling read.0 ++ read.1)
unfolding command_at
read_spelled [] front fits is = subst (λ f. IfSome f (λ read. [] ≡ spelling read.0 ++ read.1)) (sym is) tt
read_spelled (letter ∷ bs) front fits is = by front (subst (Stands (letter ∷ bs) spelling) (sym is) (said_stands letter bs (λ i. fits (suc i))))
  where
    by : (front : Front Command) → Stands (letter ∷ bs) spelling front → IfSome front (λ read. letter ∷ bs ≡ spelling read.0 ++ read.1)
    by None stands = tt
    by (Some read) stands = stands.0

-- and what stands there spelled is read
again : (command : Command) (rest : List ℕ) → command_at (spelling command ++ rest) ≡ Some (command, rest)
unfolding command_at
again (Glyph number) rest = λ i. Some (Glyph (whole number i), rest)
again Take rest = refl
again (Join left right) rest = λ i. Some (Join (whole left i) (whole right i), rest)
again (Cut number part) rest = λ i. Some (Cut (whole number i) (record { start = whole part.start i; length = whole part.length i }), rest)
again (Places number pattern field) rest =
    λ i. Some (Places (whole number i) (record { start = whole pattern.start i; length = whole pattern.length i }) (record { start = whole field.start i; length = whole field.length i }), rest)

pub spelled_read : (bytes : List ℕ) (front : Front Command) → front ≡ command_at bytes → (command : Command) (rest : List ℕ) → bytes ≡ spelling command ++ rest → front ≡ Some (command, rest)
spelled_read bytes front is command rest stands = is ∙ ap command_at stands ∙ again command rest
