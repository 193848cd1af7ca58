-- What the test of a lawful row says, and that lawful rows stay lawful under added rows.
-- Assumes nothing.
use Rattle.std.proofs.Common.{◌≡◌, ℕ, zero, suc, ◌+◌, ◌-◌, ◌<◌, ◌≤◌, true, false, ◌&&◌, eqb, leb, List, [], ◌∷◌, ◌++◌, length, take, drop, Some, None, Option, sym, refl, ap, ◌∙◌, subst, inl, inr, arith, length-append}
use Rattle.std.proofs.lemmas.List.{append-nil, length-take-le, take-append-le, take-append-drop, nil_from_length, get_or_past}
use Rattle.std.proofs.lemmas.Bool.{both_ways, and_parts, and_from, eqb-true, eq-eqb, leb-true, le-leb, cases_lt}
use Rattle.rows.specs.declared.Row.{Row}
use Rattle.rows.specs.Filing.{find, row_of}
use Rattle.rows.specs.Lawful.{parts_below, found_as, comes_to, lawful_row, Lawful}
use Rattle.rows.specs.Rounds.{Settled, settle, number_left}
use Rattle.rows.specs.Strips.{strips_from, strip}
use Rattle.rows.proofs.FilingFacts.{find_append, find_before}
use Rattle.rows.proofs.NamingFacts.{settle_grows}
use Rattle.rows.proofs.StripFacts.{Parts, strip_append, row_append, length_strips}

-- all that is promised of row n
pub record RowLawful (rows : List Row) (n : ℕ) : Type 0 where
  pub parts : parts_below n (row_of rows n).shape ≡ true
  pub found : find rows (row_of rows n).shape ≡ Some n
  pub long : (row_of rows n).length ≡ length (strip rows n)
  pub short : length (strip rows n) ≤ 65535
  pub comes : settle (take n rows) (strip rows n) ≡ Some (record { numbers = n ∷ []; rows = take n rows; rounds = (row_of rows n).round })

found_is : (n : ℕ) (o : Option ℕ) → found_as n o ≡ true → o ≡ Some n
found_is n None h = absurd (both_ways false refl h)
found_is n (Some m) h = ap Some (eqb-true m n h)

one_number : (xs : List ℕ) (n : ℕ) → length xs ≡ 1 → number_left xs ≡ n → xs ≡ n ∷ []
one_number [] n one is = absurd (omega arith)
one_number (x ∷ xs) n one is = ap (λ y. y ∷ xs) is ∙ ap (λ ys. n ∷ ys) (nil_from_length xs (omega arith))

comes_is : (rows : List Row) (codes : List ℕ) (n k : ℕ) (o : Option Settled) → length rows ≡ n → settle rows codes ≡ o → comes_to n k o ≡ true
    → settle rows codes ≡ Some (record { numbers = n ∷ []; rows = rows; rounds = k })
comes_is rows codes n k None long is h = absurd (both_ways false refl h)
comes_is rows codes n k (Some s) long is h =
    let sides = and_parts (eqb (length s.numbers) 1 && eqb (number_left s.numbers) n) (eqb (length s.rows) n && eqb s.rounds k) h in
    let left = and_parts (eqb (length s.numbers) 1) (eqb (number_left s.numbers) n) sides.0 in
    let right = and_parts (eqb (length s.rows) n) (eqb s.rounds k) sides.1 in
    let numbers_are = one_number s.numbers n (eqb-true (length s.numbers) 1 left.0) (eqb-true (number_left s.numbers) n left.1) in
    let grown = settle_grows rows codes s is in
    let none : grown.0 ≡ [] =
    nil_from_length grown.0 (let sum = ap length grown.1 ∙ length-append rows grown.0 in let full = eqb-true (length s.rows) n right.0 in omega arith) in
    let rows_are : s.rows ≡ rows = grown.1 ∙ ap (λ rs. rows ++ rs) none ∙ append-nil rows in
    let rounds_are = eqb-true s.rounds k right.1 in
    is ∙ ap Some (λ i. record { numbers = numbers_are i; rows = rows_are i; rounds = rounds_are i })

pub row_from_test : (rows : List Row) (n : ℕ) → n ≤ length rows → lawful_row rows n ≡ true → RowLawful rows n
unfolding lawful_row
row_from_test rows n within h =
    let row = row_of rows n in
    let halves = and_parts (parts_below n row.shape && found_as n (find rows row.shape)) ((eqb row.length (length (strip rows n)) && leb (length (strip rows n)) 65535) && comes_to n row.round (settle (take n rows) (strip rows n))) h in
    let first = and_parts (parts_below n row.shape) (found_as n (find rows row.shape)) halves.0 in
    let second = and_parts (eqb row.length (length (strip rows n)) && leb (length (strip rows n)) 65535) (comes_to n row.round (settle (take n rows) (strip rows n))) halves.1 in
    let lengths = and_parts (eqb row.length (length (strip rows n))) (leb (length (strip rows n)) 65535) second.0 in
    record {
      parts = first.0;
      found = found_is n (find rows row.shape) first.1;
      long = eqb-true row.length (length (strip rows n)) lengths.0;
      short = leb-true (length (strip rows n)) 65535 lengths.1;
      comes = comes_is (take n rows) (strip rows n) n row.round (settle (take n rows) (strip rows n)) (length-take-le n rows within) refl second.1;
    }

pub test_from_row : (rows : List Row) (n : ℕ) → n ≤ length rows → RowLawful rows n → lawful_row rows n ≡ true
unfolding lawful_row
test_from_row rows n within law =
    let row = row_of rows n in
    let finds : found_as n (find rows row.shape) ≡ true = ap (found_as n) law.found ∙ eq-eqb n n refl in
    let last : comes_to n row.round (Some (record { numbers = n ∷ []; rows = take n rows; rounds = row.round })) ≡ true =
    and_from (eqb 1 1 && eqb n n) (eqb (length (take n rows)) n && eqb row.round row.round)
    (eq-eqb n n refl)
    (and_from (eqb (length (take n rows)) n) (eqb row.round row.round) (eq-eqb (length (take n rows)) n (length-take-le n rows within)) (eq-eqb row.round row.round refl)) in
    and_from (parts_below n row.shape && found_as n (find rows row.shape)) ((eqb row.length (length (strip rows n)) && leb (length (strip rows n)) 65535) && comes_to n row.round (settle (take n rows) (strip rows n)))
    (and_from (parts_below n row.shape) (found_as n (find rows row.shape)) law.parts finds)
    (and_from (eqb row.length (length (strip rows n)) && leb (length (strip rows n)) 65535) (comes_to n row.round (settle (take n rows) (strip rows n)))
    (and_from (eqb row.length (length (strip rows n))) (leb (length (strip rows n)) 65535) (eq-eqb row.length (length (strip rows n)) law.long) (le-leb (length (strip rows n)) 65535 law.short))
    (ap (comes_to n row.round) law.comes ∙ last))

-- a lawful row stays lawful when rows are added
pub row_lawful_append : (rows more : List Row) (n : ℕ) → n ≤ length rows → RowLawful rows n → RowLawful (rows ++ more) n
row_lawful_append rows more n within law =
    let same_row = row_append rows more n within in
    let same_strip = strip_append rows more n within in
    let same_rows = take-append-le n rows more within in
    record {
      parts = subst (λ r. parts_below n r.shape ≡ true) (sym same_row) law.parts;
      found = subst (λ r. find (rows ++ more) r.shape ≡ Some n) (sym same_row) (find_append rows more (row_of rows n).shape n law.found);
      long = ap (λ r. r.length) same_row ∙ law.long ∙ ap length (sym same_strip);
      short = subst (λ xs. length xs ≤ 65535) (sym same_strip) law.short;
      comes = ap (λ rs. settle rs (strip (rows ++ more) n)) same_rows ∙ ap (settle (take n rows)) same_strip ∙ law.comes
          ∙ ap (λ rs. Some (record { numbers = n ∷ []; rows = rs; rounds = (row_of rows n).round })) (sym same_rows)
          ∙ ap (λ r. Some (record { numbers = n ∷ []; rows = take n (rows ++ more); rounds = r.round })) (sym same_row);
    }

pub row_lawful : (rows : List Row) → Lawful rows → (n : ℕ) → 0 < n → n ≤ length rows → RowLawful rows n
row_lawful rows law n some within =
    let e : n - 1 + 1 ≡ n = omega arith in
    row_from_test rows n within (subst (λ k. lawful_row rows k ≡ true) e (law.1 (n - 1) (omega arith)))

-- rows that begin lawful rows are lawful
row_lawful_before : (rows more : List Row) (n : ℕ) → n ≤ length rows → RowLawful (rows ++ more) n → RowLawful rows n
row_lawful_before rows more n within law =
    let same_row = row_append rows more n within in
    let same_strip = strip_append rows more n within in
    let same_rows = take-append-le n rows more within in
    record {
      parts = subst (λ r. parts_below n r.shape ≡ true) same_row law.parts;
      found = find_before rows more (row_of rows n).shape n within (subst (λ r. find (rows ++ more) r.shape ≡ Some n) same_row law.found);
      long = ap (λ r. r.length) (sym same_row) ∙ law.long ∙ ap length same_strip;
      short = subst (λ xs. length xs ≤ 65535) same_strip law.short;
      comes = ap (λ rs. settle rs (strip rows n)) (sym same_rows) ∙ ap (settle (take n (rows ++ more))) (sym same_strip) ∙ law.comes
          ∙ ap (λ rs. Some (record { numbers = n ∷ []; rows = rs; rounds = (row_of (rows ++ more) n).round })) same_rows
          ∙ ap (λ r. Some (record { numbers = n ∷ []; rows = take n rows; rounds = r.round })) same_row;
    }

pub lawful_before : (rows more : List Row) → Lawful (rows ++ more) → Lawful rows
lawful_before rows more law =
    let sum = length-append rows more in (
      omega (arith, law.0),
      λ k within. test_from_row rows (k + 1) (omega arith) (row_lawful_before rows more (k + 1) (omega arith) (row_lawful (rows ++ more) law (k + 1) (omega arith) (omega arith))),
    )

pub lawful_take : (rows : List Row) (n : ℕ) → Lawful rows → Lawful (take n rows)
lawful_take rows n law = lawful_before (take n rows) (drop n rows) (subst Lawful (sym (take-append-drop n rows)) law)

pub lawful_parts : (rows : List Row) → Lawful rows → Parts rows
lawful_parts rows law n some within = (row_lawful rows law n some within).parts

-- no rows are lawful
pub lawful_none : Lawful []
lawful_none = (omega arith, λ k within. absurd (omega arith))

-- the strip of any number on lawful rows is short
pub strip_short : (rows : List Row) → Lawful rows → (n : ℕ) → length (strip rows n) ≤ 65535
unfolding strip
strip_short rows law zero = omega arith
strip_short rows law (suc n) =
    elim (cases_lt n (length rows)) [
      | inl within ↦ (row_lawful rows law (suc n) (omega arith) within).short
      | inr past ↦ subst (λ xs. length xs ≤ 65535) (sym (unknown rows n past)) (omega arith)
    ]
  where
    unknown : (rs : List Row) (k : ℕ) → length rs ≤ k → strip rs (suc k) ≡ []
    unknown rs k past = get_or_past ([] ∷ strips_from [] rs) (suc k) [] (let l = length_strips rs in omega arith)
