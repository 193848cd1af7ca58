-- Calls of the book, check by check: what each comes to, what it keeps of the rows, and that a strip that was
-- answered stands under its number. Assumes nothing.
use Rattle.std.proofs.Common.{◌≡◌, ℕ, ◌+◌, ◌<◌, ◌≤◌, Bool, true, false, ◌&&◌, ltb, leb, ◌⊎◌, List, [], ◌++◌, length, drop, Some, None, Option, unwrap_or, sym, refl, ap, ◌∙◌, subst, inl, inr, arith, length-append, length-drop, length-take}
use Rattle.std.proofs.lemmas.List.{append-nil}
use lib.ListN.{length-map}
use Rattle.std.proofs.ByRecursion.{All-append}
use Rattle.std.proofs.lemmas.Bool.{cases_Bool, cases_lt, cond-true, cond-false, and_from, and_left, and_right, le-leb, lt-leb, leb-true}
use Rattle.cells.specs.Printing.{first_unprintable}
use Rattle.rows.proofs.LawfulFacts.{strip_short}
use Rattle.rows.specs.declared.Row.{Row}
use Rattle.rows.specs.Lawful.{Lawful}
use Rattle.rows.specs.Rounds.{Settled, settle, number_left}
use Rattle.rows.specs.Strips.{strip}
use Rattle.rows.proofs.OneNumber.{Stands, settled_stands, stands_append}
use Rattle.rows.proofs.SettleFacts.{settles}
use Rattle.rows.proofs.ShapeFacts.{settle_shapes}
use Rattle.book.specs.Calls.{Answer, strip_number, refused, refused_at, Book, Turn, refusing, Filing, unfiled, settling, filing, filed_in, printed, printing, taken, is_known, joined_up, part_of, cut_out}
use Rattle.book.specs.Laws.{leaf_of_kind, OfKind, LawfullyGrown, Stays}
use Rattle.book.proofs.CodeFacts.{KindLaws, HasAll, has_take, has_drop, strip_has, has_codes, printed_codes}

-- a strip that is filed: what holds of the refusal for want of places and of what the rounds come to holds of it
pub filing_by : (rows : List Row) (codes : List ℕ) (places : ℕ) (P : Filing → Type 0) → P (unfiled rows (refused 4)) → P (settling rows (settle rows codes)) → P (filing rows codes places)
unfolding filing
filing_by rows codes places P short enough =
    elim (cases_Bool (ltb places (length codes))) [
      | inl few ↦ subst P (sym (cond-true (ltb places (length codes)) (unfiled rows (refused 4)) (settling rows (settle rows codes)) few)) short
      | inr room ↦ subst P (sym (cond-false (ltb places (length codes)) (unfiled rows (refused 4)) (settling rows (settle rows codes)) room)) enough
    ]

-- a refusal answers no number
refused_apart : (number n : ℕ) → refused number ≡ strip_number n → ⊥
refused_apart number n is = let z : ◌≡◌ {A = ℕ} 0 1 = cc in omega arith

refused_at_apart : (number place n : ℕ) → refused_at number place ≡ strip_number n → ⊥
refused_at_apart number place n is = let z : ◌≡◌ {A = ℕ} 0 1 = cc in omega arith

-- what a call keeps of lawful rows: they stay lawful, and only grow; and the strip of a number that was answered stands
-- under it
pub record Keeps (rows : List Row) (codes : List ℕ) (answer : Answer) (after : List Row) : Type 0 where
  pub kept : LawfullyGrown rows after
  pub stands : (n : ℕ) → answer ≡ strip_number n → Stands after codes n

abbrev TurnKeeps : List Row → List ℕ → Turn → Type 0
TurnKeeps rows codes t = Keeps rows codes t.answer t.book.rows

module _ (rows : List Row) (law : Lawful rows) where
  unanswered : (codes : List ℕ) (answer : Answer) → ((n : ℕ) → answer ≡ strip_number n → ⊥) → Keeps rows codes answer rows
  unanswered codes answer none =
      record { kept = record { lawful = law; added = []; grows = sym (append-nil rows) }; stands = λ n is. absurd (none n is) }

  refusal : (codes : List ℕ) (number : ℕ) → Keeps rows codes (refused number) rows
  refusal codes number = unanswered codes (refused number) (refused_apart number)

  refusal_at : (codes : List ℕ) (number place : ℕ) → Keeps rows codes (refused_at number place) rows
  refusal_at codes number place = unanswered codes (refused_at number place) (refused_at_apart number place)

  module _ (codes : List ℕ) (short : length codes ≤ 65535) where
    abbrev FilingKeeps : Filing → Type 0
    FilingKeeps f = Keeps rows codes f.answer f.rows

    settling_keeps : (o : Option Settled) → settle rows codes ≡ o → FilingKeeps (settling rows o)
    settling_keeps None is = refusal codes 5
    settling_keeps (Some s) is =
        let all = settles rows codes s law short is in
        record {
          kept = record { lawful = all.lawful; added = all.added; grows = all.grows };
          stands = λ n answer. subst (λ k. Stands s.rows codes k) (let e : number_left s.numbers ≡ n = cc in e) (settled_stands rows codes s law short is);
        }

    filing_keeps : (places : ℕ) → FilingKeeps (filing rows codes places)
    filing_keeps places = filing_by rows codes places FilingKeeps (refusal codes 4) (settling_keeps (settle rows codes) refl)

-- taking, check by check
module _ {C : Type 0} (coded : C → Option ℕ) (book : Book) (cells : List C) (places : ℕ) where
  pub taken_other_kind : (same_kind : Bool) → same_kind ≡ false → taken same_kind coded book cells places ≡ refusing book (refused 1)
  unfolding taken
  taken_other_kind same_kind other = cond-false same_kind _ _ other

  pub taken_long : (same_kind : Bool) → same_kind ≡ true → 65535 < length cells → taken same_kind coded book cells places ≡ refusing book (refused 2)
  unfolding taken
  taken_long same_kind same long = cond-true same_kind _ _ same ∙ cond-false (leb (length cells) 65535) _ _ (lt-leb (length cells) 65535 long)

  pub taken_short : (same_kind : Bool) → same_kind ≡ true → length cells ≤ 65535 → (o : Option ℕ) → first_unprintable coded cells ≡ o → taken same_kind coded book cells places ≡ printing coded book cells places o
  unfolding taken
  taken_short same_kind same short o is = cond-true same_kind _ _ same ∙ cond-true (leb (length cells) 65535) _ _ (le-leb (length cells) 65535 short) ∙ ap (printing coded book cells places) is

-- what holds of its refusals, and of the strip of printable cells that is filed, holds of a take
module _ {C : Type 0} (coded : C → Option ℕ) (book : Book) (cells : List C) (places : ℕ) where
  short_codes : length cells ≤ 65535 → length (printed coded cells) ≤ 65535
  short_codes short = subst (λ k. k ≤ 65535) (sym (length-map cells (λ cell. unwrap_or (coded cell) 0))) short

  module _ (P : Turn → Type 0) (other_kind : P (refusing book (refused 1))) (long : P (refusing book (refused 2))) (unprintable : (place : ℕ) → P (refusing book (refused_at 3 place)))
      (filed : first_unprintable coded cells ≡ None → length (printed coded cells) ≤ 65535 → P (filed_in book (printed coded cells) places)) where
    printing_by : (o : Option ℕ) → length cells ≤ 65535 → first_unprintable coded cells ≡ o → P (printing coded book cells places o)
    printing_by (Some place) short is = unprintable place
    printing_by None short is = filed is (short_codes short)

    pub taken_by : (same_kind : Bool) → P (taken same_kind coded book cells places)
    unfolding taken
    taken_by false = other_kind
    taken_by true =
        let by_print = printing coded book cells places (first_unprintable coded cells) in
        elim (cases_Bool (leb (length cells) 65535)) [
          | inl short ↦ subst P (sym (cond-true (leb (length cells) 65535) by_print (refusing book (refused 2)) short)) (printing_by (first_unprintable coded cells) (leb-true (length cells) 65535 short) refl)
          | inr past ↦ subst P (sym (cond-false (leb (length cells) 65535) by_print (refusing book (refused 2)) past)) long
        ]

  -- a take: and if its number was answered, its cells are printable
  abbrev pub TakenKeeps : Turn → Type 0
  TakenKeeps t = TurnKeeps book.rows (printed coded cells) t × ((n : ℕ) → t.answer ≡ strip_number n → first_unprintable coded cells ≡ None)

  pub taken_keeps : Lawful book.rows → (same_kind : Bool) → TakenKeeps (taken same_kind coded book cells places)
  taken_keeps law =
      let codes = printed coded cells in
      taken_by TakenKeeps
      (refusal book.rows law codes 1, λ n answer. absurd (refused_apart 1 n answer))
      (refusal book.rows law codes 2, λ n answer. absurd (refused_apart 2 n answer))
      (λ place. (refusal_at book.rows law codes 3 place, λ n answer. absurd (refused_at_apart 3 place n answer)))
      (λ printable short. (filing_keeps book.rows law codes short places, λ n answer. printable))

-- joining, check by check
module _ (book : Book) (left right places : ℕ) where
  pub joined_unknown : (length book.rows < left) ⊎ (length book.rows < right) → joined_up book left right places ≡ refusing book (refused 6)
  unfolding joined_up
  joined_unknown (inl past) = cond-false (is_known book.rows left && is_known book.rows right) _ _ (and_left (is_known book.rows left) (is_known book.rows right) (lt-leb left (length book.rows) past))
  joined_unknown (inr past) = cond-false (is_known book.rows left && is_known book.rows right) _ _ (and_right (is_known book.rows left) (is_known book.rows right) (lt-leb right (length book.rows) past))

  module _ (left_known : left ≤ length book.rows) (right_known : right ≤ length book.rows) where
    known : is_known book.rows left && is_known book.rows right ≡ true
    known = and_from (is_known book.rows left) (is_known book.rows right) (le-leb left (length book.rows) left_known) (le-leb right (length book.rows) right_known)

    pub joined_long : 65535 < length (strip book.rows left) + length (strip book.rows right) → joined_up book left right places ≡ refusing book (refused 2)
    unfolding joined_up
    joined_long long = cond-true (is_known book.rows left && is_known book.rows right) _ _ known ∙ cond-false (leb (length (strip book.rows left) + length (strip book.rows right)) 65535) _ _ (lt-leb (length (strip book.rows left) + length (strip book.rows right)) 65535 long)

    pub joined_filed : length (strip book.rows left) + length (strip book.rows right) ≤ 65535 → joined_up book left right places ≡ filed_in book (strip book.rows left ++ strip book.rows right) places
    unfolding joined_up
    joined_filed short = cond-true (is_known book.rows left && is_known book.rows right) _ _ known ∙ cond-true (leb (length (strip book.rows left) + length (strip book.rows right)) 65535) _ _ (le-leb (length (strip book.rows left) + length (strip book.rows right)) 65535 short)

-- cutting, check by check
module _ (book : Book) (n start size places : ℕ) where
  pub cut_unknown : length book.rows < n → cut_out book n start size places ≡ refusing book (refused 6)
  unfolding cut_out
  cut_unknown past = cond-false (is_known book.rows n) _ _ (lt-leb n (length book.rows) past)

  pub cut_leaves : n ≤ length book.rows → length (strip book.rows n) < start + size → cut_out book n start size places ≡ refusing book (refused 7)
  unfolding cut_out
  cut_leaves within past = cond-true (is_known book.rows n) _ _ (le-leb n (length book.rows) within) ∙ cond-false (leb (start + size) (length (strip book.rows n))) _ _ (lt-leb (start + size) (length (strip book.rows n)) past)

  pub cut_filed : n ≤ length book.rows → start + size ≤ length (strip book.rows n) → cut_out book n start size places ≡ filed_in book (part_of book.rows n start size) places
  unfolding cut_out
  cut_filed within inside = cond-true (is_known book.rows n) _ _ (le-leb n (length book.rows) within) ∙ cond-true (leb (start + size) (length (strip book.rows n))) _ _ (le-leb (start + size) (length (strip book.rows n)) inside)

-- what holds of its refusals, and of the strip that is filed, holds of a join
pub joined_by : (book : Book) (left right places : ℕ) (P : Turn → Type 0) → P (refusing book (refused 6)) → P (refusing book (refused 2))
    → (length (strip book.rows left ++ strip book.rows right) ≤ 65535 → P (filed_in book (strip book.rows left ++ strip book.rows right) places)) → P (joined_up book left right places)
joined_by book left right places P unknown long filed =
    elim (cases_lt (length book.rows) left) [
      | inl past ↦ subst P (sym (joined_unknown book left right places (inl past))) unknown
      | inr left_known ↦
          elim (cases_lt (length book.rows) right) [
            | inl past ↦ subst P (sym (joined_unknown book left right places (inr past))) unknown
            | inr right_known ↦
                elim (cases_lt 65535 (length (strip book.rows left) + length (strip book.rows right))) [
                  | inl past ↦ subst P (sym (joined_long book left right places left_known right_known past)) long
                  | inr short ↦ subst P (sym (joined_filed book left right places left_known right_known short)) (filed (omega (arith, length-append (strip book.rows left) (strip book.rows right))))
                ]
          ]
    ]

-- .. and of a cut, on rows whose strips are short
pub cut_by : (book : Book) (n start size places : ℕ) → length (strip book.rows n) ≤ 65535 → (P : Turn → Type 0) → P (refusing book (refused 6)) → P (refusing book (refused 7))
    → (length (part_of book.rows n start size) ≤ 65535 → P (filed_in book (part_of book.rows n start size) places)) → P (cut_out book n start size places)
cut_by book n start size places short P unknown leaves filed =
    elim (cases_lt (length book.rows) n) [
      | inl past ↦ subst P (sym (cut_unknown book n start size places past)) unknown
      | inr within ↦
          elim (cases_lt (length (strip book.rows n)) (start + size)) [
            | inl past ↦ subst P (sym (cut_leaves book n start size places within past)) leaves
            | inr inside ↦ subst P (sym (cut_filed book n start size places within inside)) (filed (simp (length-take, length-drop) (omega arith)))
          ]
    ]

-- on a lawful book
module _ (book : Book) (law : Lawful book.rows) where
  pub joined_keeps : (left right places : ℕ) → TurnKeeps book.rows (strip book.rows left ++ strip book.rows right) (joined_up book left right places)
  joined_keeps left right places =
      let codes = strip book.rows left ++ strip book.rows right in
      joined_by book left right places (TurnKeeps book.rows codes) (refusal book.rows law codes 6) (refusal book.rows law codes 2) (λ short. filing_keeps book.rows law codes short places)

  pub cut_keeps : (n start size places : ℕ) → TurnKeeps book.rows (part_of book.rows n start size) (cut_out book n start size places)
  cut_keeps n start size places =
      let codes = part_of book.rows n start size in
      cut_by book n start size places (strip_short book.rows law n) (TurnKeeps book.rows codes) (refusal book.rows law codes 6) (refusal book.rows law codes 7) (λ short. filing_keeps book.rows law codes short places)

-- what was joined or cut is what its number writes, also when rows were added since
pub stays : (rows : List Row) (codes : List ℕ) (t : Turn) → TurnKeeps rows codes t → Stays codes t
stays rows codes t keeps n answer more = (stands_append t.book.rows more codes n (keeps.stands n answer)).writes

-- the codes of rows of a kind are codes of it
module _ (has : ℕ → Bool) (book : Book) (kinds : OfKind has book.rows) where
  pub both_have : (left right : ℕ) → HasAll has (strip book.rows left ++ strip book.rows right)
  both_have left right = All-append (λ c. has c ≡ true) (strip book.rows left) (strip book.rows right) (strip_has has book.rows left kinds) (strip_has has book.rows right kinds)

  pub part_has : (n start size : ℕ) → HasAll has (part_of book.rows n start size)
  part_has n start size = has_take has size (drop start (strip book.rows n)) (has_drop has start (strip book.rows n) (strip_has has book.rows n kinds))

  -- and calls keep them so
  abbrev HasKind : Turn → Type 0
  HasKind t = OfKind has t.book.rows

  settling_of_kind : (codes : List ℕ) → HasAll has codes → (o : Option Settled) → settle book.rows codes ≡ o → OfKind has (settling book.rows o).rows
  settling_of_kind codes has_all None is = kinds
  settling_of_kind codes has_all (Some s) is = settle_shapes (leaf_of_kind has) (λ l r. tt) (λ p m. tt) book.rows codes s kinds has_all is

  filing_of_kind : (codes : List ℕ) (places : ℕ) → HasAll has codes → OfKind has (filing book.rows codes places).rows
  filing_of_kind codes places has_all = filing_by book.rows codes places (λ f. OfKind has f.rows) kinds (settling_of_kind codes has_all (settle book.rows codes) refl)

  pub joined_of_kind : (left right places : ℕ) → OfKind has (joined_up book left right places).book.rows
  joined_of_kind left right places =
      joined_by book left right places HasKind kinds kinds (λ short. filing_of_kind (strip book.rows left ++ strip book.rows right) places (both_have left right))

  pub cut_of_kind : (n start size places : ℕ) → length (strip book.rows n) ≤ 65535 → OfKind has (cut_out book n start size places).book.rows
  cut_of_kind n start size places short =
      cut_by book n start size places short HasKind kinds kinds (λ fits. filing_of_kind (part_of book.rows n start size) places (part_has n start size))

  pub taken_of_kind : {C : Type 0} (coded : C → Option ℕ) (given : ℕ → C) (same : C → C → Type 0) → KindLaws coded has given same → (cells : List C) (places : ℕ) (same_kind : Bool)
      → OfKind has (taken same_kind coded book cells places).book.rows
  taken_of_kind coded given same laws cells places =
      taken_by coded book cells places HasKind kinds kinds (λ place. kinds)
      (λ printable short. filing_of_kind (printed coded cells) places (has_codes coded has given same laws cells (printed coded cells) (printed_codes coded cells printable)))
