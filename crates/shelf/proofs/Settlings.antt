-- From the rounds on leaf numbers to the strip that settles, and to what the book tells of it.
-- Assumes nothing.
use Rattle.std.proofs.Common.{◌≡◌, ℕ, ◌+◌, ◌<◌, ◌≤◌, ltb, leb, List, ◌++◌, map, length, take, Some, None, Ok, Err, Option, Result, sym, refl, ap, ◌∙◌, subst, arith}
use lib.ListN.{length-map}
use Rattle.std.proofs.lemmas.List.{take-append-le, take_all}
use Rattle.std.proofs.lemmas.Bool.{cond-true, cond-false, lt-ltb, le-ltb, le-leb}
use Rattle.std.proofs.lemmas.List.Elements.{length_all_zip}
use Rattle.std.specs.List.{AllZip}
use Rattle.book.specs.Calls.{strip_number, refused, Book, with_rows, Turn, refusing, Filing, unfiled, settling, filing, in_book}
use Rattle.book.specs.Laws.{OfKind, Stays, WritesCells, PartsKeep}
use Rattle.rows.specs.declared.Row.{Row}
use Rattle.rows.specs.Rounds.{Settled, number_left, then, rounds_from, leaf_block, leaves, enough_rounds, settle}
use Rattle.rows.specs.Strips.{strip}
use Rattle.rows.proofs.Counts.{settle_from_leaves}
use Rattle.rows.proofs.NamingFacts.{file_all_grows}
use Rattle.recompression.specs.Settlements.{all_rounds}
use Rattle.shelf.specs.declared.refusal.Refusal.{Refusal}
use Rattle.shelf.specs.declared.refusal.Refusal.TheVariants.{OtherKind, TooLong, Unprintable, WorkAreaTooShort, ShelfFull, UnknownNumber, FragmentLeavesStrip}
use Rattle.shelf.specs.Leaves.{LeavesFiled, SettlesAs, SettlesOrUndoes}
use Rattle.shelf.specs.Refusals.{refusal_told, ComesTo, StripFiled, StaysWritten, Writes}
use Rattle.shelf.specs.WritingOut.{WrittenBack, WritesBack}

-- the refusal that is told for want of rows
full_told : (e : Refusal) → refusal_told e ≡ refused 5 → e ≡ ShelfFull
full_told OtherKind is = let z : ◌≡◌ {A = ℕ} 1 5 = cc in absurd (omega arith)
full_told TooLong is = let z : ◌≡◌ {A = ℕ} 2 5 = cc in absurd (omega arith)
full_told (Unprintable place) is = let z : ◌≡◌ {A = ℕ} 0 1 = cc in absurd (omega arith)
full_told WorkAreaTooShort is = let z : ◌≡◌ {A = ℕ} 4 5 = cc in absurd (omega arith)
full_told ShelfFull is = refl
full_told UnknownNumber is = let z : ◌≡◌ {A = ℕ} 6 5 = cc in absurd (omega arith)
full_told FragmentLeavesStrip is = let z : ◌≡◌ {A = ℕ} 7 5 = cc in absurd (omega arith)

-- a refusal is told as no number
told_apart : (number n : ℕ) → refused number ≡ strip_number n → ⊥
told_apart number n is = let z : ◌≡◌ {A = ℕ} 0 1 = cc in omega arith

refusal_apart : (e : Refusal) (n : ℕ) → refusal_told e ≡ strip_number n → ⊥
refusal_apart (Unprintable place) n is = let z : ◌≡◌ {A = ℕ} 0 1 = cc in omega arith
refusal_apart OtherKind n is = told_apart 1 n is
refusal_apart TooLong n is = told_apart 2 n is
refusal_apart WorkAreaTooShort n is = told_apart 4 n is
refusal_apart ShelfFull n is = told_apart 5 n is
refusal_apart UnknownNumber n is = told_apart 6 n is
refusal_apart FragmentLeavesStrip n is = told_apart 7 n is

module _ (old rows : List Row) (codes numbers : List ℕ) (filed : leaves old codes ≡ Some (record { numbers = numbers; rows = rows })) (short : length numbers ≤ 65535) where
  kept : take (length old) rows ≡ old
  kept =
      let grown = file_all_grows 0 (map leaf_block codes) old (record { numbers = numbers; rows = rows }) filed in
      ap (take (length old)) grown.grows ∙ take-append-le (length old) old grown.added (omega arith) ∙ take_all (length old) old (omega arith)

  by_outcome : (o : Option Settled) → all_rounds rows numbers ≡ o → (r : Result ℕ Refusal) (after : List Row) → StripFiled r after (settling rows o) → SettlesAs old codes r after
  by_outcome None is (Ok n) after files = absurd (told_apart 5 n (sym files.0))
  by_outcome None is (Err e) after files =
      (full_told e files.0, settle_from_leaves old rows codes numbers filed ∙ is, ap (take (length old)) files.1 ∙ kept)
  by_outcome (Some s) is (Ok n) after files =
      let same : n ≡ number_left s.numbers = let e = files.0 in cc in
      (s, settle_from_leaves old rows codes numbers filed ∙ is, same, files.1)
  by_outcome (Some s) is (Err e) after files = absurd (refusal_apart e (number_left s.numbers) files.0)

  pub settled_after : (r : Result ℕ Refusal) (after : List Row) → StripFiled r after (settling rows (all_rounds rows numbers)) → SettlesAs old codes r after
  settled_after r after files = by_outcome (all_rounds rows numbers) refl r after files

-- leaves that need a row 1,025
pub leaves_full : (old after : List Row) (codes numbers : List ℕ) (e : Refusal) → LeavesFiled {A = Unit {0}} old codes (Err e) after numbers → SettlesAs old codes (Err e) after
unfolding settle
leaves_full old after codes numbers e full = (full.0, ap (λ o. then o (rounds_from (enough_rounds (length codes)) 0)) full.1, full.2)

-- what the book tells
module _ (old : List Row) (codes : List ℕ) (places : ℕ) where
  pub told_short : places < length codes → (rows : List Row) → rows ≡ old → StripFiled (Err WorkAreaTooShort) rows (filing old codes places)
  unfolding filing
  told_short few rows same =
      let is = cond-true (ltb places (length codes)) (unfiled old (refused 4)) (settling old (settle old codes)) (lt-ltb places (length codes) few) in
      (ap (λ t. t.answer) (sym is), same ∙ ap (λ t. t.rows) (sym is))

  pub filing_enough : length codes ≤ places → filing old codes places ≡ settling old (settle old codes)
  unfolding filing
  filing_enough room = cond-false (ltb places (length codes)) (unfiled old (refused 4)) (settling old (settle old codes)) (le-ltb places (length codes) room)

  pub told_settled : length codes ≤ places → (r : Result ℕ Refusal) (after : List Row) → SettlesOrUndoes old codes r after → StripFiled r after (filing old codes places)
  told_settled room (Ok n) after is =
      let same = filing_enough room ∙ ap (settling old) is.1 in
      (ap strip_number is.2 ∙ ap (λ t. t.answer) (sym same), is.3 ∙ ap (λ t. t.rows) (sym same))
  told_settled room (Err e) after is =
      let same = filing_enough room ∙ ap (settling old) is.1 in
      (ap refusal_told is.0 ∙ ap (λ t. t.answer) (sym same), is.2 ∙ ap (λ t. t.rows) (sym same))

-- a strip that is filed is a turn of the book
pub filed_comes : (book : Book) (r : Result ℕ Refusal) (after : List Row) (f : Filing) (t : Turn) → t ≡ in_book book f → StripFiled r after f → ComesTo r (with_rows book after) t
filed_comes book r after f t same files = (files.0 ∙ ap (λ u. u.answer) (sym same), ap (with_rows book) files.1 ∙ ap (λ u. u.book) (sym same))

-- a refusal leaves the book as it stood
pub comes_refused : (e : Refusal) (book : Book) (t : Turn) → t ≡ refusing book (refusal_told e) → ComesTo (Err e) book t
comes_refused e book t is = (ap (λ u. u.answer) (sym is), ap (λ u. u.book) (sym is))

-- cells that a known number's strip has are written out again
writes_back : {C : Type 0} (same : C → C → Type 0) (given : ℕ → C) (rows : List Row) (cells : List C) (n : ℕ) (old : List C) → n ≤ length rows → AllZip same cells (map given (strip rows n)) → length old ≡ length cells
    → WritesBack same given rows cells n old
writes_back same given rows cells n old known agree room =
    let fits : length old ≡ length (strip rows n) = room ∙ length_all_zip same cells (map given (strip rows n)) agree ∙ length-map (strip rows n) given in
    record {
      whole = agree;
      allowed = cond-true (leb n (length rows)) _ _ (le-leb n (length rows) known) ∙ cond-true (leb (0 + length old) (length (strip rows n))) _ _ (le-leb (0 + length old) (length (strip rows n)) (omega (arith, fits)));
      same_cells = subst (λ xs. AllZip same cells (map given xs)) (sym (take_all (length old) (strip rows n) (omega (arith, fits)))) agree;
    }

-- what the book says of a number that is answered holds of the call's result: of a take
pub back_from : {C : Type 0} (same : C → C → Type 0) (given : ℕ → C) (cells : List C) (r : Result ℕ Refusal) (book : Book) (t : Turn) → ComesTo r book t
    → WritesCells given same cells t → WrittenBack same given book.rows cells r
back_from same given cells (Ok n) book t comes back = λ more old room.
    subst (λ b. WritesBack same given (b.rows ++ more) cells n old) (sym comes.1)
    (let stands = back n (sym comes.0) more in writes_back same given (t.book.rows ++ more) cells n old stands.0 stands.1 room)
back_from same given cells (Err e) book t comes back = tt

-- and of a join or a cut
stays_from : (codes : List ℕ) (r : Result ℕ Refusal) (book : Book) (t : Turn) → ComesTo r book t → Stays codes t → StaysWritten codes book.rows r
stays_from codes (Ok n) book t comes stays = λ more. subst (λ b. strip (b.rows ++ more) n ≡ codes) (sym comes.1) (stays n (sym comes.0) more)
stays_from codes (Err e) book t comes stays = tt

pub writes_from : (codes : List ℕ) (before : Book) (t : Turn) → PartsKeep before codes t → (r : Result ℕ Refusal) (after : Book) → ComesTo r after t → Writes codes before t r after
writes_from codes before t keeps r after comes = record {
  outcome = comes;
  kept = λ has of_kind. subst (λ b. OfKind has b.rows) (sym comes.1) (keeps.kind has of_kind);
  back = stays_from codes r after t comes keeps.writes;
}
