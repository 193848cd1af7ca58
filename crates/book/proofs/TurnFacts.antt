-- What one call does to the book: rows only grow and stay lawful and of their kind, and an answered call's
-- strip stands under its number. Assumes nothing.
use Rattle.std.proofs.Common.{◌≡◌, ℕ, Bool, List, ◌++◌, map, Option, sym, refl, subst}
use Rattle.std.specs.List.{AllZip}
use Rattle.rows.proofs.LawfulFacts.{strip_short}
use Rattle.rows.specs.declared.Row.{Row}
use Rattle.rows.specs.Lawful.{Lawful}
use Rattle.rows.specs.Strips.{strip}
use Rattle.rows.proofs.OneNumber.{Stands, stands_append}
use Rattle.book.specs.Calls.{Call, taking, joining, cutting, strip_number, Book, Turn, printed, taken, joined_up, part_of, cut_out, turn, wrote}
use Rattle.book.specs.Laws.{OfKind, LawfullyGrown, TakesKeep, JoinsKeep, CutsKeep}
use Rattle.book.proofs.CallFacts.{Keeps, taken_keeps, joined_keeps, cut_keeps, stays, both_have, part_has, joined_of_kind, cut_of_kind, taken_of_kind}
use Rattle.book.proofs.CodeFacts.{KindLaws, CodesOf, HasAll, codes_given, has_codes, printed_codes, same_from_codes}

-- joins and cuts, of every kind at once
pub joins_keep : JoinsKeep
joins_keep book left right places law =
    let keeps = joined_keeps book law left right places in
    record {
      rows = keeps.kept;
      kind = λ has kinds. joined_of_kind has book kinds left right places;
      writes = stays book.rows (strip book.rows left ++ strip book.rows right) (joined_up book left right places) keeps;
    }

pub cuts_keep : CutsKeep
cuts_keep book n start size places law =
    let keeps = cut_keeps book law n start size places in
    record {
      rows = keeps.kept;
      kind = λ has kinds. cut_of_kind has book kinds n start size places (strip_short book.rows law n);
      writes = stays book.rows (part_of book.rows n start size) (cut_out book n start size places) keeps;
    }

-- what a call that writes these cells comes to
pub record Told {C : Type 0} (coded : C → Option ℕ) (has : ℕ → Bool) (rows : List Row) (cells : List C) (t : Turn) : Type 0 where
  pub kept : LawfullyGrown rows t.book.rows
  pub of_kind : OfKind has t.book.rows
  pub tells : (n : ℕ) → t.answer ≡ strip_number n → (codes : List ℕ) × Stands t.book.rows codes n × CodesOf coded cells codes

module _ {C : Type 0} (coded : C → Option ℕ) (has : ℕ → Bool) (given : ℕ → C) (same : C → C → Type 0) (laws : KindLaws coded has given same) where
  -- a take
  pub takes_keep : TakesKeep coded has given same
  takes_keep same_kind book cells places law =
      let t = taken same_kind coded book cells places in
      let codes = printed coded cells in
      let keeps = taken_keeps coded book cells places law same_kind in
      record {
        rows = keeps.0.kept;
        kind = λ kinds. taken_of_kind has book kinds coded given same laws cells places same_kind;
        writes = λ n answer more.
            let later = stands_append t.book.rows more codes n (keeps.0.stands n answer) in
            let codes_are = printed_codes coded cells (keeps.1 n answer) in (
              later.known,
              subst (λ xs. AllZip same cells (map given xs)) (sym later.writes)
                  (same_from_codes coded has given same laws cells (map given codes) codes codes codes_are (codes_given coded has given same laws codes (has_codes coded has given same laws cells codes codes_are)) refl),
            );
      }

  module _ (book : Book) (law : Lawful book.rows) (kinds : OfKind has book.rows) where
    -- a strip of codes of the kind writes the cells given back for them
    codes_told : (codes : List ℕ) (t : Turn) → HasAll has codes → OfKind has t.book.rows → Keeps book.rows codes t.answer t.book.rows → Told coded has book.rows (map given codes) t
    codes_told codes t has_all after keeps =
        record { kept = keeps.kept; of_kind = after; tells = λ n answer. (codes, keeps.stands n answer, codes_given coded has given same laws codes has_all) }

    pub turn_told : (same_kind : Bool) (call : Call C) (places : ℕ) → Told coded has book.rows (wrote given book call) (turn same_kind coded book call places)
    turn_told same_kind (taking cells) places =
        let keeps = taken_keeps coded book cells places law same_kind in
        record {
          kept = keeps.0.kept;
          of_kind = taken_of_kind has book kinds coded given same laws cells places same_kind;
          tells = λ n answer. (printed coded cells, keeps.0.stands n answer, printed_codes coded cells (keeps.1 n answer));
        }
    turn_told same_kind (joining left right) places =
        codes_told (strip book.rows left ++ strip book.rows right) (joined_up book left right places) (both_have has book kinds left right)
        (joined_of_kind has book kinds left right places) (joined_keeps book law left right places)
    turn_told same_kind (cutting n start size) places =
        codes_told (part_of book.rows n start size) (cut_out book n start size places) (part_has has book kinds n start size)
        (cut_of_kind has book kinds n start size places (strip_short book.rows law n)) (cut_keeps book law n start size places)
