-- Joins and cuts, check by check, from what the table keeps. Assumes nothing.
use Rattle.std.proofs.Common.{◌≡◌, ℕ, ◌+◌, ◌<◌, ◌≤◌, ◌⊎◌, List, ◌++◌, length, Err, Result, refl, ap, ◌∙◌, arith, length-append, length-drop, length-take}
use Rattle.book.specs.Calls.{Book, with_rows, settling, filing, in_book, filed_in, joined_up, part_of, cut_out}
use Rattle.book.specs.Laws.{PartsKeep}
use Rattle.book.proofs.CallFacts.{joined_unknown, joined_long, joined_filed, cut_unknown, cut_leaves, cut_filed}
use Rattle.rows.specs.declared.Row.{Row}
use Rattle.rows.specs.Filing.{row_of}
use Rattle.rows.specs.Lawful.{Lawful}
use Rattle.rows.specs.Strips.{strip}
use Rattle.recompression.specs.Expansions.{written_out}
use Rattle.recompression.specs.Settlements.{all_rounds}
use Rattle.shelf.specs.declared.refusal.Refusal.{Refusal}
use Rattle.shelf.specs.declared.refusal.Refusal.TheVariants.{TooLong, WorkAreaTooShort, UnknownNumber, FragmentLeavesStrip}
use Rattle.shelf.specs.Refusals.{ComesTo, StripFiled, Writes}
use Rattle.shelf.proofs.Expanding.{joined_rounds, cut_rounds}
use Rattle.shelf.proofs.RowFacts.{kept_length}
use Rattle.shelf.proofs.Settlings.{told_short, filing_enough, filed_comes, comes_refused, writes_from}

module _ (book : Book) (law : Lawful book.rows) (left right places : ℕ) (keeps : PartsKeep book (strip book.rows left ++ strip book.rows right) (joined_up book left right places)) where
  abbrev pub Joined : Result ℕ Refusal → Book → Type 0
  Joined r after = Writes (strip book.rows left ++ strip book.rows right) book (joined_up book left right places) r after

  joined : (r : Result ℕ Refusal) (after : Book) → ComesTo r after (joined_up book left right places) → Joined r after
  joined = writes_from (strip book.rows left ++ strip book.rows right) book (joined_up book left right places) keeps

  pub join_unknown : (length book.rows < left) ⊎ (length book.rows < right) → Joined (Err UnknownNumber) book
  join_unknown past = joined (Err UnknownNumber) book (comes_refused UnknownNumber book (joined_up book left right places) (joined_unknown book left right places past))

  module _ (left_known : left ≤ length book.rows) (right_known : right ≤ length book.rows) (size : ℕ) (sum : size ≡ (row_of book.rows left).length + (row_of book.rows right).length) where
    codes : List ℕ
    codes = strip book.rows left ++ strip book.rows right

    length_codes : length codes ≡ size
    unfolding codes
    length_codes = length-append (strip book.rows left) (strip book.rows right) ∙ (let l = kept_length book.rows law left left_known in let r = kept_length book.rows law right right_known in omega arith)

    lengths : length (strip book.rows left) + length (strip book.rows right) ≡ size
    lengths = let l = kept_length book.rows law left left_known in let r = kept_length book.rows law right right_known in omega arith

    pub join_too_long : 65535 < size → Joined (Err TooLong) book
    join_too_long long =
        let sizes = lengths in
        joined (Err TooLong) book (comes_refused TooLong book (joined_up book left right places) (joined_long book left right places left_known right_known (omega arith)))

    module _ (short : size ≤ 65535) where
      filed : joined_up book left right places ≡ filed_in book codes places
      unfolding codes
      filed = let sizes = lengths in joined_filed book left right places left_known right_known (omega arith)

      pub join_small_work : places < size → Joined (Err WorkAreaTooShort) book
      join_small_work few =
          let many = length_codes in
          joined (Err WorkAreaTooShort) book (filed_comes book (Err WorkAreaTooShort) book.rows (filing book.rows codes places) (joined_up book left right places) filed (told_short book.rows codes places (omega arith) book.rows refl))

      pub join_settled : (r : Result ℕ Refusal) (after : List Row) (numbers : List ℕ) → size ≤ places
          → numbers ≡ written_out book.rows left 0 (row_of book.rows left).length ++ written_out book.rows right 0 (row_of book.rows right).length
          → StripFiled r after (settling book.rows (all_rounds book.rows numbers)) → Joined r (with_rows book after)
      unfolding codes
      join_settled r after numbers enough is comes =
          let many = length_codes in
          joined r (with_rows book after) (filed_comes book r after (settling book.rows (all_rounds book.rows numbers)) (joined_up book left right places)
          (filed ∙ ap (in_book book) (filing_enough book.rows codes places (omega arith) ∙ ap (settling book.rows) (joined_rounds book.rows law left right numbers left_known right_known is))) comes)

module _ (book : Book) (law : Lawful book.rows) (n start size places : ℕ) (keeps : PartsKeep book (part_of book.rows n start size) (cut_out book n start size places)) where
  abbrev pub Cut : Result ℕ Refusal → Book → Type 0
  Cut r after = Writes (part_of book.rows n start size) book (cut_out book n start size places) r after

  cut : (r : Result ℕ Refusal) (after : Book) → ComesTo r after (cut_out book n start size places) → Cut r after
  cut = writes_from (part_of book.rows n start size) book (cut_out book n start size places) keeps

  pub unknown_cut : length book.rows < n → Cut (Err UnknownNumber) book
  unknown_cut past = cut (Err UnknownNumber) book (comes_refused UnknownNumber book (cut_out book n start size places) (cut_unknown book n start size places past))

  module _ (known : n ≤ length book.rows) where
    pub leaving_cut : (row_of book.rows n).length < start + size → Cut (Err FragmentLeavesStrip) book
    leaving_cut past =
        let kept = kept_length book.rows law n known in
        cut (Err FragmentLeavesStrip) book (comes_refused FragmentLeavesStrip book (cut_out book n start size places) (cut_leaves book n start size places known (omega arith)))

    module _ (inside : start + size ≤ (row_of book.rows n).length) where
      fits : start + size ≤ length (strip book.rows n)
      fits = let kept = kept_length book.rows law n known in omega arith

      length_part : length (part_of book.rows n start size) ≡ size
      length_part = let within = fits in simp (length-take, length-drop) (omega arith)

      pub small_work_cut : places < size → Cut (Err WorkAreaTooShort) book
      small_work_cut few =
          let many = length_part in
          cut (Err WorkAreaTooShort) book (filed_comes book (Err WorkAreaTooShort) book.rows (filing book.rows (part_of book.rows n start size) places) (cut_out book n start size places) (cut_filed book n start size places known fits)
          (told_short book.rows (part_of book.rows n start size) places (omega arith) book.rows refl))

      pub settled_cut : (r : Result ℕ Refusal) (after : List Row) (numbers : List ℕ) → size ≤ places → numbers ≡ written_out book.rows n start size
          → StripFiled r after (settling book.rows (all_rounds book.rows numbers)) → Cut r (with_rows book after)
      settled_cut r after numbers enough is comes =
          let many = length_part in
          cut r (with_rows book after) (filed_comes book r after (settling book.rows (all_rounds book.rows numbers)) (cut_out book n start size places)
          (cut_filed book n start size places known fits ∙ ap (in_book book) (filing_enough book.rows (part_of book.rows n start size) places (omega arith) ∙ ap (settling book.rows) (cut_rounds book.rows law n start size numbers is))) comes)
