-- A round keeps the strip, and a part of a string after some rounds comes alone from the fragment that it writes.
-- Assumes nothing.
use Rattle.std.proofs.Common.{◌≡◌, ℕ, ◌<◌, ◌≤◌, List, [], ◌∷◌, ◌++◌, map, length, Some, sym, refl, ap, ◌∙◌, subst}
use Rattle.std.specs.List.{AllByRecursion}
use Rattle.rows.specs.declared.Row.{Row}
use Rattle.rows.specs.Blocks.{symbols, spelled, InRound}
use Rattle.rows.specs.Filing.{row_made}
use Rattle.rows.specs.Laws.{AllInUse, after_rounds, IsFragment}
use Rattle.rows.specs.Lawful.{Lawful}
use Rattle.rows.specs.Rounds.{Block, one, new, blocks, Filed, round, leaf_block}
use Rattle.rows.specs.Strips.{strip, expanded}
use Rattle.rows.proofs.KeepFacts.{round_keeps, comes_keeps, leaves_keep, leaves_known, leaves_split}
use Rattle.rows.proofs.LawfulFacts.{lawful_parts}
use Rattle.rows.proofs.NamingFacts.{Named, file_all_grows}
use Rattle.rows.proofs.Parsing.{spelled_blocks, block_kinds}
use Rattle.rows.proofs.RoundFacts.{Comes, comes_after, comes_known, fragment_comes, all_split}
use Rattle.rows.proofs.SettleFacts.{parts_one_more, shape_parts, known_append, Addable, filing_keeps, after_stands}
use Rattle.rows.proofs.StripFacts.{Parts, strip_append, expanded_append}

-- the strips of known numbers stay under added rows
expanded_more : (rows more : List Row) (numbers : List ℕ) → AllInUse rows numbers → expanded (rows ++ more) numbers ≡ expanded rows numbers
expanded_more rows more [] known = refl
expanded_more rows more (n ∷ numbers) known =
    ap (λ xs. xs ++ expanded (rows ++ more) numbers) (strip_append rows more n known.0.1) ∙ ap (λ xs. strip rows n ++ xs) (expanded_more rows more numbers known.1)

-- the blocks of known numbers may be added to rows that have their parts below them
parts_addable : (k : ℕ) (rows : List Row) (bs : List Block) → AllByRecursion (InRound k) bs → AllInUse rows (spelled bs) → AllByRecursion (Addable Parts k rows) bs
parts_addable k rows [] kinds known = tt
parts_addable k rows (one n ∷ bs) kinds known = (tt, parts_addable k rows bs kinds.1 known.1)
parts_addable k rows (new shape ∷ bs) kinds known =
    let split = all_split (λ n. (0 < n) × (n ≤ length rows)) (symbols (new shape)) (spelled bs) known in (
      λ more parts absent room.
          parts_one_more (rows ++ more) (row_made k (rows ++ more) shape) parts
          (shape_parts (rows ++ more) k shape kinds.0 (known_append rows more (symbols (new shape)) split.0)),
      parts_addable k rows bs kinds.1 split.1,
    )

-- a round on known numbers keeps the strip
pub round_keeps_strip : (k : ℕ) (f g : Filed) → Lawful f.rows → AllInUse f.rows f.numbers → round k f ≡ Some g → expanded g.rows g.numbers ≡ expanded f.rows f.numbers
round_keeps_strip k f g law known h =
    let bs = blocks k f.numbers in
    let this = file_all_grows k bs f.rows g h in
    let addable = parts_addable k f.rows bs (block_kinds k f.numbers) (subst (λ xs. AllInUse f.rows xs) (sym (spelled_blocks k f.numbers)) known) in
    let parts = filing_keeps Parts k f.rows bs g addable (lawful_parts f.rows law) h in
    round_keeps g.rows parts k f.numbers g.numbers this.names ∙ ap (λ rs. expanded rs f.numbers) this.grows ∙ expanded_more f.rows this.added f.numbers known

-- between the rounds the rows are lawful, and the numbers known
pub lawful_between : (j : ℕ) (rows : List Row) (codes : List ℕ) (f : Filed) → Lawful rows → length codes ≤ 65535 → after_rounds j rows codes ≡ Some f → Lawful f.rows × AllInUse f.rows f.numbers
lawful_between j rows codes f law short h =
    let is = after_stands j rows codes f law short h in
    (is.lawful, comes_known f.rows j is.source f.numbers (leaves_known f.rows codes is.source is.names) is.history)

pub part_is_fragment : (j : ℕ) (rows : List Row) (codes : List ℕ) (f : Filed) → Lawful rows → length codes ≤ 65535 → after_rounds j rows codes ≡ Some f
    → (before part after : List ℕ) → f.numbers ≡ before ++ (part ++ after) → IsFragment j codes f.rows before part after
part_is_fragment j rows codes f law short h before part after cut =
    let is = after_stands j rows codes f law short h in
    let parts = lawful_parts f.rows is.lawful in
    let inner = fragment_comes f.rows j is.source before part after (subst (λ u. Comes f.rows j is.source u) cut is.history) in
    let front = leaves_split f.rows codes inner.before (inner.source ++ inner.after) (subst (λ s. Named f.rows (map leaf_block codes) s) inner.whole is.names) in
    let back = leaves_split f.rows front.1 inner.source inner.after front.4 in
    let written : expanded f.rows part ≡ back.0 = comes_keeps f.rows parts j inner.source part inner.comes ∙ leaves_keep f.rows parts back.0 inner.source back.3 in
    record {
      writes =
          sym (leaves_keep f.rows parts codes is.source is.names)
          ∙ sym (comes_keeps f.rows parts j is.source f.numbers is.history)
          ∙ ap (expanded f.rows) cut
          ∙ expanded_append f.rows before (part ++ after)
          ∙ ap (λ xs. expanded f.rows before ++ xs) (expanded_append f.rows part after);
      alone = ap (after_rounds j f.rows) written ∙ comes_after f.rows j back.0 inner.source part back.3 inner.comes;
    }
