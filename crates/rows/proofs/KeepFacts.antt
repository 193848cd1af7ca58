-- Rounds keep the strip: the strips of the numbers, joined, are the same before and after.
-- Assumes nothing.
use Rattle.std.proofs.Common.{◌≡◌, ℕ, zero, suc, List, [], ◌∷◌, ◌++◌, map, replicate, Some, sym, refl, ap, ◌∙◌}
use Rattle.std.proofs.lemmas.List.{append-nil}
use Rattle.std.specs.List.{AllByRecursion}
use Rattle.rows.specs.declared.Shape.{Shape}
use Rattle.rows.specs.declared.Shape.TheVariants.{Leaf, Pair, Repeat}
use Rattle.rows.specs.declared.Row.{Row}
use Rattle.rows.specs.Blocks.{symbols, spelled, InRound}
use Rattle.rows.specs.Filing.{find}
use Rattle.rows.specs.Laws.{AllInUse}
use Rattle.rows.specs.Rounds.{Block, one, new, blocks, leaf_block}
use Rattle.rows.specs.Strips.{times, strip, expanded}
use Rattle.rows.proofs.FilingFacts.{find_known}
use Rattle.rows.proofs.NamingFacts.{Named}
use Rattle.rows.proofs.Parsing.{spelled_blocks, block_kinds}
use Rattle.rows.proofs.RoundFacts.{Comes}
use Rattle.rows.proofs.StripFacts.{Parts, shape_strip, strip_of_row, expanded_append}

expanded_times : (rows : List Row) (m p : ℕ) → expanded rows (replicate m p) ≡ times m (strip rows p)
expanded_times rows zero p = refl
expanded_times rows (suc m) p = ap (λ xs. strip rows p ++ xs) (expanded_times rows m p)

-- a shape that a round makes writes what its symbols write
pub shape_expanded : (rows : List Row) (k : ℕ) (shape : Shape) → InRound k (new shape) → shape_strip rows shape ≡ expanded rows (symbols (new shape))
shape_expanded rows k (Leaf code) h = absurd h
shape_expanded rows k (Pair left right) h = ap (λ xs. strip rows left ++ xs) (sym (append-nil (strip rows right)))
shape_expanded rows k (Repeat part count) h = sym (expanded_times rows count part)

module _ (rows : List Row) (parts : Parts rows) where
  -- the strip of a shape's number
  pub strip_found : (shape : Shape) (n : ℕ) → find rows shape ≡ Some n → strip rows n ≡ shape_strip rows shape
  strip_found shape n found =
      let is = find_known rows shape n found in
      strip_of_row rows parts n is.0 is.1 ∙ ap (shape_strip rows) is.2

  named_keep : (k : ℕ) (bs : List Block) (numbers : List ℕ) → AllByRecursion (InRound k) bs → Named rows bs numbers → expanded rows numbers ≡ expanded rows (spelled bs)
  named_keep k [] [] kinds named = refl
  named_keep k [] (n ∷ numbers) kinds named = absurd named
  named_keep k (b ∷ bs) [] kinds named = absurd named
  named_keep k (one m ∷ bs) (n ∷ numbers) kinds named =
      let e : n ≡ m = let f = named.0 in cc in
      ap (λ i. strip rows i ++ expanded rows numbers) e ∙ ap (λ xs. strip rows m ++ xs) (named_keep k bs numbers kinds.1 named.1)
  named_keep k (new shape ∷ bs) (n ∷ numbers) kinds named =
      ap (λ xs. xs ++ expanded rows numbers) (strip_found shape n named.0 ∙ shape_expanded rows k shape kinds.0)
      ∙ ap (λ xs. expanded rows (symbols (new shape)) ++ xs) (named_keep k bs numbers kinds.1 named.1)
      ∙ sym (expanded_append rows (symbols (new shape)) (spelled bs))

  -- a round keeps the strip
  pub round_keeps : (k : ℕ) (s t : List ℕ) → Named rows (blocks k s) t → expanded rows t ≡ expanded rows s
  round_keeps k s t named = named_keep k (blocks k s) t (block_kinds k s) named ∙ ap (expanded rows) (spelled_blocks k s)

  pub comes_keeps : (j : ℕ) (s t : List ℕ) → Comes rows j s t → expanded rows t ≡ expanded rows s
  comes_keeps zero s t c = ap (expanded rows) (sym c)
  comes_keeps (suc j) s t c = round_keeps (suc j) c.0 t c.2 ∙ comes_keeps j s c.0 c.1

  -- leaves write the codes that they stand for
  pub leaves_keep : (codes numbers : List ℕ) → Named rows (map leaf_block codes) numbers → expanded rows numbers ≡ codes
  leaves_keep [] [] named = refl
  leaves_keep [] (n ∷ numbers) named = absurd named
  leaves_keep (c ∷ codes) [] named = absurd named
  leaves_keep (c ∷ codes) (n ∷ numbers) named =
      ap (λ xs. xs ++ expanded rows numbers) (strip_found (Leaf c) n named.0) ∙ ap (λ xs. c ∷ xs) (leaves_keep codes numbers named.1)

-- leaves are known, and a part of them stands for a part of the codes
pub leaves_known : (rows : List Row) (codes numbers : List ℕ) → Named rows (map leaf_block codes) numbers → AllInUse rows numbers
leaves_known rows [] [] named = tt
leaves_known rows [] (n ∷ numbers) named = absurd named
leaves_known rows (c ∷ codes) [] named = absurd named
leaves_known rows (c ∷ codes) (n ∷ numbers) named = let is = find_known rows (Leaf c) n named.0 in ((is.0, is.1), leaves_known rows codes numbers named.1)

pub leaves_split : (rows : List Row) (codes before after : List ℕ) → Named rows (map leaf_block codes) (before ++ after)
    → (front : List ℕ) × (back : List ℕ) × (codes ≡ front ++ back) × Named rows (map leaf_block front) before × Named rows (map leaf_block back) after
leaves_split rows codes [] after named = ([], codes, refl, tt, named)
leaves_split rows [] (n ∷ before) after named = absurd named
leaves_split rows (c ∷ codes) (n ∷ before) after named =
    let rest = leaves_split rows codes before after named.1 in
    (c ∷ rest.0, rest.1, ap (λ xs. c ∷ xs) rest.2, (named.0, rest.3), rest.4)
