-- What holds of the shapes of all rows still holds after settling, where it holds of the leaves of the
-- codes and of all pairs and repeats. Assumes nothing.
use Rattle.std.proofs.Common.{◌≡◌, ℕ, zero, suc, ◌+◌, List, [], ◌∷◌, map, length, Some, sym, subst, inl, inr}
use Rattle.std.proofs.ByRecursion.{All-append}
use Rattle.std.specs.List.{AllByRecursion}
use Rattle.rows.specs.declared.Shape.{Shape}
use Rattle.rows.specs.declared.Shape.TheVariants.{Leaf, Pair, Repeat}
use Rattle.rows.specs.declared.Row.{Row}
use Rattle.rows.specs.Blocks.{InRound}
use Rattle.rows.specs.Filing.{file}
use Rattle.rows.specs.Rounds.{Block, one, new, blocks, Filed, then, with_number, file_all, Settled, settled, rounds_from, leaf_block, enough_rounds, settle}
use Rattle.rows.proofs.FilingFacts.{file_grows}
use Rattle.rows.proofs.NamingFacts.{then_some, rounds_step, settle_parts}
use Rattle.rows.proofs.Parsing.{block_kinds}

module _ (P : Shape → Type 0) where
  abbrev pub Shapes : List Row → Type 0
  Shapes rows = AllByRecursion (λ row. P row.shape) rows

  abbrev OfBlock : Block → Type 0
  OfBlock (one n) = Unit {0}
  OfBlock (new shape) = P shape

  filed_shapes : (k : ℕ) (bs : List Block) (rows : List Row) (f : Filed) → AllByRecursion OfBlock bs → Shapes rows → file_all k bs rows ≡ Some f → Shapes f.rows
  unfolding file_all
  filed_shapes k [] rows f new_shapes all h = let e : record { numbers = []; rows = rows } ≡ f = cc in subst (λ g. Shapes g.rows) e all
  filed_shapes k (one n ∷ bs) rows f new_shapes all h =
      let rest = then_some (file_all k bs rows) (with_number n) f h in
      let e : record { numbers = n ∷ rest.0.numbers; rows = rest.0.rows } ≡ f = let g = rest.2 in cc in
      subst (λ g. Shapes g.rows) e (filed_shapes k bs rows rest.0 new_shapes.1 all rest.1)
  filed_shapes k (new shape ∷ bs) rows f new_shapes all h =
      let first = then_some (file k rows shape) (λ found. then (file_all k bs found.rows) (with_number found.number)) f h in
      let found = first.0 in
      let rest = then_some (file_all k bs found.rows) (with_number found.number) f first.2 in
      let e : record { numbers = found.number ∷ rest.0.numbers; rows = rest.0.rows } ≡ f = let g = rest.2 in cc in
      let grows = file_grows k rows shape found first.1 in
      let more : Shapes grows.added =
      elim grows.cases [ inl old ↦ subst Shapes (sym old.0) tt | inr made ↦ subst Shapes (sym made.0) (new_shapes.0, tt) ] in
      let still = subst Shapes (sym grows.grows) (All-append (λ row. P row.shape) rows grows.added all more) in
      subst (λ g. Shapes g.rows) e (filed_shapes k bs found.rows rest.0 new_shapes.1 still rest.1)

  module _ (pairs_do : (l r : ℕ) → P (Pair l r)) (repeats_do : (p m : ℕ) → P (Repeat p m)) where
    round_shapes : (k : ℕ) (bs : List Block) → AllByRecursion (InRound k) bs → AllByRecursion OfBlock bs
    round_shapes k [] kinds = tt
    round_shapes k (one n ∷ bs) kinds = (tt, round_shapes k bs kinds.1)
    round_shapes k (new (Leaf c) ∷ bs) kinds = absurd kinds.0
    round_shapes k (new (Pair l r) ∷ bs) kinds = (pairs_do l r, round_shapes k bs kinds.1)
    round_shapes k (new (Repeat p m) ∷ bs) kinds = (repeats_do p m, round_shapes k bs kinds.1)

    rounds_shapes : (most k : ℕ) (f : Filed) (s : Settled) → Shapes f.rows → rounds_from most k f ≡ Some s → Shapes s.rows
    unfolding rounds_from
    rounds_shapes zero k f s all h = let e : settled f k ≡ s = cc in subst (λ g. Shapes g.rows) e all
    rounds_shapes (suc most) k f s all h =
        elim (rounds_step most k f s h) [
          | inl stopped ↦ subst (λ g. Shapes g.rows) stopped.1 all
          | inr on ↦
              rounds_shapes most (k + 1) on.1 s (filed_shapes (k + 1) (blocks (k + 1) f.numbers) f.rows on.1 (round_shapes (k + 1) (blocks (k + 1) f.numbers) (block_kinds (k + 1) f.numbers)) all on.2) on.3
        ]

    leaf_shapes : (codes : List ℕ) → AllByRecursion (λ c. P (Leaf c)) codes → AllByRecursion OfBlock (map leaf_block codes)
    leaf_shapes [] all = tt
    leaf_shapes (c ∷ codes) all = (all.0, leaf_shapes codes all.1)

    pub settle_shapes : (rows : List Row) (codes : List ℕ) (s : Settled) → Shapes rows → AllByRecursion (λ c. P (Leaf c)) codes → settle rows codes ≡ Some s → Shapes s.rows
    settle_shapes rows codes s all leaf_codes h =
        let pieces = settle_parts rows codes s h in
        rounds_shapes (enough_rounds (length codes)) 0 pieces.0 s (filed_shapes 0 (map leaf_block codes) rows pieces.0 (leaf_shapes codes leaf_codes) all pieces.1) pieces.2
