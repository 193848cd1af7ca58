-- Cells and their codes, under the laws of a kind. Assumes nothing.
use Rattle.std.proofs.Common.{◌≡◌, ℕ, zero, suc, ◌<◌, Bool, true, cond, ◌↔◌, List, [], ◌∷◌, ◌++◌, map, length, get_or, take, drop, is_some, Some, None, Option, unwrap_or, sym, refl, ap, ◌∙◌, arith}
use Rattle.std.proofs.ByRecursion.{All-append}
use Rattle.std.specs.Option.{option_map}
use Rattle.std.specs.List.{AllZip, AllByRecursion}
use Rattle.cells.specs.Printing.{first_unprintable}
use Rattle.rows.specs.declared.Shape.{Shape}
use Rattle.rows.specs.declared.Shape.TheVariants.{Leaf, Pair, Repeat}
use Rattle.rows.specs.declared.Row.{Row}
use Rattle.rows.specs.Strips.{times, known_as, written, strips_from, strip}
use Rattle.book.specs.Calls.{printed}
use Rattle.book.specs.Laws.{leaf_of_kind, OfKind}

-- the laws of a kind of cell that the book rests on
pub record KindLaws {C : Type 0} (coded : C → Option ℕ) (has : ℕ → Bool) (given : ℕ → C) (same : C → C → Type 0) : Type 0 where
  pub alike : (x y : C) (m n : ℕ) → coded x ≡ Some m → coded y ≡ Some n → same x y ↔ (m ≡ n)
  pub known : (x : C) (n : ℕ) → coded x ≡ Some n → has n ≡ true
  pub back : (n : ℕ) → has n ≡ true → coded (given n) ≡ Some n

-- these are the codes of the cells, one for one
abbrev pub CodesOf : {C : Type 0} → (C → Option ℕ) → List C → List ℕ → Type 0
CodesOf coded [] [] = Unit {0}
CodesOf coded [] (c ∷ codes) = ⊥
CodesOf coded (x ∷ cells) [] = ⊥
CodesOf coded (x ∷ cells) (c ∷ codes) = (coded x ≡ Some c) × CodesOf coded cells codes

-- the codes of a list are codes that the kind has
abbrev pub HasAll : (ℕ → Bool) → List ℕ → Type 0
HasAll has codes = AllByRecursion (λ c. has c ≡ true) codes

pub has_take : (has : ℕ → Bool) (k : ℕ) (codes : List ℕ) → HasAll has codes → HasAll has (take k codes)
has_take has zero codes all = tt
has_take has (suc k) [] all = tt
has_take has (suc k) (c ∷ codes) all = (all.0, has_take has k codes all.1)

pub has_drop : (has : ℕ → Bool) (k : ℕ) (codes : List ℕ) → HasAll has codes → HasAll has (drop k codes)
has_drop has zero codes all = all
has_drop has (suc k) [] all = tt
has_drop has (suc k) (c ∷ codes) all = has_drop has k codes all.1

has_times : (has : ℕ → Bool) (m : ℕ) (codes : List ℕ) → HasAll has codes → HasAll has (times m codes)
has_times has zero codes all = tt
has_times has (suc m) codes all = All-append (λ c. has c ≡ true) codes (times m codes) all (has_times has m codes all)

-- strips of rows of a kind have codes of the kind
abbrev HasEach : (ℕ → Bool) → List (List ℕ) → Type 0
HasEach has done = AllByRecursion (HasAll has) done

known_has : (has : ℕ → Bool) (done : List (List ℕ)) (n : ℕ) → HasEach has done → HasAll has (known_as done n)
known_has has done zero all = tt
known_has has [] (suc n) all = tt
known_has has (d ∷ done) (suc zero) all = all.0
known_has has (d ∷ done) (suc (suc n)) all = known_has has done (suc n) all.1

written_has : (has : ℕ → Bool) (done : List (List ℕ)) (shape : Shape) → HasEach has done → leaf_of_kind has shape → HasAll has (written done shape)
written_has has done (Leaf code) all leaf = (leaf, tt)
written_has has done (Pair left right) all leaf = All-append (λ c. has c ≡ true) (known_as done left) (known_as done right) (known_has has done left all) (known_has has done right all)
written_has has done (Repeat part count) all leaf = has_times has count (known_as done part) (known_has has done part all)

strips_have : (has : ℕ → Bool) (done : List (List ℕ)) (rows : List Row) → HasEach has done → OfKind has rows → HasEach has (strips_from done rows)
strips_have has done [] all kinds = all
strips_have has done (row ∷ rows) all kinds =
    strips_have has (done ++ (written done row.shape ∷ [])) rows
    (All-append (HasAll has) done (written done row.shape ∷ []) all (written_has has done row.shape all kinds.0, tt)) kinds.1

pub strip_has : (has : ℕ → Bool) (rows : List Row) (n : ℕ) → OfKind has rows → HasAll has (strip rows n)
unfolding strip
strip_has has rows n kinds = known_has has (strips_from [] rows) n (strips_have has [] rows tt kinds)

module _ {C : Type 0} (coded : C → Option ℕ) (has : ℕ → Bool) (given : ℕ → C) (same : C → C → Type 0) (laws : KindLaws coded has given same) where
  -- the cells given back for codes that the kind has have those codes
  pub codes_given : (codes : List ℕ) → HasAll has codes → CodesOf coded (map given codes) codes
  codes_given [] all = tt
  codes_given (c ∷ codes) all = (laws.back c all.0, codes_given codes all.1)

  -- the codes of cells are codes that the kind has
  pub has_codes : (cells : List C) (codes : List ℕ) → CodesOf coded cells codes → HasAll has codes
  has_codes [] [] h = tt
  has_codes [] (c ∷ codes) h = absurd h
  has_codes (x ∷ cells) [] h = absurd h
  has_codes (x ∷ cells) (c ∷ codes) h = (laws.known x c h.0, has_codes cells codes h.1)

  -- cells are the same, one for one, exactly when their codes are equal
  pub same_from_codes : (xs ys : List C) (ms ns : List ℕ) → CodesOf coded xs ms → CodesOf coded ys ns → ms ≡ ns → AllZip same xs ys
  same_from_codes [] [] ms ns left right e = tt
  same_from_codes [] (y ∷ ys) [] [] left right e = absurd right
  same_from_codes [] (y ∷ ys) [] (b ∷ ns) left right e = let z : ◌≡◌ {A = ℕ} 0 1 = cc in absurd (omega arith)
  same_from_codes [] (y ∷ ys) (a ∷ ms) ns left right e = absurd left
  same_from_codes (x ∷ xs) [] [] ns left right e = absurd left
  same_from_codes (x ∷ xs) [] (a ∷ ms) [] left right e = let z : ◌≡◌ {A = ℕ} 0 1 = cc in absurd (omega arith)
  same_from_codes (x ∷ xs) [] (a ∷ ms) (b ∷ ns) left right e = absurd right
  same_from_codes (x ∷ xs) (y ∷ ys) [] ns left right e = absurd left
  same_from_codes (x ∷ xs) (y ∷ ys) (a ∷ ms) [] left right e = absurd right
  same_from_codes (x ∷ xs) (y ∷ ys) (a ∷ ms) (b ∷ ns) left right e =
      let head : a ≡ b = cc in
      let tail : ms ≡ ns = cc in
      ((laws.alike x y a b left.0 right.0).1 head, same_from_codes xs ys ms ns left.1 right.1 tail)

  pub codes_from_same : (xs ys : List C) (ms ns : List ℕ) → CodesOf coded xs ms → CodesOf coded ys ns → AllZip same xs ys → ms ≡ ns
  codes_from_same [] [] [] [] left right each = refl
  codes_from_same [] [] [] (b ∷ ns) left right each = absurd right
  codes_from_same [] [] (a ∷ ms) ns left right each = absurd left
  codes_from_same [] (y ∷ ys) ms ns left right each = absurd each
  codes_from_same (x ∷ xs) [] ms ns left right each = absurd each
  codes_from_same (x ∷ xs) (y ∷ ys) [] ns left right each = absurd left
  codes_from_same (x ∷ xs) (y ∷ ys) (a ∷ ms) [] left right each = absurd right
  codes_from_same (x ∷ xs) (y ∷ ys) (a ∷ ms) (b ∷ ns) left right each =
      ap (λ c. c ∷ ms) ((laws.alike x y a b left.0 right.0).0 each.0) ∙ ap (λ cs. b ∷ cs) (codes_from_same xs ys ms ns left.1 right.1 each.1)

-- where every cell is printable, `printed` are their codes
pub printed_codes : {C : Type 0} (coded : C → Option ℕ) (cells : List C) → first_unprintable coded cells ≡ None → CodesOf coded cells (printed coded cells)
printed_codes coded [] h = tt
printed_codes coded (x ∷ cells) h = go (coded x) refl (printed_codes coded cells)
  where
    none : (o : Option ℕ) → option_map suc o ≡ None → o ≡ None
    none None f = refl
    none (Some i) f = let z : ◌≡◌ {A = ℕ} 0 1 = cc in absurd (omega arith)

    go : (o : Option ℕ) → coded x ≡ o → (first_unprintable coded cells ≡ None → CodesOf coded cells (printed coded cells)) → (coded x ≡ Some (unwrap_or (coded x) 0)) × CodesOf coded cells (printed coded cells)
    go None e rest = absurd (let f = ap (λ o. cond (is_some o) (option_map suc (first_unprintable coded cells)) (Some 0)) (sym e) ∙ h in let z : ◌≡◌ {A = ℕ} 0 1 = cc in omega arith)
    go (Some c) e rest =
        let others : option_map suc (first_unprintable coded cells) ≡ None = ap (λ o. cond (is_some o) (option_map suc (first_unprintable coded cells)) (Some 0)) (sym e) ∙ h in
        (e ∙ ap (λ o. Some (unwrap_or o 0)) (sym e), rest (none (first_unprintable coded cells) others))

-- the code of one cell
pub codes_at : {C : Type 0} (coded : C → Option ℕ) (cells : List C) (codes : List ℕ) (i : ℕ) (d : C) → CodesOf coded cells codes → i < length cells → coded (get_or cells i d) ≡ Some (get_or codes i 0)
codes_at coded [] codes i d h within = absurd (omega arith)
codes_at coded (x ∷ cells) [] i d h within = absurd h
codes_at coded (x ∷ cells) (c ∷ codes) zero d h within = h.0
codes_at coded (x ∷ cells) (c ∷ codes) (suc i) d h within = codes_at coded cells codes i d h.1 (omega arith)

pub length_codes : {C : Type 0} (coded : C → Option ℕ) (cells : List C) (codes : List ℕ) → CodesOf coded cells codes → length codes ≡ length cells
length_codes coded [] [] h = refl
length_codes coded [] (c ∷ codes) h = absurd h
length_codes coded (x ∷ cells) [] h = absurd h
length_codes coded (x ∷ cells) (c ∷ codes) h = ap suc (length_codes coded cells codes h.1)
