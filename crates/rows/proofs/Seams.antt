-- Two strings side by side are cut up as each is alone, exactly when the numbers at their seam do not merge; so a
-- longest stretch is one block, and so is a pair. Assumes nothing.
use Rattle.std.proofs.Common.{◌≡◌, ℕ, zero, suc, ◌%◌, ◌≤◌, ◌<◌, true, false, not, eqb, List, [], ◌∷◌, ◌++◌, length, replicate, sym, refl, ap, ◌∙◌, subst, arith}
use Rattle.std.proofs.lemmas.List.{append-nil}
use Rattle.std.proofs.lemmas.Bool.{and_from, and_left, and_right, not_from_true, not_from_false, eq-eqb, ne_eqb, cond-true, cond-false}
use Rattle.rows.specs.declared.Shape.TheVariants.{Leaf, Pair, Repeat}
use Rattle.rows.specs.Blocks.{symbols, spelled, InRound, first_number, last_number, merges, EndsIn, BeginsWith, first_or, last_or}
use Rattle.rows.specs.Rounds.{Block, one, new, is_left, joins, blocks}
use Rattle.rows.proofs.Parsing.{Apart, Parsed, spelled_append, spelled_blocks, parsed_blocks, blocks_spelled}

-- the ends of strings
pub last_append : (d : ℕ) (a b : List ℕ) → last_or d (a ++ b) ≡ last_or (last_or d a) b
last_append d [] b = refl
last_append d (x ∷ a) b = last_append x a b

pub first_append : (d : ℕ) (a b : List ℕ) → first_or d (a ++ b) ≡ first_or (first_or d b) a
first_append d [] b = refl
first_append d (x ∷ a) b = refl

last_replicate : (m n : ℕ) → last_or n (replicate m n) ≡ n
last_replicate zero n = refl
last_replicate (suc m) n = last_replicate m n

-- the ends of a block, and of blocks
last_symbols : (k d : ℕ) (b : Block) → InRound k b → last_or d (symbols b) ≡ last_number b
last_symbols k d (one n) kind = refl
last_symbols k d (new (Leaf code)) kind = absurd kind
last_symbols k d (new (Pair left right)) kind = refl
last_symbols k d (new (Repeat part zero)) kind = absurd (let many : 2 ≤ 0 = kind.1 in omega arith)
last_symbols k d (new (Repeat part (suc m))) kind = last_replicate m part

first_symbols : (k d : ℕ) (b : Block) → InRound k b → first_or d (symbols b) ≡ first_number b
first_symbols k d (one n) kind = refl
first_symbols k d (new (Leaf code)) kind = absurd kind
first_symbols k d (new (Pair left right)) kind = refl
first_symbols k d (new (Repeat part zero)) kind = absurd (let many : 2 ≤ 0 = kind.1 in omega arith)
first_symbols k d (new (Repeat part (suc m))) kind = refl

abbrev last_block : ℕ → List Block → ℕ
last_block d [] = d
last_block d (b ∷ bs) = last_block (last_number b) bs

last_spelled : (k d : ℕ) (bs : List Block) → Parsed k bs → last_or d (spelled bs) ≡ last_block d bs
last_spelled k d [] p = refl
last_spelled k d (b ∷ bs) p =
    last_append d (symbols b) (spelled bs) ∙ ap (λ x. last_or x (spelled bs)) (last_symbols k d b p.0) ∙ last_spelled k (last_number b) bs p.2

first_spelled : (k d : ℕ) (b : Block) (bs : List Block) → Parsed k (b ∷ bs) → first_or d (spelled (b ∷ bs)) ≡ first_number b
first_spelled k d b bs p = first_append d (symbols b) (spelled bs) ∙ first_symbols k (first_or d (spelled bs)) b p.0

-- the blocks on both sides of a seam
apart_from_first : (k d x : ℕ) (bs : List Block) → Parsed k bs → merges k x (first_or d (spelled bs)) ≡ false → Apart k x bs
apart_from_first k d x [] p e = tt
apart_from_first k d x (b ∷ bs) p e = ap (merges k x) (sym (first_spelled k d b bs p)) ∙ e

first_from_apart : (k d x : ℕ) (bs : List Block) → Parsed k bs → 0 < length (spelled bs) → Apart k x bs → merges k x (first_or d (spelled bs)) ≡ false
first_from_apart k d x [] p some a = absurd (omega arith)
first_from_apart k d x (b ∷ bs) p some a = ap (merges k x) (first_spelled k d b bs p) ∙ a

parsed_join : (k d : ℕ) (bs cs : List Block) → Parsed k bs → Parsed k cs → Apart k (last_block d bs) cs → Parsed k (bs ++ cs)
parsed_join k d [] cs p q a = q
parsed_join k d (b ∷ []) cs p q a = (p.0, a, q)
parsed_join k d (b ∷ (c ∷ bs)) cs p q a = (p.0, p.1, parsed_join k (last_number b) (c ∷ bs) cs p.2 q a)

parsed_seam : (k d : ℕ) (bs cs : List Block) → 0 < length (spelled bs) → Parsed k (bs ++ cs) → Apart k (last_block d bs) cs
parsed_seam k d [] cs some p = absurd (omega arith)
parsed_seam k d (b ∷ bs) cs some p = go b bs p
  where
    go : (c : Block) (ds : List Block) → Parsed k ((c ∷ ds) ++ cs) → Apart k (last_block (last_number c) ds) cs
    go c [] q = q.1
    go c (e ∷ ds) q = go e ds q.2

-- where the numbers at the seam do not merge, each side is read alone
pub blocks_apart : (k d e : ℕ) (a b : List ℕ) → merges k (last_or d a) (first_or e b) ≡ false → blocks k (a ++ b) ≡ blocks k a ++ blocks k b
blocks_apart k d e a b apart =
    let bs = blocks k a in
    let cs = blocks k b in
    let p = parsed_blocks k a in
    let q = parsed_blocks k b in
    let last : last_or d a ≡ last_block d bs = ap (last_or d) (sym (spelled_blocks k a)) ∙ last_spelled k d bs p in
    let at_seam : merges k (last_block d bs) (first_or e (spelled cs)) ≡ false = ap (λ x. merges k x (first_or e (spelled cs))) (sym last) ∙ ap (λ s. merges k (last_or d a) (first_or e s)) (spelled_blocks k b) ∙ apart in
    let joined : Parsed k (bs ++ cs) = parsed_join k d bs cs p q (apart_from_first k e (last_block d bs) cs q at_seam) in
    let spells : spelled (bs ++ cs) ≡ a ++ b = spelled_append bs cs ∙ ap (λ s. s ++ spelled cs) (spelled_blocks k a) ∙ ap (λ s. a ++ s) (spelled_blocks k b) in
    ap (blocks k) (sym spells) ∙ blocks_spelled k (bs ++ cs) joined

-- and where each is read alone, they do not merge
pub apart_blocks : (k d e : ℕ) (a b : List ℕ) → 0 < length a → 0 < length b → blocks k (a ++ b) ≡ blocks k a ++ blocks k b → merges k (last_or d a) (first_or e b) ≡ false
apart_blocks k d e a b some_a some_b same =
    let bs = blocks k a in
    let cs = blocks k b in
    let whole : Parsed k (bs ++ cs) = subst (Parsed k) same (parsed_blocks k (a ++ b)) in
    let long_a : 0 < length (spelled bs) = subst (λ s. 0 < length s) (sym (spelled_blocks k a)) some_a in
    let long_b : 0 < length (spelled cs) = subst (λ s. 0 < length s) (sym (spelled_blocks k b)) some_b in
    let last : last_or d a ≡ last_block d bs = ap (last_or d) (sym (spelled_blocks k a)) ∙ last_spelled k d bs (parsed_blocks k a) in
    ap (λ x. merges k x (first_or e b)) last ∙ ap (λ s. merges k (last_block d bs) (first_or e s)) (sym (spelled_blocks k b))
    ∙ first_from_apart k e (last_block d bs) cs (parsed_blocks k b) long_b (parsed_seam k d bs cs long_a whole)

-- a string whose last number is n ends in it, unless n only stands for the end of an empty one
ends_in_last : (x : ℕ) (s : List ℕ) → EndsIn (last_or x s) (x ∷ s)
ends_in_last x [] = ([], refl)
ends_in_last x (y ∷ s) = let rest = ends_in_last y s in (x ∷ rest.0, ap (λ t. x ∷ t) rest.1)

last_other : (n d : ℕ) (s : List ℕ) → (d ≡ n → ⊥) → (EndsIn n s → ⊥) → last_or d s ≡ n → ⊥
last_other n d [] other ends same = other same
last_other n d (x ∷ s) other ends same = ends (subst (λ y. EndsIn y (x ∷ s)) same (ends_in_last x s))

first_other : (n d : ℕ) (s : List ℕ) → (d ≡ n → ⊥) → (BeginsWith n s → ⊥) → first_or d s ≡ n → ⊥
first_other n d [] other begins same = other same
first_other n d (x ∷ s) other begins same = begins (s, ap (λ y. y ∷ s) same)

-- a part of a string that merges with neither side is cut up alone
blocks_inside : (k d : ℕ) (before middle after : List ℕ) → merges k (last_or d before) (first_or d (middle ++ after)) ≡ false → merges k (last_or d middle) (first_or d after) ≡ false
    → blocks k (before ++ (middle ++ after)) ≡ blocks k before ++ (blocks k middle ++ blocks k after)
blocks_inside k d before middle after front back =
    blocks_apart k d d before (middle ++ after) front ∙ ap (λ bs. blocks k before ++ bs) (blocks_apart k d d middle after back)

-- in an odd round different numbers do not merge
differ_odd : (k x y : ℕ) → k % 2 ≡ 1 → (y ≡ x → ⊥) → merges k x y ≡ false
differ_odd k x y odd differ = cond-true (eqb (k % 2) 1) (eqb y x) (joins k x y) (eq-eqb (k % 2) 1 odd) ∙ ne_eqb y x differ

-- a longest stretch is one block
pub stretch_whole : (k n m : ℕ) (before after : List ℕ) → k % 2 ≡ 1 → 2 ≤ m → (EndsIn n before → ⊥) → (BeginsWith n after → ⊥)
    → blocks k (before ++ (replicate m n ++ after)) ≡ blocks k before ++ (new (Repeat n m) ∷ blocks k after)
stretch_whole k n zero before after odd many ends begins = absurd (omega arith)
stretch_whole k n (suc m) before after odd many ends begins =
    let other : suc n ≡ n → ⊥ = λ e. omega arith in
    let middle : blocks k (replicate (suc m) n) ≡ new (Repeat n (suc m)) ∷ [] =
    ap (blocks k) (sym (append-nil (replicate (suc m) n))) ∙ blocks_spelled k (new (Repeat n (suc m)) ∷ []) ((eq-eqb (k % 2) 1 odd, many), tt, tt) in
    blocks_inside k (suc n) before (replicate (suc m) n) after
    (differ_odd k (last_or (suc n) before) n odd (λ e. last_other n (suc n) before other ends (sym e)))
    (differ_odd k (last_or n (replicate m n)) (first_or (suc n) after) odd (λ e. first_other n (suc n) after other begins (e ∙ last_replicate m n)))
    ∙ ap (λ bs. blocks k before ++ (bs ++ blocks k after)) middle

-- a left number and then a right one are one block
pub pair_made : (k x y : ℕ) (before after : List ℕ) → k % 2 ≡ 0 → is_left k x ≡ true → is_left k y ≡ false
    → blocks k (before ++ (x ∷ y ∷ after)) ≡ blocks k before ++ (new (Pair x y) ∷ blocks k after)
pair_made k x y before after even left right =
    let is_even : eqb (k % 2) 1 ≡ false = ne_eqb (k % 2) 1 (λ odd. omega arith) in
    let joined : joins k x y ≡ true = and_from (is_left k x) (not (is_left k y)) left (not_from_false (is_left k y) right) in
    blocks_inside k 0 before (x ∷ y ∷ []) after
    (apart is_even (last_or 0 before) x (and_right (is_left k (last_or 0 before)) (not (is_left k x)) (not_from_true (is_left k x) left)))
    (apart is_even y (first_or 0 after) (and_left (is_left k y) (not (is_left k (first_or 0 after))) right))
    ∙ ap (λ bs. blocks k before ++ (bs ++ blocks k after)) (blocks_spelled k (new (Pair x y) ∷ []) ((is_even, joined), tt, tt))
  where
    apart : eqb (k % 2) 1 ≡ false → (a b : ℕ) → joins k a b ≡ false → merges k a b ≡ false
    apart is_even a b e = cond-false (eqb (k % 2) 1) (eqb b a) (joins k a b) is_even ∙ e
