-- A round's blocks spell the string that they were read from, and any part of them is what its own string
-- is read as. Assumes nothing.
use Rattle.std.proofs.Common.{◌≡◌, ℕ, zero, suc, ◌+◌, ◌%◌, ◌≤◌, ◌↔◌, true, false, not, eqb, ltb, List, [], ◌∷◌, ◌++◌, replicate, sym, refl, ap, ◌∙◌, subst, arith}
use Rattle.std.specs.List.{AllByRecursion}
use Rattle.std.proofs.lemmas.List.{append_assoc, replicate_more}
use Rattle.std.proofs.lemmas.Bool.{both_ways, cond_both, cond-true, cond-false, and_parts, and_left, not-true, eqb-true, eq-eqb, ltb-true, ltb-false, le-ltb}
use Rattle.rows.specs.declared.Shape.TheVariants.{Leaf, Pair, Repeat}
use Rattle.rows.specs.Blocks.{symbols, spelled, InRound, first_number, last_number, merges, CutUp, NoneMerge}
use Rattle.rows.specs.Rounds.{Block, one, new, stretch, stretches_from, stretches, is_left, joins, pairs, pairs_from, blocks}

-- the number x does not merge with the first number of the blocks after it
abbrev pub Apart : ℕ → ℕ → List Block → Type 0
Apart k x [] = Unit {0}
Apart k x (b ∷ bs) = merges k x (first_number b) ≡ false

-- blocks of round k of which no two neighbours merge
abbrev pub Parsed : ℕ → List Block → Type 0
Parsed k [] = Unit {0}
Parsed k (b ∷ bs) = InRound k b × Apart k (last_number b) bs × Parsed k bs

pub spelled_append : (bs cs : List Block) → spelled (bs ++ cs) ≡ spelled bs ++ spelled cs
spelled_append [] cs = refl
spelled_append (b ∷ bs) cs = ap (λ s. symbols b ++ s) (spelled_append bs cs) ∙ sym (append_assoc (symbols b) (spelled bs) (spelled cs))

-- a part of parsed blocks is parsed
pub parsed_after : (k : ℕ) (bs cs : List Block) → Parsed k (bs ++ cs) → Parsed k cs
parsed_after k [] cs p = p
parsed_after k (b ∷ bs) cs p = parsed_after k bs cs p.2

apart_before : (k x : ℕ) (bs cs : List Block) → Apart k x (bs ++ cs) → Apart k x bs
apart_before k x [] cs p = tt
apart_before k x (b ∷ bs) cs p = p

pub parsed_before : (k : ℕ) (bs cs : List Block) → Parsed k (bs ++ cs) → Parsed k bs
parsed_before k [] cs p = tt
parsed_before k (b ∷ bs) cs p = (p.0, apart_before k (last_number b) bs cs p.1, parsed_before k bs cs p.2)

kinds_from_parsed : (k : ℕ) (bs : List Block) → Parsed k bs → AllByRecursion (InRound k) bs
kinds_from_parsed k [] p = tt
kinds_from_parsed k (b ∷ bs) p = (p.0, kinds_from_parsed k bs p.2)

-- a stretch spells its numbers, and begins and ends with them
symbols_stretch : (n m : ℕ) → 1 ≤ m → symbols (stretch n m) ≡ replicate m n
symbols_stretch n m some =
    cond_both (ltb m 2) (one n) (new (Repeat n m)) (λ b. symbols b ≡ replicate m n)
    (λ e.
    let small = ltb-true m 2 e in
    let single : 1 ≡ m = omega arith in
    ap (λ j. replicate j n) single)
    (λ e. refl)

first_of_stretch : (n m : ℕ) → first_number (stretch n m) ≡ n
first_of_stretch n m = cond_both (ltb m 2) (one n) (new (Repeat n m)) (λ b. first_number b ≡ n) (λ e. refl) (λ e. refl)

last_of_stretch : (n m : ℕ) → last_number (stretch n m) ≡ n
last_of_stretch n m = cond_both (ltb m 2) (one n) (new (Repeat n m)) (λ b. last_number b ≡ n) (λ e. refl) (λ e. refl)

replicate_then : (m n : ℕ) (s : List ℕ) → replicate m n ++ (n ∷ s) ≡ replicate (m + 1) n ++ s
replicate_then m n s = sym (append_assoc (replicate m n) (n ∷ []) s) ∙ ap (λ t. t ++ s) (replicate_more m n)

spelled_stretches_from : (n m : ℕ) (s : List ℕ) → 1 ≤ m → spelled (stretches_from n m s) ≡ replicate m n ++ s
spelled_stretches_from n m [] some = ap (λ t. t ++ []) (symbols_stretch n m some)
spelled_stretches_from n m (x ∷ xs) some =
    cond_both (eqb x n) (stretches_from n (m + 1) xs) (stretch n m ∷ stretches_from x 1 xs) (λ bs. spelled bs ≡ replicate m n ++ (x ∷ xs))
    (λ e.
    let more : 1 ≤ m + 1 = omega arith in
    spelled_stretches_from n (m + 1) xs more ∙ sym (replicate_then m n xs) ∙ ap (λ y. replicate m n ++ (y ∷ xs)) (sym (eqb-true x n e)))
    (λ e.
    let first : 1 ≤ 1 = omega arith in
    ap (λ t. t ++ spelled (stretches_from x 1 xs)) (symbols_stretch n m some)
    ∙ ap (λ t. replicate m n ++ t) (spelled_stretches_from x 1 xs first))

spelled_stretches : (s : List ℕ) → spelled (stretches s) ≡ s
spelled_stretches [] = refl
spelled_stretches (x ∷ xs) = spelled_stretches_from x 1 xs (omega arith)

-- more of the same number makes a stretch longer
stretches_from_more : (n m j : ℕ) (s : List ℕ) → stretches_from n m (replicate j n ++ s) ≡ stretches_from n (m + j) s
stretches_from_more n m zero s =
    let e : m ≡ m + zero = omega arith in
    ap (λ i. stretches_from n i s) e
stretches_from_more n m (suc j) s =
    let e : (m + 1) + j ≡ m + suc j = omega arith in
    cond-true (eqb n n) (stretches_from n (m + 1) (replicate j n ++ s)) (stretch n m ∷ stretches_from n 1 (replicate j n ++ s)) (eq-eqb n n refl)
    ∙ stretches_from_more n (m + 1) j s ∙ ap (λ i. stretches_from n i s) e

stretches_replicate : (m n : ℕ) (s : List ℕ) → 1 ≤ m → stretches (replicate m n ++ s) ≡ stretches_from n m s
stretches_replicate zero n s some = absurd (omega arith)
stretches_replicate (suc j) n s some =
    let e : 1 + j ≡ suc j = omega arith in
    stretches_from_more n 1 j s ∙ ap (λ i. stretches_from n i s) e

stretch_repeat : (n m : ℕ) → 2 ≤ m → stretch n m ≡ new (Repeat n m)
stretch_repeat n m many = cond-false (ltb m 2) (one n) (new (Repeat n m)) (le-ltb m 2 many)

module _ (k : ℕ) (odd : eqb (k % 2) 1 ≡ true) where
  stretch_in_round : (n m : ℕ) → InRound k (stretch n m)
  stretch_in_round n m = cond_both (ltb m 2) (one n) (new (Repeat n m)) (InRound k) (λ e. tt) (λ e. (odd, ltb-false m 2 e))

  apart_odd : (x y : ℕ) → eqb y x ≡ false → merges k x y ≡ false
  apart_odd x y e = cond-true (eqb (k % 2) 1) (eqb y x) (joins k x y) odd ∙ e

  differ_from_apart : (x y : ℕ) → merges k x y ≡ false → eqb y x ≡ false
  differ_from_apart x y e = sym (cond-true (eqb (k % 2) 1) (eqb y x) (joins k x y) odd) ∙ e

  -- the blocks of a stretch and on begin with its number
  apart_stretches : (x n m : ℕ) (s : List ℕ) → merges k x n ≡ false → Apart k x (stretches_from n m s)
  apart_stretches x n m [] e = ap (merges k x) (first_of_stretch n m) ∙ e
  apart_stretches x n m (y ∷ ys) e =
      cond_both (eqb y n) (stretches_from n (m + 1) ys) (stretch n m ∷ stretches_from y 1 ys) (Apart k x)
      (λ t. apart_stretches x n (m + 1) ys e) (λ t. ap (merges k x) (first_of_stretch n m) ∙ e)

  parsed_stretches_from : (n m : ℕ) (s : List ℕ) → Parsed k (stretches_from n m s)
  parsed_stretches_from n m [] = (stretch_in_round n m, tt, tt)
  parsed_stretches_from n m (x ∷ xs) =
      cond_both (eqb x n) (stretches_from n (m + 1) xs) (stretch n m ∷ stretches_from x 1 xs) (Parsed k)
      (λ e. parsed_stretches_from n (m + 1) xs)
      (λ e. (
        stretch_in_round n m,
        subst (λ y. Apart k y (stretches_from x 1 xs)) (sym (last_of_stretch n m)) (apart_stretches n x 1 xs (apart_odd n x e)),
        parsed_stretches_from x 1 xs,
      ))

  parsed_stretches : (s : List ℕ) → Parsed k (stretches s)
  parsed_stretches [] = tt
  parsed_stretches (x ∷ xs) = parsed_stretches_from x 1 xs

  -- a stretch ends before another number
  stretches_from_next : (n m : ℕ) (bs : List Block) → Apart k n bs → Parsed k bs → stretches_from n m (spelled bs) ≡ stretch n m ∷ stretches (spelled bs)
  stretches_from_next n m [] a p = refl
  stretches_from_next n m (one x ∷ bs) a p =
      cond-false (eqb x n) (stretches_from n (m + 1) (spelled bs)) (stretch n m ∷ stretches_from x 1 (spelled bs)) (differ_from_apart n x a)
  stretches_from_next n m (new (Leaf code) ∷ bs) a p = absurd p.0
  stretches_from_next n m (new (Pair left right) ∷ bs) a p = absurd (both_ways (eqb (k % 2) 1) p.0.0 odd)
  stretches_from_next n m (new (Repeat x zero) ∷ bs) a p =
      let many : 2 ≤ 0 = p.0.1 in
      absurd (omega arith)
  stretches_from_next n m (new (Repeat x (suc j)) ∷ bs) a p =
      cond-false (eqb x n) (stretches_from n (m + 1) (replicate j x ++ spelled bs)) (stretch n m ∷ stretches_from x 1 (replicate j x ++ spelled bs))
      (differ_from_apart n x a)

  stretches_spelled : (bs : List Block) → Parsed k bs → stretches (spelled bs) ≡ bs
  stretches_spelled [] p = refl
  stretches_spelled (one n ∷ bs) p = stretches_from_next n 1 bs p.1 p.2 ∙ ap (λ cs. one n ∷ cs) (stretches_spelled bs p.2)
  stretches_spelled (new (Leaf code) ∷ bs) p = absurd p.0
  stretches_spelled (new (Pair left right) ∷ bs) p = absurd (both_ways (eqb (k % 2) 1) p.0.0 odd)
  stretches_spelled (new (Repeat n m) ∷ bs) p =
      let many : 2 ≤ m = p.0.1 in
      stretches_replicate m n (spelled bs) (omega arith) ∙ stretches_from_next n m bs p.1 p.2
      ∙ ap (λ b. b ∷ stretches (spelled bs)) (stretch_repeat n m many) ∙ ap (λ cs. new (Repeat n m) ∷ cs) (stretches_spelled bs p.2)

mutual
  spelled_pairs : (k : ℕ) (s : List ℕ) → spelled (pairs k s) ≡ s
  spelled_pairs k [] = refl
  spelled_pairs k (x ∷ xs) = spelled_pairs_from k x xs

  spelled_pairs_from : (k x : ℕ) (s : List ℕ) → spelled (pairs_from k x s) ≡ x ∷ s
  spelled_pairs_from k x [] = refl
  spelled_pairs_from k x (y ∷ ys) =
      cond_both (joins k x y) (new (Pair x y) ∷ pairs k ys) (one x ∷ pairs_from k y ys) (λ bs. spelled bs ≡ x ∷ y ∷ ys)
      (λ e. ap (λ s. x ∷ y ∷ s) (spelled_pairs k ys)) (λ e. ap (λ s. x ∷ s) (spelled_pairs_from k y ys))

-- the right number of a pair joins with none
right_joins_none : (k x y z : ℕ) → joins k x y ≡ true → joins k y z ≡ false
right_joins_none k x y z e =
    and_left (is_left k y) (not (is_left k z)) (not-true (is_left k y) (and_parts (is_left k x) (not (is_left k y)) e).1)

module _ (k : ℕ) (even : eqb (k % 2) 1 ≡ false) where
  apart_even : (x y : ℕ) → joins k x y ≡ false → merges k x y ≡ false
  apart_even x y e = cond-false (eqb (k % 2) 1) (eqb y x) (joins k x y) even ∙ e

  parted_from_apart : (x y : ℕ) → merges k x y ≡ false → joins k x y ≡ false
  parted_from_apart x y e = sym (cond-false (eqb (k % 2) 1) (eqb y x) (joins k x y) even) ∙ e

  apart_after_pair : (x y : ℕ) (bs : List Block) → joins k x y ≡ true → Apart k y bs
  apart_after_pair x y [] e = tt
  apart_after_pair x y (b ∷ bs) e = apart_even y (first_number b) (right_joins_none k x y (first_number b) e)

  -- the blocks from a number on begin with it
  apart_pairs : (x y : ℕ) (s : List ℕ) → joins k x y ≡ false → Apart k x (pairs_from k y s)
  apart_pairs x y [] e = apart_even x y e
  apart_pairs x y (z ∷ zs) e =
      cond_both (joins k y z) (new (Pair y z) ∷ pairs k zs) (one y ∷ pairs_from k z zs) (Apart k x) (λ t. apart_even x y e) (λ t. apart_even x y e)

  mutual
    parsed_pairs : (s : List ℕ) → Parsed k (pairs k s)
    parsed_pairs [] = tt
    parsed_pairs (x ∷ xs) = parsed_pairs_from x xs

    parsed_pairs_from : (x : ℕ) (s : List ℕ) → Parsed k (pairs_from k x s)
    parsed_pairs_from x [] = (tt, tt, tt)
    parsed_pairs_from x (y ∷ ys) =
        cond_both (joins k x y) (new (Pair x y) ∷ pairs k ys) (one x ∷ pairs_from k y ys) (Parsed k)
        (λ e. ((even, e), apart_after_pair x y (pairs k ys) e, parsed_pairs ys)) (λ e. (tt, apart_pairs x y ys e, parsed_pairs_from y ys))

  -- a number that does not join with the next one stays
  pairs_from_next : (x : ℕ) (bs : List Block) → Apart k x bs → Parsed k bs → pairs_from k x (spelled bs) ≡ one x ∷ pairs k (spelled bs)
  pairs_from_next x [] a p = refl
  pairs_from_next x (one y ∷ bs) a p =
      cond-false (joins k x y) (new (Pair x y) ∷ pairs k (spelled bs)) (one x ∷ pairs_from k y (spelled bs)) (parted_from_apart x y a)
  pairs_from_next x (new (Leaf code) ∷ bs) a p = absurd p.0
  pairs_from_next x (new (Pair y z) ∷ bs) a p =
      cond-false (joins k x y) (new (Pair x y) ∷ pairs k (z ∷ spelled bs)) (one x ∷ pairs_from k y (z ∷ spelled bs)) (parted_from_apart x y a)
  pairs_from_next x (new (Repeat n m) ∷ bs) a p = absurd (both_ways (eqb (k % 2) 1) even p.0.0)

  pairs_spelled : (bs : List Block) → Parsed k bs → pairs k (spelled bs) ≡ bs
  pairs_spelled [] p = refl
  pairs_spelled (one x ∷ bs) p = pairs_from_next x bs p.1 p.2 ∙ ap (λ cs. one x ∷ cs) (pairs_spelled bs p.2)
  pairs_spelled (new (Leaf code) ∷ bs) p = absurd p.0
  pairs_spelled (new (Pair x y) ∷ bs) p =
      cond-true (joins k x y) (new (Pair x y) ∷ pairs k (spelled bs)) (one x ∷ pairs_from k y (spelled bs)) p.0.1
      ∙ ap (λ cs. new (Pair x y) ∷ cs) (pairs_spelled bs p.2)
  pairs_spelled (new (Repeat n m) ∷ bs) p = absurd (both_ways (eqb (k % 2) 1) even p.0.0)

-- the blocks of a round
pub spelled_blocks : (k : ℕ) (s : List ℕ) → spelled (blocks k s) ≡ s
unfolding blocks
spelled_blocks k s =
    cond_both (eqb (k % 2) 1) (stretches s) (pairs k s) (λ bs. spelled bs ≡ s) (λ e. spelled_stretches s) (λ e. spelled_pairs k s)

pub parsed_blocks : (k : ℕ) (s : List ℕ) → Parsed k (blocks k s)
unfolding blocks
parsed_blocks k s =
    cond_both (eqb (k % 2) 1) (stretches s) (pairs k s) (Parsed k) (λ odd. parsed_stretches k odd s) (λ even. parsed_pairs k even s)

pub blocks_spelled : (k : ℕ) (bs : List Block) → Parsed k bs → blocks k (spelled bs) ≡ bs
unfolding blocks
blocks_spelled k bs p =
    cond_both (eqb (k % 2) 1) (stretches (spelled bs)) (pairs k (spelled bs)) (λ cs. cs ≡ bs)
    (λ odd. stretches_spelled k odd bs p) (λ even. pairs_spelled k even bs p)

-- a part of a string's blocks is what the part's own string is read as
pub blocks_part : (k : ℕ) (s : List ℕ) (before middle after : List Block) → blocks k s ≡ before ++ (middle ++ after) → blocks k (spelled middle) ≡ middle
blocks_part k s before middle after e =
    let whole : Parsed k (before ++ (middle ++ after)) = subst (Parsed k) e (parsed_blocks k s) in
    blocks_spelled k middle (parsed_before k middle after (parsed_after k before (middle ++ after) whole))

pub block_kinds : (k : ℕ) (s : List ℕ) → AllByRecursion (InRound k) (blocks k s)
block_kinds k s = kinds_from_parsed k (blocks k s) (parsed_blocks k s)

pub blocks_none : (k : ℕ) → blocks k [] ≡ []
blocks_none k = blocks_spelled k [] tt

pub blocks_one : (k n : ℕ) → blocks k (n ∷ []) ≡ one n ∷ []
blocks_one k n = blocks_spelled k (one n ∷ []) (tt, tt, tt)

-- blocks cut a string up exactly when they are its blocks
parsed_from_cut : (k : ℕ) (bs : List Block) → AllByRecursion (InRound k) bs → NoneMerge k bs → Parsed k bs
parsed_from_cut k [] formed apart = tt
parsed_from_cut k (b ∷ []) formed apart = (formed.0, tt, tt)
parsed_from_cut k (b ∷ (c ∷ bs)) formed apart = (
  formed.0,
  apart [] bs b c refl,
  parsed_from_cut k (c ∷ bs) formed.1 (λ before after x y e. apart (b ∷ before) after x y (ap (λ cs. b ∷ cs) e)),
)

none_merge : (k : ℕ) (bs : List Block) → Parsed k bs → NoneMerge k bs
none_merge k bs p before after a b e = (parsed_after k before (a ∷ b ∷ after) (subst (Parsed k) e p)).1

blocks_cut : (k : ℕ) (s : List ℕ) → CutUp k s (blocks k s)
blocks_cut k s = record { spells = spelled_blocks k s; formed = block_kinds k s; apart = none_merge k (blocks k s) (parsed_blocks k s) }

pub blocks_cut_up : (k : ℕ) (s : List ℕ) (bs : List Block) → CutUp k s bs ↔ (bs ≡ blocks k s)
blocks_cut_up k s bs = (
  λ cut. sym (blocks_spelled k bs (parsed_from_cut k bs cut.formed cut.apart)) ∙ ap (blocks k) cut.spells,
  λ are. subst (CutUp k s) (sym are) (blocks_cut k s),
)
