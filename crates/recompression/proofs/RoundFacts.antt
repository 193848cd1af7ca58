-- Rounds run in place: the class of a number by its phase, the first block of a string, and a pass that reads
-- ahead of where it writes. Assumes nothing.
use Rattle.std.proofs.Common.{◌≡◌, ℕ, suc, ◌+◌, ◌-◌, ◌%◌, ◌<◌, ◌≤◌, true, false, not, eqb, List, [], ◌∷◌, ◌++◌, length, get_or, take, drop, set, Some, None, Option, sym, refl, ap, ◌∙◌, subst, inl, inr, arith, length-set, length-take, length-drop}
use Rattle.std.specs.List.{prefix_len}
use Rattle.std.proofs.lemmas.List.{append-nil, append_assoc, take_rest, drop_all, take-append-le, take_more_set, drop-drop, drop-set-lt}
use Rattle.std.proofs.lemmas.Bool.{cases_Bool, cond_both, cond-true, cond-false, and_from, and_left, and_right, not_from_true, not_from_false}
use Rattle.rows.specs.declared.Shape.TheVariants.{Pair}
use Rattle.rows.specs.declared.Row.{Row}
use Rattle.rows.specs.Filing.{Numbered}
use Rattle.rows.specs.Rounds.{Block, one, new, stretch, stretches_from, stretches, is_left, joins, pairs, pairs_from, blocks, Filed, then, with_number, file_all}
use Rattle.rows.proofs.FilingFacts.{file_grows}
use Rattle.recompression.specs.Contents.{number_in, rows_left}
use Rattle.recompression.specs.InPlace.{file_block, Partner, block_of, IsFirst, Ran}
use Rattle.recompression.specs.declared.table.rounds.Block.{Block as Held}

-- the first stretch of a string
stretch_on : (n m : ℕ) (s : List ℕ) → stretches_from n m s ≡ stretch n (m + prefix_len (λ x. eqb x n) s) ∷ stretches (drop (prefix_len (λ x. eqb x n) s) s)
stretch_on n m [] = (let e : m ≡ m + 0 = omega arith in ap (λ i. stretch n i ∷ []) e)
stretch_on n m (x ∷ s) =
    let further = stretch_on n (m + 1) s in
    let count = prefix_len (λ y. eqb y n) s in
    elim (cases_Bool (eqb x n)) [
      | inl same ↦
          let e : m + 1 + count ≡ m + (1 + count) = omega arith in
          let one_more : suc count ≡ 1 + count = omega arith in
          rw same (further ∙ ap (λ i. stretch n i ∷ stretches (drop count s)) e ∙ ap (λ i. stretch n (m + (1 + count)) ∷ stretches (drop i (x ∷ s))) one_more)
      | inr other ↦ let e : m ≡ m + 0 = omega arith in rw other (ap (λ i. stretch n i ∷ stretches_from x 1 s) e)
    ]

pub stretch_first : (x : ℕ) (s : List ℕ) → stretches (x ∷ s) ≡ stretch x (1 + prefix_len (λ y. eqb y x) s) ∷ stretches (drop (1 + prefix_len (λ y. eqb y x) s) (x ∷ s))
stretch_first x s =
    let count = prefix_len (λ y. eqb y x) s in
    let one_more : suc count ≡ 1 + count = omega arith in
    stretch_on x 1 s ∙ ap (λ i. stretch x (1 + count) ∷ stretches (drop i (x ∷ s))) one_more

-- the first pair of a string, or its first number
pub partner_joined : (k : ℕ) (s : List ℕ) → 2 ≤ length s → joins k (get_or s 0 0) (get_or s 1 0) ≡ true → Partner k s (Some (get_or s 1 0))
partner_joined k [] long joining = absurd (omega arith)
partner_joined k (x ∷ []) long joining = absurd (omega arith)
partner_joined k (x ∷ (y ∷ s)) long joining = (long, cond-true (joins k x y) (new (Pair x y) ∷ pairs k s) (one x ∷ pairs_from k y s) joining)

pub partner_apart : (k : ℕ) (s : List ℕ) → 2 ≤ length s → joins k (get_or s 0 0) (get_or s 1 0) ≡ false → Partner k s None
partner_apart k [] long apart = absurd (omega arith)
partner_apart k (x ∷ []) long apart = absurd (omega arith)
partner_apart k (x ∷ (y ∷ s)) long apart = cond-false (joins k x y) (new (Pair x y) ∷ pairs k s) (one x ∷ pairs_from k y s) apart

-- the same from the classes of the first two numbers
pub partner_joins : (k : ℕ) (s : List ℕ) → 2 ≤ length s → is_left k (get_or s 0 0) ≡ true → is_left k (get_or s 1 0) ≡ false → Partner k s (Some (get_or s 1 0))
partner_joins k s long left right =
    let first = is_left k (get_or s 0 0) in
    let second = is_left k (get_or s 1 0) in
    partner_joined k s long (and_from first (not second) left (not_from_false second right))

pub partner_not_left : (k : ℕ) (s : List ℕ) → 2 ≤ length s → is_left k (get_or s 0 0) ≡ false → Partner k s None
partner_not_left k s long right = partner_apart k s long (and_left (is_left k (get_or s 0 0)) (not (is_left k (get_or s 1 0))) right)

pub partner_not_right : (k : ℕ) (s : List ℕ) → 2 ≤ length s → is_left k (get_or s 1 0) ≡ true → Partner k s None
partner_not_right k s long left =
    let second = is_left k (get_or s 1 0) in
    partner_apart k s long (and_right (is_left k (get_or s 0 0)) (not second) (not_from_true second left))

-- a number that is not left stays as it is
pub not_left_alone : (k x : ℕ) (s : List ℕ) → is_left k x ≡ false → pairs k (x ∷ s) ≡ one x ∷ pairs k s
not_left_alone k x [] right = refl
not_left_alone k x (y ∷ s) right = cond-false (joins k x y) (new (Pair x y) ∷ pairs k s) (one x ∷ pairs_from k y s) (and_left (is_left k x) (not (is_left k y)) right)

-- what filing answered, from the number and the rows
pub filed_some : (rows grown : List Row) (o : Option Numbered) (n : ℕ) → Some n ≡ number_in o → grown ≡ rows_left rows o → o ≡ Some (record { number = n; rows = grown })
filed_some rows grown None n number left = absurd (let z : ◌≡◌ {A = ℕ} 0 1 = cc in omega arith)
filed_some rows grown (Some f) n number left =
    let e : f.number ≡ n = cc in
    let g : f.rows ≡ grown = sym left in
    λ i. Some (record { number = e i; rows = g i })

pub filed_none : (o : Option Numbered) → None ≡ number_in o → o ≡ None
filed_none None number = refl
filed_none (Some f) number = absurd (let z : ◌≡◌ {A = ℕ} 0 1 = cc in omega arith)

-- blocks filed after numbers that were written
abbrev pub after : List ℕ → Filed → Option Filed
after done f = Some (record { numbers = done ++ f.numbers; rows = f.rows })

pub after_more : (done : List ℕ) (n : ℕ) (o : Option Filed) → then (then o (with_number n)) (after done) ≡ then o (after (done ++ (n ∷ [])))
after_more done n None = refl
after_more done n (Some f) = ap (λ ns. Some (record { numbers = ns; rows = f.rows })) (sym (append_assoc done (n ∷ []) f.numbers))

-- one block, and then the others
file_first : (k : ℕ) (b : Block) (bs : List Block) (rows grown : List Row) (n : ℕ) → file_block k rows b ≡ Some (record { number = n; rows = grown })
    → file_all k (b ∷ bs) rows ≡ then (file_all k bs grown) (with_number n)
unfolding file_all
file_first k (one m) bs rows grown n filed =
    let same : record { number = m; rows = rows } ≡ record { number = n; rows = grown } = cc in
    ap (λ (f : Numbered). then (file_all k bs f.rows) (with_number f.number)) same
file_first k (new shape) bs rows grown n filed = ap (λ o. then o (λ found. then (file_all k bs found.rows) (with_number found.number))) filed

file_first_full : (k : ℕ) (b : Block) (bs : List Block) (rows : List Row) → file_block k rows b ≡ None → file_all k (b ∷ bs) rows ≡ None
unfolding file_all
file_first_full k (one m) bs rows filed = absurd (let z : ◌≡◌ {A = ℕ} 0 1 = cc in omega arith)
file_first_full k (new shape) bs rows filed = ap (λ o. then o (λ found. then (file_all k bs found.rows) (with_number found.number))) filed

file_none : (k : ℕ) (rows : List Row) → file_all k [] rows ≡ Some (record { numbers = []; rows = rows })
unfolding file_all
file_none k rows = refl

-- a block adds rows after the others
block_grows : (k : ℕ) (rows grown : List Row) (b : Block) (n : ℕ) → file_block k rows b ≡ Some (record { number = n; rows = grown }) → (added : List Row) × (grown ≡ rows ++ added)
block_grows k rows grown (one m) n filed =
    let same : record { number = n; rows = grown } ≡ record { number = m; rows = rows } = cc in
    ([], ap (λ (f : Numbered). f.rows) same ∙ sym (append-nil rows))
block_grows k rows grown (new shape) n filed = let all = file_grows k rows shape (record { number = n; rows = grown }) filed in (all.added, all.grows)

-- rows that begin with others
pub begins_with_more : (first rows added : List Row) → take (length first) rows ≡ first → take (length first) (rows ++ added) ≡ first
begins_with_more first rows added begins =
    let few : length first ≤ length rows = let l = length-take (length first) rows in let e = ap length begins in omega arith in
    take-append-le (length first) rows added few ∙ begins

-- an empty string has no blocks
pub no_blocks : (k : ℕ) → blocks k [] ≡ []
unfolding blocks
no_blocks k = cond_both (eqb (k % 2) 1) [] [] (λ bs. bs ≡ []) (λ odd. refl) (λ even. refl)

-- a pass over the numbers `old`, the blocks of a string being given by `parts`: what is left to read, filed
-- after what was written, is what the whole string comes to
pub record Going (k : ℕ) (parts : List ℕ → List Block) (first : List Row) (old : List ℕ) (read write : ℕ) (rows : List Row) (numbers : List ℕ) : Type 0 where
  pub behind : write ≤ read
  pub within : read ≤ length numbers
  pub long : length numbers ≡ length old
  pub rest : file_all k (parts old) first ≡ then (file_all k (parts (drop read numbers)) rows) (after (take write numbers))
  pub begins : take (length first) rows ≡ first

module _ {k : ℕ} {parts : List ℕ → List Block} {first : List Row} {old : List ℕ} {read write : ℕ} {rows : List Row} {numbers : List ℕ}
    (g : Going k parts first old read write rows numbers) where
  -- the pass is over
  pub going_all : parts [] ≡ [] → length numbers ≤ read → Ran k (parts old) first (Some write) rows numbers
  going_all none done = (
    omega (arith, g.behind, g.within),
    g.rest ∙ ap (λ ns. then (file_all k (parts ns) rows) (after (take write numbers))) (drop_all read numbers done)
        ∙ ap (λ bs. then (file_all k bs rows) (after (take write numbers))) none
        ∙ ap (λ o. then o (after (take write numbers))) (file_none k rows)
        ∙ ap (λ ns. Some (record { numbers = ns; rows = rows })) (append-nil (take write numbers)),
  )

  module _ (block : Held) (taken : ℕ) (is : IsFirst parts (take (length numbers - read) (drop read numbers)) block taken) (grown : List Row)
      (left : grown ≡ rows_left rows (file_block k rows (block_of block))) where
    fits : read + taken ≤ length numbers
    fits = omega (arith, is.1, g.within, length-take (length numbers - read) (drop read numbers), length-drop read numbers)

    split : parts (drop read numbers) ≡ block_of block ∷ parts (drop (read + taken) numbers)
    split =
        ap parts (sym (take_rest numbers read)) ∙ is.2
        ∙ ap (λ ns. block_of block ∷ parts (drop taken ns)) (take_rest numbers read) ∙ ap (λ ns. block_of block ∷ parts ns) (drop-drop taken read numbers)

    -- its first block is filed
    pub going_more : (n : ℕ) → Some n ≡ number_in (file_block k rows (block_of block)) → Going k parts first old (read + taken) (write + 1) grown (set numbers write n)
    going_more n number =
        let filed = filed_some rows grown (file_block k rows (block_of block)) n number left in
        let added = block_grows k rows grown (block_of block) n filed in
        let bs = parts (drop (read + taken) numbers) in
        let more : 0 < taken = is.0 in
        record {
          behind = omega (arith, g.behind);
          within = omega (arith, fits, length-set numbers write n);
          long = length-set numbers write n ∙ g.long;
          rest =
              g.rest ∙ ap (λ cs. then (file_all k cs rows) (after (take write numbers))) split
              ∙ ap (λ o. then o (after (take write numbers))) (file_first k (block_of block) bs rows grown n filed)
              ∙ after_more (take write numbers) n (file_all k bs grown)
              ∙ ap (λ ns. then (file_all k bs grown) (after ns)) (sym (take_more_set numbers write n (omega (arith, g.behind, fits))))
              ∙ ap (λ ns. then (file_all k (parts ns) grown) (after (take (write + 1) (set numbers write n)))) (sym (drop-set-lt (read + taken) numbers write n (omega (arith, g.behind))));
          begins = subst (λ rs. take (length first) rs ≡ first) (sym added.1) (begins_with_more first rows added.0 g.begins);
        }

    -- the table is full
    pub going_full : (after_full : List ℕ) → None ≡ number_in (file_block k rows (block_of block)) → Ran k (parts old) first None grown after_full
    going_full after_full number =
        let none = filed_none (file_block k rows (block_of block)) number in (
          g.rest ∙ ap (λ cs. then (file_all k cs rows) (after (take write numbers))) split
              ∙ ap (λ o. then o (after (take write numbers))) (file_first_full k (block_of block) (parts (drop (read + taken) numbers)) rows none),
          ap (take (length first)) (left ∙ ap (rows_left rows) none) ∙ g.begins,
        )
