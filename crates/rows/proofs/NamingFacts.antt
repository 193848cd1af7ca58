-- Blocks named by rows that have them all: rounds that add nothing, and their replay on grown rows.
-- Assumes nothing.
use Rattle.std.proofs.Common.{◌≡◌, ℕ, zero, suc, ◌+◌, ◌<◌, ◌≤◌, ltb, ◌⊎◌, List, [], ◌∷◌, ◌++◌, map, length, Some, None, Option, sym, refl, ap, ◌∙◌, subst, inl, inr, arith}
use Rattle.std.proofs.lemmas.List.{append-nil, append_assoc}
use Rattle.std.proofs.lemmas.Bool.{cases_lt, cond-true, cond-false, lt-ltb, le-ltb}
use Rattle.rows.specs.declared.Shape.{Shape}
use Rattle.rows.specs.declared.Row.{Row}
use Rattle.rows.specs.Filing.{find, file}
use Rattle.rows.specs.Laws.{rounds_run, after_rounds}
use Rattle.rows.specs.Rounds.{Block, one, new, blocks, Filed, then, with_number, file_all, round, Settled, settled, rounds_from, leaf_block, leaves, enough_rounds, settle}
use Rattle.rows.proofs.FilingFacts.{find_append, file_grows, file_found}

-- the number of a block: itself, or that of the row of its shape
abbrev pub name_of : List Row → Block → Option ℕ
name_of rows (one n) = Some n
name_of rows (new shape) = find rows shape

-- the rows have all blocks, and these are their numbers
abbrev pub Named : List Row → List Block → List ℕ → Type 0
Named rows [] [] = Unit {0}
Named rows [] (n ∷ numbers) = ⊥
Named rows (b ∷ bs) [] = ⊥
Named rows (b ∷ bs) (n ∷ numbers) = (name_of rows b ≡ Some n) × Named rows bs numbers

-- what one list of rows finds, another finds under the same number
abbrev pub FindsAlike : List Row → List Row → Type 0
FindsAlike rows others = (shape : Shape) (n : ℕ) → find rows shape ≡ Some n → find others shape ≡ Some n

module _ (rows others : List Row) (alike : FindsAlike rows others) where
  name_alike : (b : Block) (n : ℕ) → name_of rows b ≡ Some n → name_of others b ≡ Some n
  name_alike (one m) n h = h
  name_alike (new shape) n h = alike shape n h

  -- so it has the same names
  pub named_alike : (bs : List Block) (numbers : List ℕ) → Named rows bs numbers → Named others bs numbers
  named_alike [] [] h = tt
  named_alike [] (n ∷ numbers) h = h
  named_alike (b ∷ bs) [] h = h
  named_alike (b ∷ bs) (n ∷ numbers) h = (name_alike b n h.0, named_alike bs numbers h.1)

-- names stay under added rows
pub named_append : (rows more : List Row) (bs : List Block) (numbers : List ℕ) → Named rows bs numbers → Named (rows ++ more) bs numbers
named_append rows more = named_alike rows (rows ++ more) (find_append rows more)

pub length_named : (rows : List Row) (bs : List Block) (numbers : List ℕ) → Named rows bs numbers → length numbers ≡ length bs
length_named rows [] [] h = refl
length_named rows [] (n ∷ numbers) h = absurd h
length_named rows (b ∷ bs) [] h = absurd h
length_named rows (b ∷ bs) (n ∷ numbers) h = ap suc (length_named rows bs numbers h.1)

-- single blocks name themselves
pub named_ones : (rows : List Row) (s numbers : List ℕ) → Named rows (map one s) numbers → numbers ≡ s
named_ones rows [] [] h = refl
named_ones rows [] (n ∷ numbers) h = absurd h
named_ones rows (x ∷ s) [] h = absurd h
named_ones rows (x ∷ s) (n ∷ numbers) h = let e : n ≡ x = let f = h.0 in cc in ap (λ k. k ∷ numbers) e ∙ ap (λ ks. x ∷ ks) (named_ones rows s numbers h.1)

-- the part of the blocks that a part of the numbers names
pub record Parted (rows : List Row) (bs : List Block) (before part after : List ℕ) : Type 0 where
  pub front : List Block
  pub middle : List Block
  pub back : List Block
  pub joins_up : bs ≡ front ++ (middle ++ back)
  pub front_named : Named rows front before
  pub middle_named : Named rows middle part
  pub back_named : Named rows back after

split_named : (rows : List Row) (bs : List Block) (before after : List ℕ) → Named rows bs (before ++ after) → (front : List Block) × (back : List Block) × (bs ≡ front ++ back) × Named rows front before × Named rows back after
split_named rows bs [] after h = ([], bs, refl, tt, h)
split_named rows [] (n ∷ before) after h = absurd h
split_named rows (b ∷ bs) (n ∷ before) after h =
    let rest = split_named rows bs before after h.1 in
    (b ∷ rest.0, rest.1, ap (λ cs. b ∷ cs) rest.2, (h.0, rest.3), rest.4)

pub part_named : (rows : List Row) (bs : List Block) (before part after : List ℕ) → Named rows bs (before ++ (part ++ after)) → Parted rows bs before part after
part_named rows bs before part after h =
    let outer = split_named rows bs before (part ++ after) h in
    let inner = split_named rows outer.1 part after outer.4 in
    record {
      front = outer.0;
      middle = inner.0;
      back = inner.1;
      joins_up = outer.2 ∙ ap (λ cs. outer.0 ++ cs) inner.2;
      front_named = outer.3;
      middle_named = inner.3;
      back_named = inner.4;
    }

-- filing blocks that the rows have all of adds nothing
pub file_named : (k : ℕ) (bs : List Block) (rows : List Row) (numbers : List ℕ) → Named rows bs numbers → file_all k bs rows ≡ Some (record { numbers = numbers; rows = rows })
unfolding file_all
file_named k [] rows [] h = refl
file_named k [] rows (n ∷ numbers) h = absurd h
file_named k (b ∷ bs) rows [] h = absurd h
file_named k (one m ∷ bs) rows (n ∷ numbers) h =
    let e : m ≡ n = let f = h.0 in cc in
    ap (λ o. then o (with_number m)) (file_named k bs rows numbers h.1) ∙ ap (λ i. Some (record { numbers = i ∷ numbers; rows = rows })) e
file_named k (new shape ∷ bs) rows (n ∷ numbers) h =
    ap (λ o. then o (λ found. then (file_all k bs found.rows) (with_number found.number))) (file_found k rows shape n h.0)
    ∙ ap (λ o. then o (with_number n)) (file_named k bs rows numbers h.1)

-- filing leaves rows that have all blocks
pub record FiledAll (k : ℕ) (bs : List Block) (rows : List Row) (f : Filed) : Type 0 where
  pub added : List Row
  pub grows : f.rows ≡ rows ++ added
  pub names : Named f.rows bs f.numbers

pub then_some : {A B : Type 0} (o : Option A) (next : A → Option B) (b : B) → then o next ≡ Some b → (a : A) × (o ≡ Some a) × (next a ≡ Some b)
then_some None next b h = absurd (let z : ◌≡◌ {A = ℕ} 0 1 = cc in omega arith)
then_some (Some a) next b h = (a, refl, h)

pub file_all_grows : (k : ℕ) (bs : List Block) (rows : List Row) (f : Filed) → file_all k bs rows ≡ Some f → FiledAll k bs rows f
unfolding file_all
file_all_grows k [] rows f h =
    let e : record { numbers = []; rows = rows } ≡ f = cc in
    subst (λ g. FiledAll k [] rows g) e (record { added = []; grows = sym (append-nil rows); names = tt })
file_all_grows k (one n ∷ bs) rows f h =
    let rest = then_some (file_all k bs rows) (with_number n) f h in
    let inner = file_all_grows k bs rows rest.0 rest.1 in
    let e : record { numbers = n ∷ rest.0.numbers; rows = rest.0.rows } ≡ f = let g = rest.2 in cc in
    subst (λ g. FiledAll k (one n ∷ bs) rows g) e (record { added = inner.added; grows = inner.grows; names = (refl, inner.names) })
file_all_grows k (new shape ∷ bs) rows f h =
    let first = then_some (file k rows shape) (λ found. then (file_all k bs found.rows) (with_number found.number)) f h in
    let found = first.0 in
    let rest = then_some (file_all k bs found.rows) (with_number found.number) f first.2 in
    let one_grown = file_grows k rows shape found first.1 in
    let inner = file_all_grows k bs found.rows rest.0 rest.1 in
    let e : record { numbers = found.number ∷ rest.0.numbers; rows = rest.0.rows } ≡ f = let g = rest.2 in cc in
    let still = subst (λ rs. find rs shape ≡ Some found.number) (sym inner.grows) (find_append found.rows inner.added shape found.number one_grown.finds) in
    subst (λ g. FiledAll k (new shape ∷ bs) rows g) e
    (record {
      added = one_grown.added ++ inner.added;
      grows = inner.grows ∙ ap (λ rs. rs ++ inner.added) one_grown.grows ∙ append_assoc rows one_grown.added inner.added;
      names = (still, inner.names);
    })

-- the rounds stop at a string of at most one number, and go on at a longer one
pub rounds_stop : (most k : ℕ) (f : Filed) → length f.numbers < 2 → rounds_from most k f ≡ Some (settled f k)
unfolding rounds_from
rounds_stop zero k f few = refl
rounds_stop (suc most) k f few = cond-true (ltb (length f.numbers) 2) (Some (settled f k)) (then (round (k + 1) f) (rounds_from most (k + 1))) (lt-ltb (length f.numbers) 2 few)

pub rounds_go : (most k : ℕ) (f : Filed) → 2 ≤ length f.numbers → rounds_from (suc most) k f ≡ then (round (k + 1) f) (rounds_from most (k + 1))
unfolding rounds_from
rounds_go most k f many = cond-false (ltb (length f.numbers) 2) (Some (settled f k)) (then (round (k + 1) f) (rounds_from most (k + 1))) (le-ltb (length f.numbers) 2 many)

pub rounds_spent : (k : ℕ) (f : Filed) → rounds_from 0 k f ≡ Some (settled f k)
unfolding rounds_from
rounds_spent k f = refl

-- what was come to by the rounds: they stopped, or ran one and went on from what it left
pub rounds_step : (most k : ℕ) (f : Filed) (s : Settled) → rounds_from (suc most) k f ≡ Some s
    → ((length f.numbers < 2) × (settled f k ≡ s)) ⊎ ((2 ≤ length f.numbers) × (g : Filed) × (round (k + 1) f ≡ Some g) × (rounds_from most (k + 1) g ≡ Some s))
rounds_step most k f s h =
    elim (cases_lt (length f.numbers) 2) [
      | inl few ↦ inl (few, (let e = sym (rounds_stop (suc most) k f few) ∙ h in cc))
      | inr many ↦
          let next = then_some (round (k + 1) f) (rounds_from most (k + 1)) s (sym (rounds_go most k f many) ∙ h) in
          inr (many, next.0, next.1, next.2)
    ]

-- rounds only add rows
pub rounds_grow : (most k : ℕ) (f : Filed) (s : Settled) → rounds_from most k f ≡ Some s → (added : List Row) × (s.rows ≡ f.rows ++ added)
unfolding rounds_from
rounds_grow zero k f s h = let e : settled f k ≡ s = cc in ([], ap (λ g. g.rows) (sym e) ∙ sym (append-nil f.rows))
rounds_grow (suc most) k f s h =
    elim (rounds_step most k f s h) [
      | inl stopped ↦ ([], ap (λ g. g.rows) (sym stopped.1) ∙ sym (append-nil f.rows))
      | inr on ↦
          let this = file_all_grows (k + 1) (blocks (k + 1) f.numbers) f.rows on.1 on.2 in
          let rest = rounds_grow most (k + 1) on.1 s on.3 in
          (this.added ++ rest.0, rest.1 ∙ ap (λ rs. rs ++ rest.0) this.grows ∙ append_assoc f.rows this.added rest.0)
    ]

-- and on rows that find alike what those that they leave find, they run alike and add nothing
rounds_again : (most k : ℕ) (f : Filed) (s : Settled) (others : List Row) → FindsAlike s.rows others → rounds_from most k f ≡ Some s
    → rounds_from most k (record { numbers = f.numbers; rows = others }) ≡ Some (record { numbers = s.numbers; rows = others; rounds = s.rounds })
unfolding rounds_from
rounds_again zero k f s others alike h = let e : settled f k ≡ s = cc in ap (λ g. Some (record { numbers = g.numbers; rows = others; rounds = g.rounds })) e
rounds_again (suc most) k f s others alike h =
    let again : Filed = record { numbers = f.numbers; rows = others } in
    elim (rounds_step most k f s h) [
      | inl stopped ↦ rounds_stop (suc most) k again stopped.0 ∙ ap (λ g. Some (record { numbers = g.numbers; rows = others; rounds = g.rounds })) stopped.1
      | inr on ↦
          let g = on.1 in
          let bs = blocks (k + 1) f.numbers in
          let rest = rounds_grow most (k + 1) g s on.3 in
          let still = named_append g.rows rest.0 bs g.numbers (file_all_grows (k + 1) bs f.rows g on.2).names in
          let names = named_alike s.rows others alike bs g.numbers (subst (λ rs. Named rs bs g.numbers) (sym rest.1) still) in
          rounds_go most k again on.0 ∙ ap (λ o. then o (rounds_from most (k + 1))) (file_named (k + 1) bs others g.numbers names)
          ∙ rounds_again most (k + 1) g s others alike on.3
    ]

-- no round leaves the leaves
pub after_none : (rows : List Row) (codes : List ℕ) → after_rounds 0 rows codes ≡ leaves rows codes
unfolding after_rounds rounds_run
after_none rows codes = go (leaves rows codes)
  where
    go : (o : Option Filed) → then o (rounds_run 0) ≡ o
    go None = refl
    go (Some f) = refl

-- and one round more is run on what was left
pub after_next : (j : ℕ) (rows : List Row) (codes : List ℕ) → after_rounds (suc j) rows codes ≡ then (after_rounds j rows codes) (round (suc j))
unfolding after_rounds rounds_run
after_next j rows codes = go (leaves rows codes)
  where
    go : (o : Option Filed) → then o (rounds_run (suc j)) ≡ then (then o (rounds_run j)) (round (suc j))
    go None = refl
    go (Some f) = refl

pub run_more : (k : ℕ) (f g h : Filed) → rounds_run k f ≡ Some g → round (k + 1) g ≡ Some h → rounds_run (k + 1) f ≡ Some h
unfolding rounds_run
run_more k f g h so_far next =
    let e : suc k ≡ k + 1 = omega arith in
    ap (λ i. rounds_run i f) (sym e) ∙ ap (λ o. then o (round (suc k))) so_far ∙ ap (λ i. round i g) e ∙ next

-- rounds that go on after k rounds are rounds on end
rounds_on_end : (most k : ℕ) (f g : Filed) (s : Settled) → rounds_run k f ≡ Some g → rounds_from most k g ≡ Some s
    → rounds_run s.rounds f ≡ Some (record { numbers = s.numbers; rows = s.rows })
unfolding rounds_from
rounds_on_end zero k f g s so_far h =
    let e : settled g k ≡ s = cc in
    subst (λ t. rounds_run t.rounds f ≡ Some (record { numbers = t.numbers; rows = t.rows })) e so_far
rounds_on_end (suc most) k f g s so_far h =
    elim (rounds_step most k g s h) [
      | inl stopped ↦ subst (λ t. rounds_run t.rounds f ≡ Some (record { numbers = t.numbers; rows = t.rows })) stopped.1 so_far
      | inr on ↦ rounds_on_end most (k + 1) f on.1 s (run_more k f g on.1 so_far on.2) on.3
    ]

-- settling files the leaves, and then runs rounds
pub settle_parts : (rows : List Row) (codes : List ℕ) (s : Settled) → settle rows codes ≡ Some s
    → (f : Filed) × (leaves rows codes ≡ Some f) × (rounds_from (enough_rounds (length codes)) 0 f ≡ Some s)
unfolding settle
settle_parts rows codes s h = then_some (leaves rows codes) (rounds_from (enough_rounds (length codes)) 0) s h

-- settling is a number of rounds on end
pub settles_by_rounds : (rows : List Row) (codes : List ℕ) (s : Settled) → settle rows codes ≡ Some s → after_rounds s.rounds rows codes ≡ Some (record { numbers = s.numbers; rows = s.rows })
unfolding after_rounds rounds_run
settles_by_rounds rows codes s h =
    let parts = settle_parts rows codes s h in
    ap (λ o. then o (rounds_run s.rounds)) parts.1 ∙ rounds_on_end (enough_rounds (length codes)) 0 parts.0 parts.0 s refl parts.2

pub settle_grows : (rows : List Row) (codes : List ℕ) (s : Settled) → settle rows codes ≡ Some s → (added : List Row) × (s.rows ≡ rows ++ added)
settle_grows rows codes s h =
    let parts = settle_parts rows codes s h in
    let first = file_all_grows 0 (map leaf_block codes) rows parts.0 parts.1 in
    let rest = rounds_grow (enough_rounds (length codes)) 0 parts.0 s parts.2 in
    (first.added ++ rest.0, rest.1 ∙ ap (λ rs. rs ++ rest.0) first.grows ∙ append_assoc rows first.added rest.0)

-- a strip that was settled settles alike on rows that find alike what those that it left find
pub settle_again : (rows : List Row) (codes : List ℕ) (s : Settled) (others : List Row) → FindsAlike s.rows others → settle rows codes ≡ Some s
    → settle others codes ≡ Some (record { numbers = s.numbers; rows = others; rounds = s.rounds })
unfolding settle
settle_again rows codes s others alike h =
    let parts = settle_parts rows codes s h in
    let f = parts.0 in
    let bs = map leaf_block codes in
    let rest = rounds_grow (enough_rounds (length codes)) 0 f s parts.2 in
    let still = named_append f.rows rest.0 bs f.numbers (file_all_grows 0 bs rows f parts.1).names in
    let names = named_alike s.rows others alike bs f.numbers (subst (λ rs. Named rs bs f.numbers) (sym rest.1) still) in
    ap (λ o. then o (rounds_from (enough_rounds (length codes)) 0)) (file_named 0 bs others f.numbers names)
    ∙ rounds_again (enough_rounds (length codes)) 0 f s others alike parts.2

-- as on those rows with any rows after them
pub settle_replay : (rows : List Row) (codes : List ℕ) (s : Settled) (more : List Row) → settle rows codes ≡ Some s
    → settle (s.rows ++ more) codes ≡ Some (record { numbers = s.numbers; rows = s.rows ++ more; rounds = s.rounds })
settle_replay rows codes s more h = settle_again rows codes s (s.rows ++ more) (find_append s.rows more) h
