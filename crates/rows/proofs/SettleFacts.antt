-- Every row that settling adds keeps the shelf's properties, and a settled strip is the strip of its
-- number. Assumes nothing.
use Rattle.std.proofs.Common.{◌≡◌, ℕ, zero, suc, ◌+◌, ◌*◌, ◌<◌, ◌≤◌, true, ◌&&◌, ltb, leb, ◌⊎◌, List, [], ◌∷◌, ◌++◌, map, length, take, replicate, Some, None, sym, refl, ap, ◌∙◌, subst, inl, inr, arith, length-append}
use lib.ListN.{length-map}
use Rattle.std.proofs.lemmas.List.{append-nil, append_assoc, length_push, take_all, length-replicate}
use Rattle.std.proofs.lemmas.Bool.{cases_eq, cases_lt, and_from, lt-ltb, le-leb}
use Rattle.std.specs.List.{AllByRecursion}
use Rattle.rows.specs.declared.Shape.{Shape}
use Rattle.rows.specs.declared.Shape.TheVariants.{Leaf, Pair, Repeat}
use Rattle.rows.specs.declared.Row.{Row}
use Rattle.rows.specs.Blocks.{symbols, spelled, InRound}
use Rattle.rows.specs.Filing.{find, row_of, shape_length, row_made, file}
use Rattle.rows.specs.Laws.{AllInUse, after_rounds}
use Rattle.rows.specs.Lawful.{parts_below, lawful_row, Lawful}
use Rattle.rows.specs.Rounds.{Block, one, new, blocks, Filed, then, with_number, file_all, round, Settled, settled, rounds_from, leaf_block, enough_rounds, settle, number_left}
use Rattle.rows.specs.Strips.{times, strip, expanded}
use Rattle.rows.proofs.FilingFacts.{find_added, file_grows}
use Rattle.rows.proofs.KeepFacts.{shape_expanded, comes_keeps, leaves_keep, leaves_known, leaves_split}
use Rattle.rows.proofs.LawfulFacts.{RowLawful, test_from_row, row_lawful_append, row_lawful, lawful_parts}
use Rattle.rows.proofs.NamingFacts.{Named, named_append, length_named, file_named, file_all_grows, then_some, rounds_step, after_none, after_next, settle_parts, settles_by_rounds, settle_grows}
use Rattle.rows.proofs.Parsing.{spelled_append, spelled_blocks, blocks_part, block_kinds}
use Rattle.rows.proofs.RoundFacts.{Comes, comes_append, comes_known, comes_settle, fragment_comes, rounds_few, comes_shorter}
use Rattle.rows.proofs.StripFacts.{Parts, shape_strip, strip_added, written_strip, shape_strip_append, row_added, row_append, strip_none, expanded_one}

-- a lawful row added after lawful rows
lawful_one_more : (rows : List Row) (row : Row) → Lawful rows → length rows < 1024 → RowLawful (rows ++ (row ∷ [])) (length rows + 1) → Lawful (rows ++ (row ∷ []))
lawful_one_more rows row law room new_row = (
  omega (arith, length_push rows row),
  λ k within.
      elim (cases_eq k (length rows)) [
        | inl last ↦
            let e : length rows + 1 ≡ k + 1 = omega arith in
            subst (λ n. lawful_row (rows ++ (row ∷ [])) n ≡ true) e (test_from_row (rows ++ (row ∷ [])) (length rows + 1) (omega (arith, length_push rows row)) new_row)
        | inr earlier ↦
            let old : k + 1 ≤ length rows = omega (arith, length_push rows row) in
            test_from_row (rows ++ (row ∷ [])) (k + 1) (omega (arith, length_push rows row)) (row_lawful_append rows (row ∷ []) (k + 1) old (row_lawful rows law (k + 1) (omega arith) old))
      ],
)

-- the parts of rows with one more
pub parts_one_more : (rows : List Row) (row : Row) → Parts rows → parts_below (length rows + 1) row.shape ≡ true → Parts (rows ++ (row ∷ []))
parts_one_more rows row parts new_parts n some within =
    elim (cases_eq n (length rows + 1)) [
      | inl last ↦
          subst (λ k. parts_below k (row_of (rows ++ (row ∷ [])) k).shape ≡ true) (sym last)
          (subst (λ r. parts_below (length rows + 1) r.shape ≡ true) (sym (row_added rows row)) new_parts)
      | inr earlier ↦
          let old : n ≤ length rows = omega (arith, length_push rows row) in
          subst (λ r. parts_below n r.shape ≡ true) (sym (row_append rows (row ∷ []) n old)) (parts n some old)
    ]

-- the length that a new row keeps
length_times : {A : Type 0} (m : ℕ) (xs : List A) → length (times m xs) ≡ length xs * m
length_times zero xs = omega arith
length_times (suc m) xs = length-append xs (times m xs) ∙ (let ih = length_times m xs in omega arith)

known_length : (rows : List Row) → Lawful rows → (n : ℕ) → 0 < n → n ≤ length rows → (row_of rows n).length ≡ length (strip rows n)
known_length rows law n some within = (row_lawful rows law n some within).long

shape_long : (rows : List Row) (k : ℕ) (shape : Shape) → Lawful rows → InRound k (new shape) → AllInUse rows (symbols (new shape)) → length (shape_strip rows shape) ≤ 65535
    → shape_length rows shape ≡ length (shape_strip rows shape)
shape_long rows k (Leaf code) law kind known short = absurd kind
shape_long rows k (Pair left right) law kind known short =
    let l = known_length rows law left known.0.0 known.0.1 in
    let r = known_length rows law right known.1.0.0 known.1.0.1 in
    let sum = length-append (strip rows left) (strip rows right) in
    omega arith
shape_long rows k (Repeat part count) law kind known short =
    let is = first_known count (omega (arith, kind.1)) known in
    let p = known_length rows law part is.0 is.1 in
    let product = length_times count (strip rows part) in
    let same : (row_of rows part).length * count ≡ length (strip rows part) * count = ap (λ n. n * count) p in
    omega arith
  where
    first_known : (m : ℕ) → 0 < m → AllInUse rows (replicate m part) → (0 < part) × (part ≤ length rows)
    first_known zero some all = absurd (omega arith)
    first_known (suc m) some all = all.0

-- the parts of a shape that a round makes are known
pub shape_parts : (rows : List Row) (k : ℕ) (shape : Shape) → InRound k (new shape) → AllInUse rows (symbols (new shape)) → parts_below (length rows + 1) shape ≡ true
shape_parts rows k (Leaf code) kind known = refl
shape_parts rows k (Pair left right) kind known =
    let n = length rows + 1 in
    and_from (ltb 0 left && ltb left n) (ltb 0 right && ltb right n)
    (and_from (ltb 0 left) (ltb left n) (lt-ltb 0 left known.0.0) (lt-ltb left n (omega (arith, known.0.1))))
    (and_from (ltb 0 right) (ltb right n) (lt-ltb 0 right known.1.0.0) (lt-ltb right n (omega (arith, known.1.0.1))))
shape_parts rows k (Repeat part count) kind known =
    let n = length rows + 1 in
    let is = first_known count (omega (arith, kind.1)) known in
    and_from (ltb 0 part && ltb part n) (leb 2 count) (and_from (ltb 0 part) (ltb part n) (lt-ltb 0 part is.0) (lt-ltb part n (omega (arith, is.1)))) (le-leb 2 count kind.1)
  where
    first_known : (m : ℕ) → 0 < m → AllInUse rows (replicate m part) → (0 < part) × (part ≤ length rows)
    first_known zero some all = absurd (omega arith)
    first_known (suc m) some all = all.0

shape_two : (k : ℕ) (shape : Shape) → InRound k (new shape) → 2 ≤ length (symbols (new shape))
shape_two k (Leaf code) kind = absurd kind
shape_two k (Pair left right) kind = omega arith
shape_two k (Repeat part count) kind = omega (arith, length-replicate count part, kind.1)

pub known_append : (rows more : List Row) (numbers : List ℕ) → AllInUse rows numbers → AllInUse (rows ++ more) numbers
known_append rows more [] known = tt
known_append rows more (n ∷ numbers) known = ((known.0.0, omega (arith, known.0.1, length-append rows more)), known_append rows more numbers known.1)

-- a shape whose symbols come from a part of the codes in j rounds may be added in the next round
module _ (rows : List Row) (law : Lawful rows) (j : ℕ) (shape : Shape) (kind : InRound (suc j) (new shape)) (single : blocks (suc j) (symbols (new shape)) ≡ new shape ∷ [])
    (absent : find rows shape ≡ None) (room : length rows < 1024)
    (codes source : List ℕ) (short : length codes ≤ 65535) (leaf_names : Named rows (map leaf_block codes) source) (history : Comes rows j source (symbols (new shape))) where
  row : Row
  row = row_made (suc j) rows shape

  grown : List Row
  grown = rows ++ (row ∷ [])

  number : ℕ
  number = length rows + 1

  known : AllInUse rows (symbols (new shape))
  known = comes_known rows j source (symbols (new shape)) (leaves_known rows codes source leaf_names) history

  parts : parts_below number shape ≡ true
  unfolding number
  parts = shape_parts rows (suc j) shape kind known

  all_parts : Parts grown
  unfolding grown row number
  all_parts = parts_one_more rows row (lawful_parts rows law) parts

  finds : find grown shape ≡ Some number
  unfolding grown row number
  finds = find_added rows row absent

  -- the new row's strip is the part of the codes
  strip_is : strip grown number ≡ codes
  unfolding grown row number
  strip_is =
      strip_added rows row ∙ written_strip rows shape ∙ sym (shape_strip_append rows (row ∷ []) shape parts)
      ∙ shape_expanded grown (suc j) shape kind
      ∙ comes_keeps grown all_parts j source (symbols (new shape)) (comes_append rows (row ∷ []) j source (symbols (new shape)) history)
      ∙ leaves_keep grown all_parts codes source (named_append rows (row ∷ []) (map leaf_block codes) source leaf_names)

  -- and keeps its length
  length_is : row.length ≡ length (strip grown number)
  unfolding row grown number
  length_is =
      let written : strip grown number ≡ shape_strip rows shape = strip_added rows row ∙ written_strip rows shape in
      let fits : length (shape_strip rows shape) ≤ 65535 = subst (λ xs. length xs ≤ 65535) (sym strip_is ∙ written) short in
      shape_long rows (suc j) shape law kind known fits ∙ ap length (sym written)

  -- the rounds on its strip come to it
  comes_back : settle grown codes ≡ Some (record { numbers = number ∷ []; rows = grown; rounds = suc j })
  unfolding settle grown number row
  comes_back =
      let names = named_append rows (row ∷ []) (map leaf_block codes) source leaf_names in
      let more_history = comes_append rows (row ∷ []) j source (symbols (new shape)) history in
      let two = shape_two (suc j) shape kind in
      let last : Named grown (blocks (suc j) (symbols (new shape))) (number ∷ []) = subst (λ bs. Named grown bs (number ∷ [])) (sym single) (finds, tt) in
      let as_many : length source ≡ length codes = length_named rows (map leaf_block codes) source leaf_names ∙ length-map codes leaf_block in
      let few = rounds_few grown (suc j) j source (symbols (new shape)) (omega (arith, length_push rows row))
      (known_append rows (row ∷ []) source (leaves_known rows codes source leaf_names)) more_history two (omega arith) in
      let within = comes_shorter rows j source (symbols (new shape)) history in
      ap (λ o. then o (rounds_from (enough_rounds (length codes)) 0)) (file_named 0 (map leaf_block codes) grown source names)
      ∙ comes_settle grown j (enough_rounds (length codes)) source (symbols (new shape)) number more_history two last (omega arith)

  pub shape_lawful : Lawful (rows ++ (row_made (suc j) rows shape ∷ []))
  unfolding row grown number
  shape_lawful =
      let is = row_added rows row in
      let whole : take number grown ≡ grown = take_all number grown (omega (arith, length_push rows row)) in
      lawful_one_more rows row law room (record {
        parts = subst (λ r. parts_below number r.shape ≡ true) (sym is) parts;
        found = subst (λ r. find grown r.shape ≡ Some number) (sym is) finds;
        long = ap (λ r. r.length) is ∙ length_is;
        short = subst (λ xs. length xs ≤ 65535) (sym strip_is) short;
        comes = ap (λ rs. settle rs (strip grown number)) whole ∙ ap (settle grown) strip_is ∙ comes_back
            ∙ ap (λ rs. Some (record { numbers = number ∷ []; rows = rs; rounds = suc j })) (sym whole)
            ∙ ap (λ r. Some (record { numbers = number ∷ []; rows = take number grown; rounds = r.round })) (sym is);
      })

-- a leaf may always be added
leaf_lawful : (rows : List Row) (code : ℕ) → Lawful rows → find rows (Leaf code) ≡ None → length rows < 1024 → Lawful (rows ++ (row_made 0 rows (Leaf code) ∷ []))
unfolding settle rounds_from
leaf_lawful rows code law absent room =
    let row = row_made 0 rows (Leaf code) in
    let grown = rows ++ (row ∷ []) in
    let number = length rows + 1 in
    let is = row_added rows row in
    let strip_is : strip grown number ≡ code ∷ [] = strip_added rows row in
    let whole : take number grown ≡ grown = take_all number grown (omega (arith, length_push rows row)) in
    let finds = find_added rows row absent in
    let comes_back : settle grown (code ∷ []) ≡ Some (record { numbers = number ∷ []; rows = grown; rounds = 0 }) =
    ap (λ o. then o (rounds_from (enough_rounds 1) 0)) (file_named 0 (leaf_block code ∷ []) grown (number ∷ []) (finds, tt)) in
    lawful_one_more rows row law room (record {
      parts = subst (λ r. parts_below number r.shape ≡ true) (sym is) refl;
      found = subst (λ r. find grown r.shape ≡ Some number) (sym is) finds;
      long = ap (λ r. r.length) is ∙ ap length (sym strip_is);
      short = subst (λ xs. length xs ≤ 65535) (sym strip_is) (omega arith);
      comes = ap (λ rs. settle rs (strip grown number)) whole ∙ ap (settle grown) strip_is ∙ comes_back
          ∙ ap (λ rs. Some (record { numbers = number ∷ []; rows = rs; rounds = 0 })) (sym whole)
          ∙ ap (λ r. Some (record { numbers = number ∷ []; rows = take number grown; rounds = r.round })) (sym is);
    })

-- filing keeps a property of the rows, where each new shape may be added
module _ (P : List Row → Type 0) where
  abbrev pub Addable : ℕ → List Row → Block → Type 0
  Addable k rows (one n) = Unit {0}
  Addable k rows (new shape) = (more : List Row) → P (rows ++ more) → find (rows ++ more) shape ≡ None → length (rows ++ more) < 1024 → P ((rows ++ more) ++ (row_made k (rows ++ more) shape ∷ []))

  filing_on : (k : ℕ) (rows more : List Row) (bs : List Block) (f : Filed) → AllByRecursion (Addable k rows) bs → P (rows ++ more) → file_all k bs (rows ++ more) ≡ Some f → P f.rows
  unfolding file_all
  filing_on k rows more [] f addable holds h = let e : record { numbers = []; rows = rows ++ more } ≡ f = cc in subst (λ g. P g.rows) e holds
  filing_on k rows more (one n ∷ bs) f addable holds h =
      let rest = then_some (file_all k bs (rows ++ more)) (with_number n) f h in
      let e : record { numbers = n ∷ rest.0.numbers; rows = rest.0.rows } ≡ f = let g = rest.2 in cc in
      subst (λ g. P g.rows) e (filing_on k rows more bs rest.0 addable.1 holds rest.1)
  filing_on k rows more (new shape ∷ bs) f addable holds h =
      let first = then_some (file k (rows ++ more) shape) (λ found. then (file_all k bs found.rows) (with_number found.number)) f h in
      let found = first.0 in
      let rest = then_some (file_all k bs found.rows) (with_number found.number) f first.2 in
      let e : record { numbers = found.number ∷ rest.0.numbers; rows = rest.0.rows } ≡ f = let g = rest.2 in cc in
      let grows = file_grows k (rows ++ more) shape found first.1 in
      let regroup : found.rows ≡ rows ++ (more ++ grows.added) = grows.grows ∙ append_assoc rows more grows.added in
      let still : P (rows ++ (more ++ grows.added)) =
      subst P (append_assoc rows more grows.added)
      (elim grows.cases [
        | inl old ↦ subst (λ rs. P ((rows ++ more) ++ rs)) (sym old.0) (subst P (sym (append-nil (rows ++ more))) holds)
        | inr made ↦ subst (λ rs. P ((rows ++ more) ++ rs)) (sym made.0) (addable.0 more holds made.1 made.2)
      ]) in
      subst (λ g. P g.rows) e (filing_on k rows (more ++ grows.added) bs rest.0 addable.1 still (subst (λ rs. file_all k bs rs ≡ Some rest.0) regroup rest.1))

  pub filing_keeps : (k : ℕ) (rows : List Row) (bs : List Block) (f : Filed) → AllByRecursion (Addable k rows) bs → P rows → file_all k bs rows ≡ Some f → P f.rows
  filing_keeps k rows bs f addable holds h =
      let none = append-nil rows in
      filing_on k rows [] bs f addable (subst P (sym none) holds) (ap (file_all k bs) none ∙ h)

-- leaves keep rows lawful
leaves_addable : (rows : List Row) (codes : List ℕ) → AllByRecursion (Addable Lawful 0 rows) (map leaf_block codes)
leaves_addable rows [] = tt
leaves_addable rows (c ∷ codes) = (λ more law absent room. leaf_lawful (rows ++ more) c law absent room, leaves_addable rows codes)

-- the blocks of a round on a string that came from leaves may be added
module _ (rows : List Row) (codes source : List ℕ) (short : length codes ≤ 65535) (leaf_names : Named rows (map leaf_block codes) source) (j : ℕ) (u : List ℕ) (history : Comes rows j source u) where
  block_addable : (before : List Block) (b : Block) (after : List Block) → blocks (suc j) u ≡ before ++ (b ∷ after) → InRound (suc j) b → Addable Lawful (suc j) rows b
  block_addable before (one n) after parsed kind = tt
  block_addable before (new shape) after parsed kind = λ more law absent room.
      let single = blocks_part (suc j) u before (new shape ∷ []) after parsed in
      let single_s : blocks (suc j) (symbols (new shape)) ≡ new shape ∷ [] = ap (blocks (suc j)) (sym (append-nil (symbols (new shape)))) ∙ single in
      let u_parts : u ≡ spelled before ++ (symbols (new shape) ++ spelled after) = sym (spelled_blocks (suc j) u) ∙ ap spelled parsed ∙ spelled_append before (new shape ∷ after) in
      let part = fragment_comes rows j source (spelled before) (symbols (new shape)) (spelled after) (subst (λ xs. Comes rows j source xs) u_parts history) in
      let front = leaves_split rows codes part.before (part.source ++ part.after) (subst (λ xs. Named rows (map leaf_block codes) xs) part.whole leaf_names) in
      let back = leaves_split rows front.1 part.source part.after front.4 in
      let inside : length back.0 ≤ 65535 = omega (arith, ap length front.2, length-append front.0 front.1, ap length back.2, length-append back.0 back.1) in
      shape_lawful (rows ++ more) law j shape kind single_s absent room back.0 part.source inside
      (named_append rows more (map leaf_block back.0) part.source back.3) (comes_append rows more j part.source (symbols (new shape)) part.comes)

  all_addable : (before bs : List Block) → blocks (suc j) u ≡ before ++ bs → AllByRecursion (InRound (suc j)) bs → AllByRecursion (Addable Lawful (suc j) rows) bs
  all_addable before [] parsed kinds = tt
  all_addable before (b ∷ bs) parsed kinds =
      (block_addable before b bs parsed kinds.0, all_addable (before ++ (b ∷ [])) bs (parsed ∙ sym (append_assoc before (b ∷ []) bs)) kinds.1)

  round_addable : AllByRecursion (Addable Lawful (suc j) rows) (blocks (suc j) u)
  round_addable = all_addable [] (blocks (suc j) u) refl (block_kinds (suc j) u)

-- what stands after j rounds: lawful rows, and a string that j rounds made of the leaves of the codes
pub record Standing (j : ℕ) (codes : List ℕ) (f : Filed) : Type 0 where
  pub lawful : Lawful f.rows
  pub source : List ℕ
  pub names : Named f.rows (map leaf_block codes) source
  pub history : Comes f.rows j source f.numbers

pub after_stands : (j : ℕ) (rows : List Row) (codes : List ℕ) (f : Filed) → Lawful rows → length codes ≤ 65535 → after_rounds j rows codes ≡ Some f → Standing j codes f
after_stands zero rows codes f law short h =
    let filed = sym (after_none rows codes) ∙ h in
    record {
      lawful = filing_keeps Lawful 0 rows (map leaf_block codes) f (leaves_addable rows codes) law filed;
      source = f.numbers;
      names = (file_all_grows 0 (map leaf_block codes) rows f filed).names;
      history = refl;
    }
after_stands (suc j) rows codes f law short h =
    let last = then_some (after_rounds j rows codes) (round (suc j)) f (sym (after_next j rows codes) ∙ h) in
    let g = last.0 in
    let before = after_stands j rows codes g law short last.1 in
    let this = file_all_grows (suc j) (blocks (suc j) g.numbers) g.rows f last.2 in
    record {
      lawful = filing_keeps Lawful (suc j) g.rows (blocks (suc j) g.numbers) f (round_addable g.rows codes before.source short before.names j g.numbers before.history) before.lawful last.2;
      source = before.source;
      names = subst (λ rs. Named rs (map leaf_block codes) before.source) (sym this.grows) (named_append g.rows this.added (map leaf_block codes) before.source before.names);
      history = (g.numbers, subst (λ rs. Comes rs j before.source g.numbers) (sym this.grows) (comes_append g.rows this.added j before.source g.numbers before.history), this.names);
    }

-- what settling a strip on lawful rows gives
pub record Settles (rows : List Row) (codes : List ℕ) (s : Settled) : Type 0 where
  pub lawful : Lawful s.rows
  pub added : List Row
  pub grows : s.rows ≡ rows ++ added
  pub left : length s.numbers ≤ 1
  pub known : AllInUse s.rows s.numbers
  pub strips : expanded s.rows s.numbers ≡ codes
  pub source : List ℕ
  pub names : Named s.rows (map leaf_block codes) source
  pub history : Comes s.rows s.rounds source s.numbers

-- how many rounds were run: not all that were allowed, unless at most one number is left
rounds_used : (most k : ℕ) (f : Filed) (s : Settled) → rounds_from most k f ≡ Some s → (length s.numbers < 2) ⊎ (s.rounds ≡ k + most)
unfolding rounds_from
rounds_used zero k f s h = let e : settled f k ≡ s = cc in inr (sym (ap (λ g. g.rounds) e) ∙ (let z : k ≡ k + 0 = omega arith in z))
rounds_used (suc most) k f s h =
    elim (rounds_step most k f s h) [
      | inl stopped ↦ inl (subst (λ g. length g.numbers < 2) stopped.1 stopped.0)
      | inr on ↦ elim (rounds_used most (k + 1) on.1 s on.3) [ inl few ↦ inl few | inr all ↦ inr (all ∙ (let z : k + 1 + most ≡ k + suc most = omega arith in z)) ]
    ]

pub settles : (rows : List Row) (codes : List ℕ) (s : Settled) → Lawful rows → length codes ≤ 65535 → settle rows codes ≡ Some s → Settles rows codes s
settles rows codes s law short h =
    let pieces = settle_parts rows codes s h in
    let is = after_stands s.rounds rows codes (record { numbers = s.numbers; rows = s.rows }) law short (settles_by_rounds rows codes s h) in
    let source_known = leaves_known s.rows codes is.source is.names in
    let all_parts = lawful_parts s.rows is.lawful in
    let grown = settle_grows rows codes s h in
    record {
      lawful = is.lawful;
      added = grown.0;
      grows = grown.1;
      left = at_most_one is.source (rounds_used (enough_rounds (length codes)) 0 pieces.0 s pieces.2) (length_named s.rows (map leaf_block codes) is.source is.names ∙ length-map codes leaf_block) source_known is.history is.lawful.0;
      known = comes_known s.rows s.rounds is.source s.numbers source_known is.history;
      strips = comes_keeps s.rows all_parts s.rounds is.source s.numbers is.history ∙ leaves_keep s.rows all_parts codes is.source is.names;
      source = is.source;
      names = is.names;
      history = is.history;
    }
  where
    at_most_one : (source : List ℕ) → (length s.numbers < 2) ⊎ (s.rounds ≡ 0 + enough_rounds (length codes)) → length source ≡ length codes → AllInUse s.rows source
        → Comes s.rows s.rounds source s.numbers → length s.rows ≤ 1024 → length s.numbers ≤ 1
    at_most_one source (inl few) as_many numbers_known history rows_few = omega arith
    at_most_one source (inr all) as_many numbers_known history rows_few =
        elim (cases_lt (length s.numbers) 2) [
          | inl few ↦ omega arith
          | inr many ↦
              let few_rounds = rounds_few s.rows (suc s.rounds) s.rounds source s.numbers rows_few numbers_known history many (omega arith) in
              let within = comes_shorter s.rows s.rounds source s.numbers history in
              absurd (omega arith)
        ]

-- the strip of the number that a strip comes to is that strip
pub strip_settled : (rows : List Row) (codes : List ℕ) (s : Settled) → Settles rows codes s → strip s.rows (number_left s.numbers) ≡ codes
strip_settled rows codes s is = go s.numbers is.left is.strips
  where
    go : (numbers : List ℕ) → length numbers ≤ 1 → expanded s.rows numbers ≡ codes → strip s.rows (number_left numbers) ≡ codes
    go [] few same = strip_none s.rows ∙ same
    go (n ∷ []) few same = sym (expanded_one s.rows n) ∙ same
    go (n ∷ (m ∷ numbers)) few same = absurd (omega arith)
