-- Rounds as a relation: what so many rounds make of a string on rows that have all blocks; fragments of
-- strings, and how many rounds there can be. Assumes nothing.
use Rattle.std.proofs.Common.{◌≡◌, ℕ, Option, zero, suc, ◌+◌, ◌-◌, ◌*◌, ◌<◌, ◌≤◌, List, [], ◌∷◌, ◌++◌, map, length, Some, sym, refl, ap, ◌∙◌, subst, inl, inr, arith}
use Rattle.std.proofs.lemmas.Bool.{cases_lt, cases_eq}
use Rattle.std.specs.List.{AllByRecursion}
use Rattle.rows.specs.declared.Row.{Row}
use Rattle.rows.specs.Blocks.{symbols, spelled}
use Rattle.rows.specs.Laws.{AllInUse, after_rounds}
use Rattle.rows.specs.Rounds.{Block, one, new, blocks, Filed, then, round, Settled, settled, rounds_from, leaf_block}
use Rattle.rows.proofs.Ends.{blocks_shorter, blocks_unshortened, some_round_shortens}
use Rattle.rows.proofs.FilingFacts.{find_known}
use Rattle.rows.proofs.NamingFacts.{Named, named_append, length_named, named_ones, part_named, file_named, file_all_grows, rounds_stop, rounds_go, rounds_spent, rounds_step, after_none, after_next}
use Rattle.rows.proofs.Parsing.{spelled_append, spelled_blocks, blocks_part}

-- j rounds make t of s on these rows, and add nothing
abbrev pub Comes : List Row → ℕ → List ℕ → List ℕ → Type 0
Comes rows zero s t = s ≡ t
Comes rows (suc j) s t = (u : List ℕ) × Comes rows j s u × Named rows (blocks (suc j) u) t

pub comes_append : (rows more : List Row) (j : ℕ) (s t : List ℕ) → Comes rows j s t → Comes (rows ++ more) j s t
comes_append rows more zero s t c = c
comes_append rows more (suc j) s t c = (c.0, comes_append rows more j s c.0 c.1, named_append rows more (blocks (suc j) c.0) t c.2)

round_shorter : (rows : List Row) (k : ℕ) (u t : List ℕ) → Named rows (blocks k u) t → length t ≤ length u
round_shorter rows k u t named = omega (arith, length_named rows (blocks k u) t named, blocks_shorter k u)

pub comes_shorter : (rows : List Row) (j : ℕ) (s t : List ℕ) → Comes rows j s t → length t ≤ length s
comes_shorter rows zero s t c = omega (arith, ap length c)
comes_shorter rows (suc j) s t c = omega (arith, comes_shorter rows j s c.0 c.1, round_shorter rows (suc j) c.0 t c.2)

-- rounds that were run are such rounds
pub rounds_come : (most k : ℕ) (f : Filed) (s : Settled) (start : List ℕ) → rounds_from most k f ≡ Some s → Comes f.rows k start f.numbers → Comes s.rows s.rounds start s.numbers
unfolding rounds_from
rounds_come zero k f s start h so_far = let e : settled f k ≡ s = cc in subst (λ g. Comes g.rows g.rounds start g.numbers) e so_far
rounds_come (suc most) k f s start h so_far =
    elim (rounds_step most k f s h) [
      | inl stopped ↦ subst (λ g. Comes g.rows g.rounds start g.numbers) stopped.1 so_far
      | inr on ↦
          let g = on.1 in
          let this = file_all_grows (k + 1) (blocks (k + 1) f.numbers) f.rows g on.2 in
          let grown = subst (λ rs. Comes rs k start f.numbers) (sym this.grows) (comes_append f.rows this.added k start f.numbers so_far) in
          rounds_come most (k + 1) g s start on.3 (one_more k f.numbers g grown this.names)
    ]
  where
    one_more : (j : ℕ) (u : List ℕ) (g : Filed) → Comes g.rows j start u → Named g.rows (blocks (j + 1) u) g.numbers → Comes g.rows (j + 1) start g.numbers
    one_more j u g before named =
        let e : suc j ≡ j + 1 = omega arith in
        subst (λ i. Comes g.rows i start g.numbers) e (u, before, subst (λ i. Named g.rows (blocks i u) g.numbers) (sym e) named)

-- such rounds are run on the leaves of a strip, on rows that have them
pub comes_after : (rows : List Row) (j : ℕ) (codes s t : List ℕ) → Named rows (map leaf_block codes) s → Comes rows j s t → after_rounds j rows codes ≡ Some (record { numbers = t; rows = rows })
comes_after rows zero codes s t names c = after_none rows codes ∙ file_named 0 (map leaf_block codes) rows s names ∙ ap (λ u. Some (record { numbers = u; rows = rows })) c
comes_after rows (suc j) codes s t names c =
    after_next j rows codes ∙ ap (λ o. then o (round (suc j))) (comes_after rows j codes s c.0 names c.1) ∙ file_named (suc j) (blocks (suc j) c.0) rows t c.2

-- one round of a string of two or more, on rows that have all its blocks
turn : (rows : List Row) (i most : ℕ) (u t : List ℕ) → 2 ≤ length u → Named rows (blocks (suc i) u) t
    → rounds_from (suc most) i (record { numbers = u; rows = rows }) ≡ rounds_from most (suc i) (record { numbers = t; rows = rows })
turn rows i most u t longer named =
    let f : Filed = record { numbers = u; rows = rows } in
    let e : i + 1 ≡ suc i = omega arith in
    rounds_go most i f longer
    ∙ ap (λ k. then (round k f) (rounds_from most k)) e
    ∙ ap (λ o. then o (rounds_from most (suc i))) (file_named (suc i) (blocks (suc i) u) rows t named)

-- and such rounds on a string of two or more are run
pub comes_run : (rows : List Row) (j most : ℕ) (s t : List ℕ) → Comes rows j s t → 2 ≤ length t
    → rounds_from (j + most) 0 (record { numbers = s; rows = rows }) ≡ rounds_from most j (record { numbers = t; rows = rows })
comes_run rows zero most s t c long =
    let e : zero + most ≡ most = omega arith in
    ap (λ n. rounds_from n 0 (record { numbers = s; rows = rows })) e ∙ ap (λ u. rounds_from most 0 (record { numbers = u; rows = rows })) c
comes_run rows (suc j) most s t c long =
    let e : suc j + most ≡ j + suc most = omega arith in
    let u = c.0 in
    let longer : 2 ≤ length u = omega (arith, round_shorter rows (suc j) u t c.2) in
    ap (λ n. rounds_from n 0 (record { numbers = s; rows = rows })) e ∙ comes_run rows j (suc most) s u c.1 longer ∙ turn rows j most u t longer c.2

-- a round that leaves one number ends them
pub comes_settle : (rows : List Row) (j most : ℕ) (s t : List ℕ) (n : ℕ) → Comes rows j s t → 2 ≤ length t → Named rows (blocks (suc j) t) (n ∷ []) → suc j ≤ most
    → rounds_from most 0 (record { numbers = s; rows = rows }) ≡ Some (record { numbers = n ∷ []; rows = rows; rounds = suc j })
comes_settle rows j most s t n c long named fits =
    let e : most ≡ j + suc (most - suc j) = omega arith in
    ap (λ m. rounds_from m 0 (record { numbers = s; rows = rows })) e ∙ comes_run rows j (suc (most - suc j)) s t c long
    ∙ turn rows j (most - suc j) t (n ∷ []) long named ∙ rounds_stop (most - suc j) (suc j) (record { numbers = n ∷ []; rows = rows }) (omega arith)

-- a fragment of the string after j rounds is what j rounds make of a fragment of the string before them
pub record FragmentOf (rows : List Row) (j : ℕ) (s part : List ℕ) : Type 0 where
  pub before : List ℕ
  pub source : List ℕ
  pub after : List ℕ
  pub whole : s ≡ before ++ (source ++ after)
  pub comes : Comes rows j source part

pub fragment_comes : (rows : List Row) (j : ℕ) (s before part after : List ℕ) → Comes rows j s (before ++ (part ++ after)) → FragmentOf rows j s part
fragment_comes rows zero s before part after c = record { before = before; source = part; after = after; whole = c; comes = refl }
fragment_comes rows (suc j) s before part after c =
    let u = c.0 in
    let cut = part_named rows (blocks (suc j) u) before part after c.2 in
    let u_parts : u ≡ spelled cut.front ++ (spelled cut.middle ++ spelled cut.back) =
    sym (spelled_blocks (suc j) u) ∙ ap spelled cut.joins_up ∙ spelled_append cut.front (cut.middle ++ cut.back) ∙ ap (λ xs. spelled cut.front ++ xs) (spelled_append cut.middle cut.back) in
    let inner = fragment_comes rows j s (spelled cut.front) (spelled cut.middle) (spelled cut.back) (subst (λ xs. Comes rows j s xs) u_parts c.1) in
    let parsed = blocks_part (suc j) u cut.front cut.middle cut.back cut.joins_up in
    record {
      before = inner.before;
      source = inner.source;
      after = inner.after;
      whole = inner.whole;
      comes = (spelled cut.middle, inner.comes, subst (λ bs. Named rows bs part) (sym parsed) cut.middle_named);
    }

pub all_split : (P : ℕ → Type 0) (a b : List ℕ) → AllByRecursion P (a ++ b) → AllByRecursion P a × AllByRecursion P b
all_split P [] b h = (tt, h)
all_split P (x ∷ a) b h = let rest = all_split P a b h.1 in ((h.0, rest.0), rest.1)

pub named_known : (rows : List Row) (bs : List Block) (numbers : List ℕ) → AllInUse rows (spelled bs) → Named rows bs numbers → AllInUse rows numbers
named_known rows [] [] known named = tt
named_known rows [] (n ∷ numbers) known named = absurd named
named_known rows (b ∷ bs) [] known named = absurd named
named_known rows (one m ∷ bs) (n ∷ numbers) known named =
    let e : m ≡ n = let f = named.0 in cc in
    (subst (λ i. (0 < i) × (i ≤ length rows)) e known.0, named_known rows bs numbers known.1 named.1)
named_known rows (new shape ∷ bs) (n ∷ numbers) known named =
    let is = find_known rows shape n named.0 in
    ((is.0, is.1), named_known rows bs numbers (all_split (λ i. (0 < i) × (i ≤ length rows)) (symbols (new shape)) (spelled bs) known).1 named.1)

pub round_known : (rows : List Row) (k : ℕ) (s t : List ℕ) → AllInUse rows s → Named rows (blocks k s) t → AllInUse rows t
round_known rows k s t known named = named_known rows (blocks k s) t (subst (λ xs. AllInUse rows xs) (sym (spelled_blocks k s)) known) named

pub comes_known : (rows : List Row) (j : ℕ) (s t : List ℕ) → AllInUse rows s → Comes rows j s t → AllInUse rows t
comes_known rows zero s t known c = subst (λ xs. AllInUse rows xs) c known
comes_known rows (suc j) s t known c = round_known rows (suc j) c.0 t (comes_known rows j s c.0 known c.1) c.2

-- no rounds make a string longer
rounds_shorter : (most k : ℕ) (f : Filed) (s : Settled) → rounds_from most k f ≡ Some s → length s.numbers ≤ length f.numbers
unfolding rounds_from
rounds_shorter zero k f s h = let e : settled f k ≡ s = cc in omega (arith, ap (λ g. length g.numbers) e)
rounds_shorter (suc most) k f s h =
    elim (rounds_step most k f s h) [
      | inl stopped ↦ omega (arith, ap (λ g. length g.numbers) stopped.1)
      | inr on ↦
          let this = file_all_grows (k + 1) (blocks (k + 1) f.numbers) f.rows on.1 on.2 in
          omega (arith, round_shorter on.1.rows (k + 1) f.numbers on.1.numbers this.names, rounds_shorter most (k + 1) on.1 s on.3)
    ]

-- a round that leaves a string as long as it was leaves it as it is
unchanged : (rows : List Row) (k : ℕ) (u t : List ℕ) → Named rows (blocks k u) t → length t ≡ length u → (t ≡ u) × (length (blocks k u) ≡ length u)
unchanged rows k u t named same =
    let long : length (blocks k u) ≡ length u = omega (arith, length_named rows (blocks k u) t named) in
    (named_ones rows u t (subst (λ bs. Named rows bs t) (blocks_unshortened k u long) named), long)

-- and so does each of the rounds that together leave it as long as it was
rounds_stay : (most k : ℕ) (f : Filed) (s : Settled) → 2 ≤ length f.numbers → rounds_from most k f ≡ Some s → length s.numbers ≡ length f.numbers
    → (h : ℕ) → h < most → length (blocks (k + 1 + h) f.numbers) ≡ length f.numbers
rounds_stay zero k f s two run same h below = absurd (omega arith)
rounds_stay (suc most) k f s two run same h below =
    elim (rounds_step most k f s run) [
      | inl stopped ↦ absurd (omega arith)
      | inr on ↦
          let g = on.1 in
          let this = file_all_grows (k + 1) (blocks (k + 1) f.numbers) f.rows g on.2 in
          let less = rounds_shorter most (k + 1) g s on.3 in
          let as_long : length g.numbers ≡ length f.numbers = omega (arith, round_shorter g.rows (k + 1) f.numbers g.numbers this.names) in
          let kept = unchanged g.rows (k + 1) f.numbers g.numbers this.names as_long in
          elim (cases_eq h 0) [
            | inl first ↦ let e : k + 1 ≡ k + 1 + h = omega arith in subst (λ i. length (blocks i f.numbers) ≡ length f.numbers) e kept.1
            | inr later ↦
                let e : k + 1 + 1 + (h - 1) ≡ k + 1 + h = omega arith in
                subst (λ i. length (blocks i f.numbers) ≡ length f.numbers) e
                (subst (λ u. length (blocks (k + 1 + 1 + (h - 1)) u) ≡ length u) kept.0 (rounds_stay most (k + 1) g s (omega arith) on.3 (omega arith) (h - 1) (omega arith)))
          ]
    ]

-- any 44 rounds on end shorten a string of two or more numbers
pub rounds_shorten : (k : ℕ) (rows : List Row) (u : List ℕ) (s : Settled) → length rows ≤ 1024 → AllInUse rows u → 2 ≤ length u → rounds_from 44 k (record { numbers = u; rows = rows }) ≡ Some s
    → length s.numbers < length u
rounds_shorten k rows [] s few known long run = absurd (omega arith)
rounds_shorten k rows (x ∷ []) s few known long run = absurd (omega arith)
rounds_shorten k rows (x ∷ (y ∷ u)) s few known long run =
    let f : Filed = record { numbers = x ∷ (y ∷ u); rows = rows } in
    elim (cases_lt (length s.numbers) (length (x ∷ (y ∷ u)))) [
      | inl less ↦ less
      | inr not_less ↦
          let no_longer = rounds_shorter 44 k f s run in
          absurd (some_round_shortens (k + 1) x y u (omega arith) (omega (arith, known.0.1)) (omega (arith, known.1.0.1)) (rounds_stay 44 k f s long run (omega arith)))
    ]

module _ (rows : List Row) where
  -- what so many rounds at most, after round k, come to
  rest : ℕ → ℕ → List ℕ → Option Settled
  rest most k numbers = rounds_from most k (record { numbers = numbers; rows = rows })

  rest_more : (k most : ℕ) (u t : List ℕ) → 2 ≤ length u → Named rows (blocks (suc k) u) t → rest (suc most) k u ≡ rest most (suc k) t
  unfolding rest
  rest_more k most u t long named = turn rows k most u t long named

  rest_on : (i j most : ℕ) (u v t : List ℕ) → rest (i + suc most) j u ≡ rest (suc most) (j + i) v → 2 ≤ length v → Named rows (blocks (suc (j + i)) v) t → rest (suc i + most) j u ≡ rest most (j + suc i) t
  rest_on i j most u v t so_far long named =
      let one_more : suc i + most ≡ i + suc most = omega arith in
      let e : suc (j + i) ≡ j + suc i = omega arith in
      ap (λ n. rest n j u) one_more ∙ so_far ∙ rest_more (j + i) most v t long named ∙ ap (λ k. rest most k t) e

  -- the last i of j + i rounds
  last_rounds : (i j most : ℕ) (s t : List ℕ) → Comes rows (j + i) s t → 2 ≤ length t → (u : List ℕ) × Comes rows j s u × (rest (i + most) j u ≡ rest most (j + i) t)
  last_rounds zero j most s t c long =
      let e : j + zero ≡ j = omega arith in
      let none : zero + most ≡ most = omega arith in
      (t, subst (λ k. Comes rows k s t) e c, ap (λ n. rest n j t) none ∙ ap (λ k. rest most k t) (sym e))
  last_rounds (suc i) j most s t c long =
      let e : j + suc i ≡ suc (j + i) = omega arith in
      let c' = subst (λ k. Comes rows k s t) e c in
      let longer : 2 ≤ length c'.0 = omega (arith, round_shorter rows (suc (j + i)) c'.0 t c'.2) in
      let inner = last_rounds i j (suc most) s c'.0 c'.1 longer in
      (inner.0, inner.1, rest_on i j most inner.0 c'.0 t inner.2 longer c'.2)

  spent : (i k : ℕ) (u t : List ℕ) → rest (i + 0) k u ≡ rest 0 (k + i) t → rounds_from i k (record { numbers = u; rows = rows }) ≡ Some (record { numbers = t; rows = rows; rounds = k + i })
  unfolding rest
  spent i k u t same =
      let e : i ≡ i + 0 = omega arith in
      ap (λ n. rest n k u) e ∙ same ∙ rounds_spent (k + i) (record { numbers = t; rows = rows })

  -- so there are at most 44 rounds for each number that a string loses, and fewer than 44 more
  pub rounds_few : (q j : ℕ) (s t : List ℕ) → length rows ≤ 1024 → AllInUse rows s → Comes rows j s t → 2 ≤ length t → j < 44 * q → j < 44 * (1 + (length s - length t))
  rounds_few zero j s t few known c long below = absurd (omega arith)
  rounds_few (suc q) j s t few known c long below =
      elim (cases_lt j 44) [
        | inl first ↦ omega arith
        | inr later ↦
            let e : j ≡ (j - 44) + 44 = omega arith in
            let split = last_rounds 44 (j - 44) 0 s t (subst (λ k. Comes rows k s t) e c) long in
            let u = split.0 in
            let run = spent 44 (j - 44) u t split.2 in
            let u_known = comes_known rows (j - 44) s u known split.1 in
            let longer = rounds_shorter 44 (j - 44) (record { numbers = u; rows = rows }) (record { numbers = t; rows = rows; rounds = j - 44 + 44 }) run in
            let shorter = rounds_shorten (j - 44) rows u (record { numbers = t; rows = rows; rounds = j - 44 + 44 }) few u_known (omega arith) run in
            let before = rounds_few q (j - 44) s u few known split.1 (omega arith) (omega arith) in
            let within = comes_shorter rows (j - 44) s u split.1 in
            omega arith
      ]
