-- What an index keeps when a row is added after the others or rows are taken off. Assumes nothing.
use Rattle.std.proofs.Common.{◌≡◌, ℕ, zero, suc, ◌+◌, ◌-◌, ◌<◌, ◌≤◌, min, eqb, List, [], ◌∷◌, ◌++◌, length, get_or, take, set, replicate, sym, refl, ap, ◌∙◌, subst, inl, inr, arith, length-set, length-take}
use Rattle.std.proofs.lemmas.List.{get_or_append_left, get_or_push, get_or-take, get_or-set_same, get_or-set_other, length_push, length-replicate}
use Rattle.std.proofs.lemmas.Bool.{cases_eq, cond-true, cond-false, eq-eqb, ne_eqb}
use Rattle.rows.specs.declared.Row.{Row}
use Rattle.rows.specs.Filing.{blank_row}
use Rattle.recompression.specs.Buckets.{bucket_of, bucket_at, last_in, Indexed, IndexOf, linked, unlinked}
use Rattle.recompression.specs.declared.index.Index.{Index}
use Rattle.recompression.proofs.Fills.{filled_at}

-- the last row of a bucket, by the row that comes last
pub last_here : (bucket m : ℕ) (rows : List Row) → bucket_at rows m ≡ bucket → last_in bucket (suc m) rows ≡ suc m
last_here bucket m rows is = cond-true (eqb (bucket_at rows m) bucket) (suc m) (last_in bucket m rows) (eq-eqb (bucket_at rows m) bucket is)

pub last_before : (bucket m : ℕ) (rows : List Row) → (bucket_at rows m ≡ bucket → ⊥) → last_in bucket (suc m) rows ≡ last_in bucket m rows
last_before bucket m rows other = cond-false (eqb (bucket_at rows m) bucket) (suc m) (last_in bucket m rows) (ne_eqb (bucket_at rows m) bucket other)

-- it depends on those rows alone
pub last_same : (bucket m : ℕ) (xs ys : List Row) → ((k : ℕ) → k < m → get_or xs k blank_row ≡ get_or ys k blank_row) → last_in bucket m xs ≡ last_in bucket m ys
last_same bucket zero xs ys same = refl
last_same bucket (suc m) xs ys same =
    let here : bucket_at xs m ≡ bucket_at ys m = ap (λ (row : Row). bucket_of row.shape) (same m (omega arith)) in
    let rest = last_same bucket m xs ys (λ k h. same k (omega arith)) in
    elim (cases_eq (bucket_at xs m) bucket) [
      | inl is ↦ last_here bucket m xs is ∙ sym (last_here bucket m ys (sym here ∙ is))
      | inr other ↦ last_before bucket m xs other ∙ rest ∙ sym (last_before bucket m ys (λ e. other (here ∙ e)))
    ]

pub last_within : (bucket m : ℕ) (rows : List Row) → last_in bucket m rows ≤ m
last_within bucket zero rows = omega arith
last_within bucket (suc m) rows =
    let rest = last_within bucket m rows in
    elim (cases_eq (bucket_at rows m) bucket) [
      | inl is ↦ let e = last_here bucket m rows is in omega arith
      | inr other ↦ let e = last_before bucket m rows other in omega arith
    ]

-- a row that is found is of the bucket, and none after it is
pub last_is : (bucket m : ℕ) (rows : List Row) → 0 < last_in bucket m rows → bucket_at rows (last_in bucket m rows - 1) ≡ bucket
last_is bucket zero rows some = absurd (omega arith)
last_is bucket (suc m) rows some =
    elim (cases_eq (bucket_at rows m) bucket) [
      | inl is ↦ let e : last_in bucket (suc m) rows - 1 ≡ m = omega (arith, last_here bucket m rows is) in ap (bucket_at rows) e ∙ is
      | inr other ↦
          let e = last_before bucket m rows other in
          ap (λ n. bucket_at rows (n - 1)) e ∙ last_is bucket m rows (omega arith)
    ]

pub none_after : (bucket m : ℕ) (rows : List Row) (k : ℕ) → last_in bucket m rows ≤ k → k < m → bucket_at rows k ≡ bucket → ⊥
none_after bucket zero rows k after within same = absurd (omega arith)
none_after bucket (suc m) rows k after within same =
    elim (cases_eq (bucket_at rows m) bucket) [
      | inl is ↦ let e = last_here bucket m rows is in absurd (omega arith)
      | inr other ↦
          let e = last_before bucket m rows other in
          elim (cases_eq k m) [
            | inl last ↦ other (ap (bucket_at rows) (sym last) ∙ same)
            | inr earlier ↦ none_after bucket m rows k (omega arith) (omega arith) same
          ]
    ]

-- the index of no rows
pub index_none : (index : Index) → index.heads ≡ replicate 2048 0 → index.next ≡ replicate 1024 0 → IndexOf [] index
index_none index heads next = record {
  heads_long = ap length heads ∙ length-replicate {A = ℕ} 2048 0;
  next_long = ap length next ∙ length-replicate {A = ℕ} 1024 0;
  heads = λ bucket. ap (λ xs. get_or xs bucket 0) heads ∙ filled_at 2048 bucket 0;
  next = λ k h. absurd (omega arith);
}

-- an index of the first m rows says nothing of those after them
pub indexed_same : (xs ys : List Row) (m : ℕ) (index : Index) → ((k : ℕ) → k < m → get_or xs k blank_row ≡ get_or ys k blank_row) → Indexed xs m index → Indexed ys m index
indexed_same xs ys m index same indexed = record {
  heads_long = indexed.heads_long;
  next_long = indexed.next_long;
  heads = λ bucket. indexed.heads bucket ∙ last_same bucket m xs ys same;
  next = λ k h.
      indexed.next k h ∙ last_same (bucket_at xs k) k xs ys (λ j before. same j (omega arith))
      ∙ ap (λ bucket. last_in bucket k ys) (ap (λ (row : Row). bucket_of row.shape) (same k h));
}

-- one more row
pub indexed_more : (rows : List Row) (m bucket : ℕ) (index : Index) → Indexed rows m index → m < 1024 → bucket < 2048 → bucket ≡ bucket_at rows m
    → Indexed rows (suc m) (record { heads = set index.heads bucket (suc m); next = set index.next m (get_or index.heads bucket 0) })
indexed_more rows m bucket index indexed room below is =
    let before = get_or index.heads bucket 0 in
    let heads_long = indexed.heads_long in
    let next_long = indexed.next_long in
    record {
      heads_long = length-set index.heads bucket (suc m) ∙ heads_long;
      next_long = length-set index.next m before ∙ next_long;
      heads = λ other. elim (cases_eq other bucket) [
        | inl same ↦
            ap (λ k. get_or (set index.heads bucket (suc m)) k 0) same ∙ get_or-set_same index.heads bucket (suc m) 0 (omega arith)
            ∙ sym (last_here other m rows (sym is ∙ sym same))
        | inr else ↦
            get_or-set_other index.heads bucket other (suc m) 0 else ∙ indexed.heads other
            ∙ sym (last_before other m rows (λ e. else (sym (is ∙ e))))
      ];
      next = λ k h. elim (cases_eq k m) [
        | inl last ↦
            ap (λ j. get_or (set index.next m before) j 0) last ∙ get_or-set_same index.next m before 0 (omega arith)
            ∙ indexed.heads bucket ∙ ap (λ b. last_in b m rows) is ∙ ap (λ j. last_in (bucket_at rows j) j rows) (sym last)
        | inr else ↦ get_or-set_other index.next m k before 0 else ∙ indexed.next k (omega arith)
      ];
    }

pub index_added : (rows : List Row) (row : Row) (bucket : ℕ) (index : Index) → IndexOf rows index → length rows < 1024 → bucket < 2048
    → bucket ≡ bucket_of row.shape
    → IndexOf (rows ++ (row ∷ [])) (linked bucket (length rows) index)
index_added rows row bucket index indexed room below is =
    let m = length rows in
    let more = rows ++ (row ∷ []) in
    let added = λ (n : ℕ). let i : Index = record { heads = set index.heads bucket n; next = set index.next m (get_or index.heads bucket 0) } in i in
    let number : suc m ≡ m + 1 = omega arith in
    let long : suc m ≡ length more = omega (arith, length_push rows row) in
    let same : Indexed more m index = indexed_same rows more m index (λ k h. sym (get_or_append_left rows (row ∷ []) blank_row k h)) indexed in
    let at : bucket ≡ bucket_at more m = is ∙ ap (λ (r : Row). bucket_of r.shape) (sym (get_or_push rows row blank_row m refl)) in
    subst (λ k. Indexed more k (added (m + 1))) long (subst (λ n. Indexed more (suc m) (added n)) number (indexed_more more m bucket index same room below at))

-- one row less
pub indexed_less : (rows : List Row) (m bucket : ℕ) (index : Index) → Indexed rows (suc m) index → m < 1024 → bucket < 2048 → bucket ≡ bucket_at rows m
    → Indexed rows m (unlinked bucket m index)
indexed_less rows m bucket index indexed room below is =
    let before = get_or index.next m 0 in
    let heads_long = indexed.heads_long in
    record {
      heads_long = length-set index.heads bucket before ∙ heads_long;
      next_long = indexed.next_long;
      heads = λ other. elim (cases_eq other bucket) [
        | inl same ↦
            ap (λ k. get_or (set index.heads bucket before) k 0) same ∙ get_or-set_same index.heads bucket before 0 (omega arith)
            ∙ indexed.next m (omega arith) ∙ ap (λ b. last_in b m rows) (sym is ∙ sym same)
        | inr else ↦
            get_or-set_other index.heads bucket other before 0 else ∙ indexed.heads other
            ∙ last_before other m rows (λ e. else (sym (is ∙ e)))
      ];
      next = λ k h. indexed.next k (omega arith);
    }

-- the rows that are kept, where those after them were taken off
pub index_taken : (rows : List Row) (n m : ℕ) (index : Index) → m ≤ length rows → m ≤ n → min (length rows) n ≤ m → Indexed rows m index → IndexOf (take n rows) index
index_taken rows n m index within few enough indexed =
    let long : m ≡ length (take n rows) = omega (arith, length-take n rows) in
    subst (λ k. Indexed (take n rows) k index) long
    (indexed_same rows (take n rows) m index (λ k h. sym (get_or-take n rows k blank_row (omega arith))) indexed)
