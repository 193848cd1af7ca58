-- What a walk down the chain of a bucket finds. Assumes nothing.
use Rattle.std.proofs.Common.{◌≡◌, ℕ, suc, ◌+◌, ◌-◌, ◌<◌, ◌≤◌, false, List, [], ◌∷◌, length, get_or, Some, None, sym, refl, ap, ◌∙◌, inl, inr, arith}
use Rattle.std.proofs.lemmas.Bool.{cases_Bool, cases_eq, cases_lt, cond-false}
use Rattle.rows.specs.declared.Shape.{Shape}
use Rattle.rows.specs.declared.Row.{Row}
use Rattle.rows.specs.Filing.{alike, blank_row, find_from, find}
use Rattle.rows.proofs.FilingFacts.{equal_from_alike}
use Rattle.recompression.specs.Buckets.{bucket_of, bucket_at, last_in, IndexOf}
use Rattle.recompression.specs.declared.index.Index.{Index}
use Rattle.recompression.proofs.BucketFacts.{last_within, last_is, none_after}

-- a walk down the chain of a shape's bucket, at a row of that bucket or at its end: no row after it is of the shape
pub record Walking (rows : List Row) (shape : Shape) (number : ℕ) : Type 0 where
  pub within : number ≤ length rows
  pub bucket : 0 < number → bucket_at rows (number - 1) ≡ bucket_of shape
  pub passed : (k : ℕ) → number ≤ k → k < length rows → alike (get_or rows k blank_row).shape shape ≡ false

walking_from : (rows : List Row) (shape : Shape) (m number : ℕ) → m ≤ length rows → number ≡ last_in (bucket_of shape) m rows
    → ((k : ℕ) → m ≤ k → k < length rows → alike (get_or rows k blank_row).shape shape ≡ false) → Walking rows shape number
walking_from rows shape m number few is passed =
    let within = last_within (bucket_of shape) m rows in
    record {
      within = omega arith;
      bucket = λ some. ap (λ n. bucket_at rows (n - 1)) is ∙ last_is (bucket_of shape) m rows (omega arith);
      passed = λ k after inside. elim (cases_lt k m) [
        | inr later ↦ passed k later inside
        | inl before ↦ elim (cases_Bool (alike (get_or rows k blank_row).shape shape)) [
          | inr other ↦ other
          | inl same ↦
              absurd (none_after (bucket_of shape) m rows k (omega arith) before (ap bucket_of (equal_from_alike (get_or rows k blank_row).shape shape same)))
        ]
      ];
    }

pub walking_first : (rows : List Row) (shape : Shape) (index : Index) (bucket : ℕ) → IndexOf rows index → bucket ≡ bucket_of shape
    → Walking rows shape (get_or index.heads bucket 0)
walking_first rows shape index bucket indexed is =
    walking_from rows shape (length rows) (get_or index.heads bucket 0) (omega arith) (indexed.heads bucket ∙ ap (λ b. last_in b (length rows) rows) is)
    (λ k past inside. absurd (omega arith))

pub walking_on : {rows : List Row} {shape : Shape} {number : ℕ} → Walking rows shape number → (index : Index) → IndexOf rows index → 0 < number
    → alike (get_or rows (number - 1) blank_row).shape shape ≡ false → Walking rows shape (get_or index.next (number - 1) 0)
walking_on {rows} {shape} {number} walking index indexed some other =
    let within = walking.within in
    walking_from rows shape (number - 1) (get_or index.next (number - 1) 0) (omega arith)
    (indexed.next (number - 1) (omega arith) ∙ ap (λ b. last_in b (number - 1) rows) (walking.bucket some))
    (λ k after inside. elim (cases_eq k (number - 1)) [
      | inl here ↦ ap (λ j. alike (get_or rows j blank_row).shape shape) here ∙ other
      | inr else ↦ walking.passed k (omega arith) inside
    ])

pub walk_falls : {rows : List Row} {shape : Shape} {number : ℕ} → Walking rows shape number → (index : Index) → IndexOf rows index → 0 < number
    → get_or index.next (number - 1) 0 < number
walk_falls {rows} {shape} {number} walking index indexed some =
    let within = walking.within in
    let e = indexed.next (number - 1) (omega arith) in
    let few = last_within (bucket_at rows (number - 1)) (number - 1) rows in
    omega arith

none_from : (i : ℕ) (rows : List Row) (shape : Shape) → ((k : ℕ) → k < length rows → alike (get_or rows k blank_row).shape shape ≡ false) → find_from i rows shape ≡ None
none_from i [] shape others = refl
none_from i (row ∷ rows) shape others =
    cond-false (alike row.shape shape) (Some i) (find_from (i + 1) rows shape) (others 0 (omega arith))
    ∙ none_from (i + 1) rows shape (λ k h. others (suc k) (omega arith))

pub walk_ended : {rows : List Row} {shape : Shape} {number : ℕ} → Walking rows shape number → number ≡ 0 → None ≡ find rows shape
unfolding find
walk_ended {rows} {shape} {number} walking ended = sym (none_from 1 rows shape (λ k h. walking.passed k (omega arith) h))
