-- Rows parted into buckets by their shapes, and the index that keeps the chain of each bucket. Assumes nothing.
use Rattle.std.specs.Prelude.{◌≡◌, ℕ, zero, suc, ◌+◌, ◌*◌, ◌/◌, ◌%◌, ◌^◌, ◌<◌, cond, List, length, Some, ◌==◌, slice_index, slice_index_or, slice_set}
use Rattle.rows.specs.declared.Shape.{Shape}
use Rattle.rows.specs.declared.Shape.TheVariants.{Leaf, Pair, Repeat}
use Rattle.rows.specs.declared.Row.{Row}
use Rattle.rows.specs.Filing.{blank_row, find}
use Rattle.recompression.specs.declared.index.Index.{Index}

-- a number of its own for each shape
abbrev pub key_of : Shape → ℕ
key_of (Leaf code) = code
key_of (Pair left right) = 0x1_0000_0000 + left * 0x1_0000 + right
key_of (Repeat part count) = 0x2_0000_0000 + part * 0x1_0000 + count

-- the bucket of a shape, below 2,048. No proof asks which it is
unfoldable pub bucket_of : Shape → ℕ
bucket_of shape = (key_of shape * 0x9E37_79B9_7F4A_7C15 % 2 ^ 64) / 2 ^ 53

-- the bucket of the row at a place
abbrev pub bucket_at : List Row → ℕ → ℕ
bucket_at rows k = bucket_of (slice_index_or rows k blank_row).shape

-- the number of the last row of a bucket among the first m rows; 0 where there is none
abbrev pub last_in : ℕ → ℕ → List Row → ℕ
last_in bucket zero rows = 0
last_in bucket (suc m) rows = cond (bucket_at rows m == bucket) (suc m) (last_in bucket m rows)

-- the index of the first m rows: the last row of each bucket, and before each row the last of its bucket. Of rows that
-- are not in use it says nothing
pub record Indexed (rows : List Row) (m : ℕ) (index : Index) : Type 0 where
  pub heads_long : length index.heads ≡ 2048
  pub next_long : length index.next ≡ 1024
  pub heads : (bucket : ℕ) → slice_index index.heads bucket ≡ last_in bucket m rows
  pub next : (k : ℕ) → k < m → slice_index index.next k ≡ last_in (bucket_at rows k) k rows

-- the index of all rows
abbrev pub IndexOf : List Row → Index → Type 0
IndexOf rows index = Indexed rows (length rows) index

-- the row at a place becomes the last of a bucket, or the one before it does
abbrev pub linked : ℕ → ℕ → Index → Index
linked bucket k index = record { heads = slice_set index.heads bucket (k + 1); next = slice_set index.next k (slice_index index.heads bucket) }

abbrev pub unlinked : ℕ → ℕ → Index → Index
unlinked bucket k index = record { heads = slice_set index.heads bucket (slice_index index.next k); next = index.next }

-- no two rows are alike: each is the first of its shape
abbrev pub Distinct : List Row → Type 0
Distinct rows = (k : ℕ) → k < length rows → find rows (slice_index_or rows k blank_row).shape ≡ Some (k + 1)
