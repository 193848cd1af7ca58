-- What lawful rows say of kept lengths. Assumes nothing.
use Rattle.std.proofs.Common.{◌≡◌, ℕ, zero, suc, ◌<◌, ◌≤◌, cond, ltb, leb, List, ◌∷◌, length, get_or, Some, None, sym, ap, ◌∙◌, inl, inr, arith}
use Rattle.std.proofs.lemmas.List.{get_or_past}
use Rattle.std.proofs.lemmas.Bool.{cases_lt, cond-true, cond-false, le-leb, lt-leb}
use Rattle.rows.specs.declared.Row.{Row}
use Rattle.recompression.specs.Codes.{code_in}
use Rattle.recompression.proofs.CodeFacts.{strip_unknown}
use Rattle.rows.specs.Filing.{blank_row, row_of}
use Rattle.rows.specs.Lawful.{Lawful}
use Rattle.rows.specs.Strips.{strip}
use Rattle.rows.proofs.LawfulFacts.{row_lawful, strip_short}
use Rattle.rows.proofs.StripFacts.{strip_none}
use Rattle.shelf.specs.Contents.{length_at, code_at}

-- a known number's row keeps the length of its strip
pub kept_length : (rows : List Row) → Lawful rows → (n : ℕ) → n ≤ length rows → (row_of rows n).length ≡ length (strip rows n)
kept_length rows law zero known = sym (ap length (strip_none rows))
kept_length rows law (suc n) known = (row_lawful rows law (suc n) (omega arith) known).long

pub length_known : (rows : List Row) (n l : ℕ) → Lawful rows → n ≤ length rows → l ≡ (row_of rows n).length → Some l ≡ length_at rows n
length_known rows n l law known is =
    ap Some (is ∙ kept_length rows law n known) ∙ sym (cond-true (leb n (length rows)) (Some (length (strip rows n))) None (le-leb n (length rows) known))

-- a number that is not known has the blank row and the empty strip
any_length : (rows : List Row) → Lawful rows → (n : ℕ) → (row_of rows n).length ≡ length (strip rows n)
any_length rows law n =
    elim (cases_lt (length rows) n) [
      | inl unknown ↦
          let none = ap length (strip_unknown rows n unknown) in
          let blank = ap (λ row. row.length) (get_or_past (blank_row ∷ rows) n blank_row (omega arith)) in
          blank ∙ (omega arith)
      | inr known ↦ kept_length rows law n known
    ]

-- the code that a row tells is that of the strip
pub code_told : (rows : List Row) (n place : ℕ) → Lawful rows → code_in rows n place ≡ code_at rows n place
code_told rows n place law = ap (λ l. cond (ltb place l) (Some (get_or (strip rows n) place 0)) None) (any_length rows law n)

-- what the length of a number tells: whether it is known, and then how many cells its row keeps
pub known_told : (rows : List Row) → Lawful rows → (n l : ℕ) → Some l ≡ length_at rows n → (n ≤ length rows) × (l ≡ (row_of rows n).length) × (l ≤ 65535)
known_told rows law n l told =
    elim (cases_lt (length rows) n) [
      | inl past ↦ let none = told ∙ cond-false (leb n (length rows)) (Some (length (strip rows n))) None (lt-leb n (length rows) past) in cc
      | inr known ↦
          let some = told ∙ cond-true (leb n (length rows)) (Some (length (strip rows n))) None (le-leb n (length rows) known) in
          let same : l ≡ length (strip rows n) = cc in
          (known, same ∙ sym (kept_length rows law n known), omega (arith, strip_short rows law n))
    ]

pub unknown_told : (rows : List Row) (n : ℕ) → None ≡ length_at rows n → length rows < n
unknown_told rows n told =
    elim (cases_lt (length rows) n) [
      | inl past ↦ past
      | inr known ↦ let some = told ∙ cond-true (leb n (length rows)) (Some (length (strip rows n))) None (le-leb n (length rows) known) in cc
    ]
