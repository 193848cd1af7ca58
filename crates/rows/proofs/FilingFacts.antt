-- How shapes are found and filed: what was found stays found, and a shape that was filed is found from
-- then on. Assumes nothing.
use Rattle.std.proofs.Common.{◌≡◌, ℕ, zero, suc, ◌+◌, ◌-◌, ◌<◌, ◌≤◌, true, false, eqb, ltb, ◌⊎◌, List, [], ◌∷◌, ◌++◌, length, get_or, Some, None, Option, sym, refl, ap, ◌∙◌, inl, inr, arith}
use Rattle.std.proofs.lemmas.List.{append-nil}
use Rattle.std.proofs.lemmas.Bool.{both_ways, cases_Bool, and_parts, and_from, eqb-true, eq-eqb, ltb-true, cond-true, cond-false}
use Rattle.rows.specs.declared.Shape.{Shape}
use Rattle.rows.specs.declared.Shape.TheVariants.{Leaf, Pair, Repeat}
use Rattle.rows.specs.declared.Row.{Row}
use Rattle.rows.specs.Filing.{alike, find_from, find, blank_row, row_of, row_made, Numbered, numbered, file}

-- shapes are alike exactly when they are equal
pub alike_itself : (s : Shape) → alike s s ≡ true
alike_itself (Leaf c) = eq-eqb c c refl
alike_itself (Pair l r) = and_from (eqb l l) (eqb r r) (eq-eqb l l refl) (eq-eqb r r refl)
alike_itself (Repeat p m) = and_from (eqb p p) (eqb m m) (eq-eqb p p refl) (eq-eqb m m refl)

pub equal_from_alike : (s t : Shape) → alike s t ≡ true → s ≡ t
equal_from_alike (Leaf a) (Leaf b) h = ap Leaf (eqb-true a b h)
equal_from_alike (Leaf a) (Pair l r) h = absurd (both_ways false refl h)
equal_from_alike (Leaf a) (Repeat p m) h = absurd (both_ways false refl h)
equal_from_alike (Pair a b) (Leaf c) h = absurd (both_ways false refl h)
equal_from_alike (Pair a b) (Pair l r) h = let both = and_parts (eqb a l) (eqb b r) h in ap (λ x. Pair x b) (eqb-true a l both.0) ∙ ap (Pair l) (eqb-true b r both.1)
equal_from_alike (Pair a b) (Repeat p m) h = absurd (both_ways false refl h)
equal_from_alike (Repeat a b) (Leaf c) h = absurd (both_ways false refl h)
equal_from_alike (Repeat a b) (Pair l r) h = absurd (both_ways false refl h)
equal_from_alike (Repeat a b) (Repeat p m) h = let both = and_parts (eqb a p) (eqb b m) h in ap (λ x. Repeat x b) (eqb-true a p both.0) ∙ ap (Repeat p) (eqb-true b m both.1)

-- a search that found goes on finding
find_from_append : (i : ℕ) (rows more : List Row) (s : Shape) (n : ℕ) → find_from i rows s ≡ Some n → find_from i (rows ++ more) s ≡ Some n
find_from_append i [] more s n h = absurd (let z : ◌≡◌ {A = ℕ} 0 1 = cc in omega arith)
find_from_append i (row ∷ rows) more s n h =
    elim (cases_Bool (alike row.shape s)) [
      | inl yes_alike ↦ cond-true _ _ _ yes_alike ∙ sym (cond-true _ _ _ yes_alike) ∙ h
      | inr not_alike ↦ cond-false _ _ _ not_alike ∙ find_from_append (i + 1) rows more s n (sym (cond-false _ _ _ not_alike) ∙ h)
    ]

pub find_append : (rows more : List Row) (s : Shape) (n : ℕ) → find rows s ≡ Some n → find (rows ++ more) s ≡ Some n
unfolding find
find_append rows more s n h = find_from_append 1 rows more s n h

-- a row added after a search that found none is found
find_from_added : (i : ℕ) (rows : List Row) (row : Row) → find_from i rows row.shape ≡ None → find_from i (rows ++ (row ∷ [])) row.shape ≡ Some (i + length rows)
find_from_added i [] row h = cond-true _ _ _ (alike_itself row.shape) ∙ ap Some (let e : i ≡ i + 0 = omega arith in e)
find_from_added i (r ∷ rows) row h =
    elim (cases_Bool (alike r.shape row.shape)) [
      | inl yes_alike ↦ absurd (let e = sym (cond-true (alike r.shape row.shape) (Some i) (find_from (i + 1) rows row.shape) yes_alike) ∙ h in let z : ◌≡◌ {A = ℕ} 0 1 = cc in omega arith)
      | inr not_alike ↦
          cond-false _ _ _ not_alike
          ∙ find_from_added (i + 1) rows row (sym (cond-false (alike r.shape row.shape) (Some i) (find_from (i + 1) rows row.shape) not_alike) ∙ h)
          ∙ ap Some (let e : i + 1 + length rows ≡ i + suc (length rows) = omega arith in e)
    ]

pub find_added : (rows : List Row) (row : Row) → find rows row.shape ≡ None → find (rows ++ (row ∷ [])) row.shape ≡ Some (length rows + 1)
unfolding find
find_added rows row h = find_from_added 1 rows row h ∙ ap Some (let e : 1 + length rows ≡ length rows + 1 = omega arith in e)

-- what is found is a known number of a row of that shape
find_from_known : (i : ℕ) (rows : List Row) (s : Shape) (n : ℕ) → find_from i rows s ≡ Some n → (i ≤ n) × (n < i + length rows) × ((get_or rows (n - i) blank_row).shape ≡ s)
find_from_known i [] s n h = absurd (let z : ◌≡◌ {A = ℕ} 0 1 = cc in omega arith)
find_from_known i (row ∷ rows) s n h =
    elim (cases_Bool (alike row.shape s)) [
      | inl yes_alike ↦
          let e : i ≡ n = let f = sym (cond-true (alike row.shape s) (Some i) (find_from (i + 1) rows s) yes_alike) ∙ h in cc in
          let z : n - i ≡ 0 = omega arith in
          (omega arith, omega arith, ap (λ k. (get_or (row ∷ rows) k blank_row).shape) z ∙ equal_from_alike row.shape s yes_alike)
      | inr not_alike ↦
          let rest = find_from_known (i + 1) rows s n (sym (cond-false (alike row.shape s) (Some i) (find_from (i + 1) rows s) not_alike) ∙ h) in
          let z : n - i ≡ suc (n - (i + 1)) = omega (arith, rest.0) in
          (omega (arith, rest.0), omega (arith, rest.1), ap (λ k. (get_or (row ∷ rows) k blank_row).shape) z ∙ rest.2)
    ]

pub find_known : (rows : List Row) (s : Shape) (n : ℕ) → find rows s ≡ Some n → (0 < n) × (n ≤ length rows) × ((row_of rows n).shape ≡ s)
unfolding find
find_known rows s n h =
    let all = find_from_known 1 rows s n h in
    (all.0, omega (arith, all.1), shift rows n all.0 ∙ all.2)
  where
    shift : (rs : List Row) (m : ℕ) → 1 ≤ m → (row_of rs m).shape ≡ (get_or rs (m - 1) blank_row).shape
    shift rs zero h₀ = absurd (omega arith)
    shift rs (suc m) h₀ = let e : m ≡ suc m - 1 = omega arith in ap (λ k. (get_or rs k blank_row).shape) e

-- and is found where the rows after its number are not there
find_from_before : (i : ℕ) (rows more : List Row) (s : Shape) (n : ℕ) → n < i + length rows → find_from i (rows ++ more) s ≡ Some n → find_from i rows s ≡ Some n
find_from_before i [] more s n less h = absurd (omega (arith, (find_from_known i more s n h).0))
find_from_before i (row ∷ rows) more s n less h =
    elim (cases_Bool (alike row.shape s)) [
      | inl same ↦ cond-true (alike row.shape s) (Some i) (find_from (i + 1) rows s) same ∙ sym (cond-true (alike row.shape s) (Some i) (find_from (i + 1) (rows ++ more) s) same) ∙ h
      | inr other ↦
          cond-false (alike row.shape s) (Some i) (find_from (i + 1) rows s) other
          ∙ find_from_before (i + 1) rows more s n (omega arith) (sym (cond-false (alike row.shape s) (Some i) (find_from (i + 1) (rows ++ more) s) other) ∙ h)
    ]

pub find_before : (rows more : List Row) (s : Shape) (n : ℕ) → n ≤ length rows → find (rows ++ more) s ≡ Some n → find rows s ≡ Some n
unfolding find
find_before rows more s n within h = find_from_before 1 rows more s n (omega arith) h

-- what filing does: rows grow by at most one row of that shape, and the shape is found as its number
pub record Grown (k : ℕ) (rows : List Row) (s : Shape) (f : Numbered) : Type 0 where
  pub added : List Row
  pub grows : f.rows ≡ rows ++ added
  pub finds : find f.rows s ≡ Some f.number
  pub cases : ((added ≡ []) × (find rows s ≡ Some f.number)) ⊎ ((added ≡ row_made k rows s ∷ []) × (find rows s ≡ None) × (length rows < 1024) × (f.number ≡ length rows + 1))

file_cases : (k : ℕ) (rows : List Row) (s : Shape) (f : Numbered) (found : Option ℕ) → find rows s ≡ found → numbered k rows s found ≡ Some f → Grown k rows s f
file_cases k rows s f (Some n) is h =
    let e : record { number = n; rows = rows } ≡ f = cc in
    record {
      added = [];
      grows = ap (λ g. g.rows) (sym e) ∙ sym (append-nil rows);
      finds = ap (λ g. find g.rows s) (sym e) ∙ is ∙ ap (λ g. Some g.number) e;
      cases = inl (refl, is ∙ ap (λ g. Some g.number) e);
    }
file_cases k rows s f None is h =
    elim (cases_Bool (ltb (length rows) 1024)) [
      | inr full ↦ absurd (let e = sym (cond-false (ltb (length rows) 1024) (Some (record { number = length rows + 1; rows = rows ++ (row_made k rows s ∷ []) })) None full) ∙ h in let z : ◌≡◌ {A = ℕ} 0 1 = cc in omega arith)
      | inl room ↦
          let made : Numbered = record { number = length rows + 1; rows = rows ++ (row_made k rows s ∷ []) } in
          let e : made ≡ f = let g = sym (cond-true (ltb (length rows) 1024) (Some made) None room) ∙ h in cc in
          record {
            added = row_made k rows s ∷ [];
            grows = ap (λ g. g.rows) (sym e);
            finds = ap (λ g. find g.rows s) (sym e) ∙ find_added rows (row_made k rows s) is ∙ ap (λ g. Some g.number) e;
            cases = inr (refl, is, ltb-true (length rows) 1024 room, ap (λ g. g.number) (sym e));
          }
    ]

pub file_grows : (k : ℕ) (rows : List Row) (s : Shape) (f : Numbered) → file k rows s ≡ Some f → Grown k rows s f
file_grows k rows s f h = file_cases k rows s f (find rows s) refl h

-- a shape that is found is filed with nothing added
pub file_found : (k : ℕ) (rows : List Row) (s : Shape) (n : ℕ) → find rows s ≡ Some n → file k rows s ≡ Some (record { number = n; rows = rows })
file_found k rows s n h = ap (numbered k rows s) h
