-- The leaf numbers of a number's strip are the leaves of its codes. Assumes nothing.
use Rattle.std.proofs.Common.{◌≡◌, ℕ, zero, suc, ◌+◌, ◌<◌, List, [], ◌∷◌, ◌++◌, map, length, get_or, take, drop, Some, sym, refl, ap, ◌∙◌, arith, length-append}
use lib.ListN.{length-map}
use Rattle.rows.specs.declared.Shape.{Shape}
use Rattle.rows.specs.declared.Shape.TheVariants.{Leaf, Pair, Repeat}
use Rattle.rows.specs.declared.Row.{Row}
use Rattle.rows.specs.Filing.{find, blank_row}
use Rattle.rows.specs.Lawful.{Lawful}
use Rattle.rows.specs.Rounds.{leaf_block, leaves}
use Rattle.rows.specs.Strips.{times, known_as, written, strips_from, strip, leaf_written, leaf_strings_from, leaf_string}
use Rattle.rows.proofs.LawfulFacts.{row_lawful}
use Rattle.rows.proofs.NamingFacts.{Named, file_named, length_named}

-- numbers name the leaves of codes
abbrev pub LeavesOf : List Row → List ℕ → List ℕ → Type 0
LeavesOf rows codes numbers = Named rows (map leaf_block codes) numbers

pub leaves_append : (rows : List Row) (a b m n : List ℕ) → LeavesOf rows a m → LeavesOf rows b n → LeavesOf rows (a ++ b) (m ++ n)
leaves_append rows [] b [] n left right = right
leaves_append rows [] b (x ∷ m) n left right = absurd left
leaves_append rows (c ∷ a) b [] n left right = absurd left
leaves_append rows (c ∷ a) b (x ∷ m) n left right = (left.0, leaves_append rows a b m n left.1 right)

pub leaves_times : (rows : List Row) (count : ℕ) (a m : List ℕ) → LeavesOf rows a m → LeavesOf rows (times count a) (times count m)
leaves_times rows zero a m h = tt
leaves_times rows (suc count) a m h = leaves_append rows a (times count a) m (times count m) h (leaves_times rows count a m h)

pub leaves_take : (rows : List Row) (k : ℕ) (a m : List ℕ) → LeavesOf rows a m → LeavesOf rows (take k a) (take k m)
leaves_take rows zero a m h = tt
leaves_take rows (suc k) [] [] h = tt
leaves_take rows (suc k) [] (x ∷ m) h = h
leaves_take rows (suc k) (c ∷ a) [] h = h
leaves_take rows (suc k) (c ∷ a) (x ∷ m) h = (h.0, leaves_take rows k a m h.1)

pub leaves_drop : (rows : List Row) (k : ℕ) (a m : List ℕ) → LeavesOf rows a m → LeavesOf rows (drop k a) (drop k m)
leaves_drop rows zero a m h = h
leaves_drop rows (suc k) [] [] h = tt
leaves_drop rows (suc k) [] (x ∷ m) h = absurd h
leaves_drop rows (suc k) (c ∷ a) [] h = absurd h
leaves_drop rows (suc k) (c ∷ a) (x ∷ m) h = leaves_drop rows k a m h.1

pub length_leaves : (rows : List Row) (codes numbers : List ℕ) → LeavesOf rows codes numbers → length numbers ≡ length codes
length_leaves rows codes numbers h = length_named rows (map leaf_block codes) numbers h ∙ length-map codes leaf_block

-- what each of the rows so far writes has its leaves beside it
abbrev Beside : List Row → List (List ℕ) → List (List ℕ) → Type 0
Beside rows done numbers = (k : ℕ) → LeavesOf rows (known_as done k) (known_as numbers k)

beside_more : (rows : List Row) (done numbers : List (List ℕ)) (xs ms : List ℕ) → length done ≡ length numbers → Beside rows done numbers → LeavesOf rows xs ms → Beside rows (done ++ (xs ∷ [])) (numbers ++ (ms ∷ []))
beside_more rows [] [] xs ms same beside here zero = tt
beside_more rows [] [] xs ms same beside here (suc zero) = here
beside_more rows [] [] xs ms same beside here (suc (suc k)) = tt
beside_more rows [] (n ∷ numbers) xs ms same beside here k = absurd (omega arith)
beside_more rows (d ∷ done) [] xs ms same beside here k = absurd (omega arith)
beside_more rows (d ∷ done) (n ∷ numbers) xs ms same beside here zero = tt
beside_more rows (d ∷ done) (n ∷ numbers) xs ms same beside here (suc zero) = beside 1
beside_more rows (d ∷ done) (n ∷ numbers) xs ms same beside here (suc (suc k)) =
    beside_more rows done numbers xs ms (omega arith) (λ i. shifted i) here (suc k)
  where
    shifted : (i : ℕ) → LeavesOf rows (known_as done i) (known_as numbers i)
    shifted zero = tt
    shifted (suc i) = beside (suc (suc i))

shape_beside : (rows : List Row) (done numbers : List (List ℕ)) (shape : Shape) → Beside rows done numbers
    → ((code : ℕ) → shape ≡ Leaf code → find rows (Leaf code) ≡ Some (length numbers + 1)) → LeavesOf rows (written done shape) (leaf_written numbers shape)
shape_beside rows done numbers (Leaf code) beside leaf = (leaf code refl, tt)
shape_beside rows done numbers (Pair left right) beside leaf = leaves_append rows (known_as done left) (known_as done right) (known_as numbers left) (known_as numbers right) (beside left) (beside right)
shape_beside rows done numbers (Repeat part count) beside leaf = leaves_times rows count (known_as done part) (known_as numbers part) (beside part)

all_beside : (rows : List Row) (done numbers : List (List ℕ)) (rest : List Row) → length done ≡ length numbers → Beside rows done numbers
    → ((k : ℕ) (code : ℕ) → k < length rest → (get_or rest k blank_row).shape ≡ Leaf code → find rows (Leaf code) ≡ Some (length numbers + 1 + k))
    → Beside rows (strips_from done rest) (leaf_strings_from numbers rest)
all_beside rows done numbers [] same beside leaf = beside
all_beside rows done numbers (row ∷ rest) same beside leaf =
    let here = shape_beside rows done numbers row.shape beside (λ code is. leaf 0 code (omega arith) is ∙ ap Some (let z : length numbers + 1 + 0 ≡ length numbers + 1 = omega arith in z)) in
    all_beside rows (done ++ (written done row.shape ∷ [])) (numbers ++ (leaf_written numbers row.shape ∷ [])) rest
    (length-append done (written done row.shape ∷ []) ∙ ap (λ n. n + 1) same ∙ sym (length-append numbers (leaf_written numbers row.shape ∷ [])))
    (beside_more rows done numbers (written done row.shape) (leaf_written numbers row.shape) same beside here)
    (λ k code within is. leaf (suc k) code (omega arith) is ∙ ap Some (let l = length-append numbers (leaf_written numbers row.shape ∷ []) in let z : length numbers + 1 + suc k ≡ length (numbers ++ (leaf_written numbers row.shape ∷ [])) + 1 + k = omega arith in z))

-- on lawful rows the leaf numbers of a number are the leaves of its strip
pub leaf_string_names : (rows : List Row) → Lawful rows → (n : ℕ) → LeavesOf rows (strip rows n) (leaf_string rows n)
unfolding strip leaf_string
leaf_string_names rows law n = all_beside rows [] [] rows refl nothing leaf n
  where
    nothing : (k : ℕ) → LeavesOf rows (known_as [] k) (known_as [] k)
    nothing zero = tt
    nothing (suc k) = tt

    leaf : (k code : ℕ) → k < length rows → (get_or rows k blank_row).shape ≡ Leaf code → find rows (Leaf code) ≡ Some (0 + 1 + k)
    leaf k code within is =
        let found = (row_lawful rows law (suc k) (omega arith) (omega arith)).found in
        ap (find rows) (sym is) ∙ found ∙ ap Some (let z : suc k ≡ 0 + 1 + k = omega arith in z)

-- so filing the leaves of such a strip adds nothing
pub leaves_found : (rows : List Row) (codes numbers : List ℕ) → LeavesOf rows codes numbers → leaves rows codes ≡ Some (record { numbers = numbers; rows = rows })
leaves_found rows codes numbers h = file_named 0 (map leaf_block codes) rows numbers h
