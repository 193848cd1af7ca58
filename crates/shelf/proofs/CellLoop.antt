-- Cells written one after the other from the codes of a strip. Assumes nothing.
use Rattle.std.proofs.Common.{◌≡◌, ℕ, ◌+◌, ◌<◌, ◌≤◌, ltb, List, [], ◌∷◌, ◌++◌, map, length, get_or, take, drop, set, Some, None, sym, ap, ◌∙◌, arith, length-drop, length-take, get_or-drop}
use lib.ListN.{length-map}
use Rattle.std.proofs.lemmas.List.{append_assoc, take_more, drop_more, set_at, map-append}
use Rattle.std.proofs.lemmas.Bool.{cond-true, lt-ltb}
use Rattle.rows.specs.declared.Row.{Row}
use Rattle.rows.specs.Filing.{row_of}
use Rattle.rows.specs.Lawful.{Lawful}
use Rattle.rows.specs.Strips.{strip}
use Rattle.recompression.specs.Codes.{code_in}
use Rattle.shelf.proofs.RowFacts.{kept_length}

-- the code at a place of a known number's strip
pub code_inside : (rows : List Row) → Lawful rows → (n place : ℕ) → n ≤ length rows → place < length (strip rows n) → code_in rows n place ≡ Some (get_or (strip rows n) place 0)
code_inside rows law n place known inside =
    cond-true (ltb place (row_of rows n).length) (Some (get_or (strip rows n) place 0)) None (lt-ltb place (row_of rows n).length (omega (arith, kept_length rows law n known)))

module _ {C : Type 0} (given : ℕ → C) (codes : List ℕ) (start : ℕ) (old : List C) (fits : start + length old ≤ length codes) where
  -- one more cell is written
  pub filled_more : (i : ℕ) (cells : List C) (code : ℕ) → i < length old → cells ≡ map given (take i (drop start codes)) ++ drop i old → code ≡ get_or codes (start + i) 0
      → set cells i (given code) ≡ map given (take (i + 1) (drop start codes)) ++ drop (i + 1) old
  filled_more i cells code inside so_far is =
      let part = drop start codes in
      let done = map given (take i part) in
      let room : i < length part = simp length-drop (omega arith) in
      let long : length done ≡ i = length-map (take i part) given ∙ (simp (length-take, length-drop) (omega arith)) in
      let next : code ≡ get_or part i 0 = is ∙ sym (get_or-drop start codes i 0) in
      ap (λ cs. set cs i (given code)) (so_far ∙ ap (λ cs. done ++ cs) (drop_more old i (given code) inside))
      ∙ set_at done (get_or old i (given code)) (drop (i + 1) old) (given code) i long
      ∙ sym (append_assoc done (given code ∷ []) (drop (i + 1) old))
      ∙ ap (λ cs. cs ++ drop (i + 1) old)
      (ap (λ c. done ++ (given c ∷ [])) next ∙ sym (map-append given (take i part) (get_or part i 0 ∷ [])) ∙ ap (map given) (sym (take_more part i 0 room)))
