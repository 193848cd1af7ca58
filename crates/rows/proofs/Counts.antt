-- How many rounds are run: as many as leave at most one number, and the row of that number keeps the count.
-- Assumes nothing.
use Rattle.std.proofs.Common.{◌≡◌, ℕ, zero, suc, ◌+◌, ◌<◌, ◌≤◌, List, [], ◌∷◌, ◌++◌, map, length, take, drop, Some, sym, refl, ap, ◌∙◌, inl, inr, arith}
use lib.ListN.{length-map}
use Rattle.std.proofs.lemmas.List.{take-append-drop, append-nil}
use Rattle.std.proofs.lemmas.Bool.{cases_eq}
use Rattle.std.proofs.lemmas.Option.{same_Some}
use Rattle.rows.specs.declared.Row.{Row}
use Rattle.rows.specs.Filing.{row_of}
use Rattle.rows.specs.Laws.{rounds_run, after_rounds}
use Rattle.rows.specs.Lawful.{Lawful}
use Rattle.rows.specs.Rounds.{Filed, then, Settled, settled, rounds_from, leaf_block, leaves, enough_rounds, settle, number_left}
use Rattle.rows.specs.Strips.{strip}
use Rattle.rows.proofs.LawfulFacts.{row_lawful}
use Rattle.rows.proofs.NamingFacts.{length_named, file_all_grows, rounds_stop, rounds_step, run_more, settle_parts, settle_replay}
use Rattle.rows.proofs.OneNumber.{settled_stands}
use Rattle.rows.proofs.SettleFacts.{settles}
use Rattle.rows.proofs.StripFacts.{strip_none}

-- before the last round two or more numbers are left
rounds_before : (most k : ℕ) (f g : Filed) (s : Settled) (j : ℕ) → rounds_run k f ≡ Some g → rounds_from most k g ≡ Some s → k ≤ j → j < s.rounds
    → (h : Filed) × (rounds_run j f ≡ Some h) × (2 ≤ length h.numbers)
unfolding rounds_from
rounds_before zero k f g s j so_far is from below = let e : settled g k ≡ s = cc in absurd (omega (arith, ap (λ t. t.rounds) e))
rounds_before (suc most) k f g s j so_far is from below =
    elim (rounds_step most k g s is) [
      | inl stopped ↦ absurd (omega (arith, ap (λ t. t.rounds) stopped.1))
      | inr on ↦ elim (cases_eq j k) [
        | inl here ↦ (g, ap (λ i. rounds_run i f) here ∙ so_far, on.0)
        | inr later ↦ rounds_before most (k + 1) f on.1 s j (run_more k f g on.1 so_far on.2) on.3 (omega arith) below
      ]
    ]

pub string_stops_first : (most : ℕ) (f : Filed) (s : Settled) (j : ℕ) → rounds_from most 0 f ≡ Some s → j < s.rounds
    → (g : Filed) × (rounds_run j f ≡ Some g) × (2 ≤ length g.numbers)
unfolding rounds_run
string_stops_first most f s j is below = rounds_before most 0 f f s j refl is (omega arith) below

pub stops_first : (rows : List Row) (codes : List ℕ) (s : Settled) (j : ℕ) → settle rows codes ≡ Some s → j < s.rounds
    → (f : Filed) × (after_rounds j rows codes ≡ Some f) × (2 ≤ length f.numbers)
unfolding after_rounds
stops_first rows codes s j h below =
    let parts = settle_parts rows codes s h in
    let left = string_stops_first (enough_rounds (length codes)) parts.0 s j parts.2 below in
    (left.0, ap (λ o. then o (rounds_run j)) parts.1 ∙ left.1, left.2)

-- the rounds on the leaves of a strip are what the strip settles to
pub settle_from_leaves : (old rows : List Row) (codes numbers : List ℕ) → leaves old codes ≡ Some (record { numbers = numbers; rows = rows })
    → settle old codes ≡ rounds_from (enough_rounds (length numbers)) 0 (record { numbers = numbers; rows = rows })
unfolding settle
settle_from_leaves old rows codes numbers h =
    let grown = file_all_grows 0 (map leaf_block codes) old (record { numbers = numbers; rows = rows }) h in
    let many : length codes ≡ length numbers = sym (length_named rows (map leaf_block codes) numbers grown.names ∙ length-map codes leaf_block) in
    ap (λ o. then o (rounds_from (enough_rounds (length codes)) 0)) h ∙ ap (λ n. rounds_from (enough_rounds n) 0 (record { numbers = numbers; rows = rows })) many

-- at most one code has no round
pub no_rounds : (rows : List Row) (codes : List ℕ) (s : Settled) → settle rows codes ≡ Some s → length codes ≤ 1 → s.rounds ≡ 0
no_rounds rows codes s h few =
    let parts = settle_parts rows codes s h in
    let f = parts.0 in
    let names = (file_all_grows 0 (map leaf_block codes) rows f parts.1).names in
    let as_many : length f.numbers ≡ length codes = length_named f.rows (map leaf_block codes) f.numbers names ∙ length-map codes leaf_block in
    let stops = sym (rounds_stop (enough_rounds (length codes)) 0 f (omega arith)) ∙ parts.2 in
    let e : settled f 0 ≡ s = cc in
    sym (ap (λ g. g.rounds) e)

-- the row of the number that a strip comes to keeps the count of its rounds
kept_of_some : (rows : List Row) (codes : List ℕ) (s : Settled) → Lawful rows → length codes ≤ 65535 → settle rows codes ≡ Some s
    → 0 < number_left s.numbers → (row_of s.rows (number_left s.numbers)).round ≡ s.rounds
kept_of_some rows codes s law short h some =
    let n = number_left s.numbers in
    let stands = settled_stands rows codes s law short h in
    let row = row_lawful s.rows (settles rows codes s law short h).lawful n some stands.known in
    let alone : settle (take n s.rows) codes ≡ Some (record { numbers = n ∷ []; rows = take n s.rows; rounds = (row_of s.rows n).round }) =
    ap (settle (take n s.rows)) (sym stands.writes) ∙ row.comes in
    let on_all = settle_replay (take n s.rows) codes (record { numbers = n ∷ []; rows = take n s.rows; rounds = (row_of s.rows n).round }) (drop n s.rows) alone in
    let again = settle_replay rows codes s [] h in
    let left : settle s.rows codes ≡ Some (record { numbers = n ∷ []; rows = take n s.rows ++ drop n s.rows; rounds = (row_of s.rows n).round }) =
    ap (λ rs. settle rs codes) (sym (take-append-drop n s.rows)) ∙ on_all in
    let right : settle s.rows codes ≡ Some (record { numbers = s.numbers; rows = s.rows ++ []; rounds = s.rounds }) =
    ap (λ rs. settle rs codes) (sym (append-nil s.rows)) ∙ again in
    ap (λ g. g.rounds) (same_Some _ _ (sym left ∙ right))

-- also number 0, of no codes
pub rounds_kept : (rows : List Row) (codes : List ℕ) (s : Settled) → Lawful rows → length codes ≤ 65535 → settle rows codes ≡ Some s
    → (row_of s.rows (number_left s.numbers)).round ≡ s.rounds
rounds_kept rows codes s law short h =
    let stands = settled_stands rows codes s law short h in
    elim (cases_eq (number_left s.numbers) 0) [
      | inl none ↦
          let empty : codes ≡ [] = sym stands.writes ∙ ap (strip s.rows) none ∙ strip_none s.rows in
          ap (λ n. (row_of s.rows n).round) none ∙ sym (no_rounds rows codes s h (omega (arith, ap length empty)))
      | inr some ↦ kept_of_some rows codes s law short h (omega arith)
    ]
