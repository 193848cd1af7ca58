-- Requests performed one after the other. Assumes nothing.
use Rattle.std.proofs.Common.{◌≡◌, ℕ, ◌+◌, ◌<◌, min, eqb, List, [], ◌∷◌, ◌++◌, map, length, get_or, take, set, Option, Result, sym, ap, ◌∙◌}
use Rattle.std.proofs.lemmas.List.{take_more, take_more_set, map-append}
use Rattle.book.specs.Calls.{Book, turn}
use Rattle.book.specs.Runs.{book_after, answers_of}
use Rattle.book.specs.Laws.{RunsGoOn}
use Rattle.shelf.specs.declared.refusal.Refusal.{Refusal}
use Rattle.shelf.specs.declared.request.Sent.{Sent}
use Rattle.shelf.specs.Refusals.{told, ComesTo}
use Rattle.shelf.specs.Sending.{call_of, sent_with, calls_sent}

module _ {C : Type 0} (kind tag : ℕ) (coded : C → Option ℕ) (old : Book) (area : ℕ) (requests : List (Sent C)) where
  -- the first i requests are performed
  abbrev pub Performed : ℕ → Book → List (Result ℕ Refusal) → Type 0
  Performed i book answers =
      (book ≡ book_after (eqb kind tag) coded old (calls_sent area (take i requests)))
      × (map told (take i answers) ≡ answers_of (eqb kind tag) coded old (calls_sent area (take i requests)))

  one_more : (i : ℕ) (s : Sent C) → i < length requests → s ≡ get_or requests i s → calls_sent area (take (i + 1) requests) ≡ calls_sent area (take i requests) ++ (sent_with area s ∷ [])
  one_more i s inside is =
      ap (calls_sent area) (take_more requests i s inside ∙ ap (λ x. take i requests ++ (x ∷ [])) (sym is)) ∙ map-append (sent_with area) (take i requests) (s ∷ [])

  pub performed_more : RunsGoOn coded → (i : ℕ) (s : Sent C) (book after : Book) (answers : List (Result ℕ Refusal)) (r : Result ℕ Refusal) (now_kind room : ℕ) → i < length requests → s ≡ get_or requests i s → i < length answers
      → now_kind ≡ kind → room ≡ area → Performed i book answers → ComesTo r after (turn (eqb now_kind tag) coded book (call_of s.request) (min s.places room)) → Performed (i + 1) after (set answers i r)
  performed_more goes_on i s book after answers r now_kind room inside is fits same_kind same_room so_far comes =
      let sents = calls_sent area (take i requests) in
      let t = turn (eqb kind tag) coded (book_after (eqb kind tag) coded old sents) (call_of s.request) (min s.places area) in
      let same_turn : turn (eqb now_kind tag) coded book (call_of s.request) (min s.places room) ≡ t =
      ap (λ k. turn (eqb k tag) coded book (call_of s.request) (min s.places room)) same_kind
      ∙ ap (λ n. turn (eqb kind tag) coded book (call_of s.request) (min s.places n)) same_room
      ∙ ap (λ b. turn (eqb kind tag) coded b (call_of s.request) (min s.places area)) so_far.0 in (
        comes.1 ∙ ap (λ u. u.book) same_turn ∙ sym (goes_on (eqb kind tag) old sents (sent_with area s ∷ [])).book ∙ ap (book_after (eqb kind tag) coded old) (sym (one_more i s inside is)),
        ap (map told) (take_more_set answers i r fits) ∙ map-append told (take i answers) (r ∷ [])
            ∙ ap (λ xs. xs ++ (told r ∷ [])) so_far.1
            ∙ ap (λ x. answers_of (eqb kind tag) coded old sents ++ (x ∷ [])) (comes.0 ∙ ap (λ u. u.answer) same_turn)
            ∙ sym (goes_on (eqb kind tag) old sents (sent_with area s ∷ [])).answers ∙ ap (answers_of (eqb kind tag) coded old) (sym (one_more i s inside is)),
      )
