-- Lists of calls, each with the number of work places that it may use. Assumes nothing.
use Rattle.std.specs.Prelude.{ℕ, Bool, List, [], ◌∷◌, Option}
use Rattle.book.specs.Calls.{Call, Answer, Book, turn, wrote}

pub record Sent (C : Type 0) : Type 0 where
  pub call : Call C
  pub places : ℕ

module _ {C : Type 0} (same_kind : Bool) (coded : C → Option ℕ) where
  -- the book after a list of calls, each working on what the earlier ones left
  abbrev pub book_after : Book → List (Sent C) → Book
  book_after book [] = book
  book_after book (sent ∷ rest) = book_after (turn same_kind coded book sent.call sent.places).book rest

  -- their answers
  abbrev pub answers_of : Book → List (Sent C) → List Answer
  answers_of book [] = []
  answers_of book (sent ∷ rest) = (turn same_kind coded book sent.call sent.places).answer ∷ answers_of (turn same_kind coded book sent.call sent.places).book rest

  -- and the strips that they wrote
  abbrev pub strips_of : (ℕ → C) → Book → List (Sent C) → List (List C)
  strips_of given book [] = []
  strips_of given book (sent ∷ rest) = wrote given book sent.call ∷ strips_of given (turn same_kind coded book sent.call sent.places).book rest
