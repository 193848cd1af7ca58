-- Worked examples of rows and rounds: what calls on one new shelf of glyphs come to. Each works on the rows
-- that the one before left. Assumes nothing.
use Rattle.std.specs.Prelude.{◌≡◌, ℕ, true, false, List, [], ◌∷◌, ◌++◌, map}
use Rattle.cells.specs.Glyphs.{glyph_of, glyph_code}
use Rattle.rows.specs.declared.Row.{Row}
use Rattle.rows.specs.declared.Shape.{Shape}
use Rattle.rows.specs.declared.Shape.TheVariants.{Leaf, Pair, Repeat}
use Rattle.rows.specs.Lawful.{lawful_row}
use Rattle.book.specs.Calls.{Book, no_rows, with_rows, Turn, strip_number, refused, refusing, taken, joined_up, cut_out}
use Rattle.worked.specs.Examples.{Examples}

-- a row of that shape, length and round
abbrev pub made_row : Shape → ℕ → ℕ → Row
made_row shape size made_in = record { shape = shape; length = size; round = made_in }

-- glyphs 5 and 9 are leaves; in round 2 number 1 is left and number 2 right
abbrev pub three_rows : List Row
three_rows = made_row (Leaf 5) 1 0 ∷ made_row (Leaf 9) 1 0 ∷ made_row (Pair 1 2) 2 2 ∷ []

-- in round 4 number 2 is left and number 1 right
abbrev pub four_rows : List Row
four_rows = three_rows ++ (made_row (Pair 2 1) 2 4 ∷ [])

-- round 1 files a stretch
abbrev pub five_rows : List Row
five_rows = four_rows ++ (made_row (Repeat 1 3) 3 1 ∷ [])

-- round 2 leaves 3, 3, 1, round 3 files the stretch, and in round 4 number 6 is left and number 1 right
abbrev pub seven_rows : List Row
seven_rows = five_rows ++ (made_row (Repeat 3 2) 4 3 ∷ made_row (Pair 6 1) 5 4 ∷ [])

-- round 2 leaves 3, 1, and in round 4 number 3 is left and number 1 right
abbrev pub eight_rows : List Row
eight_rows = seven_rows ++ (made_row (Pair 3 1) 3 4 ∷ [])

-- round 2 leaves 2, 3; no bit of 2 is 1 where that of 3 is 0, so that they pair in round 24, where a 0 as
-- the lowest bit makes a number left
abbrev pub nine_rows : List Row
nine_rows = eight_rows ++ (made_row (Pair 2 3) 3 24 ∷ [])

-- a book with these rows
abbrev pub book_with : List Row → Book
book_with rows = with_rows no_rows rows

-- a call is answered by the number of a strip and leaves these rows
abbrev pub answering : ℕ → List Row → Turn
answering n rows = record { answer = strip_number n; book = book_with rows }

-- a call is refused by this number and leaves the rows as they stood
abbrev pub refused_on : List Row → ℕ → Turn
refused_on rows number = refusing (book_with rows) (refused number)

-- the glyphs with these numbers are taken, with so many work places
abbrev pub take_glyphs : List Row → List ℕ → ℕ → Turn
take_glyphs rows numbers places = taken true glyph_code (book_with rows) (map glyph_of numbers) places

-- the same for a shelf of another kind number
abbrev pub take_other_kind : List Row → List ℕ → ℕ → Turn
take_other_kind rows numbers places = taken false glyph_code (book_with rows) (map glyph_of numbers) places

abbrev pub shelf_examples : Examples
shelf_examples =
    -- two leaves and their pair
    (take_glyphs [] (5 ∷ 9 ∷ []) 16 ≡ answering 3 three_rows)
    -- the other way round they pair a round of pairs later
    ∷ (take_glyphs three_rows (9 ∷ 5 ∷ []) 16 ≡ answering 4 four_rows)
    -- three of a glyph are one repeat
    ∷ (take_glyphs four_rows (5 ∷ 5 ∷ 5 ∷ []) 16 ≡ answering 5 five_rows)
    -- a repeat of a row that was there, and a pair of the repeat and a leaf
    ∷ (take_glyphs five_rows (5 ∷ 9 ∷ 5 ∷ 9 ∷ 5 ∷ []) 16 ≡ answering 7 seven_rows)
    -- 5, 9 and 5 joined
    ∷ (joined_up (book_with seven_rows) 3 1 16 ≡ answering 8 eight_rows)
    -- 9, 5, 9 out of 5, 9, 5, 9, 5
    ∷ (cut_out (book_with eight_rows) 7 1 3 16 ≡ answering 9 nine_rows)
    -- a strip that has a number keeps it, and no row is added
    ∷ (take_glyphs nine_rows (5 ∷ 9 ∷ []) 16 ≡ answering 3 nine_rows)
    -- row 7 keeps what a shelf promises of a row
    ∷ (lawful_row nine_rows 7 ≡ true)
    -- and so does row 9, made by a cut
    ∷ (lawful_row nine_rows 9 ≡ true)
    -- a shelf of another kind number
    ∷ (take_other_kind nine_rows (5 ∷ 9 ∷ []) 16 ≡ refused_on nine_rows 1)
    -- two cells do not fit one work place, although their number is known
    ∷ (take_glyphs nine_rows (5 ∷ 9 ∷ []) 1 ≡ refused_on nine_rows 4)
    -- nine rows have no number 10
    ∷ (joined_up (book_with nine_rows) 3 10 16 ≡ refused_on nine_rows 6)
    -- four cells from 2 on leave a strip of five
    ∷ (cut_out (book_with nine_rows) 7 2 4 16 ≡ refused_on nine_rows 7)
    ∷ []
