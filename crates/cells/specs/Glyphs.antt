-- What the kind of glyphs says of its cells and codes. Assumes nothing.
use Rattle.std.specs.Prelude.{◌≡◌, ℕ, min, Bool, cond, Some, None, Option, nat_lt}
use Rattle.cells.specs.Giving.{given_by}
use Rattle.cells.specs.declared.glyph.Glyph.{Glyph}

-- The glyph with a number.
abbrev pub glyph_of : ℕ → Glyph
glyph_of n = record { 0 = n }

-- Two glyphs are the same when their numbers are equal.
abbrev pub same_glyph : Glyph → Glyph → Type 0
same_glyph x y = x.0 ≡ y.0

-- The blank is glyph 32.
abbrev pub blank_glyph : Glyph
blank_glyph = glyph_of 32

-- The codes of glyphs are the numbers of 16 bits.
abbrev pub glyph_known : ℕ → Bool
glyph_known n = nat_lt n 65536

-- A glyph's code is its number. Every glyph in a program has a number of 16 bits, so every one is printable;
-- the test is there because laws speak of larger numbers too.
abbrev pub glyph_code : Glyph → Option ℕ
glyph_code x = cond (glyph_known x.0) (Some x.0) None

-- The glyph that a number spells: the one with that number, and glyph 65535 for a number past 16 bits.
abbrev pub spelled_glyph : ℕ → Glyph
spelled_glyph n = glyph_of (min n 65535)

-- The glyph given back for a code, and the blank for a number that is no code.
abbrev pub glyph_given : ℕ → Glyph
glyph_given = given_by glyph_known spelled_glyph blank_glyph
