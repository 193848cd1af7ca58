-- Cursors, and what a step from two of them says. Assumes nothing.
use Rattle.std.specs.Prelude.{◌≡◌, ℕ, ◌+◌, ◌-◌, ◌%◌, ◌<◌, ◌≤◌, Bool, cond, ◌&&◌, List, length, Some, None, Option, ◌==◌, ◌≢◌, nat_lt, slice_index}
use Rattle.rows.specs.declared.Shape.TheVariants.{Leaf}
use Rattle.rows.specs.declared.Row.{Row}
use Rattle.rows.specs.Filing.{row_of}
use Rattle.keepers.specs.declared.side.Side.{Side}
use Rattle.shelf_strip.specs.declared.cursor.Cursor.{Cursor}
use Rattle.shelf_strip.specs.Sides.{seen}

-- whether two cursors stand at the same place of one number's strip
abbrev pub same_stand : Cursor → Cursor → Bool
same_stand a b = a.number == b.number && a.place == b.place

-- at a place of a number's strip, which has so many codes; it reaches the strip's end
abbrev pub at_place : ℕ → ℕ → ℕ → Cursor
at_place number long place = record { number = number; place = place; reach = long - place }

-- a place of a pair, as a place of the first part or of the second
abbrev pub in_pair : ℕ → ℕ → ℕ → ℕ → ℕ → Cursor
in_pair first first_length second second_length place =
    cond (nat_lt place first_length)
    (record { number = first; place = place; reach = first_length - place })
    (record { number = second; place = place - first_length; reach = second_length - (place - first_length) })

-- a place of a repeat, as a place of one copy, with all that is left of the repeat in reach
abbrev pub in_copies : ℕ → ℕ → ℕ → ℕ → Cursor
in_copies part part_length whole_length place = record { number = part; place = place % part_length; reach = whole_length - place }

-- the code that lies k places on from a cursor, where copies of its number's strip stand side by side
unfoldable pub code_under : Side → List Row → Cursor → ℕ → ℕ
code_under side rows c k = slice_index (seen side rows c.number) ((c.place + k) % length (seen side rows c.number))

-- a cursor stands within its number's strip, and reaches its end
pub record Stands (side : Side) (rows : List Row) (c : Cursor) : Type 0 where
  pub within : c.place < length (seen side rows c.number)
  pub reaches : length (seen side rows c.number) ≤ c.place + c.reach

-- a cursor d of a smaller number goes on as c does, no further than c reaches
pub record Continues (side : Side) (rows : List Row) (c d : Cursor) : Type 0 where
  pub stands : Stands side rows d
  pub falls : d.number < c.number
  pub short : d.reach ≤ c.reach
  pub each : (k : ℕ) → k < d.reach → code_under side rows d k ≡ code_under side rows c k

-- a cursor goes on in a part of its row; one on a leaf does not
abbrev pub Descends : Side → List Row → Cursor → Option Cursor → Type 0
Descends side rows c None = (code : ℕ) × ((row_of rows c.number).shape ≡ Leaf code)
Descends side rows c (Some d) = Continues side rows c d

-- n codes from two cursors on agree, none only where the first ones differ
pub record Steps (side : Side) (rows : List Row) (a b : Cursor) (n : ℕ) : Type 0 where
  pub left_short : n ≤ a.reach
  pub right_short : n ≤ b.reach
  pub each : (k : ℕ) → k < n → code_under side rows a k ≡ code_under side rows b k
  pub stops : n ≡ 0 → code_under side rows a 0 ≢ code_under side rows b 0
