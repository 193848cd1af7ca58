-- What a strip on a shelf shows: its shelf, its number and its codes. Assumes nothing.
use Rattle.std.specs.Prelude.{ℕ, List}
use Rattle.keepers.specs.Shortness.{AllShort}
use Rattle.rows.specs.Strips.{strip}
use Rattle.shelf.specs.declared.Shelf.{Shelf}
use Rattle.shelf.specs.Contents.{rows_on}
use Rattle.shelf_strip.specs.declared.strip.ShelfStrip.{ShelfStrip}

abbrev pub shelf_of : ShelfStrip → Shelf
shelf_of kept = kept.shelf.now

abbrev pub number_of : ShelfStrip → ℕ
number_of kept = kept.number

-- the number's strip on that shelf
abbrev pub strip_of : ShelfStrip → List ℕ
strip_of kept = strip (rows_on (shelf_of kept)) (number_of kept)

-- it is short enough for a keeper, by what the type keeps
pub strip_of_short : AllShort strip_of
strip_of_short kept = kept.few
