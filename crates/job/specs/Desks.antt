-- How things stand on a desk, and what a turn there does. Assumes nothing.
use Rattle.std.specs.Prelude.{◌≡◌, ℕ, ◌-◌, length, cond, List, [], ◌∷◌, Some, None, vec_items, Option, true}
use Rattle.cells.specs.declared.glyph.Glyph.{Glyph}
use Rattle.shelf.specs.Contents.{book_of}
use Rattle.job.specs.declared.command.Command.{Command}
use Rattle.job.specs.declared.command.Command.TheVariants.{Glyph as put, Take, Join, Cut, Places}
use Rattle.job.specs.declared.desk.Desk.{Desk}
use Rattle.job.specs.declared.line.Line.{Line}
use Rattle.job.specs.Commands.{Front}
use Rattle.job.specs.Runs.{Standing, Told, stopped, has_room, fits, told_by, after}
use Rattle.job.specs.Lines.{told_in}

abbrev pub standing_of : Desk → Standing
standing_of d = record { book = book_of d.shelf; tray = vec_items d.tray }

-- the command that was read, with the bytes after it, unless it cannot be done
abbrev pub doable : List Glyph → Front Command → Front Command
doable tray None = None
doable tray (Some read) = cond (fits tray read.0) (Some read) None

-- what a line tells, if there is one
abbrev pub told_lines : Option Line → List Told
told_lines None = []
told_lines (Some l) = told_in l ∷ []

-- what is told at the end, with these bytes of a job left that no command that can be done begins
abbrev pub told_at_end : List ℕ → List ℕ → List Told
told_at_end job [] = []
told_at_end job (b ∷ bs) = stopped (length job - length (b ∷ bs)) ∷ []

-- a command that puts a glyph on a tray with room for it, which alone takes memory
abbrev pub PutsGlyph : List Glyph → Command → Type 0
PutsGlyph tray (put number) = has_room tray ≡ true
PutsGlyph tray Take = ⊥
PutsGlyph tray (Join left right) = ⊥
PutsGlyph tray (Cut number part) = ⊥
PutsGlyph tray (Places number pattern field) = ⊥

-- what a command tells, and how it leaves things
pub record Does (before : Standing) (command : Command) (tells : List Told) (standing : Standing) : Type 0 where
  pub tells_it : tells ≡ told_by before command
  pub leaves : standing ≡ after before command
