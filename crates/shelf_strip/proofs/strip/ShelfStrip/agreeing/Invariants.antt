-- What is counted and what still agrees come to the whole.
use Rattle.std.proofs.Common.{◌-◌, ◌≤◌, drop}
use Rattle.periodicity.specs.Agreement.{common}
use Rattle.shelf.specs.Contents.{rows_on}
use Rattle.shelf_strip.specs.Sides.{seen}
use Rattle.shelf_strip.proofs.CountFacts.{Counted}
use Rattle.shelf_strip.proofs.strip.ShelfStrip.agreeing.Given as goal

abbrev pub invariant-loop-agreed : goal.invariant-loop-agreed
invariant-loop-agreed l =
    (l.agreed ≤ l.room)
    × Counted (seen l.view.side (rows_on l.view.shelf.now) l.self.number) l.i l.j (common (drop l.i (seen l.view.side (rows_on l.view.shelf.now) l.self.number)) (drop l.j (seen l.view.side (rows_on l.view.shelf.now) l.self.number))) l.agreed

abbrev pub decreases-loop-agreed : goal.decreases-loop-agreed
decreases-loop-agreed l = l.room - l.agreed
