-- The laws of rows, from the theory. Assumes nothing.
use Rattle.rows.proofs.ByShapes.{told_by_shapes}
use Rattle.rows.proofs.LawfulFacts.{lawful_take}
use Rattle.rows.proofs.StripFacts.{strip_append}
use Rattle.rows.proofs.laws_of_rows.Goals as goal

pub returns : goal.returns
returns c = record { stay = strip_append; front = lawful_take; shapes = told_by_shapes }
