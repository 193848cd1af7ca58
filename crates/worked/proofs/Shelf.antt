-- The examples of rows and rounds compute to what they state, once the calls and the rounds are opened. Assumes nothing.
use Rattle.std.proofs.Common.{refl}
use Rattle.rows.specs.Filing.{find}
use Rattle.rows.specs.Lawful.{lawful_row}
use Rattle.rows.specs.Rounds.{is_left, blocks, file_all, rounds_from, settle}
use Rattle.rows.specs.Strips.{strip}
use Rattle.book.specs.Calls.{filing, taken, joined_up, cut_out}
use Rattle.worked.specs.Examples.{AllHold}
use Rattle.worked.specs.Shelf.{shelf_examples}
use Rattle.worked.proofs.Joins.{◌also◌}

pub shelf_hold : AllHold shelf_examples
unfolding taken filing joined_up cut_out settle rounds_from file_all blocks is_left find strip lawful_row
shelf_hold = refl also refl also refl also refl also refl also refl also refl also refl also refl also refl also refl also refl also refl also tt
