-- The laws of blocks, from the theory. Assumes nothing.
use Rattle.rows.proofs.Parsing.{spelled_blocks, blocks_part, blocks_cut_up}
use Rattle.rows.proofs.Seams.{blocks_apart, apart_blocks, stretch_whole, pair_made}
use Rattle.rows.proofs.laws_of_blocks.Goals as goal

pub returns : goal.returns
returns c =
    record {
      cut = blocks_cut_up;
      stretches = stretch_whole;
      pairs = pair_made;
      seam = λ k a b some_a some_b. (apart_blocks k 0 0 a b some_a some_b, blocks_apart k 0 0 a b);
      spell = spelled_blocks;
      local = blocks_part;
    }
