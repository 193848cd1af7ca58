-- The laws of the rounds, from the theory. Assumes nothing.
use Rattle.std.proofs.Common.{refl}
use Rattle.rows.proofs.Counts.{stops_first, string_stops_first, no_rounds, rounds_kept}
use Rattle.rows.proofs.NamingFacts.{settle_replay, settles_by_rounds}
use Rattle.rows.proofs.OneNumber.{settled_stands}
use Rattle.rows.proofs.RoundFacts.{rounds_shorten}
use Rattle.rows.proofs.RoundLaws.{round_keeps_strip, lawful_between, part_is_fragment}
use Rattle.rows.proofs.SettleFacts.{settles}
use Rattle.rows.proofs.laws_of_rounds.Goals as goal

pub returns : goal.returns
returns c =
    record {
      end = λ rows codes s law short is. (settles rows codes s law short is).left;
      strip = λ rows codes s law short is. (settled_stands rows codes s law short is).writes;
      rows = λ rows codes s law short is. let done = settles rows codes s law short is in (done.lawful, done.added, done.grows);
      replay = λ rows codes s more is.
          record { again = _; settles = settle_replay rows codes s more is; adds_none = refl; comes = refl; same_rounds = refl };
      keep = round_keeps_strip;
      shorten = λ k f s few known long is. rounds_shorten k f.rows f.numbers s few known long is;
      run = settles_by_rounds;
      string_first = string_stops_first;
      first = stops_first;
      none = no_rounds;
      kept = rounds_kept;
      between = lawful_between;
      fragments = part_is_fragment;
    }
