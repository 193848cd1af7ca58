use Rattle.periodicity.proofs.Proved.{tests_hold, greatest_common, difference_repeats, least_divides, overlaps_progress, places_progress, overlaps_exact, places_exact, records_name}
use Rattle.periodicity.proofs.laws_of_periodicity.Goals as goal

pub returns : goal.returns
returns c =
    record {
      tests = tests_hold;
      greatest = greatest_common;
      difference = difference_repeats;
      least = least_divides;
      overlaps = overlaps_progress;
      places = places_progress;
      overlaps_exact = overlaps_exact;
      places_exact = places_exact;
      records = records_name;
    }
