use Rattle.c_round_trip.proofs.Texts.{same_text}
use Rattle.c_round_trip.proofs.Trips.{fewest}
use Rattle.c_round_trip.proofs.laws.printed_text_is_least.Goals as goal

pub returns : goal.returns
returns c = record {
  placeless = same_text;
  fewest = fewest;
}
