use Rattle.c_round_trip.proofs.Trips.{reads_as, reads_or_deep}
use Rattle.c_round_trip.proofs.laws.printed_text_reads.Goals as goal

pub returns : goal.returns
returns c = record {
  spells = reads_as;
  answers = reads_or_deep;
}
