use Rattle.c_round_trip.proofs.Trips.{read_tree, reads_again, reads_only}
use Rattle.c_round_trip.proofs.laws.read_text_prints.Goals as goal

pub returns : goal.returns
returns c = record {
  tree = read_tree;
  again = reads_again;
  only = reads_only;
}
