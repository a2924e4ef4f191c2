use Rattle.c_round_trip.proofs.OneList.{one_tokens}
use Rattle.c_round_trip.proofs.laws.tokens_are_one_list.Goals as goal

pub returns : goal.returns
returns c = one_tokens
