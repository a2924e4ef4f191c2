use Rattle.c_tokens.proofs.Unique.{one_list}
use Rattle.c_tokens.proofs.laws.tokens_are_unique.Goals as goal

pub returns : goal.returns
returns c = one_list
