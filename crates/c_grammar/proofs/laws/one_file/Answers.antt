use Rattle.c_grammar.proofs.Exact as exact
use Rattle.c_grammar.proofs.laws.one_file.Goals as goal

pub returns : goal.returns
returns c = exact.one_file
