use Rattle.c_grammar.proofs.Deep as deep
use Rattle.c_grammar.proofs.laws.least_nesting.Goals as goal

pub returns : goal.returns
returns c = deep.least
