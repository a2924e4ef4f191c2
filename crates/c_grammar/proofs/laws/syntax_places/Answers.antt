use Rattle.c_grammar.proofs.Exact as exact
use Rattle.c_grammar.proofs.laws.syntax_places.Goals as goal

pub returns : goal.returns
returns c = record {
  refused = exact.refused;
  unfinished = exact.unfinished;
  done = exact.done_file;
}
