use Rattle.c_grammar.proofs.Exact.{read_begins, begins_read, read_spelled, spelled_read}
use Rattle.c_grammar.proofs.laws.reads_on.Goals as goal

pub returns : goal.returns
returns c = record {
  on = read_begins;
  only = begins_read;
  ends = λ ts f e. read_spelled f ts e;
  whole = λ ts f h. spelled_read f ts h;
}
