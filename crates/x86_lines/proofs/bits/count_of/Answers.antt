use Rattle.x86_lines.proofs.BitsFound.{count_found}
use Rattle.x86_lines.proofs.bits.count_of.Goals as goal

pub returns : goal.returns
returns c = count_found c.args.word.now c.found_count.result c.found_count.ensures
