use Rattle.x86_lines.proofs.BitsFound.{bits_found}
use Rattle.x86_lines.proofs.bits.bits_of.Goals as goal

pub returns : goal.returns
returns c = bits_found c.args.half c.args.word.now c.found_bits.result c.requires.small c.found_bits.ensures.exact
