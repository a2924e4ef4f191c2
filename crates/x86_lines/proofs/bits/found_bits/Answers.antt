use Rattle.std.proofs.Common.{ap, ◌∙◌}
use Rattle.x86_lines.specs.Finding.{bits_in, bits_from}
use Rattle.x86_lines.proofs.bits.found_bits.Goals as goal

pub returns-in-Some-clause-exact : goal.returns-in-Some-clause-exact
unfolding bits_in
returns-in-Some-clause-exact c = c.number_bits.ensures.exact ∙ ap (bits_from c.args.half) c.in-Some.ensures

pub returns-in-None-clause-exact : goal.returns-in-None-clause-exact
unfolding bits_in
returns-in-None-clause-exact c = ap (bits_from c.args.half) c.in-None.ensures
