use Rattle.std.proofs.Common.{ap, ◌∙◌}
use Rattle.x86_lines.specs.Finding.{count_in, count_from}
use Rattle.x86_lines.proofs.bits.found_count.Goals as goal

pub returns-in-Some : goal.returns-in-Some
unfolding count_in
returns-in-Some c = c.number_count.ensures ∙ ap (count_from) c.in-Some.ensures

pub returns-in-None : goal.returns-in-None
unfolding count_in
returns-in-None c = ap (count_from) c.in-None.ensures
