use Rattle.x86_lines.specs.Finding.{register_in}
use Rattle.x86_lines.proofs.register_names.found_register.Goals as goal

pub returns : goal.returns
unfolding register_in
returns c = c.first_register.ensures
