use Rattle.x86_lines.specs.Finding.{half_in}
use Rattle.x86_lines.proofs.register_names.found_half.Goals as goal

pub returns : goal.returns
unfolding half_in
returns c = c.first_half.ensures
