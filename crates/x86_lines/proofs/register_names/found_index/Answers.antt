use Rattle.x86_lines.specs.Finding.{index_in}
use Rattle.x86_lines.proofs.register_names.found_index.Goals as goal

pub returns : goal.returns
unfolding index_in
returns c = c.first_index.ensures
