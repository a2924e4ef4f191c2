use Rattle.x86_lines.specs.Finding.{byte_in}
use Rattle.x86_lines.proofs.register_names.found_byte.Goals as goal

pub returns : goal.returns
unfolding byte_in
returns c = c.first_byte.ensures
