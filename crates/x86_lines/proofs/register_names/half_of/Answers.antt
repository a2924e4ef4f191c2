use Rattle.x86_lines.specs.declared.register_names.TheConstants.{HALVES}
use Rattle.x86_lines.specs.Registers.{half_text}
use Rattle.x86_lines.specs.Finding.{half_in}
use Rattle.x86_lines.proofs.Registered.{names_of, all_halves}
use Rattle.x86_lines.proofs.register_names.half_of.Goals as goal

pub returns : goal.returns
unfolding half_in
returns c = names_of half_text c.args.word.now HALVES c.found_half.result all_halves c.found_half.ensures
