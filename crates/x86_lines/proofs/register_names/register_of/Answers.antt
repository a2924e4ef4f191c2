use Rattle.x86_lines.specs.declared.register_names.TheConstants.{REGISTERS}
use Rattle.x86_lines.specs.Registers.{register_text}
use Rattle.x86_lines.specs.Finding.{register_in}
use Rattle.x86_lines.proofs.Registered.{names_of, all_registers}
use Rattle.x86_lines.proofs.register_names.register_of.Goals as goal

pub returns : goal.returns
unfolding register_in
returns c = names_of register_text c.args.word.now REGISTERS c.found_register.result all_registers c.found_register.ensures
