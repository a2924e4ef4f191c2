use Rattle.x86_lines.specs.declared.register_names.TheConstants.{BYTES}
use Rattle.x86_lines.specs.Registers.{byte_text}
use Rattle.x86_lines.specs.Finding.{byte_in}
use Rattle.x86_lines.proofs.Registered.{names_of, all_bytes}
use Rattle.x86_lines.proofs.register_names.byte_of.Goals as goal

pub returns : goal.returns
unfolding byte_in
returns c = names_of byte_text c.args.word.now BYTES c.found_byte.result all_bytes c.found_byte.ensures
