use Rattle.x86_lines.specs.declared.register_names.TheConstants.{INDEXES}
use Rattle.x86_lines.specs.Registers.{register_text, index_register}
use Rattle.x86_lines.specs.Finding.{index_in}
use Rattle.x86_lines.proofs.Registered.{names_of, all_indexes}
use Rattle.x86_lines.proofs.register_names.index_of.Goals as goal

pub returns : goal.returns
unfolding index_in
returns c = names_of (λ r. register_text (index_register r)) c.args.word.now INDEXES c.found_index.result all_indexes c.found_index.ensures
