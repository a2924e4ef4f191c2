use Rattle.std.proofs.Common.{◌∙◌}
use Rattle.x86_table.specs.declared.table.TheConstants.{FORMS}
use Rattle.x86_lines.proofs.Found.{found_mnemonic}
use Rattle.x86_print.proofs.printing.mnemonic_text.Goals as goal

pub returns : goal.returns
returns c = c.text.ensures ∙ found_mnemonic FORMS _ _ c.form_of.result _ c.form_of.ensures
