use Rattle.std.proofs.Common.{sym, ◌∙◌}
use Rattle.x86_lines.proofs.FirstPiece.{name_holds, name_passes}
use Rattle.x86_lines.proofs.piece.is_name.Goals as goal

pub returns : goal.returns
returns c = (λ h. name_holds c.args.word.now (sym c.passes_as_name.ensures ∙ h), λ h. c.passes_as_name.ensures ∙ name_passes c.args.word.now h)
