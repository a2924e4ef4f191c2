use Rattle.std.proofs.Common.{◌∙◌, ap, nat_eq}
use Rattle.std.specs.Cmp.Lexicographic.{pointwise}
use Rattle.std.specs.Map.{lookup}
use Rattle.tso_core.proofs.Looking.{looked_up}
use Rattle.tso_core.proofs.placement.Placement.find.Goals as goal

pub returns : goal.returns
returns c = c.copied.ensures ∙ c.get.ensures.value ∙ ap (lookup (pointwise nat_eq c.args.name.now)) c.self.view_is ∙ looked_up c.args.name.now c.args.self.now
