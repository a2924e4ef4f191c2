use Rattle.std.proofs.Common.{ap, ◌∙◌}
use Rattle.std.specs.List.{list_any}
use Rattle.tso_memory.specs.Memory.{is_met}
use Rattle.tso_memory.proofs.ObjectLists.{apart_iff}
use Rattle.tso_memory.proofs.memory.Memory.is_apart.Goals as goal

pub returns : goal.returns
returns c =
    apart_iff c.is_any_met.result (list_any (is_met c.args.base c.args.size) c.args.self.now.objects) (c.is_any_met.ensures ∙ ap (λ l. list_any (is_met c.args.base c.args.size) l) (c.deref.ensures.value ∙ ap (λ k. k.objects) c.self.view_is))
