use Rattle.std.proofs.Common.{ap, ◌∙◌, sym, is_some}
use Rattle.tso_memory.specs.Memory.{holds}
use Rattle.tso_memory.proofs.ObjectLists.{is_some-find}
use Rattle.tso_memory.proofs.object.is_held.Goals as goal

pub returns-in-Some : goal.returns-in-Some
returns-in-Some c = sym (ap is_some c.in-Some.is) ∙ (ap is_some c.find_object.ensures ∙ is_some-find (λ o. holds o c.args.base c.args.size) c.args.objects.now)

pub returns-in-None : goal.returns-in-None
returns-in-None c = sym (ap is_some c.in-None.is) ∙ (ap is_some c.find_object.ensures ∙ is_some-find (λ o. holds o c.args.base c.args.size) c.args.objects.now)
