use Rattle.std.proofs.Common.{ap, ◌∙◌, sym, is_some}
use Rattle.tso_memory.proofs.ObjectLists.{is_live-find}
use Rattle.tso_memory.proofs.object.is_live_at.Goals as goal

pub returns-in-Some : goal.returns-in-Some
returns-in-Some c = sym (ap is_some c.in-Some.is) ∙ (ap is_some c.find_object.ensures ∙ is_live-find c.args.objects.now c.args.x)

pub returns-in-None : goal.returns-in-None
returns-in-None c = sym (ap is_some c.in-None.is) ∙ (ap is_some c.find_object.ensures ∙ is_live-find c.args.objects.now c.args.x)
