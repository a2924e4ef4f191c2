use Rattle.x86_lines.proofs.Sizes.{stays_past}
use Rattle.x86_lines.proofs.number.size_of.Goals as goal

pub returns-in-None : goal.returns-in-None
returns-in-None c = stays_past c.args.radix c.loop-rest.size _ c.loop-rest.rest.now c.requires c.in-len1-up.len_at_least c.in-None.ensures c.loop-rest.invariant.0
