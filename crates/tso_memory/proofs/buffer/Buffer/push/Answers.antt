use Rattle.std.specs.Result.{is_ok}
use Rattle.tso_memory.proofs.Items.{IsQueue-pushed}
use Rattle.tso_memory.proofs.buffer.Buffer.push.Goals as goal

pub invariant_of-self : goal.invariant_of-self
invariant_of-self c = IsQueue-pushed (is_ok c.push.result) c.self.inside.list.items c.push.new.self.items c.self.inside.head c.args.item c.push.ensures.items c.self.invariant c.requires
