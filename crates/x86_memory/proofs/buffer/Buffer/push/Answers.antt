use Rattle.std.specs.Result.{is_ok}
use Rattle.x86_memory.proofs.Writes.{IsQueue-pushed}
use Rattle.x86_memory.proofs.buffer.Buffer.push.Goals as goal

pub invariant_of-self : goal.invariant_of-self
invariant_of-self c = IsQueue-pushed (is_ok c.push.result) c.self.inside.list.items c.push.new.self.items c.self.inside.head c.args.write c.push.ensures.items c.self.invariant c.requires
