use Rattle.std.proofs.Common.{arith, ◌/◌}
use Rattle.x86_memory.proofs.PageLookups.{byte_in-set, entry_read, open_within}
use Rattle.x86_memory.proofs.memory.Memory.set.Goals as goal

pub returns-in-Some-clause-written : goal.returns-in-Some-clause-written
returns-in-Some-clause-written c =
    let within = open_within c.self.inside.table.items (c.args.x / 16384) (rw (← c.self.view_is) at c.requires) in
    let entry = entry_read c.self.inside.table.items (c.args.x / 16384) c.self.inside.table.len c.in-Some.page c.index.result.now c.self.inside.table.ok.0 (omega (arith, within, c.self.inside.table.ok.0)) c.index.ensures c.in-Some.is in
    λ y. rw (← c.self.view_is) (byte_in-set c.self.inside.table.items c.self.inside.bytes.items c.self.inside.count c.args.x c.in-Some.page c.args.byte c.self.invariant entry y)
