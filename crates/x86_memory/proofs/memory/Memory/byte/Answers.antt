use Rattle.std.proofs.Common.{arith, ◌%◌, ◌/◌}
use Rattle.x86_memory.proofs.PageLookups.{byte_within, entry_read}
use Rattle.x86_memory.proofs.memory.Memory.byte.Goals as goal

pub index-requires-in-Some : goal.index-requires-in-Some
index-requires-in-Some c =
    let entry = entry_read c.self.inside.table.items (c.args.x / 16384) c.self.inside.table.len c.in-Some.page c.index.result.now c.self.inside.table.ok.0 (omega arith) c.index.ensures c.in-Some.is in
    rw c.self.inside.bytes.ok.0 (byte_within c.self.inside.table.items c.self.inside.bytes.items c.self.inside.count (c.args.x / 16384) c.in-Some.page (c.args.x % 16384) c.self.invariant entry (omega arith))
