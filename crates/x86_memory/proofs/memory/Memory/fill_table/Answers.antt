use Rattle.std.proofs.Common.{arith, ◌≤◌, length, None, ◌-◌}
use Rattle.std.specs.Result.{is_ok}
use Rattle.x86_memory.proofs.PageLookups.{get_or-resized, ArePages-same}
use Rattle.x86_memory.proofs.memory.Memory.fill_table.Goals as goal

-- the longer table has the same entries
pub invariant_of-self : goal.invariant_of-self
invariant_of-self c =
    let short : length c.self.inside.table.items ≤ 262144 = omega (arith, c.self.inside.table.ok.0) in
    ArePages-same c.self.inside.table.items c.resize.new.self.items c.self.inside.bytes.items c.self.inside.count (get_or-resized (is_ok c.resize.result) c.self.inside.table.items c.resize.new.self.items 262144 (262144 - c.self.inside.table.len) None c.resize.ensures.items short) c.self.invariant

pub returns-in_ok-resize-clause-entries : goal.returns-in_ok-resize-clause-entries
returns-in_ok-resize-clause-entries c =
    let short : length c.self.inside.table.items ≤ 262144 = omega (arith, c.self.inside.table.ok.0) in
    rw (← c.self.view_is) (get_or-resized (is_ok c.resize.result) c.self.inside.table.items c.resize.new.self.items 262144 (262144 - c.self.inside.table.len) None c.resize.ensures.items short)
