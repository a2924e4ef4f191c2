use Rattle.tso_memory.specs.Kept.{WithinNone}
use Rattle.tso_memory.proofs.memory.Memory.new.Goals as goal

pub invariant_of-result : goal.invariant_of-result
invariant_of-result c = rw (c.new.ensures.items, c.new-2.ensures.items) (record { in_order = tt; zeroed_order = tt; live = WithinNone })
