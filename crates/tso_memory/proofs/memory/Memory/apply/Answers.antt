use Rattle.tso_memory.proofs.memory.Memory.apply.Goals as goal

pub returns-in-Put-clause-ok : goal.returns-in-Put-clause-ok
returns-in-Put-clause-ok c = rw c.in-Put.is c.put.ensures.ok
