use Rattle.tso_memory.proofs.KeptMemory.{kept, IsKept-zeroed, memory_of-zeroed}
use Rattle.tso_memory.proofs.memory.Memory.add_zeroed.Goals as goal

pub invariant_of-self-2 : goal.invariant_of-self-2
invariant_of-self-2 c = rw (c.in_ok-insert_object-2.ensures.ok, c.in_ok-insert_object.ensures.ok, c.in_ok-reserve.ensures.items) (IsKept-zeroed c.args.o c.self.inside.objects.items c.self.inside.zeroed.items c.requires.sound (rw (← c.self.view_is) at c.requires.apart) c.self.invariant)

pub returns-clause-ok : goal.returns-clause-ok
returns-clause-ok c = rw (← c.self.view_is) (memory_of-zeroed c.args.o (kept c.self.inside.objects.items c.self.inside.zeroed.items c.self.inside.pages) (kept c.insert_object-2.new.objects.items c.insert_object.new.objects.items c.forget.new.self) (rw c.in_ok-reserve.ensures.items at c.in_ok-insert_object-2.ensures.ok) c.in_ok-insert_object.ensures.ok c.forget.ensures)
