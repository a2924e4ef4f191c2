use Rattle.std.proofs.Common.{refl}
use Rattle.tso_memory.proofs.KeptMemory.{kept, IsKept-added, memory_of-added}
use Rattle.tso_memory.proofs.memory.Memory.add.Goals as goal

pub invariant_of-self-2 : goal.invariant_of-self-2
invariant_of-self-2 c = rw c.in_ok-insert_object.ensures.ok (IsKept-added c.args.o c.self.inside.objects.items c.self.inside.zeroed.items c.requires.sound (rw (← c.self.view_is) at c.requires.apart) c.self.invariant)

pub returns-clause-ok : goal.returns-clause-ok
returns-clause-ok c = rw (← c.self.view_is) (memory_of-added c.args.o (kept c.self.inside.objects.items c.self.inside.zeroed.items c.self.inside.pages) (kept c.insert_object.new.objects.items c.self.inside.zeroed.items c.forget.new.self) c.self.invariant.live (rw (← c.self.view_is) at c.requires.apart) c.in_ok-insert_object.ensures.ok refl c.forget.ensures)
