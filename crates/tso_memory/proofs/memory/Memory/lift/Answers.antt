use Rattle.std.proofs.Common.{refl, not}
use Rattle.tso_memory.specs.Memory.{is_at}
use Rattle.tso_memory.proofs.KeptMemory.{kept, IsKept-filter, memory_of-filter}
use Rattle.tso_memory.proofs.memory.Memory.lift.Goals as goal

pub invariant_of-self : goal.invariant_of-self
invariant_of-self c = rw (c.end_lifted.ensures, c.end_lifted-2.ensures) (IsKept-filter (λ o. not (is_at c.args.base c.args.size o)) c.self.inside.objects.items c.self.inside.zeroed.items c.self.invariant)

pub returns : goal.returns
returns c = rw (← c.self.view_is) (memory_of-filter (λ o. not (is_at c.args.base c.args.size o)) (kept c.self.inside.objects.items c.self.inside.zeroed.items c.self.inside.pages) (kept c.end_lifted.new.objects.items c.end_lifted-2.new.objects.items c.self.inside.pages) c.self.invariant.live c.self.invariant.in_order c.end_lifted.ensures c.end_lifted-2.ensures (λ x. refl))
