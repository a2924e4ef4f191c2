use Rattle.std.proofs.Common.{refl, not, ◌==◌}
use Rattle.tso_memory.proofs.KeptMemory.{kept, IsKept-filter, memory_of-filter}
use Rattle.tso_memory.proofs.memory.Memory.remove.Goals as goal

pub invariant_of-self : goal.invariant_of-self
invariant_of-self c = rw (c.end_at.ensures, c.end_at-2.ensures) (IsKept-filter (λ o. not (o.base == c.args.base)) c.self.inside.objects.items c.self.inside.zeroed.items c.self.invariant)

pub returns : goal.returns
returns c = rw (← c.self.view_is) (memory_of-filter (λ o. not (o.base == c.args.base)) (kept c.self.inside.objects.items c.self.inside.zeroed.items c.self.inside.pages) (kept c.end_at.new.objects.items c.end_at-2.new.objects.items c.self.inside.pages) c.self.invariant.live c.self.invariant.in_order c.end_at.ensures c.end_at-2.ensures (λ x. refl))
