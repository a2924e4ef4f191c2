use Rattle.std.proofs.Common.{refl, not, ap, ◌∙◌}
use Rattle.tso_memory.specs.Memory.{is_met, inserted, unmet}
use Rattle.tso_memory.specs.Buffer.{local}
use Rattle.tso_memory.proofs.KeptMemory.{kept, AreObjects-filter, IsKept-filter, IsKept-added, IsApart-unmet, memory_of-placed}
use Rattle.tso_memory.proofs.memory.Memory.place.Goals as goal

pub insert_object-requires : goal.insert_object-requires
insert_object-requires c = rw (c.end_met.ensures.left, c.in_ok-reserve.ensures.items) (AreObjects-filter (λ o. not (is_met c.args.base c.args.size o)) 0 c.self.inside.objects.items c.self.invariant.in_order)

pub invariant_of-self-2 : goal.invariant_of-self-2
invariant_of-self-2 c =
    let still = IsKept-filter (λ o. not (is_met c.args.base c.args.size o)) c.self.inside.objects.items c.self.inside.zeroed.items c.self.invariant in
    rw (c.in_ok-insert_object.ensures.ok, c.end_met.ensures.left, c.in_ok-reserve.ensures.items, c.end_met-2.ensures.left) (IsKept-added (local c.args.base c.args.size) (unmet c.args.base c.args.size c.self.inside.objects.items) (unmet c.args.base c.args.size c.self.inside.zeroed.items) c.requires (IsApart-unmet c.args.base c.args.size c.self.inside.objects.items) still)

pub returns-clause-ok : goal.returns-clause-ok
returns-clause-ok c =
    rw (← c.self.view_is) (memory_of-placed c.args.base c.args.size (local c.args.base c.args.size) (kept c.self.inside.objects.items c.self.inside.zeroed.items c.self.inside.pages) (kept c.insert_object.new.objects.items c.end_met-2.new.objects.items c.forget.new.self) refl refl c.self.invariant (c.in_ok-insert_object.ensures.ok ∙ ap (λ l. inserted (local c.args.base c.args.size) l) (c.end_met.ensures.left ∙ ap (λ l. unmet c.args.base c.args.size l) c.in_ok-reserve.ensures.items)) c.end_met-2.ensures.left c.forget.ensures)
