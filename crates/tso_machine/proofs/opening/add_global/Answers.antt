-- The object is new, and its first bytes lie in it.
use Rattle.std.proofs.Common.{◌≡◌, ◌≤◌, true, length, subst, sym, ap, refl, arith}
use Rattle.std.specs.List.{list_any}
use Rattle.tso_core.specs.Stated.{object_of}
use Rattle.tso_memory.specs.declared.object.Kind.TheVariants.{Static}
use Rattle.tso_memory.specs.Kept.{memory_of}
use Rattle.tso_memory.specs.Memory.{holds}
use Rattle.tso_machine.proofs.Openings.{held_new, global_added, on_ok}
use Rattle.tso_machine.proofs.opening.add_global.Goals as goal

pub write_bytes-requires-clause-held : goal.write_bytes-requires-clause-held
write_bytes-requires-clause-held c =
    let base = c.base_of-base.result in
    let fits : length c.deref.result.now ≤ c.args.global.now.size = omega arith in
    subst (λ os. list_any (λ o. holds o base (length c.deref.result.now)) os ≡ true) (sym (ap (λ m. m.objects) c.in_ok-add_zeroed.ensures.ok))
    (held_new c.args.memory.now.objects (record { base = base; size = c.args.global.now.size; kind = Static }) base (length c.deref.result.now) refl fits)

pub returns : goal.returns
returns c =
    let fits : length c.args.global.now.start.items ≤ c.args.global.now.size = omega arith in
    on_ok c.write_bytes.result
    (λ h. global_added c.args.at.now (memory_of c.args.memory.now) (memory_of c.add_zeroed.new.self) (memory_of c.write_bytes.new.memory) (object_of c.args.global.now) fits
    (rw c.base_of-base.ensures at c.in_ok-add_zeroed.ensures.ok)
    (rw (c.base_of-base.ensures, c.deref.ensures.value) at h))
    c.write_bytes.ensures
