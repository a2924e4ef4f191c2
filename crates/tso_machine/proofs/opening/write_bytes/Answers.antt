-- Each byte lies in the object, and is one more of those that are written.
use Rattle.std.proofs.Common.{◌≡◌, true, length, subst, sym, ap, refl}
use Rattle.std.specs.List.{list_any}
use Rattle.tso_memory.specs.Kept.{memory_of}
use Rattle.tso_memory.specs.Memory.{holds}
use Rattle.tso_machine.proofs.Openings.{held_at, front_more}
use Rattle.tso_machine.proofs.opening.write_bytes.Goals as goal

pub write_byte-requires : goal.write_byte-requires
write_byte-requires c =
    held_at c.loop-k.memory.objects c.args.base (length c.args.bytes.now) c.loop-k.k c.loop-k-test.true
    (subst (λ os. list_any (λ o. holds o c.args.base (length c.args.bytes.now)) os ≡ true) (sym (ap (λ m. m.objects) c.loop-k.invariant)) c.requires.held)

pub loop-k-preserved : goal.loop-k-preserved
loop-k-preserved c = front_more (memory_of c.args.memory.now) (memory_of c.loop-k.memory) (memory_of c.write_byte.new.memory) c.args.base c.loop-k.k _ c.args.bytes.now refl c.loop-k.invariant c.in_ok-write_byte.ensures
