-- The byte is the one cell that changes.
use Rattle.std.proofs.Common.{arith}
use Rattle.tso_memory.specs.Kept.{memory_of}
use Rattle.tso_machine.proofs.Openings.{put_byte}
use Rattle.tso_machine.proofs.opening.write_byte.Goals as goal

pub returns-in-Ok : goal.returns-in-Ok
returns-in-Ok c = put_byte (memory_of c.args.memory.now) (memory_of c.apply.new.self) c.args.x c.args.byte (omega arith) c.requires (rw c.from.ensures at c.in-Ok.ensures.ok)
