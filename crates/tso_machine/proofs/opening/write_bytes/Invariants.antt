use Rattle.std.proofs.Common.{◌≡◌}
use Rattle.tso_memory.specs.Kept.{memory_of}
use Rattle.tso_machine.proofs.Openings.{with_front}
use Rattle.tso_machine.proofs.opening.write_bytes.Given as goal

abbrev pub invariant-loop-k : goal.invariant-loop-k
invariant-loop-k l = memory_of l.memory ≡ with_front l.base l.bytes l.k (memory_of l.initial.memory)
