use Rattle.std.proofs.Common.{◌≡◌, ◌≤◌, length, take}
use Rattle.x86_memory.specs.Bytes.{view}
use Rattle.x86_memory.specs.Kept.{bytes_in}
use Rattle.x86_memory.proofs.memory.Memory.seen.Given as goal

-- the writes that were passed have no byte there
abbrev pub invariant-loop-count : goal.invariant-loop-count
invariant-loop-count l = record {
  within : l.count ≤ length l.writes;
  passed : view (bytes_in l.self) (take l.count l.writes) l.x ≡ view (bytes_in l.self) l.writes l.x;
}

abbrev pub decreases-loop-count : goal.decreases-loop-count
decreases-loop-count l = l.count
