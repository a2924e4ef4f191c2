use Rattle.tso_memory.proofs.MemoryLaws.{all_right-pushed, all_right-drained, objects-applied, objects-stored}
use Rattle.tso_memory.proofs.laws.items_known_right.Goals as goal

pub returns : goal.returns
returns c = record { pushed = all_right-pushed; drained = all_right-drained; applied = objects-applied; stored = objects-stored }
