use Rattle.tso_memory.proofs.MemoryLaws.{load-lift_elsewhere, load-place_elsewhere}
use Rattle.tso_memory.proofs.laws.objects_elsewhere.Goals as goal

pub returns : goal.returns
returns c = record { lifted = load-lift_elsewhere; placed = load-place_elsewhere }
