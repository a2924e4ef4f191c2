use Rattle.tso_memory.proofs.MemoryLaws.{load-put_same, load-put_elsewhere, cell-put_inside}
use Rattle.tso_memory.proofs.laws.loads_after_stores.Goals as goal

pub returns : goal.returns
returns c = record { same = load-put_same; elsewhere = load-put_elsewhere; byte_by_byte = cell-put_inside }
