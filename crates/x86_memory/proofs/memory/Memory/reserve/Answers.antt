use Rattle.x86_memory.proofs.BytesLaws.{same_bytes}
use Rattle.x86_memory.proofs.memory.Memory.reserve.Goals as goal

pub returns-clause-same : goal.returns-clause-same
returns-clause-same c = same_bytes _ _ c.reserve_page.ensures.same
