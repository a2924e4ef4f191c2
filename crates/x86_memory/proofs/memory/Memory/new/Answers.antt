use Rattle.std.proofs.Common.{rules}
use Rattle.x86_memory.proofs.BytesLaws.{same_bytes}
use Rattle.x86_memory.proofs.memory.Memory.new.Goals as goal

pub returns : goal.returns
returns c = same_bytes _ _ (λ x. search rules)
