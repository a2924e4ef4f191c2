use Rattle.x86_memory.proofs.BytesLaws.{same_bytes, OnOk-map, OnErr-map}
use Rattle.x86_memory.proofs.memory.Memory.put.Goals as goal

pub returns-clause-ok : goal.returns-clause-ok
returns-clause-ok c = OnOk-map c.put_bytes.result (same_bytes _ _) c.put_bytes.ensures.ok

pub returns-clause-err : goal.returns-clause-err
returns-clause-err c = OnErr-map c.put_bytes.result (same_bytes _ _) c.put_bytes.ensures.err
