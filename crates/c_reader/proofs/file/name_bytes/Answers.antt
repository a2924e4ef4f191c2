use Rattle.c_reader.proofs.NameBytes.{any_bytes}
use Rattle.c_reader.proofs.file.name_bytes.Goals as goal

pub returns-in_default : goal.returns-in_default
returns-in_default c = any_bytes _ _ c.args.listed.kind c.in_default.not-Name
