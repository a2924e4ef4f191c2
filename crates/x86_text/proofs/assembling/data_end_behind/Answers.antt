use Rattle.x86_text.proofs.Judged.{said_aligned}
use Rattle.x86_text.proofs.assembling.data_end_behind.Goals as goal

pub size_at-requires : goal.size_at-requires
size_at-requires c = said_aligned c.args.line.now c.in-Datum.datum c.in-Datum.is c.requires.said
