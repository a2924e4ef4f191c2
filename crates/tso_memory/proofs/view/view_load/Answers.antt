use Rattle.std.proofs.Common.{sym, ◌∙◌}
use Rattle.tso_memory.specs.Kept.{memory_of}
use Rattle.tso_memory.proofs.Views.{view_refused}
use Rattle.tso_memory.proofs.view.view_load.Goals as goal

pub returns-then-not-is_view_right : goal.returns-then-not-is_view_right
returns-then-not-is_view_right c = view_refused c.args.b.now.items (memory_of c.args.m.now) c.args.chunk c.args.addr (sym c.is_view_right.ensures ∙ c.if-not-is_view_right.true)
