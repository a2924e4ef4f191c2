use Rattle.std.proofs.Common.{◌+◌, ◌*◌, length}
use Rattle.c_reader.proofs.items.+after.Given as goal

abbrev pub decreases-on_after : goal.decreases-on_after
decreases-on_after l = 2 * length l.context.now.stack.entries

abbrev pub decreases-on_after_in : goal.decreases-on_after_in
decreases-on_after_in l = 2 * length l.context.now.stack.entries + 1
