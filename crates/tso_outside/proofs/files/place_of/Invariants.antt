use Rattle.std.proofs.Common.{◌≡◌, None, take}
use Rattle.tso_outside.specs.Views.{held}
use Rattle.tso_outside.specs.Entries.{entries}
use Rattle.tso_outside.proofs.files.place_of.Given as goal

abbrev pub invariant-loop-i : goal.invariant-loop-i
invariant-loop-i l = held (take l.i (entries l.files)) l.name ≡ None
