use Rattle.std.proofs.Common.{◌≡◌, ◌++◌}
use Rattle.tso_core.proofs.placement.Placement.made.Given as goal

abbrev pub invariant-loop-name : goal.invariant-loop-name
invariant-loop-name l = l.addresses.entries ++ l.name-iterator.rest.items ≡ l.fn.list.items
