use Rattle.std.proofs.Common.{◌≡◌, take, map}
use Rattle.std.specs.List.{fold}
use Rattle.tso_core.specs.Stated.{object_of}
use Rattle.tso_core.specs.Runs.{with_global}
use Rattle.tso_memory.specs.Kept.{memory_of, empty}
use Rattle.tso_machine.proofs.opening.opening_memory.Given as goal

abbrev pub invariant-loop-global : goal.invariant-loop-global
invariant-loop-global l = memory_of l.memory ≡ fold (with_global l.at) empty (take l.global-index (map object_of l.globals.objects.items))
