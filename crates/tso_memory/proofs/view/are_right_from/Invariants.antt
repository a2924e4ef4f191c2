use Rattle.std.proofs.Common.{◌≡◌, drop, take}
use Rattle.tso_memory.specs.Through.{all_right, objects_after}
use Rattle.tso_memory.proofs.view.are_right_from.Given as goal

abbrev pub invariant-loop-k : goal.invariant-loop-k
invariant-loop-k l = all_right (objects_after l.m.objects (take l.k l.items)) (drop l.k l.items) ≡ all_right l.m.objects l.items
