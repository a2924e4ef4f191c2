use Rattle.std.proofs.Common.{◌≡◌, ℕ, ◌+◌, ◌*◌, ◌≤◌, ◌++◌, drop, map, sum_by}
use Rattle.tso_core.specs.Stated.{object_of}
use Rattle.clight_lang.specs.Placed.{objects_from}
use Rattle.clight_lang.proofs.placing.with_objects.Given as goal

abbrev pub invariant-loop-o : goal.invariant-loop-o
invariant-loop-o l = record {
  list_is : l.list.items ++ objects_from l.address (map object_of (drop l.o-index l.objects)) ≡ l.initial.list.items ++ objects_from 0x20000000 (map object_of l.objects);
  room : l.address + 4 * sum_by (λ o. o.1) (map object_of (drop l.o-index l.objects)) ≤ 0x20000000 + 67108864;
}
