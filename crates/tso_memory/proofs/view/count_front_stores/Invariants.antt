use Rattle.std.proofs.Common.{◌≡◌, take, true}
use Rattle.std.specs.List.{list_all}
use Rattle.tso_memory.specs.Through.{is_store}
use Rattle.tso_memory.proofs.view.count_front_stores.Given as goal

abbrev pub invariant-loop-k : goal.invariant-loop-k
invariant-loop-k l = list_all is_store (take l.k l.items) ≡ true
