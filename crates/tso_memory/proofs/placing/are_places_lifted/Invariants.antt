use Rattle.std.proofs.Common.{◌≡◌, drop}
use Rattle.tso_memory.specs.Buffer.{places_lifted}
use Rattle.tso_memory.proofs.placing.are_places_lifted.Given as goal

abbrev pub invariant-loop-k : goal.invariant-loop-k
invariant-loop-k l = places_lifted l.base l.size (drop l.k l.items) ≡ places_lifted l.base l.size l.items
