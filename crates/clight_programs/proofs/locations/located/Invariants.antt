use Rattle.std.proofs.Common.{◌≡◌, ◌+◌, ◌++◌, map, drop}
use Rattle.clight_placing.specs.InnerOf.{location_of}
use Rattle.clight_programs.specs.Locals.{located}
use Rattle.clight_programs.proofs.locations.located.Given as goal

abbrev pub invariant-loop-is_in_memory : goal.invariant-loop-is_in_memory
invariant-loop-is_in_memory l = record { made : map location_of l.list.items ++ located l.temps l.memory (drop l.is_in_memory-index l.marks) ≡ located 0 0 l.marks; many : l.temps + l.memory ≡ l.is_in_memory-index }
