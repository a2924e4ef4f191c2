use Rattle.std.proofs.Common.{◌≡◌, ◌++◌}
use Rattle.std.specs.Map.{keys_of}
use Rattle.clight_lang.specs.State.{functions_of}
use Rattle.clight_programs.specs.ProgramsOf.{in_order, table_of}
use Rattle.clight_programs.proofs.ordered.in_order.Given as goal

abbrev pub invariant-loop-name : goal.invariant-loop-name
invariant-loop-name l = functions_of l.functions.items ++ in_order (table_of l.table.entries) l.name-iterator ≡ in_order (table_of l.table.entries) (keys_of l.names.entries)
