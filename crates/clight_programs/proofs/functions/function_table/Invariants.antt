use Rattle.std.proofs.Common.{◌≡◌, map, drop}
use Rattle.clight_types.specs.Table.{types_of}
use Rattle.clight_files.specs.FilesOf.{functions_of}
use Rattle.clight_counts.specs.First.{firsts}
use Rattle.clight_programs.specs.ProgramsOf.{function_entry, function_table, table_of}
use Rattle.clight_programs.proofs.functions.function_table.Given as goal

abbrev pub invariant-loop-function : goal.invariant-loop-function
invariant-loop-function l = firsts (table_of l.table.entries) (map (function_entry (types_of l.types) l.function_types.keys l.sizes) (functions_of (drop l.function-index l.functions))) ≡ function_table (types_of l.types) l.function_types.keys l.sizes (functions_of l.functions)
