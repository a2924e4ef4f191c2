-- An assembly with the tables that the code made of it.
use Rattle.std.specs.Prelude.{◌≡◌, ℕ, List, ◌+◌, ◌≤◌, length}
use Rattle.indexmap.specs.IndexMap.{IndexMap}
use Rattle.tso_core.specs.Systems.{Names}
use Rattle.x86_lang.specs.Assembly.{labels_of, bytes_from, code_start, data_start, heap_start}
use Rattle.x86_lang.specs.declared.assembly.Parts.{Parts}
use Rattle.x86_machine.specs.declared.table.Placed.{Placed}
use Rattle.x86_machine.specs.Tables.{entries_of, Knows}

pub record IsProgram {S : Type 0} (a : Parts) (table : List Placed) (words : IndexMap Names ℕ S) (bytes : ℕ) : Type 0 where
  pub table_is : table ≡ entries_of (labels_of a) 0 a.code
  pub words_are : Knows words a.externs
  pub bytes_are : bytes ≡ length (bytes_from data_start a.statics)
  pub code_fits : code_start + length table ≤ data_start
  pub data_fits : data_start + bytes ≤ heap_start
