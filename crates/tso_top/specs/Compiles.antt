-- The compiler theorem, as a relation between the bytes of a C file and an assembly text. The statement is this project's own, after the simulations of CompCertTSO (JACM 2013).
use Rattle.std.specs.Prelude.{◌≡◌, ℕ, ◌+◌, ◌*◌, ◌^◌, ◌≤◌, max, List, [], ◌∷◌}
use Rattle.tso_core.specs.declared.Step.{Step}
use Rattle.tso_core.specs.Systems.{IsRun}
use Rattle.tso_core.specs.Theorem.{MatchedRun}
use Rattle.tso_core.specs.Machine.{machine}
use Rattle.clight_lang.specs.Meaning.{ProgramOf, language}
use Rattle.clight_lang.specs.State.{FunctionOf}
use Rattle.clight_front.specs.Fronts.{HasProgram}
use Rattle.x86_lang.specs.declared.assembly.Parts.{Parts}
use Rattle.x86_lang.specs.Assembly.{assembly_of, labels_of}
use Rattle.x86_text.specs.Text.{AsmOf}
use Rattle.x86_text.specs.Printed.{printed}
use Rattle.x86_machine.specs.X86Tso.{x86_machine}

-- the nodes of the function that has the most
abbrev pub most_nodes : List FunctionOf → ℕ
most_nodes [] = 0
most_nodes (f ∷ fs) = max f.room.nodes (most_nodes fs)

-- the text is a compilation of the bytes
pub record Compiles (bytes text : List ℕ) : Type 0 where
  -- the bytes are those of a ClightTSO program
  pub program : ProgramOf
  pub means : HasProgram bytes program
  -- the text is an assembly, in its printed form
  pub asm : Parts
  pub is_assembly : AsmOf text asm
  pub is_printed : text ≡ printed asm
  -- the addresses of its labels are a placement that the program may have
  pub labels_proper : (machine (language program)).IsProper (labels_of asm)
  -- its pace is at least 1, and bounded by the size of the program's largest function
  pub some_pace : 1 ≤ asm.pace
  pub pace_bound : asm.pace ≤ 2 ^ 96 * (most_nodes program.functions + 1)
  -- every run of the assembly on the x86-TSO machine, from the addresses of its labels, is matched by pieces of a run of the program on the ClightTSO machine, one for each step, up to the first step that makes the program wrong: the same events, the same threads begun and ended, no write buffered where the assembly has none, the same heap blocks, the same end, within the pace; and want of heap or of stack has its cause in the program
  pub follows : (steps : List Step) → IsRun (x86_machine (assembly_of asm)) ((x86_machine (assembly_of asm)).opening (labels_of asm)) steps → MatchedRun (machine (language program)) (x86_machine (assembly_of asm)) asm.pace (labels_of asm) steps
