-- What the code's machine stands for.
use Rattle.clight_lang.specs.Meaning.{program_of}
use Rattle.clight_lang.specs.State.{state_of}
use Rattle.tso_machine.specs.Machines.{machine_program, machine_state}
use Rattle.clight_run.specs.declared.source.Source as S
use Rattle.clight_run.specs.Source.{Source}

abbrev pub source_of : S.Source → Source
source_of s = record { program = program_of (machine_program s.machine); machine = machine_state state_of s.machine }
