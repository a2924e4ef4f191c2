-- What a machine shows to contracts: its assembly and its state.
use Rattle.x86_lang.specs.Assembly.{Assembly, assembly_of}
use Rattle.x86_machine.specs.declared.machine.X86Machine.{X86Machine}
use Rattle.x86_machine.specs.Target.{State}
use Rattle.x86_machine.specs.Kept.{state_of}

abbrev pub machine_assembly : X86Machine → Assembly
machine_assembly m = assembly_of m.program

abbrev pub machine_state : X86Machine → State
machine_state m = state_of m.target
