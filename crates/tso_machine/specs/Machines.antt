-- What a machine shows to contracts: its program, and its state with the threads as what they stand for.
use Rattle.tso_core.specs.declared.language.ThreadLang.{Ghosts}
use Rattle.tso_core.specs.Machine.{MachineState}
use Rattle.tso_machine.specs.declared.machine.Machine.{Machine}
use Rattle.tso_machine.specs.State.{core_state}

abbrev pub machine_program : {L Program Thread : Type 0} {g : Ghosts L Program Thread} → Machine L Program Thread g → Program
machine_program m = m.program.now

abbrev pub machine_state : {L Program Thread State : Type 0} {g : Ghosts L Program Thread} → (Thread → State) → Machine L Program Thread g → MachineState State
machine_state f m = core_state f m.at m.core
