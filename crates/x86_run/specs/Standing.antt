-- What the code's machine stands for.
use Rattle.x86_machine.specs.Machines.{machine_assembly, machine_state}
use Rattle.x86_run.specs.declared.target.Target as code
use Rattle.x86_run.specs.Target.{Target}

abbrev pub target_of : code.Target → Target
target_of s = record { assembly = machine_assembly s.machine; machine = machine_state s.machine }
