-- The services of the machine by their names, and what an instruction calls.
use Rattle.std.specs.Prelude.{ℕ, Bool, true, false, Option, Some, None, codes, bytes_eq, if◌then◌else◌}
use Rattle.tso_core.specs.Systems.{Names}
use Rattle.x86_table.specs.declared.instruction.Instr.{Instr}
use Rattle.x86_table.specs.declared.instruction.Instr.TheVariants as instr
use Rattle.x86_lang.specs.Assembly.{Assembly}
use Rattle.x86_machine.specs.declared.services.Service.{Service}
use Rattle.x86_machine.specs.declared.services.Service.TheVariants.{Malloc, Free, ThreadCreate, Exit}
use Rattle.x86_machine.specs.Target.{Thread, State}
use Rattle.x86_machine.specs.X86Tso.{Outcome, if_empty, if_none, malloc, free, create, exit}

abbrev pub service_of : Names → Option Service
service_of name =
    if bytes_eq name (codes "malloc") then Some Malloc
    else if bytes_eq name (codes "free") then Some Free
    else if bytes_eq name (codes "thread_create") then Some ThreadCreate
    else if bytes_eq name (codes "exit") then Some Exit
    else None

-- the name that a call has
abbrev pub name_called : Instr → Option Names
name_called (instr.Call name) = Some name
name_called _ = None

-- whether a call of it waits until the thread's buffer is empty, and whether it may take a choice
abbrev pub needs_empty_buffer : Service → Bool
needs_empty_buffer Exit = false
needs_empty_buffer _ = true

abbrev pub may_choose : Service → Bool
may_choose Malloc = true
may_choose ThreadCreate = true
may_choose _ = false

-- the outcome of a call of it
abbrev pub served : Assembly → State → ℕ → Thread → Option ℕ → Service → Outcome
served a m i t choice Malloc = if_empty t.buffer (malloc a m i t choice)
served a m i t choice Free = if_none choice (if_empty t.buffer (free a m i t))
served a m i t choice ThreadCreate = if_empty t.buffer (create a m i t choice)
served a m i t choice Exit = if_none choice (exit a m t)
