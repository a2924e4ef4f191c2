-- The x86-TSO machine (Owens, Sarkar and Sewell, 'A better x86 memory model: x86-TSO', 2009): a thread's writes wait in its buffer, and a step is a run of a thread or a drain of its oldest write. Services, calls of the outside and the ends are this project's own. None is a step that is not enabled. The code changes its state in place.
use Rattle.std.specs.Prelude.{◌≡◌, ℕ, zero, suc, ◌+◌, ◌-◌, ◌*◌, ◌^◌, Bool, true, false, not, List, [], ◌∷◌, ◌++◌, length, Option, Some, None, ◌==◌, ◌&&◌, nat_le, nat_lt, if◌then◌else◌, slice_get, slice_set, slice_index, bytes_eq, codes, is_some}
use Rattle.tso_core.specs.declared.Step.{Step}
use Rattle.tso_core.specs.declared.Step.TheVariants.{Run, Drain}
use Rattle.tso_core.specs.declared.Event.{Event}
use Rattle.tso_core.specs.declared.Event.TheVariants as event
use Rattle.tso_core.specs.Systems.{System, Status, Names, Places}
use Rattle.tso_core.specs.Systems as system
use Rattle.tso_core.specs.Placing.{base_of}
use Rattle.x86_table.specs.declared.instruction.Instr.{Instr}
use Rattle.x86_table.specs.declared.instruction.Instr.TheVariants as instr
use Rattle.x86_steps.specs.declared.access.Access.{Access}
use Rattle.x86_steps.specs.declared.access.Size.TheVariants as size
use Rattle.x86_steps.specs.declared.access.Kind.{Kind}
use Rattle.x86_steps.specs.declared.access.Kind.TheVariants as kind
use Rattle.x86_steps.specs.declared.execution.After.{After}
use Rattle.x86_steps.specs.Accesses.{access_of, needs_empty_buffer, loads_stack_pointer}
use Rattle.x86_steps.specs.Execution.{executed}
use Rattle.x86_steps.specs.Flags.{unknown}
use Rattle.x86_memory.specs.declared.buffer.Write.{Write}
use Rattle.x86_memory.specs.Bytes.{Bytes, written, word_at}
use Rattle.x86_lang.specs.Assembly.{Assembly, data_start}
use Rattle.x86_machine.specs.declared.now.X86Now.{X86Now}
use Rattle.x86_machine.specs.declared.now.X86Now.TheVariants as now
use Rattle.x86_machine.specs.Target.{Thread, State, stacks_start, is_right, are_right, is_on_stack, start_of, instruction_at, is_code, label_of, words_of, seen, words_from, block_at, block_size, is_block_allowed, with_block, without_block, is_stack_allowed}

-- what a step shows and the state after it; None where it is not enabled
abbrev pub Outcome : Type 0
Outcome = Option (Option Event × State)

-- the machine stops: everything else stays, and nothing is shown
abbrev pub stopped : State → X86Now → Outcome
stopped m end = Some (None, record m { now = end })

abbrev pub fault : State → Outcome
fault m = stopped m now.Fault

-- the machine stops with an exit
abbrev pub exited : State → (word : ℕ) → Outcome
exited m word = Some (Some (event.Exit word), record m { now = now.Exited })

-- thread i is another one now
abbrev pub with_thread : State → ℕ → Thread → State
with_thread m i t = record m { threads = slice_set m.threads i t }

abbrev pub or_fault : State → Bool → Outcome → Outcome
or_fault m holds outcome = if holds then outcome else fault m

abbrev pub or_no_stack : State → Bool → Outcome → Outcome
or_no_stack m holds outcome = if holds then outcome else stopped m now.NoStack

-- only with an empty buffer; only without a choice
abbrev pub if_empty : List Write → Outcome → Outcome
if_empty [] outcome = outcome
if_empty (w ∷ ws) outcome = None

abbrev pub if_none : Option ℕ → Outcome → Outcome
if_none None outcome = outcome
if_none (Some choice) outcome = None

-- ---- an instruction that is no call of a service or of the outside

-- the word that the access finds; where it is not right nothing shows what it is
abbrev pub loaded : Assembly → State → Thread → Option Access → ℕ
loaded a m t None = 0
loaded a m t (Some x) = if is_right a m x.size x.address then word_at (seen m t) x.size x.address else 0

abbrev pub access_is_right : Assembly → State → Option Access → Bool
access_is_right a m None = true
access_is_right a m (Some x) = is_right a m x.size x.address

-- what an access writes goes to the buffer, or to memory at once where it is locked
abbrev pub write_of : Access → (value : ℕ) → Write
write_of x value = record { address = x.address; size = x.size; value = value }

abbrev pub stored : State → ℕ → Thread → Access → Kind → Option ℕ → State
stored m i t x kind.Store (Some value) = with_thread m i (record t { buffer = t.buffer ++ write_of x value ∷ [] })
stored m i t x kind.Locked (Some value) = record (with_thread m i t) { memory = written m.memory (write_of x value) }
stored m i t x k value = with_thread m i t

abbrev pub stored_at : State → ℕ → Thread → Option Access → Option ℕ → State
stored_at m i t None value = with_thread m i t
stored_at m i t (Some x) value = stored m i t x x.kind value

abbrev pub thread_after : Thread → After → Thread
thread_after t after = record t { registers = after.registers; flags = after.flags; place = after.place }

-- a return from the function that the thread began with: to the 0 where its stack pointer began
abbrev pub is_last_return : Instr → Thread → (place : ℕ) → Bool
is_last_return instr.Return t zero = t.registers.esp == start_of t.stack
is_last_return _ t place = false

-- that ends the thread; in main it is the exit of the program
abbrev pub finished : State → ℕ → Thread → Outcome
finished m zero t = exited m t.registers.eax
finished m (suc i) t = Some (None, with_thread m (suc i) (record t { ended = true }))

abbrev pub went : Assembly → State → ℕ → Thread → Instr → Option Access → After → Outcome
went a m i t o x after =
    if is_last_return o t after.place then finished m i t
    else or_fault m (is_code a after.place) (Some (None, stored_at m i (thread_after t after) x after.written))

-- the stack pointer is tried before the next place and the access, but where the access gives it
abbrev pub tried : Assembly → State → ℕ → Thread → Instr → Option Access → Option After → Outcome
tried a m i t o x None = fault m
tried a m i t o x (Some after) =
    if loads_stack_pointer o
    then or_fault m (access_is_right a m x) (or_no_stack m (is_on_stack t after.registers.esp) (went a m i t o x after))
    else or_no_stack m (is_on_stack t after.registers.esp) (or_fault m (access_is_right a m x) (went a m i t o x after))

abbrev pub with_access : Assembly → State → ℕ → Thread → Instr → Option Access → Outcome
with_access a m i t o x = tried a m i t o x (executed o (label_of a o) t.place t.registers t.flags (loaded a m t x))

abbrev pub plain : Assembly → State → ℕ → Thread → Instr → Outcome
plain a m i t o = with_access a m i t o (access_of o (label_of a o) t.registers)

-- only with an empty buffer, where the instruction waits for it
abbrev pub instructed : Assembly → State → ℕ → Thread → Instr → Outcome
instructed a m i t o = if needs_empty_buffer o then if_empty t.buffer (plain a m i t o) else plain a m i t o

-- ---- services and calls of the outside; their words stand at the stack pointer

-- the thread behind a call that is done, with a word in EAX
abbrev pub answered : Thread → (word : ℕ) → Thread
answered t word = record t { registers = record t.registers { eax = word }; flags = unknown; place = t.place + 1; waits = false }

-- a call that is done and shows nothing, with a change of the machine
abbrev pub done : Assembly → State → ℕ → Thread → (word : ℕ) → Outcome
done a m i t word = or_fault m (is_code a (t.place + 1)) (Some (None, with_thread m i (answered t word)))

abbrev pub word_at_esp : State → Thread → (place : ℕ) → ℕ
word_at_esp m t k = word_at (seen m t) size.Word (t.registers.esp + 4 * k)

-- a call of the outside shows its words, and the thread waits
abbrev pub waiting : Thread → Thread
waiting t = record t { flags = unknown; waits = true }

abbrev pub outside : Assembly → State → ℕ → Thread → Names → (count : ℕ) → Outcome
outside a m i t name n =
    or_fault m (are_right a m t.registers.esp n) (Some (Some (event.Call i name (words_from (seen m t) t.registers.esp n)), with_thread m i (waiting t)))

-- it is done with a word that is chosen
abbrev pub returned : Assembly → State → ℕ → Thread → Option ℕ → Outcome
returned a m i t None = None
returned a m i t (Some word) =
    if nat_lt word (2 ^ 32)
    then or_fault m (is_code a (t.place + 1)) (Some (Some (event.Return i word), with_thread m i (answered t word)))
    else None

abbrev pub exit : Assembly → State → Thread → Outcome
exit a m t = or_fault m (are_right a m t.registers.esp 1) (exited m (word_at_esp m t 0))

-- where the words are right a choice is taken; else none is, and it is a fault
abbrev pub if_right : State → Bool → Option ℕ → (ℕ → Outcome) → Outcome
if_right m false None k = fault m
if_right m false (Some choice) k = None
if_right m true None k = None
if_right m true (Some choice) k = k choice

-- a block at the base that is chosen; 0 is the want of heap
abbrev pub given : Assembly → State → ℕ → Thread → (bytes choice : ℕ) → Outcome
given a m i t n zero = stopped m now.NoHeap
given a m i t n (suc b) =
    if is_block_allowed m.heap (suc b) (block_size n)
    then or_fault m (is_code a (t.place + 1)) (Some (None, record (with_thread m i (answered t (suc b))) { heap = with_block (suc b) (block_size n) m.heap }))
    else None

abbrev pub malloc : Assembly → State → ℕ → Thread → Option ℕ → Outcome
malloc a m i t choice = if_right m (are_right a m t.registers.esp 1) choice (given a m i t (word_at_esp m t 0))

-- a block ends; 0 does nothing, and what is no live block's base is a fault
abbrev pub freed : Assembly → State → ℕ → Thread → (base : ℕ) → Outcome
freed a m i t zero = done a m i t t.registers.eax
freed a m i t (suc b) =
    or_fault m (is_some (block_at m.heap (suc b)) && is_code a (t.place + 1)) (Some (None, record (with_thread m i (answered t t.registers.eax)) { heap = without_block (suc b) m.heap }))

abbrev pub free : Assembly → State → ℕ → Thread → Outcome
free a m i t = or_fault m (are_right a m t.registers.esp 1) (freed a m i t (word_at_esp m t 0))

-- a thread that begins at a function: its stack has a 0 where the stack pointer is, and its argument above it, both in memory
abbrev pub new_thread : (place stack : ℕ) → Thread
new_thread place stack =
    record {
      registers = record { eax = 0; ebx = 0; ecx = 0; edx = 0; esi = 0; edi = 0; ebp = 0; esp = start_of stack };
      flags = unknown;
      place = place;
      stack = stack;
      waits = false;
      ended = false;
      buffer = [];
    }

abbrev pub with_argument : Bytes → (stack argument : ℕ) → Bytes
with_argument b stack argument =
    written (written b (record { address = start_of stack; size = size.Word; value = 0 })) (record { address = start_of stack + 4; size = size.Word; value = argument })

abbrev pub begun : State → (place argument stack : ℕ) → State
begun m place argument stack = record m { memory = with_argument m.memory stack argument; threads = m.threads ++ new_thread place stack ∷ [] }

-- a thread with its stack at the base that is chosen; 0 is the want of a stack
abbrev pub created : Assembly → State → ℕ → Thread → (function argument choice : ℕ) → Outcome
created a m i t f g zero = stopped m now.NoStack
created a m i t f g (suc b) =
    if is_stack_allowed m.threads (suc b)
    then or_fault m (is_code a f && is_code a (t.place + 1)) (Some (None, begun (with_thread m i (answered t (length m.threads))) f g (suc b)))
    else None

abbrev pub create : Assembly → State → ℕ → Thread → Option ℕ → Outcome
create a m i t choice =
    if nat_lt (length m.threads) 4294967295
    then if_right m (are_right a m t.registers.esp 2) choice (created a m i t (word_at_esp m t 0) (word_at_esp m t 1))
    else None

-- a call of an external or of a label
abbrev pub called_by : Assembly → State → ℕ → Thread → Names → Option ℕ → Outcome
called_by a m i t name (Some n) = outside a m i t name n
called_by a m i t name None = instructed a m i t (instr.Call name)

abbrev pub called : Assembly → State → ℕ → Thread → Option ℕ → Names → Outcome
called a m i t choice name =
    if bytes_eq name (codes "malloc") then if_empty t.buffer (malloc a m i t choice)
    else if bytes_eq name (codes "free") then if_none choice (if_empty t.buffer (free a m i t))
    else if bytes_eq name (codes "thread_create") then if_empty t.buffer (create a m i t choice)
    else if bytes_eq name (codes "exit") then if_none choice (exit a m t)
    else if_none choice (called_by a m i t name (words_of a.externs name))

-- ---- steps

abbrev pub performed : Assembly → State → ℕ → Thread → Option ℕ → Option Instr → Outcome
performed a m i t choice None = if_none choice (fault m)
performed a m i t choice (Some (instr.Call name)) = called a m i t choice name
performed a m i t choice (Some o) = if_none choice (instructed a m i t o)

abbrev pub ran : Assembly → State → ℕ → Option ℕ → Option Thread → Outcome
ran a m i choice None = None
ran a m i choice (Some t) =
    if t.ended then None
    else if t.waits then returned a m i t choice
    else performed a m i t choice (instruction_at a t.place)

abbrev pub drained : State → ℕ → Thread → List Write → Outcome
drained m i t [] = None
drained m i t (w ∷ ws) = Some (None, record (with_thread m i (record t { buffer = ws })) { memory = written m.memory w })

abbrev pub drained_by : State → ℕ → Option Thread → Outcome
drained_by m i None = None
drained_by m i (Some t) = drained m i t t.buffer

-- only while the machine runs
abbrev pub while_running : X86Now → Outcome → Outcome
while_running now.Running outcome = outcome
while_running end outcome = None

abbrev pub step : Assembly → State → Step → Outcome
step a m (Run i choice) = while_running m.now (ran a m i choice (slice_get m.threads i))
step a m (Drain i) = while_running m.now (drained_by m i (slice_get m.threads i))

-- ---- the machine as the laws of refinement see it

-- the bytes of the data, and zeros elsewhere
abbrev pub data_bytes : List ℕ → Bytes
data_bytes bytes x = if nat_le data_start x then slice_index bytes (x - data_start) else 0

-- the data in memory, and no thread yet
abbrev pub unthreaded : Assembly → State
unthreaded a = record { now = now.Running; memory = data_bytes a.bytes; heap = []; threads = [] }

-- main alone, with an empty buffer
abbrev pub opening : Assembly → Places → State
opening a at = begun (unthreaded a) (base_of at (codes "main")) 0 stacks_start

abbrev pub status_of : X86Now → Status
status_of now.Running = system.Running
status_of now.Exited = system.Exited
status_of now.Fault = system.Wrong
status_of now.NoStack = system.NoStack
status_of now.NoHeap = system.NoHeap

abbrev pub has_ended : Option Thread → Bool
has_ended None = false
has_ended (Some t) = t.ended

abbrev pub has_write : Option Thread → Bool
has_write None = false
has_write (Some t) = not (length t.buffer == 0)

-- the next step of a thread is a call of this service
abbrev pub calls_service : Names → Option Instr → Bool
calls_service service (Some (instr.Call name)) = bytes_eq name service
calls_service service _ = false

abbrev pub offers : Assembly → Names → Option Thread → Bool
offers a service None = false
offers a service (Some t) = not t.ended && (not t.waits && calls_service service (instruction_at a t.place))

-- the size that it asks for
abbrev pub asked : Assembly → State → Option Thread → Option ℕ
asked a m None = None
asked a m (Some t) = if offers a (codes "malloc") (Some t) && are_right a m t.registers.esp 1 then Some (word_at_esp m t 0) else None

-- the placement is that of the labels, and the machine has no live calls of its own
abbrev pub x86_system : Assembly → System
x86_system a =
    record {
      State = State;
      IsProper = λ at. at ≡ a.labels;
      opening = opening a;
      step = step a;
      status = λ m. status_of m.now;
      threads = λ m. length m.threads;
      has_ended = λ m i. has_ended (slice_get m.threads i);
      has_put = λ m i. has_write (slice_get m.threads i);
      heap = λ m base. block_at m.heap base;
      calls = λ m i. None;
      starts = λ m i. offers a (codes "thread_create") (slice_get m.threads i);
      asks = λ m i. asked a m (slice_get m.threads i);
      globals = None;
      stated = λ name. None;
    }

-- the same, shut: contracts name it, and only a proof about its steps opens it
unfoldable pub x86_machine : Assembly → System
x86_machine a = x86_system a
