-- What the fields of a machine of the code stand for.
use Rattle.std.specs.Prelude.{ℕ, List, [], ◌∷◌, ◌++◌, map, Option, Some, None}
use Rattle.x86_steps.specs.declared.access.Access.{Access}
use Rattle.x86_steps.specs.declared.access.Kind.{Kind}
use Rattle.x86_steps.specs.declared.access.Kind.TheVariants as kind
use Rattle.x86_memory.specs.Bytes.{Bytes, IsAligned, written}
use Rattle.x86_memory.specs.Kept.{bytes_in}
use Rattle.x86_machine.specs.declared.thread.Thread as code
use Rattle.x86_machine.specs.declared.target.Target.{Target}
use Rattle.x86_machine.specs.Target.{Thread, State}
use Rattle.x86_machine.specs.X86Tso.{write_of}

abbrev pub thread_of : code.Thread → Thread
thread_of t =
    record {
      registers = t.registers;
      flags = t.flags;
      place = t.place;
      stack = t.stack;
      waits = t.waits;
      ended = t.ended;
      buffer = t.buffer.writes;
    }

abbrev pub threads_of : List code.Thread → List Thread
threads_of ts = map thread_of ts

-- what the machine's state stands for
abbrev pub state_of : Target → State
state_of m = record { now = m.status; memory = bytes_in m.memory; heap = m.blocks.items; threads = threads_of m.threads.items }

-- the parts of what an access stores: the thread's, and memory's
abbrev pub thread_with : Thread → Access → Kind → Option ℕ → Thread
thread_with t x kind.Store (Some value) = record t { buffer = t.buffer ++ write_of x value ∷ [] }
thread_with t x k value = t

abbrev pub thread_stored : Thread → Option Access → Option ℕ → Thread
thread_stored t None value = t
thread_stored t (Some x) value = thread_with t x x.kind value

abbrev pub memory_with : Bytes → Access → Kind → Option ℕ → Bytes
memory_with b x kind.Locked (Some value) = written b (write_of x value)
memory_with b x k value = b

abbrev pub memory_stored : Bytes → Option Access → Option ℕ → Bytes
memory_stored b None value = b
memory_stored b (Some x) value = memory_with b x x.kind value

-- the access is right in itself: each byte has an address, at a multiple of the size
abbrev pub IsAlignedAccess : Option Access → Type 0
IsAlignedAccess None = Unit {0}
IsAlignedAccess (Some x) = IsAligned x.address x.size
