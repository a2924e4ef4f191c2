-- The access to memory that an instruction makes, where it makes one (Intel's manual of the IA-32 architecture, volume 1, section 3.7.5 for addresses). A label stands for the address of the one name that the instruction has.
use Rattle.std.specs.Prelude.{ℕ, ◌+◌, ◌-◌, ◌*◌, ◌%◌, ◌^◌, Bool, true, false, List, Option, Some, None}
use Rattle.x86_table.specs.declared.register.Register.{Register}
use Rattle.x86_table.specs.declared.register.Register.TheVariants.{Esp}
use Rattle.x86_table.specs.declared.operand.Scale.{Scale}
use Rattle.x86_table.specs.declared.operand.Scale.TheVariants.{One, Two, Four, Eight}
use Rattle.x86_table.specs.declared.operand.Index.{Index}
use Rattle.x86_table.specs.declared.operand.Address.{Address}
use Rattle.x86_table.specs.declared.instruction.Width.{Width}
use Rattle.x86_table.specs.declared.instruction.Width.TheVariants as width
use Rattle.x86_table.specs.declared.instruction.Instr.{Instr}
use Rattle.x86_table.specs.declared.instruction.Instr.TheVariants.{Load, Store, StoreNumber, StoreByte, StoreHalf, LoadExtended, Call, CallThrough, Return, Push, Pop, Fence, CompareExchange, ExchangeAdd, Exchange}
use Rattle.x86_steps.specs.declared.registers.Registers.{Registers}
use Rattle.x86_steps.specs.declared.access.Size.{Size}
use Rattle.x86_steps.specs.declared.access.Size.TheVariants as size
use Rattle.x86_steps.specs.declared.access.Kind.{Kind}
use Rattle.x86_steps.specs.declared.access.Kind.TheVariants as kind
use Rattle.x86_steps.specs.declared.access.Access.{Access}
use Rattle.x86_steps.specs.Registers.{word_in, register_of_index}

-- the bytes of an access
abbrev pub bytes_of : Size → ℕ
bytes_of size.Byte = 1
bytes_of size.Half = 2
bytes_of size.Word = 4

-- what an index is multiplied by
abbrev pub factor : Scale → ℕ
factor One = 1
factor Two = 2
factor Four = 4
factor Eight = 8

-- the parts of an address; one that is absent counts as 0
abbrev pub label_part : Option (List ℕ) → ℕ → ℕ
label_part None label = 0
label_part (Some name) label = label

abbrev pub base_part : Option Register → Registers → ℕ
base_part None r = 0
base_part (Some base) r = word_in r base

abbrev pub index_part : Option Index → Registers → ℕ
index_part None r = 0
index_part (Some i) r = word_in r (register_of_index i.register) * factor i.scale

-- the effective address of a memory operand
abbrev pub effective : Address → ℕ → Registers → ℕ
effective a label r = (label_part a.label label + a.displacement + base_part a.base r + index_part a.index r) % 2 ^ 32

-- the stack pointer after a word is pushed, and after one is popped
abbrev pub pushed : ℕ → ℕ
pushed esp = (esp + 2 ^ 32 - 4) % 2 ^ 32

abbrev pub popped : ℕ → ℕ
popped esp = (esp + 4) % 2 ^ 32

abbrev pub access : Kind → Size → ℕ → Option Access
access k s a = Some (record { kind = k; size = s; address = a })

abbrev pub size_of : Width → Size
size_of width.Byte = size.Byte
size_of width.Half = size.Half

-- the access of an instruction, at the registers before it
abbrev pub access_of : Instr → ℕ → Registers → Option Access
access_of (Load a t) label r = access kind.Load size.Word (effective a label r)
access_of (LoadExtended w s a t) label r = access kind.Load (size_of w) (effective a label r)
access_of (Store q a) label r = access kind.Store size.Word (effective a label r)
access_of (StoreNumber n a) label r = access kind.Store size.Word (effective a label r)
access_of (StoreByte q a) label r = access kind.Store size.Byte (effective a label r)
access_of (StoreHalf q a) label r = access kind.Store size.Half (effective a label r)
access_of (Call name) label r = access kind.Store size.Word (pushed r.esp)
access_of (CallThrough q) label r = access kind.Store size.Word (pushed r.esp)
access_of (Push q) label r = access kind.Store size.Word (pushed r.esp)
access_of Return label r = access kind.Load size.Word r.esp
access_of (Pop q) label r = access kind.Load size.Word r.esp
access_of (CompareExchange q a) label r = access kind.Locked size.Word (effective a label r)
access_of (ExchangeAdd q a) label r = access kind.Locked size.Word (effective a label r)
access_of (Exchange q a) label r = access kind.Locked size.Word (effective a label r)
access_of _ label r = None

-- these wait until the thread's buffer is empty
abbrev pub needs_empty_buffer : Instr → Bool
needs_empty_buffer Fence = true
needs_empty_buffer (CompareExchange q a) = true
needs_empty_buffer (ExchangeAdd q a) = true
needs_empty_buffer (Exchange q a) = true
needs_empty_buffer _ = false

-- the word that these load becomes the stack pointer
abbrev pub loads_stack_pointer : Instr → Bool
loads_stack_pointer (Load a Esp) = true
loads_stack_pointer (LoadExtended w s a Esp) = true
loads_stack_pointer (Pop Esp) = true
loads_stack_pointer (ExchangeAdd Esp a) = true
loads_stack_pointer (Exchange Esp a) = true
loads_stack_pointer _ = false
