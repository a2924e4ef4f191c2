-- What the states of the x86-TSO machine are: threads with their registers and buffers of writes, one memory of bytes, the live heap blocks (x86-TSO of Owens, Sarkar and Sewell 2009; the address map, the heap and the stacks are this project's own). The code keeps bytes in pages and changes its state in place.
use Rattle.std.specs.Prelude.{ℕ, zero, suc, ◌+◌, ◌-◌, ◌%◌, Bool, true, not, List, [], ◌∷◌, length, Option, Some, None, ◌&&◌, ◌||◌, ◌==◌, nat_le, nat_lt, if◌then◌else◌, slice_get, bytes_eq, unwrap_or, is_some}
use Rattle.std.specs.List.{list_any, list_all, filter}
use Rattle.tso_core.specs.Systems.{Names, Places}
use Rattle.tso_core.specs.Placing.{address_of}
use Rattle.x86_table.specs.declared.operand.Operand.{Operand}
use Rattle.x86_table.specs.declared.operand.Operand.TheVariants.{Symbol, Memory}
use Rattle.x86_table.specs.declared.instruction.Instr.{Instr}
use Rattle.x86_table.specs.Instruction.{operands_of}
use Rattle.x86_steps.specs.declared.registers.Registers.{Registers}
use Rattle.x86_steps.specs.declared.flags.Flags.{Flags}
use Rattle.x86_steps.specs.declared.access.Size.{Size}
use Rattle.x86_steps.specs.declared.access.Size.TheVariants as size
use Rattle.x86_steps.specs.Accesses.{bytes_of}
use Rattle.x86_memory.specs.declared.buffer.Write.{Write}
use Rattle.x86_memory.specs.Bytes.{Bytes, view, word_at}
use Rattle.x86_lang.specs.Assembly.{Assembly, code_start, data_start, heap_start}
use Rattle.x86_machine.specs.declared.now.X86Now.{X86Now}

-- a thread; the place is the address of its next instruction, and while it waits, that of its call of the outside
pub record Thread : Type 0 where
  pub registers : Registers
  pub flags : Flags
  pub place : ℕ
  -- where its stack begins
  pub stack : ℕ
  pub waits : Bool
  pub ended : Bool
  -- its writes that have not reached memory, oldest first
  pub buffer : List Write

pub record State : Type 0 where
  pub now : X86Now
  pub memory : Bytes
  -- the live heap blocks, bases with sizes, by rising base
  pub heap : List (ℕ × ℕ)
  -- in order of creation
  pub threads : List Thread

-- ---- the address map

abbrev pub stacks_start : ℕ
stacks_start = 0x90000000

abbrev pub stacks_end : ℕ
stacks_end = 0xF0000000

abbrev pub stack_size : ℕ
stack_size = 1048576

-- a range lies in another; two ranges share an address
abbrev pub lies_in : (base bytes x n : ℕ) → Bool
lies_in base bytes x n = nat_le base x && nat_le (x + n) (base + bytes)

abbrev pub meets : (base1 size1 base2 size2 : ℕ) → Bool
meets base1 size1 base2 size2 = nat_lt base1 (base2 + size2) && nat_lt base2 (base1 + size1)

-- a range lies in the data, of which there are so many bytes, in the heap's range or in a stack given so far
abbrev pub is_mapped : (bytes : ℕ) → List Thread → (x n : ℕ) → Bool
is_mapped bytes ts x n =
    lies_in data_start bytes x n
    || (lies_in heap_start (stacks_start - heap_start) x n
    || list_any (λ t. lies_in t.stack stack_size x n) ts)

-- an access is right where it is aligned and lies in the data, in the heap's range or in a stack given so far
abbrev pub is_right_among : (bytes : ℕ) → List Thread → Size → (address : ℕ) → Bool
is_right_among bytes ts s x = (x % bytes_of s == 0) && is_mapped bytes ts x (bytes_of s)

abbrev pub is_right : Assembly → State → Size → (address : ℕ) → Bool
is_right a m s x = is_right_among (length a.bytes) m.threads s x

-- a stack pointer may stand from the first byte of the thread's stack to behind its last
abbrev pub is_on_stack : Thread → (esp : ℕ) → Bool
is_on_stack t esp = nat_le t.stack esp && nat_le esp (t.stack + stack_size)

-- where the stack pointer of a new thread stands: at a 0, below the thread's argument
abbrev pub start_of : (stack : ℕ) → ℕ
start_of stack = stack + (stack_size - 8)

-- ---- code

-- the instruction at an address
abbrev pub instruction_at : Assembly → ℕ → Option Instr
instruction_at a x = if nat_le code_start x then slice_get a.instructions (x - code_start) else None

abbrev pub is_code : Assembly → ℕ → Bool
is_code a x = is_some (instruction_at a x)

-- the name that an instruction has: no form has two
abbrev pub name_or : Option Names → Operand → Option Names
name_or other (Symbol s) = Some s.name
name_or other (Memory a) = a.label
name_or other _ = other

abbrev pub name_of : Instr → Option Names
name_of i = name_or (name_or None (operands_of i).second) (operands_of i).first

-- its address, 0 where there is none
abbrev pub address_or_zero : Places → Option Names → ℕ
address_or_zero at None = 0
address_or_zero at (Some name) = unwrap_or (address_of at name) 0

abbrev pub label_of : Assembly → Instr → ℕ
label_of a i = address_or_zero a.labels (name_of i)

-- how many words an external takes, where the name is that of one
abbrev pub words_of : List (Names × ℕ) → Names → Option ℕ
words_of [] name = None
words_of (e ∷ es) name = if bytes_eq e.0 name then Some e.1 else words_of es name

-- ---- what a thread sees

abbrev pub seen : State → Thread → Bytes
seen m t = view m.memory t.buffer

-- so many words from an address on, and whether each access to them is right
abbrev pub words_from : Bytes → (address count : ℕ) → List ℕ
words_from b x zero = []
words_from b x (suc n) = word_at b size.Word x ∷ words_from b (x + 4) n

abbrev pub are_right : Assembly → State → (address count : ℕ) → Bool
are_right a m x zero = true
are_right a m x (suc n) = is_right a m size.Word x && are_right a m (x + 4) n

-- ---- heap and stacks

-- the size of the live block with this base
abbrev pub block_at : List (ℕ × ℕ) → (base : ℕ) → Option ℕ
block_at [] base = None
block_at (b ∷ bs) base = if b.0 == base then Some b.1 else block_at bs base

-- a block of no bytes takes one
abbrev pub block_size : ℕ → ℕ
block_size zero = 1
block_size (suc n) = suc n

-- a block may begin here: at a multiple of 16, in the heap's range, and apart from the live blocks
abbrev pub is_block_allowed : List (ℕ × ℕ) → (base bytes : ℕ) → Bool
is_block_allowed bs base bytes = (base % 16 == 0) && (lies_in heap_start (stacks_start - heap_start) base bytes && list_all (λ b. not (meets b.0 b.1 base bytes)) bs)

-- a block more, by its base, and one less
abbrev pub with_block : (base bytes : ℕ) → List (ℕ × ℕ) → List (ℕ × ℕ)
with_block base bytes [] = (base, bytes) ∷ []
with_block base bytes (b ∷ bs) = if nat_lt b.0 base then b ∷ with_block base bytes bs else (base, bytes) ∷ b ∷ bs

abbrev pub without_block : (base : ℕ) → List (ℕ × ℕ) → List (ℕ × ℕ)
without_block base bs = filter (λ b. not (b.0 == base)) bs

-- a stack may begin here: at a multiple of 16, in the stacks' range, and apart from those given so far
abbrev pub is_stack_allowed : List Thread → (base : ℕ) → Bool
is_stack_allowed ts base = (base % 16 == 0) && (lies_in stacks_start (stacks_end - stacks_start) base stack_size && list_all (λ t. not (meets t.stack stack_size base stack_size)) ts)
