-- The registers of a thread as words, and the parts of them that operands name (Intel's manual of the IA-32 architecture, volume 1, section 3.4.1). The code writes them in place.
use Rattle.std.specs.Prelude.{ℕ, ◌+◌, ◌*◌, ◌/◌, ◌%◌, ◌^◌}
use Rattle.x86_table.specs.declared.register.Register.{Register}
use Rattle.x86_table.specs.declared.register.Register.TheVariants.{Eax, Ebx, Ecx, Edx, Esi, Edi, Ebp, Esp}
use Rattle.x86_table.specs.declared.register.ByteRegister.{ByteRegister}
use Rattle.x86_table.specs.declared.register.ByteRegister.TheVariants.{Al, Bl, Cl, Dl}
use Rattle.x86_table.specs.declared.register.HalfRegister.{HalfRegister}
use Rattle.x86_table.specs.declared.register.HalfRegister.TheVariants.{Ax, Bx, Cx, Dx, Si, Di, Bp}
use Rattle.x86_table.specs.declared.register.IndexRegister.{IndexRegister}
use Rattle.x86_table.specs.declared.register.IndexRegister.TheVariants as index
use Rattle.x86_steps.specs.declared.registers.Registers.{Registers}

-- the word in a register
abbrev pub word_in : Registers → Register → ℕ
word_in r Eax = r.eax
word_in r Ebx = r.ebx
word_in r Ecx = r.ecx
word_in r Edx = r.edx
word_in r Esi = r.esi
word_in r Edi = r.edi
word_in r Ebp = r.ebp
word_in r Esp = r.esp

-- the registers with another word in one of them
abbrev pub with_word : Registers → Register → ℕ → Registers
with_word r Eax w = record r { eax = w }
with_word r Ebx w = record r { ebx = w }
with_word r Ecx w = record r { ecx = w }
with_word r Edx w = record r { edx = w }
with_word r Esi w = record r { esi = w }
with_word r Edi w = record r { edi = w }
with_word r Ebp w = record r { ebp = w }
with_word r Esp w = record r { esp = w }

-- the register whose lowest byte, or lower half, an operand names
abbrev pub whole_of_byte : ByteRegister → Register
whole_of_byte Al = Eax
whole_of_byte Bl = Ebx
whole_of_byte Cl = Ecx
whole_of_byte Dl = Edx

abbrev pub whole_of_half : HalfRegister → Register
whole_of_half Ax = Eax
whole_of_half Bx = Ebx
whole_of_half Cx = Ecx
whole_of_half Dx = Edx
whole_of_half Si = Esi
whole_of_half Di = Edi
whole_of_half Bp = Ebp

-- the register that an index names
abbrev pub register_of_index : IndexRegister → Register
register_of_index index.Eax = Eax
register_of_index index.Ebx = Ebx
register_of_index index.Ecx = Ecx
register_of_index index.Edx = Edx
register_of_index index.Esi = Esi
register_of_index index.Edi = Edi
register_of_index index.Ebp = Ebp

abbrev pub byte_in : Registers → ByteRegister → ℕ
byte_in r b = word_in r (whole_of_byte b) % 2 ^ 8

abbrev pub half_in : Registers → HalfRegister → ℕ
half_in r h = word_in r (whole_of_half h) % 2 ^ 16

-- another lowest byte; the three above it stay
abbrev pub with_byte : Registers → ByteRegister → ℕ → Registers
with_byte r b v = with_word r (whole_of_byte b) (word_in r (whole_of_byte b) / 2 ^ 8 * 2 ^ 8 + v)
