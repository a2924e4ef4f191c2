-- The names of the registers, after GNU as for the System V i386 ABI, and the factors of an index.
use Rattle.std.specs.Prelude.{ℕ, List, codes}
use Rattle.x86_table.specs.declared.register.Register.{Register}
use Rattle.x86_table.specs.declared.register.Register.TheVariants as word
use Rattle.x86_table.specs.declared.register.ByteRegister.{ByteRegister}
use Rattle.x86_table.specs.declared.register.ByteRegister.TheVariants as byte
use Rattle.x86_table.specs.declared.register.HalfRegister.{HalfRegister}
use Rattle.x86_table.specs.declared.register.HalfRegister.TheVariants as half
use Rattle.x86_table.specs.declared.register.IndexRegister.{IndexRegister}
use Rattle.x86_table.specs.declared.register.IndexRegister.TheVariants as index
use Rattle.x86_table.specs.declared.operand.Scale.{Scale}
use Rattle.x86_table.specs.declared.operand.Scale.TheVariants as scale

abbrev pub register_text : Register → List ℕ
register_text word.Eax = codes "%eax"
register_text word.Ebx = codes "%ebx"
register_text word.Ecx = codes "%ecx"
register_text word.Edx = codes "%edx"
register_text word.Esi = codes "%esi"
register_text word.Edi = codes "%edi"
register_text word.Ebp = codes "%ebp"
register_text word.Esp = codes "%esp"

abbrev pub byte_text : ByteRegister → List ℕ
byte_text byte.Al = codes "%al"
byte_text byte.Bl = codes "%bl"
byte_text byte.Cl = codes "%cl"
byte_text byte.Dl = codes "%dl"

abbrev pub half_text : HalfRegister → List ℕ
half_text half.Ax = codes "%ax"
half_text half.Bx = codes "%bx"
half_text half.Cx = codes "%cx"
half_text half.Dx = codes "%dx"
half_text half.Si = codes "%si"
half_text half.Di = codes "%di"
half_text half.Bp = codes "%bp"

-- an index is a register other than ESP
abbrev pub index_register : IndexRegister → Register
index_register index.Eax = word.Eax
index_register index.Ebx = word.Ebx
index_register index.Ecx = word.Ecx
index_register index.Edx = word.Edx
index_register index.Esi = word.Esi
index_register index.Edi = word.Edi
index_register index.Ebp = word.Ebp

-- what an index is multiplied by
abbrev pub factor : Scale → ℕ
factor scale.One = 1
factor scale.Two = 2
factor scale.Four = 4
factor scale.Eight = 8
