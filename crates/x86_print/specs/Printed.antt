-- The printed form of an instruction: a tab, the mnemonic, one space, ', ' between operands, signed decimals; nothing that is 0 is added.
use Rattle.std.specs.Prelude.{ℕ, ◌+◌, ◌-◌, List, [], ◌∷◌, ◌++◌, codes, Option, Some, None, ◌==◌, nat_lt, if◌then◌else◌}
use Rattle.std.specs.Fmt.{decimal}
use Rattle.x86_table.specs.declared.register.Register.{Register}
use Rattle.x86_table.specs.declared.operand.Index.{Index}
use Rattle.x86_table.specs.declared.operand.Operand.{Operand}
use Rattle.x86_table.specs.declared.operand.Operand.TheVariants as operand
use Rattle.x86_table.specs.declared.instruction.Instr.{Instr}
use Rattle.x86_table.specs.Mnemonic.{text_of}
use Rattle.x86_table.specs.Instruction.{mnemonic_of, operands_of}
use Rattle.x86_lines.specs.Registers.{register_text, byte_text, half_text, index_register, factor}

-- the signed decimal that is printed for bits of a width whose sign bit is `half`
abbrev pub signed_text : ℕ → ℕ → List ℕ
signed_text half n = if nat_lt n half then decimal n else 45 ∷ decimal (half + half - n)

abbrev pub word_text : ℕ → List ℕ
word_text n = signed_text 2147483648 n

-- what is added to a label
abbrev pub plus_text : ℕ → List ℕ
plus_text n = if n == 0 then [] else 43 ∷ word_text n

-- an index with its scale
abbrev pub index_text : Index → List ℕ
index_text i = codes "," ++ register_text (index_register i.register) ++ codes "," ++ decimal (factor i.scale)

-- the parentheses
abbrev pub base_text : Option Register → List ℕ
base_text None = []
base_text (Some r) = register_text r

abbrev pub back_text : Option Register → Option Index → List ℕ
back_text None None = []
back_text (Some r) None = codes "(" ++ register_text r ++ codes ")"
back_text base (Some i) = codes "(" ++ base_text base ++ index_text i ++ codes ")"

-- a number that stands before parentheses is left out where it is 0
abbrev pub displacement_text : ℕ → Option Register → Option Index → List ℕ
displacement_text n None None = word_text n
displacement_text n _ _ = if n == 0 then [] else word_text n

abbrev pub front_text : Option (List ℕ) → ℕ → Option Register → Option Index → List ℕ
front_text None n base index = displacement_text n base index
front_text (Some name) n base index = name ++ plus_text n

abbrev pub operand_text : Operand → List ℕ
operand_text operand.Absent = []
operand_text (operand.Word r) = register_text r
operand_text (operand.Byte r) = byte_text r
operand_text (operand.Half r) = half_text r
operand_text (operand.Number n) = 36 ∷ word_text n
operand_text (operand.Symbol s) = 36 ∷ s.name ++ plus_text s.plus
operand_text (operand.Memory m) = front_text m.label m.displacement m.base m.index ++ back_text m.base m.index
operand_text (operand.Through r) = 42 ∷ register_text r

-- a second operand, and operands behind a mnemonic
abbrev pub second_text : Operand → List ℕ
second_text operand.Absent = []
second_text o = codes ", " ++ operand_text o

abbrev pub operands_at : Operand → Operand → List ℕ
operands_at operand.Absent second = []
operands_at first second = 32 ∷ operand_text first ++ second_text second

abbrev pub instr_text : Instr → List ℕ
instr_text i = 9 ∷ text_of (mnemonic_of i) ++ operands_at (operands_of i).first (operands_of i).second
