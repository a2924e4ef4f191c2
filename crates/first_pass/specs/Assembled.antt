-- The assembly that returns a number, and its text.
use Rattle.std.specs.Prelude.{ℕ, List, [], ◌∷◌, ◌++◌, codes, decimal}
use Rattle.x86_table.specs.declared.register.Register.TheVariants.{Eax}
use Rattle.x86_table.specs.declared.instruction.Instr.TheVariants.{MoveNumber, Return}
use Rattle.x86_lang.specs.declared.assembly.CodeLine.TheVariants.{Label, Op}
use Rattle.x86_lang.specs.declared.assembly.Parts.{Parts}
use Rattle.x86_lang.specs.Assembly.{Assembly}

-- main moves the number into EAX, and returns
abbrev pub parts_returning : ℕ → Parts
parts_returning n =
    record {
      pace = 1;
      externs = [];
      exports = codes "main" ∷ [];
      code = Label (codes "main") ∷ Op (MoveNumber n Eax) ∷ Op Return ∷ [];
      statics = [];
    }

-- what the machine reads of it
abbrev pub returning : ℕ → Assembly
returning n =
    record {
      pace = 1;
      externs = [];
      instructions = MoveNumber n Eax ∷ Return ∷ [];
      labels = (codes "main", 0x08000000) ∷ [];
      bytes = [];
    }

-- its text: seven lines
abbrev pub text_front : List ℕ
text_front = codes "# pace 1\n.globl main\n.data\n.text\nmain:\n\tmovl $"

abbrev pub text_back : List ℕ
text_back = codes ", %eax\n\tret\n"

abbrev pub text_of : ℕ → List ℕ
text_of n = text_front ++ (decimal n ++ text_back)
