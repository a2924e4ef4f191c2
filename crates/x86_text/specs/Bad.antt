-- Which line of a text is its first bad one. A line is bad where it says nothing, or nothing that may stand there; where it makes a name that an earlier line makes, or that of a service; where the code or the data get too long with it; and where it uses a name that no line of the text makes for that place. A label on a bad line stands in the text too. A text in which no label of code is 'main' is bad behind its last line.
use Rattle.std.specs.Prelude.{◌≡◌, ◌⊎◌, ℕ, suc, ◌<◌, Bool, true, false, List, [], ◌∷◌, ◌++◌, codes, Option, Some, None, MatchOption}
use Rattle.tso_core.specs.Systems.{Names}
use Rattle.x86_table.specs.declared.operand.Operand.{Operand}
use Rattle.x86_table.specs.declared.operand.Operand.TheVariants.{Symbol, Memory}
use Rattle.x86_table.specs.declared.instruction.Instr.{Instr}
use Rattle.x86_table.specs.declared.instruction.Instr.TheVariants.{JumpIf, Jump, Call}
use Rattle.x86_table.specs.Instruction.{operands_of}
use Rattle.x86_lang.specs.declared.assembly.Parts.{Parts}
use Rattle.x86_lang.specs.Assembly.{code_start, data_start, heap_start, code_end, data_end}
use Rattle.x86_lang.specs.Whole.{IsAmong, IsPlaced, services, names_made, IsCodeLabel}
use Rattle.x86_text.specs.declared.line.Line.{Line}
use Rattle.x86_text.specs.declared.line.Line.TheVariants as line
use Rattle.x86_text.specs.Text.{Says, Gathered, adds, opening, lines}

-- what each line says, None where it says nothing
pub data Hears : List (List ℕ) → List (Option Line) → Type 0 where
  Over : Hears [] []
  Heard : (bytes : List ℕ) (rest : List (List ℕ)) (said : Option Line) (more : List (Option Line)) → MatchOption said ((l : Line) → ¬ Says bytes l) (λ l. Says bytes l) → Hears rest more → Hears (bytes ∷ rest) (said ∷ more)

-- what a name is made as
pub data Made : Type 0 where
  CodeLabel : Made
  DataLabel : Made
  External : Made

-- the section behind a line: only '.text' and '.data' change it
abbrev pub section : Bool → Option Line → Bool
section in_data (Some line.Text) = false
section in_data (Some line.Data) = true
section in_data _ = in_data

abbrev pub label_in : Bool → Made
label_in true = DataLabel
label_in false = CodeLabel

-- the names that lines make, be they good or bad
abbrev pub makes : Bool → Option Line → List (Names × Made)
makes in_data (Some (line.Label name)) = (name, label_in in_data) ∷ []
makes in_data (Some (line.Extern name n)) = (name, External) ∷ []
makes in_data _ = []

abbrev pub all_made : Bool → List (Option Line) → List (Names × Made)
all_made in_data [] = []
all_made in_data (said ∷ more) = makes in_data said ++ all_made (section in_data said) more

-- some line makes the name as this
abbrev pub IsMadeAs : Names → Made → List (Names × Made) → Type 0
IsMadeAs name m [] = ⊥
IsMadeAs name m (p ∷ ps) = ((name ≡ p.0) × (m ≡ p.1)) ⊎ IsMadeAs name m ps

abbrev pub IsLabelOf : List (Names × Made) → Names → Type 0
IsLabelOf all name = IsMadeAs name CodeLabel all ⊎ IsMadeAs name DataLabel all

abbrev pub IsCalleeOf : List (Names × Made) → Names → Type 0
IsCalleeOf all name = IsMadeAs name CodeLabel all ⊎ (IsMadeAs name External all ⊎ IsAmong name services)

abbrev pub HasLabel : List (Names × Made) → Option Names → Type 0
HasLabel all None = Unit {0}
HasLabel all (Some name) = IsLabelOf all name

abbrev pub NamesLabel : List (Names × Made) → Operand → Type 0
NamesLabel all (Symbol s) = IsLabelOf all s.name
NamesLabel all (Memory m) = HasLabel all m.label
NamesLabel all _ = Unit {0}

-- each name that is used is made for its place
abbrev pub InstrNames : List (Names × Made) → Instr → Type 0
InstrNames all (JumpIf condition name) = IsMadeAs name CodeLabel all
InstrNames all (Jump name) = IsMadeAs name CodeLabel all
InstrNames all (Call name) = IsCalleeOf all name
InstrNames all instr = NamesLabel all (operands_of instr).first × NamesLabel all (operands_of instr).second

abbrev pub UsesMade : List (Names × Made) → Line → Type 0
UsesMade all (line.Op instr) = InstrNames all instr
UsesMade all (line.Export name) = IsLabelOf all name
UsesMade all _ = Unit {0}

-- the name was made before, or is that of a service
abbrev pub IsTaken : Parts → Names → Type 0
IsTaken parts name = IsPlaced name (names_made parts) ⊎ IsAmong name services

abbrev pub MakesTaken : Parts → Line → Type 0
MakesTaken parts (line.Label name) = IsTaken parts name
MakesTaken parts (line.Extern name n) = IsTaken parts name
MakesTaken parts _ = ⊥

-- the code or the data reach past their end
abbrev pub IsTooLong : Parts → Type 0
IsTooLong parts = (data_start < code_end code_start parts.code) ⊎ (heap_start < data_end data_start parts.statics)

-- a line that comes behind good ones is bad
abbrev pub IsBad : List (Names × Made) → Gathered → Option Line → Type 0
IsBad all g None = Unit {0}
IsBad all g (Some l) = MatchOption (adds g l) (Unit {0}) (λ h. IsTooLong h.parts) ⊎ (MakesTaken g.parts l ⊎ (UsesMade all l → ⊥))

-- the first bad line, counted from 1
pub data FirstBad (all : List (Names × Made)) : Gathered → List (Option Line) → ℕ → Type 0 where
  Here : (g : Gathered) (said : Option Line) (more : List (Option Line)) → IsBad all g said → FirstBad all g (said ∷ more) 1
  Later : (g h : Gathered) (l : Line) (more : List (Option Line)) (n : ℕ) → (IsBad all g (Some l) → ⊥) → adds g l ≡ Some h → FirstBad all h more n → FirstBad all g (Some l ∷ more) (suc n)
  NoMain : (g : Gathered) → (IsCodeLabel g.parts (codes "main") → ⊥) → FirstBad all g [] 1

-- a text with its first bad line
pub record IsBadText (text : List ℕ) (n : ℕ) : Type 0 where
  pub said : List (Option Line)
  pub hears : Hears (lines text) said
  pub first : FirstBad (all_made false said) opening said n
