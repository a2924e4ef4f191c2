-- What the table tells of the names that a line uses.
use Rattle.std.proofs.Common.{◌≡◌, ◌≢◌, ◌⊎◌, List, refl, inl, inr, Bool, true, false, Option, Some, None}
use Rattle.std.specs.Prelude.{◌↔◌, bytes_eq, ◌||◌, ◌&&◌, codes}
use Rattle.std.proofs.lemmas.Bool.{false≢true}
use Rattle.std.proofs.lemmas.Slice.Eq.{bytes_eq-Decides}
use Rattle.tso_core.specs.Systems.{Names}
use Rattle.x86_table.specs.declared.instruction.Condition.{Condition}
use Rattle.x86_table.specs.declared.operand.Operand.{Operand}
use Rattle.x86_table.specs.declared.operand.Operand.TheVariants as operand
use Rattle.x86_table.specs.declared.instruction.Instr.{Instr}
use Rattle.x86_table.specs.declared.instruction.Instr.TheVariants.{MoveNumber, MoveSymbol, Move, Load, Store, StoreNumber, StoreByte, StoreHalf, LoadExtended, ExtendByte, ExtendHalf, LoadAddress, Combine, CombineNumber, Negate, Complement, ShiftByNumber, ShiftByCl, ExtendEax, Divide, Compare, CompareNumber, Test, Set, JumpIf, Jump, Call, CallThrough, Return, Push, Pop, Fence, CompareExchange, ExchangeAdd, Exchange}
use Rattle.x86_table.specs.Instruction.{operands_of}
use Rattle.x86_lang.specs.Whole.{IsAmong, services}
use Rattle.x86_text.specs.declared.line.Line.{Line}
use Rattle.x86_text.specs.declared.line.Line.TheVariants as line
use Rattle.x86_text.specs.Bad.{Made, CodeLabel, DataLabel, External, IsLabelOf, IsCalleeOf, HasLabel, NamesLabel, InstrNames, UsesMade}
use Rattle.x86_text.specs.Naming.{Look, as_code, as_data, as_external, is_service, label_named, callee_named, label_or_none, operand_named, operands_named, instr_named, line_named, Tells}

-- a test that decides a sum, a pair, nothing
or_to : (a b : Bool) → (a || b) ≡ true → (a ≡ true) ⊎ (b ≡ true)
or_to true b h = inl refl
or_to false b h = inr h

or_from : (a b : Bool) → (a ≡ true) ⊎ (b ≡ true) → (a || b) ≡ true
or_from true b h = refl
or_from false b (inl e) = absurd (false≢true e)
or_from false b (inr e) = e

and_to : (a b : Bool) → (a && b) ≡ true → (a ≡ true) × (b ≡ true)
and_to true b h = (refl, h)
and_to false b h = absurd (false≢true h)

and_back : (a b : Bool) → (a ≡ true) × (b ≡ true) → (a && b) ≡ true
and_back true b h = h.1
and_back false b h = absurd (false≢true h.0)

sum_of : {X Y V W : Type 0} → (X → V) → (Y → W) → X ⊎ Y → V ⊎ W
sum_of f g (inl x) = inl (f x)
sum_of f g (inr y) = inr (g y)

either : (a b : Bool) {X Y : Type 0} → (a ≡ true) ↔ X → (b ≡ true) ↔ Y → ((a || b) ≡ true) ↔ (X ⊎ Y)
either a b f g = (λ h. sum_of f.0 g.0 (or_to a b h), λ h. or_from a b (sum_of f.1 g.1 h))

both : (a b : Bool) {X Y : Type 0} → (a ≡ true) ↔ X → (b ≡ true) ↔ Y → ((a && b) ≡ true) ↔ (X × Y)
both a b f g = (λ h. let p = and_to a b h in (f.0 p.0, g.0 p.1), λ h. and_back a b (f.1 h.0, g.1 h.1))

always : (true ≡ true) ↔ Unit {0}
always = (λ h. tt, λ h. refl)

from_last : {X : Type 0} → X ⊎ ⊥ → X
from_last (inl x) = x
from_last (inr h) = absurd h

-- services
last_service : (b : Bool) {X : Type 0} → (b ≡ true) ↔ X → (b ≡ true) ↔ (X ⊎ ⊥)
last_service b f = (λ h. inl (f.0 h), λ h. f.1 (from_last h))

pub is_served : (name : Names) → (is_service name ≡ true) ↔ IsAmong name services
is_served name = either (bytes_eq name (codes "malloc")) (bytes_eq name (codes "free") || (bytes_eq name (codes "thread_create") || bytes_eq name (codes "exit"))) (bytes_eq-Decides name (codes "malloc")) (either (bytes_eq name (codes "free")) (bytes_eq name (codes "thread_create") || bytes_eq name (codes "exit")) (bytes_eq-Decides name (codes "free")) (either (bytes_eq name (codes "thread_create")) (bytes_eq name (codes "exit")) (bytes_eq-Decides name (codes "thread_create")) (last_service (bytes_eq name (codes "exit")) (bytes_eq-Decides name (codes "exit")))))

module _ (at : Look) (all : List (Names × Made)) (tells : Tells at all) where
  label_told : (name : Names) → (label_named at name ≡ true) ↔ IsLabelOf all name
  label_told name = either (as_code (at name)) (as_data (at name)) (tells name CodeLabel) (tells name DataLabel)

  callee_told : (name : Names) → (callee_named at name ≡ true) ↔ IsCalleeOf all name
  callee_told name = either (as_code (at name)) (as_external (at name) || is_service name) (tells name CodeLabel) (either (as_external (at name)) (is_service name) (tells name External) (is_served name))

  none_told : (label : Option Names) → (label_or_none at label ≡ true) ↔ HasLabel all label
  none_told None = always
  none_told (Some name) = label_told name

  operand_told : (o : Operand) → (operand_named at o ≡ true) ↔ NamesLabel all o
  operand_told operand.Absent = always
  operand_told (operand.Word r) = always
  operand_told (operand.Byte r) = always
  operand_told (operand.Half r) = always
  operand_told (operand.Number n) = always
  operand_told (operand.Symbol s) = label_told s.name
  operand_told (operand.Memory m) = none_told m.label
  operand_told (operand.Through r) = always

  instr_told : (i : Instr) → (instr_named at i ≡ true) ↔ InstrNames all i
  instr_told (MoveNumber n r) = both (operand_named at (operands_of (MoveNumber n r)).first) (operand_named at (operands_of (MoveNumber n r)).second) (operand_told (operands_of (MoveNumber n r)).first) (operand_told (operands_of (MoveNumber n r)).second)
  instr_told (MoveSymbol s r) = both (operand_named at (operands_of (MoveSymbol s r)).first) (operand_named at (operands_of (MoveSymbol s r)).second) (operand_told (operands_of (MoveSymbol s r)).first) (operand_told (operands_of (MoveSymbol s r)).second)
  instr_told (Move q r) = both (operand_named at (operands_of (Move q r)).first) (operand_named at (operands_of (Move q r)).second) (operand_told (operands_of (Move q r)).first) (operand_told (operands_of (Move q r)).second)
  instr_told (Load m r) = both (operand_named at (operands_of (Load m r)).first) (operand_named at (operands_of (Load m r)).second) (operand_told (operands_of (Load m r)).first) (operand_told (operands_of (Load m r)).second)
  instr_told (Store r m) = both (operand_named at (operands_of (Store r m)).first) (operand_named at (operands_of (Store r m)).second) (operand_told (operands_of (Store r m)).first) (operand_told (operands_of (Store r m)).second)
  instr_told (StoreNumber n m) = both (operand_named at (operands_of (StoreNumber n m)).first) (operand_named at (operands_of (StoreNumber n m)).second) (operand_told (operands_of (StoreNumber n m)).first) (operand_told (operands_of (StoreNumber n m)).second)
  instr_told (StoreByte r m) = both (operand_named at (operands_of (StoreByte r m)).first) (operand_named at (operands_of (StoreByte r m)).second) (operand_told (operands_of (StoreByte r m)).first) (operand_told (operands_of (StoreByte r m)).second)
  instr_told (StoreHalf r m) = both (operand_named at (operands_of (StoreHalf r m)).first) (operand_named at (operands_of (StoreHalf r m)).second) (operand_told (operands_of (StoreHalf r m)).first) (operand_told (operands_of (StoreHalf r m)).second)
  instr_told (LoadExtended wd s m r) = both (operand_named at (operands_of (LoadExtended wd s m r)).first) (operand_named at (operands_of (LoadExtended wd s m r)).second) (operand_told (operands_of (LoadExtended wd s m r)).first) (operand_told (operands_of (LoadExtended wd s m r)).second)
  instr_told (ExtendByte s q r) = both (operand_named at (operands_of (ExtendByte s q r)).first) (operand_named at (operands_of (ExtendByte s q r)).second) (operand_told (operands_of (ExtendByte s q r)).first) (operand_told (operands_of (ExtendByte s q r)).second)
  instr_told (ExtendHalf s q r) = both (operand_named at (operands_of (ExtendHalf s q r)).first) (operand_named at (operands_of (ExtendHalf s q r)).second) (operand_told (operands_of (ExtendHalf s q r)).first) (operand_told (operands_of (ExtendHalf s q r)).second)
  instr_told (LoadAddress m r) = both (operand_named at (operands_of (LoadAddress m r)).first) (operand_named at (operands_of (LoadAddress m r)).second) (operand_told (operands_of (LoadAddress m r)).first) (operand_told (operands_of (LoadAddress m r)).second)
  instr_told (Combine op q r) = both (operand_named at (operands_of (Combine op q r)).first) (operand_named at (operands_of (Combine op q r)).second) (operand_told (operands_of (Combine op q r)).first) (operand_told (operands_of (Combine op q r)).second)
  instr_told (CombineNumber op n r) = both (operand_named at (operands_of (CombineNumber op n r)).first) (operand_named at (operands_of (CombineNumber op n r)).second) (operand_told (operands_of (CombineNumber op n r)).first) (operand_told (operands_of (CombineNumber op n r)).second)
  instr_told (Negate r) = both (operand_named at (operands_of (Negate r)).first) (operand_named at (operands_of (Negate r)).second) (operand_told (operands_of (Negate r)).first) (operand_told (operands_of (Negate r)).second)
  instr_told (Complement r) = both (operand_named at (operands_of (Complement r)).first) (operand_named at (operands_of (Complement r)).second) (operand_told (operands_of (Complement r)).first) (operand_told (operands_of (Complement r)).second)
  instr_told (ShiftByNumber s n r) = both (operand_named at (operands_of (ShiftByNumber s n r)).first) (operand_named at (operands_of (ShiftByNumber s n r)).second) (operand_told (operands_of (ShiftByNumber s n r)).first) (operand_told (operands_of (ShiftByNumber s n r)).second)
  instr_told (ShiftByCl s r) = both (operand_named at (operands_of (ShiftByCl s r)).first) (operand_named at (operands_of (ShiftByCl s r)).second) (operand_told (operands_of (ShiftByCl s r)).first) (operand_told (operands_of (ShiftByCl s r)).second)
  instr_told ExtendEax = both (operand_named at (operands_of ExtendEax).first) (operand_named at (operands_of ExtendEax).second) (operand_told (operands_of ExtendEax).first) (operand_told (operands_of ExtendEax).second)
  instr_told (Divide s r) = both (operand_named at (operands_of (Divide s r)).first) (operand_named at (operands_of (Divide s r)).second) (operand_told (operands_of (Divide s r)).first) (operand_told (operands_of (Divide s r)).second)
  instr_told (Compare q r) = both (operand_named at (operands_of (Compare q r)).first) (operand_named at (operands_of (Compare q r)).second) (operand_told (operands_of (Compare q r)).first) (operand_told (operands_of (Compare q r)).second)
  instr_told (CompareNumber n r) = both (operand_named at (operands_of (CompareNumber n r)).first) (operand_named at (operands_of (CompareNumber n r)).second) (operand_told (operands_of (CompareNumber n r)).first) (operand_told (operands_of (CompareNumber n r)).second)
  instr_told (Test q r) = both (operand_named at (operands_of (Test q r)).first) (operand_named at (operands_of (Test q r)).second) (operand_told (operands_of (Test q r)).first) (operand_told (operands_of (Test q r)).second)
  instr_told (Set c r) = both (operand_named at (operands_of (Set c r)).first) (operand_named at (operands_of (Set c r)).second) (operand_told (operands_of (Set c r)).first) (operand_told (operands_of (Set c r)).second)
  instr_told (JumpIf c name) = tells name CodeLabel
  instr_told (Jump name) = tells name CodeLabel
  instr_told (Call name) = callee_told name
  instr_told (CallThrough r) = both (operand_named at (operands_of (CallThrough r)).first) (operand_named at (operands_of (CallThrough r)).second) (operand_told (operands_of (CallThrough r)).first) (operand_told (operands_of (CallThrough r)).second)
  instr_told Return = both (operand_named at (operands_of Return).first) (operand_named at (operands_of Return).second) (operand_told (operands_of Return).first) (operand_told (operands_of Return).second)
  instr_told (Push r) = both (operand_named at (operands_of (Push r)).first) (operand_named at (operands_of (Push r)).second) (operand_told (operands_of (Push r)).first) (operand_told (operands_of (Push r)).second)
  instr_told (Pop r) = both (operand_named at (operands_of (Pop r)).first) (operand_named at (operands_of (Pop r)).second) (operand_told (operands_of (Pop r)).first) (operand_told (operands_of (Pop r)).second)
  instr_told Fence = both (operand_named at (operands_of Fence).first) (operand_named at (operands_of Fence).second) (operand_told (operands_of Fence).first) (operand_told (operands_of Fence).second)
  instr_told (CompareExchange r m) = both (operand_named at (operands_of (CompareExchange r m)).first) (operand_named at (operands_of (CompareExchange r m)).second) (operand_told (operands_of (CompareExchange r m)).first) (operand_told (operands_of (CompareExchange r m)).second)
  instr_told (ExchangeAdd r m) = both (operand_named at (operands_of (ExchangeAdd r m)).first) (operand_named at (operands_of (ExchangeAdd r m)).second) (operand_told (operands_of (ExchangeAdd r m)).first) (operand_told (operands_of (ExchangeAdd r m)).second)
  instr_told (Exchange r m) = both (operand_named at (operands_of (Exchange r m)).first) (operand_named at (operands_of (Exchange r m)).second) (operand_told (operands_of (Exchange r m)).first) (operand_told (operands_of (Exchange r m)).second)

  pub line_told : (l : Line) → (line_named at l ≡ true) ↔ UsesMade all l
  line_told line.Nothing = always
  line_told (line.Pace n) = always
  line_told (line.Extern name n) = always
  line_told line.Text = always
  line_told line.Data = always
  line_told (line.Export name) = label_told name
  line_told (line.Label name) = always
  line_told (line.Datum s) = always
  line_told (line.Op i) = instr_told i

-- an instruction that is no jump and no call by name
pub other_instr : (at : Look) (i : Instr) → ((c : Condition) (name : Names) → i ≢ JumpIf c name) → ((name : Names) → i ≢ Jump name) → ((name : Names) → i ≢ Call name) → operands_named at (operands_of i) ≡ instr_named at i
other_instr at (MoveNumber n r) h k l = refl
other_instr at (MoveSymbol s r) h k l = refl
other_instr at (Move q r) h k l = refl
other_instr at (Load m r) h k l = refl
other_instr at (Store r m) h k l = refl
other_instr at (StoreNumber n m) h k l = refl
other_instr at (StoreByte r m) h k l = refl
other_instr at (StoreHalf r m) h k l = refl
other_instr at (LoadExtended wd s m r) h k l = refl
other_instr at (ExtendByte s q r) h k l = refl
other_instr at (ExtendHalf s q r) h k l = refl
other_instr at (LoadAddress m r) h k l = refl
other_instr at (Combine op q r) h k l = refl
other_instr at (CombineNumber op n r) h k l = refl
other_instr at (Negate r) h k l = refl
other_instr at (Complement r) h k l = refl
other_instr at (ShiftByNumber s n r) h k l = refl
other_instr at (ShiftByCl s r) h k l = refl
other_instr at ExtendEax h k l = refl
other_instr at (Divide s r) h k l = refl
other_instr at (Compare q r) h k l = refl
other_instr at (CompareNumber n r) h k l = refl
other_instr at (Test q r) h k l = refl
other_instr at (Set c r) h k l = refl
other_instr at (JumpIf c name) h k l = absurd (h c name refl)
other_instr at (Jump name) h k l = absurd (k name refl)
other_instr at (Call name) h k l = absurd (l name refl)
other_instr at (CallThrough r) h k l = refl
other_instr at Return h k l = refl
other_instr at (Push r) h k l = refl
other_instr at (Pop r) h k l = refl
other_instr at Fence h k l = refl
other_instr at (CompareExchange r m) h k l = refl
other_instr at (ExchangeAdd r m) h k l = refl
other_instr at (Exchange r m) h k l = refl
