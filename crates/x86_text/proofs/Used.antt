-- The names that an instruction uses, in the text and in the parts.
use Rattle.std.proofs.Common.{◌⊎◌, List, inl, inr, Option, Some, None}
use Rattle.tso_core.specs.Systems.{Names}
use Rattle.x86_table.specs.declared.operand.Operand.{Operand}
use Rattle.x86_table.specs.declared.operand.Operand.TheVariants as operand
use Rattle.x86_table.specs.declared.instruction.Instr.{Instr}
use Rattle.x86_table.specs.declared.instruction.Instr.TheVariants.{MoveNumber, MoveSymbol, Move, Load, Store, StoreNumber, StoreByte, StoreHalf, LoadExtended, ExtendByte, ExtendHalf, LoadAddress, Combine, CombineNumber, Negate, Complement, ShiftByNumber, ShiftByCl, ExtendEax, Divide, Compare, CompareNumber, Test, Set, JumpIf, Jump, Call, CallThrough, Return, Push, Pop, Fence, CompareExchange, ExchangeAdd, Exchange}
use Rattle.x86_table.specs.Instruction.{operands_of}
use Rattle.x86_lines.specs.Grammar.{HasShortShift}
use Rattle.x86_lang.specs.declared.assembly.Parts.{Parts}
use Rattle.x86_lang.specs.Whole.{IsPlaced, IsLabel, IsCallable, IsLabelOrNone, UsesLabels, IsRightInstr}
use Rattle.x86_text.specs.Bad.{Made, CodeLabel, DataLabel, External, IsMadeAs, IsLabelOf, IsCalleeOf, HasLabel, NamesLabel, InstrNames}
use Rattle.x86_text.proofs.Placed.{placed_left, placed_right, placed_split}
use Rattle.x86_text.proofs.Growing.{IsMadeIn, codes_of, datas_of}

module _ (all : List (Names × Made)) (a : Parts) (to : (name : Names) (m : Made) → IsMadeAs name m all → IsMadeIn a name m) where
  pub label_to : (name : Names) → IsLabelOf all name → IsLabel a name
  label_to name (inl h) = placed_left name (codes_of a) (datas_of a) (to name CodeLabel h)
  label_to name (inr h) = placed_right name (codes_of a) (datas_of a) (to name DataLabel h)

  callee_to : (name : Names) → IsCalleeOf all name → IsCallable a name
  callee_to name (inl h) = inl (to name CodeLabel h)
  callee_to name (inr (inl h)) = inr (inl (to name External h))
  callee_to name (inr (inr h)) = inr (inr h)

  has_to : (label : Option Names) → HasLabel all label → IsLabelOrNone a label
  has_to None h = tt
  has_to (Some name) h = label_to name h

  operand_to : (o : Operand) → NamesLabel all o → UsesLabels a o
  operand_to operand.Absent h = tt
  operand_to (operand.Word r) h = tt
  operand_to (operand.Byte r) h = tt
  operand_to (operand.Half r) h = tt
  operand_to (operand.Number n) h = tt
  operand_to (operand.Symbol s) h = label_to s.name h
  operand_to (operand.Memory m) h = has_to m.label h
  operand_to (operand.Through r) h = tt

  pub instr_to : (i : Instr) → HasShortShift i → InstrNames all i → IsRightInstr a i
  instr_to (MoveNumber n r) short h = (operand_to (operands_of (MoveNumber n r)).first h.0, operand_to (operands_of (MoveNumber n r)).second h.1)
  instr_to (MoveSymbol s r) short h = (operand_to (operands_of (MoveSymbol s r)).first h.0, operand_to (operands_of (MoveSymbol s r)).second h.1)
  instr_to (Move q r) short h = (operand_to (operands_of (Move q r)).first h.0, operand_to (operands_of (Move q r)).second h.1)
  instr_to (Load m r) short h = (operand_to (operands_of (Load m r)).first h.0, operand_to (operands_of (Load m r)).second h.1)
  instr_to (Store r m) short h = (operand_to (operands_of (Store r m)).first h.0, operand_to (operands_of (Store r m)).second h.1)
  instr_to (StoreNumber n m) short h = (operand_to (operands_of (StoreNumber n m)).first h.0, operand_to (operands_of (StoreNumber n m)).second h.1)
  instr_to (StoreByte r m) short h = (operand_to (operands_of (StoreByte r m)).first h.0, operand_to (operands_of (StoreByte r m)).second h.1)
  instr_to (StoreHalf r m) short h = (operand_to (operands_of (StoreHalf r m)).first h.0, operand_to (operands_of (StoreHalf r m)).second h.1)
  instr_to (LoadExtended wd s m r) short h = (operand_to (operands_of (LoadExtended wd s m r)).first h.0, operand_to (operands_of (LoadExtended wd s m r)).second h.1)
  instr_to (ExtendByte s q r) short h = (operand_to (operands_of (ExtendByte s q r)).first h.0, operand_to (operands_of (ExtendByte s q r)).second h.1)
  instr_to (ExtendHalf s q r) short h = (operand_to (operands_of (ExtendHalf s q r)).first h.0, operand_to (operands_of (ExtendHalf s q r)).second h.1)
  instr_to (LoadAddress m r) short h = (operand_to (operands_of (LoadAddress m r)).first h.0, operand_to (operands_of (LoadAddress m r)).second h.1)
  instr_to (Combine op q r) short h = (operand_to (operands_of (Combine op q r)).first h.0, operand_to (operands_of (Combine op q r)).second h.1)
  instr_to (CombineNumber op n r) short h = (operand_to (operands_of (CombineNumber op n r)).first h.0, operand_to (operands_of (CombineNumber op n r)).second h.1)
  instr_to (Negate r) short h = (operand_to (operands_of (Negate r)).first h.0, operand_to (operands_of (Negate r)).second h.1)
  instr_to (Complement r) short h = (operand_to (operands_of (Complement r)).first h.0, operand_to (operands_of (Complement r)).second h.1)
  instr_to (ShiftByNumber s n r) short h = short
  instr_to (ShiftByCl s r) short h = (operand_to (operands_of (ShiftByCl s r)).first h.0, operand_to (operands_of (ShiftByCl s r)).second h.1)
  instr_to ExtendEax short h = (operand_to (operands_of ExtendEax).first h.0, operand_to (operands_of ExtendEax).second h.1)
  instr_to (Divide s r) short h = (operand_to (operands_of (Divide s r)).first h.0, operand_to (operands_of (Divide s r)).second h.1)
  instr_to (Compare q r) short h = (operand_to (operands_of (Compare q r)).first h.0, operand_to (operands_of (Compare q r)).second h.1)
  instr_to (CompareNumber n r) short h = (operand_to (operands_of (CompareNumber n r)).first h.0, operand_to (operands_of (CompareNumber n r)).second h.1)
  instr_to (Test q r) short h = (operand_to (operands_of (Test q r)).first h.0, operand_to (operands_of (Test q r)).second h.1)
  instr_to (Set c r) short h = (operand_to (operands_of (Set c r)).first h.0, operand_to (operands_of (Set c r)).second h.1)
  instr_to (JumpIf c name) short h = to name CodeLabel h
  instr_to (Jump name) short h = to name CodeLabel h
  instr_to (Call name) short h = callee_to name h
  instr_to (CallThrough r) short h = (operand_to (operands_of (CallThrough r)).first h.0, operand_to (operands_of (CallThrough r)).second h.1)
  instr_to Return short h = (operand_to (operands_of Return).first h.0, operand_to (operands_of Return).second h.1)
  instr_to (Push r) short h = (operand_to (operands_of (Push r)).first h.0, operand_to (operands_of (Push r)).second h.1)
  instr_to (Pop r) short h = (operand_to (operands_of (Pop r)).first h.0, operand_to (operands_of (Pop r)).second h.1)
  instr_to Fence short h = (operand_to (operands_of Fence).first h.0, operand_to (operands_of Fence).second h.1)
  instr_to (CompareExchange r m) short h = (operand_to (operands_of (CompareExchange r m)).first h.0, operand_to (operands_of (CompareExchange r m)).second h.1)
  instr_to (ExchangeAdd r m) short h = (operand_to (operands_of (ExchangeAdd r m)).first h.0, operand_to (operands_of (ExchangeAdd r m)).second h.1)
  instr_to (Exchange r m) short h = (operand_to (operands_of (Exchange r m)).first h.0, operand_to (operands_of (Exchange r m)).second h.1)

module _ (all : List (Names × Made)) (a : Parts) (from : (name : Names) (m : Made) → IsMadeIn a name m → IsMadeAs name m all) where
  label_at : (name : Names) → IsPlaced name (codes_of a) ⊎ IsPlaced name (datas_of a) → IsLabelOf all name
  label_at name (inl h) = inl (from name CodeLabel h)
  label_at name (inr h) = inr (from name DataLabel h)

  pub label_from : (name : Names) → IsLabel a name → IsLabelOf all name
  label_from name h = label_at name (placed_split name (codes_of a) (datas_of a) h)

  callee_from : (name : Names) → IsCallable a name → IsCalleeOf all name
  callee_from name (inl h) = inl (from name CodeLabel h)
  callee_from name (inr (inl h)) = inr (inl (from name External h))
  callee_from name (inr (inr h)) = inr (inr h)

  has_from : (label : Option Names) → IsLabelOrNone a label → HasLabel all label
  has_from None h = tt
  has_from (Some name) h = label_from name h

  operand_from : (o : Operand) → UsesLabels a o → NamesLabel all o
  operand_from operand.Absent h = tt
  operand_from (operand.Word r) h = tt
  operand_from (operand.Byte r) h = tt
  operand_from (operand.Half r) h = tt
  operand_from (operand.Number n) h = tt
  operand_from (operand.Symbol s) h = label_from s.name h
  operand_from (operand.Memory m) h = has_from m.label h
  operand_from (operand.Through r) h = tt

  pub instr_from : (i : Instr) → IsRightInstr a i → InstrNames all i
  instr_from (MoveNumber n r) h = (operand_from (operands_of (MoveNumber n r)).first h.0, operand_from (operands_of (MoveNumber n r)).second h.1)
  instr_from (MoveSymbol s r) h = (operand_from (operands_of (MoveSymbol s r)).first h.0, operand_from (operands_of (MoveSymbol s r)).second h.1)
  instr_from (Move q r) h = (operand_from (operands_of (Move q r)).first h.0, operand_from (operands_of (Move q r)).second h.1)
  instr_from (Load m r) h = (operand_from (operands_of (Load m r)).first h.0, operand_from (operands_of (Load m r)).second h.1)
  instr_from (Store r m) h = (operand_from (operands_of (Store r m)).first h.0, operand_from (operands_of (Store r m)).second h.1)
  instr_from (StoreNumber n m) h = (operand_from (operands_of (StoreNumber n m)).first h.0, operand_from (operands_of (StoreNumber n m)).second h.1)
  instr_from (StoreByte r m) h = (operand_from (operands_of (StoreByte r m)).first h.0, operand_from (operands_of (StoreByte r m)).second h.1)
  instr_from (StoreHalf r m) h = (operand_from (operands_of (StoreHalf r m)).first h.0, operand_from (operands_of (StoreHalf r m)).second h.1)
  instr_from (LoadExtended wd s m r) h = (operand_from (operands_of (LoadExtended wd s m r)).first h.0, operand_from (operands_of (LoadExtended wd s m r)).second h.1)
  instr_from (ExtendByte s q r) h = (operand_from (operands_of (ExtendByte s q r)).first h.0, operand_from (operands_of (ExtendByte s q r)).second h.1)
  instr_from (ExtendHalf s q r) h = (operand_from (operands_of (ExtendHalf s q r)).first h.0, operand_from (operands_of (ExtendHalf s q r)).second h.1)
  instr_from (LoadAddress m r) h = (operand_from (operands_of (LoadAddress m r)).first h.0, operand_from (operands_of (LoadAddress m r)).second h.1)
  instr_from (Combine op q r) h = (operand_from (operands_of (Combine op q r)).first h.0, operand_from (operands_of (Combine op q r)).second h.1)
  instr_from (CombineNumber op n r) h = (operand_from (operands_of (CombineNumber op n r)).first h.0, operand_from (operands_of (CombineNumber op n r)).second h.1)
  instr_from (Negate r) h = (operand_from (operands_of (Negate r)).first h.0, operand_from (operands_of (Negate r)).second h.1)
  instr_from (Complement r) h = (operand_from (operands_of (Complement r)).first h.0, operand_from (operands_of (Complement r)).second h.1)
  instr_from (ShiftByNumber s n r) h = (tt, tt)
  instr_from (ShiftByCl s r) h = (operand_from (operands_of (ShiftByCl s r)).first h.0, operand_from (operands_of (ShiftByCl s r)).second h.1)
  instr_from ExtendEax h = (operand_from (operands_of ExtendEax).first h.0, operand_from (operands_of ExtendEax).second h.1)
  instr_from (Divide s r) h = (operand_from (operands_of (Divide s r)).first h.0, operand_from (operands_of (Divide s r)).second h.1)
  instr_from (Compare q r) h = (operand_from (operands_of (Compare q r)).first h.0, operand_from (operands_of (Compare q r)).second h.1)
  instr_from (CompareNumber n r) h = (operand_from (operands_of (CompareNumber n r)).first h.0, operand_from (operands_of (CompareNumber n r)).second h.1)
  instr_from (Test q r) h = (operand_from (operands_of (Test q r)).first h.0, operand_from (operands_of (Test q r)).second h.1)
  instr_from (Set c r) h = (operand_from (operands_of (Set c r)).first h.0, operand_from (operands_of (Set c r)).second h.1)
  instr_from (JumpIf c name) h = from name CodeLabel h
  instr_from (Jump name) h = from name CodeLabel h
  instr_from (Call name) h = callee_from name h
  instr_from (CallThrough r) h = (operand_from (operands_of (CallThrough r)).first h.0, operand_from (operands_of (CallThrough r)).second h.1)
  instr_from Return h = (operand_from (operands_of Return).first h.0, operand_from (operands_of Return).second h.1)
  instr_from (Push r) h = (operand_from (operands_of (Push r)).first h.0, operand_from (operands_of (Push r)).second h.1)
  instr_from (Pop r) h = (operand_from (operands_of (Pop r)).first h.0, operand_from (operands_of (Pop r)).second h.1)
  instr_from Fence h = (operand_from (operands_of Fence).first h.0, operand_from (operands_of Fence).second h.1)
  instr_from (CompareExchange r m) h = (operand_from (operands_of (CompareExchange r m)).first h.0, operand_from (operands_of (CompareExchange r m)).second h.1)
  instr_from (ExchangeAdd r m) h = (operand_from (operands_of (ExchangeAdd r m)).first h.0, operand_from (operands_of (ExchangeAdd r m)).second h.1)
  instr_from (Exchange r m) h = (operand_from (operands_of (Exchange r m)).first h.0, operand_from (operands_of (Exchange r m)).second h.1)
