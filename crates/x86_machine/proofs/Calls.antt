-- What a call is: of a service, of an external or of a label; and other instructions.
use Rattle.std.proofs.Common.{◌≡◌, ℕ, Bool, true, false, not, List, [], ◌∷◌, length, refl, ap, ◌∙◌, arith, Option, Some, None}
use Rattle.std.specs.Prelude.{bytes_eq, codes, if◌then◌else◌, is_some, ◌==◌}
use Rattle.std.proofs.lemmas.Slice.Eq.{bytes_eq-Decides}
use Rattle.tso_core.specs.Systems.{Names}
use Rattle.x86_table.specs.declared.instruction.Instr.{Instr}
use Rattle.x86_table.specs.declared.instruction.Instr.TheVariants as instr
use Rattle.x86_memory.specs.declared.buffer.Write.{Write}
use Rattle.x86_lang.specs.Assembly.{Assembly}
use Rattle.x86_machine.specs.declared.services.Service.{Service}
use Rattle.x86_machine.specs.declared.services.Service.TheVariants.{Malloc, Free, ThreadCreate, Exit}
use Rattle.x86_machine.specs.declared.choices.Asked.{Asked}
use Rattle.x86_machine.specs.declared.choices.Asked.TheVariants as asked
use Rattle.x86_machine.specs.Choices.{asked_by_call}
use Rattle.x86_machine.specs.Services.{service_of, name_called, served, needs_empty_buffer, may_choose}
use Rattle.x86_machine.specs.Target.{Thread, State, words_of, are_right}
use Rattle.x86_machine.specs.X86Tso.{Outcome, if_none, if_empty, malloc, free, create, exit, word_at_esp, instructed, called_by, called, performed}

-- a call by the service that has its name
abbrev pub called_as : Assembly → State → ℕ → Thread → Option ℕ → Names → Option Service → Outcome
called_as a m i t choice name None = if_none choice (called_by a m i t name (words_of a.externs name))
called_as a m i t choice name (Some service) = served a m i t choice service

pub called_is : (a : Assembly) (m : State) (i : ℕ) (t : Thread) (choice : Option ℕ) (name : Names) → called a m i t choice name ≡ called_as a m i t choice name (service_of name)
called_is a m i t choice name = by_tests a m i t choice name (bytes_eq name (codes "malloc")) (bytes_eq name (codes "free")) (bytes_eq name (codes "thread_create")) (bytes_eq name (codes "exit"))
  where
    by_tests : (a : Assembly) (m : State) (i : ℕ) (t : Thread) (choice : Option ℕ) (name : Names) (p q r s : Bool) →
        (if p then if_empty t.buffer (malloc a m i t choice)
        else if q then if_none choice (if_empty t.buffer (free a m i t))
        else if r then if_empty t.buffer (create a m i t choice)
        else if s then if_none choice (exit a m t)
        else if_none choice (called_by a m i t name (words_of a.externs name))) ≡ called_as a m i t choice name (if p then Some Malloc else if q then Some Free else if r then Some ThreadCreate else if s then Some Exit else None)
    by_tests a m i t choice name true q r s = refl
    by_tests a m i t choice name false true r s = refl
    by_tests a m i t choice name false false true s = refl
    by_tests a m i t choice name false false false true = refl
    by_tests a m i t choice name false false false false = refl

-- an instruction by the name that it calls
abbrev pub performed_as : Assembly → State → ℕ → Thread → Option ℕ → Instr → Option Names → Outcome
performed_as a m i t choice o None = if_none choice (instructed a m i t o)
performed_as a m i t choice o (Some name) = called a m i t choice name

pub performed_is : (a : Assembly) (m : State) (i : ℕ) (t : Thread) (choice : Option ℕ) (o : Instr) → performed a m i t choice (Some o) ≡ performed_as a m i t choice o (name_called o)
performed_is a m i t choice (instr.MoveNumber x y) = refl
performed_is a m i t choice (instr.MoveSymbol x y) = refl
performed_is a m i t choice (instr.Move x y) = refl
performed_is a m i t choice (instr.Load x y) = refl
performed_is a m i t choice (instr.Store x y) = refl
performed_is a m i t choice (instr.StoreNumber x y) = refl
performed_is a m i t choice (instr.StoreByte x y) = refl
performed_is a m i t choice (instr.StoreHalf x y) = refl
performed_is a m i t choice (instr.LoadExtended x y z w) = refl
performed_is a m i t choice (instr.ExtendByte x y z) = refl
performed_is a m i t choice (instr.ExtendHalf x y z) = refl
performed_is a m i t choice (instr.LoadAddress x y) = refl
performed_is a m i t choice (instr.Combine x y z) = refl
performed_is a m i t choice (instr.CombineNumber x y z) = refl
performed_is a m i t choice (instr.Negate x) = refl
performed_is a m i t choice (instr.Complement x) = refl
performed_is a m i t choice (instr.ShiftByNumber x y z) = refl
performed_is a m i t choice (instr.ShiftByCl x y) = refl
performed_is a m i t choice instr.ExtendEax = refl
performed_is a m i t choice (instr.Divide x y) = refl
performed_is a m i t choice (instr.Compare x y) = refl
performed_is a m i t choice (instr.CompareNumber x y) = refl
performed_is a m i t choice (instr.Test x y) = refl
performed_is a m i t choice (instr.Set x y) = refl
performed_is a m i t choice (instr.JumpIf x y) = refl
performed_is a m i t choice (instr.Jump x) = refl
performed_is a m i t choice (instr.Call x) = refl
performed_is a m i t choice (instr.CallThrough x) = refl
performed_is a m i t choice instr.Return = refl
performed_is a m i t choice (instr.Push x) = refl
performed_is a m i t choice (instr.Pop x) = refl
performed_is a m i t choice instr.Fence = refl
performed_is a m i t choice (instr.CompareExchange x y) = refl
performed_is a m i t choice (instr.ExchangeAdd x y) = refl
performed_is a m i t choice (instr.Exchange x y) = refl

pub call_is : (o : Instr) (name : Names) → name_called o ≡ Some name → o ≡ instr.Call name
call_is (instr.MoveNumber x y) name e = cc
call_is (instr.MoveSymbol x y) name e = cc
call_is (instr.Move x y) name e = cc
call_is (instr.Load x y) name e = cc
call_is (instr.Store x y) name e = cc
call_is (instr.StoreNumber x y) name e = cc
call_is (instr.StoreByte x y) name e = cc
call_is (instr.StoreHalf x y) name e = cc
call_is (instr.LoadExtended x y z w) name e = cc
call_is (instr.ExtendByte x y z) name e = cc
call_is (instr.ExtendHalf x y z) name e = cc
call_is (instr.LoadAddress x y) name e = cc
call_is (instr.Combine x y z) name e = cc
call_is (instr.CombineNumber x y z) name e = cc
call_is (instr.Negate x) name e = cc
call_is (instr.Complement x) name e = cc
call_is (instr.ShiftByNumber x y z) name e = cc
call_is (instr.ShiftByCl x y) name e = cc
call_is (instr.ExtendEax) name e = cc
call_is (instr.Divide x y) name e = cc
call_is (instr.Compare x y) name e = cc
call_is (instr.CompareNumber x y) name e = cc
call_is (instr.Test x y) name e = cc
call_is (instr.Set x y) name e = cc
call_is (instr.JumpIf x y) name e = cc
call_is (instr.Jump x) name e = cc
call_is (instr.Call x) name e = cc
call_is (instr.CallThrough x) name e = cc
call_is (instr.Return) name e = cc
call_is (instr.Push x) name e = cc
call_is (instr.Pop x) name e = cc
call_is (instr.Fence) name e = cc
call_is (instr.CompareExchange x y) name e = cc
call_is (instr.ExchangeAdd x y) name e = cc
call_is (instr.Exchange x y) name e = cc

-- with a choice, and without
pub with_choice : (choice : Option ℕ) (k : Outcome) → is_some choice ≡ true → if_none choice k ≡ None
with_choice None k e = cc
with_choice (Some c) k e = refl

pub without_choice : (choice : Option ℕ) (k : Outcome) → is_some choice ≡ false → if_none choice k ≡ k
without_choice None k e = refl
without_choice (Some c) k e = cc

-- a service that waits for the buffer, one that takes no choice, and one that can be done
full : (ws : List Write) (k : Outcome) → not (length ws == 0) ≡ true → if_empty ws k ≡ None
full [] k e = cc
full (w ∷ ws) k e = refl

if_none_None : (choice : Option ℕ) → if_none choice None ≡ None
if_none_None None = refl
if_none_None (Some c) = refl

pub served_full : (a : Assembly) (m : State) (i : ℕ) (t : Thread) (choice : Option ℕ) (s : Service) → needs_empty_buffer s ≡ true → not (length t.buffer == 0) ≡ true → served a m i t choice s ≡ None
served_full a m i t choice Malloc e f = full t.buffer _ f
served_full a m i t choice Free e f = ap (if_none choice) (full t.buffer _ f) ∙ if_none_None choice
served_full a m i t choice ThreadCreate e f = full t.buffer _ f
served_full a m i t choice Exit e f = cc

pub served_choice : (a : Assembly) (m : State) (i : ℕ) (t : Thread) (choice : Option ℕ) (s : Service) → may_choose s ≡ false → is_some choice ≡ true → served a m i t choice s ≡ None
served_choice a m i t choice Malloc e f = cc
served_choice a m i t choice Free e f = with_choice choice _ f
served_choice a m i t choice ThreadCreate e f = cc
served_choice a m i t choice Exit e f = with_choice choice _ f

pub empty : (ws : List Write) (k : Outcome) → not (length ws == 0) ≡ false → if_empty ws k ≡ k
empty [] k e = refl
empty (w ∷ ws) k e = absurd (grind arith)

-- what a step asks for, by the service that it calls
abbrev pub asked_as : Assembly → State → Thread → Option Service → Asked
asked_as a m t (Some Malloc) = if are_right a m t.registers.esp 1 then asked.Block (word_at_esp m t 0) else asked.Nothing
asked_as a m t (Some ThreadCreate) = if are_right a m t.registers.esp 2 then asked.Stack else asked.Nothing
asked_as a m t _ = asked.Nothing

abbrev pub service_called : Option Names → Option Service
service_called None = None
service_called (Some name) = service_of name

asked_name : (a : Assembly) (m : State) (t : Thread) (name : Names) → asked_by_call a m t (Some (instr.Call name)) ≡ asked_as a m t (service_of name)
asked_name a m t name = by_tests a m t (bytes_eq name (codes "malloc")) (bytes_eq name (codes "free")) (bytes_eq name (codes "thread_create")) (bytes_eq name (codes "exit")) (λ e. ap (λ z. bytes_eq z (codes "thread_create")) ((bytes_eq-Decides name (codes "free")).0 e))
  where
    by_tests : (a : Assembly) (m : State) (t : Thread) (p q r s : Bool) → (q ≡ true → r ≡ false) →
        (if p then (if are_right a m t.registers.esp 1 then asked.Block (word_at_esp m t 0) else asked.Nothing)
        else if r then (if are_right a m t.registers.esp 2 then asked.Stack else asked.Nothing)
        else asked.Nothing) ≡ asked_as a m t (if p then Some Malloc else if q then Some Free else if r then Some ThreadCreate else if s then Some Exit else None)
    by_tests a m t true q r s h = refl
    by_tests a m t false true r s h = rw (h refl) refl
    by_tests a m t false false true s h = refl
    by_tests a m t false false false true h = refl
    by_tests a m t false false false false h = refl

pub asked_is : (a : Assembly) (m : State) (t : Thread) (o : Instr) → asked_by_call a m t (Some o) ≡ asked_as a m t (service_called (name_called o))
asked_is a m t (instr.MoveNumber x y) = refl
asked_is a m t (instr.MoveSymbol x y) = refl
asked_is a m t (instr.Move x y) = refl
asked_is a m t (instr.Load x y) = refl
asked_is a m t (instr.Store x y) = refl
asked_is a m t (instr.StoreNumber x y) = refl
asked_is a m t (instr.StoreByte x y) = refl
asked_is a m t (instr.StoreHalf x y) = refl
asked_is a m t (instr.LoadExtended x y z w) = refl
asked_is a m t (instr.ExtendByte x y z) = refl
asked_is a m t (instr.ExtendHalf x y z) = refl
asked_is a m t (instr.LoadAddress x y) = refl
asked_is a m t (instr.Combine x y z) = refl
asked_is a m t (instr.CombineNumber x y z) = refl
asked_is a m t (instr.Negate x) = refl
asked_is a m t (instr.Complement x) = refl
asked_is a m t (instr.ShiftByNumber x y z) = refl
asked_is a m t (instr.ShiftByCl x y) = refl
asked_is a m t (instr.ExtendEax) = refl
asked_is a m t (instr.Divide x y) = refl
asked_is a m t (instr.Compare x y) = refl
asked_is a m t (instr.CompareNumber x y) = refl
asked_is a m t (instr.Test x y) = refl
asked_is a m t (instr.Set x y) = refl
asked_is a m t (instr.JumpIf x y) = refl
asked_is a m t (instr.Jump x) = refl
asked_is a m t (instr.Call x) = asked_name a m t x
asked_is a m t (instr.CallThrough x) = refl
asked_is a m t (instr.Return) = refl
asked_is a m t (instr.Push x) = refl
asked_is a m t (instr.Pop x) = refl
asked_is a m t (instr.Fence) = refl
asked_is a m t (instr.CompareExchange x y) = refl
asked_is a m t (instr.ExchangeAdd x y) = refl
asked_is a m t (instr.Exchange x y) = refl
