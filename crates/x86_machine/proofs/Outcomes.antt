-- What holds of an outcome, from what holds of another.
use Rattle.std.proofs.Common.{◌≡◌, ◌∙◌, ℕ, subst, Option, None, List, [], ◌∷◌, length, not, true, false, ◌==◌, refl, ap, arith, Bool}
use Rattle.std.specs.Prelude.{Result, Some, ◌&&◌, nat_le, nat_lt, bytes_eq, codes, if◌then◌else◌}
use Rattle.tso_core.specs.declared.Event.{Event}
use Rattle.tso_core.specs.declared.offer.StepRefusal.{StepRefusal}
use Rattle.tso_core.specs.Systems.{Names}
use Rattle.x86_machine.specs.Gives.{Gives}
use Rattle.x86_table.specs.declared.instruction.Instr.{Instr}
use Rattle.x86_steps.specs.declared.registers.Registers.{Registers}
use Rattle.x86_steps.specs.declared.flags.Flags.{Flags}
use Rattle.x86_steps.specs.declared.access.Access.{Access}
use Rattle.x86_steps.specs.declared.access.Size.TheVariants as size
use Rattle.x86_steps.specs.declared.execution.After.{After}
use Rattle.x86_steps.specs.Accesses.{access_of}
use Rattle.x86_steps.specs.Execution.{executed}
use Rattle.x86_memory.specs.declared.buffer.Write.{Write}
use Rattle.x86_lang.specs.Assembly.{Assembly}
use Rattle.x86_machine.specs.Target.{Thread, State, label_of, is_right, are_right}
use Rattle.x86_machine.specs.X86Tso.{Outcome, loaded, tried, plain, if_empty}

-- what gives an outcome gives the same one under another name
pub gives_of : (x y : Outcome) (old new : State) (r : Result (Option Event) StepRefusal) → x ≡ y → Gives x old new r → Gives y old new r
gives_of x y old new r e h = subst (λ (z : Outcome). Gives z old new r) e h

-- what an instruction does, from its parts
pub plain_from : (a : Assembly) (m : State) (i : ℕ) (t : Thread) (o : Instr) (l p : ℕ) (r : Registers) (f : Flags) (x : Option Access) (w : ℕ) (d : Option After) → l ≡ label_of a o → r ≡ t.registers → f ≡ t.flags → p ≡ t.place → x ≡ access_of o l r → w ≡ loaded a m t x → d ≡ executed o l p r f w → tried a m i t o x d ≡ plain a m i t o
plain_from a m i t o l p r f x w d el er ef ep ex ew ed =
    let x' : x ≡ access_of o (label_of a o) t.registers = ex ∙ (ap (λ (z : ℕ). access_of o z r) el ∙ ap (λ (z : Registers). access_of o (label_of a o) z) er) in
    let w' : w ≡ loaded a m t (access_of o (label_of a o) t.registers) = ew ∙ ap (λ (z : Option Access). loaded a m t z) x' in
    let d1 : d ≡ executed o (label_of a o) p r f w = ed ∙ ap (λ (z : ℕ). executed o z p r f w) el in
    let d2 : d ≡ executed o (label_of a o) t.place r f w = d1 ∙ ap (λ (z : ℕ). executed o (label_of a o) z r f w) ep in
    let d3 : d ≡ executed o (label_of a o) t.place t.registers f w = d2 ∙ ap (λ (z : Registers). executed o (label_of a o) t.place z f w) er in
    let d4 : d ≡ executed o (label_of a o) t.place t.registers t.flags w = d3 ∙ ap (λ (z : Flags). executed o (label_of a o) t.place t.registers z w) ef in
    let d5 = d4 ∙ ap (λ (z : ℕ). executed o (label_of a o) t.place t.registers t.flags z) w' in
    ap (λ (z : Option Access). tried a m i t o z d) x' ∙ ap (λ (z : Option After). tried a m i t o (access_of o (label_of a o) t.registers) z) d5

-- with writes in the buffer, and without
pub if_empty_refused : (ws : List Write) (k : Outcome) → not (length ws == 0) ≡ true → None ≡ if_empty ws k
if_empty_refused [] k e = cc
if_empty_refused (w ∷ ws) k e = refl

pub if_empty_done : (ws : List Write) (k : Outcome) → not (length ws == 0) ≡ false → k ≡ if_empty ws k
if_empty_done [] k e = refl
if_empty_done (w ∷ ws) k e = absurd (grind arith)

-- the access to one word
pub one_right : (a : Assembly) (m : State) (x : ℕ) (b : Bool) → is_right a m size.Word x ≡ b → are_right a m x 1 ≡ b
one_right a m x true e = rw e refl
one_right a m x false e = rw e refl
