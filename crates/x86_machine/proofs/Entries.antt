-- The table of the instructions: each entry is that of its instruction.
use Rattle.std.proofs.Common.{◌≡◌, ℕ, zero, suc, ◌+◌, ◌-◌, Bool, true, false, nat_le, if◌then◌else◌, List, [], ◌∷◌, refl, ap, ◌∙◌, sym, arith, Option, Some, None}
use Rattle.std.specs.Prelude.{slice_get}
use Rattle.std.proofs.lemmas.Option.{same_Some, none-some}
use Rattle.tso_core.specs.Systems.{Places}
use Rattle.x86_table.specs.declared.instruction.Instr.{Instr}
use Rattle.x86_lang.specs.declared.assembly.CodeLine.{CodeLine}
use Rattle.x86_lang.specs.declared.assembly.CodeLine.TheVariants as code
use Rattle.x86_lang.specs.Assembly.{assembly_of, labels_of, code_start, instructions}
use Rattle.x86_lang.specs.declared.assembly.Parts.{Parts}
use Rattle.x86_machine.specs.declared.table.Placed.{Placed}
use Rattle.x86_machine.specs.Target.{name_of, address_or_zero, instruction_at}
use Rattle.x86_machine.specs.Tables.{entries_of, entry_at, IsEntry}

-- of the lines from the n-th on
entries_from : (at : Places) (all : List CodeLine) (n : ℕ) (lines : List CodeLine) → ((j : ℕ) → slice_get lines j ≡ slice_get all (n + j)) → (k : ℕ) → IsEntry at all (slice_get (entries_of at n lines) k) (slice_get (instructions lines) k)
entries_from at all n [] h k = tt
entries_from at all n (code.Label name ∷ lines) h k = entries_from at all (suc n) lines (λ j. h (suc j) ∙ ap (slice_get all) (omega arith)) k
entries_from at all n (code.Op o ∷ lines) h zero = (sym (h 0 ∙ ap (slice_get all) (omega arith)), refl)
entries_from at all n (code.Op o ∷ lines) h (suc k) = entries_from at all (suc n) lines (λ j. h (suc j) ∙ ap (slice_get all) (omega arith)) k

pub entries_right : (at : Places) (all : List CodeLine) (k : ℕ) → IsEntry at all (slice_get (entries_of at 0 all) k) (slice_get (instructions all) k)
entries_right at all = entries_from at all 0 all (λ j. ap (slice_get all) (omega arith))

-- at an address
entries_under : (b : Bool) (at : Places) (all : List CodeLine) (k : ℕ) → IsEntry at all (if b then slice_get (entries_of at 0 all) k else None) (if b then slice_get (instructions all) k else None)
entries_under true at all k = entries_right at all k
entries_under false at all k = tt

pub entries_at : (a : Parts) (table : List Placed) (place : ℕ) → table ≡ entries_of (labels_of a) 0 a.code → IsEntry (labels_of a) a.code (entry_at table place) (instruction_at (assembly_of a) place)
entries_at a table place e = rw e (entries_under (nat_le code_start place) (labels_of a) a.code (place - code_start))

-- an entry that is there, and one that is not
pub entry_missing : (at : Places) (all : List CodeLine) (p : Option Placed) (o : Option Instr) → IsEntry at all p o → p ≡ None → o ≡ None
entry_missing at all None None h e = refl
entry_missing at all None (Some o) h e = absurd h
entry_missing at all (Some p) o h e = absurd (none-some p (sym e))

entry_there_at : (at : Places) (all : List CodeLine) (p : Placed) (o : Option Instr) → IsEntry at all (Some p) o → (i : Instr) → slice_get all p.line ≡ Some (code.Op i) → (o ≡ Some i) × (p.label ≡ address_or_zero at (name_of i))
entry_there_at at all p None h i f = absurd h
entry_there_at at all p (Some o) h i f =
    let op : code.Op o ≡ code.Op i = same_Some (code.Op o) (code.Op i) (sym h.0 ∙ f) in
    let same : o ≡ i = cc in
    (ap Some same, h.1 ∙ ap (λ q. address_or_zero at (name_of q)) same)

pub entry_there : (at : Places) (all : List CodeLine) (e : Option Placed) (p : Placed) (o : Option Instr) → IsEntry at all e o → e ≡ Some p → (i : Instr) → slice_get all p.line ≡ Some (code.Op i) → (o ≡ Some i) × (p.label ≡ address_or_zero at (name_of i))
entry_there at all e p o h q i f = entry_there_at at all p o (rw q at h) i f

entry_unfound_at : (at : Places) (all : List CodeLine) (p : Placed) (o : Option Instr) → IsEntry at all (Some p) o → ((i : Instr) → slice_get all p.line ≡ Some (code.Op i) → ⊥) → o ≡ None
entry_unfound_at at all p None h f = refl
entry_unfound_at at all p (Some o) h f = absurd (f o h.0)

pub entry_unfound : (at : Places) (all : List CodeLine) (e : Option Placed) (p : Placed) (o : Option Instr) → IsEntry at all e o → e ≡ Some p → ((i : Instr) → slice_get all p.line ≡ Some (code.Op i) → ⊥) → o ≡ None
entry_unfound at all e p o h q f = entry_unfound_at at all p o (rw q at h) f
