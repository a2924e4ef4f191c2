-- The printed form of an assembly is a text of it.
use Rattle.std.proofs.Common.{◌≡◌, ℕ, ◌+◌, List, [], ◌∷◌, ◌++◌, refl, sym, subst, Bool, true, false, inl, inr, Option, Some, None, append_assoc}
use Rattle.std.specs.Prelude.{codes, map}
use Rattle.std.proofs.lemmas.List.{append-nil}
use Rattle.tso_core.specs.Systems.{Names, Places}
use Rattle.x86_table.specs.Names.{AllOf, IsName}
use Rattle.x86_table.specs.declared.operand.Operand.{Operand}
use Rattle.x86_table.specs.declared.operand.Operand.TheVariants as operand
use Rattle.x86_table.specs.declared.instruction.Instr.{Instr}
use Rattle.x86_table.specs.declared.instruction.Instr.TheVariants.{MoveNumber, MoveSymbol, Move, Load, Store, StoreNumber, StoreByte, StoreHalf, LoadExtended, ExtendByte, ExtendHalf, LoadAddress, Combine, CombineNumber, Negate, Complement, ShiftByNumber, ShiftByCl, ExtendEax, Divide, Compare, CompareNumber, Test, Set, JumpIf, Jump, Call, CallThrough, Return, Push, Pop, Fence, CompareExchange, ExchangeAdd, Exchange}
use Rattle.x86_table.specs.Instruction.{operands_of}
use Rattle.x86_print.proofs.RenderedMemory.{IsPrintable, IsNameOrNone}
use Rattle.x86_print.proofs.RenderedInstr.{IsPrintableInstr}
use Rattle.x86_lang.specs.declared.assembly.CodeLine.{CodeLine}
use Rattle.x86_lang.specs.declared.assembly.CodeLine.TheVariants as code
use Rattle.x86_lang.specs.declared.assembly.StaticLine.{StaticLine}
use Rattle.x86_lang.specs.declared.assembly.StaticLine.TheVariants as statics
use Rattle.x86_lang.specs.declared.assembly.Parts.{Parts}
use Rattle.x86_lang.specs.Assembly.{code_start, data_start, code_labels, data_labels, size_at, labels_of, instructions}
use Rattle.x86_lang.specs.Whole.{IsAmong, IsPlaced, IsLabel, IsCallable, IsLabelOrNone, UsesLabels, IsRightInstr, HasWord, HasWords, FitsWidth, IsAlignment, IsExtern, IsMade, IsWhole, services}
use Rattle.x86_text.specs.declared.line.Line.{Line}
use Rattle.x86_text.specs.declared.line.Line.TheVariants as line
use Rattle.x86_text.specs.Text.{Gathered, opening, adds, Gathers, End, Next, AsmOf, Text, Data}
use Rattle.x86_text.specs.Printed.{pace_text, extern_text, export_text, static_text, code_text, printed_lines, printed, static_lines, code_lines}
use Rattle.x86_text.proofs.Joined.{in_line, lines_joined}
use Rattle.x86_text.proofs.Said.{Printing, pace_printing, extern_printing, export_printing, label_printing, said_static, IsNamedStatic, static_printing, instr_printing}

-- lists
pub all_front : {X : Type 0} (P : X → Type 0) (xs ys : List X) → AllOf P (xs ++ ys) → AllOf P xs
all_front P [] ys h = tt
all_front P (x ∷ xs) ys h = (h.0, all_front P xs ys h.1)

pub all_back : {X : Type 0} (P : X → Type 0) (xs ys : List X) → AllOf P (xs ++ ys) → AllOf P ys
all_back P [] ys h = h
all_back P (x ∷ xs) ys h = all_back P xs ys h.1

pub all_both : {X : Type 0} (P : X → Type 0) (xs ys : List X) → AllOf P xs → AllOf P ys → AllOf P (xs ++ ys)
all_both P [] ys h k = k
all_both P (x ∷ xs) ys h k = (h.0, all_both P xs ys h.1 k)

-- a name that is placed was made right
placed_name : (name : Names) (ps : Places) → AllOf IsMade ps → IsPlaced name ps → IsName name
placed_name name [] h k = absurd k
placed_name name (p ∷ ps) h (inl e) = subst IsName (sym e) h.0.0
placed_name name (p ∷ ps) h (inr k) = placed_name name ps h.1 k

service_name : (name : Names) → IsAmong name services → IsName name
service_name name (inl e) = subst IsName (sym e) (refl, (refl, (refl, (refl, (refl, (refl, tt))))))
service_name name (inr (inl e)) = subst IsName (sym e) (refl, (refl, (refl, (refl, tt))))
service_name name (inr (inr (inl e))) = subst IsName (sym e) (refl, (refl, (refl, (refl, (refl, (refl, (refl, (refl, (refl, (refl, (refl, (refl, (refl, tt)))))))))))))
service_name name (inr (inr (inr (inl e)))) = subst IsName (sym e) (refl, (refl, (refl, (refl, tt))))
service_name name (inr (inr (inr (inr k)))) = absurd k

-- what is known of the names of an assembly
pub record Named (a : Parts) : Type 0 where
  pub codes : AllOf IsMade (code_labels code_start a.code)
  pub labels : AllOf IsMade (labels_of a)
  pub externs : AllOf IsMade a.externs

named_of : (a : Parts) → IsWhole a → Named a
named_of a w = record {
  codes = all_front IsMade (code_labels code_start a.code) (data_labels data_start a.statics) (all_front IsMade (labels_of a) a.externs w.names_made_right);
  labels = all_front IsMade (labels_of a) a.externs w.names_made_right;
  externs = all_back IsMade (labels_of a) a.externs w.names_made_right;
}

callable_name : (a : Parts) (name : Names) → Named a → IsCallable a name → IsName name
callable_name a name n (inl h) = placed_name name (code_labels code_start a.code) n.codes h
callable_name a name n (inr (inl h)) = placed_name name a.externs n.externs h
callable_name a name n (inr (inr h)) = service_name name h

label_or_none : (a : Parts) (label : Option Names) → Named a → IsLabelOrNone a label → IsNameOrNone label
label_or_none a None n h = tt
label_or_none a (Some name) n h = placed_name name (labels_of a) n.labels h

printable : (a : Parts) (o : Operand) → Named a → UsesLabels a o → HasWord o → IsPrintable o
printable a operand.Absent n u h = tt
printable a (operand.Word r) n u h = tt
printable a (operand.Byte r) n u h = tt
printable a (operand.Half r) n u h = tt
printable a (operand.Number k) n u h = h
printable a (operand.Symbol s) n u h = (placed_name s.name (labels_of a) n.labels u, h)
printable a (operand.Memory m) n u h = (label_or_none a m.label n u, h)
printable a (operand.Through r) n u h = tt

pub printable_instr : (a : Parts) (i : Instr) → Named a → IsRightInstr a i → HasWords i → IsPrintableInstr i
printable_instr a (MoveNumber n r) named u h = record { first = printable a (operands_of (MoveNumber n r)).first named u.0 h.0; second = printable a (operands_of (MoveNumber n r)).second named u.1 h.1; short = tt }
printable_instr a (MoveSymbol s r) named u h = record { first = printable a (operands_of (MoveSymbol s r)).first named u.0 h.0; second = printable a (operands_of (MoveSymbol s r)).second named u.1 h.1; short = tt }
printable_instr a (Move q r) named u h = record { first = printable a (operands_of (Move q r)).first named u.0 h.0; second = printable a (operands_of (Move q r)).second named u.1 h.1; short = tt }
printable_instr a (Load m r) named u h = record { first = printable a (operands_of (Load m r)).first named u.0 h.0; second = printable a (operands_of (Load m r)).second named u.1 h.1; short = tt }
printable_instr a (Store r m) named u h = record { first = printable a (operands_of (Store r m)).first named u.0 h.0; second = printable a (operands_of (Store r m)).second named u.1 h.1; short = tt }
printable_instr a (StoreNumber n m) named u h = record { first = printable a (operands_of (StoreNumber n m)).first named u.0 h.0; second = printable a (operands_of (StoreNumber n m)).second named u.1 h.1; short = tt }
printable_instr a (StoreByte r m) named u h = record { first = printable a (operands_of (StoreByte r m)).first named u.0 h.0; second = printable a (operands_of (StoreByte r m)).second named u.1 h.1; short = tt }
printable_instr a (StoreHalf r m) named u h = record { first = printable a (operands_of (StoreHalf r m)).first named u.0 h.0; second = printable a (operands_of (StoreHalf r m)).second named u.1 h.1; short = tt }
printable_instr a (LoadExtended wd s m r) named u h = record { first = printable a (operands_of (LoadExtended wd s m r)).first named u.0 h.0; second = printable a (operands_of (LoadExtended wd s m r)).second named u.1 h.1; short = tt }
printable_instr a (ExtendByte s q r) named u h = record { first = printable a (operands_of (ExtendByte s q r)).first named u.0 h.0; second = printable a (operands_of (ExtendByte s q r)).second named u.1 h.1; short = tt }
printable_instr a (ExtendHalf s q r) named u h = record { first = printable a (operands_of (ExtendHalf s q r)).first named u.0 h.0; second = printable a (operands_of (ExtendHalf s q r)).second named u.1 h.1; short = tt }
printable_instr a (LoadAddress m r) named u h = record { first = printable a (operands_of (LoadAddress m r)).first named u.0 h.0; second = printable a (operands_of (LoadAddress m r)).second named u.1 h.1; short = tt }
printable_instr a (Combine op q r) named u h = record { first = printable a (operands_of (Combine op q r)).first named u.0 h.0; second = printable a (operands_of (Combine op q r)).second named u.1 h.1; short = tt }
printable_instr a (CombineNumber op n r) named u h = record { first = printable a (operands_of (CombineNumber op n r)).first named u.0 h.0; second = printable a (operands_of (CombineNumber op n r)).second named u.1 h.1; short = tt }
printable_instr a (Negate r) named u h = record { first = printable a (operands_of (Negate r)).first named u.0 h.0; second = printable a (operands_of (Negate r)).second named u.1 h.1; short = tt }
printable_instr a (Complement r) named u h = record { first = printable a (operands_of (Complement r)).first named u.0 h.0; second = printable a (operands_of (Complement r)).second named u.1 h.1; short = tt }
printable_instr a (ShiftByCl s r) named u h = record { first = printable a (operands_of (ShiftByCl s r)).first named u.0 h.0; second = printable a (operands_of (ShiftByCl s r)).second named u.1 h.1; short = tt }
printable_instr a ExtendEax named u h = record { first = printable a (operands_of ExtendEax).first named u.0 h.0; second = printable a (operands_of ExtendEax).second named u.1 h.1; short = tt }
printable_instr a (Divide s r) named u h = record { first = printable a (operands_of (Divide s r)).first named u.0 h.0; second = printable a (operands_of (Divide s r)).second named u.1 h.1; short = tt }
printable_instr a (Compare q r) named u h = record { first = printable a (operands_of (Compare q r)).first named u.0 h.0; second = printable a (operands_of (Compare q r)).second named u.1 h.1; short = tt }
printable_instr a (CompareNumber n r) named u h = record { first = printable a (operands_of (CompareNumber n r)).first named u.0 h.0; second = printable a (operands_of (CompareNumber n r)).second named u.1 h.1; short = tt }
printable_instr a (Test q r) named u h = record { first = printable a (operands_of (Test q r)).first named u.0 h.0; second = printable a (operands_of (Test q r)).second named u.1 h.1; short = tt }
printable_instr a (Set c r) named u h = record { first = printable a (operands_of (Set c r)).first named u.0 h.0; second = printable a (operands_of (Set c r)).second named u.1 h.1; short = tt }
printable_instr a (CallThrough r) named u h = record { first = printable a (operands_of (CallThrough r)).first named u.0 h.0; second = printable a (operands_of (CallThrough r)).second named u.1 h.1; short = tt }
printable_instr a Return named u h = record { first = printable a (operands_of Return).first named u.0 h.0; second = printable a (operands_of Return).second named u.1 h.1; short = tt }
printable_instr a (Push r) named u h = record { first = printable a (operands_of (Push r)).first named u.0 h.0; second = printable a (operands_of (Push r)).second named u.1 h.1; short = tt }
printable_instr a (Pop r) named u h = record { first = printable a (operands_of (Pop r)).first named u.0 h.0; second = printable a (operands_of (Pop r)).second named u.1 h.1; short = tt }
printable_instr a Fence named u h = record { first = printable a (operands_of Fence).first named u.0 h.0; second = printable a (operands_of Fence).second named u.1 h.1; short = tt }
printable_instr a (CompareExchange r m) named u h = record { first = printable a (operands_of (CompareExchange r m)).first named u.0 h.0; second = printable a (operands_of (CompareExchange r m)).second named u.1 h.1; short = tt }
printable_instr a (ExchangeAdd r m) named u h = record { first = printable a (operands_of (ExchangeAdd r m)).first named u.0 h.0; second = printable a (operands_of (ExchangeAdd r m)).second named u.1 h.1; short = tt }
printable_instr a (Exchange r m) named u h = record { first = printable a (operands_of (Exchange r m)).first named u.0 h.0; second = printable a (operands_of (Exchange r m)).second named u.1 h.1; short = tt }
printable_instr a (ShiftByNumber s n r) named u h = record { first = h.0; second = tt; short = u }
printable_instr a (JumpIf c name) named u h = record { first = (placed_name name (code_labels code_start a.code) named.codes u, h.0); second = tt; short = tt }
printable_instr a (Jump name) named u h = record { first = (placed_name name (code_labels code_start a.code) named.codes u, h.0); second = tt; short = tt }
printable_instr a (Call name) named u h = record { first = (callable_name a name named u, h.0); second = tt; short = tt }

-- lines of data and code
static_names : (at : ℕ) (ss : List StaticLine) → AllOf IsMade (data_labels at ss) → AllOf IsNamedStatic ss
static_names at [] h = tt
static_names at (statics.Label name ∷ ss) h = (h.0.0, static_names (at + 0) ss h.1)
static_names at (statics.Byte n ∷ ss) h = (tt, static_names (at + 1) ss h)
static_names at (statics.Short n ∷ ss) h = (tt, static_names (at + 2) ss h)
static_names at (statics.Long n ∷ ss) h = (tt, static_names (at + 4) ss h)
static_names at (statics.Zero n ∷ ss) h = (tt, static_names (at + n) ss h)
static_names at (statics.Balign n ∷ ss) h = (tt, static_names (at + size_at at (statics.Balign n)) ss h)

abbrev said_code : CodeLine → Line
said_code (code.Label name) = line.Label name
said_code (code.Op instr) = line.Op instr

code_printings : (a : Parts) (at : ℕ) (cs : List CodeLine) → Named a → AllOf IsMade (code_labels at cs) → AllOf (IsRightInstr a) (instructions cs) → AllOf HasWords (instructions cs) → AllOf (λ c. Printing (code_text c) (said_code c)) cs
code_printings a at [] n h r w = tt
code_printings a at (code.Label name ∷ cs) n h r w = (label_printing name h.0.0, code_printings a (at + 0) cs n h.1 r w)
code_printings a at (code.Op i ∷ cs) n h r w = (instr_printing i (printable_instr a i n r.0 w.0), code_printings a (at + 1) cs n h r.1 w.1)

static_printings : (ss : List StaticLine) → AllOf IsNamedStatic ss → AllOf FitsWidth ss → AllOf IsAlignment ss → AllOf (λ s. Printing (static_text s) (said_static s)) ss
static_printings [] n w al = tt
static_printings (s ∷ ss) n w al = (static_printing s n.0 w.0 al.0, static_printings ss n.1 w.1 al.1)

extern_printings : (es : Places) → AllOf IsMade es → AllOf IsExtern es → AllOf (λ e. Printing (extern_text e) (line.Extern e.0 e.1)) es
extern_printings [] h w = tt
extern_printings (e ∷ es) h w = (extern_printing e.0 e.1 h.0.0 w.0, extern_printings es h.1 w.1)

export_printings : (a : Parts) (xs : List Names) → Named a → AllOf (IsLabel a) xs → AllOf (λ x. Printing (export_text x) (line.Export x)) xs
export_printings a [] n h = tt
export_printings a (x ∷ xs) n h = (export_printing x (placed_name x (labels_of a) n.labels h.0), export_printings a xs n h.1)

-- no line feed
map_in_line : {X : Type 0} (f : X → List ℕ) (said : X → Line) (xs : List X) → AllOf (λ x. Printing (f x) (said x)) xs → AllOf (λ l. in_line l ≡ true) (map f xs)
map_in_line f said [] h = tt
map_in_line f said (x ∷ xs) h = (h.0.in_line, map_in_line f said xs h.1)

-- what is gathered behind the line of the pace
abbrev state : Bool → ℕ → Places → List Names → List CodeLine → List StaticLine → Gathered
state d p es xs cs ss = record { in_data = d; has_pace = true; parts = record { pace = p; externs = es; exports = xs; code = cs; statics = ss } }

externs_gather : (p : ℕ) (es more : Places) (xs : List Names) (cs : List CodeLine) (ss : List StaticLine) (rest : List (List ℕ)) (k : Gathered) → AllOf (λ e. Printing (extern_text e) (line.Extern e.0 e.1)) more → Gathers (state false p (es ++ more) xs cs ss) rest k → Gathers (state false p es xs cs ss) (map extern_text more ++ rest) k
externs_gather p es [] xs cs ss rest k h g = subst (λ (t : Places). Gathers (state false p t xs cs ss) rest k) (append-nil es) g
externs_gather p es (e ∷ more) xs cs ss rest k h g = Next (state false p es xs cs ss) (state false p (es ++ e ∷ []) xs cs ss) k (extern_text e) (map extern_text more ++ rest) (line.Extern e.0 e.1) h.0.says refl (externs_gather p (es ++ e ∷ []) more xs cs ss rest k h.1 (subst (λ (t : Places). Gathers (state false p t xs cs ss) rest k) (sym (append_assoc es (e ∷ []) more)) g))

exports_gather : (p : ℕ) (es : Places) (xs more : List Names) (cs : List CodeLine) (ss : List StaticLine) (rest : List (List ℕ)) (k : Gathered) → AllOf (λ x. Printing (export_text x) (line.Export x)) more → Gathers (state false p es (xs ++ more) cs ss) rest k → Gathers (state false p es xs cs ss) (map export_text more ++ rest) k
exports_gather p es xs [] cs ss rest k h g = subst (λ (t : List Names). Gathers (state false p es t cs ss) rest k) (append-nil xs) g
exports_gather p es xs (x ∷ more) cs ss rest k h g = Next (state false p es xs cs ss) (state false p es (xs ++ x ∷ []) cs ss) k (export_text x) (map export_text more ++ rest) (line.Export x) h.0.says refl (exports_gather p es (xs ++ x ∷ []) more cs ss rest k h.1 (subst (λ (t : List Names). Gathers (state false p es t cs ss) rest k) (sym (append_assoc xs (x ∷ []) more)) g))

static_adds : (p : ℕ) (es : Places) (xs : List Names) (cs : List CodeLine) (ss : List StaticLine) (s : StaticLine) → adds (state true p es xs cs ss) (said_static s) ≡ Some (state true p es xs cs (ss ++ s ∷ []))
static_adds p es xs cs ss (statics.Label name) = refl
static_adds p es xs cs ss (statics.Byte n) = refl
static_adds p es xs cs ss (statics.Short n) = refl
static_adds p es xs cs ss (statics.Long n) = refl
static_adds p es xs cs ss (statics.Zero n) = refl
static_adds p es xs cs ss (statics.Balign n) = refl

statics_gather : (p : ℕ) (es : Places) (xs : List Names) (cs : List CodeLine) (ss more : List StaticLine) (rest : List (List ℕ)) (k : Gathered) → AllOf (λ s. Printing (static_text s) (said_static s)) more → Gathers (state true p es xs cs (ss ++ more)) rest k → Gathers (state true p es xs cs ss) (map static_text more ++ rest) k
statics_gather p es xs cs ss [] rest k h g = subst (λ (t : List StaticLine). Gathers (state true p es xs cs t) rest k) (append-nil ss) g
statics_gather p es xs cs ss (s ∷ more) rest k h g = Next (state true p es xs cs ss) (state true p es xs cs (ss ++ s ∷ [])) k (static_text s) (map static_text more ++ rest) (said_static s) h.0.says (static_adds p es xs cs ss s) (statics_gather p es xs cs (ss ++ s ∷ []) more rest k h.1 (subst (λ (t : List StaticLine). Gathers (state true p es xs cs t) rest k) (sym (append_assoc ss (s ∷ []) more)) g))

code_adds : (p : ℕ) (es : Places) (xs : List Names) (cs : List CodeLine) (ss : List StaticLine) (c : CodeLine) → adds (state false p es xs cs ss) (said_code c) ≡ Some (state false p es xs (cs ++ c ∷ []) ss)
code_adds p es xs cs ss (code.Label name) = refl
code_adds p es xs cs ss (code.Op i) = refl

code_gather : (p : ℕ) (es : Places) (xs : List Names) (cs more : List CodeLine) (ss : List StaticLine) (rest : List (List ℕ)) (k : Gathered) → AllOf (λ c. Printing (code_text c) (said_code c)) more → Gathers (state false p es xs (cs ++ more) ss) rest k → Gathers (state false p es xs cs ss) (map code_text more ++ rest) k
code_gather p es xs cs [] ss rest k h g = subst (λ (t : List CodeLine). Gathers (state false p es xs t ss) rest k) (append-nil cs) g
code_gather p es xs cs (c ∷ more) ss rest k h g = Next (state false p es xs cs ss) (state false p es xs (cs ++ c ∷ []) ss) k (code_text c) (map code_text more ++ rest) (said_code c) h.0.says (code_adds p es xs cs ss c) (code_gather p es xs (cs ++ c ∷ []) more ss rest k h.1 (subst (λ (t : List CodeLine). Gathers (state false p es xs t ss) rest k) (sym (append_assoc cs (c ∷ []) more)) g))

pub printed_is_text : (a : Parts) → IsWhole a → AsmOf (printed a) a
printed_is_text a w =
    let n = named_of a w in
    let pace = pace_printing a.pace w.pace_fits in
    let es = extern_printings a.externs n.externs w.extern_words in
    let xs = export_printings a a.exports n w.exports in
    let ss = static_printings a.statics (static_names data_start a.statics (all_back IsMade (code_labels code_start a.code) (data_labels data_start a.statics) n.labels)) w.widths w.alignments in
    let cs = code_printings a code_start a.code n n.codes w.uses w.numbers in
    let end : Gathered = state false a.pace a.externs a.exports a.code a.statics in
    let all : AllOf (λ l. in_line l ≡ true) (printed_lines a) = (pace.in_line, all_both (λ l. in_line l ≡ true) (map extern_text a.externs) (map export_text a.exports ++ (static_lines a ++ code_lines a)) (map_in_line extern_text (λ e. line.Extern e.0 e.1) a.externs es) (all_both (λ l. in_line l ≡ true) (map export_text a.exports) (static_lines a ++ code_lines a) (map_in_line export_text (λ x. line.Export x) a.exports xs) (refl, all_both (λ l. in_line l ≡ true) (map static_text a.statics) (code_lines a) (map_in_line static_text said_static a.statics ss) (refl, map_in_line code_text said_code a.code cs)))) in
    let codes_part : Gathers (state false a.pace a.externs a.exports [] a.statics) (map code_text a.code) end = subst (λ (t : List (List ℕ)). Gathers (state false a.pace a.externs a.exports [] a.statics) t end) (append-nil (map code_text a.code)) (code_gather a.pace a.externs a.exports [] a.code a.statics [] end cs (End end)) in
    let text_part : Gathers (state true a.pace a.externs a.exports [] a.statics) (code_lines a) end = Next (state true a.pace a.externs a.exports [] a.statics) (state false a.pace a.externs a.exports [] a.statics) end (codes ".text") (map code_text a.code) line.Text (Text (codes ".text") refl) refl codes_part in
    let data_part : Gathers (state false a.pace a.externs a.exports [] []) (static_lines a ++ code_lines a) end = Next (state false a.pace a.externs a.exports [] []) (state true a.pace a.externs a.exports [] []) end (codes ".data") (map static_text a.statics ++ code_lines a) line.Data (Data (codes ".data") refl) refl (statics_gather a.pace a.externs a.exports [] [] a.statics (code_lines a) end ss text_part) in
    let head_part : Gathers (state false a.pace [] [] [] []) (map extern_text a.externs ++ (map export_text a.exports ++ (static_lines a ++ code_lines a))) end = externs_gather a.pace [] a.externs [] [] [] (map export_text a.exports ++ (static_lines a ++ code_lines a)) end es (exports_gather a.pace a.externs [] a.exports [] [] (static_lines a ++ code_lines a) end xs data_part) in
    let whole : Gathers opening (printed_lines a) end = Next opening (state false a.pace [] [] [] []) end (pace_text a.pace) (map extern_text a.externs ++ (map export_text a.exports ++ (static_lines a ++ code_lines a))) (line.Pace a.pace) pace.says refl head_part in
    record { gathered = end; says = subst (λ (t : List (List ℕ)). Gathers opening t end) (sym (lines_joined (printed_lines a) all)) whole; parts = refl; whole = w }
