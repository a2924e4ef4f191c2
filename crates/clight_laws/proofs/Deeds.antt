-- What is known of a judged expression: its meaning, and what it does.
use Rattle.std.proofs.Common.{◌≡◌, ℕ, suc, ◌+◌, ◌*◌, ◌≤◌, Bool, true, false, List, [], ◌∷◌, length, refl, ap, ◌∙◌, arith}
use Rattle.std.specs.List.{list_any}
use Rattle.clight_lang.specs.Syntax.{Expression}
use Rattle.clight_lang.specs.WellMade.{expression_weight, expression_height, heights_above, builtin_arguments}
use Rattle.clight_types.specs.declared.kind.Value.{Value}
use Rattle.clight_types.specs.declared.kind.Denoted.{Denoted}
use Rattle.clight_types.specs.declared.kind.Denoted.TheVariants as d
use Rattle.clight_types.specs.Types.{Types, same_name, shape_at, is_function, is_function_shape, is_scalar, value_at}
use Rattle.clight_scopes.specs.Scopes.{Scene, find_file}
use Rattle.clight_operands.specs.Operands.{Naming, NoName, LocalName, ExternalName, BuiltinName, Callee, Inside, Outside, Provided, FromValue, FromCall, Deed, NoDeed, CallDeed, AssignDeed, UpdateDeed, Typed, read_if, read_of, read_in, as_value, value_in}
use Rattle.clight_calls.specs.Calls.{parameters_at, arguments_of}
use Rattle.clight_laws.proofs.TypeTables.{function_stays}
use Rattle.clight_laws.proofs.Scenes.{IsFunctionOf, IsLater}
use Rattle.clight_laws.proofs.Expressions.{IsValid, valid_later, IsMeaning, converted_meaning}

-- ## Calls

abbrev pub AreValid : Scene → List Expression → Type 0
AreValid s [] = Unit {0}
AreValid s (e ∷ es) = IsValid s e × AreValid s es

abbrev pub list_weight : List Expression → ℕ
list_weight [] = 0
list_weight (e ∷ es) = expression_weight e + list_weight es

-- arguments of so many nodes
pub record AreArguments (s : Scene) (n : ℕ) (es : List Expression) : Type 0 where
  pub valid : AreValid s es
  pub weight : list_weight es ≤ 3 * n
  pub few : length es ≤ n
  pub heights : (above : ℕ) → heights_above above es ≤ above + n

-- a function type with so many parameters
pub record Takes (types : Types) (t n : ℕ) : Type 0 where
  pub function : is_function types t ≡ true
  pub parameters : length (parameters_at (shape_at types t)) ≡ n

-- who is called with so many arguments
abbrev pub IsCallee : Scene → ℕ → Callee → Type 0
IsCallee s n (Inside t f) = IsValid s f × Takes s.types t n
IsCallee s n (Outside name t) = IsFunctionOf t (find_file name s.file) × (list_any (same_name name) s.defined ≡ false) × Takes s.types t n
IsCallee s n (Provided b) = n ≡ builtin_arguments b

abbrev pub callee_weight : Callee → ℕ
callee_weight (Inside t f) = expression_weight f
callee_weight (Outside name t) = 0
callee_weight (Provided b) = 0

abbrev pub callee_height : Callee → ℕ
callee_height (Inside t f) = expression_height f
callee_height (Outside name t) = 0
callee_height (Provided b) = 0

-- a call of so many nodes: one, those of the callee and those of the arguments
pub record IsCall (s : Scene) (n : ℕ) (f : Callee) (args : List Expression) : Type 0 where
  pub nodes : ℕ
  pub callee : IsCallee s (length args) f
  pub arguments : AreArguments s nodes args
  pub weight : callee_weight f + 3 * nodes + 3 ≤ 3 * n
  pub height : callee_height f + nodes + 1 ≤ n
  pub few : nodes + 2 ≤ n

-- ## Deeds of so many nodes

abbrev pub IsDeed : Scene → ℕ → Deed → Type 0
IsDeed s n NoDeed = Unit {0}
IsDeed s n (CallDeed f args x) = IsCall s n f args
IsDeed s n (AssignDeed a to (FromValue e)) = IsValid s a × IsValid s e × (expression_weight a + expression_weight e ≤ 3 * n) × (expression_height a ≤ n) × (expression_height e ≤ n)
IsDeed s n (AssignDeed a to (FromCall f args x)) = IsValid s a × IsCall s n f args × (expression_weight a ≤ 3 * n) × (expression_height a ≤ n) × (3 ≤ n)
IsDeed s n (UpdateDeed a to o other e given) = IsValid s a × IsValid s e × (expression_weight a + expression_weight e ≤ 3 * n) × (expression_height a ≤ n) × (expression_height e + 1 ≤ n) × (2 ≤ n)

-- ## Judged expressions

-- an external function or a builtin stands only for itself
abbrev pub IsNaming : Scene → Naming → Denoted → Type 0
IsNaming s (ExternalName name) (d.Function t) = IsFunctionOf t (find_file name s.file) × (list_any (same_name name) s.defined ≡ false)
IsNaming s (ExternalName name) _ = ⊥
IsNaming s _ x = Unit {0}

abbrev pub IsInner : Naming → Type 0
IsInner (ExternalName name) = ⊥
IsInner (BuiltinName b) = ⊥
IsInner _ = Unit {0}

abbrev pub IsValidAs : Scene → Naming → Expression → Type 0
IsValidAs s (ExternalName name) e = Unit {0}
IsValidAs s _ e = IsValid s e

abbrev pub read_weight : Denoted → ℕ
read_weight (d.Object t) = 1
read_weight _ = 0

-- of so many nodes
pub record IsTyped (s : Scene) (n : ℕ) (x : Typed) : Type 0 where
  pub some : 1 ≤ n
  pub valid : IsValidAs s x.naming x.meaning
  pub naming : IsNaming s x.naming x.denoted
  pub weight : expression_weight x.meaning + (1 + read_weight x.denoted) ≤ 3 * n
  pub height : expression_height x.meaning ≤ n
  pub deed : IsDeed s n x.deed

-- an operand: its meaning alone
pub record IsOperand (s : Scene) (n : ℕ) (x : Typed) : Type 0 where
  pub some : 1 ≤ n
  pub valid : IsValid s x.meaning
  pub weight : expression_weight x.meaning + (1 + read_weight x.denoted) ≤ 3 * n
  pub height : expression_height x.meaning ≤ n
  pub deed : IsDeed s n x.deed

inner_valid : (s : Scene) (name : Naming) (e : Expression) → IsInner name → IsValidAs s name e → IsValid s e
inner_valid s NoName e i h = h
inner_valid s (LocalName n) e i h = h
inner_valid s (ExternalName name) e i h = absurd i
inner_valid s (BuiltinName b) e i h = h

pub operand : (s : Scene) (n : ℕ) (x : Typed) → IsTyped s n x → IsInner x.naming → IsOperand s n x
operand s n x h i = record { some = h.some; valid = inner_valid s x.naming x.meaning i h.valid; weight = h.weight; height = h.height; deed = h.deed }

-- ## Reading

module _ (s : Scene) (types : Types) (n : ℕ) (x : Typed) (h : IsOperand s n x) where
  read_object : (b : Bool) (y : Value) (e : Expression) → IsValid s e → expression_weight e + 2 ≤ 3 * n → expression_height e ≤ n → IsMeaning s 1 n (read_if b y e)
  read_object true y e v w g = record { valid = v; weight = omega arith; height = g }
  read_object false y e v w g = record { valid = v; weight = omega arith; height = g }

  read_by : (z : Denoted) (e : Expression) → IsValid s e → expression_weight e + (1 + read_weight z) ≤ 3 * n → expression_height e ≤ n → IsMeaning s 1 n (read_of types z e)
  read_by (d.Value y) e v w g = record { valid = v; weight = omega arith; height = g }
  read_by (d.Object t) e v w g = read_object (is_scalar types t) (value_at types t) e v (omega arith) g
  read_by (d.Function t) e v w g = record { valid = v; weight = omega arith; height = g }

  pub read_meaning : IsMeaning s 1 n (read_in types x)
  read_meaning = read_by x.denoted x.meaning h.valid h.weight h.height

  pub as_meaning : (to : Value) → IsMeaning s 0 n (as_value types to x)
  as_meaning to = converted_meaning s (value_in types x) to n (read_in types x) read_meaning

-- ## Lists of operands

abbrev pub AreOperands : Scene → ℕ → List Typed → Type 0
AreOperands s n [] = Unit {0}
AreOperands s n (x ∷ xs) = (a : ℕ) × (b : ℕ) × IsOperand s a x × AreOperands s b xs × (a + b ≤ n)

pub arguments_put : (s : Scene) (n a b : ℕ) (e : Expression) (es : List Expression) → IsMeaning s 0 a e → AreArguments s b es → 1 ≤ a → a + b ≤ n → AreArguments s n (e ∷ es)
arguments_put s n a b e es m r l q =
    let w : expression_weight e + 0 ≤ 3 * a = m.weight in let g : expression_height e ≤ a = m.height in
    let ws : list_weight es ≤ 3 * b = r.weight in let fs : length es ≤ b = r.few in
    record {
      valid = (m.valid, r.valid);
      weight = omega arith;
      few = omega arith;
      heights = λ above. (let hs : heights_above (above + 1) es ≤ (above + 1) + b = r.heights (above + 1) in omega arith);
    }

pub arguments_good : (s : Scene) (types : Types) (n : ℕ) (xs : List Typed) (ps : List Value) → AreOperands s n xs → AreArguments s n (arguments_of types xs ps)
arguments_good s types n [] ps h = record { valid = tt; weight = omega arith; few = omega arith; heights = λ above. omega arith }
arguments_good s types n (x ∷ xs) [] h = record { valid = tt; weight = omega arith; few = omega arith; heights = λ above. omega arith }
arguments_good s types n (x ∷ xs) (p ∷ ps) h = arguments_put s n h.0 h.1 (as_value types p x) (arguments_of types xs ps) (as_meaning s types h.0 x h.2 p) (arguments_good s types h.1 xs ps h.3) h.2.some h.4

pub arguments_many : (types : Types) (xs : List Typed) (ps : List Value) → length xs ≡ length ps → length (arguments_of types xs ps) ≡ length ps
arguments_many types [] [] e = refl
arguments_many types [] (p ∷ ps) e = absurd (omega arith)
arguments_many types (x ∷ xs) [] e = absurd (omega arith)
arguments_many types (x ∷ xs) (p ∷ ps) e = ap suc (arguments_many types xs ps (omega arith))

-- ## What stays in a later scene

pub all_later : (m : ℕ) (s t : Scene) → IsLater m s t → (es : List Expression) → AreValid s es → AreValid t es
all_later m s t l [] h = tt
all_later m s t l (e ∷ es) h = (valid_later m s t l e h.0, all_later m s t l es h.1)

takes_later : (m : ℕ) (s t : Scene) → IsLater m s t → (u n : ℕ) → Takes s.types u n → Takes t.types u n
takes_later m s t l u n h =
    let e = function_stays s.types t.types l.types u h.function in
    record { function = ap is_function_shape e ∙ h.function; parameters = ap (λ x. length (parameters_at x)) e ∙ h.parameters }

callee_later : (m : ℕ) (s t : Scene) → IsLater m s t → (n : ℕ) (f : Callee) → IsCallee s n f → IsCallee t n f
callee_later m s t l n (Inside u f) h = (valid_later m s t l f h.0, takes_later m s t l u n h.1)
callee_later m s t l n (Outside name u) h = (l.functions name u h.0, ap (list_any (same_name name)) l.defined ∙ h.1, takes_later m s t l u n h.2)
callee_later m s t l n (Provided b) h = h

pub call_later : (m : ℕ) (s t : Scene) → IsLater m s t → (n : ℕ) (f : Callee) (args : List Expression) → IsCall s n f args → IsCall t n f args
call_later m s t l n f args h =
    record {
      nodes = h.nodes;
      callee = callee_later m s t l (length args) f h.callee;
      arguments = record { valid = all_later m s t l args h.arguments.valid; weight = h.arguments.weight; few = h.arguments.few; heights = h.arguments.heights };
      weight = h.weight;
      height = h.height;
      few = h.few;
    }

pub deed_later : (m : ℕ) (s t : Scene) → IsLater m s t → (n : ℕ) (d : Deed) → IsDeed s n d → IsDeed t n d
deed_later m s t l n NoDeed h = tt
deed_later m s t l n (CallDeed f args x) h = call_later m s t l n f args h
deed_later m s t l n (AssignDeed a to (FromValue e)) h = (valid_later m s t l a h.0, valid_later m s t l e h.1, h.2, h.3, h.4)
deed_later m s t l n (AssignDeed a to (FromCall f args x)) h = (valid_later m s t l a h.0, call_later m s t l n f args h.1, h.2, h.3, h.4)
deed_later m s t l n (UpdateDeed a to o other e given) h = (valid_later m s t l a h.0, valid_later m s t l e h.1, h.2, h.3, h.4, h.5)

naming_later : (m : ℕ) (s t : Scene) → IsLater m s t → (name : Naming) (x : Denoted) → IsNaming s name x → IsNaming t name x
naming_later m s t l NoName x h = tt
naming_later m s t l (LocalName n) x h = tt
naming_later m s t l (BuiltinName b) x h = tt
naming_later m s t l (ExternalName name) (d.Function u) h = (l.functions name u h.0, ap (list_any (same_name name)) l.defined ∙ h.1)
naming_later m s t l (ExternalName name) (d.Value y) h = h
naming_later m s t l (ExternalName name) (d.Object u) h = h

valid_as_later : (m : ℕ) (s t : Scene) → IsLater m s t → (name : Naming) (e : Expression) → IsValidAs s name e → IsValidAs t name e
valid_as_later m s t l NoName e h = valid_later m s t l e h
valid_as_later m s t l (LocalName n) e h = valid_later m s t l e h
valid_as_later m s t l (BuiltinName b) e h = valid_later m s t l e h
valid_as_later m s t l (ExternalName name) e h = tt

pub typed_later : (m : ℕ) (s t : Scene) → IsLater m s t → (n : ℕ) (x : Typed) → IsTyped s n x → IsTyped t n x
typed_later m s t l n x h = record { some = h.some; valid = valid_as_later m s t l x.naming x.meaning h.valid; naming = naming_later m s t l x.naming x.denoted h.naming; weight = h.weight; height = h.height; deed = deed_later m s t l n x.deed h.deed }

pub operand_later : (m : ℕ) (s t : Scene) → IsLater m s t → (n : ℕ) (x : Typed) → IsOperand s n x → IsOperand t n x
operand_later m s t l n x h = record { some = h.some; valid = valid_later m s t l x.meaning h.valid; weight = h.weight; height = h.height; deed = deed_later m s t l n x.deed h.deed }

pub operands_later : (m : ℕ) (s t : Scene) → IsLater m s t → (n : ℕ) (xs : List Typed) → AreOperands s n xs → AreOperands t n xs
operands_later m s t l n [] h = tt
operands_later m s t l n (x ∷ xs) h = (h.0, h.1, operand_later m s t l h.0 x h.2, operands_later m s t l h.1 xs h.3, h.4)
