-- Calls (6.5.2.2), and calls of the builtins.
use Rattle.std.specs.Prelude.{ℕ, replicate, ◌==◌, Bool, true, false, ◌&&◌, ◌||◌, not, List, [], ◌∷◌, length, map, Option, Some, None, if◌then◌else◌}
use Rattle.clight_lang.specs.declared.statement.Builtin.{Builtin}
use Rattle.clight_lang.specs.declared.statement.Builtin.TheVariants as B
use Rattle.clight_lang.specs.Syntax.{Expression}
use Rattle.clight_types.specs.declared.kind.Integer.TheVariants.{Int, UnsignedInt}
use Rattle.clight_types.specs.declared.kind.Value.{Value}
use Rattle.clight_types.specs.declared.kind.Value.TheVariants as v
use Rattle.clight_types.specs.declared.kind.Denoted.{Denoted}
use Rattle.clight_types.specs.declared.rule.Rule.TheVariants as rule
use Rattle.clight_types.specs.Judged.{Judged, value, fault, unless}
use Rattle.clight_types.specs.Types.{Types, Shape, FunctionShape, shape_at, is_function, is_scalar, value_at}
use Rattle.clight_operands.specs.Operands.{Allowed, Naming, BuiltinName, ExternalName, Callee, Inside, Outside, Provided, CallDeed, Typed, doing, recovered, denoted_value, value_in, read_in, as_value, converts_to, is_struct_expression, may_stand}
use Rattle.clight_calls.specs.Builtins.{builtin_type, atomic_arguments}

-- the number of the type of the function that is called
abbrev pub called_value : Types → Value → Option ℕ
called_value types (v.Pointer t) = if is_function types t then Some t else None
called_value types _ = None

abbrev pub called_type : Types → Naming → Denoted → Option ℕ
called_type types (BuiltinName b) x = builtin_type b
called_type types _ x = called_value types (denoted_value types x)

abbrev pub callee_in : Types → ℕ → Naming → Typed → Callee
callee_in types t (BuiltinName b) f = Provided b
callee_in types t (ExternalName name) f = Outside name t
callee_in types t _ f = Inside t (read_in types f)

abbrev pub results_at : Shape → ℕ
results_at (FunctionShape r ps) = r
results_at _ = 0

abbrev pub parameters_at : Shape → List ℕ
parameters_at (FunctionShape r ps) = ps
parameters_at _ = []

-- no argument is a struct
abbrev pub no_structs : {A : Type 0} → Types → List Typed → Judged A → Judged A
no_structs types [] j = j
no_structs types (a ∷ args) j = unless (not (is_struct_expression types a)) rule.StructValue a.at (no_structs types args j)

-- each argument converts to its parameter, as far as there are both
abbrev pub all_convert : {A : Type 0} → Types → List Typed → List Value → Judged A → Judged A
all_convert types [] ps j = j
all_convert types (a ∷ args) [] j = j
all_convert types (a ∷ args) (p ∷ ps) j = unless (is_struct_expression types a || converts_to types p a) rule.NeedsCast a.at (all_convert types args ps j)

abbrev pub arguments_of : Types → List Typed → List Value → List Expression
arguments_of types [] ps = []
arguments_of types (a ∷ args) [] = []
arguments_of types (a ∷ args) (p ∷ ps) = as_value types p a ∷ arguments_of types args ps

abbrev pub call_by : Types → Allowed → ℕ → ℕ → Typed → List Typed → ℕ → Value → List Value → Judged Typed
call_by types allowed at op_at f args t result ps =
    no_structs types args
    (all_convert types args ps
    (unless (length args == length ps) rule.Call f.at
    (unless (may_stand allowed true) rule.EffectPlace op_at
    (value (doing at result (CallDeed (callee_in types t f.naming f) (arguments_of types args ps) result))))))

abbrev pub typed_call : Types → Allowed → ℕ → ℕ → Typed → List Typed → Option ℕ → Judged Typed
typed_call types allowed at op_at f args None = no_structs types args (fault rule.Call f.at (unless (may_stand allowed true) rule.EffectPlace op_at (value (recovered at))))
typed_call types allowed at op_at f args (Some t) = call_by types allowed at op_at f args t (value_at types (results_at (shape_at types t))) (map (value_at types) (parameters_at (shape_at types t)))

-- ## Atomics: the first argument points to a scalar of four bytes, an integer for `atomic_add`; the others and the answer are of its type

abbrev pub is_atomic_scalar : Builtin → Value → Bool
is_atomic_scalar b (v.Integer Int) = true
is_atomic_scalar b (v.Integer UnsignedInt) = true
is_atomic_scalar B.AtomicAdd _ = false
is_atomic_scalar b (v.Pointer t) = true
is_atomic_scalar b _ = false

abbrev pub given_scalar : Bool → Value → Option Value
given_scalar true x = Some x
given_scalar false x = None

abbrev pub atomic_target : Types → Builtin → Value → Option Value
atomic_target types b (v.Pointer t) = given_scalar (is_scalar types t && is_atomic_scalar b (value_at types t)) (value_at types t)
atomic_target types b _ = None

-- what an atomic stores and gives, behind what its first argument points to: all are of this type
abbrev pub atomic_of : Types → Allowed → ℕ → ℕ → ℕ → Builtin → ℕ → Typed → List Typed → Value → List Value → Judged Typed
atomic_of types allowed at op_at f_at b n p args x ps =
    all_convert types args ps
    (unless (length args == n) rule.Call f_at
    (unless (may_stand allowed true) rule.EffectPlace op_at
    (value (doing at x (CallDeed (Provided b) (read_in types p ∷ arguments_of types args ps) x)))))

abbrev pub atomic_by : Types → Allowed → ℕ → ℕ → ℕ → Builtin → ℕ → Typed → List Typed → Option Value → Judged Typed
atomic_by types allowed at op_at f_at b n p args None =
    unless (length args == n) rule.Call f_at
    (unless (may_stand allowed true) rule.EffectPlace op_at
    (fault rule.AtomicPlace f_at (value (recovered at))))
atomic_by types allowed at op_at f_at b n p args (Some x) = atomic_of types allowed at op_at f_at b n p args x (replicate n x)

abbrev pub atomic_typed : Types → Allowed → ℕ → ℕ → ℕ → Builtin → ℕ → List Typed → Judged Typed
atomic_typed types allowed at op_at f_at b n [] = fault rule.Call f_at (unless (may_stand allowed true) rule.EffectPlace op_at (value (recovered at)))
atomic_typed types allowed at op_at f_at b n (p ∷ args) = no_structs types (p ∷ args) (atomic_by types allowed at op_at f_at b n p args (atomic_target types b (value_in types p)))

abbrev pub builtin_call : Types → Allowed → ℕ → ℕ → Typed → List Typed → Builtin → Option ℕ → Judged Typed
builtin_call types allowed at op_at f args b (Some n) = atomic_typed types allowed at op_at f.at b n args
builtin_call types allowed at op_at f args b None = typed_call types allowed at op_at f args (builtin_type b)

abbrev pub call_named : Types → Allowed → ℕ → ℕ → Typed → List Typed → Naming → Judged Typed
call_named types allowed at op_at f args (BuiltinName b) = builtin_call types allowed at op_at f args b (atomic_arguments b)
call_named types allowed at op_at f args _ = typed_call types allowed at op_at f args (called_value types (value_in types f))

abbrev pub call_typed : Types → Allowed → ℕ → ℕ → Typed → List Typed → Judged Typed
call_typed types allowed at op_at f args = call_named types allowed at op_at f args f.naming
