-- What each operator makes of its operands: what the expression stands for, its meaning, and the faults at its node, of which the lower rule comes first.
use Rattle.std.specs.Prelude.{ℕ, Bool, true, false, ◌&&◌, ◌||◌, not, List, Option, Some, None, is_some, unwrap_or, if◌then◌else◌}
use Rattle.c_grammar.specs.Tokens as k
use Rattle.tso_words.specs.declared.operator.Op.TheVariants as op
use Rattle.tso_words.specs.declared.operator.Cond.TheVariants as cond
use Rattle.clight_lang.specs.declared.statement.Builtin.{Builtin}
use Rattle.clight_lang.specs.Syntax.{Expression, Const, Read, Unary, Binary, Choose}
use Rattle.clight_types.specs.declared.kind.Integer.TheVariants.{UnsignedInt}
use Rattle.clight_types.specs.declared.kind.Value.{Value}
use Rattle.clight_types.specs.declared.kind.Value.TheVariants as v
use Rattle.clight_types.specs.declared.kind.Denoted.{Denoted}
use Rattle.clight_types.specs.declared.kind.Denoted.TheVariants as d
use Rattle.clight_types.specs.declared.kind.Constant.{Constant}
use Rattle.clight_types.specs.declared.kind.Constant.TheVariants as constant
use Rattle.clight_types.specs.declared.rule.Rule.TheVariants as rule
use Rattle.clight_types.specs.Judged.{Judged, value, fault, unless}
use Rattle.clight_types.specs.Types.{Types, Spelling, size_at, is_complete, is_function, is_void, is_scalar, value_at, integer_size}
use Rattle.clight_types.specs.Conversions.{is_scalar_value, is_integer_value, is_struct_value, int_value, converts, operated, keeps_kind, promoted_value, joining, on_kinds}
use Rattle.clight_types.specs.WordOperators.{value_chunk}
use Rattle.clight_operands.specs.Applied.{converted, applied}
use Rattle.clight_types.specs.Constants.{constant_one, negated, constant_choice, constant_operated, constant_as, number_type, number_word, is_allowed_number}

-- which effects may stand at a place: none, a call, or also an assignment
pub data Allowed : Type 0 where
  NoEffect CallAllowed EffectAllowed : Allowed

-- what a lone name names, as far as `&` and calls ask
pub data Naming : Type 0 where
  NoName : Naming
  LocalName : Option ℕ → Naming
  ExternalName : Spelling → Naming
  BuiltinName : Builtin → Naming

-- whom a call calls: the function at an address, by the number of its type; an external function; a builtin
pub data Callee : Type 0 where
  Inside : ℕ → Expression → Callee
  Outside : Spelling → ℕ → Callee
  Provided : Builtin → Callee

-- the right side of an assignment: a value as it is stored, or a call whose value of one type is stored as one of another
pub data Source : Type 0 where
  FromValue : Expression → Source
  FromCall : Callee → List Expression → Value → Source

-- what an expression with an effect does: a call with its arguments and the type of its value; an assignment to a place of a type; an operator on the value at a place of a type, with the other operand and the type of what it gives
pub data Deed : Type 0 where
  NoDeed : Deed
  CallDeed : Callee → List Expression → Value → Deed
  AssignDeed : Expression → Value → Source → Deed
  UpdateDeed : Expression → Value → k.Operator → Value → Expression → Value → Deed

-- a judged expression; its meaning is its value, and the address where it stands for an object or a function
pub record Typed : Type 0 where
  pub at : ℕ
  pub denoted : Denoted
  pub constant : Constant
  pub naming : Naming
  pub meaning : Expression
  pub deed : Deed

abbrev pub plain : ℕ → Denoted → Constant → Expression → Typed
plain at x c e = record { at = at; denoted = x; constant = c; naming = NoName; meaning = e; deed = NoDeed }

abbrev pub doing : ℕ → Value → Deed → Typed
doing at x deed = record { at = at; denoted = d.Value x; constant = constant.No; naming = NoName; meaning = Const 0; deed = deed }

-- what stands for an expression behind its fault
abbrev pub recovered : ℕ → Typed
recovered at = plain at (d.Value int_value) constant.No (Const 0)

-- ## The value of an expression

abbrev pub denoted_value : Types → Denoted → Value
denoted_value types (d.Value x) = x
denoted_value types (d.Object t) = value_at types t
denoted_value types (d.Function t) = v.Pointer t

abbrev pub value_in : Types → Typed → Value
value_in types e = denoted_value types e.denoted

-- an object is read where it is a scalar; an array and a function are their addresses
abbrev pub read_if : Bool → Value → Expression → Expression
read_if true x a = Read (value_chunk x) a
read_if false x a = a

abbrev pub read_of : Types → Denoted → Expression → Expression
read_of types (d.Object t) a = read_if (is_scalar types t) (value_at types t) a
read_of types _ a = a

abbrev pub read_in : Types → Typed → Expression
read_in types e = read_of types e.denoted e.meaning

-- as a value of another type
abbrev pub as_value : Types → Value → Typed → Expression
as_value types to e = converted (value_in types e) to (read_in types e)

abbrev pub converts_to : Types → Value → Typed → Bool
converts_to types to e = converts types (value_in types e) e.constant to

abbrev pub is_struct_expression : Types → Typed → Bool
is_struct_expression types e = is_struct_value (value_in types e)

abbrev pub is_scalar_expression : Types → Typed → Bool
is_scalar_expression types e = is_scalar_value (value_in types e)

abbrev pub is_object : Denoted → Bool
is_object (d.Object t) = true
is_object _ = false

abbrev pub is_scalar_object : Types → Denoted → Bool
is_scalar_object types (d.Object t) = is_scalar types t
is_scalar_object types _ = false

-- ## Constants (6.4.4)

abbrev pub number_typed : ℕ → k.Number → Judged Typed
number_typed at n = unless (is_allowed_number n) rule.LargeDecimal at (value (plain at (d.Value (v.Integer (number_type n))) (constant.Known (number_word n)) (Const (number_word n))))

-- ## Operators before an operand (6.5.3)

abbrev pub address_typed : ℕ → Typed → Denoted → Judged Typed
address_typed at a (d.Object t) = value (plain at (d.Value (v.Pointer t)) constant.No a.meaning)
address_typed at a _ = fault rule.NoObject at (value (recovered at))

-- the local whose address is taken
abbrev pub addressed_by : Naming → Option ℕ
addressed_by (LocalName n) = n
addressed_by _ = None

abbrev pub pointed_to : Types → ℕ → Denoted
pointed_to types t = if is_function types t then d.Function t else d.Object t

abbrev pub dereferenced : Types → ℕ → Typed → Value → Judged Typed
dereferenced types at a (v.Pointer t) = unless (not (is_void types t)) rule.Operands at (value (plain at (pointed_to types t) constant.No (read_in types a)))
dereferenced types at a _ = fault rule.Operands at (value (recovered at))

abbrev pub not_typed : Types → ℕ → Typed → Judged Typed
not_typed types at a = unless (is_scalar_expression types a) rule.Operands at (value (plain at (d.Value int_value) (negated a.constant) (Binary (op.Cmp cond.Eq) (read_in types a) (Const 0))))

abbrev pub sign_typed : Types → ℕ → Typed → Constant → Expression → Judged Typed
sign_typed types at a c e = unless (is_integer_value (value_in types a)) rule.Operands at (value (plain at (d.Value (promoted_value (value_in types a))) c e))

abbrev pub unary_typed : Types → ℕ → k.Operator → Typed → Judged Typed
unary_typed types at k.Ampersand a = address_typed at a a.denoted
unary_typed types at k.Star a = dereferenced types at a (value_in types a)
unary_typed types at k.Plus a = sign_typed types at a a.constant (read_in types a)
unary_typed types at k.Minus a = sign_typed types at a (constant_one op.Neg a.constant) (Unary op.Neg (read_in types a))
unary_typed types at k.Complement a = sign_typed types at a (constant_one op.Not a.constant) (Unary op.Not (read_in types a))
unary_typed types at k.Not a = not_typed types at a
unary_typed types at _ a = fault rule.Operands at (value (recovered at))

-- the size of an object or a value
abbrev pub has_size : Types → Denoted → Bool
has_size types (d.Object t) = is_complete types t
has_size types (d.Function t) = false
has_size types (d.Value x) = is_scalar_value x

abbrev pub value_size : Value → ℕ
value_size (v.Integer i) = integer_size i
value_size (v.Pointer t) = 4
value_size _ = 0

abbrev pub denoted_size : Types → Denoted → ℕ
denoted_size types (d.Object t) = size_at types t
denoted_size types (d.Function t) = 0
denoted_size types (d.Value x) = value_size x

abbrev pub sizeof_typed : ℕ → Bool → ℕ → Judged Typed
sizeof_typed at sized n = unless sized rule.Incomplete at (value (plain at (d.Value (v.Integer UnsignedInt)) (constant.Known n) (Const n)))

abbrev pub cast_typed : Types → ℕ → ℕ → Typed → Judged Typed
cast_typed types at t a = unless (is_scalar types t && is_scalar_expression types a) rule.Operands at (value (plain at (d.Value (value_at types t)) (constant_as (value_at types t) a.constant) (as_value types (value_at types t) a)))

-- ## Operators between operands (6.5.5 to 6.5.15)

abbrev pub binary_by : Types → ℕ → ℕ → k.Operator → Typed → Typed → Option Value → Judged Typed
binary_by types at op_at o a b None = fault rule.Operands op_at (value (recovered at))
binary_by types at op_at o a b (Some x) = value (plain at (d.Value x) (constant_operated o (value_in types a) (value_in types b) a.constant b.constant) (applied types o (value_in types a) (value_in types b) (read_in types a) (read_in types b)))

abbrev pub operated_in : Types → k.Operator → Typed → Typed → Option Value
operated_in types o a b = operated types o (value_in types a) a.constant (value_in types b) b.constant

abbrev pub binary_typed : Types → ℕ → ℕ → k.Operator → Typed → Typed → Judged Typed
binary_typed types at op_at o a b = binary_by types at op_at o a b (operated_in types o a b)

abbrev pub choice_by : Types → ℕ → ℕ → Typed → Typed → Typed → Option Value → Judged Typed
choice_by types at op_at c a b None = fault rule.Operands op_at (unless (is_scalar_expression types c) rule.Condition c.at (value (recovered at)))
choice_by types at op_at c a b (Some x) = unless (is_scalar_expression types c) rule.Condition c.at (value (plain at (d.Value x) (constant_choice c.constant a.constant b.constant) (Choose (read_in types c) (as_value types x a) (as_value types x b))))

abbrev pub choice_typed : Types → ℕ → ℕ → Typed → Typed → Typed → Judged Typed
choice_typed types at op_at c a b = choice_by types at op_at c a b (on_kinds (joining types) (value_in types a) a.constant (value_in types b) b.constant)

abbrev pub index_by : Types → ℕ → ℕ → Typed → Typed → Option Value → Judged Typed
index_by types at op_at a b (Some (v.Pointer t)) = value (plain at (d.Object t) constant.No (applied types k.Plus (value_in types a) (value_in types b) (read_in types a) (read_in types b)))
index_by types at op_at a b _ = fault rule.Operands op_at (value (recovered at))

abbrev pub index_typed : Types → ℕ → ℕ → Typed → Typed → Judged Typed
index_typed types at op_at a b = index_by types at op_at a b (operated_in types k.Plus a b)

-- ## Assignments (6.5.16) and steps (6.5.2.4, 6.5.3.1)

abbrev pub may_stand : Allowed → Bool → Bool
may_stand NoEffect call = false
may_stand CallAllowed call = call
may_stand EffectAllowed call = true

-- what is stored: a call keeps its arguments, and its value is converted when it comes
abbrev pub source_of : Types → Value → Typed → Deed → Source
source_of types to b (CallDeed f args x) = FromCall f args x
source_of types to b _ = FromValue (as_value types to b)

abbrev pub assign_typed : Types → Allowed → ℕ → ℕ → Typed → Typed → Judged Typed
assign_typed types allowed at op_at a b =
    let to = value_in types a in
    let target = is_scalar_object types a.denoted in
    unless (not (is_struct_expression types b)) rule.StructValue b.at
    (unless target rule.NotAssignable op_at
    (unless (not target || is_struct_expression types b || converts_to types to b) rule.NeedsCast b.at
    (unless (may_stand allowed false) rule.EffectPlace op_at
    (value (doing at to (AssignDeed a.meaning to (source_of types to b b.deed)))))))

-- an operator on the value at a place: a compound assignment, and `++` and `--` with 1
abbrev pub update_typed : Types → Allowed → ℕ → ℕ → k.Operator → Typed → Typed → Judged Typed
update_typed types allowed at op_at o a b =
    let to = value_in types a in
    unless (keeps_kind (operated_in types o a b) to) rule.Operands op_at
    (unless (is_scalar_object types a.denoted) rule.NotAssignable op_at
    (unless (may_stand allowed false) rule.EffectPlace op_at
    (value (doing at to (UpdateDeed a.meaning to o (value_in types b) (read_in types b) (unwrap_or (operated_in types o a b) to))))))

abbrev pub one_at : ℕ → Typed
one_at at = plain at (d.Value int_value) (constant.Known 1) (Const 1)

abbrev pub step_operator : k.Increment → k.Operator
step_operator k.Increase = k.Plus
step_operator k.Decrease = k.Minus

abbrev pub step_typed : Types → Allowed → ℕ → ℕ → k.Increment → Typed → Judged Typed
step_typed types allowed at op_at i a = update_typed types allowed at op_at (step_operator i) a (one_at at)

-- the operator of a compound assignment
abbrev pub assignment_operator : k.AssignmentOperator → Option k.Operator
assignment_operator k.Equals = None
assignment_operator k.StarEquals = Some k.Star
assignment_operator k.SlashEquals = Some k.Slash
assignment_operator k.PercentEquals = Some k.Percent
assignment_operator k.PlusEquals = Some k.Plus
assignment_operator k.MinusEquals = Some k.Minus
assignment_operator k.ShiftLeftEquals = Some k.ShiftLeft
assignment_operator k.ShiftRightEquals = Some k.ShiftRight
assignment_operator k.AndEquals = Some k.Ampersand
assignment_operator k.XorEquals = Some k.BitXor
assignment_operator k.OrEquals = Some k.BitOr

abbrev pub is_simple : k.AssignmentOperator → Bool
is_simple o = not (is_some (assignment_operator o))

abbrev pub assigned_by : Types → Allowed → ℕ → ℕ → Option k.Operator → Typed → Typed → Judged Typed
assigned_by types allowed at op_at None a b = assign_typed types allowed at op_at a b
assigned_by types allowed at op_at (Some o) a b = update_typed types allowed at op_at o a b

-- a call may be the right side of a simple assignment
abbrev pub allowed_right : k.AssignmentOperator → Allowed
allowed_right o = if is_simple o then CallAllowed else NoEffect
