-- Each operator gives an expression that is well typed of well typed operands.
use Rattle.std.proofs.Common.{◌≡◌, ℕ, ◌+◌, ◌*◌, ◌≤◌, Bool, true, false, cond, ◌&&◌, ◌||◌, not, List, [], ◌∷◌, length, Option, Some, None, refl, sym, subst, inl, inr, arith}
use Rattle.c_grammar.specs.Tokens as k
use Rattle.tso_words.specs.declared.operator.Op.TheVariants as op
use Rattle.tso_words.specs.declared.operator.Cond.TheVariants as cond_of
use Rattle.clight_lang.specs.declared.statement.Builtin.{Builtin}
use Rattle.clight_lang.specs.Syntax.{Expression, Unary}
use Rattle.clight_lang.specs.WellMade.{expression_weight, expression_height}
use Rattle.clight_types.specs.declared.kind.Value.{Value}
use Rattle.clight_types.specs.declared.kind.Value.TheVariants as v
use Rattle.clight_types.specs.declared.kind.Denoted.{Denoted}
use Rattle.clight_types.specs.declared.kind.Denoted.TheVariants as d
use Rattle.clight_types.specs.declared.kind.Constant.{Constant}
use Rattle.clight_types.specs.declared.kind.Constant.TheVariants as constant
use Rattle.clight_types.specs.Types.{Types, Spelling, same_name, MemberOf, is_function, is_scalar, is_void, value_at}
use Rattle.clight_types.specs.Conversions.{is_integer_value, on_kinds, joining, keeps_kind}
use Rattle.clight_types.specs.Constants.{constant_one, number_word, is_allowed_number}
use Rattle.clight_scopes.specs.Scopes.{Entity, ObjectEntity, FunctionEntity, EnumeratorEntity, TypedefEntity, BuiltinEntity, FileName, BlockName, Scene, find_local, find_in_block, find_file, or_else, is_defined_function}
use Rattle.clight_operands.specs.Operands.{Allowed, LocalName, Callee, FromValue, Deed, NoDeed, CallDeed, AssignDeed, UpdateDeed, Typed, plain, doing, read_in, value_in, as_value, is_struct_expression, converts_to, is_scalar_expression, is_scalar_object, number_typed, address_typed, dereferenced, sign_typed, unary_typed, sizeof_typed, cast_typed, binary_by, operated_in, binary_typed, choice_by, choice_typed, index_by, index_typed, may_stand, source_of, assign_typed, update_typed, one_at, step_operator, step_typed, assigned_by}
use Rattle.clight_calls.specs.Builtins.{builtin_named}
use Rattle.clight_calls.specs.Members.{member_by, dot_member, arrow_member, member_typed}
use Rattle.clight_calls.specs.Names.{named_as, function_typed, file_name_typed, known_name_typed, file_typed, local_address, name_typed_by, name_typed}
use Rattle.clight_laws.proofs.Holding.{Holds, of_value, of_fault, of_unless, not_both}
use Rattle.clight_laws.proofs.Scenes.{IsScene, IsBelow, AreNames, AreBlocks, IsObject, IsFunctionOf}
use Rattle.clight_laws.proofs.Expressions.{IsValid, IsMeaning, const_meaning, unary_meaning, not_meaning, sum_meaning, applied_meaning, moved_meaning, choice_meaning}
use Rattle.clight_laws.proofs.Deeds.{IsDeed, IsCall, IsTyped, IsOperand, IsInner, read_weight, read_meaning, as_meaning}
use Rattle.clight_laws.proofs.Deeds.{callee_weight, callee_height}
use Rattle.clight_laws.proofs.Scenes.{IsFunctionEntity, IsObjectEntity}

-- well typed, and no external function or builtin that stands for itself
pub record IsPlain (s : Scene) (n : ℕ) (x : Typed) : Type 0 where
  pub typed : IsTyped s n x
  pub inner : IsInner x.naming

-- the same where it is not the callee of a call
pub record IsGiven (s : Scene) (called : Bool) (n : ℕ) (x : Typed) : Type 0 where
  pub typed : IsTyped s n x
  pub inner : called ≡ false → IsInner x.naming

pub value_plain : (s : Scene) (n at : ℕ) (y : Value) (c : Constant) (e : Expression) → 1 ≤ n → IsMeaning s 1 n e → IsPlain s n (plain at (d.Value y) c e)
value_plain s n at y c e l h = record { typed = record { some = l; valid = h.valid; naming = tt; weight = h.weight; height = h.height; deed = tt }; inner = tt }

pub object_plain : (s : Scene) (n at : ℕ) (t : ℕ) (c : Constant) (e : Expression) → 1 ≤ n → IsMeaning s 2 n e → IsPlain s n (plain at (d.Object t) c e)
object_plain s n at t c e l h = record { typed = record { some = l; valid = h.valid; naming = tt; weight = h.weight; height = h.height; deed = tt }; inner = tt }

pub deed_plain : (s : Scene) (n at : ℕ) (y : Value) (z : Deed) → 1 ≤ n → IsDeed s n z → IsPlain s n (doing at y z)
deed_plain s n at y z l h = record { typed = record { some = l; valid = tt; naming = tt; weight = omega arith; height = omega arith; deed = h }; inner = tt }

-- ## Constants and names

pub number_good : (s : Scene) (at : ℕ) (n : k.Number) → Holds (number_typed at n) (IsPlain s 1)
number_good s at n = of_unless (is_allowed_number n) _ _ _ _ (λ e. of_value _ _ (value_plain s 1 at _ _ _ (omega arith) (const_meaning s (number_word n) 1 (omega arith))))

abbrev IsLocal : ℕ → Option BlockName → Type 0
IsLocal n None = Unit {0}
IsLocal n (Some x) = IsBelow n x.local

found_in_block : (n : ℕ) (name : Spelling) (b : List BlockName) → AreNames n b → IsLocal n (find_in_block name b)
found_in_block n name [] h = tt
found_in_block n name (x ∷ xs) h = by (same_name name x.name) (found_in_block n name xs h.1)
  where
    by : (c : Bool) → IsLocal n (find_in_block name xs) → IsLocal n (cond c (Some x) (find_in_block name xs))
    by true r = h.0
    by false r = r

found_local : (n : ℕ) (name : Spelling) (bs : List (List BlockName)) → AreBlocks n bs → IsLocal n (find_local name bs)
found_local n name [] h = tt
found_local n name (b ∷ bs) h = by (find_in_block name b) (found_in_block n name b h.0) (found_local n name bs h.1)
  where
    by : (o : Option BlockName) → IsLocal n o → IsLocal n (find_local name bs) → IsLocal n (or_else o (find_local name bs))
    by None g r = r
    by (Some x) g r = g

local_given : (s : Scene) (called : Bool) (at t : ℕ) (o : Option ℕ) → IsBelow (length s.locals) o → IsGiven s called 1 (named_as at (d.Object t) (LocalName o) (local_address o))
local_given s called at t None h = record { typed = record { some = omega arith; valid = tt; naming = tt; weight = omega arith; height = omega arith; deed = tt }; inner = λ e. tt }
local_given s called at t (Some n) h = record { typed = record { some = omega arith; valid = h; naming = tt; weight = omega arith; height = omega arith; deed = tt }; inner = λ e. tt }

module _ (s : Scene) (called : Bool) (at : ℕ) (name : Spelling) where
  function_given : (b : Bool) (t : ℕ) → is_defined_function s name ≡ b → IsFunctionOf t (find_file name s.file) → Holds (function_typed b called at name t) (IsGiven s called 1)
  function_given true t e h = of_value _ _ (record { typed = record { some = omega arith; valid = inr e; naming = tt; weight = omega arith; height = omega arith; deed = tt }; inner = λ e. tt })
  function_given false t e h = of_unless called _ _ _ _ (λ c. of_value _ _ (record { typed = record { some = omega arith; valid = tt; naming = (h, e); weight = omega arith; height = omega arith; deed = tt }; inner = λ f. absurd (not_both called c f) }))

  entity_given : (x : FileName) (e : Entity) → find_file name s.file ≡ Some x → x.entity ≡ e → Holds (file_name_typed s called at name e) (IsGiven s called 1)
  entity_given x (ObjectEntity t df start) p q =
      let o : IsObject (find_file name s.file) = subst IsObject (sym p) (subst IsObjectEntity (sym q) tt) in
      of_value _ _ (record { typed = record { some = omega arith; valid = inl o; naming = tt; weight = omega arith; height = omega arith; deed = tt }; inner = λ e. tt })
  entity_given x (FunctionEntity t static df) p q = function_given (is_defined_function s name) t refl (subst (IsFunctionOf t) (sym p) (subst (IsFunctionEntity t) (sym q) refl))
  entity_given x (EnumeratorEntity w) p q = of_value _ _ (record { typed = record { some = omega arith; valid = tt; naming = tt; weight = omega arith; height = omega arith; deed = tt }; inner = λ e. tt })
  entity_given x (TypedefEntity t) p q = of_fault _ _ _ _
  entity_given x (BuiltinEntity static) p q = of_fault _ _ _ _

  known_given : (o : Option FileName) → find_file name s.file ≡ o → Holds (known_name_typed s called at name o) (IsGiven s called 1)
  known_given None p = of_fault _ _ _ _
  known_given (Some x) p = entity_given x x.entity p refl

  file_given : (o : Option Builtin) → Holds (file_typed s called at name o) (IsGiven s called 1)
  file_given (Some b) = of_unless called _ _ _ _ (λ c. of_value _ _ (record { typed = record { some = omega arith; valid = tt; naming = tt; weight = omega arith; height = omega arith; deed = tt }; inner = λ f. absurd (not_both called c f) }))
  file_given None = known_given (find_file name s.file) refl

  pub name_good : IsScene s → Holds (name_typed s called at name) (IsGiven s called 1)
  name_good h = by (find_local name s.blocks) (found_local (length s.locals) name s.blocks h.blocks)
    where
      by : (o : Option BlockName) → IsLocal (length s.locals) o → Holds (name_typed_by s called at name o) (IsGiven s called 1)
      by None g = file_given (builtin_named name)
      by (Some x) g = of_value _ _ (local_given s called at x.type x.local g)

-- ## One operand

module _ (s : Scene) (types : Types) (at n : ℕ) (a : Typed) (h : IsOperand s n a) where
  abbrev itself : IsMeaning s 1 n a.meaning
  itself = record { valid = h.valid; weight = by; height = h.height }
    where
      by : expression_weight a.meaning + 1 ≤ 3 * n
      by = (let w : expression_weight a.meaning + (1 + read_weight a.denoted) ≤ 3 * n = h.weight in omega arith)

  more_nodes : (e : Expression) (spare : ℕ) → IsMeaning s 1 n e → spare ≤ 4 → IsMeaning s spare (1 + n) e
  more_nodes e spare m l = (let w : expression_weight e + 1 ≤ 3 * n = m.weight in let g : expression_height e ≤ n = m.height in record { valid = m.valid; weight = omega arith; height = omega arith })

  cast_nodes : (e : Expression) → IsMeaning s 0 n e → IsMeaning s 1 (1 + n) e
  cast_nodes e m = (let w : expression_weight e + 0 ≤ 3 * n = m.weight in let g : expression_height e ≤ n = m.height in record { valid = m.valid; weight = omega arith; height = omega arith })

  read : IsMeaning s 1 n (read_in types a)
  read = read_meaning s types n a h

  address_good : (z : Denoted) → Holds (address_typed at a z) (IsPlain s (1 + n))
  address_good (d.Object t) = of_value _ _ (value_plain s (1 + n) at _ _ _ (omega arith) (more_nodes a.meaning 1 itself (omega arith)))
  address_good (d.Value y) = of_fault _ _ _ _
  address_good (d.Function t) = of_fault _ _ _ _

  pointed_good : (b : Bool) (t : ℕ) → IsPlain s (1 + n) (plain at (cond b (d.Function t) (d.Object t)) constant.No (read_in types a))
  pointed_good true t = (let m : IsMeaning s 1 (1 + n) (read_in types a) = more_nodes (read_in types a) 1 read (omega arith) in record { typed = record { some = omega arith; valid = m.valid; naming = tt; weight = m.weight; height = m.height; deed = tt }; inner = tt })
  pointed_good false t = object_plain s (1 + n) at t _ _ (omega arith) (more_nodes (read_in types a) 2 read (omega arith))

  dereferenced_good : (y : Value) → Holds (dereferenced types at a y) (IsPlain s (1 + n))
  dereferenced_good (v.Pointer t) = of_unless (not (is_void types t)) _ _ _ _ (λ e. of_value _ _ (pointed_good (is_function types t) t))
  dereferenced_good (v.Integer j) = of_fault _ _ _ _
  dereferenced_good v.Struct = of_fault _ _ _ _
  dereferenced_good v.Void = of_fault _ _ _ _

  sign_good : (c : Constant) (e : Expression) → IsMeaning s 1 (1 + n) e → Holds (sign_typed types at a c e) (IsPlain s (1 + n))
  sign_good c e m = of_unless (is_integer_value (value_in types a)) _ _ _ _ (λ t. of_value _ _ (value_plain s (1 + n) at _ _ _ (omega arith) m))

  pub unary_good : (o : k.Operator) → Holds (unary_typed types at o a) (IsPlain s (1 + n))
  unary_good k.Ampersand = address_good a.denoted
  unary_good k.Star = dereferenced_good (value_in types a)
  unary_good k.Plus = sign_good a.constant (read_in types a) (more_nodes (read_in types a) 1 read (omega arith))
  unary_good k.Minus = sign_good (constant_one op.Neg a.constant) (Unary op.Neg (read_in types a)) (unary_meaning s op.Neg n (read_in types a) read)
  unary_good k.Complement = sign_good (constant_one op.Not a.constant) (Unary op.Not (read_in types a)) (unary_meaning s op.Not n (read_in types a) read)
  unary_good k.Not = of_unless (is_scalar_expression types a) _ _ _ _ (λ t. of_value _ _ (value_plain s (1 + n) at _ _ _ (omega arith) (not_meaning s (op.Cmp cond_of.Eq) n (read_in types a) read)))
  unary_good k.LogicalOr = of_fault _ _ _ _
  unary_good k.LogicalAnd = of_fault _ _ _ _
  unary_good k.BitOr = of_fault _ _ _ _
  unary_good k.BitXor = of_fault _ _ _ _
  unary_good k.Equal = of_fault _ _ _ _
  unary_good k.NotEqual = of_fault _ _ _ _
  unary_good k.Less = of_fault _ _ _ _
  unary_good k.Greater = of_fault _ _ _ _
  unary_good k.LessEqual = of_fault _ _ _ _
  unary_good k.GreaterEqual = of_fault _ _ _ _
  unary_good k.ShiftLeft = of_fault _ _ _ _
  unary_good k.ShiftRight = of_fault _ _ _ _
  unary_good k.Slash = of_fault _ _ _ _
  unary_good k.Percent = of_fault _ _ _ _

  pub cast_good : (t : ℕ) (m : ℕ) → n ≤ m → Holds (cast_typed types at t a) (IsPlain s (1 + m))
  cast_good t m l = of_unless (is_scalar types t && is_scalar_expression types a) _ _ _ _ (λ e. of_value _ _ (value_plain s (1 + m) at _ _ _ (omega arith) (by (cast_nodes (as_value types (value_at types t) a) (as_meaning s types n a h (value_at types t))))))
    where
      by : IsMeaning s 1 (1 + n) (as_value types (value_at types t) a) → IsMeaning s 1 (1 + m) (as_value types (value_at types t) a)
      by g = (let w : expression_weight (as_value types (value_at types t) a) + 1 ≤ 3 * (1 + n) = g.weight in let q : expression_height (as_value types (value_at types t) a) ≤ 1 + n = g.height in record { valid = g.valid; weight = omega arith; height = omega arith })

  pub member_good : (access : k.Access) (name_at : ℕ) (name : Spelling) → Holds (member_typed types at access name_at name a) (IsPlain s (1 + n))
  member_good k.Dot name_at name = by (dot_member types a.denoted name) a.meaning itself
    where
      by : (o : Option MemberOf) (e : Expression) → IsMeaning s 1 n e → Holds (member_by at name_at e o) (IsPlain s (1 + n))
      by None e m = of_fault _ _ _ _
      by (Some x) e m = of_value _ _ (object_plain s (1 + n) at x.type _ _ (omega arith) (moved_meaning s x.offset n e m))
  member_good k.Arrow name_at name = by (arrow_member types (value_in types a) name) (read_in types a) read
    where
      by : (o : Option MemberOf) (e : Expression) → IsMeaning s 1 n e → Holds (member_by at name_at e o) (IsPlain s (1 + n))
      by None e m = of_fault _ _ _ _
      by (Some x) e m = of_value _ _ (object_plain s (1 + n) at x.type _ _ (omega arith) (moved_meaning s x.offset n e m))

pub sizeof_good : (s : Scene) (at n : ℕ) (sized : Bool) (size : ℕ) → 1 ≤ n → Holds (sizeof_typed at sized size) (IsPlain s n)
sizeof_good s at n sized size l = of_unless sized _ _ _ _ (λ e. of_value _ _ (value_plain s n at _ _ _ l (const_meaning s size n l)))

-- ## Two operands, and three

module _ (s : Scene) (types : Types) (at op_at n m : ℕ) (a b : Typed) (g : IsOperand s n a) (h : IsOperand s m b) where
  read_a : IsMeaning s 1 n (read_in types a)
  read_a = read_meaning s types n a g

  read_b : IsMeaning s 1 m (read_in types b)
  read_b = read_meaning s types m b h

  pub binary_good : (o : k.Operator) → Holds (binary_typed types at op_at o a b) (IsPlain s (1 + (n + m)))
  binary_good o = by (operated_in types o a b)
    where
      by : (x : Option Value) → Holds (binary_by types at op_at o a b x) (IsPlain s (1 + (n + m)))
      by None = of_fault _ _ _ _
      by (Some x) = of_value _ _ (value_plain s (1 + (n + m)) at _ _ _ (omega arith) (applied_meaning s types (read_in types a) (read_in types b) n m read_a read_b o (value_in types a) (value_in types b)))

  pub index_good : Holds (index_typed types at op_at a b) (IsPlain s (1 + (n + m)))
  index_good = by (operated_in types k.Plus a b)
    where
      by : (x : Option Value) → Holds (index_by types at op_at a b x) (IsPlain s (1 + (n + m)))
      by None = of_fault _ _ _ _
      by (Some (v.Integer j)) = of_fault _ _ _ _
      by (Some v.Struct) = of_fault _ _ _ _
      by (Some v.Void) = of_fault _ _ _ _
      by (Some (v.Pointer t)) = of_value _ _ (object_plain s (1 + (n + m)) at t _ _ (omega arith) (sum_meaning s types (read_in types a) (read_in types b) n m read_a read_b (value_in types a) (value_in types b)))

  pub choice_good : (c : Typed) (l : ℕ) → IsOperand s l c → Holds (choice_typed types at op_at c a b) (IsPlain s (1 + (l + (n + m))))
  choice_good c l f = by (on_kinds (joining types) (value_in types a) a.constant (value_in types b) b.constant)
    where
      by : (x : Option Value) → Holds (choice_by types at op_at c a b x) (IsPlain s (1 + (l + (n + m))))
      by None = of_fault _ _ _ _
      by (Some x) = of_unless (is_scalar_expression types c) _ _ _ _ (λ e. of_value _ _ (value_plain s (1 + (l + (n + m))) at _ _ _ (omega arith) (choice_meaning s (read_in types c) (as_value types x a) (as_value types x b) l n m (read_meaning s types l c f) (as_meaning s types n a g x) (as_meaning s types m b h x))))

-- ## Assignments

call_more : (s : Scene) (n m : ℕ) (f : Callee) (args : List Expression) → IsCall s n f args → n ≤ m → IsCall s m f args
call_more s n m f args h l =
    let w : callee_weight f + 3 * h.nodes + 3 ≤ 3 * n = h.weight in let g : callee_height f + h.nodes + 1 ≤ n = h.height in let q : h.nodes + 2 ≤ n = h.few in
    record { nodes = h.nodes; callee = h.callee; arguments = h.arguments; weight = omega arith; height = omega arith; few = omega arith }

module _ (s : Scene) (types : Types) (allowed : Allowed) (at op_at n m : ℕ) (a b : Typed) (g : IsOperand s n a) (h : IsOperand s m b) where
  source_good : (to : Value) (z : Deed) → IsDeed s m z → IsDeed s (1 + (n + m)) (AssignDeed a.meaning to (source_of types to b z))
  source_good to (CallDeed f args x) c =
      let w : expression_weight a.meaning + (1 + read_weight a.denoted) ≤ 3 * n = g.weight in let q : expression_height a.meaning ≤ n = g.height in
      let l : 1 ≤ n = g.some in let k : c.nodes + 2 ≤ m = c.few in
      (g.valid, call_more s m (1 + (n + m)) f args c (omega arith), omega arith, omega arith, omega arith)
  source_good to NoDeed c = plain_source to
    where
      plain_source : (to : Value) → IsDeed s (1 + (n + m)) (AssignDeed a.meaning to (FromValue (as_value types to b)))
      plain_source to =
          let r : IsMeaning s 0 m (as_value types to b) = as_meaning s types m b h to in
          let w : expression_weight a.meaning + (1 + read_weight a.denoted) ≤ 3 * n = g.weight in let q : expression_height a.meaning ≤ n = g.height in
          let u : expression_weight (as_value types to b) + 0 ≤ 3 * m = r.weight in let o : expression_height (as_value types to b) ≤ m = r.height in
          (g.valid, r.valid, omega arith, omega arith, omega arith)
  source_good to (AssignDeed c x e) z =
      let r : IsMeaning s 0 m (as_value types to b) = as_meaning s types m b h to in
      let w : expression_weight a.meaning + (1 + read_weight a.denoted) ≤ 3 * n = g.weight in let q : expression_height a.meaning ≤ n = g.height in
      let u : expression_weight (as_value types to b) + 0 ≤ 3 * m = r.weight in let o : expression_height (as_value types to b) ≤ m = r.height in
      (g.valid, r.valid, omega arith, omega arith, omega arith)
  source_good to (UpdateDeed c x o y e given) z =
      let r : IsMeaning s 0 m (as_value types to b) = as_meaning s types m b h to in
      let w : expression_weight a.meaning + (1 + read_weight a.denoted) ≤ 3 * n = g.weight in let q : expression_height a.meaning ≤ n = g.height in
      let u : expression_weight (as_value types to b) + 0 ≤ 3 * m = r.weight in let o : expression_height (as_value types to b) ≤ m = r.height in
      (g.valid, r.valid, omega arith, omega arith, omega arith)

  pub assign_good : Holds (assign_typed types allowed at op_at a b) (IsPlain s (1 + (n + m)))
  assign_good =
      of_unless (not (is_struct_expression types b)) _ _ _ _ (λ e1.
      of_unless (is_scalar_object types a.denoted) _ _ _ _ (λ e2.
      of_unless (not (is_scalar_object types a.denoted) || is_struct_expression types b || converts_to types (value_in types a) b) _ _ _ _ (λ e3.
      of_unless (may_stand allowed false) _ _ _ _ (λ e4.
      of_value _ _ (deed_plain s (1 + (n + m)) at (value_in types a) _ (omega arith) (source_good (value_in types a) b.deed h.deed))))))

-- an update by a value of this weight and height
pub update_good : (s : Scene) (types : Types) (allowed : Allowed) (at op_at n : ℕ) (o : k.Operator) (a b : Typed) → IsValid s a.meaning → IsValid s (read_in types b) → expression_weight a.meaning + expression_weight (read_in types b) ≤ 3 * n → expression_height a.meaning ≤ n → expression_height (read_in types b) + 1 ≤ n → 2 ≤ n → Holds (update_typed types allowed at op_at o a b) (IsPlain s n)
update_good s types allowed at op_at n o a b va vb w ha hb l =
    of_unless (keeps_kind (operated_in types o a b) (value_in types a)) _ _ _ _ (λ e1.
    of_unless (is_scalar_object types a.denoted) _ _ _ _ (λ e2.
    of_unless (may_stand allowed false) _ _ _ _ (λ e3.
    of_value _ _ (deed_plain s n at (value_in types a) _ (omega arith) (va, vb, w, ha, hb, l)))))

pub assigned_good : (s : Scene) (types : Types) (allowed : Allowed) (at op_at n m : ℕ) (o : Option k.Operator) (a b : Typed) → IsOperand s n a → IsOperand s m b → Holds (assigned_by types allowed at op_at o a b) (IsPlain s (1 + (n + m)))
assigned_good s types allowed at op_at n m None a b g h = assign_good s types allowed at op_at n m a b g h
assigned_good s types allowed at op_at n m (Some o) a b g h =
    let r : IsMeaning s 1 m (read_in types b) = read_meaning s types m b h in
    let wa : expression_weight a.meaning + (1 + read_weight a.denoted) ≤ 3 * n = g.weight in let ha : expression_height a.meaning ≤ n = g.height in
    let wb : expression_weight (read_in types b) + 1 ≤ 3 * m = r.weight in let hb : expression_height (read_in types b) ≤ m = r.height in
    let la : 1 ≤ n = g.some in let lb : 1 ≤ m = h.some in
    update_good s types allowed at op_at (1 + (n + m)) o a b g.valid r.valid (omega arith) (omega arith) (omega arith) (omega arith)

pub step_good : (s : Scene) (types : Types) (allowed : Allowed) (at op_at n : ℕ) (i : k.Increment) (a : Typed) → IsOperand s n a → Holds (step_typed types allowed at op_at i a) (IsPlain s (1 + n))
step_good s types allowed at op_at n i a g =
    let wa : expression_weight a.meaning + (1 + read_weight a.denoted) ≤ 3 * n = g.weight in let ha : expression_height a.meaning ≤ n = g.height in
    let la : 1 ≤ n = g.some in
    update_good s types allowed at op_at (1 + n) (step_operator i) a (one_at at) g.valid tt (omega arith) (omega arith) (omega arith) (omega arith)
