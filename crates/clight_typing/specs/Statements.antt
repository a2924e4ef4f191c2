-- The faults and the meaning of statements, in the order of the file. What a statement does is kept as a tree without types and names: locals stand in it by their number, as if all were in memory.
use Rattle.std.specs.Prelude.{ℕ, ◌==◌, Bool, true, false, ◌&&◌, ◌||◌, not, List, [], ◌∷◌, ◌++◌, length, Option, Some, None}
use Rattle.std.specs.List.{list_any}
use Rattle.c_grammar.specs.Tokens as k
use Rattle.c_tree.specs.Trees.{ExprTree, DeclaratorTree, InitializerTree, no_init, value_init, list_init, InitDeclaratorTree, init_tree, DeclTree, decl_tree, ForFirstTree, first_nothing, first_expr, first_decl, LabelTree, case_tree, default_tree, StmtTree, block_stmt, empty_stmt, expr_stmt, if_stmt, if_else_stmt, while_stmt, do_stmt, for_stmt, switch_stmt, jump_stmt, return_stmt, ItemTrees, no_item_trees, decl_item, stmt_item, GroupTrees, no_group_trees, group_trees}
use Rattle.clight_lang.specs.Syntax.{Expression, LocalAddr}
use Rattle.clight_types.specs.declared.kind.Integer.TheVariants as i
use Rattle.clight_types.specs.declared.kind.Value.{Value}
use Rattle.clight_types.specs.declared.kind.Constant.{Constant}
use Rattle.clight_types.specs.declared.kind.Constant.TheVariants as constant
use Rattle.clight_types.specs.declared.rule.Rule.TheVariants as rule
use Rattle.clight_types.specs.Judged.{Judged, value, fault, and_then, unless}
use Rattle.clight_types.specs.Types.{Types, value_at, is_scalar, is_struct, is_function, is_incomplete, is_void, integer_type}
use Rattle.clight_types.specs.Conversions.{is_integer_value}
use Rattle.clight_scopes.specs.Scopes.{Scene, opened, closed, with_types, with_block_name, with_local, is_in_first}
use Rattle.clight_types.specs.Types.{Spelling}
use Rattle.clight_calls.specs.Builtins.{is_builtin_name}
use Rattle.clight_operands.specs.Operands.{NoEffect, CallAllowed, EffectAllowed, Typed, Callee, Deed, NoDeed, CallDeed, AssignDeed, read_in, value_in, as_value, converts_to, source_of, is_struct_expression, is_scalar_expression}
use Rattle.clight_types.specs.Declarators.{Built, built_type, type_or}
use Rattle.clight_typing.specs.Typing.{typed, typed_all, specified, declared, declared_name, declared_at, name_or_empty, base_of}

mutual
  -- what a statement does
  pub data Made : Type 0 where
    NothingMade : Made
    -- an expression whose value is not used
    EvaluatedMade : Expression → Made
    DeedMade : Deed → Made
    BlockMade : MadeList → Made
    BranchMade : Expression → Made → Made → Made
    WhileMade : Expression → Made → Made
    DoMade : Made → Expression → Made
    -- the first part, the condition, the third part, the body
    ForMade : MadeList → Option Expression → Made → Made → Made
    SwitchMade : Expression → MadeGroups → Made
    BreakMade : Made
    ContinueMade : Made
    ReturnMade : Option Expression → Made
    -- the value of a call, of one type, as one of another
    ReturnCallMade : Callee → List Expression → Value → Value → Made

  pub data MadeList : Type 0 where
    NoMade : MadeList
    AndMade : Made → MadeList → MadeList

  -- the numbers of a group, whether it is the default, and its statements
  pub data MadeGroups : Type 0 where
    NoGroups : MadeGroups
    AndGroup : List ℕ → Bool → MadeList → MadeGroups → MadeGroups

-- what stands around a statement: the type of its function's result, and whether `break` and `continue` have something to leave
pub record Around : Type 0 where
  pub result : ℕ
  pub breaks : Bool
  pub continues : Bool

abbrev pub in_loop : Around → Around
in_loop a = record { result = a.result; breaks = true; continues = true }

abbrev pub in_switch : Around → Around
in_switch a = record { result = a.result; breaks = true; continues = a.continues }

abbrev pub joined : MadeList → MadeList → MadeList
joined NoMade l = l
joined (AndMade m ms) l = AndMade m (joined ms l)

abbrev pub alone : Made → MadeList
alone m = AndMade m NoMade

-- ## Local declarations

abbrev pub local_type : Built → ℕ
local_type b = type_or b.type (integer_type i.Int)

abbrev pub is_taken_local : Scene → Spelling → Bool
is_taken_local s name = is_in_first name s.blocks || is_builtin_name name

-- one local more, and its number
abbrev pub local_added : Scene → Spelling → ℕ → Scene × ℕ
local_added s name t = (with_local (with_block_name s name t (Some (length s.locals))) t, length s.locals)

-- a declarator in a block; the place of a function's declaration is that of the whole declaration
abbrev pub local_judged : Scene → ℕ → ℕ → Spelling → Built → Judged (Scene × ℕ)
local_judged s first_at at name b =
    unless (not (is_taken_local s name)) rule.DefinedTwice at
    (unless (not b.has_incomplete && not (is_incomplete b.types (local_type b))) rule.Incomplete at
    (unless (not b.is_wrong) rule.ArrayOrFunction at
    (unless (not b.is_large) rule.LargeType at
    (unless (not b.gives_struct) rule.StructValue at
    (unless (not (is_function b.types (local_type b))) rule.InBlock first_at
    (value (local_added (with_types s b.types) name (local_type b))))))))

-- a value that initializes a local
abbrev pub local_value_judged : Scene → ℕ → ℕ → Typed → Judged (Scene × MadeList)
local_value_judged s t n e =
    unless (not (is_struct_expression s.types e) && not (is_struct s.types t)) rule.StructValue e.at
    (unless (is_struct_expression s.types e || is_struct s.types t || is_scalar s.types t && converts_to s.types (value_at s.types t) e) rule.NeedsCast e.at
    (value (s, alone (DeedMade (AssignDeed (LocalAddr n) (value_at s.types t) (source_of s.types (value_at s.types t) e e.deed))))))

abbrev pub local_initialized : Scene → ℕ → ℕ → InitializerTree → Judged (Scene × MadeList)
local_initialized s t n no_init = value (s, NoMade)
local_initialized s t n (value_init e) = and_then (typed CallAllowed false s e) (λ r. local_value_judged r.0 t n r.1)
local_initialized s t n (list_init at es) = and_then (typed_all s es) (λ r. fault rule.Initializer at (value (r.0, NoMade)))

abbrev pub type_of_local : Scene → ℕ → List ℕ → ℕ
type_of_local s n [] = integer_type i.Int
type_of_local s n (t ∷ ts) = t

abbrev pub local_declared : Scene → ℕ → ℕ → DeclaratorTree → InitializerTree → Judged (Scene × MadeList)
local_declared s first_at base d x =
    and_then (declared s false d) (λ r.
    let b = built_type r.0.types base r.1 in
    and_then (local_judged r.0 first_at (declared_at d first_at) (name_or_empty (declared_name d)) b) (λ q.
    local_initialized q.0 (local_type b) q.1 x))

abbrev pub locals_declared : Scene → ℕ → ℕ → List InitDeclaratorTree → Judged (Scene × MadeList)
locals_declared s at base [] = value (s, NoMade)
locals_declared s at base (init_tree d x ∷ ds) = and_then (local_declared s at base d x) (λ r. and_then (locals_declared r.0 at base ds) (λ q. value (q.0, joined r.1 q.1)))

-- a declaration in a block: what its initializers do
abbrev pub decl_judged : Scene → DeclTree → Judged (Scene × MadeList)
decl_judged s (decl_tree at ss ds) = and_then (specified s None ss) (λ r. locals_declared r.0 at (base_of r.1) ds)

-- ## Expressions in statements

abbrev pub statement_made : Types → Typed → Deed → Made
statement_made types e NoDeed = EvaluatedMade (read_in types e)
statement_made types e deed = DeedMade deed

-- `e;`, and the first and third part of a `for`: any effect, and no struct
abbrev pub effect_judged : Scene → ExprTree → Judged (Scene × Made)
effect_judged s e = and_then (typed EffectAllowed false s e) (λ r. unless (not (is_struct_expression r.0.types r.1)) rule.StructValue r.1.at (value (r.0, statement_made r.0.types r.1 r.1.deed)))

abbrev pub condition_judged : Scene → ExprTree → Judged (Scene × Expression)
condition_judged s e = and_then (typed NoEffect false s e) (λ r. unless (is_scalar_expression r.0.types r.1) rule.Condition r.1.at (value (r.0, read_in r.0.types r.1)))

abbrev pub optional_condition : Scene → Option ExprTree → Judged (Scene × Option Expression)
optional_condition s None = value (s, None)
optional_condition s (Some e) = and_then (condition_judged s e) (λ r. value (r.0, Some r.1))

abbrev pub optional_effect : Scene → Option ExprTree → Judged (Scene × Made)
optional_effect s None = value (s, NothingMade)
optional_effect s (Some e) = effect_judged s e

abbrev pub first_judged : Scene → ForFirstTree → Judged (Scene × MadeList)
first_judged s first_nothing = value (s, alone NothingMade)
first_judged s (first_expr e) = and_then (effect_judged s e) (λ r. value (r.0, alone r.1))
first_judged s (first_decl d) = decl_judged s d

abbrev pub selector_judged : Scene → ExprTree → Judged (Scene × Expression)
selector_judged s e = and_then (typed NoEffect false s e) (λ r. unless (is_integer_value (value_in r.0.types r.1)) rule.Label r.1.at (value (r.0, read_in r.0.types r.1)))

-- ## `return` (6.8.6.4)

abbrev pub return_made : Types → ℕ → Typed → Deed → Made
return_made types t e (CallDeed f args x) = ReturnCallMade f args x (value_at types t)
return_made types t e _ = ReturnMade (Some (as_value types (value_at types t) e))

abbrev pub value_returned : Types → ℕ → ℕ → Typed → Judged Made
value_returned types at t e =
    unless (not (is_struct_expression types e)) rule.StructValue e.at
    (unless (is_void types t || is_struct_expression types e || converts_to types (value_at types t) e) rule.NeedsCast e.at
    (unless (not (is_void types t)) rule.Return at
    (value (return_made types t e e.deed))))

abbrev pub return_judged : Scene → ℕ → ℕ → Option ExprTree → Judged (Scene × Made)
return_judged s at t None = unless (is_void s.types t) rule.Return at (value (s, ReturnMade None))
return_judged s at t (Some e) = and_then (typed CallAllowed false s e) (λ r. and_then (value_returned r.0.types at t r.1) (λ m. value (r.0, m)))

-- ## Labels (6.8.4.2)

-- the numbers of the switch so far, those of the group, and whether there was a default, and is one
pub record Labels : Type 0 where
  pub seen : List ℕ
  pub numbers : List ℕ
  pub has_default : Bool
  pub is_default : Bool

abbrev pub new_group : Labels → Labels
new_group l = record { seen = l.seen; numbers = []; has_default = l.has_default; is_default = false }

abbrev pub is_new : List ℕ → Constant → Bool
is_new seen (constant.Known w) = not (list_any (λ x. x == w) seen)
is_new seen _ = false

abbrev pub with_number : Labels → Constant → Labels
with_number l (constant.Known w) = record { seen = l.seen ++ w ∷ []; numbers = l.numbers ++ w ∷ []; has_default = l.has_default; is_default = l.is_default }
with_number l _ = l

abbrev pub with_default : Labels → Labels
with_default l = record { seen = l.seen; numbers = l.numbers; has_default = true; is_default = true }

abbrev pub label_judged : Scene → Labels → LabelTree → Judged (Scene × Labels)
label_judged s l (case_tree at e) = and_then (typed NoEffect false s e) (λ r. unless (is_new l.seen r.1.constant) rule.Label at (value (r.0, with_number l r.1.constant)))
label_judged s l (default_tree at) = unless (not l.has_default) rule.Label at (value (s, with_default l))

abbrev pub labels_judged : Scene → Labels → List LabelTree → Judged (Scene × Labels)
labels_judged s l [] = value (s, l)
labels_judged s l (x ∷ xs) = and_then (label_judged s l x) (λ r. labels_judged r.0 r.1 xs)

abbrev pub no_labels : Labels
no_labels = record { seen = []; numbers = []; has_default = false; is_default = false }

-- ## Statements (6.8)

abbrev pub jump_judged : Around → k.Jump → ℕ → Judged Made
jump_judged a k.Break at = unless a.breaks rule.Jump at (value BreakMade)
jump_judged a k.Continue at = unless a.continues rule.Jump at (value ContinueMade)

abbrev mutual
  pub stmt_judged : Around → Scene → StmtTree → Judged (Scene × Made)
  stmt_judged a s (block_stmt at is) = and_then (items_judged a (opened s) is) (λ r. value (closed r.0, BlockMade r.1))
  stmt_judged a s (empty_stmt at) = value (s, NothingMade)
  stmt_judged a s (expr_stmt at e) = effect_judged s e
  stmt_judged a s (if_stmt at e x) = and_then (condition_judged s e) (λ r. and_then (stmt_judged a r.0 x) (λ q. value (q.0, BranchMade r.1 q.1 NothingMade)))
  stmt_judged a s (if_else_stmt at e x y) = and_then (condition_judged s e) (λ r. and_then (stmt_judged a r.0 x) (λ q. and_then (stmt_judged a q.0 y) (λ p. value (p.0, BranchMade r.1 q.1 p.1))))
  stmt_judged a s (while_stmt at e x) = and_then (condition_judged s e) (λ r. and_then (stmt_judged (in_loop a) r.0 x) (λ q. value (q.0, WhileMade r.1 q.1)))
  stmt_judged a s (do_stmt at x e) = and_then (stmt_judged (in_loop a) s x) (λ q. and_then (condition_judged q.0 e) (λ r. value (r.0, DoMade q.1 r.1)))
  stmt_judged a s (for_stmt at f c u x) =
      and_then (first_judged (opened s) f) (λ p. and_then (optional_condition p.0 c) (λ q. and_then (optional_effect q.0 u) (λ r.
      and_then (stmt_judged (in_loop a) r.0 x) (λ o. value (closed o.0, ForMade p.1 q.1 r.1 o.1)))))
  stmt_judged a s (switch_stmt at e gs) = and_then (selector_judged s e) (λ r. and_then (groups_judged (in_switch a) (opened r.0) no_labels gs) (λ q. value (closed q.0, SwitchMade r.1 q.1)))
  stmt_judged a s (jump_stmt at j) = and_then (jump_judged a j at) (λ m. value (s, m))
  stmt_judged a s (return_stmt at e) = return_judged s at a.result e

  pub items_judged : Around → Scene → ItemTrees → Judged (Scene × MadeList)
  items_judged a s no_item_trees = value (s, NoMade)
  items_judged a s (decl_item d is) = and_then (decl_judged s d) (λ r. and_then (items_judged a r.0 is) (λ q. value (q.0, joined r.1 q.1)))
  items_judged a s (stmt_item x is) = and_then (stmt_judged a s x) (λ r. and_then (items_judged a r.0 is) (λ q. value (q.0, AndMade r.1 q.1)))

  pub groups_judged : Around → Scene → Labels → GroupTrees → Judged (Scene × MadeGroups)
  groups_judged a s l no_group_trees = value (s, NoGroups)
  groups_judged a s l (group_trees ls is gs) =
      and_then (labels_judged s (new_group l) ls) (λ r. and_then (items_judged a r.0 is) (λ q.
      and_then (groups_judged a q.0 r.1 gs) (λ p. value (p.0, AndGroup r.1.numbers r.1.is_default q.1 p.1))))
