-- What holds of each program that is made from a file: what the passes behind it rest on (the bounds are of this project; a file's typing gives the rest).
use Rattle.std.specs.Prelude.{◌≡◌, ◌≢◌, ℕ, zero, suc, ◌+◌, ◌*◌, ◌<◌, ◌≤◌, Bool, true, false, List, [], ◌∷◌, ◌++◌, length, map, All, AllPairs, Contains, Option, Some, None, slice_get, sum_by, count_by, max, ◌⊎◌}
use Rattle.tso_core.specs.Systems.{Names, GlobalsOf}
use Rattle.clight_lang.specs.declared.function.Local.{Local}
use Rattle.clight_lang.specs.declared.function.Taken.{Taken}
use Rattle.clight_lang.specs.declared.function.Kept.{Kept}
use Rattle.clight_lang.specs.declared.statement.Builtin as BuiltinOf
use Rattle.clight_lang.specs.declared.statement.Builtin.TheVariants as B
use Rattle.clight_lang.specs.declared.program.TheConstants.{GROWTH}
use Rattle.clight_lang.specs.Syntax.{Expression, Const, Temp, LocalAddr, GlobalAddr, Read, Unary, Binary, AndAlso, OrElse, Choose, GroupOf, Statement, Statements, Nil, Cons, Skip, Set, Store, Call, External, Builtin, Block, If, Loop, Switch, Break, Continue, Return}
use Rattle.clight_lang.specs.State.{FunctionOf}
use Rattle.clight_lang.specs.Rules.{expressions_of, main_name}
use Rattle.clight_lang.specs.Meaning.{ExternalOf, ProgramOf}
use Rattle.clight_lang.specs.Placed.{IsAlignment, AreWithin}

-- the weight of an expression: a conditional one counts what stands for it further below
abbrev pub expression_weight : Expression → ℕ
expression_weight (Const n) = 1
expression_weight (Temp i) = 1
expression_weight (LocalAddr i) = 1
expression_weight (GlobalAddr x) = 1
expression_weight (Read c a) = 1 + expression_weight a
expression_weight (Unary op a) = 1 + expression_weight a
expression_weight (Binary op a b) = 1 + (expression_weight a + expression_weight b)
expression_weight (AndAlso a b) = 4 + (expression_weight a + expression_weight b)
expression_weight (OrElse a b) = 4 + (expression_weight a + expression_weight b)
expression_weight (Choose c a b) = 2 + (expression_weight c + (expression_weight a + expression_weight b))

abbrev pub expressions_weight : List Expression → ℕ
expressions_weight es = sum_by expression_weight es

abbrev pub result_weight : Option Expression → ℕ
result_weight None = 0
result_weight (Some e) = expression_weight e

-- the case numbers of a switch
abbrev pub numbers_in : List GroupOf → ℕ
numbers_in groups = sum_by (λ g. length g.numbers) groups

-- the weight of a statement: a call counts its arguments once more, a switch its numbers
abbrev mutual
  pub statement_weight : Statement → ℕ
  statement_weight Skip = 1
  statement_weight (Set t e) = 1 + expression_weight e
  statement_weight (Store c a e) = 1 + (expression_weight a + expression_weight e)
  statement_weight (Call t type f args) = 1 + (length args + (expression_weight f + expressions_weight args))
  statement_weight (External t name type args) = 1 + (length args + expressions_weight args)
  statement_weight (Builtin t b args) = 1 + (length args + expressions_weight args)
  statement_weight (Block l) = 1 + statements_weight l
  statement_weight (If e a b) = 1 + (expression_weight e + (statement_weight a + statement_weight b))
  statement_weight (Loop a b) = 1 + (statement_weight a + statement_weight b)
  statement_weight (Switch e groups l) = 1 + (numbers_in groups + (expression_weight e + statements_weight l))
  statement_weight Break = 1
  statement_weight Continue = 1
  statement_weight (Return e) = 1 + result_weight e

  pub statements_weight : Statements → ℕ
  statements_weight Nil = 0
  statements_weight (Cons s l) = statement_weight s + statements_weight l

-- the weight of a function: its body, and two for each parameter
abbrev pub function_weight : FunctionOf → ℕ
function_weight f = 1 + (statements_weight f.body + 2 * f.parameters)

-- the greatest height of a stack of values while an expression is evaluated from left to right, its value included
abbrev pub expression_height : Expression → ℕ
expression_height (Const n) = 1
expression_height (Temp i) = 1
expression_height (LocalAddr i) = 1
expression_height (GlobalAddr x) = 1
expression_height (Read c a) = expression_height a
expression_height (Unary op a) = expression_height a
expression_height (Binary op a b) = max (expression_height a) (1 + expression_height b)
expression_height (AndAlso a b) = max (expression_height a) (expression_height b)
expression_height (OrElse a b) = max (expression_height a) (expression_height b)
expression_height (Choose c a b) = max (expression_height c) (max (expression_height a) (expression_height b))

-- of expressions above so many values
abbrev pub heights_above : ℕ → List Expression → ℕ
heights_above n [] = 0
heights_above n (e ∷ es) = max (n + expression_height e) (heights_above (n + 1) es)

abbrev mutual
  pub statement_height : Statement → ℕ
  statement_height (Block l) = statements_height l
  statement_height (If e a b) = max (expression_height e) (max (statement_height a) (statement_height b))
  statement_height (Loop a b) = max (statement_height a) (statement_height b)
  statement_height (Switch e groups l) = max (expression_height e) (statements_height l)
  statement_height Skip = 0
  statement_height Break = 0
  statement_height Continue = 0
  statement_height (Set t e) = heights_above 0 (expressions_of (Set t e))
  statement_height (Store c a e) = heights_above 0 (expressions_of (Store c a e))
  statement_height (Call t type f args) = heights_above 0 (expressions_of (Call t type f args))
  statement_height (External t name type args) = heights_above 0 args
  statement_height (Builtin t b args) = heights_above 0 args
  statement_height (Return e) = heights_above 0 (expressions_of (Return e))

  pub statements_height : Statements → ℕ
  statements_height Nil = 0
  statements_height (Cons s l) = max (statement_height s) (statements_height l)

-- how many arguments a builtin takes
abbrev pub builtin_arguments : BuiltinOf.Builtin → ℕ
builtin_arguments B.ThreadCreate = 2
builtin_arguments B.Fence = 0
builtin_arguments B.AtomicCas = 3
builtin_arguments B.AtomicAdd = 2
builtin_arguments B.AtomicXchg = 2
builtin_arguments B.Malloc = 1
builtin_arguments B.Free = 1
builtin_arguments B.Exit = 1

abbrev pub count_statements : Statements → ℕ
count_statements Nil = 0
count_statements (Cons s l) = 1 + count_statements l

-- a default, and a number in at most one group
abbrev pub default_count : List GroupOf → ℕ
default_count groups = count_by (λ g. g.is_default) groups

abbrev pub all_numbers : List GroupOf → List ℕ
all_numbers [] = []
all_numbers (g ∷ groups) = g.numbers ++ all_numbers groups

pub record AreGroups (groups : List GroupOf) (l : Statements) : Type 0 where
  pub numbers_differ : AllPairs (λ a b. a ≢ b) (all_numbers groups)
  pub one_default : default_count groups ≤ 1
  pub in_order : AllPairs (λ g h. g.from ≤ h.from) groups
  pub within : All (λ g. g.from ≤ count_statements l) groups

-- the name is that of a global or a defined function
abbrev pub IsDefined : GlobalsOf → Names → Type 0
IsDefined g x = Contains g.functions x ⊎ Contains (map (λ o. o.0) g.objects) x

module _ (p : ProgramOf) (f : FunctionOf) where
  -- the temporaries, locals and names of an expression are there
  abbrev pub IsExpression : Expression → Type 0
  IsExpression (Const n) = Unit {0}
  IsExpression (Temp i) = i < f.temps
  IsExpression (LocalAddr i) = i < length f.locals
  IsExpression (GlobalAddr x) = IsDefined p.globals x
  IsExpression (Read c a) = IsExpression a
  IsExpression (Unary op a) = IsExpression a
  IsExpression (Binary op a b) = IsExpression a × IsExpression b
  IsExpression (AndAlso a b) = IsExpression a × IsExpression b
  IsExpression (OrElse a b) = IsExpression a × IsExpression b
  IsExpression (Choose c a b) = IsExpression c × (IsExpression a × IsExpression b)

  -- arguments of a call: as many as the type has parameters, and no more than the function has nodes
  pub record AreArguments (type : ℕ) (args : List Expression) : Type 0 where
    pub typed : slice_get p.types type ≡ Some (length args)
    pub few : length args ≤ f.room.nodes
    pub each : All IsExpression args

  abbrev pub IsResult : Option Expression → Type 0
  IsResult None = Unit {0}
  IsResult (Some e) = IsExpression e

  -- a Break stands in a loop or a switch, and a Continue in the first part of a loop
  abbrev mutual
    pub IsStatement : Bool → Bool → Statement → Type 0
    IsStatement breaks continues Skip = Unit {0}
    IsStatement breaks continues (Set t e) = (t < f.temps) × IsExpression e
    IsStatement breaks continues (Store c a e) = IsExpression a × IsExpression e
    IsStatement breaks continues (Call t type g args) = (t < f.temps) × (IsExpression g × AreArguments type args)
    IsStatement breaks continues (External t name type args) = (t < f.temps) × (Contains p.externals (record { name = name; function_type = type }) × AreArguments type args)
    IsStatement breaks continues (Builtin t b args) = (t < f.temps) × ((length args ≡ builtin_arguments b) × All IsExpression args)
    IsStatement breaks continues (Block l) = AreStatements breaks continues l
    IsStatement breaks continues (If e a b) = IsExpression e × (IsStatement breaks continues a × IsStatement breaks continues b)
    IsStatement breaks continues (Loop a b) = IsStatement true true a × IsStatement true false b
    IsStatement breaks continues (Switch e groups l) = IsExpression e × (AreGroups groups l × AreStatements true continues l)
    IsStatement breaks continues Break = breaks ≡ true
    IsStatement breaks continues Continue = continues ≡ true
    IsStatement breaks continues (Return e) = IsResult e

    pub AreStatements : Bool → Bool → Statements → Type 0
    AreStatements breaks continues Nil = Unit {0}
    AreStatements breaks continues (Cons s l) = IsStatement breaks continues s × AreStatements breaks continues l

-- a function: its parameters are each taken or kept once, its type fits, and its room bounds what it has
pub record IsFunction (p : ProgramOf) (f : FunctionOf) : Type 0 where
  pub typed : slice_get p.types f.function_type ≡ Some f.parameters
  pub arguments : (k : ℕ) → k < f.parameters → Contains (map (λ t. t.argument) f.taken ++ map (λ k. k.argument) f.kept) k
  pub each_once : AllPairs (λ a b. a ≢ b) (map (λ t. t.argument) f.taken ++ map (λ k. k.argument) f.kept)
  pub as_many : length f.taken + length f.kept ≡ f.parameters
  pub taken : All (λ t. t.temp < f.temps) f.taken
  pub taken_apart : AllPairs (λ s t. s.temp ≢ t.temp) f.taken
  -- the parameters in memory are the first locals, in order
  pub kept : (i : ℕ) (k : Kept) → slice_get f.kept i ≡ Some k → (k.local ≡ i) × (i < length f.locals)
  pub sizes : All (λ l. (1 ≤ l.size) × (IsAlignment l.align)) f.locals
  pub few_temps : f.temps ≤ 5 * f.room.nodes
  pub few_nodes : f.room.nodes ≤ 8000
  pub height : statements_height f.body ≤ f.room.nodes
  pub weight : function_weight f ≤ GROWTH * f.room.nodes
  pub body : AreStatements p f false false f.body
  pub needed : f.room.needed + 64 * f.room.nodes + 56 ≤ f.room.stated + 16 * f.room.nodes
  pub holds : sum_by (λ l. l.size) f.locals + 4 * f.temps ≤ f.room.needed

-- a program: within the counts, its names consistent, and each function made well
pub record IsWellMade (p : ProgramOf) : Type 0 where
  pub globals : AreWithin p.globals
  pub few_functions : length p.functions ≤ 4096
  pub named : p.globals.functions ≡ map (λ f. f.name) p.functions
  pub main : Contains p.functions p.main
  pub main_named : p.main.name ≡ main_name
  pub main_has_none : p.main.parameters ≡ 0
  pub thread_type : (t : ℕ) → p.thread_type ≡ Some t → slice_get p.types t ≡ Some 1
  pub each : All (IsFunction p) p.functions
  pub externals : All (λ x. (length x.name ≤ 127) × (IsDefined p.globals x.name → ⊥)) p.externals
  pub externals_differ : AllPairs (λ x y. x.name ≢ y.name) p.externals
