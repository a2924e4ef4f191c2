-- The trees of C files without pointers (ISO C99 6.5 to 6.9, a profile): what contracts speak of. A node has the place of its first token, and that of its operator where one stands behind the first operand; parentheses and the commas, braces and semicolons between parts are no nodes.
use Rattle.std.specs.Prelude.{List, Option}
use Rattle.c_grammar.specs.Tokens.{Identifier, Place, Number, Operator, AssignmentOperator, Increment, Access, TypeWord, Qualifier, StorageClass, CompositeWord, Jump}

-- the tag of a struct, union or enum, or none
pub data TagTree : Type 0 where
  untagged : TagTree
  tagged : Place → Identifier → TagTree

mutual
  -- an expression: a[i], f(xs), e.x, e++, ++e, -e, sizeof e, sizeof (t), (t) e, a + b, c ? a : b, a = b
  pub data ExprTree : Type 0 where
    name_expr : Place → Identifier → ExprTree
    constant_expr : Place → Number → ExprTree
    index_expr : Place → Place → ExprTree → ExprTree → ExprTree
    call_expr : Place → Place → ExprTree → ExprTrees → ExprTree
    member_expr : Place → Place → ExprTree → Access → Place → Identifier → ExprTree
    step_after_expr : Place → Place → ExprTree → Increment → ExprTree
    step_before_expr : Place → Increment → ExprTree → ExprTree
    unary_expr : Place → Operator → ExprTree → ExprTree
    sizeof_expr : Place → ExprTree → ExprTree
    sizeof_type_expr : Place → TypeTree → ExprTree
    cast_expr : Place → TypeTree → ExprTree → ExprTree
    binary_expr : Place → Place → Operator → ExprTree → ExprTree → ExprTree
    cond_expr : Place → Place → ExprTree → ExprTree → ExprTree → ExprTree
    assign_expr : Place → Place → AssignmentOperator → ExprTree → ExprTree → ExprTree

  pub data ExprTrees : Type 0 where
    no_exprs : ExprTrees
    exprs : ExprTree → ExprTrees → ExprTrees

  -- an expression that may be left out: the length of an array, the value of an enumerator
  pub data MaybeTree : Type 0 where
    left_out : MaybeTree
    stated : ExprTree → MaybeTree

  -- a type name: specifiers and a declarator without a name
  pub data TypeTree : Type 0 where
    type_tree : Place → SpecifierTrees → DeclaratorTree → TypeTree

  pub data SpecifierTree : Type 0 where
    storage_specifier : Place → StorageClass → SpecifierTree
    qualifier_specifier : Place → Qualifier → SpecifierTree
    inline_specifier : Place → SpecifierTree
    -- the words of one type
    words_specifier : Place → List TypeWord → SpecifierTree
    typedef_specifier : Place → Identifier → SpecifierTree
    reference_specifier : Place → CompositeWord → Place → Identifier → SpecifierTree
    -- with the place of the `{`
    composite_specifier : Place → CompositeWord → TagTree → Place → MemberTrees → SpecifierTree
    enum_reference_specifier : Place → Place → Identifier → SpecifierTree
    enum_specifier : Place → TagTree → Place → EnumeratorTrees → SpecifierTree

  pub data SpecifierTrees : Type 0 where
    no_specs : SpecifierTrees
    specs : SpecifierTree → SpecifierTrees → SpecifierTrees

  -- one declaration of members
  pub data MemberTrees : Type 0 where
    no_member_trees : MemberTrees
    member_trees : Place → SpecifierTrees → DeclaratorTrees → MemberTrees → MemberTrees

  pub data EnumeratorTrees : Type 0 where
    no_enumerator_trees : EnumeratorTrees
    enumerator_trees : Place → Identifier → MaybeTree → EnumeratorTrees → EnumeratorTrees

  -- a declarator, with a name or without: what it declares, from the outermost on
  pub data DeclaratorTree : Type 0 where
    unnamed : DeclaratorTree
    named : Place → Identifier → DeclaratorTree
    pointer_to : List Qualifier → DeclaratorTree → DeclaratorTree
    array_of : DeclaratorTree → MaybeTree → DeclaratorTree
    function_of : DeclaratorTree → ParameterTrees → DeclaratorTree

  pub data DeclaratorTrees : Type 0 where
    no_declarator_trees : DeclaratorTrees
    declarator_trees : DeclaratorTree → DeclaratorTrees → DeclaratorTrees

  -- the parameters of a function; the list `void` is empty
  pub data ParameterTrees : Type 0 where
    no_parameter_trees : ParameterTrees
    parameter_trees : Place → SpecifierTrees → DeclaratorTree → ParameterTrees → ParameterTrees

-- an initializer, or none
pub data InitializerTree : Type 0 where
  no_init : InitializerTree
  value_init : ExprTree → InitializerTree
  -- with the place of the `{`
  list_init : Place → ExprTrees → InitializerTree

pub data InitDeclaratorTree : Type 0 where
  init_tree : DeclaratorTree → InitializerTree → InitDeclaratorTree

-- a declaration
pub data DeclTree : Type 0 where
  decl_tree : Place → SpecifierTrees → List InitDeclaratorTree → DeclTree

-- the first part of a `for`
pub data ForFirstTree : Type 0 where
  first_nothing : ForFirstTree
  first_expr : ExprTree → ForFirstTree
  first_decl : DeclTree → ForFirstTree

-- a label of a `switch`
pub data LabelTree : Type 0 where
  case_tree : Place → ExprTree → LabelTree
  default_tree : Place → LabelTree

mutual
  -- a statement
  pub data StmtTree : Type 0 where
    block_stmt : Place → ItemTrees → StmtTree
    empty_stmt : Place → StmtTree
    expr_stmt : Place → ExprTree → StmtTree
    if_stmt : Place → ExprTree → StmtTree → StmtTree
    if_else_stmt : Place → ExprTree → StmtTree → StmtTree → StmtTree
    while_stmt : Place → ExprTree → StmtTree → StmtTree
    do_stmt : Place → StmtTree → ExprTree → StmtTree
    for_stmt : Place → ForFirstTree → Option ExprTree → Option ExprTree → StmtTree → StmtTree
    switch_stmt : Place → ExprTree → GroupTrees → StmtTree
    jump_stmt : Place → Jump → StmtTree
    return_stmt : Place → Option ExprTree → StmtTree

  -- what stands in a block or behind the labels of a group
  pub data ItemTrees : Type 0 where
    no_item_trees : ItemTrees
    decl_item : DeclTree → ItemTrees → ItemTrees
    stmt_item : StmtTree → ItemTrees → ItemTrees

  -- the groups of a `switch`: labels and what follows them
  pub data GroupTrees : Type 0 where
    no_group_trees : GroupTrees
    group_trees : List LabelTree → ItemTrees → GroupTrees → GroupTrees

-- what stands in a file: a declaration, or a function definition with the place of its `{`
pub data ExternalTree : Type 0 where
  decl_external : DeclTree → ExternalTree
  function_external : Place → SpecifierTrees → DeclaratorTree → Place → ItemTrees → ExternalTree

-- a file
abbrev pub FileTree : Type 0
FileTree = List ExternalTree
