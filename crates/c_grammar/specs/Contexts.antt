-- Where a part of a derivation stands while the file is read: what was read before it, in whole parts. Each context tells the typedef names that hold in it.
use Rattle.std.specs.Prelude.{ℕ, List, Option, suc}
use Rattle.c_grammar.specs.Tokens.{Identifier, Place, Operator, AssignmentOperator, Increment, CompositeWord}
use Rattle.c_grammar.specs.Derivations.{Qualifiers, Tag, Expression, step_before, unary, sizeof_expression, cast, binary, conditional, assignment, Arguments, TypeName, Specifiers, Members, Declarators, Enumerators, Declarator, AbstractDeclarator, EarlierParameters, InitDeclarators, ForFirst, Labels, Statement, Items, Groups, File}
use Rattle.c_grammar.specs.Spelling.{declares_types, declarator_names, init_declarators_names, for_first_names, statement_names, items_names, groups_names, file_names, precedence}

mutual
  -- where a statement stands
  pub data StatementContext : Type 0 where
    then_of : Place → Place → Expression → Place → StatementContext → StatementContext
    else_of : Place → Place → Expression → Place → Statement → Place → StatementContext → StatementContext
    while_body : Place → Place → Expression → Place → StatementContext → StatementContext
    do_body : Place → StatementContext → StatementContext
    for_body : Place → Place → ForFirst → Option Expression → Place → Option Expression → Place → StatementContext → StatementContext
    item_of : Items → ItemsContext → StatementContext

  -- where items stand
  pub data ItemsContext : Type 0 where
    block_of : Place → StatementContext → ItemsContext
    function_body : File → Specifiers → Declarator → Place → ItemsContext
    group_of : Groups → Labels → GroupsContext → ItemsContext

  -- where the groups of a switch stand
  pub data GroupsContext : Type 0 where
    switch_of : Place → Place → Expression → Place → Place → StatementContext → GroupsContext

-- where a label stands
pub data LabelContext : Type 0 where
  new_group : Groups → GroupsContext → LabelContext
  another_label : Groups → Labels → GroupsContext → LabelContext

-- where a declaration stands
pub data DeclarationContext : Type 0 where
  in_file : File → DeclarationContext
  in_items : Items → ItemsContext → DeclarationContext
  in_for_head : Place → Place → StatementContext → DeclarationContext

-- where an initializer stands, behind its `=`
pub data InitializerContext : Type 0 where
  initializer_of : Specifiers → InitDeclarators → Declarator → Place → DeclarationContext → InitializerContext

-- where an expression of a statement, a label or an initializer stands
pub data StatementHole : Type 0 where
  of_statement : StatementContext → StatementHole
  of_return : Place → StatementContext → StatementHole
  of_if : Place → Place → StatementContext → StatementHole
  of_while : Place → Place → StatementContext → StatementHole
  of_do : Place → Statement → Place → Place → StatementContext → StatementHole
  of_switch : Place → Place → StatementContext → StatementHole
  of_for_first : Place → Place → StatementContext → StatementHole
  of_for_test : Place → Place → ForFirst → StatementContext → StatementHole
  of_for_step : Place → Place → ForFirst → Option Expression → Place → StatementContext → StatementHole
  of_case : LabelContext → Place → StatementHole
  of_initializer : InitializerContext → StatementHole
  of_list : InitializerContext → Place → Arguments → StatementHole

-- what stands before an operand and takes it as the last one
pub data Frame : Type 0 where
  step_frame : Place → Increment → Frame
  unary_frame : Place → Operator → Frame
  sizeof_frame : Place → Frame
  cast_frame : Place → TypeName → Place → Frame
  binary_frame : Expression → Place → Operator → Frame
  conditional_frame : Expression → Place → Expression → Place → Frame
  assignment_frame : Expression → Place → AssignmentOperator → Frame

-- the stars and open parentheses before what a declarator declares, the last first
pub data Chain : Type 0 where
  top : Chain
  starred : Place → Qualifiers → Chain → Chain
  opened : Place → Chain → Chain

mutual
  -- where an expression stands
  pub data ExpressionContext : Type 0 where
    operand : Frame → ExpressionContext → ExpressionContext
    whole : Hole → ExpressionContext

  -- where an expression stands that another token ends
  pub data Hole : Type 0 where
    in_parentheses : Place → ExpressionContext → Hole
    in_index : Expression → Place → ExpressionContext → Hole
    in_argument : Expression → Place → Arguments → ExpressionContext → Hole
    in_middle : Expression → Place → ExpressionContext → Hole
    in_length : Suffixed → Place → Hole
    in_enumerator : Enumerators → Place → Identifier → Place → EnumContext → Hole
    in_statement : StatementHole → Hole

  -- a declarator behind which brackets or parentheses stand
  pub data Suffixed : Type 0 where
    of_declarator : Declarator → Chain → DeclaratorContext → Suffixed
    of_abstract : AbstractDeclarator → Chain → AbstractContext → Suffixed

  -- where specifiers stand
  pub data SpecifiersContext : Type 0 where
    in_declaration : DeclarationContext → SpecifiersContext
    in_member : Members → CompositeContext → SpecifiersContext
    in_parameter : EarlierParameters → Suffixed → Place → SpecifiersContext
    in_type_name : TypeNameContext → SpecifiersContext

  -- where a type name stands
  pub data TypeNameContext : Type 0 where
    in_cast : Place → ExpressionContext → TypeNameContext
    in_sizeof : Place → Place → ExpressionContext → TypeNameContext

  -- where the members of a struct or union stand
  pub data CompositeContext : Type 0 where
    in_composite : Specifiers → Place → CompositeWord → Tag → Place → SpecifiersContext → CompositeContext

  -- where the constants of an enum stand
  pub data EnumContext : Type 0 where
    in_enumeration : Specifiers → Place → Tag → Place → SpecifiersContext → EnumContext

  -- where a declarator stands
  pub data DeclaratorContext : Type 0 where
    init_context : Specifiers → InitDeclarators → DeclarationContext → DeclaratorContext
    member_context : Members → Specifiers → Declarators → CompositeContext → DeclaratorContext
    parameter_context : EarlierParameters → Specifiers → Suffixed → Place → DeclaratorContext

  -- where an abstract declarator stands, or in a parameter one of either kind
  pub data AbstractContext : Type 0 where
    parameter_abstract : EarlierParameters → Specifiers → Suffixed → Place → AbstractContext
    type_name_abstract : Specifiers → TypeNameContext → AbstractContext

-- ## The typedef names there

abbrev mutual
  pub statement_context_names : StatementContext → List Identifier
  statement_context_names (then_of p q e l k) = statement_context_names k
  statement_context_names (else_of p q e l a m k) = statement_names a (statement_context_names k)
  statement_context_names (while_body p q e l k) = statement_context_names k
  statement_context_names (do_body p k) = statement_context_names k
  statement_context_names (for_body p q f c m u l k) = for_first_names f (statement_context_names k)
  statement_context_names (item_of is k) = items_names is (items_context_names k)

  pub items_context_names : ItemsContext → List Identifier
  items_context_names (block_of p k) = statement_context_names k
  items_context_names (function_body f s d p) = file_names f
  items_context_names (group_of gs ls k) = groups_names gs (groups_context_names k)

  pub groups_context_names : GroupsContext → List Identifier
  groups_context_names (switch_of p q e l m k) = statement_context_names k

abbrev pub label_context_names : LabelContext → List Identifier
label_context_names (new_group gs k) = groups_names gs (groups_context_names k)
label_context_names (another_label gs ls k) = groups_names gs (groups_context_names k)

abbrev pub declaration_context_names : DeclarationContext → List Identifier
declaration_context_names (in_file f) = file_names f
declaration_context_names (in_items is k) = items_names is (items_context_names k)
declaration_context_names (in_for_head p q k) = statement_context_names k

-- behind the declarators so far
abbrev pub init_context_names : Specifiers → InitDeclarators → DeclarationContext → List Identifier
init_context_names s ds k = init_declarators_names (declares_types s) ds (declaration_context_names k)

abbrev pub initializer_context_names : InitializerContext → List Identifier
initializer_context_names (initializer_of s ds d p k) = declarator_names (declares_types s) d (init_context_names s ds k)

abbrev pub statement_hole_names : StatementHole → List Identifier
statement_hole_names (of_statement k) = statement_context_names k
statement_hole_names (of_return p k) = statement_context_names k
statement_hole_names (of_if p q k) = statement_context_names k
statement_hole_names (of_while p q k) = statement_context_names k
statement_hole_names (of_do p s w q k) = statement_names s (statement_context_names k)
statement_hole_names (of_switch p q k) = statement_context_names k
statement_hole_names (of_for_first p q k) = statement_context_names k
statement_hole_names (of_for_test p q f k) = for_first_names f (statement_context_names k)
statement_hole_names (of_for_step p q f c m k) = for_first_names f (statement_context_names k)
statement_hole_names (of_case k p) = label_context_names k
statement_hole_names (of_initializer k) = initializer_context_names k
statement_hole_names (of_list k p xs) = initializer_context_names k

abbrev mutual
  pub expression_context_names : ExpressionContext → List Identifier
  expression_context_names (operand f k) = expression_context_names k
  expression_context_names (whole h) = hole_names h

  pub hole_names : Hole → List Identifier
  hole_names (in_parentheses p k) = expression_context_names k
  hole_names (in_index e p k) = expression_context_names k
  hole_names (in_argument f p xs k) = expression_context_names k
  hole_names (in_middle c p k) = expression_context_names k
  hole_names (in_length k p) = suffixed_names k
  hole_names (in_enumerator es p x q k) = enum_context_names k
  hole_names (in_statement h) = statement_hole_names h

  pub suffixed_names : Suffixed → List Identifier
  suffixed_names (of_declarator d c k) = declarator_context_names k
  suffixed_names (of_abstract a c k) = abstract_context_names k

  pub specifiers_context_names : SpecifiersContext → List Identifier
  specifiers_context_names (in_declaration k) = declaration_context_names k
  specifiers_context_names (in_member ms k) = composite_context_names k
  specifiers_context_names (in_parameter ps k p) = suffixed_names k
  specifiers_context_names (in_type_name k) = type_name_context_names k

  pub type_name_context_names : TypeNameContext → List Identifier
  type_name_context_names (in_cast p k) = expression_context_names k
  type_name_context_names (in_sizeof p q k) = expression_context_names k

  pub composite_context_names : CompositeContext → List Identifier
  composite_context_names (in_composite s p w t q k) = specifiers_context_names k

  pub enum_context_names : EnumContext → List Identifier
  enum_context_names (in_enumeration s p t q k) = specifiers_context_names k

  pub declarator_context_names : DeclaratorContext → List Identifier
  declarator_context_names (init_context s ds k) = init_context_names s ds k
  declarator_context_names (member_context ms s ds k) = composite_context_names k
  declarator_context_names (parameter_context ps s k p) = suffixed_names k

  pub abstract_context_names : AbstractContext → List Identifier
  abstract_context_names (parameter_abstract ps s k p) = suffixed_names k
  abstract_context_names (type_name_abstract s k) = type_name_context_names k

-- ## What an operand makes with what stands before it

abbrev pub complete : Frame → Expression → Expression
complete (step_frame p o) e = step_before p o e
complete (unary_frame p o) e = unary p o e
complete (sizeof_frame p) e = sizeof_expression p e
complete (cast_frame p t q) e = cast p t q e
complete (binary_frame a p o) e = binary a p o e
complete (conditional_frame c p a q) e = conditional c p a q e
complete (assignment_frame a p o) e = assignment a p o e

-- the least level of an operand there
abbrev pub frame_need : Frame → ℕ
frame_need (step_frame p o) = 14
frame_need (unary_frame p o) = 13
frame_need (sizeof_frame p) = 14
frame_need (cast_frame p t q) = 13
frame_need (binary_frame a p o) = suc (precedence o)
frame_need (conditional_frame c p a q) = 2
frame_need (assignment_frame a p o) = 1

abbrev pub statement_hole_need : StatementHole → ℕ
statement_hole_need (of_case k p) = 2
statement_hole_need _ = 1

abbrev pub hole_need : Hole → ℕ
hole_need (in_length k p) = 2
hole_need (in_enumerator es p x q k) = 2
hole_need (in_statement h) = statement_hole_need h
hole_need _ = 1

abbrev pub need : ExpressionContext → ℕ
need (operand f k) = frame_need f
need (whole h) = hole_need h
