-- The derivations of the grammar (ISO C99 6.5 to 6.9, a profile). Each terminal stands with its place, in the order of the file, and parentheses are nodes, so that a derivation determines its tokens. A list grows at its end.
use Rattle.std.specs.Prelude.{Option}
use Rattle.c_grammar.specs.Tokens.{Identifier, Place, Number, Operator, AssignmentOperator, Increment, Access, TypeWord, Qualifier, StorageClass, CompositeWord, Jump}

-- the qualifiers behind one `*`
pub data Qualifiers : Type 0 where
  no_qualifiers : Qualifiers
  qualified : Qualifiers → Place → Qualifier → Qualifiers

-- the words of one type
pub data TypeWords : Type 0 where
  first_word : Place → TypeWord → TypeWords
  next_word : TypeWords → Place → TypeWord → TypeWords

-- the tag of a struct, union or enum that has a body
pub data Tag : Type 0 where
  no_tag : Tag
  tag : Place → Identifier → Tag

-- a comma that may stand behind the last item
pub data Trailing : Type 0 where
  no_comma : Trailing
  comma : Place → Trailing

mutual
  -- an expression (6.5): a[i], f(), f(xs, x), e.x, e++, ++e, -e, sizeof e, sizeof (t), (t) e, a + b, c ? a : b, a = b
  pub data Expression : Type 0 where
    identifier : Place → Identifier → Expression
    constant : Place → Number → Expression
    parenthesized : Place → Expression → Place → Expression
    index : Expression → Place → Expression → Place → Expression
    call_without : Expression → Place → Place → Expression
    call : Expression → Place → Arguments → Expression → Place → Expression
    member : Expression → Place → Access → Place → Identifier → Expression
    step_after : Expression → Place → Increment → Expression
    step_before : Place → Increment → Expression → Expression
    unary : Place → Operator → Expression → Expression
    sizeof_expression : Place → Expression → Expression
    sizeof_type : Place → Place → TypeName → Place → Expression
    cast : Place → TypeName → Place → Expression → Expression
    binary : Expression → Place → Operator → Expression → Expression
    conditional : Expression → Place → Expression → Place → Expression → Expression
    assignment : Expression → Place → AssignmentOperator → Expression → Expression

  -- expressions, each with the comma behind it
  pub data Arguments : Type 0 where
    no_arguments : Arguments
    argument : Arguments → Expression → Place → Arguments

  -- a type name (6.7.6)
  pub data TypeName : Type 0 where
    type_name : Specifiers → AbstractDeclarator → TypeName

  -- declaration specifiers and specifier-qualifier lists (6.7, 6.7.2.1)
  pub data Specifiers : Type 0 where
    no_specifiers : Specifiers
    storage_class : Specifiers → Place → StorageClass → Specifiers
    qualifier : Specifiers → Place → Qualifier → Specifiers
    inlined : Specifiers → Place → Specifiers
    type_words : Specifiers → TypeWords → Specifiers
    typedef_name : Specifiers → Place → Identifier → Specifiers
    composite_reference : Specifiers → Place → CompositeWord → Place → Identifier → Specifiers
    composite : Specifiers → Place → CompositeWord → Tag → Place → Members → Place → Specifiers
    enum_reference : Specifiers → Place → Place → Identifier → Specifiers
    enumeration : Specifiers → Place → Tag → Place → Enumerators → Enumerator → Trailing → Place → Specifiers

  -- the declarations in a struct or union (6.7.2.1): specifiers, declarators, a last declarator and `;`
  pub data Members : Type 0 where
    no_members : Members
    members : Members → Specifiers → Declarators → Declarator → Place → Members

  -- declarators, each with the comma behind it
  pub data Declarators : Type 0 where
    no_declarators : Declarators
    declarators : Declarators → Declarator → Place → Declarators

  -- an enumeration constant, with its value or without (6.7.2.2)
  pub data Enumerator : Type 0 where
    enumerator : Place → Identifier → Enumerator
    enumerator_value : Place → Identifier → Place → Expression → Enumerator

  pub data Enumerators : Type 0 where
    no_enumerators : Enumerators
    enumerators : Enumerators → Enumerator → Place → Enumerators

  -- a declarator (6.7.5)
  pub data Declarator : Type 0 where
    declared_name : Place → Identifier → Declarator
    pointer : Place → Qualifiers → Declarator → Declarator
    parenthesized_declarator : Place → Declarator → Place → Declarator
    array : Declarator → Place → Length → Place → Declarator
    function : Declarator → Place → Parameters → Place → Declarator

  -- what stands between the brackets of an array
  pub data Length : Type 0 where
    no_length : Length
    length_of : Expression → Length

  -- an abstract declarator (6.7.6), or none
  pub data AbstractDeclarator : Type 0 where
    no_declarator : AbstractDeclarator
    abstract_pointer : Place → Qualifiers → AbstractDeclarator → AbstractDeclarator
    parenthesized_abstract : Place → AbstractDeclarator → Place → AbstractDeclarator
    abstract_array : AbstractDeclarator → Place → Length → Place → AbstractDeclarator
    abstract_function : AbstractDeclarator → Place → Parameters → Place → AbstractDeclarator

  -- what stands between the parentheses of a function declarator
  pub data Parameters : Type 0 where
    no_parameters : Parameters
    void_parameter : Place → Parameters
    parameters : EarlierParameters → Parameter → Parameters

  pub data EarlierParameters : Type 0 where
    no_earlier : EarlierParameters
    earlier : EarlierParameters → Parameter → Place → EarlierParameters

  pub data Parameter : Type 0 where
    named_parameter : Specifiers → Declarator → Parameter
    unnamed_parameter : Specifiers → AbstractDeclarator → Parameter

-- an initializer behind its `=`, or none (6.7.8)
pub data Initializer : Type 0 where
  no_initializer : Initializer
  initializer : Place → Expression → Initializer
  initializer_list : Place → Place → Arguments → Expression → Trailing → Place → Initializer

pub data InitDeclarator : Type 0 where
  init_declarator : Declarator → Initializer → InitDeclarator

-- each with the comma behind it
pub data InitDeclarators : Type 0 where
  no_init_declarators : InitDeclarators
  init_declarators : InitDeclarators → InitDeclarator → Place → InitDeclarators

-- a declaration (6.7): specifiers alone, or with declarators and a last one
pub data Declaration : Type 0 where
  specifiers_alone : Specifiers → Place → Declaration
  declaration : Specifiers → InitDeclarators → InitDeclarator → Place → Declaration

-- the first part of a `for` with the `;` behind it
pub data ForFirst : Type 0 where
  for_nothing : Place → ForFirst
  for_expression : Expression → Place → ForFirst
  for_declaration : Declaration → ForFirst

-- the label of a group in a switch (6.8.1)
pub data Label : Type 0 where
  case_label : Place → Expression → Place → Label
  default_label : Place → Place → Label

pub data Labels : Type 0 where
  first_label : Label → Labels
  next_label : Labels → Label → Labels

mutual
  -- a statement (6.8): the words, parentheses, braces and semicolons by their places
  pub data Statement : Type 0 where
    block : Place → Items → Place → Statement
    empty_statement : Place → Statement
    expression_statement : Expression → Place → Statement
    if_statement : Place → Place → Expression → Place → Statement → Statement
    if_else : Place → Place → Expression → Place → Statement → Place → Statement → Statement
    while_statement : Place → Place → Expression → Place → Statement → Statement
    do_statement : Place → Statement → Place → Place → Expression → Place → Place → Statement
    for_statement : Place → Place → ForFirst → Option Expression → Place → Option Expression → Place → Statement → Statement
    switch_statement : Place → Place → Expression → Place → Place → Groups → Place → Statement
    jump_statement : Place → Jump → Place → Statement
    return_statement : Place → Option Expression → Place → Statement

  -- what stands in a block, or behind the labels of a group
  pub data Items : Type 0 where
    no_items : Items
    declaration_item : Items → Declaration → Items
    statement_item : Items → Statement → Items

  -- the groups of a switch
  pub data Groups : Type 0 where
    no_groups : Groups
    group : Groups → Labels → Items → Groups

-- a file (6.9): declarations and function definitions
pub data File : Type 0 where
  empty_file : File
  external_declaration : File → Declaration → File
  function_definition : File → Specifiers → Declarator → Place → Items → Place → File
