-- The least nesting of what a state has read: the marks above each context, and the nesting of each token before it.
use Rattle.std.proofs.Common.{ℕ, cond, List, ◌∷◌, suc}
use Rattle.c_grammar.specs.Derivations.{Declarator, declared_name, pointer, parenthesized_declarator, array, function}
use Rattle.c_grammar.specs.Contexts.{StatementContext, then_of, else_of, while_body, do_body, for_body, item_of, ItemsContext, block_of, function_body, group_of, GroupsContext, switch_of, LabelContext, new_group, another_label, DeclarationContext, in_file, in_items, in_for_head, InitializerContext, initializer_of, StatementHole, of_statement, of_return, of_if, of_while, of_do, of_switch, of_for_first, of_for_test, of_for_step, of_case, of_initializer, of_list, Frame, step_frame, unary_frame, sizeof_frame, cast_frame, binary_frame, conditional_frame, assignment_frame, Chain, top, starred, opened, ExpressionContext, operand, whole, Hole, in_parentheses, in_index, in_argument, in_middle, in_length, in_enumerator, in_statement, Suffixed, of_declarator, of_abstract, SpecifiersContext, in_declaration, in_member, in_parameter, in_type_name, TypeNameContext, in_cast, in_sizeof, CompositeContext, in_composite, EnumContext, in_enumeration, DeclaratorContext, init_context, member_context, parameter_context, AbstractContext, parameter_abstract, type_name_abstract}
use Rattle.c_grammar.specs.Machine.{State, at_file, at_items, at_statement, after_statement, at_labels, after_default, at_condition, at_do_condition, after_do, at_for, at_for_first, at_for_test, at_for_step, at_switch_body, at_jump, at_return, at_initializer, at_list_comma, after_list, at_specifiers, at_composite, at_enum, at_members, at_enumerator, after_enumerator, after_enumerator_comma, at_declarator, after_declarator, at_abstract, at_opened, after_abstract, at_length, at_parameters, at_expression, after_postfix, after_sizeof, at_open, at_sizeof, at_sizeof_open, at_arguments, at_access}
use Rattle.c_grammar.specs.Nesting.{qualifiers_nest, tag_nest, trailing_nest, expression_nest, arguments_nest, type_name_nest, specifiers_nest, members_nest, declarators_nest, enumerator_nest, enumerators_nest, declarator_nest, inner_nest, direct_nest, parameters_nest, earlier_nest, init_declarators_nest, optional_nest, for_first_nest, labels_nest, statement_nest, items_nest, groups_nest, file_nest}
use Rattle.c_grammar.proofs.Endings.{may_define, may_head}

-- ## The marks above

abbrev mutual
  pub statement_depth : StatementContext → ℕ
  statement_depth (then_of p q e l k) = suc (statement_depth k)
  statement_depth (else_of p q e l a m k) = suc (statement_depth k)
  statement_depth (while_body p q e l k) = suc (statement_depth k)
  statement_depth (do_body p k) = suc (statement_depth k)
  statement_depth (for_body p q f c m u l k) = suc (statement_depth k)
  statement_depth (item_of is k) = items_depth k

  pub items_depth : ItemsContext → ℕ
  items_depth (block_of p k) = suc (statement_depth k)
  items_depth (function_body f s d p) = 1
  items_depth (group_of gs ls k) = groups_depth k

  pub groups_depth : GroupsContext → ℕ
  groups_depth (switch_of p q e l m k) = suc (statement_depth k)

abbrev pub label_depth : LabelContext → ℕ
label_depth (new_group gs k) = groups_depth k
label_depth (another_label gs ls k) = groups_depth k

abbrev pub declaration_depth : DeclarationContext → ℕ
declaration_depth (in_file f) = 0
declaration_depth (in_items is k) = items_depth k
declaration_depth (in_for_head p q k) = suc (statement_depth k)

abbrev pub initializer_depth : InitializerContext → ℕ
initializer_depth (initializer_of s ds d p k) = declaration_depth k

abbrev pub statement_hole_depth : StatementHole → ℕ
statement_hole_depth (of_statement k) = suc (statement_depth k)
statement_hole_depth (of_return p k) = suc (statement_depth k)
statement_hole_depth (of_if p q k) = suc (statement_depth k)
statement_hole_depth (of_while p q k) = suc (statement_depth k)
statement_hole_depth (of_do p s w q k) = suc (statement_depth k)
statement_hole_depth (of_switch p q k) = suc (statement_depth k)
statement_hole_depth (of_for_first p q k) = suc (statement_depth k)
statement_hole_depth (of_for_test p q f k) = suc (statement_depth k)
statement_hole_depth (of_for_step p q f c m k) = suc (statement_depth k)
statement_hole_depth (of_case k p) = label_depth k
statement_hole_depth (of_initializer k) = initializer_depth k
statement_hole_depth (of_list k p xs) = suc (initializer_depth k)

-- the marks above what stands in the chain, once its declarator is marked
abbrev pub chain_in : Chain → ℕ → ℕ
chain_in top n = suc n
chain_in (starred p qs c) n = chain_in c n
chain_in (opened p c) n = suc (chain_in c n)

-- the same of an abstract declarator
abbrev pub abstract_in : Chain → ℕ → ℕ
abstract_in top n = suc n
abstract_in (starred p qs c) n = suc (abstract_in c n)
abstract_in (opened p c) n = suc (abstract_in c n)

-- the marks above a bare name there
abbrev pub name_in : Chain → ℕ → ℕ
name_in top n = n
name_in (starred p qs c) n = chain_in c n
name_in (opened p c) n = chain_in c n

abbrev mutual
  pub expression_depth : ExpressionContext → ℕ
  expression_depth (operand f k) = suc (expression_depth k)
  expression_depth (whole h) = hole_depth h

  pub hole_depth : Hole → ℕ
  hole_depth (in_parentheses p k) = suc (expression_depth k)
  hole_depth (in_index e p k) = suc (expression_depth k)
  hole_depth (in_argument f p xs k) = suc (expression_depth k)
  hole_depth (in_middle c p k) = suc (expression_depth k)
  hole_depth (in_length k p) = array_depth k
  hole_depth (in_enumerator es p x q k) = enum_depth k
  hole_depth (in_statement h) = statement_hole_depth h

  pub array_depth : Suffixed → ℕ
  array_depth (of_declarator d c k) = chain_in c (declarator_depth k)
  array_depth (of_abstract a c k) = abstract_in c (abstract_depth k)

  pub function_depth : Suffixed → ℕ
  function_depth (of_declarator d c k) = cond (may_define d c k) 0 (chain_in c (declarator_depth k))
  function_depth (of_abstract a c k) = abstract_in c (abstract_depth k)

  pub specifiers_depth : SpecifiersContext → ℕ
  specifiers_depth (in_declaration k) = declaration_depth k
  specifiers_depth (in_member ms k) = composite_depth k
  specifiers_depth (in_parameter ps k p) = function_depth k
  specifiers_depth (in_type_name k) = type_name_depth k

  pub type_name_depth : TypeNameContext → ℕ
  type_name_depth (in_cast p k) = suc (expression_depth k)
  type_name_depth (in_sizeof p q k) = suc (expression_depth k)

  pub composite_depth : CompositeContext → ℕ
  composite_depth (in_composite s p w t q k) = suc (specifiers_depth k)

  pub enum_depth : EnumContext → ℕ
  enum_depth (in_enumeration s p t q k) = specifiers_depth k

  pub declarator_depth : DeclaratorContext → ℕ
  declarator_depth (init_context s ds k) = declaration_depth k
  declarator_depth (member_context ms s ds k) = composite_depth k
  declarator_depth (parameter_context ps s k p) = function_depth k

  pub abstract_depth : AbstractContext → ℕ
  abstract_depth (parameter_abstract ps s k p) = function_depth k
  abstract_depth (type_name_abstract s k) = type_name_depth k

-- ## The nesting of the tokens before

abbrev mutual
  pub statement_nests : StatementContext → List ℕ → List ℕ
  statement_nests (then_of p q e l k) r =
      statement_nests k (suc (statement_depth k) ∷ suc (statement_depth k) ∷ expression_nest e (suc (statement_depth k)) (suc (statement_depth k) ∷ r))
  statement_nests (else_of p q e l a m k) r =
      statement_nests k (suc (statement_depth k) ∷ suc (statement_depth k) ∷ expression_nest e (suc (statement_depth k)) (suc (statement_depth k) ∷ statement_nest a (suc (statement_depth k)) (suc (statement_depth k) ∷ r)))
  statement_nests (while_body p q e l k) r =
      statement_nests k (suc (statement_depth k) ∷ suc (statement_depth k) ∷ expression_nest e (suc (statement_depth k)) (suc (statement_depth k) ∷ r))
  statement_nests (do_body p k) r = statement_nests k (suc (statement_depth k) ∷ r)
  statement_nests (for_body p q f c m u l k) r =
      statement_nests k (suc (statement_depth k) ∷ suc (statement_depth k) ∷ for_first_nest f (suc (statement_depth k)) (optional_nest c (suc (statement_depth k)) (suc (statement_depth k) ∷ optional_nest u (suc (statement_depth k)) (suc (statement_depth k) ∷ r))))
  statement_nests (item_of is k) r = items_nests k (items_nest is (items_depth k) r)

  pub items_nests : ItemsContext → List ℕ → List ℕ
  items_nests (block_of p k) r = statement_nests k (suc (statement_depth k) ∷ r)
  items_nests (function_body f s d p) r = file_nest f (specifiers_nest s 0 (inner_nest d 0 (1 ∷ r)))
  items_nests (group_of gs ls k) r = groups_nests k (groups_nest gs (groups_depth k) (labels_nest ls (groups_depth k) r))

  pub groups_nests : GroupsContext → List ℕ → List ℕ
  groups_nests (switch_of p q e l m k) r =
      statement_nests k (suc (statement_depth k) ∷ suc (statement_depth k) ∷ expression_nest e (suc (statement_depth k)) (suc (statement_depth k) ∷ suc (statement_depth k) ∷ r))

abbrev pub label_nests : LabelContext → List ℕ → List ℕ
label_nests (new_group gs k) r = groups_nests k (groups_nest gs (groups_depth k) r)
label_nests (another_label gs ls k) r = groups_nests k (groups_nest gs (groups_depth k) (labels_nest ls (groups_depth k) r))

abbrev pub declaration_nests : DeclarationContext → List ℕ → List ℕ
declaration_nests (in_file f) r = file_nest f r
declaration_nests (in_items is k) r = items_nests k (items_nest is (items_depth k) r)
declaration_nests (in_for_head p q k) r = statement_nests k (suc (statement_depth k) ∷ suc (statement_depth k) ∷ r)

abbrev pub initializer_nests : InitializerContext → List ℕ → List ℕ
initializer_nests (initializer_of s ds d p k) r =
    declaration_nests k (specifiers_nest s (declaration_depth k) (init_declarators_nest ds (declaration_depth k) (declarator_nest d (declaration_depth k) (declaration_depth k ∷ r))))

abbrev pub statement_hole_nests : StatementHole → List ℕ → List ℕ
statement_hole_nests (of_statement k) r = statement_nests k r
statement_hole_nests (of_return p k) r = statement_nests k (suc (statement_depth k) ∷ r)
statement_hole_nests (of_if p q k) r = statement_nests k (suc (statement_depth k) ∷ suc (statement_depth k) ∷ r)
statement_hole_nests (of_while p q k) r = statement_nests k (suc (statement_depth k) ∷ suc (statement_depth k) ∷ r)
statement_hole_nests (of_do p s w q k) r =
    statement_nests k (suc (statement_depth k) ∷ statement_nest s (suc (statement_depth k)) (suc (statement_depth k) ∷ suc (statement_depth k) ∷ r))
statement_hole_nests (of_switch p q k) r = statement_nests k (suc (statement_depth k) ∷ suc (statement_depth k) ∷ r)
statement_hole_nests (of_for_first p q k) r = statement_nests k (suc (statement_depth k) ∷ suc (statement_depth k) ∷ r)
statement_hole_nests (of_for_test p q f k) r =
    statement_nests k (suc (statement_depth k) ∷ suc (statement_depth k) ∷ for_first_nest f (suc (statement_depth k)) r)
statement_hole_nests (of_for_step p q f c m k) r =
    statement_nests k (suc (statement_depth k) ∷ suc (statement_depth k) ∷ for_first_nest f (suc (statement_depth k)) (optional_nest c (suc (statement_depth k)) (suc (statement_depth k) ∷ r)))
statement_hole_nests (of_case k p) r = label_nests k (label_depth k ∷ r)
statement_hole_nests (of_initializer k) r = initializer_nests k r
statement_hole_nests (of_list k p xs) r = initializer_nests k (suc (initializer_depth k) ∷ arguments_nest xs (suc (initializer_depth k)) r)

abbrev pub frame_nest : Frame → ℕ → List ℕ → List ℕ
frame_nest (step_frame p o) n r = n ∷ r
frame_nest (unary_frame p o) n r = n ∷ r
frame_nest (sizeof_frame p) n r = n ∷ r
frame_nest (cast_frame p t q) n r = n ∷ type_name_nest t n (n ∷ r)
frame_nest (binary_frame a p o) n r = expression_nest a n (n ∷ r)
frame_nest (conditional_frame c p a q) n r = expression_nest c n (n ∷ expression_nest a n (n ∷ r))
frame_nest (assignment_frame a p o) n r = expression_nest a n (n ∷ r)

abbrev pub chain_nest : Chain → ℕ → List ℕ → List ℕ
chain_nest top n r = r
chain_nest (starred p qs c) n r = chain_nest c n (chain_in c n ∷ qualifiers_nest qs (chain_in c n) r)
chain_nest (opened p c) n r = chain_nest c n (chain_in c n ∷ r)

abbrev pub abstract_chain_nest : Chain → ℕ → List ℕ → List ℕ
abstract_chain_nest top n r = r
abstract_chain_nest (starred p qs c) n r = abstract_chain_nest c n (abstract_in c n ∷ qualifiers_nest qs (abstract_in c n) r)
abstract_chain_nest (opened p c) n r = abstract_chain_nest c n (abstract_in c n ∷ r)

-- the stars of a function's head
abbrev pub head_nest : Chain → List ℕ → List ℕ
head_nest top r = r
head_nest (starred p qs c) r = head_nest c (0 ∷ qualifiers_nest qs 0 r)
head_nest (opened p c) r = head_nest c (0 ∷ r)

abbrev mutual
  pub expression_nests : ExpressionContext → List ℕ → List ℕ
  expression_nests (operand f k) r = expression_nests k (frame_nest f (suc (expression_depth k)) r)
  expression_nests (whole h) r = hole_nests h r

  pub hole_nests : Hole → List ℕ → List ℕ
  hole_nests (in_parentheses p k) r = expression_nests k (suc (expression_depth k) ∷ r)
  hole_nests (in_index e p k) r = expression_nests k (expression_nest e (suc (expression_depth k)) (suc (expression_depth k) ∷ r))
  hole_nests (in_argument f p xs k) r =
      expression_nests k (expression_nest f (suc (expression_depth k)) (suc (expression_depth k) ∷ arguments_nest xs (suc (expression_depth k)) r))
  hole_nests (in_middle c p k) r = expression_nests k (expression_nest c (suc (expression_depth k)) (suc (expression_depth k) ∷ r))
  hole_nests (in_length k p) r = array_nests k (array_depth k ∷ r)
  hole_nests (in_enumerator es p x q k) r = enum_nests k (enumerators_nest es (enum_depth k) (enum_depth k ∷ enum_depth k ∷ r))
  hole_nests (in_statement h) r = statement_hole_nests h r

  pub array_nests : Suffixed → List ℕ → List ℕ
  array_nests (of_declarator d c k) r = declarator_nests k (chain_nest c (declarator_depth k) (inner_nest d (chain_in c (declarator_depth k)) r))
  array_nests (of_abstract a c k) r = abstract_nests k (abstract_chain_nest c (abstract_depth k) (direct_nest a (abstract_in c (abstract_depth k)) r))

  pub function_nests : Suffixed → List ℕ → List ℕ
  function_nests (of_declarator d c k) r =
      cond (may_define d c k) (declarator_nests k (head_nest c (inner_nest d 0 r)))
      (declarator_nests k (chain_nest c (declarator_depth k) (inner_nest d (chain_in c (declarator_depth k)) r)))
  function_nests (of_abstract a c k) r = abstract_nests k (abstract_chain_nest c (abstract_depth k) (direct_nest a (abstract_in c (abstract_depth k)) r))

  pub specifiers_nests : SpecifiersContext → List ℕ → List ℕ
  specifiers_nests (in_declaration k) r = declaration_nests k r
  specifiers_nests (in_member ms k) r = composite_nests k (members_nest ms (composite_depth k) r)
  specifiers_nests (in_parameter ps k p) r = function_nests k (function_depth k ∷ earlier_nest ps (function_depth k) r)
  specifiers_nests (in_type_name k) r = type_name_nests k r

  pub type_name_nests : TypeNameContext → List ℕ → List ℕ
  type_name_nests (in_cast p k) r = expression_nests k (suc (expression_depth k) ∷ r)
  type_name_nests (in_sizeof p q k) r = expression_nests k (suc (expression_depth k) ∷ suc (expression_depth k) ∷ r)

  pub composite_nests : CompositeContext → List ℕ → List ℕ
  composite_nests (in_composite s p w t q k) r =
      specifiers_nests k (specifiers_nest s (specifiers_depth k) (specifiers_depth k ∷ tag_nest t (specifiers_depth k) (suc (specifiers_depth k) ∷ r)))

  pub enum_nests : EnumContext → List ℕ → List ℕ
  enum_nests (in_enumeration s p t q k) r =
      specifiers_nests k (specifiers_nest s (specifiers_depth k) (specifiers_depth k ∷ tag_nest t (specifiers_depth k) (specifiers_depth k ∷ r)))

  pub declarator_nests : DeclaratorContext → List ℕ → List ℕ
  declarator_nests (init_context s ds k) r = declaration_nests k (specifiers_nest s (declaration_depth k) (init_declarators_nest ds (declaration_depth k) r))
  declarator_nests (member_context ms s ds k) r =
      composite_nests k (members_nest ms (composite_depth k) (specifiers_nest s (composite_depth k) (declarators_nest ds (composite_depth k) r)))
  declarator_nests (parameter_context ps s k p) r =
      function_nests k (function_depth k ∷ earlier_nest ps (function_depth k) (specifiers_nest s (function_depth k) r))

  pub abstract_nests : AbstractContext → List ℕ → List ℕ
  abstract_nests (parameter_abstract ps s k p) r =
      function_nests k (function_depth k ∷ earlier_nest ps (function_depth k) (specifiers_nest s (function_depth k) r))
  abstract_nests (type_name_abstract s k) r = type_name_nests k (specifiers_nest s (type_name_depth k) r)

-- ## The nesting of what a state has read

abbrev pub at_declarator_nests : Chain → DeclaratorContext → List ℕ → List ℕ
at_declarator_nests c k r = cond (may_head c k) (declarator_nests k (head_nest c r)) (declarator_nests k (chain_nest c (declarator_depth k) r))

abbrev pub after_name_nests : Chain → DeclaratorContext → List ℕ → List ℕ
after_name_nests c k r =
    cond (may_head c k) (declarator_nests k (head_nest c (0 ∷ r)))
    (declarator_nests k (chain_nest c (declarator_depth k) (name_in c (declarator_depth k) ∷ r)))

abbrev pub after_declarator_nests : Declarator → Chain → DeclaratorContext → List ℕ → List ℕ
after_declarator_nests (declared_name p x) c k r = after_name_nests c k r
after_declarator_nests (pointer p qs d) c k r = array_nests (of_declarator (pointer p qs d) c k) r
after_declarator_nests (parenthesized_declarator p d q) c k r = array_nests (of_declarator (parenthesized_declarator p d q) c k) r
after_declarator_nests (array d p l q) c k r = array_nests (of_declarator (array d p l q) c k) r
after_declarator_nests (function d p ps q) c k r =
    function_nests (of_declarator d c k) (function_depth (of_declarator d c k) ∷ parameters_nest ps (function_depth (of_declarator d c k)) (function_depth (of_declarator d c k) ∷ r))

-- a parameter's declarator nests no deeper than an abstract one
abbrev pub at_abstract_nests : AbstractContext → Chain → List ℕ → List ℕ
at_abstract_nests (parameter_abstract ps s k p) c r = abstract_nests (parameter_abstract ps s k p) (chain_nest c (function_depth k) r)
at_abstract_nests (type_name_abstract s k) c r = abstract_nests (type_name_abstract s k) (abstract_chain_nest c (type_name_depth k) r)

abbrev pub state_nest : State → List ℕ → List ℕ
state_nest (at_file f) r = file_nest f r
state_nest (at_items is k) r = items_nests k (items_nest is (items_depth k) r)
state_nest (at_statement k) r = statement_nests k r
state_nest (after_statement s k) r = statement_nests k (statement_nest s (statement_depth k) r)
state_nest (at_labels k) r = groups_nests k r
state_nest (after_default k p) r = label_nests k (label_depth k ∷ r)
state_nest (at_condition h p k) r = statement_nests k (suc (statement_depth k) ∷ r)
state_nest (at_do_condition p s w k) r = statement_nests k (suc (statement_depth k) ∷ statement_nest s (suc (statement_depth k)) (suc (statement_depth k) ∷ r))
state_nest (after_do p s w q e l k) r =
    statement_nests k (suc (statement_depth k) ∷ statement_nest s (suc (statement_depth k)) (suc (statement_depth k) ∷ suc (statement_depth k) ∷ expression_nest e (suc (statement_depth k)) (suc (statement_depth k) ∷ r)))
state_nest (at_for p k) r = statement_nests k (suc (statement_depth k) ∷ r)
state_nest (at_for_first p q k) r = statement_nests k (suc (statement_depth k) ∷ suc (statement_depth k) ∷ r)
state_nest (at_for_test p q f k) r = statement_nests k (suc (statement_depth k) ∷ suc (statement_depth k) ∷ for_first_nest f (suc (statement_depth k)) r)
state_nest (at_for_step p q f c m k) r =
    statement_nests k (suc (statement_depth k) ∷ suc (statement_depth k) ∷ for_first_nest f (suc (statement_depth k)) (optional_nest c (suc (statement_depth k)) (suc (statement_depth k) ∷ r)))
state_nest (at_switch_body p q e l k) r =
    statement_nests k (suc (statement_depth k) ∷ suc (statement_depth k) ∷ expression_nest e (suc (statement_depth k)) (suc (statement_depth k) ∷ r))
state_nest (at_jump p j k) r = statement_nests k (suc (statement_depth k) ∷ r)
state_nest (at_return p k) r = statement_nests k (suc (statement_depth k) ∷ r)
state_nest (at_initializer k) r = initializer_nests k r
state_nest (at_list_comma k p xs e q) r =
    initializer_nests k (suc (initializer_depth k) ∷ arguments_nest xs (suc (initializer_depth k)) (expression_nest e (suc (initializer_depth k)) (suc (initializer_depth k) ∷ r)))
state_nest (after_list k p xs e c l) r =
    initializer_nests k (suc (initializer_depth k) ∷ arguments_nest xs (suc (initializer_depth k)) (expression_nest e (suc (initializer_depth k)) (trailing_nest c (suc (initializer_depth k)) (suc (initializer_depth k) ∷ r))))
state_nest (at_specifiers s k) r = specifiers_nests k (specifiers_nest s (specifiers_depth k) r)
state_nest (at_composite s p w k) r = specifiers_nests k (specifiers_nest s (specifiers_depth k) (specifiers_depth k ∷ r))
state_nest (at_enum s p k) r = specifiers_nests k (specifiers_nest s (specifiers_depth k) (specifiers_depth k ∷ r))
state_nest (at_members ms k) r = composite_nests k (members_nest ms (composite_depth k) r)
state_nest (at_enumerator k) r = enum_nests k r
state_nest (after_enumerator es p x k) r = enum_nests k (enumerators_nest es (enum_depth k) (enum_depth k ∷ r))
state_nest (after_enumerator_comma es e p k) r = enum_nests k (enumerators_nest es (enum_depth k) (enumerator_nest e (enum_depth k) (enum_depth k ∷ r)))
state_nest (at_declarator c k) r = at_declarator_nests c k r
state_nest (after_declarator d c k) r = after_declarator_nests d c k r
state_nest (at_abstract c k) r = at_abstract_nests k c r
state_nest (at_opened c p k) r = at_abstract_nests k (opened p c) r
state_nest (after_abstract a c k) r = array_nests (of_abstract a c k) r
state_nest (at_length k p) r = array_nests k (array_depth k ∷ r)
state_nest (at_parameters k p) r = function_nests k (function_depth k ∷ r)
state_nest (at_expression k) r = expression_nests k r
state_nest (after_postfix e k) r = expression_nests k (expression_nest e (expression_depth k) r)
state_nest (after_sizeof e k) r = expression_nests k (expression_nest e (expression_depth k) r)
state_nest (at_open p k) r = expression_nests k (suc (expression_depth k) ∷ r)
state_nest (at_sizeof p k) r = expression_nests k (suc (expression_depth k) ∷ r)
state_nest (at_sizeof_open p q k) r = expression_nests k (suc (expression_depth k) ∷ suc (expression_depth k) ∷ r)
state_nest (at_arguments f p k) r = expression_nests k (expression_nest f (suc (expression_depth k)) (suc (expression_depth k) ∷ r))
state_nest (at_access e p o k) r = expression_nests k (expression_nest e (suc (expression_depth k)) (suc (expression_depth k) ∷ r))
