-- What a state has read: its tokens, and that its parts are of the grammar.
use Rattle.std.proofs.Common.{◌≡◌, ℕ, ◌≤◌, true, false, List, ◌∷◌, Option, Some, None}
use Rattle.c_grammar.specs.Tokens.{Identifier, Star, Equals, Kind, Name, Op, Assignment, Step, Member, Composite, JumpWord, Enum, Sizeof, If, Else, While, Do, For, Switch, Case, Default, Return, LeftBrace, RightBrace, LeftParen, RightParen, LeftBracket, Semicolon, Comma, Question, Colon, Token, token}
use Rattle.c_grammar.specs.Derivations.{Specifiers, InitDeclarators}
use Rattle.c_grammar.specs.Yield.{qualifiers_yield, tag_yield, trailing_yield, expression_yield, arguments_yield, type_name_yield, specifiers_yield, members_yield, declarators_yield, enumerator_yield, enumerators_yield, declarator_yield, abstract_yield, earlier_yield, init_declarators_yield, optional_yield, for_first_yield, labels_yield, statement_yield, items_yield, groups_yield, file_yield}
use Rattle.c_grammar.specs.Spelling.{is_typedef, declares_types, for_first_names, statement_names, groups_names, file_names, has_type, is_plain, is_direct, is_direct_abstract, is_function_head, precedence, is_unary, level, ExpressionOk, ArgumentsOk, TypeNameOk, SpecifiersOk, MembersOk, DeclaratorsOk, EnumeratorOk, EnumeratorsOk, DeclaratorOk, AbstractOk, EarlierOk, InitDeclaratorsOk, OptionalOk, ForFirstOk, LabelsOk, takes_else, ends_with_items, StatementOk, ItemsOk, GroupsOk, FileOk}
use Rattle.c_grammar.specs.Contexts.{StatementContext, then_of, else_of, while_body, do_body, for_body, item_of, ItemsContext, block_of, function_body, group_of, GroupsContext, switch_of, LabelContext, new_group, another_label, DeclarationContext, in_file, in_items, in_for_head, InitializerContext, initializer_of, StatementHole, of_statement, of_return, of_if, of_while, of_do, of_switch, of_for_first, of_for_test, of_for_step, of_case, of_initializer, of_list, Frame, step_frame, unary_frame, sizeof_frame, cast_frame, binary_frame, conditional_frame, assignment_frame, Chain, top, starred, opened, ExpressionContext, operand, whole, Hole, in_parentheses, in_index, in_argument, in_middle, in_length, in_enumerator, in_statement, Suffixed, of_declarator, of_abstract, SpecifiersContext, in_declaration, in_member, in_parameter, in_type_name, TypeNameContext, in_cast, in_sizeof, CompositeContext, in_composite, EnumContext, in_enumeration, DeclaratorContext, init_context, member_context, parameter_context, AbstractContext, parameter_abstract, type_name_abstract, statement_context_names, items_context_names, groups_context_names, declaration_context_names, init_context_names, initializer_context_names, expression_context_names, suffixed_names, specifiers_context_names, type_name_context_names, composite_context_names, enum_context_names, declarator_context_names, abstract_context_names, need}
use Rattle.c_grammar.specs.Machine.{Head, if_head, while_head, switch_head, State, at_file, at_items, at_statement, after_statement, at_labels, after_default, at_condition, at_do_condition, after_do, at_for, at_for_first, at_for_test, at_for_step, at_switch_body, at_jump, at_return, at_initializer, at_list_comma, after_list, at_specifiers, at_composite, at_enum, at_members, at_enumerator, after_enumerator, after_enumerator_comma, at_declarator, after_declarator, at_abstract, at_opened, after_abstract, at_length, at_parameters, at_expression, after_postfix, after_sizeof, at_open, at_sizeof, at_sizeof_open, at_arguments, at_access, takes_storage}

-- ## The tokens before a part

abbrev mutual
  pub statement_before : StatementContext → List Token → List Token
  statement_before (then_of p q e l k) r = statement_before k (token If p ∷ token LeftParen q ∷ expression_yield e (token RightParen l ∷ r))
  statement_before (else_of p q e l a m k) r =
      statement_before k (token If p ∷ token LeftParen q ∷ expression_yield e (token RightParen l ∷ statement_yield a (token Else m ∷ r)))
  statement_before (while_body p q e l k) r = statement_before k (token While p ∷ token LeftParen q ∷ expression_yield e (token RightParen l ∷ r))
  statement_before (do_body p k) r = statement_before k (token Do p ∷ r)
  statement_before (for_body p q f c m u l k) r =
      statement_before k
      (token For p ∷ token LeftParen q ∷ for_first_yield f (optional_yield c (token Semicolon m ∷ optional_yield u (token RightParen l ∷ r))))
  statement_before (item_of is k) r = items_before k (items_yield is r)

  pub items_before : ItemsContext → List Token → List Token
  items_before (block_of p k) r = statement_before k (token LeftBrace p ∷ r)
  items_before (function_body f s d p) r = file_yield f (specifiers_yield s (declarator_yield d (token LeftBrace p ∷ r)))
  items_before (group_of gs ls k) r = groups_before k (groups_yield gs (labels_yield ls r))

  pub groups_before : GroupsContext → List Token → List Token
  groups_before (switch_of p q e l m k) r =
      statement_before k (token Switch p ∷ token LeftParen q ∷ expression_yield e (token RightParen l ∷ token LeftBrace m ∷ r))

abbrev pub label_before : LabelContext → List Token → List Token
label_before (new_group gs k) r = groups_before k (groups_yield gs r)
label_before (another_label gs ls k) r = groups_before k (groups_yield gs (labels_yield ls r))

abbrev pub declaration_before : DeclarationContext → List Token → List Token
declaration_before (in_file f) r = file_yield f r
declaration_before (in_items is k) r = items_before k (items_yield is r)
declaration_before (in_for_head p q k) r = statement_before k (token For p ∷ token LeftParen q ∷ r)

abbrev pub init_before : Specifiers → InitDeclarators → DeclarationContext → List Token → List Token
init_before s ds k r = declaration_before k (specifiers_yield s (init_declarators_yield ds r))

abbrev pub initializer_before : InitializerContext → List Token → List Token
initializer_before (initializer_of s ds d p k) r = init_before s ds k (declarator_yield d (token (Assignment Equals) p ∷ r))

abbrev pub statement_hole_before : StatementHole → List Token → List Token
statement_hole_before (of_statement k) r = statement_before k r
statement_hole_before (of_return p k) r = statement_before k (token Return p ∷ r)
statement_hole_before (of_if p q k) r = statement_before k (token If p ∷ token LeftParen q ∷ r)
statement_hole_before (of_while p q k) r = statement_before k (token While p ∷ token LeftParen q ∷ r)
statement_hole_before (of_do p s w q k) r = statement_before k (token Do p ∷ statement_yield s (token While w ∷ token LeftParen q ∷ r))
statement_hole_before (of_switch p q k) r = statement_before k (token Switch p ∷ token LeftParen q ∷ r)
statement_hole_before (of_for_first p q k) r = statement_before k (token For p ∷ token LeftParen q ∷ r)
statement_hole_before (of_for_test p q f k) r = statement_before k (token For p ∷ token LeftParen q ∷ for_first_yield f r)
statement_hole_before (of_for_step p q f c m k) r =
    statement_before k (token For p ∷ token LeftParen q ∷ for_first_yield f (optional_yield c (token Semicolon m ∷ r)))
statement_hole_before (of_case k p) r = label_before k (token Case p ∷ r)
statement_hole_before (of_initializer k) r = initializer_before k r
statement_hole_before (of_list k p xs) r = initializer_before k (token LeftBrace p ∷ arguments_yield xs r)

abbrev pub frame_before : Frame → List Token → List Token
frame_before (step_frame p o) r = token (Step o) p ∷ r
frame_before (unary_frame p o) r = token (Op o) p ∷ r
frame_before (sizeof_frame p) r = token Sizeof p ∷ r
frame_before (cast_frame p t q) r = token LeftParen p ∷ type_name_yield t (token RightParen q ∷ r)
frame_before (binary_frame a p o) r = expression_yield a (token (Op o) p ∷ r)
frame_before (conditional_frame c p a q) r = expression_yield c (token Question p ∷ expression_yield a (token Colon q ∷ r))
frame_before (assignment_frame a p o) r = expression_yield a (token (Assignment o) p ∷ r)

abbrev pub chain_before : Chain → List Token → List Token
chain_before top r = r
chain_before (starred p qs c) r = chain_before c (token (Op Star) p ∷ qualifiers_yield qs r)
chain_before (opened p c) r = chain_before c (token LeftParen p ∷ r)

abbrev mutual
  pub expression_before : ExpressionContext → List Token → List Token
  expression_before (operand f k) r = expression_before k (frame_before f r)
  expression_before (whole h) r = hole_before h r

  pub hole_before : Hole → List Token → List Token
  hole_before (in_parentheses p k) r = expression_before k (token LeftParen p ∷ r)
  hole_before (in_index e p k) r = expression_before k (expression_yield e (token LeftBracket p ∷ r))
  hole_before (in_argument f p xs k) r = expression_before k (expression_yield f (token LeftParen p ∷ arguments_yield xs r))
  hole_before (in_middle c p k) r = expression_before k (expression_yield c (token Question p ∷ r))
  hole_before (in_length k p) r = suffixed_before k (token LeftBracket p ∷ r)
  hole_before (in_enumerator es p x q k) r = enum_before k (enumerators_yield es (token (Name x) p ∷ token (Assignment Equals) q ∷ r))
  hole_before (in_statement h) r = statement_hole_before h r

  pub suffixed_before : Suffixed → List Token → List Token
  suffixed_before (of_declarator d c k) r = declarator_before k (chain_before c (declarator_yield d r))
  suffixed_before (of_abstract a c k) r = abstract_before k (chain_before c (abstract_yield a r))

  pub specifiers_before : SpecifiersContext → List Token → List Token
  specifiers_before (in_declaration k) r = declaration_before k r
  specifiers_before (in_member ms k) r = composite_before k (members_yield ms r)
  specifiers_before (in_parameter ps k p) r = suffixed_before k (token LeftParen p ∷ earlier_yield ps r)
  specifiers_before (in_type_name k) r = type_name_before k r

  pub type_name_before : TypeNameContext → List Token → List Token
  type_name_before (in_cast p k) r = expression_before k (token LeftParen p ∷ r)
  type_name_before (in_sizeof p q k) r = expression_before k (token Sizeof p ∷ token LeftParen q ∷ r)

  pub composite_before : CompositeContext → List Token → List Token
  composite_before (in_composite s p w t q k) r = specifiers_before k (specifiers_yield s (token (Composite w) p ∷ tag_yield t (token LeftBrace q ∷ r)))

  pub enum_before : EnumContext → List Token → List Token
  enum_before (in_enumeration s p t q k) r = specifiers_before k (specifiers_yield s (token Enum p ∷ tag_yield t (token LeftBrace q ∷ r)))

  pub declarator_before : DeclaratorContext → List Token → List Token
  declarator_before (init_context s ds k) r = init_before s ds k r
  declarator_before (member_context ms s ds k) r = composite_before k (members_yield ms (specifiers_yield s (declarators_yield ds r)))
  declarator_before (parameter_context ps s k p) r = suffixed_before k (token LeftParen p ∷ earlier_yield ps (specifiers_yield s r))

  pub abstract_before : AbstractContext → List Token → List Token
  abstract_before (parameter_abstract ps s k p) r = suffixed_before k (token LeftParen p ∷ earlier_yield ps (specifiers_yield s r))
  abstract_before (type_name_abstract s k) r = type_name_before k (specifiers_yield s r)

abbrev pub head_kind : Head → Kind
head_kind if_head = If
head_kind while_head = While
head_kind switch_head = Switch

-- the tokens that a state has read, before those that follow
abbrev pub state_before : State → List Token → List Token
state_before (at_file f) r = file_yield f r
state_before (at_items is k) r = items_before k (items_yield is r)
state_before (at_statement k) r = statement_before k r
state_before (after_statement s k) r = statement_before k (statement_yield s r)
state_before (at_labels k) r = groups_before k r
state_before (after_default k p) r = label_before k (token Default p ∷ r)
state_before (at_condition h p k) r = statement_before k (token (head_kind h) p ∷ r)
state_before (at_do_condition p s w k) r = statement_before k (token Do p ∷ statement_yield s (token While w ∷ r))
state_before (after_do p s w q e l k) r =
    statement_before k (token Do p ∷ statement_yield s (token While w ∷ token LeftParen q ∷ expression_yield e (token RightParen l ∷ r)))
state_before (at_for p k) r = statement_before k (token For p ∷ r)
state_before (at_for_first p q k) r = statement_before k (token For p ∷ token LeftParen q ∷ r)
state_before (at_for_test p q f k) r = statement_before k (token For p ∷ token LeftParen q ∷ for_first_yield f r)
state_before (at_for_step p q f c m k) r =
    statement_before k (token For p ∷ token LeftParen q ∷ for_first_yield f (optional_yield c (token Semicolon m ∷ r)))
state_before (at_switch_body p q e l k) r = statement_before k (token Switch p ∷ token LeftParen q ∷ expression_yield e (token RightParen l ∷ r))
state_before (at_jump p j k) r = statement_before k (token (JumpWord j) p ∷ r)
state_before (at_return p k) r = statement_before k (token Return p ∷ r)
state_before (at_initializer k) r = initializer_before k r
state_before (at_list_comma k p xs e q) r = initializer_before k (token LeftBrace p ∷ arguments_yield xs (expression_yield e (token Comma q ∷ r)))
state_before (after_list k p xs e c l) r =
    initializer_before k (token LeftBrace p ∷ arguments_yield xs (expression_yield e (trailing_yield c (token RightBrace l ∷ r))))
state_before (at_specifiers s k) r = specifiers_before k (specifiers_yield s r)
state_before (at_composite s p w k) r = specifiers_before k (specifiers_yield s (token (Composite w) p ∷ r))
state_before (at_enum s p k) r = specifiers_before k (specifiers_yield s (token Enum p ∷ r))
state_before (at_members ms k) r = composite_before k (members_yield ms r)
state_before (at_enumerator k) r = enum_before k r
state_before (after_enumerator es p x k) r = enum_before k (enumerators_yield es (token (Name x) p ∷ r))
state_before (after_enumerator_comma es e p k) r = enum_before k (enumerators_yield es (enumerator_yield e (token Comma p ∷ r)))
state_before (at_declarator c k) r = declarator_before k (chain_before c r)
state_before (after_declarator d c k) r = declarator_before k (chain_before c (declarator_yield d r))
state_before (at_abstract c k) r = abstract_before k (chain_before c r)
state_before (at_opened c p k) r = abstract_before k (chain_before c (token LeftParen p ∷ r))
state_before (after_abstract a c k) r = abstract_before k (chain_before c (abstract_yield a r))
state_before (at_length k p) r = suffixed_before k (token LeftBracket p ∷ r)
state_before (at_parameters k p) r = suffixed_before k (token LeftParen p ∷ r)
state_before (at_expression k) r = expression_before k r
state_before (after_postfix e k) r = expression_before k (expression_yield e r)
state_before (after_sizeof e k) r = expression_before k (expression_yield e r)
state_before (at_open p k) r = expression_before k (token LeftParen p ∷ r)
state_before (at_sizeof p k) r = expression_before k (token Sizeof p ∷ r)
state_before (at_sizeof_open p q k) r = expression_before k (token Sizeof p ∷ token LeftParen q ∷ r)
state_before (at_arguments f p k) r = expression_before k (expression_yield f (token LeftParen p ∷ r))
state_before (at_access e p o k) r = expression_before k (expression_yield e (token (Member o) p ∷ r))

-- ## What was read is of the grammar

abbrev mutual
  pub StatementContextOk : StatementContext → Type 0
  StatementContextOk (then_of p q e l k) = StatementContextOk k × ExpressionOk (statement_context_names k) e
  StatementContextOk (else_of p q e l a m k) =
      StatementContextOk k × ExpressionOk (statement_context_names k) e × StatementOk (statement_context_names k) a × (takes_else a ≡ false)
  StatementContextOk (while_body p q e l k) = StatementContextOk k × ExpressionOk (statement_context_names k) e
  StatementContextOk (do_body p k) = StatementContextOk k
  StatementContextOk (for_body p q f c m u l k) =
      StatementContextOk k × ForFirstOk (statement_context_names k) f × OptionalOk (for_first_names f (statement_context_names k)) c
      × OptionalOk (for_first_names f (statement_context_names k)) u
  StatementContextOk (item_of is k) = ItemsContextOk k × ItemsOk (items_context_names k) is

  pub ItemsContextOk : ItemsContext → Type 0
  ItemsContextOk (block_of p k) = StatementContextOk k
  ItemsContextOk (function_body f s d p) =
      FileOk f × SpecifiersOk (file_names f) s × (has_type s ≡ true) × (declares_types s ≡ false) × DeclaratorOk (file_names f) d × (is_function_head d ≡ true)
  ItemsContextOk (group_of gs ls k) =
      GroupsContextOk k × GroupsOk (groups_context_names k) gs × (ends_with_items gs ≡ true) × LabelsOk (groups_names gs (groups_context_names k)) ls

  pub GroupsContextOk : GroupsContext → Type 0
  GroupsContextOk (switch_of p q e l m k) = StatementContextOk k × ExpressionOk (statement_context_names k) e

abbrev pub LabelContextOk : LabelContext → Type 0
LabelContextOk (new_group gs k) = GroupsContextOk k × GroupsOk (groups_context_names k) gs × (ends_with_items gs ≡ true)
LabelContextOk (another_label gs ls k) =
    GroupsContextOk k × GroupsOk (groups_context_names k) gs × (ends_with_items gs ≡ true) × LabelsOk (groups_names gs (groups_context_names k)) ls

abbrev pub DeclarationContextOk : DeclarationContext → Type 0
DeclarationContextOk (in_file f) = FileOk f
DeclarationContextOk (in_items is k) = ItemsContextOk k × ItemsOk (items_context_names k) is
DeclarationContextOk (in_for_head p q k) = StatementContextOk k

abbrev pub InitContextOk : Specifiers → InitDeclarators → DeclarationContext → Type 0
InitContextOk s ds k =
    DeclarationContextOk k × SpecifiersOk (declaration_context_names k) s × (has_type s ≡ true)
    × InitDeclaratorsOk (declares_types s) (declaration_context_names k) ds

abbrev pub InitializerContextOk : InitializerContext → Type 0
InitializerContextOk (initializer_of s ds d p k) = InitContextOk s ds k × DeclaratorOk (init_context_names s ds k) d

abbrev pub StatementHoleOk : StatementHole → Type 0
StatementHoleOk (of_statement k) = StatementContextOk k
StatementHoleOk (of_return p k) = StatementContextOk k
StatementHoleOk (of_if p q k) = StatementContextOk k
StatementHoleOk (of_while p q k) = StatementContextOk k
StatementHoleOk (of_do p s w q k) = StatementContextOk k × StatementOk (statement_context_names k) s
StatementHoleOk (of_switch p q k) = StatementContextOk k
StatementHoleOk (of_for_first p q k) = StatementContextOk k
StatementHoleOk (of_for_test p q f k) = StatementContextOk k × ForFirstOk (statement_context_names k) f
StatementHoleOk (of_for_step p q f c m k) =
    StatementContextOk k × ForFirstOk (statement_context_names k) f × OptionalOk (for_first_names f (statement_context_names k)) c
StatementHoleOk (of_case k p) = LabelContextOk k
StatementHoleOk (of_initializer k) = InitializerContextOk k
StatementHoleOk (of_list k p xs) = InitializerContextOk k × ArgumentsOk (initializer_context_names k) xs

abbrev pub FrameOk : List Identifier → Frame → Type 0
FrameOk ns (step_frame p o) = Unit {0}
FrameOk ns (unary_frame p o) = is_unary o ≡ true
FrameOk ns (sizeof_frame p) = Unit {0}
FrameOk ns (cast_frame p t q) = TypeNameOk ns t
FrameOk ns (binary_frame a p o) = (3 ≤ precedence o) × ExpressionOk ns a × (precedence o ≤ level a)
FrameOk ns (conditional_frame c p a q) = ExpressionOk ns c × (3 ≤ level c) × ExpressionOk ns a
FrameOk ns (assignment_frame a p o) = ExpressionOk ns a × (14 ≤ level a)

-- the level of what the frame makes
abbrev pub frame_level : Frame → ℕ
frame_level (step_frame p o) = 14
frame_level (unary_frame p o) = 14
frame_level (sizeof_frame p) = 14
frame_level (cast_frame p t q) = 13
frame_level (binary_frame a p o) = precedence o
frame_level (conditional_frame c p a q) = 2
frame_level (assignment_frame a p o) = 1

-- where a storage class or `inline` stands, it may
abbrev pub Storable : Specifiers → SpecifiersContext → Type 0
Storable s k = is_plain s ≡ false → takes_storage k ≡ true

abbrev mutual
  pub ExpressionContextOk : ExpressionContext → Type 0
  ExpressionContextOk (operand f k) = ExpressionContextOk k × FrameOk (expression_context_names k) f × (need k ≤ frame_level f)
  ExpressionContextOk (whole h) = HoleOk h

  pub HoleOk : Hole → Type 0
  HoleOk (in_parentheses p k) = ExpressionContextOk k
  HoleOk (in_index e p k) = ExpressionContextOk k × ExpressionOk (expression_context_names k) e × (15 ≤ level e)
  HoleOk (in_argument f p xs k) =
      ExpressionContextOk k × ExpressionOk (expression_context_names k) f × (15 ≤ level f) × ArgumentsOk (expression_context_names k) xs
  HoleOk (in_middle c p k) = ExpressionContextOk k × ExpressionOk (expression_context_names k) c × (3 ≤ level c) × (need k ≤ 2)
  HoleOk (in_length k p) = SuffixedOk k
  HoleOk (in_enumerator es p x q k) = EnumContextOk k × EnumeratorsOk (enum_context_names k) es × (is_typedef (enum_context_names k) x ≡ false)
  HoleOk (in_statement h) = StatementHoleOk h

  pub SuffixedOk : Suffixed → Type 0
  SuffixedOk (of_declarator d c k) = DeclaratorContextOk k × DeclaratorOk (declarator_context_names k) d × (is_direct d ≡ true)
  SuffixedOk (of_abstract a c k) = AbstractContextOk k × AbstractOk (abstract_context_names k) a × (is_direct_abstract a ≡ true)

  pub SpecifiersContextOk : SpecifiersContext → Type 0
  SpecifiersContextOk (in_declaration k) = DeclarationContextOk k
  SpecifiersContextOk (in_member ms k) = CompositeContextOk k × MembersOk (composite_context_names k) ms
  SpecifiersContextOk (in_parameter ps k p) = SuffixedOk k × EarlierOk (suffixed_names k) ps
  SpecifiersContextOk (in_type_name k) = TypeNameContextOk k

  pub TypeNameContextOk : TypeNameContext → Type 0
  TypeNameContextOk (in_cast p k) = ExpressionContextOk k × (need k ≤ 13)
  TypeNameContextOk (in_sizeof p q k) = ExpressionContextOk k

  pub CompositeContextOk : CompositeContext → Type 0
  CompositeContextOk (in_composite s p w t q k) =
      SpecifiersContextOk k × SpecifiersOk (specifiers_context_names k) s × (has_type s ≡ false) × Storable s k

  pub EnumContextOk : EnumContext → Type 0
  EnumContextOk (in_enumeration s p t q k) =
      SpecifiersContextOk k × SpecifiersOk (specifiers_context_names k) s × (has_type s ≡ false) × Storable s k

  pub DeclaratorContextOk : DeclaratorContext → Type 0
  DeclaratorContextOk (init_context s ds k) = InitContextOk s ds k
  DeclaratorContextOk (member_context ms s ds k) =
      CompositeContextOk k × MembersOk (composite_context_names k) ms × SpecifiersOk (composite_context_names k) s × (has_type s ≡ true)
      × (is_plain s ≡ true) × DeclaratorsOk (composite_context_names k) ds
  DeclaratorContextOk (parameter_context ps s k p) =
      SuffixedOk k × EarlierOk (suffixed_names k) ps × SpecifiersOk (suffixed_names k) s × (has_type s ≡ true) × (is_plain s ≡ true)

  pub AbstractContextOk : AbstractContext → Type 0
  AbstractContextOk (parameter_abstract ps s k p) =
      SuffixedOk k × EarlierOk (suffixed_names k) ps × SpecifiersOk (suffixed_names k) s × (has_type s ≡ true) × (is_plain s ≡ true)
  AbstractContextOk (type_name_abstract s k) =
      TypeNameContextOk k × SpecifiersOk (type_name_context_names k) s × (has_type s ≡ true) × (is_plain s ≡ true)

abbrev pub StateOk : State → Type 0
StateOk (at_file f) = FileOk f
StateOk (at_items is k) = ItemsContextOk k × ItemsOk (items_context_names k) is
StateOk (at_statement k) = StatementContextOk k
StateOk (after_statement s k) = StatementContextOk k × StatementOk (statement_context_names k) s × (takes_else s ≡ false)
StateOk (at_labels k) = GroupsContextOk k
StateOk (after_default k p) = LabelContextOk k
StateOk (at_condition h p k) = StatementContextOk k
StateOk (at_do_condition p s w k) = StatementContextOk k × StatementOk (statement_context_names k) s
StateOk (after_do p s w q e l k) =
    StatementContextOk k × StatementOk (statement_context_names k) s × ExpressionOk (statement_names s (statement_context_names k)) e
StateOk (at_for p k) = StatementContextOk k
StateOk (at_for_first p q k) = StatementContextOk k
StateOk (at_for_test p q f k) = StatementContextOk k × ForFirstOk (statement_context_names k) f
StateOk (at_for_step p q f c m k) =
    StatementContextOk k × ForFirstOk (statement_context_names k) f × OptionalOk (for_first_names f (statement_context_names k)) c
StateOk (at_switch_body p q e l k) = StatementContextOk k × ExpressionOk (statement_context_names k) e
StateOk (at_jump p j k) = StatementContextOk k
StateOk (at_return p k) = StatementContextOk k
StateOk (at_initializer k) = InitializerContextOk k
StateOk (at_list_comma k p xs e q) =
    InitializerContextOk k × ArgumentsOk (initializer_context_names k) xs × ExpressionOk (initializer_context_names k) e
StateOk (after_list k p xs e c l) =
    InitializerContextOk k × ArgumentsOk (initializer_context_names k) xs × ExpressionOk (initializer_context_names k) e
StateOk (at_specifiers s k) = SpecifiersContextOk k × SpecifiersOk (specifiers_context_names k) s × Storable s k
StateOk (at_composite s p w k) = SpecifiersContextOk k × SpecifiersOk (specifiers_context_names k) s × (has_type s ≡ false) × Storable s k
StateOk (at_enum s p k) = SpecifiersContextOk k × SpecifiersOk (specifiers_context_names k) s × (has_type s ≡ false) × Storable s k
StateOk (at_members ms k) = CompositeContextOk k × MembersOk (composite_context_names k) ms
StateOk (at_enumerator k) = EnumContextOk k
StateOk (after_enumerator es p x k) = EnumContextOk k × EnumeratorsOk (enum_context_names k) es × (is_typedef (enum_context_names k) x ≡ false)
StateOk (after_enumerator_comma es e p k) = EnumContextOk k × EnumeratorsOk (enum_context_names k) es × EnumeratorOk (enum_context_names k) e
StateOk (at_declarator c k) = DeclaratorContextOk k
StateOk (after_declarator d c k) = DeclaratorContextOk k × DeclaratorOk (declarator_context_names k) d × (is_direct d ≡ true)
StateOk (at_abstract c k) = AbstractContextOk k
StateOk (at_opened c p k) = AbstractContextOk k
StateOk (after_abstract a c k) = AbstractContextOk k × AbstractOk (abstract_context_names k) a × (is_direct_abstract a ≡ true)
StateOk (at_length k p) = SuffixedOk k
StateOk (at_parameters k p) = SuffixedOk k
StateOk (at_expression k) = ExpressionContextOk k
StateOk (after_postfix e k) = ExpressionContextOk k × ExpressionOk (expression_context_names k) e × (15 ≤ level e)
StateOk (after_sizeof e k) = ExpressionContextOk k × ExpressionOk (expression_context_names k) e × (14 ≤ level e)
StateOk (at_open p k) = ExpressionContextOk k
StateOk (at_sizeof p k) = ExpressionContextOk k
StateOk (at_sizeof_open p q k) = ExpressionContextOk k
StateOk (at_arguments f p k) = ExpressionContextOk k × ExpressionOk (expression_context_names k) f × (15 ≤ level f)
StateOk (at_access e p o k) = ExpressionContextOk k × ExpressionOk (expression_context_names k) e × (15 ≤ level e)

-- The state has read these tokens, and what it read is of the grammar.
abbrev pub Has : (List Token → List Token) → Option State → Type 0
Has f None = Unit {0}
Has f (Some s) = StateOk s × ((r : List Token) → f r ≡ state_before s r)
