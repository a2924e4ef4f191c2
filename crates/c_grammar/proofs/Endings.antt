-- For each state the tokens that end it as a file with as few parts as may be, and a name that no typedef declares.
use Rattle.std.proofs.Common.{◌≡◌, ◌+◌, ◌<◌, ◌≤◌, Bool, true, false, cond, List, [], ◌∷◌, ◌++◌, refl, ◌∙◌, ap, arith, length, bytes_eq, not}
use Rattle.std.specs.Bool.{Decides}
use Rattle.std.proofs.lemmas.Slice.Eq.{bytes_eq-Decides}
use Rattle.std.proofs.lemmas.List.{length-append}
use Rattle.c_grammar.specs.Tokens.{Identifier, Decimal, Int, Kind, Name, Constant, TypeKeyword, While, LeftBrace, RightBrace, LeftParen, RightParen, LeftBracket, RightBracket, Semicolon, Colon, Token, token}
use Rattle.c_grammar.specs.Derivations.{Specifiers, Declarator, declared_name, function, AbstractDeclarator, no_declarator, no_init_declarators}
use Rattle.c_grammar.specs.Spelling.{is_typedef, declares_types, has_type, has_members}
use Rattle.c_grammar.specs.Contexts.{StatementContext, then_of, else_of, while_body, do_body, for_body, item_of, ItemsContext, block_of, function_body, group_of, GroupsContext, switch_of, LabelContext, new_group, another_label, DeclarationContext, in_file, in_items, in_for_head, InitializerContext, initializer_of, StatementHole, of_statement, of_return, of_if, of_while, of_do, of_switch, of_for_first, of_for_test, of_for_step, of_case, of_initializer, of_list, Chain, top, starred, opened, ExpressionContext, operand, whole, Hole, in_parentheses, in_index, in_argument, in_middle, in_length, in_enumerator, in_statement, Suffixed, of_declarator, of_abstract, SpecifiersContext, in_declaration, in_member, in_parameter, in_type_name, TypeNameContext, in_cast, in_sizeof, CompositeContext, in_composite, EnumContext, in_enumeration, DeclaratorContext, init_context, member_context, parameter_context, AbstractContext, parameter_abstract, type_name_abstract, statement_context_names, suffixed_names, composite_context_names, enum_context_names, declarator_context_names}
use Rattle.c_grammar.specs.Machine.{Head, if_head, while_head, switch_head, State, at_file, at_items, at_statement, after_statement, at_labels, after_default, at_condition, at_do_condition, after_do, at_for, at_for_first, at_for_test, at_for_step, at_switch_body, at_jump, at_return, at_initializer, at_list_comma, after_list, at_specifiers, at_composite, at_enum, at_members, at_enumerator, after_enumerator, after_enumerator_comma, at_declarator, after_declarator, at_abstract, at_opened, after_abstract, at_length, at_parameters, at_expression, after_postfix, after_sizeof, at_open, at_sizeof, at_sizeof_open, at_arguments, at_access}

-- ## A name longer than each typedef name

abbrev pub fresh : List Identifier → Identifier
fresh [] = 120 ∷ []
fresh (x ∷ ns) = 120 ∷ (x ++ fresh ns)

longer_differs : (xs ys : Identifier) → length ys < length xs → bytes_eq xs ys ≡ false
longer_differs xs ys h = other (bytes_eq xs ys) (bytes_eq-Decides xs ys) (λ e. let same : length xs ≡ length ys = ap length e in absurd (omega (arith, h, same)))
  where
    other : (b : Bool) → Decides b (xs ≡ ys) → (xs ≡ ys → ⊥) → b ≡ false
    other true d n = absurd (n (d.0 refl))
    other false d n = refl

longer_new : (ns : List Identifier) (x : Identifier) → length (fresh ns) ≤ length x → is_typedef ns x ≡ false
longer_new [] x h = refl
longer_new (y ∷ ns) x h =
    let n : length (y ++ fresh ns) ≡ length y + length (fresh ns) = length-append y (fresh ns) in
    ap (λ b. cond b true (is_typedef ns x)) (longer_differs x y (omega (arith, h, n))) ∙ longer_new ns x (omega (arith, h, n))

pub fresh_new : (ns : List Identifier) → is_typedef ns (fresh ns) ≡ false
fresh_new ns = longer_new ns (fresh ns) (omega arith)

-- ## The tokens of endings

abbrev pub mark : Kind → Token
mark t = token t 0

abbrev pub zero_token : Token
zero_token = token (Constant (Decimal 0)) 0

abbrev pub fresh_token : List Identifier → Token
fresh_token ns = token (Name (fresh ns)) 0

abbrev mutual
  -- behind a whole statement
  pub statement_ending : StatementContext → List Token
  statement_ending (then_of p q e l k) = statement_ending k
  statement_ending (else_of p q e l a m k) = statement_ending k
  statement_ending (while_body p q e l k) = statement_ending k
  statement_ending (do_body p k) = mark While ∷ mark LeftParen ∷ zero_token ∷ mark RightParen ∷ mark Semicolon ∷ statement_ending k
  statement_ending (for_body p q f c m u l k) = statement_ending k
  statement_ending (item_of is k) = mark RightBrace ∷ items_ending k

  -- behind the brace that closes the items
  pub items_ending : ItemsContext → List Token
  items_ending (block_of p k) = statement_ending k
  items_ending (function_body f s d p) = []
  items_ending (group_of gs ls k) = groups_ending k

  pub groups_ending : GroupsContext → List Token
  groups_ending (switch_of p q e l m k) = statement_ending k

-- behind a whole label
abbrev pub label_ending : LabelContext → List Token
label_ending (new_group gs k) = mark RightBrace ∷ groups_ending k
label_ending (another_label gs ls k) = mark RightBrace ∷ groups_ending k

-- behind a whole declaration
abbrev pub declaration_ending : DeclarationContext → List Token
declaration_ending (in_file f) = []
declaration_ending (in_items is k) = mark RightBrace ∷ items_ending k
declaration_ending (in_for_head p q k) = mark Semicolon ∷ mark RightParen ∷ mark Semicolon ∷ statement_ending k

-- behind the specifiers of a declaration
abbrev pub alone_ending : DeclarationContext → List Token
alone_ending (in_file f) = mark Semicolon ∷ []
alone_ending (in_items is k) = mark Semicolon ∷ mark RightBrace ∷ items_ending k
alone_ending (in_for_head p q k) =
    fresh_token (statement_context_names k) ∷ mark Semicolon ∷ mark Semicolon ∷ mark RightParen ∷ mark Semicolon ∷ statement_ending k

abbrev pub initializer_ending : InitializerContext → List Token
initializer_ending (initializer_of s ds d p k) = mark Semicolon ∷ declaration_ending k

-- behind a whole expression
abbrev pub statement_hole_ending : StatementHole → List Token
statement_hole_ending (of_statement k) = mark Semicolon ∷ statement_ending k
statement_hole_ending (of_return p k) = mark Semicolon ∷ statement_ending k
statement_hole_ending (of_if p q k) = mark RightParen ∷ mark Semicolon ∷ statement_ending k
statement_hole_ending (of_while p q k) = mark RightParen ∷ mark Semicolon ∷ statement_ending k
statement_hole_ending (of_do p s w q k) = mark RightParen ∷ mark Semicolon ∷ statement_ending k
statement_hole_ending (of_switch p q k) = mark RightParen ∷ mark LeftBrace ∷ mark RightBrace ∷ statement_ending k
statement_hole_ending (of_for_first p q k) = mark Semicolon ∷ mark Semicolon ∷ mark RightParen ∷ mark Semicolon ∷ statement_ending k
statement_hole_ending (of_for_test p q f k) = mark Semicolon ∷ mark RightParen ∷ mark Semicolon ∷ statement_ending k
statement_hole_ending (of_for_step p q f c m k) = mark RightParen ∷ mark Semicolon ∷ statement_ending k
statement_hole_ending (of_case k p) = mark Colon ∷ label_ending k
statement_hole_ending (of_initializer k) = initializer_ending k
statement_hole_ending (of_list k p xs) = mark RightBrace ∷ initializer_ending k

abbrev pub chain_ending : Chain → List Token → List Token
chain_ending top ts = ts
chain_ending (starred p qs c) ts = chain_ending c ts
chain_ending (opened p c) ts = mark RightParen ∷ chain_ending c ts

abbrev pub only_stars : Chain → Bool
only_stars top = true
only_stars (starred p qs c) = only_stars c
only_stars (opened p c) = false

-- whether a parameter list here may be that of a function definition
abbrev pub may_define : Declarator → Chain → DeclaratorContext → Bool
may_define (declared_name p x) c (init_context s no_init_declarators (in_file f)) = cond (only_stars c) (not (declares_types s)) false
may_define _ c _ = false

abbrev mutual
  pub expression_ending : ExpressionContext → List Token
  expression_ending (operand f k) = expression_ending k
  expression_ending (whole h) = hole_ending h

  pub hole_ending : Hole → List Token
  hole_ending (in_parentheses p k) = mark RightParen ∷ expression_ending k
  hole_ending (in_index e p k) = mark RightBracket ∷ expression_ending k
  hole_ending (in_argument f p xs k) = mark RightParen ∷ expression_ending k
  hole_ending (in_middle c p k) = mark Colon ∷ zero_token ∷ expression_ending k
  hole_ending (in_length k p) = mark RightBracket ∷ array_ending k
  hole_ending (in_enumerator es p x q k) = mark RightBrace ∷ enum_ending k
  hole_ending (in_statement h) = statement_hole_ending h

  -- behind the brackets of a declarator
  pub array_ending : Suffixed → List Token
  array_ending (of_declarator d c k) = chain_ending c (declarator_ending k)
  array_ending (of_abstract a c k) = chain_ending c (abstract_ending k)

  -- behind the parameters of a declarator: a body where one may stand
  pub function_ending : Suffixed → List Token
  function_ending (of_declarator d c k) = cond (may_define d c k) (mark LeftBrace ∷ mark RightBrace ∷ []) (chain_ending c (declarator_ending k))
  function_ending (of_abstract a c k) = chain_ending c (abstract_ending k)

  -- behind specifiers with a type
  pub specifiers_ending : SpecifiersContext → List Token
  specifiers_ending (in_declaration k) = alone_ending k
  specifiers_ending (in_member ms k) = fresh_token (composite_context_names k) ∷ mark Semicolon ∷ mark RightBrace ∷ composite_ending k
  specifiers_ending (in_parameter ps k p) = mark RightParen ∷ function_ending k
  specifiers_ending (in_type_name k) = mark RightParen ∷ type_name_ending k

  pub type_name_ending : TypeNameContext → List Token
  type_name_ending (in_cast p k) = zero_token ∷ expression_ending k
  type_name_ending (in_sizeof p q k) = expression_ending k

  -- behind the brace that closes the members
  pub composite_ending : CompositeContext → List Token
  composite_ending (in_composite s p w t q k) = specifiers_ending k

  pub enum_ending : EnumContext → List Token
  enum_ending (in_enumeration s p t q k) = specifiers_ending k

  -- behind a whole declarator
  pub declarator_ending : DeclaratorContext → List Token
  declarator_ending (init_context s ds k) = mark Semicolon ∷ declaration_ending k
  declarator_ending (member_context ms s ds k) = mark Semicolon ∷ mark RightBrace ∷ composite_ending k
  declarator_ending (parameter_context ps s k p) = mark RightParen ∷ function_ending k

  pub abstract_ending : AbstractContext → List Token
  abstract_ending (parameter_abstract ps s k p) = mark RightParen ∷ function_ending k
  abstract_ending (type_name_abstract s k) = mark RightParen ∷ type_name_ending k

-- ## The ending of a state

-- parameters and a body
abbrev pub definition_ending : List Token
definition_ending = mark LeftParen ∷ mark RightParen ∷ mark LeftBrace ∷ mark RightBrace ∷ []

-- whether a name here may be that of a function definition
abbrev pub may_head : Chain → DeclaratorContext → Bool
may_head c k = may_define (declared_name 0 []) c k

abbrev pub after_declarator_ending : Declarator → Chain → DeclaratorContext → List Token
after_declarator_ending (function d p ps q) c k = function_ending (of_declarator d c k)
after_declarator_ending (declared_name p x) c k = cond (may_head c k) definition_ending (chain_ending c (declarator_ending k))
after_declarator_ending d c k = chain_ending c (declarator_ending k)

abbrev pub after_abstract_ending : AbstractDeclarator → Chain → AbstractContext → List Token
after_abstract_ending no_declarator c k = mark LeftBracket ∷ mark RightBracket ∷ chain_ending c (abstract_ending k)
after_abstract_ending a c k = chain_ending c (abstract_ending k)

-- where an abstract declarator or a parameter's may stand
abbrev pub at_abstract_ending : Chain → AbstractContext → List Token
at_abstract_ending c (parameter_abstract ps s k p) = fresh_token (suffixed_names k) ∷ chain_ending c (mark RightParen ∷ function_ending k)
at_abstract_ending (opened p c) (type_name_abstract s k) =
    mark LeftBracket ∷ mark RightBracket ∷ mark RightParen ∷ chain_ending c (mark RightParen ∷ type_name_ending k)
at_abstract_ending top (type_name_abstract s k) = mark RightParen ∷ type_name_ending k
at_abstract_ending (starred p qs c) (type_name_abstract s k) = chain_ending c (mark RightParen ∷ type_name_ending k)

abbrev pub at_opened_ending : Chain → AbstractContext → List Token
at_opened_ending c (parameter_abstract ps s k p) = fresh_token (suffixed_names k) ∷ mark RightParen ∷ chain_ending c (mark RightParen ∷ function_ending k)
at_opened_ending c (type_name_abstract s k) = mark RightParen ∷ chain_ending c (mark RightParen ∷ type_name_ending k)

abbrev pub at_specifiers_ending : Specifiers → SpecifiersContext → List Token
at_specifiers_ending s k = cond (has_type s) (specifiers_ending k) (mark (TypeKeyword Int) ∷ specifiers_ending k)

abbrev pub condition_ending : Head → StatementContext → List Token
condition_ending if_head k = mark Semicolon ∷ statement_ending k
condition_ending while_head k = mark Semicolon ∷ statement_ending k
condition_ending switch_head k = mark LeftBrace ∷ mark RightBrace ∷ statement_ending k

-- tokens that end what was read as a file
unfoldable pub ending : State → List Token
ending (at_file f) = []
ending (at_items is k) = mark RightBrace ∷ items_ending k
ending (at_statement k) = mark Semicolon ∷ statement_ending k
ending (after_statement s k) = statement_ending k
ending (at_labels k) = mark RightBrace ∷ groups_ending k
ending (after_default k p) = mark Colon ∷ label_ending k
ending (at_condition h p k) = mark LeftParen ∷ zero_token ∷ mark RightParen ∷ condition_ending h k
ending (at_do_condition p s w k) = mark LeftParen ∷ zero_token ∷ mark RightParen ∷ mark Semicolon ∷ statement_ending k
ending (after_do p s w q e l k) = mark Semicolon ∷ statement_ending k
ending (at_for p k) = mark LeftParen ∷ mark Semicolon ∷ mark Semicolon ∷ mark RightParen ∷ mark Semicolon ∷ statement_ending k
ending (at_for_first p q k) = mark Semicolon ∷ mark Semicolon ∷ mark RightParen ∷ mark Semicolon ∷ statement_ending k
ending (at_for_test p q f k) = mark Semicolon ∷ mark RightParen ∷ mark Semicolon ∷ statement_ending k
ending (at_for_step p q f c m k) = mark RightParen ∷ mark Semicolon ∷ statement_ending k
ending (at_switch_body p q e l k) = mark LeftBrace ∷ mark RightBrace ∷ statement_ending k
ending (at_jump p j k) = mark Semicolon ∷ statement_ending k
ending (at_return p k) = mark Semicolon ∷ statement_ending k
ending (at_initializer k) = zero_token ∷ initializer_ending k
ending (at_list_comma k p xs e q) = mark RightBrace ∷ initializer_ending k
ending (after_list k p xs e c l) = initializer_ending k
ending (at_specifiers s k) = at_specifiers_ending s k
ending (at_composite s p w k) = token (Name (120 ∷ [])) 0 ∷ specifiers_ending k
ending (at_enum s p k) = token (Name (120 ∷ [])) 0 ∷ specifiers_ending k
ending (at_members ms k) = cond (has_members ms) (mark RightBrace ∷ composite_ending k) (mark (TypeKeyword Int) ∷ specifiers_ending (in_member ms k))
ending (at_enumerator k) = fresh_token (enum_context_names k) ∷ mark RightBrace ∷ enum_ending k
ending (after_enumerator es p x k) = mark RightBrace ∷ enum_ending k
ending (after_enumerator_comma es e p k) = mark RightBrace ∷ enum_ending k
ending (at_declarator c k) = fresh_token (declarator_context_names k) ∷ cond (may_head c k) definition_ending (chain_ending c (declarator_ending k))
ending (after_declarator d c k) = after_declarator_ending d c k
ending (at_abstract c k) = at_abstract_ending c k
ending (at_opened c p k) = at_opened_ending c k
ending (after_abstract a c k) = after_abstract_ending a c k
ending (at_length k p) = mark RightBracket ∷ array_ending k
ending (at_parameters k p) = mark RightParen ∷ function_ending k
ending (at_expression k) = zero_token ∷ expression_ending k
ending (after_postfix e k) = expression_ending k
ending (after_sizeof e k) = expression_ending k
ending (at_open p k) = zero_token ∷ mark RightParen ∷ expression_ending k
ending (at_sizeof p k) = zero_token ∷ expression_ending k
ending (at_sizeof_open p q k) = mark (TypeKeyword Int) ∷ mark RightParen ∷ expression_ending k
ending (at_arguments f p k) = mark RightParen ∷ expression_ending k
ending (at_access e p o k) = token (Name (120 ∷ [])) 0 ∷ expression_ending k
