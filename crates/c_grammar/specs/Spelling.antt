-- Which derivations are of the grammar (ISO C99 6.5 to 6.9, a profile), and which tokens a file spells. The yield says what stands where; the conditions here say what the productions leave open: how tightly operators bind, which identifiers are typedef names, which specifiers stand together, to which `if` an `else` belongs.
use Rattle.std.specs.Prelude.{◌≡◌, ℕ, ◌+◌, ◌<◌, ◌≤◌, Bool, true, false, cond, nat_eq, nat_le, List, [], ◌∷◌, ◌++◌, Option, Some, None, bytes_eq, ◌&&◌, ◌||◌}
use Rattle.c_grammar.specs.Tokens.{Identifier, Operator, LogicalOr, LogicalAnd, BitOr, BitXor, Ampersand, Equal, NotEqual, Less, Greater, LessEqual, GreaterEqual, ShiftLeft, ShiftRight, Plus, Minus, Star, Slash, Percent, Complement, Not, TypeWord, Void, Char, Short, Int, Long, Float, Double, Signed, Unsigned, StorageClass, Extern, Static, Typedef, Token}
use Rattle.c_grammar.specs.Derivations.{TypeWords, first_word, next_word, Expression, identifier, constant, parenthesized, index, call_without, call, member, step_after, step_before, unary, sizeof_expression, sizeof_type, cast, binary, conditional, assignment, Arguments, no_arguments, argument, TypeName, type_name, Specifiers, no_specifiers, storage_class, qualifier, inlined, type_words, typedef_name, composite_reference, composite, enum_reference, enumeration, Members, no_members, members, Declarators, no_declarators, declarators, Enumerator, enumerator, enumerator_value, Enumerators, no_enumerators, enumerators, Declarator, declared_name, pointer, parenthesized_declarator, array, function, Length, no_length, length_of, AbstractDeclarator, no_declarator, abstract_pointer, parenthesized_abstract, abstract_array, abstract_function, Parameters, no_parameters, void_parameter, parameters, EarlierParameters, no_earlier, earlier, Parameter, named_parameter, unnamed_parameter, Initializer, no_initializer, initializer, initializer_list, InitDeclarator, init_declarator, InitDeclarators, no_init_declarators, init_declarators, Declaration, specifiers_alone, declaration, ForFirst, for_nothing, for_expression, for_declaration, Label, case_label, default_label, Labels, first_label, next_label, Statement, block, empty_statement, expression_statement, if_statement, if_else, while_statement, do_statement, for_statement, switch_statement, jump_statement, return_statement, Items, no_items, declaration_item, statement_item, Groups, no_groups, group, File, empty_file, external_declaration, function_definition}
use Rattle.c_grammar.specs.Yield.{file_yield}

-- ## Typedef names: those declared so far, the last first (6.7.7). They hold from the end of their declarator to the end of the file.

abbrev pub is_typedef : List Identifier → Identifier → Bool
is_typedef [] x = false
is_typedef (y ∷ ns) x = cond (bytes_eq x y) true (is_typedef ns x)

-- the identifier that a declarator declares
abbrev pub name_of : Declarator → Identifier
name_of (declared_name p x) = x
name_of (pointer p qs d) = name_of d
name_of (parenthesized_declarator p d q) = name_of d
name_of (array d p n q) = name_of d
name_of (function d p ps q) = name_of d

abbrev pub is_typedef_word : StorageClass → Bool
is_typedef_word Typedef = true
is_typedef_word Extern = false
is_typedef_word Static = false

-- whether the specifiers hold `typedef`
abbrev pub declares_types : Specifiers → Bool
declares_types no_specifiers = false
declares_types (storage_class s p w) = cond (is_typedef_word w) true (declares_types s)
declares_types (qualifier s p q) = declares_types s
declares_types (inlined s p) = declares_types s
declares_types (type_words s ws) = declares_types s
declares_types (typedef_name s p x) = declares_types s
declares_types (composite_reference s p w q x) = declares_types s
declares_types (composite s p w t q ms l) = declares_types s
declares_types (enum_reference s p q x) = declares_types s
declares_types (enumeration s p t q es e c l) = declares_types s

-- the typedef names behind a declarator of a declaration
abbrev pub declarator_names : Bool → Declarator → List Identifier → List Identifier
declarator_names true d ns = name_of d ∷ ns
declarator_names false d ns = ns

abbrev pub init_declarator_names : Bool → InitDeclarator → List Identifier → List Identifier
init_declarator_names b (init_declarator d i) ns = declarator_names b d ns

abbrev pub init_declarators_names : Bool → InitDeclarators → List Identifier → List Identifier
init_declarators_names b no_init_declarators ns = ns
init_declarators_names b (init_declarators ds d p) ns = init_declarator_names b d (init_declarators_names b ds ns)

abbrev pub declaration_names : Declaration → List Identifier → List Identifier
declaration_names (specifiers_alone s p) ns = ns
declaration_names (declaration s ds d p) ns = init_declarator_names (declares_types s) d (init_declarators_names (declares_types s) ds ns)

abbrev pub for_first_names : ForFirst → List Identifier → List Identifier
for_first_names (for_nothing p) ns = ns
for_first_names (for_expression e p) ns = ns
for_first_names (for_declaration d) ns = declaration_names d ns

abbrev mutual
  pub statement_names : Statement → List Identifier → List Identifier
  statement_names (block p is q) ns = items_names is ns
  statement_names (empty_statement p) ns = ns
  statement_names (expression_statement e p) ns = ns
  statement_names (if_statement p q e l s) ns = statement_names s ns
  statement_names (if_else p q e l a m b) ns = statement_names b (statement_names a ns)
  statement_names (while_statement p q e l s) ns = statement_names s ns
  statement_names (do_statement p s w q e l m) ns = statement_names s ns
  statement_names (for_statement p q f c m u l s) ns = statement_names s (for_first_names f ns)
  statement_names (switch_statement p q e l m gs n) ns = groups_names gs ns
  statement_names (jump_statement p j q) ns = ns
  statement_names (return_statement p e q) ns = ns

  pub items_names : Items → List Identifier → List Identifier
  items_names no_items ns = ns
  items_names (declaration_item is d) ns = declaration_names d (items_names is ns)
  items_names (statement_item is s) ns = statement_names s (items_names is ns)

  pub groups_names : Groups → List Identifier → List Identifier
  groups_names no_groups ns = ns
  groups_names (group gs ls is) ns = items_names is (groups_names gs ns)

abbrev pub file_names : File → List Identifier
file_names empty_file = []
file_names (external_declaration f d) = declaration_names d (file_names f)
file_names (function_definition f s d p is q) = items_names is (file_names f)

-- ## Specifiers (6.7.1 to 6.7.4)

-- how often a word stands among the words of a type
abbrev pub same_word : TypeWord → TypeWord → ℕ
same_word Void Void = 1
same_word Char Char = 1
same_word Short Short = 1
same_word Int Int = 1
same_word Long Long = 1
same_word Float Float = 1
same_word Double Double = 1
same_word Signed Signed = 1
same_word Unsigned Unsigned = 1
same_word v w = 0

abbrev pub count : TypeWord → TypeWords → ℕ
count w (first_word p v) = same_word w v
count w (next_word ws p v) = count w ws + same_word w v

abbrev pub word_count : TypeWords → ℕ
word_count (first_word p v) = 1
word_count (next_word ws p v) = word_count ws + 1

-- at most one of `signed` and `unsigned`, and at most one `int`
abbrev pub one_sign : TypeWords → Bool
one_sign ws = nat_le (count Signed ws + count Unsigned ws) 1

abbrev pub one_int : TypeWords → Bool
one_int ws = nat_le (count Int ws) 1

-- whether the words, in any order, name a type (6.7.2): one of these sums is the number of all words
abbrev pub names_type : TypeWords → Bool
names_type ws =
    (nat_eq (word_count ws) 1)
    || ((nat_eq (count Char ws) 1) && one_sign ws && (nat_eq (word_count ws) (1 + (count Signed ws + count Unsigned ws))))
    || ((nat_eq (count Short ws) 1) && one_int ws && one_sign ws && (nat_eq (word_count ws) (1 + count Int ws + (count Signed ws + count Unsigned ws))))
    || ((nat_le (count Long ws) 2) && one_int ws && one_sign ws && (nat_eq (word_count ws) (count Long ws + count Int ws + (count Signed ws + count Unsigned ws))))
    || ((nat_eq (count Long ws) 1) && (nat_eq (count Double ws) 1) && (nat_eq (word_count ws) 2))

abbrev pub has_type : Specifiers → Bool
has_type no_specifiers = false
has_type (storage_class s p w) = has_type s
has_type (qualifier s p q) = has_type s
has_type (inlined s p) = has_type s
has_type (type_words s ws) = true
has_type (typedef_name s p x) = true
has_type (composite_reference s p w q x) = true
has_type (composite s p w t q ms l) = true
has_type (enum_reference s p q x) = true
has_type (enumeration s p t q es e c l) = true

abbrev pub has_storage : Specifiers → Bool
has_storage no_specifiers = false
has_storage (storage_class s p w) = true
has_storage (qualifier s p q) = has_storage s
has_storage (inlined s p) = has_storage s
has_storage (type_words s ws) = has_storage s
has_storage (typedef_name s p x) = has_storage s
has_storage (composite_reference s p w q x) = has_storage s
has_storage (composite s p w t q ms l) = has_storage s
has_storage (enum_reference s p q x) = has_storage s
has_storage (enumeration s p t q es e c l) = has_storage s

-- whether neither a storage class nor `inline` stands there
abbrev pub is_plain : Specifiers → Bool
is_plain no_specifiers = true
is_plain (storage_class s p w) = false
is_plain (qualifier s p q) = is_plain s
is_plain (inlined s p) = false
is_plain (type_words s ws) = is_plain s
is_plain (typedef_name s p x) = is_plain s
is_plain (composite_reference s p w q x) = is_plain s
is_plain (composite s p w t q ms l) = is_plain s
is_plain (enum_reference s p q x) = is_plain s
is_plain (enumeration s p t q es e c l) = is_plain s

abbrev pub has_members : Members → Bool
has_members no_members = false
has_members (members ms s ds d p) = true

-- ## Declarators

-- whether brackets or parentheses may follow: the declarator begins with no `*`
abbrev pub is_direct : Declarator → Bool
is_direct (declared_name p x) = true
is_direct (pointer p qs d) = false
is_direct (parenthesized_declarator p d q) = true
is_direct (array d p n q) = true
is_direct (function d p ps q) = true

abbrev pub is_direct_abstract : AbstractDeclarator → Bool
is_direct_abstract no_declarator = true
is_direct_abstract (abstract_pointer p qs a) = false
is_direct_abstract (parenthesized_abstract p a q) = true
is_direct_abstract (abstract_array a p n q) = true
is_direct_abstract (abstract_function a p ps q) = true

abbrev pub is_some_declarator : AbstractDeclarator → Bool
is_some_declarator no_declarator = false
is_some_declarator (abstract_pointer p qs a) = true
is_some_declarator (parenthesized_abstract p a q) = true
is_some_declarator (abstract_array a p n q) = true
is_some_declarator (abstract_function a p ps q) = true

-- the head of a function definition: `*` and qualifiers, a name and its parameters
abbrev pub is_function_head : Declarator → Bool
is_function_head (pointer p qs d) = is_function_head d
is_function_head (function (declared_name p x) q ps l) = true
is_function_head _ = false

abbrev pub is_void_word : TypeWord → Bool
is_void_word Void = true
is_void_word _ = false

-- the word `void` alone
abbrev pub is_void : Specifiers → Bool
is_void (type_words no_specifiers (first_word p w)) = is_void_word w
is_void _ = false

-- whether a parameter list would be the lone word `void`, which is a list without parameters (6.7.5.3)
abbrev pub is_lone_void : EarlierParameters → Parameter → Bool
is_lone_void no_earlier (unnamed_parameter s no_declarator) = is_void s
is_lone_void _ _ = false

-- ## Expressions: how tightly they bind (6.5)

abbrev pub precedence : Operator → ℕ
precedence LogicalOr = 3
precedence LogicalAnd = 4
precedence BitOr = 5
precedence BitXor = 6
precedence Ampersand = 7
precedence Equal = 8
precedence NotEqual = 8
precedence Less = 9
precedence Greater = 9
precedence LessEqual = 9
precedence GreaterEqual = 9
precedence ShiftLeft = 10
precedence ShiftRight = 10
precedence Plus = 11
precedence Minus = 11
precedence Star = 12
precedence Slash = 12
precedence Percent = 12
precedence Complement = 0
precedence Not = 0

abbrev pub is_unary : Operator → Bool
is_unary Ampersand = true
is_unary Star = true
is_unary Plus = true
is_unary Minus = true
is_unary Complement = true
is_unary Not = true
is_unary _ = false

-- 1 an assignment, 2 a conditional expression, 3 to 12 a binary operator's, 13 a cast, 14 a unary expression, 15 a postfix expression
abbrev pub level : Expression → ℕ
level (identifier p x) = 15
level (constant p n) = 15
level (parenthesized p e q) = 15
level (index e p i q) = 15
level (call_without f p q) = 15
level (call f p xs e q) = 15
level (member e p o q x) = 15
level (step_after e p o) = 15
level (step_before p o e) = 14
level (unary p o e) = 14
level (sizeof_expression p e) = 14
level (sizeof_type p q t l) = 14
level (cast p t q e) = 13
level (binary a p o b) = precedence o
level (conditional c p a q b) = 2
level (assignment a p o b) = 1

-- ## What is of the grammar, behind these typedef names

abbrev mutual
  pub ExpressionOk : List Identifier → Expression → Type 0
  ExpressionOk ns (identifier p x) = is_typedef ns x ≡ false
  ExpressionOk ns (constant p n) = Unit {0}
  ExpressionOk ns (parenthesized p e q) = ExpressionOk ns e
  ExpressionOk ns (index e p i q) = ExpressionOk ns e × (15 ≤ level e) × ExpressionOk ns i
  ExpressionOk ns (call_without f p q) = ExpressionOk ns f × (15 ≤ level f)
  ExpressionOk ns (call f p xs e q) = ExpressionOk ns f × (15 ≤ level f) × ArgumentsOk ns xs × ExpressionOk ns e
  ExpressionOk ns (member e p o q x) = ExpressionOk ns e × (15 ≤ level e)
  ExpressionOk ns (step_after e p o) = ExpressionOk ns e × (15 ≤ level e)
  ExpressionOk ns (step_before p o e) = ExpressionOk ns e × (14 ≤ level e)
  ExpressionOk ns (unary p o e) = (is_unary o ≡ true) × ExpressionOk ns e × (13 ≤ level e)
  ExpressionOk ns (sizeof_expression p e) = ExpressionOk ns e × (14 ≤ level e)
  ExpressionOk ns (sizeof_type p q t l) = TypeNameOk ns t
  ExpressionOk ns (cast p t q e) = TypeNameOk ns t × ExpressionOk ns e × (13 ≤ level e)
  ExpressionOk ns (binary a p o b) = (3 ≤ precedence o) × ExpressionOk ns a × (precedence o ≤ level a) × ExpressionOk ns b × (precedence o < level b)
  ExpressionOk ns (conditional c p a q b) = ExpressionOk ns c × (3 ≤ level c) × ExpressionOk ns a × ExpressionOk ns b × (2 ≤ level b)
  ExpressionOk ns (assignment a p o b) = ExpressionOk ns a × (14 ≤ level a) × ExpressionOk ns b

  pub ArgumentsOk : List Identifier → Arguments → Type 0
  ArgumentsOk ns no_arguments = Unit {0}
  ArgumentsOk ns (argument xs e p) = ArgumentsOk ns xs × ExpressionOk ns e

  pub TypeNameOk : List Identifier → TypeName → Type 0
  TypeNameOk ns (type_name s a) = SpecifiersOk ns s × (has_type s ≡ true) × (is_plain s ≡ true) × AbstractOk ns a

  -- at most one storage class, at most one type; qualifiers and `inline` may stand again
  pub SpecifiersOk : List Identifier → Specifiers → Type 0
  SpecifiersOk ns no_specifiers = Unit {0}
  SpecifiersOk ns (storage_class s p w) = SpecifiersOk ns s × (has_storage s ≡ false)
  SpecifiersOk ns (qualifier s p q) = SpecifiersOk ns s
  SpecifiersOk ns (inlined s p) = SpecifiersOk ns s
  SpecifiersOk ns (type_words s ws) = SpecifiersOk ns s × (has_type s ≡ false) × (names_type ws ≡ true)
  SpecifiersOk ns (typedef_name s p x) = SpecifiersOk ns s × (has_type s ≡ false) × (is_typedef ns x ≡ true)
  SpecifiersOk ns (composite_reference s p w q x) = SpecifiersOk ns s × (has_type s ≡ false)
  SpecifiersOk ns (composite s p w t q ms l) = SpecifiersOk ns s × (has_type s ≡ false) × MembersOk ns ms × (has_members ms ≡ true)
  SpecifiersOk ns (enum_reference s p q x) = SpecifiersOk ns s × (has_type s ≡ false)
  SpecifiersOk ns (enumeration s p t q es e c l) = SpecifiersOk ns s × (has_type s ≡ false) × EnumeratorsOk ns es × EnumeratorOk ns e

  pub MembersOk : List Identifier → Members → Type 0
  MembersOk ns no_members = Unit {0}
  MembersOk ns (members ms s ds d p) =
      MembersOk ns ms × SpecifiersOk ns s × (has_type s ≡ true) × (is_plain s ≡ true) × DeclaratorsOk ns ds × DeclaratorOk ns d

  pub DeclaratorsOk : List Identifier → Declarators → Type 0
  DeclaratorsOk ns no_declarators = Unit {0}
  DeclaratorsOk ns (declarators ds d p) = DeclaratorsOk ns ds × DeclaratorOk ns d

  pub EnumeratorOk : List Identifier → Enumerator → Type 0
  EnumeratorOk ns (enumerator p x) = is_typedef ns x ≡ false
  EnumeratorOk ns (enumerator_value p x q e) = (is_typedef ns x ≡ false) × ExpressionOk ns e × (2 ≤ level e)

  pub EnumeratorsOk : List Identifier → Enumerators → Type 0
  EnumeratorsOk ns no_enumerators = Unit {0}
  EnumeratorsOk ns (enumerators es e p) = EnumeratorsOk ns es × EnumeratorOk ns e

  pub DeclaratorOk : List Identifier → Declarator → Type 0
  DeclaratorOk ns (declared_name p x) = is_typedef ns x ≡ false
  DeclaratorOk ns (pointer p qs d) = DeclaratorOk ns d
  DeclaratorOk ns (parenthesized_declarator p d q) = DeclaratorOk ns d
  DeclaratorOk ns (array d p n q) = DeclaratorOk ns d × (is_direct d ≡ true) × LengthOk ns n
  DeclaratorOk ns (function d p ps q) = DeclaratorOk ns d × (is_direct d ≡ true) × ParametersOk ns ps

  pub LengthOk : List Identifier → Length → Type 0
  LengthOk ns no_length = Unit {0}
  LengthOk ns (length_of e) = ExpressionOk ns e × (2 ≤ level e)

  pub AbstractOk : List Identifier → AbstractDeclarator → Type 0
  AbstractOk ns no_declarator = Unit {0}
  AbstractOk ns (abstract_pointer p qs a) = AbstractOk ns a
  AbstractOk ns (parenthesized_abstract p a q) = AbstractOk ns a × (is_some_declarator a ≡ true)
  AbstractOk ns (abstract_array a p n q) = AbstractOk ns a × (is_direct_abstract a ≡ true) × LengthOk ns n
  AbstractOk ns (abstract_function a p ps q) = AbstractOk ns a × (is_direct_abstract a ≡ true) × ParametersOk ns ps

  pub ParametersOk : List Identifier → Parameters → Type 0
  ParametersOk ns no_parameters = Unit {0}
  ParametersOk ns (void_parameter p) = Unit {0}
  ParametersOk ns (parameters ps x) = EarlierOk ns ps × ParameterOk ns x × (is_lone_void ps x ≡ false)

  pub EarlierOk : List Identifier → EarlierParameters → Type 0
  EarlierOk ns no_earlier = Unit {0}
  EarlierOk ns (earlier ps x p) = EarlierOk ns ps × ParameterOk ns x

  pub ParameterOk : List Identifier → Parameter → Type 0
  ParameterOk ns (named_parameter s d) = SpecifiersOk ns s × (has_type s ≡ true) × (is_plain s ≡ true) × DeclaratorOk ns d
  ParameterOk ns (unnamed_parameter s a) = SpecifiersOk ns s × (has_type s ≡ true) × (is_plain s ≡ true) × AbstractOk ns a

abbrev pub InitializerOk : List Identifier → Initializer → Type 0
InitializerOk ns no_initializer = Unit {0}
InitializerOk ns (initializer p e) = ExpressionOk ns e
InitializerOk ns (initializer_list p q xs e c l) = ArgumentsOk ns xs × ExpressionOk ns e

-- a declarator with its initializer, which is behind the declarator's own name
abbrev pub InitDeclaratorOk : Bool → List Identifier → InitDeclarator → Type 0
InitDeclaratorOk b ns (init_declarator d i) = DeclaratorOk ns d × InitializerOk (declarator_names b d ns) i

abbrev pub InitDeclaratorsOk : Bool → List Identifier → InitDeclarators → Type 0
InitDeclaratorsOk b ns no_init_declarators = Unit {0}
InitDeclaratorsOk b ns (init_declarators ds d p) = InitDeclaratorsOk b ns ds × InitDeclaratorOk b (init_declarators_names b ds ns) d

abbrev pub DeclarationOk : List Identifier → Declaration → Type 0
DeclarationOk ns (specifiers_alone s p) = SpecifiersOk ns s × (has_type s ≡ true)
DeclarationOk ns (declaration s ds d p) =
    SpecifiersOk ns s × (has_type s ≡ true) × InitDeclaratorsOk (declares_types s) ns ds
    × InitDeclaratorOk (declares_types s) (init_declarators_names (declares_types s) ds ns) d

-- ## Statements (6.8)

abbrev pub has_declarators : Declaration → Bool
has_declarators (specifiers_alone s p) = false
has_declarators (declaration s ds d p) = true

abbrev pub OptionalOk : List Identifier → Option Expression → Type 0
OptionalOk ns None = Unit {0}
OptionalOk ns (Some e) = ExpressionOk ns e

abbrev pub ForFirstOk : List Identifier → ForFirst → Type 0
ForFirstOk ns (for_nothing p) = Unit {0}
ForFirstOk ns (for_expression e p) = ExpressionOk ns e
ForFirstOk ns (for_declaration d) = DeclarationOk ns d × (has_declarators d ≡ true)

abbrev pub LabelOk : List Identifier → Label → Type 0
LabelOk ns (case_label p e q) = ExpressionOk ns e × (2 ≤ level e)
LabelOk ns (default_label p q) = Unit {0}

abbrev pub LabelsOk : List Identifier → Labels → Type 0
LabelsOk ns (first_label l) = LabelOk ns l
LabelsOk ns (next_label ls l) = LabelsOk ns ls × LabelOk ns l

-- whether an `else` behind the statement would belong to it
abbrev pub takes_else : Statement → Bool
takes_else (if_statement p q e l s) = true
takes_else (if_else p q e l a m b) = takes_else b
takes_else (while_statement p q e l s) = takes_else s
takes_else (for_statement p q f c m u l s) = takes_else s
takes_else (block p is q) = false
takes_else (empty_statement p) = false
takes_else (expression_statement e p) = false
takes_else (do_statement p s w q e l m) = false
takes_else (switch_statement p q e l m gs n) = false
takes_else (jump_statement p j q) = false
takes_else (return_statement p e q) = false

abbrev pub has_items : Items → Bool
has_items no_items = false
has_items (declaration_item is d) = true
has_items (statement_item is s) = true

-- whether the last group has items: labels that stand together are of one group
abbrev pub ends_with_items : Groups → Bool
ends_with_items no_groups = true
ends_with_items (group gs ls is) = has_items is

abbrev mutual
  pub StatementOk : List Identifier → Statement → Type 0
  StatementOk ns (block p is q) = ItemsOk ns is
  StatementOk ns (empty_statement p) = Unit {0}
  StatementOk ns (expression_statement e p) = ExpressionOk ns e
  StatementOk ns (if_statement p q e l s) = ExpressionOk ns e × StatementOk ns s
  StatementOk ns (if_else p q e l a m b) = ExpressionOk ns e × StatementOk ns a × (takes_else a ≡ false) × StatementOk (statement_names a ns) b
  StatementOk ns (while_statement p q e l s) = ExpressionOk ns e × StatementOk ns s
  StatementOk ns (do_statement p s w q e l m) = StatementOk ns s × ExpressionOk (statement_names s ns) e
  StatementOk ns (for_statement p q f c m u l s) =
      ForFirstOk ns f × OptionalOk (for_first_names f ns) c × OptionalOk (for_first_names f ns) u × StatementOk (for_first_names f ns) s
  StatementOk ns (switch_statement p q e l m gs n) = ExpressionOk ns e × GroupsOk ns gs
  StatementOk ns (jump_statement p j q) = Unit {0}
  StatementOk ns (return_statement p e q) = OptionalOk ns e

  pub ItemsOk : List Identifier → Items → Type 0
  ItemsOk ns no_items = Unit {0}
  ItemsOk ns (declaration_item is d) = ItemsOk ns is × DeclarationOk (items_names is ns) d
  ItemsOk ns (statement_item is s) = ItemsOk ns is × StatementOk (items_names is ns) s

  pub GroupsOk : List Identifier → Groups → Type 0
  GroupsOk ns no_groups = Unit {0}
  GroupsOk ns (group gs ls is) =
      GroupsOk ns gs × (ends_with_items gs ≡ true) × LabelsOk (groups_names gs ns) ls × ItemsOk (groups_names gs ns) is

-- ## Files (6.9)

abbrev pub FileOk : File → Type 0
FileOk empty_file = Unit {0}
FileOk (external_declaration f d) = FileOk f × DeclarationOk (file_names f) d
FileOk (function_definition f s d p is q) =
    FileOk f × SpecifiersOk (file_names f) s × (has_type s ≡ true) × (declares_types s ≡ false) × DeclaratorOk (file_names f) d
    × (is_function_head d ≡ true) × ItemsOk (file_names f) is

-- The file is of the grammar, and these are its tokens.
abbrev pub Spells : File → List Token → Type 0
Spells f ts = FileOk f × (file_yield f [] ≡ ts)

-- Some file of the grammar begins with these tokens.
abbrev pub Begins : List Token → Type 0
Begins ts = (f : File) × (more : List Token) × Spells f (ts ++ more)
