-- Nestings are below nestings token by token, or the same as far as the first ones go.
use Rattle.std.proofs.Common.{◌≡◌, ℕ, ◌<◌, ◌≤◌, Bool, cond, List, [], ◌∷◌, Option, refl, ◌∙◌, ap, arith, length, get_or, suc, zero}
use Rattle.c_grammar.specs.Derivations.{Qualifiers, TypeWords, Tag, Trailing, Expression, Arguments, TypeName, Specifiers, Members, Declarators, Enumerator, Enumerators, Declarator, Length, AbstractDeclarator, Parameters, EarlierParameters, Parameter, Initializer, InitDeclarator, InitDeclarators, Declaration, ForFirst, Label, Labels, Statement, Items, Groups, File}
use Rattle.c_grammar.specs.Contexts.{StatementContext, ItemsContext, GroupsContext, LabelContext, DeclarationContext, InitializerContext, StatementHole, Frame, Chain, ExpressionContext, Hole, Suffixed, SpecifiersContext, TypeNameContext, CompositeContext, EnumContext, DeclaratorContext, AbstractContext}
use Rattle.c_grammar.specs.Machine.{State}
use Rattle.c_grammar.specs.Nesting.{qualifiers_nest, words_nest, tag_nest, trailing_nest, expression_nest, arguments_nest, type_name_nest, specifiers_nest, members_nest, declarators_nest, enumerator_nest, enumerators_nest, declarator_nest, inner_nest, length_nest, abstract_nest, direct_nest, parameters_nest, earlier_nest, parameter_nest, initializer_nest, init_declarator_nest, init_declarators_nest, declaration_nest, optional_nest, for_first_nest, label_nest, labels_nest, statement_nest, items_nest, groups_nest, file_nest}
use Rattle.c_grammar.proofs.Nests.{statement_nests, items_nests, groups_nests, label_nests, declaration_nests, initializer_nests, statement_hole_nests, frame_nest, chain_nest, abstract_chain_nest, head_nest, expression_nests, hole_nests, array_nests, function_nests, specifiers_nests, type_name_nests, composite_nests, enum_nests, declarator_nests, abstract_nests, at_declarator_nests, after_name_nests, after_declarator_nests, at_abstract_nests, state_nest}
use Rattle.c_grammar.proofs.Each.{Each, each_refl, each_cond, qualifiers_each, words_each, tag_each, trailing_each, expression_each, arguments_each, type_name_each, specifiers_each, members_each, declarators_each, enumerator_each, enumerators_each, declarator_each, inner_each, length_each, abstract_each, direct_each, parameters_each, earlier_each, parameter_each, initializer_each, init_declarator_each, init_declarators_each, declaration_each, optional_each, for_first_each, label_each, labels_each, statement_each, items_each, groups_each, file_each, statement_eachs, items_eachs, groups_eachs, label_eachs, declaration_eachs, initializer_eachs, statement_hole_eachs, frame_each, chain_each, abstract_chain_each, head_each, expression_eachs, hole_eachs, array_eachs, function_eachs, specifiers_eachs, type_name_eachs, composite_eachs, enum_eachs, declarator_eachs, abstract_eachs, at_declarator_eachs, after_name_eachs, after_declarator_eachs, at_abstract_eachs, state_each}

pub le_same : (n : ℕ) → n ≤ n
le_same n = omega arith

pub le_up : (m n : ℕ) → m ≤ n → suc m ≤ suc n
le_up m n h = omega arith

pub eq_same : (n : ℕ) → n ≡ n
eq_same n = refl

pub eq_up : (m n : ℕ) → m ≡ n → suc m ≡ suc n
eq_up m n h = ap suc h

-- the first nestings are at most the second ones
unfoldable pub Le : List ℕ → List ℕ → Type 0
Le xs ys = Each (λ m n. m ≤ n) le_same le_up xs ys

pub le_nil : (ys : List ℕ) → Le [] ys
unfolding Le
le_nil ys = tt

pub le_cons : (m n : ℕ) (xs ys : List ℕ) → m ≤ n → Le xs ys → Le (m ∷ xs) (n ∷ ys)
unfolding Le
le_cons m n xs ys h k = (h, k)

pub le_list : (xs : List ℕ) → Le xs xs
unfolding Le
le_list xs = each_refl (λ m n. m ≤ n) le_same le_up xs

pub le_cond : (b : Bool) (x x' y y' : List ℕ) → Le x x' → Le y y' → Le (cond b x y) (cond b x' y')
unfolding Le
le_cond b x x' y y' h k = each_cond (λ m n. m ≤ n) le_same le_up b x x' y y' h k

pub qualifiers_le : (x0 : Qualifiers) (n n' : ℕ) (r r' : List ℕ) → n ≤ n' → Le r r' → Le (qualifiers_nest x0 n r) (qualifiers_nest x0 n' r')
unfolding Le
qualifiers_le x0 n n' r r' h0 h1 = qualifiers_each (λ m n. m ≤ n) le_same le_up x0 n n' r r' h0 h1

pub words_le : (x0 : TypeWords) (n n' : ℕ) (r r' : List ℕ) → n ≤ n' → Le r r' → Le (words_nest x0 n r) (words_nest x0 n' r')
unfolding Le
words_le x0 n n' r r' h0 h1 = words_each (λ m n. m ≤ n) le_same le_up x0 n n' r r' h0 h1

pub tag_le : (x0 : Tag) (n n' : ℕ) (r r' : List ℕ) → n ≤ n' → Le r r' → Le (tag_nest x0 n r) (tag_nest x0 n' r')
unfolding Le
tag_le x0 n n' r r' h0 h1 = tag_each (λ m n. m ≤ n) le_same le_up x0 n n' r r' h0 h1

pub trailing_le : (x0 : Trailing) (n n' : ℕ) (r r' : List ℕ) → n ≤ n' → Le r r' → Le (trailing_nest x0 n r) (trailing_nest x0 n' r')
unfolding Le
trailing_le x0 n n' r r' h0 h1 = trailing_each (λ m n. m ≤ n) le_same le_up x0 n n' r r' h0 h1

pub expression_le : (x0 : Expression) (n n' : ℕ) (r r' : List ℕ) → n ≤ n' → Le r r' → Le (expression_nest x0 n r) (expression_nest x0 n' r')
unfolding Le
expression_le x0 n n' r r' h0 h1 = expression_each (λ m n. m ≤ n) le_same le_up x0 n n' r r' h0 h1

pub arguments_le : (x0 : Arguments) (n n' : ℕ) (r r' : List ℕ) → n ≤ n' → Le r r' → Le (arguments_nest x0 n r) (arguments_nest x0 n' r')
unfolding Le
arguments_le x0 n n' r r' h0 h1 = arguments_each (λ m n. m ≤ n) le_same le_up x0 n n' r r' h0 h1

pub type_name_le : (x0 : TypeName) (n n' : ℕ) (r r' : List ℕ) → n ≤ n' → Le r r' → Le (type_name_nest x0 n r) (type_name_nest x0 n' r')
unfolding Le
type_name_le x0 n n' r r' h0 h1 = type_name_each (λ m n. m ≤ n) le_same le_up x0 n n' r r' h0 h1

pub specifiers_le : (x0 : Specifiers) (n n' : ℕ) (r r' : List ℕ) → n ≤ n' → Le r r' → Le (specifiers_nest x0 n r) (specifiers_nest x0 n' r')
unfolding Le
specifiers_le x0 n n' r r' h0 h1 = specifiers_each (λ m n. m ≤ n) le_same le_up x0 n n' r r' h0 h1

pub members_le : (x0 : Members) (n n' : ℕ) (r r' : List ℕ) → n ≤ n' → Le r r' → Le (members_nest x0 n r) (members_nest x0 n' r')
unfolding Le
members_le x0 n n' r r' h0 h1 = members_each (λ m n. m ≤ n) le_same le_up x0 n n' r r' h0 h1

pub declarators_le : (x0 : Declarators) (n n' : ℕ) (r r' : List ℕ) → n ≤ n' → Le r r' → Le (declarators_nest x0 n r) (declarators_nest x0 n' r')
unfolding Le
declarators_le x0 n n' r r' h0 h1 = declarators_each (λ m n. m ≤ n) le_same le_up x0 n n' r r' h0 h1

pub enumerator_le : (x0 : Enumerator) (n n' : ℕ) (r r' : List ℕ) → n ≤ n' → Le r r' → Le (enumerator_nest x0 n r) (enumerator_nest x0 n' r')
unfolding Le
enumerator_le x0 n n' r r' h0 h1 = enumerator_each (λ m n. m ≤ n) le_same le_up x0 n n' r r' h0 h1

pub enumerators_le : (x0 : Enumerators) (n n' : ℕ) (r r' : List ℕ) → n ≤ n' → Le r r' → Le (enumerators_nest x0 n r) (enumerators_nest x0 n' r')
unfolding Le
enumerators_le x0 n n' r r' h0 h1 = enumerators_each (λ m n. m ≤ n) le_same le_up x0 n n' r r' h0 h1

pub declarator_le : (x0 : Declarator) (n n' : ℕ) (r r' : List ℕ) → n ≤ n' → Le r r' → Le (declarator_nest x0 n r) (declarator_nest x0 n' r')
unfolding Le
declarator_le x0 n n' r r' h0 h1 = declarator_each (λ m n. m ≤ n) le_same le_up x0 n n' r r' h0 h1

pub inner_le : (x0 : Declarator) (n n' : ℕ) (r r' : List ℕ) → n ≤ n' → Le r r' → Le (inner_nest x0 n r) (inner_nest x0 n' r')
unfolding Le
inner_le x0 n n' r r' h0 h1 = inner_each (λ m n. m ≤ n) le_same le_up x0 n n' r r' h0 h1

pub length_le : (x0 : Length) (n n' : ℕ) (r r' : List ℕ) → n ≤ n' → Le r r' → Le (length_nest x0 n r) (length_nest x0 n' r')
unfolding Le
length_le x0 n n' r r' h0 h1 = length_each (λ m n. m ≤ n) le_same le_up x0 n n' r r' h0 h1

pub abstract_le : (x0 : AbstractDeclarator) (n n' : ℕ) (r r' : List ℕ) → n ≤ n' → Le r r' → Le (abstract_nest x0 n r) (abstract_nest x0 n' r')
unfolding Le
abstract_le x0 n n' r r' h0 h1 = abstract_each (λ m n. m ≤ n) le_same le_up x0 n n' r r' h0 h1

pub direct_le : (x0 : AbstractDeclarator) (n n' : ℕ) (r r' : List ℕ) → n ≤ n' → Le r r' → Le (direct_nest x0 n r) (direct_nest x0 n' r')
unfolding Le
direct_le x0 n n' r r' h0 h1 = direct_each (λ m n. m ≤ n) le_same le_up x0 n n' r r' h0 h1

pub parameters_le : (x0 : Parameters) (n n' : ℕ) (r r' : List ℕ) → n ≤ n' → Le r r' → Le (parameters_nest x0 n r) (parameters_nest x0 n' r')
unfolding Le
parameters_le x0 n n' r r' h0 h1 = parameters_each (λ m n. m ≤ n) le_same le_up x0 n n' r r' h0 h1

pub earlier_le : (x0 : EarlierParameters) (n n' : ℕ) (r r' : List ℕ) → n ≤ n' → Le r r' → Le (earlier_nest x0 n r) (earlier_nest x0 n' r')
unfolding Le
earlier_le x0 n n' r r' h0 h1 = earlier_each (λ m n. m ≤ n) le_same le_up x0 n n' r r' h0 h1

pub parameter_le : (x0 : Parameter) (n n' : ℕ) (r r' : List ℕ) → n ≤ n' → Le r r' → Le (parameter_nest x0 n r) (parameter_nest x0 n' r')
unfolding Le
parameter_le x0 n n' r r' h0 h1 = parameter_each (λ m n. m ≤ n) le_same le_up x0 n n' r r' h0 h1

pub initializer_le : (x0 : Initializer) (n n' : ℕ) (r r' : List ℕ) → n ≤ n' → Le r r' → Le (initializer_nest x0 n r) (initializer_nest x0 n' r')
unfolding Le
initializer_le x0 n n' r r' h0 h1 = initializer_each (λ m n. m ≤ n) le_same le_up x0 n n' r r' h0 h1

pub init_declarator_le : (x0 : InitDeclarator) (n n' : ℕ) (r r' : List ℕ) → n ≤ n' → Le r r' → Le (init_declarator_nest x0 n r) (init_declarator_nest x0 n' r')
unfolding Le
init_declarator_le x0 n n' r r' h0 h1 = init_declarator_each (λ m n. m ≤ n) le_same le_up x0 n n' r r' h0 h1

pub init_declarators_le : (x0 : InitDeclarators) (n n' : ℕ) (r r' : List ℕ) → n ≤ n' → Le r r' → Le (init_declarators_nest x0 n r) (init_declarators_nest x0 n' r')
unfolding Le
init_declarators_le x0 n n' r r' h0 h1 = init_declarators_each (λ m n. m ≤ n) le_same le_up x0 n n' r r' h0 h1

pub declaration_le : (x0 : Declaration) (n n' : ℕ) (r r' : List ℕ) → n ≤ n' → Le r r' → Le (declaration_nest x0 n r) (declaration_nest x0 n' r')
unfolding Le
declaration_le x0 n n' r r' h0 h1 = declaration_each (λ m n. m ≤ n) le_same le_up x0 n n' r r' h0 h1

pub optional_le : (x0 : Option Expression) (n n' : ℕ) (r r' : List ℕ) → n ≤ n' → Le r r' → Le (optional_nest x0 n r) (optional_nest x0 n' r')
unfolding Le
optional_le x0 n n' r r' h0 h1 = optional_each (λ m n. m ≤ n) le_same le_up x0 n n' r r' h0 h1

pub for_first_le : (x0 : ForFirst) (n n' : ℕ) (r r' : List ℕ) → n ≤ n' → Le r r' → Le (for_first_nest x0 n r) (for_first_nest x0 n' r')
unfolding Le
for_first_le x0 n n' r r' h0 h1 = for_first_each (λ m n. m ≤ n) le_same le_up x0 n n' r r' h0 h1

pub label_le : (x0 : Label) (n n' : ℕ) (r r' : List ℕ) → n ≤ n' → Le r r' → Le (label_nest x0 n r) (label_nest x0 n' r')
unfolding Le
label_le x0 n n' r r' h0 h1 = label_each (λ m n. m ≤ n) le_same le_up x0 n n' r r' h0 h1

pub labels_le : (x0 : Labels) (n n' : ℕ) (r r' : List ℕ) → n ≤ n' → Le r r' → Le (labels_nest x0 n r) (labels_nest x0 n' r')
unfolding Le
labels_le x0 n n' r r' h0 h1 = labels_each (λ m n. m ≤ n) le_same le_up x0 n n' r r' h0 h1

pub statement_le : (x0 : Statement) (n n' : ℕ) (r r' : List ℕ) → n ≤ n' → Le r r' → Le (statement_nest x0 n r) (statement_nest x0 n' r')
unfolding Le
statement_le x0 n n' r r' h0 h1 = statement_each (λ m n. m ≤ n) le_same le_up x0 n n' r r' h0 h1

pub items_le : (x0 : Items) (n n' : ℕ) (r r' : List ℕ) → n ≤ n' → Le r r' → Le (items_nest x0 n r) (items_nest x0 n' r')
unfolding Le
items_le x0 n n' r r' h0 h1 = items_each (λ m n. m ≤ n) le_same le_up x0 n n' r r' h0 h1

pub groups_le : (x0 : Groups) (n n' : ℕ) (r r' : List ℕ) → n ≤ n' → Le r r' → Le (groups_nest x0 n r) (groups_nest x0 n' r')
unfolding Le
groups_le x0 n n' r r' h0 h1 = groups_each (λ m n. m ≤ n) le_same le_up x0 n n' r r' h0 h1

pub file_le : (x0 : File) (r r' : List ℕ) → Le r r' → Le (file_nest x0 r) (file_nest x0 r')
unfolding Le
file_le x0 r r' h0 = file_each (λ m n. m ≤ n) le_same le_up x0 r r' h0

pub statement_les : (x0 : StatementContext) (r r' : List ℕ) → Le r r' → Le (statement_nests x0 r) (statement_nests x0 r')
unfolding Le
statement_les x0 r r' h0 = statement_eachs (λ m n. m ≤ n) le_same le_up x0 r r' h0

pub items_les : (x0 : ItemsContext) (r r' : List ℕ) → Le r r' → Le (items_nests x0 r) (items_nests x0 r')
unfolding Le
items_les x0 r r' h0 = items_eachs (λ m n. m ≤ n) le_same le_up x0 r r' h0

pub groups_les : (x0 : GroupsContext) (r r' : List ℕ) → Le r r' → Le (groups_nests x0 r) (groups_nests x0 r')
unfolding Le
groups_les x0 r r' h0 = groups_eachs (λ m n. m ≤ n) le_same le_up x0 r r' h0

pub label_les : (x0 : LabelContext) (r r' : List ℕ) → Le r r' → Le (label_nests x0 r) (label_nests x0 r')
unfolding Le
label_les x0 r r' h0 = label_eachs (λ m n. m ≤ n) le_same le_up x0 r r' h0

pub declaration_les : (x0 : DeclarationContext) (r r' : List ℕ) → Le r r' → Le (declaration_nests x0 r) (declaration_nests x0 r')
unfolding Le
declaration_les x0 r r' h0 = declaration_eachs (λ m n. m ≤ n) le_same le_up x0 r r' h0

pub initializer_les : (x0 : InitializerContext) (r r' : List ℕ) → Le r r' → Le (initializer_nests x0 r) (initializer_nests x0 r')
unfolding Le
initializer_les x0 r r' h0 = initializer_eachs (λ m n. m ≤ n) le_same le_up x0 r r' h0

pub statement_hole_les : (x0 : StatementHole) (r r' : List ℕ) → Le r r' → Le (statement_hole_nests x0 r) (statement_hole_nests x0 r')
unfolding Le
statement_hole_les x0 r r' h0 = statement_hole_eachs (λ m n. m ≤ n) le_same le_up x0 r r' h0

pub frame_le : (x0 : Frame) (n n' : ℕ) (r r' : List ℕ) → n ≤ n' → Le r r' → Le (frame_nest x0 n r) (frame_nest x0 n' r')
unfolding Le
frame_le x0 n n' r r' h0 h1 = frame_each (λ m n. m ≤ n) le_same le_up x0 n n' r r' h0 h1

pub chain_le : (x0 : Chain) (n : ℕ) (r r' : List ℕ) → Le r r' → Le (chain_nest x0 n r) (chain_nest x0 n r')
unfolding Le
chain_le x0 n r r' h0 = chain_each (λ m n. m ≤ n) le_same le_up x0 n r r' h0

pub abstract_chain_le : (x0 : Chain) (n : ℕ) (r r' : List ℕ) → Le r r' → Le (abstract_chain_nest x0 n r) (abstract_chain_nest x0 n r')
unfolding Le
abstract_chain_le x0 n r r' h0 = abstract_chain_each (λ m n. m ≤ n) le_same le_up x0 n r r' h0

pub head_le : (x0 : Chain) (r r' : List ℕ) → Le r r' → Le (head_nest x0 r) (head_nest x0 r')
unfolding Le
head_le x0 r r' h0 = head_each (λ m n. m ≤ n) le_same le_up x0 r r' h0

pub expression_les : (x0 : ExpressionContext) (r r' : List ℕ) → Le r r' → Le (expression_nests x0 r) (expression_nests x0 r')
unfolding Le
expression_les x0 r r' h0 = expression_eachs (λ m n. m ≤ n) le_same le_up x0 r r' h0

pub hole_les : (x0 : Hole) (r r' : List ℕ) → Le r r' → Le (hole_nests x0 r) (hole_nests x0 r')
unfolding Le
hole_les x0 r r' h0 = hole_eachs (λ m n. m ≤ n) le_same le_up x0 r r' h0

pub array_les : (x0 : Suffixed) (r r' : List ℕ) → Le r r' → Le (array_nests x0 r) (array_nests x0 r')
unfolding Le
array_les x0 r r' h0 = array_eachs (λ m n. m ≤ n) le_same le_up x0 r r' h0

pub function_les : (x0 : Suffixed) (r r' : List ℕ) → Le r r' → Le (function_nests x0 r) (function_nests x0 r')
unfolding Le
function_les x0 r r' h0 = function_eachs (λ m n. m ≤ n) le_same le_up x0 r r' h0

pub specifiers_les : (x0 : SpecifiersContext) (r r' : List ℕ) → Le r r' → Le (specifiers_nests x0 r) (specifiers_nests x0 r')
unfolding Le
specifiers_les x0 r r' h0 = specifiers_eachs (λ m n. m ≤ n) le_same le_up x0 r r' h0

pub type_name_les : (x0 : TypeNameContext) (r r' : List ℕ) → Le r r' → Le (type_name_nests x0 r) (type_name_nests x0 r')
unfolding Le
type_name_les x0 r r' h0 = type_name_eachs (λ m n. m ≤ n) le_same le_up x0 r r' h0

pub composite_les : (x0 : CompositeContext) (r r' : List ℕ) → Le r r' → Le (composite_nests x0 r) (composite_nests x0 r')
unfolding Le
composite_les x0 r r' h0 = composite_eachs (λ m n. m ≤ n) le_same le_up x0 r r' h0

pub enum_les : (x0 : EnumContext) (r r' : List ℕ) → Le r r' → Le (enum_nests x0 r) (enum_nests x0 r')
unfolding Le
enum_les x0 r r' h0 = enum_eachs (λ m n. m ≤ n) le_same le_up x0 r r' h0

pub declarator_les : (x0 : DeclaratorContext) (r r' : List ℕ) → Le r r' → Le (declarator_nests x0 r) (declarator_nests x0 r')
unfolding Le
declarator_les x0 r r' h0 = declarator_eachs (λ m n. m ≤ n) le_same le_up x0 r r' h0

pub abstract_les : (x0 : AbstractContext) (r r' : List ℕ) → Le r r' → Le (abstract_nests x0 r) (abstract_nests x0 r')
unfolding Le
abstract_les x0 r r' h0 = abstract_eachs (λ m n. m ≤ n) le_same le_up x0 r r' h0

pub at_declarator_les : (x0 : Chain) (x1 : DeclaratorContext) (r r' : List ℕ) → Le r r' → Le (at_declarator_nests x0 x1 r) (at_declarator_nests x0 x1 r')
unfolding Le
at_declarator_les x0 x1 r r' h0 = at_declarator_eachs (λ m n. m ≤ n) le_same le_up x0 x1 r r' h0

pub after_name_les : (x0 : Chain) (x1 : DeclaratorContext) (r r' : List ℕ) → Le r r' → Le (after_name_nests x0 x1 r) (after_name_nests x0 x1 r')
unfolding Le
after_name_les x0 x1 r r' h0 = after_name_eachs (λ m n. m ≤ n) le_same le_up x0 x1 r r' h0

pub after_declarator_les : (x0 : Declarator) (x1 : Chain) (x2 : DeclaratorContext) (r r' : List ℕ) → Le r r' → Le (after_declarator_nests x0 x1 x2 r) (after_declarator_nests x0 x1 x2 r')
unfolding Le
after_declarator_les x0 x1 x2 r r' h0 = after_declarator_eachs (λ m n. m ≤ n) le_same le_up x0 x1 x2 r r' h0

pub at_abstract_les : (x0 : AbstractContext) (x1 : Chain) (r r' : List ℕ) → Le r r' → Le (at_abstract_nests x0 x1 r) (at_abstract_nests x0 x1 r')
unfolding Le
at_abstract_les x0 x1 r r' h0 = at_abstract_eachs (λ m n. m ≤ n) le_same le_up x0 x1 r r' h0

pub state_le : (x0 : State) (r r' : List ℕ) → Le r r' → Le (state_nest x0 r) (state_nest x0 r')
unfolding Le
state_le x0 r r' h0 = state_each (λ m n. m ≤ n) le_same le_up x0 r r' h0

-- the second nestings begin with the first ones
unfoldable pub Pre : List ℕ → List ℕ → Type 0
Pre xs ys = Each (λ m n. m ≡ n) eq_same eq_up xs ys

pub pre_nil : (ys : List ℕ) → Pre [] ys
unfolding Pre
pre_nil ys = tt

pub pre_cons : (m n : ℕ) (xs ys : List ℕ) → m ≡ n → Pre xs ys → Pre (m ∷ xs) (n ∷ ys)
unfolding Pre
pre_cons m n xs ys h k = (h, k)

pub pre_list : (xs : List ℕ) → Pre xs xs
unfolding Pre
pre_list xs = each_refl (λ m n. m ≡ n) eq_same eq_up xs

pub pre_cond : (b : Bool) (x x' y y' : List ℕ) → Pre x x' → Pre y y' → Pre (cond b x y) (cond b x' y')
unfolding Pre
pre_cond b x x' y y' h k = each_cond (λ m n. m ≡ n) eq_same eq_up b x x' y y' h k

pub qualifiers_pre : (x0 : Qualifiers) (n n' : ℕ) (r r' : List ℕ) → n ≡ n' → Pre r r' → Pre (qualifiers_nest x0 n r) (qualifiers_nest x0 n' r')
unfolding Pre
qualifiers_pre x0 n n' r r' h0 h1 = qualifiers_each (λ m n. m ≡ n) eq_same eq_up x0 n n' r r' h0 h1

pub words_pre : (x0 : TypeWords) (n n' : ℕ) (r r' : List ℕ) → n ≡ n' → Pre r r' → Pre (words_nest x0 n r) (words_nest x0 n' r')
unfolding Pre
words_pre x0 n n' r r' h0 h1 = words_each (λ m n. m ≡ n) eq_same eq_up x0 n n' r r' h0 h1

pub tag_pre : (x0 : Tag) (n n' : ℕ) (r r' : List ℕ) → n ≡ n' → Pre r r' → Pre (tag_nest x0 n r) (tag_nest x0 n' r')
unfolding Pre
tag_pre x0 n n' r r' h0 h1 = tag_each (λ m n. m ≡ n) eq_same eq_up x0 n n' r r' h0 h1

pub trailing_pre : (x0 : Trailing) (n n' : ℕ) (r r' : List ℕ) → n ≡ n' → Pre r r' → Pre (trailing_nest x0 n r) (trailing_nest x0 n' r')
unfolding Pre
trailing_pre x0 n n' r r' h0 h1 = trailing_each (λ m n. m ≡ n) eq_same eq_up x0 n n' r r' h0 h1

pub expression_pre : (x0 : Expression) (n n' : ℕ) (r r' : List ℕ) → n ≡ n' → Pre r r' → Pre (expression_nest x0 n r) (expression_nest x0 n' r')
unfolding Pre
expression_pre x0 n n' r r' h0 h1 = expression_each (λ m n. m ≡ n) eq_same eq_up x0 n n' r r' h0 h1

pub arguments_pre : (x0 : Arguments) (n n' : ℕ) (r r' : List ℕ) → n ≡ n' → Pre r r' → Pre (arguments_nest x0 n r) (arguments_nest x0 n' r')
unfolding Pre
arguments_pre x0 n n' r r' h0 h1 = arguments_each (λ m n. m ≡ n) eq_same eq_up x0 n n' r r' h0 h1

pub type_name_pre : (x0 : TypeName) (n n' : ℕ) (r r' : List ℕ) → n ≡ n' → Pre r r' → Pre (type_name_nest x0 n r) (type_name_nest x0 n' r')
unfolding Pre
type_name_pre x0 n n' r r' h0 h1 = type_name_each (λ m n. m ≡ n) eq_same eq_up x0 n n' r r' h0 h1

pub specifiers_pre : (x0 : Specifiers) (n n' : ℕ) (r r' : List ℕ) → n ≡ n' → Pre r r' → Pre (specifiers_nest x0 n r) (specifiers_nest x0 n' r')
unfolding Pre
specifiers_pre x0 n n' r r' h0 h1 = specifiers_each (λ m n. m ≡ n) eq_same eq_up x0 n n' r r' h0 h1

pub members_pre : (x0 : Members) (n n' : ℕ) (r r' : List ℕ) → n ≡ n' → Pre r r' → Pre (members_nest x0 n r) (members_nest x0 n' r')
unfolding Pre
members_pre x0 n n' r r' h0 h1 = members_each (λ m n. m ≡ n) eq_same eq_up x0 n n' r r' h0 h1

pub declarators_pre : (x0 : Declarators) (n n' : ℕ) (r r' : List ℕ) → n ≡ n' → Pre r r' → Pre (declarators_nest x0 n r) (declarators_nest x0 n' r')
unfolding Pre
declarators_pre x0 n n' r r' h0 h1 = declarators_each (λ m n. m ≡ n) eq_same eq_up x0 n n' r r' h0 h1

pub enumerator_pre : (x0 : Enumerator) (n n' : ℕ) (r r' : List ℕ) → n ≡ n' → Pre r r' → Pre (enumerator_nest x0 n r) (enumerator_nest x0 n' r')
unfolding Pre
enumerator_pre x0 n n' r r' h0 h1 = enumerator_each (λ m n. m ≡ n) eq_same eq_up x0 n n' r r' h0 h1

pub enumerators_pre : (x0 : Enumerators) (n n' : ℕ) (r r' : List ℕ) → n ≡ n' → Pre r r' → Pre (enumerators_nest x0 n r) (enumerators_nest x0 n' r')
unfolding Pre
enumerators_pre x0 n n' r r' h0 h1 = enumerators_each (λ m n. m ≡ n) eq_same eq_up x0 n n' r r' h0 h1

pub declarator_pre : (x0 : Declarator) (n n' : ℕ) (r r' : List ℕ) → n ≡ n' → Pre r r' → Pre (declarator_nest x0 n r) (declarator_nest x0 n' r')
unfolding Pre
declarator_pre x0 n n' r r' h0 h1 = declarator_each (λ m n. m ≡ n) eq_same eq_up x0 n n' r r' h0 h1

pub inner_pre : (x0 : Declarator) (n n' : ℕ) (r r' : List ℕ) → n ≡ n' → Pre r r' → Pre (inner_nest x0 n r) (inner_nest x0 n' r')
unfolding Pre
inner_pre x0 n n' r r' h0 h1 = inner_each (λ m n. m ≡ n) eq_same eq_up x0 n n' r r' h0 h1

pub length_pre : (x0 : Length) (n n' : ℕ) (r r' : List ℕ) → n ≡ n' → Pre r r' → Pre (length_nest x0 n r) (length_nest x0 n' r')
unfolding Pre
length_pre x0 n n' r r' h0 h1 = length_each (λ m n. m ≡ n) eq_same eq_up x0 n n' r r' h0 h1

pub abstract_pre : (x0 : AbstractDeclarator) (n n' : ℕ) (r r' : List ℕ) → n ≡ n' → Pre r r' → Pre (abstract_nest x0 n r) (abstract_nest x0 n' r')
unfolding Pre
abstract_pre x0 n n' r r' h0 h1 = abstract_each (λ m n. m ≡ n) eq_same eq_up x0 n n' r r' h0 h1

pub direct_pre : (x0 : AbstractDeclarator) (n n' : ℕ) (r r' : List ℕ) → n ≡ n' → Pre r r' → Pre (direct_nest x0 n r) (direct_nest x0 n' r')
unfolding Pre
direct_pre x0 n n' r r' h0 h1 = direct_each (λ m n. m ≡ n) eq_same eq_up x0 n n' r r' h0 h1

pub parameters_pre : (x0 : Parameters) (n n' : ℕ) (r r' : List ℕ) → n ≡ n' → Pre r r' → Pre (parameters_nest x0 n r) (parameters_nest x0 n' r')
unfolding Pre
parameters_pre x0 n n' r r' h0 h1 = parameters_each (λ m n. m ≡ n) eq_same eq_up x0 n n' r r' h0 h1

pub earlier_pre : (x0 : EarlierParameters) (n n' : ℕ) (r r' : List ℕ) → n ≡ n' → Pre r r' → Pre (earlier_nest x0 n r) (earlier_nest x0 n' r')
unfolding Pre
earlier_pre x0 n n' r r' h0 h1 = earlier_each (λ m n. m ≡ n) eq_same eq_up x0 n n' r r' h0 h1

pub parameter_pre : (x0 : Parameter) (n n' : ℕ) (r r' : List ℕ) → n ≡ n' → Pre r r' → Pre (parameter_nest x0 n r) (parameter_nest x0 n' r')
unfolding Pre
parameter_pre x0 n n' r r' h0 h1 = parameter_each (λ m n. m ≡ n) eq_same eq_up x0 n n' r r' h0 h1

pub initializer_pre : (x0 : Initializer) (n n' : ℕ) (r r' : List ℕ) → n ≡ n' → Pre r r' → Pre (initializer_nest x0 n r) (initializer_nest x0 n' r')
unfolding Pre
initializer_pre x0 n n' r r' h0 h1 = initializer_each (λ m n. m ≡ n) eq_same eq_up x0 n n' r r' h0 h1

pub init_declarator_pre : (x0 : InitDeclarator) (n n' : ℕ) (r r' : List ℕ) → n ≡ n' → Pre r r' → Pre (init_declarator_nest x0 n r) (init_declarator_nest x0 n' r')
unfolding Pre
init_declarator_pre x0 n n' r r' h0 h1 = init_declarator_each (λ m n. m ≡ n) eq_same eq_up x0 n n' r r' h0 h1

pub init_declarators_pre : (x0 : InitDeclarators) (n n' : ℕ) (r r' : List ℕ) → n ≡ n' → Pre r r' → Pre (init_declarators_nest x0 n r) (init_declarators_nest x0 n' r')
unfolding Pre
init_declarators_pre x0 n n' r r' h0 h1 = init_declarators_each (λ m n. m ≡ n) eq_same eq_up x0 n n' r r' h0 h1

pub declaration_pre : (x0 : Declaration) (n n' : ℕ) (r r' : List ℕ) → n ≡ n' → Pre r r' → Pre (declaration_nest x0 n r) (declaration_nest x0 n' r')
unfolding Pre
declaration_pre x0 n n' r r' h0 h1 = declaration_each (λ m n. m ≡ n) eq_same eq_up x0 n n' r r' h0 h1

pub optional_pre : (x0 : Option Expression) (n n' : ℕ) (r r' : List ℕ) → n ≡ n' → Pre r r' → Pre (optional_nest x0 n r) (optional_nest x0 n' r')
unfolding Pre
optional_pre x0 n n' r r' h0 h1 = optional_each (λ m n. m ≡ n) eq_same eq_up x0 n n' r r' h0 h1

pub for_first_pre : (x0 : ForFirst) (n n' : ℕ) (r r' : List ℕ) → n ≡ n' → Pre r r' → Pre (for_first_nest x0 n r) (for_first_nest x0 n' r')
unfolding Pre
for_first_pre x0 n n' r r' h0 h1 = for_first_each (λ m n. m ≡ n) eq_same eq_up x0 n n' r r' h0 h1

pub label_pre : (x0 : Label) (n n' : ℕ) (r r' : List ℕ) → n ≡ n' → Pre r r' → Pre (label_nest x0 n r) (label_nest x0 n' r')
unfolding Pre
label_pre x0 n n' r r' h0 h1 = label_each (λ m n. m ≡ n) eq_same eq_up x0 n n' r r' h0 h1

pub labels_pre : (x0 : Labels) (n n' : ℕ) (r r' : List ℕ) → n ≡ n' → Pre r r' → Pre (labels_nest x0 n r) (labels_nest x0 n' r')
unfolding Pre
labels_pre x0 n n' r r' h0 h1 = labels_each (λ m n. m ≡ n) eq_same eq_up x0 n n' r r' h0 h1

pub statement_pre : (x0 : Statement) (n n' : ℕ) (r r' : List ℕ) → n ≡ n' → Pre r r' → Pre (statement_nest x0 n r) (statement_nest x0 n' r')
unfolding Pre
statement_pre x0 n n' r r' h0 h1 = statement_each (λ m n. m ≡ n) eq_same eq_up x0 n n' r r' h0 h1

pub items_pre : (x0 : Items) (n n' : ℕ) (r r' : List ℕ) → n ≡ n' → Pre r r' → Pre (items_nest x0 n r) (items_nest x0 n' r')
unfolding Pre
items_pre x0 n n' r r' h0 h1 = items_each (λ m n. m ≡ n) eq_same eq_up x0 n n' r r' h0 h1

pub groups_pre : (x0 : Groups) (n n' : ℕ) (r r' : List ℕ) → n ≡ n' → Pre r r' → Pre (groups_nest x0 n r) (groups_nest x0 n' r')
unfolding Pre
groups_pre x0 n n' r r' h0 h1 = groups_each (λ m n. m ≡ n) eq_same eq_up x0 n n' r r' h0 h1

pub file_pre : (x0 : File) (r r' : List ℕ) → Pre r r' → Pre (file_nest x0 r) (file_nest x0 r')
unfolding Pre
file_pre x0 r r' h0 = file_each (λ m n. m ≡ n) eq_same eq_up x0 r r' h0

pub statement_pres : (x0 : StatementContext) (r r' : List ℕ) → Pre r r' → Pre (statement_nests x0 r) (statement_nests x0 r')
unfolding Pre
statement_pres x0 r r' h0 = statement_eachs (λ m n. m ≡ n) eq_same eq_up x0 r r' h0

pub items_pres : (x0 : ItemsContext) (r r' : List ℕ) → Pre r r' → Pre (items_nests x0 r) (items_nests x0 r')
unfolding Pre
items_pres x0 r r' h0 = items_eachs (λ m n. m ≡ n) eq_same eq_up x0 r r' h0

pub groups_pres : (x0 : GroupsContext) (r r' : List ℕ) → Pre r r' → Pre (groups_nests x0 r) (groups_nests x0 r')
unfolding Pre
groups_pres x0 r r' h0 = groups_eachs (λ m n. m ≡ n) eq_same eq_up x0 r r' h0

pub label_pres : (x0 : LabelContext) (r r' : List ℕ) → Pre r r' → Pre (label_nests x0 r) (label_nests x0 r')
unfolding Pre
label_pres x0 r r' h0 = label_eachs (λ m n. m ≡ n) eq_same eq_up x0 r r' h0

pub declaration_pres : (x0 : DeclarationContext) (r r' : List ℕ) → Pre r r' → Pre (declaration_nests x0 r) (declaration_nests x0 r')
unfolding Pre
declaration_pres x0 r r' h0 = declaration_eachs (λ m n. m ≡ n) eq_same eq_up x0 r r' h0

pub initializer_pres : (x0 : InitializerContext) (r r' : List ℕ) → Pre r r' → Pre (initializer_nests x0 r) (initializer_nests x0 r')
unfolding Pre
initializer_pres x0 r r' h0 = initializer_eachs (λ m n. m ≡ n) eq_same eq_up x0 r r' h0

pub statement_hole_pres : (x0 : StatementHole) (r r' : List ℕ) → Pre r r' → Pre (statement_hole_nests x0 r) (statement_hole_nests x0 r')
unfolding Pre
statement_hole_pres x0 r r' h0 = statement_hole_eachs (λ m n. m ≡ n) eq_same eq_up x0 r r' h0

pub frame_pre : (x0 : Frame) (n n' : ℕ) (r r' : List ℕ) → n ≡ n' → Pre r r' → Pre (frame_nest x0 n r) (frame_nest x0 n' r')
unfolding Pre
frame_pre x0 n n' r r' h0 h1 = frame_each (λ m n. m ≡ n) eq_same eq_up x0 n n' r r' h0 h1

pub chain_pre : (x0 : Chain) (n : ℕ) (r r' : List ℕ) → Pre r r' → Pre (chain_nest x0 n r) (chain_nest x0 n r')
unfolding Pre
chain_pre x0 n r r' h0 = chain_each (λ m n. m ≡ n) eq_same eq_up x0 n r r' h0

pub abstract_chain_pre : (x0 : Chain) (n : ℕ) (r r' : List ℕ) → Pre r r' → Pre (abstract_chain_nest x0 n r) (abstract_chain_nest x0 n r')
unfolding Pre
abstract_chain_pre x0 n r r' h0 = abstract_chain_each (λ m n. m ≡ n) eq_same eq_up x0 n r r' h0

pub head_pre : (x0 : Chain) (r r' : List ℕ) → Pre r r' → Pre (head_nest x0 r) (head_nest x0 r')
unfolding Pre
head_pre x0 r r' h0 = head_each (λ m n. m ≡ n) eq_same eq_up x0 r r' h0

pub expression_pres : (x0 : ExpressionContext) (r r' : List ℕ) → Pre r r' → Pre (expression_nests x0 r) (expression_nests x0 r')
unfolding Pre
expression_pres x0 r r' h0 = expression_eachs (λ m n. m ≡ n) eq_same eq_up x0 r r' h0

pub hole_pres : (x0 : Hole) (r r' : List ℕ) → Pre r r' → Pre (hole_nests x0 r) (hole_nests x0 r')
unfolding Pre
hole_pres x0 r r' h0 = hole_eachs (λ m n. m ≡ n) eq_same eq_up x0 r r' h0

pub array_pres : (x0 : Suffixed) (r r' : List ℕ) → Pre r r' → Pre (array_nests x0 r) (array_nests x0 r')
unfolding Pre
array_pres x0 r r' h0 = array_eachs (λ m n. m ≡ n) eq_same eq_up x0 r r' h0

pub function_pres : (x0 : Suffixed) (r r' : List ℕ) → Pre r r' → Pre (function_nests x0 r) (function_nests x0 r')
unfolding Pre
function_pres x0 r r' h0 = function_eachs (λ m n. m ≡ n) eq_same eq_up x0 r r' h0

pub specifiers_pres : (x0 : SpecifiersContext) (r r' : List ℕ) → Pre r r' → Pre (specifiers_nests x0 r) (specifiers_nests x0 r')
unfolding Pre
specifiers_pres x0 r r' h0 = specifiers_eachs (λ m n. m ≡ n) eq_same eq_up x0 r r' h0

pub type_name_pres : (x0 : TypeNameContext) (r r' : List ℕ) → Pre r r' → Pre (type_name_nests x0 r) (type_name_nests x0 r')
unfolding Pre
type_name_pres x0 r r' h0 = type_name_eachs (λ m n. m ≡ n) eq_same eq_up x0 r r' h0

pub composite_pres : (x0 : CompositeContext) (r r' : List ℕ) → Pre r r' → Pre (composite_nests x0 r) (composite_nests x0 r')
unfolding Pre
composite_pres x0 r r' h0 = composite_eachs (λ m n. m ≡ n) eq_same eq_up x0 r r' h0

pub enum_pres : (x0 : EnumContext) (r r' : List ℕ) → Pre r r' → Pre (enum_nests x0 r) (enum_nests x0 r')
unfolding Pre
enum_pres x0 r r' h0 = enum_eachs (λ m n. m ≡ n) eq_same eq_up x0 r r' h0

pub declarator_pres : (x0 : DeclaratorContext) (r r' : List ℕ) → Pre r r' → Pre (declarator_nests x0 r) (declarator_nests x0 r')
unfolding Pre
declarator_pres x0 r r' h0 = declarator_eachs (λ m n. m ≡ n) eq_same eq_up x0 r r' h0

pub abstract_pres : (x0 : AbstractContext) (r r' : List ℕ) → Pre r r' → Pre (abstract_nests x0 r) (abstract_nests x0 r')
unfolding Pre
abstract_pres x0 r r' h0 = abstract_eachs (λ m n. m ≡ n) eq_same eq_up x0 r r' h0

pub at_declarator_pres : (x0 : Chain) (x1 : DeclaratorContext) (r r' : List ℕ) → Pre r r' → Pre (at_declarator_nests x0 x1 r) (at_declarator_nests x0 x1 r')
unfolding Pre
at_declarator_pres x0 x1 r r' h0 = at_declarator_eachs (λ m n. m ≡ n) eq_same eq_up x0 x1 r r' h0

pub after_name_pres : (x0 : Chain) (x1 : DeclaratorContext) (r r' : List ℕ) → Pre r r' → Pre (after_name_nests x0 x1 r) (after_name_nests x0 x1 r')
unfolding Pre
after_name_pres x0 x1 r r' h0 = after_name_eachs (λ m n. m ≡ n) eq_same eq_up x0 x1 r r' h0

pub after_declarator_pres : (x0 : Declarator) (x1 : Chain) (x2 : DeclaratorContext) (r r' : List ℕ) → Pre r r' → Pre (after_declarator_nests x0 x1 x2 r) (after_declarator_nests x0 x1 x2 r')
unfolding Pre
after_declarator_pres x0 x1 x2 r r' h0 = after_declarator_eachs (λ m n. m ≡ n) eq_same eq_up x0 x1 x2 r r' h0

pub at_abstract_pres : (x0 : AbstractContext) (x1 : Chain) (r r' : List ℕ) → Pre r r' → Pre (at_abstract_nests x0 x1 r) (at_abstract_nests x0 x1 r')
unfolding Pre
at_abstract_pres x0 x1 r r' h0 = at_abstract_eachs (λ m n. m ≡ n) eq_same eq_up x0 x1 r r' h0

pub state_pre : (x0 : State) (r r' : List ℕ) → Pre r r' → Pre (state_nest x0 r) (state_nest x0 r')
unfolding Pre
state_pre x0 r r' h0 = state_each (λ m n. m ≡ n) eq_same eq_up x0 r r' h0

-- the first list is below the third where it is below the second, and that below the third
pub le_trans : (xs ys zs : List ℕ) → Le xs ys → Le ys zs → Le xs zs
unfolding Le
le_trans [] ys zs h k = tt
le_trans (x ∷ xs) [] zs h k = absurd h
le_trans (x ∷ xs) (y ∷ ys) [] h k = absurd k
le_trans (x ∷ xs) (y ∷ ys) (z ∷ zs) h k = (omega (arith, h.0, k.0), le_trans xs ys zs h.1 k.1)

pub pre_trans : (xs ys zs : List ℕ) → Pre xs ys → Pre ys zs → Pre xs zs
unfolding Pre
pre_trans [] ys zs h k = tt
pre_trans (x ∷ xs) [] zs h k = absurd h
pre_trans (x ∷ xs) (y ∷ ys) [] h k = absurd k
pre_trans (x ∷ xs) (y ∷ ys) (z ∷ zs) h k = (h.0 ∙ k.0, pre_trans xs ys zs h.1 k.1)

pub le_at : (xs ys : List ℕ) (i : ℕ) → Le xs ys → get_or xs i 0 ≤ get_or ys i 0
unfolding Le
le_at [] ys i h = omega arith
le_at (x ∷ xs) [] i h = absurd h
le_at (x ∷ xs) (y ∷ ys) zero h = h.0
le_at (x ∷ xs) (y ∷ ys) (suc i) h = le_at xs ys i h.1

pub pre_at : (xs ys : List ℕ) (i : ℕ) → Pre xs ys → i < length xs → get_or xs i 0 ≡ get_or ys i 0
unfolding Pre
pre_at [] ys i h lt = absurd (omega arith)
pre_at (x ∷ xs) [] i h lt = absurd h
pre_at (x ∷ xs) (y ∷ ys) zero h lt = h.0
pre_at (x ∷ xs) (y ∷ ys) (suc i) h lt = pre_at xs ys i h.1 (omega arith)

pub ruleset rising = (le_nil, le_cons, le_list, qualifiers_le, words_le, tag_le, trailing_le, expression_le, arguments_le, type_name_le, specifiers_le, members_le, declarators_le, enumerator_le, enumerators_le, declarator_le, inner_le, length_le, abstract_le, direct_le, parameters_le, earlier_le, parameter_le, initializer_le, init_declarator_le, init_declarators_le, declaration_le, optional_le, for_first_le, label_le, labels_le, statement_le, items_le, groups_le, file_le, statement_les, items_les, groups_les, label_les, declaration_les, initializer_les, statement_hole_les, frame_le, chain_le, abstract_chain_le, head_le, expression_les, hole_les, array_les, function_les, specifiers_les, type_name_les, composite_les, enum_les, declarator_les, abstract_les, at_declarator_les, after_name_les, after_declarator_les, at_abstract_les, state_le)

pub ruleset kept = (eq_same, pre_nil, pre_cons, pre_list, qualifiers_pre, words_pre, tag_pre, trailing_pre, expression_pre, arguments_pre, type_name_pre, specifiers_pre, members_pre, declarators_pre, enumerator_pre, enumerators_pre, declarator_pre, inner_pre, length_pre, abstract_pre, direct_pre, parameters_pre, earlier_pre, parameter_pre, initializer_pre, init_declarator_pre, init_declarators_pre, declaration_pre, optional_pre, for_first_pre, label_pre, labels_pre, statement_pre, items_pre, groups_pre, file_pre, statement_pres, items_pres, groups_pres, label_pres, declaration_pres, initializer_pres, statement_hole_pres, frame_pre, chain_pre, abstract_chain_pre, head_pre, expression_pres, hole_pres, array_pres, function_pres, specifiers_pres, type_name_pres, composite_pres, enum_pres, declarator_pres, abstract_pres, at_declarator_pres, after_name_pres, after_declarator_pres, at_abstract_pres, state_pre)
