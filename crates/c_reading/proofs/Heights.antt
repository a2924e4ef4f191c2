-- The height of each part that the reader keeps is that of its derivation: how deep its deepest token nests, up to 255.
use Rattle.std.proofs.Common.{◌≡◌, ℕ, ◌≤◌, false, cond, List, [], ◌∷◌, Option, Some, None, suc, min, max, refl, sym, ◌∙◌, ap, subst, arith}
use Rattle.c_reading.proofs.Erase.{add_words, expr_part, arguments_part, type_name_part, specs_part, members_part, declarators_part, with_enumerator, enumerators_part, decl_part, length_part, abstract_part, parameters_part, earlier_part, with_parameter, init_part, with_init, inits_part, decl_of, optional_part, for_first_part, label_part, labels_part, stmt_part, items_part, groups_part}
use Rattle.c_reading.specs.Parts.{deeper, over, SpecifiersPart, EnumeratorsPart, DeclaratorShape, bare, named_function, pointed_function, other_shape, pointed_shape, function_shape, is_bare, declarator_height, abstract_height, ParametersPart, InitsPart}
use Rattle.c_grammar.specs.Derivations.{Qualifiers, no_qualifiers, qualified, TypeWords, first_word, next_word, Tag, no_tag, tag, Trailing, no_comma, comma, Expression, identifier, constant, parenthesized, index, call_without, call, member, step_after, step_before, unary, sizeof_expression, sizeof_type, cast, binary, conditional, assignment, Arguments, no_arguments, argument, TypeName, type_name, Specifiers, no_specifiers, storage_class, qualifier, inlined, type_words, typedef_name, composite_reference, composite, enum_reference, enumeration, Members, no_members, members, Declarators, no_declarators, declarators, Enumerator, enumerator, enumerator_value, Enumerators, no_enumerators, enumerators, Declarator, declared_name, pointer, parenthesized_declarator, array, function, Length, no_length, length_of, AbstractDeclarator, no_declarator, abstract_pointer, parenthesized_abstract, abstract_array, abstract_function, Parameters, no_parameters, void_parameter, parameters, EarlierParameters, no_earlier, earlier, Parameter, named_parameter, unnamed_parameter, Initializer, no_initializer, initializer, initializer_list, InitDeclarator, init_declarator, InitDeclarators, no_init_declarators, init_declarators, Declaration, specifiers_alone, declaration, ForFirst, for_nothing, for_expression, for_declaration, Label, case_label, default_label, Labels, first_label, next_label, Statement, block, empty_statement, expression_statement, if_statement, if_else, while_statement, do_statement, for_statement, switch_statement, jump_statement, return_statement, Items, no_items, declaration_item, statement_item, Groups, no_groups, group}
use Rattle.c_grammar.specs.Nesting.{qualifiers_nest, words_nest, tag_nest, trailing_nest, expression_nest, arguments_nest, type_name_nest, specifiers_nest, members_nest, declarators_nest, enumerator_nest, enumerators_nest, declarator_nest, inner_nest, length_nest, abstract_nest, direct_nest, parameters_nest, earlier_nest, parameter_nest, initializer_nest, init_declarator_nest, init_declarators_nest, declaration_nest, optional_nest, for_first_nest, label_nest, labels_nest, statement_nest, items_nest, groups_nest}

abbrev pub cap : ℕ → ℕ
cap n = min n 255

abbrev pub highest : List ℕ → ℕ
highest [] = 0
highest (n ∷ ns) = max n (highest ns)

-- the nestings of a part, below n marks and before others
abbrev pub Nesting : Type 0
Nesting = ℕ → List ℕ → List ℕ

-- a part of this height, or nothing: its deepest token, or the marks above where it has none, are so deep
pub record IsTall (F : Nesting) (height n : ℕ) (r : List ℕ) : Type 0 where
  pub most : ℕ
  pub whole : highest (F n r) ≡ max most (highest r)
  pub height_is : cap (max n most) ≡ over n height

-- a part of this height with some token
pub record IsSolid (F : Nesting) (height n : ℕ) (r : List ℕ) : Type 0 where
  pub most : ℕ
  pub whole : highest (F n r) ≡ max most (highest r)
  pub some : n ≤ most
  pub height_is : cap most ≡ over n height

abbrev pub Tall : Nesting → ℕ → Type 0
Tall F h = (n : ℕ) (r : List ℕ) → IsTall F h n r

abbrev pub Solid : Nesting → ℕ → Type 0
Solid F h = (n : ℕ) (r : List ℕ) → IsSolid F h n r

pub tall : (F : Nesting) (h : ℕ) → Solid F h → Tall F h
tall F h s n r = record { most = (s n r).most; whole = (s n r).whole; height_is = let a = (s n r).some in let b = (s n r).height_is in omega arith }

pub none : Tall (λ n r. r) 0
none n r = record { most = 0; whole = omega arith; height_is = omega arith }

pub one : Solid (λ n r. n ∷ r) 0
one n r = record { most = n; whole = refl; some = omega arith; height_is = omega arith }

pub seq : (F G : Nesting) (h g : ℕ) → Tall F h → Tall G g → Tall (λ n r. F n (G n r)) (max h g)
seq F G h g f k n r = record {
  most = max (f n (G n r)).most (k n r).most;
  whole = let a = (f n (G n r)).whole in let b = (k n r).whole in omega arith;
  height_is = let a = (f n (G n r)).height_is in let b = (k n r).height_is in omega arith;
}

pub first : (F G : Nesting) (h g : ℕ) → Solid F h → Tall G g → Solid (λ n r. F n (G n r)) (max h g)
first F G h g f k n r = record {
  most = max (f n (G n r)).most (k n r).most;
  whole = let a = (f n (G n r)).whole in let b = (k n r).whole in omega arith;
  some = let a = (f n (G n r)).some in omega arith;
  height_is = let s = (f n (G n r)).some in let a = (f n (G n r)).height_is in let b = (k n r).height_is in omega arith;
}

-- a token before, and one behind
pub before : (F : Nesting) (h : ℕ) → Tall F h → Solid (λ n r. n ∷ F n r) h
before F h f n r = record {
  most = max n (f n r).most;
  whole = let a = (f n r).whole in omega arith;
  some = omega arith;
  height_is = (f n r).height_is;
}

pub behind : (F : Nesting) (h : ℕ) → Tall F h → Solid (λ n r. F n (n ∷ r)) h
behind F h f n r = record {
  most = max n (f n (n ∷ r)).most;
  whole = let a = (f n (n ∷ r)).whole in omega arith;
  some = omega arith;
  height_is = (f n (n ∷ r)).height_is;
}

pub before' : (F : Nesting) (h : ℕ) → Solid F h → Solid (λ n r. n ∷ F n r) h
before' F h f = before F h (tall F h f)

pub behind' : (F : Nesting) (h : ℕ) → Solid F h → Solid (λ n r. F n (n ∷ r)) h
behind' F h f = behind F h (tall F h f)

-- with a token between
pub between : (F G : Nesting) (h g : ℕ) → Tall F h → Tall G g → Solid (λ n r. F n (n ∷ G n r)) (max h g)
between F G h g f k n r = record {
  most = max n (max (f n (n ∷ G n r)).most (k n r).most);
  whole = let a = (f n (n ∷ G n r)).whole in let b = (k n r).whole in omega arith;
  some = omega arith;
  height_is = let a = (f n (n ∷ G n r)).height_is in let b = (k n r).height_is in omega arith;
}

pub between' : (F G : Nesting) (h g : ℕ) → Solid F h → Solid G g → Solid (λ n r. F n (n ∷ G n r)) (max h g)
between' F G h g f k = between F G h g (tall F h f) (tall G g k)

over_deeper : (n h : ℕ) → over (suc n) h ≡ over n (deeper h)
over_deeper n h = omega arith

-- one mark more
pub mark : (F : Nesting) (h : ℕ) → Solid F h → Solid (λ n r. F (suc n) r) (deeper h)
mark F h f n r = record {
  most = (f (suc n) r).most;
  whole = (f (suc n) r).whole;
  some = let a = (f (suc n) r).some in omega arith;
  height_is = (f (suc n) r).height_is ∙ over_deeper n h;
}

-- the same of another height
pub tall_as : (F : Nesting) (h g : ℕ) → h ≡ g → Tall F h → Tall F g
tall_as F h g e f = let P : ℕ → Type 0 = λ x. Tall F x in subst P e f

pub solid_as : (F : Nesting) (h g : ℕ) → h ≡ g → Solid F h → Solid F g
solid_as F h g e f = let P : ℕ → Type 0 = λ x. Solid F x in subst P e f

-- ## Parts without marks

pub qualifiers_tall : (qs : Qualifiers) → Tall (λ n r. qualifiers_nest qs n r) 0
qualifiers_tall no_qualifiers = none
qualifiers_tall (qualified qs p q) = tall _ _ (behind _ _ (qualifiers_tall qs))

words_tall : (ws : TypeWords) → Tall (λ n r. words_nest ws n r) 0
words_tall (first_word p w) = tall _ _ one
words_tall (next_word ws p w) = tall _ _ (behind _ _ (words_tall ws))

pub tag_tall : (t : Tag) → Tall (λ n r. tag_nest t n r) 0
tag_tall no_tag = none
tag_tall (tag p x) = tall _ _ one

pub trailing_tall : (c : Trailing) → Tall (λ n r. trailing_nest c n r) 0
trailing_tall no_comma = none
trailing_tall (comma p) = tall _ _ one

pub zero_max : (h : ℕ) → max h 0 ≡ h
zero_max h = omega arith

pub max_zero : (h : ℕ) → max 0 h ≡ h
max_zero h = omega arith

words_height : (s : SpecifiersPart) (ws : TypeWords) → (add_words s ws).height ≡ s.height
words_height s (first_word p w) = refl
words_height s (next_word ws p w) = words_height s ws

pub pointed_bare : (s : DeclaratorShape) → is_bare (pointed_shape s) ≡ false
pointed_bare bare = refl
pointed_bare named_function = refl
pointed_bare pointed_function = refl
pointed_bare other_shape = refl

pub function_bare : (s : DeclaratorShape) → is_bare (function_shape s) ≡ false
function_bare bare = refl
function_bare named_function = refl
function_bare pointed_function = refl
function_bare other_shape = refl

deeper_max_zero : (h : ℕ) → deeper (max 0 h) ≡ deeper h
deeper_max_zero h = ap deeper (max_zero h)

-- the heights of declarators with marks
pointer_height : (s : DeclaratorShape) (h : ℕ) → deeper (max 0 h) ≡ cond (is_bare (pointed_shape s)) 0 (deeper h)
pointer_height s h = deeper_max_zero h ∙ ap (λ b. cond b 0 (deeper h)) (sym (pointed_bare s))

function_height : (s : DeclaratorShape) (h : ℕ) → deeper h ≡ cond (is_bare (function_shape s)) 0 (deeper h)
function_height s h = ap (λ b. cond b 0 (deeper h)) (sym (function_bare s))

body_height : (s m : ℕ) → max s (max 0 (deeper m)) ≡ max s (deeper m)
body_height s m = omega arith

enumeration_height : (s e : ℕ) → max s (max 0 (max e 0)) ≡ max s e
enumeration_height s e = omega arith

list_height : (a e : ℕ) → deeper (max a (max e 0)) ≡ deeper (max a e)
list_height a e = omega arith

-- ## Expressions, types and declarators

mutual
  pub expr_solid : (e : Expression) → Solid (λ n r. expression_nest e n r) (expr_part e).height
  expr_solid (identifier p x) = one
  expr_solid (constant p n) = one
  expr_solid (parenthesized p e q) = mark _ _ (before' _ _ (behind' _ _ (expr_solid e)))
  expr_solid (index e p i q) = mark _ _ (between' _ _ _ _ (expr_solid e) (behind' _ _ (expr_solid i)))
  expr_solid (call_without f p q) = mark _ _ (between' _ _ _ _ (expr_solid f) one)
  expr_solid (call f p xs e q) = mark _ _ (between _ _ _ _ (tall _ _ (expr_solid f)) (seq _ _ _ _ (arguments_tall xs) (tall _ _ (behind' _ _ (expr_solid e)))))
  expr_solid (member e p o q x) = mark _ _ (behind' _ _ (behind' _ _ (expr_solid e)))
  expr_solid (step_after e p o) = mark _ _ (behind' _ _ (expr_solid e))
  expr_solid (step_before p o e) = mark _ _ (before' _ _ (expr_solid e))
  expr_solid (unary p o e) = mark _ _ (before' _ _ (expr_solid e))
  expr_solid (sizeof_expression p e) = mark _ _ (before' _ _ (expr_solid e))
  expr_solid (sizeof_type p q t l) = mark _ _ (before' _ _ (before' _ _ (behind _ _ (type_tall t))))
  expr_solid (cast p t q e) = mark _ _ (before' _ _ (between _ _ _ _ (type_tall t) (tall _ _ (expr_solid e))))
  expr_solid (binary a p o b) = mark _ _ (between' _ _ _ _ (expr_solid a) (expr_solid b))
  expr_solid (conditional c p a q b) = mark _ _ (between' _ _ _ _ (expr_solid c) (between' _ _ _ _ (expr_solid a) (expr_solid b)))
  expr_solid (assignment a p o b) = mark _ _ (between' _ _ _ _ (expr_solid a) (expr_solid b))

  pub arguments_tall : (xs : Arguments) → Tall (λ n r. arguments_nest xs n r) (arguments_part xs).height
  arguments_tall no_arguments = none
  arguments_tall (argument xs e p) = seq _ _ _ _ (arguments_tall xs) (tall _ _ (behind' _ _ (expr_solid e)))

  pub type_tall : (t : TypeName) → Tall (λ n r. type_name_nest t n r) (type_name_part t).height
  type_tall (type_name s a) = seq _ _ _ _ (specs_tall s) (abstract_tall a)

  pub specs_tall : (s : Specifiers) → Tall (λ n r. specifiers_nest s n r) (specs_part s).height
  specs_tall no_specifiers = none
  specs_tall (storage_class s p w) = tall _ _ (behind _ _ (specs_tall s))
  specs_tall (qualifier s p q) = tall _ _ (behind _ _ (specs_tall s))
  specs_tall (inlined s p) = tall _ _ (behind _ _ (specs_tall s))
  specs_tall (type_words s ws) = tall_as _ _ _ (zero_max (specs_part s).height ∙ sym (words_height (specs_part s) ws)) (seq _ _ _ _ (specs_tall s) (words_tall ws))
  specs_tall (typedef_name s p x) = tall _ _ (behind _ _ (specs_tall s))
  specs_tall (composite_reference s p w q x) = tall _ _ (behind' _ _ (behind _ _ (specs_tall s)))
  specs_tall (composite s p w t q ms l) =
      tall_as _ _ _ (body_height (specs_part s).height (members_part ms).height)
      (tall _ _ (between _ _ _ _ (specs_tall s) (seq _ _ _ _ (tag_tall t) (tall _ _ (mark _ _ (before' _ _ (behind _ _ (members_tall ms))))))))
  specs_tall (enum_reference s p q x) = tall _ _ (behind' _ _ (behind _ _ (specs_tall s)))
  specs_tall (enumeration s p t q es e c l) =
      tall_as _ _ _ (enumeration_height (specs_part s).height (with_enumerator (enumerators_part es) e).height)
      (tall _ _ (between _ _ _ _ (specs_tall s) (seq _ _ _ _ (tag_tall t) (tall _ _ (before _ _ (seq _ _ _ _ (enumerator_tall e (enumerators_part es) (λ n r. enumerators_nest es n r) (enumerators_tall es)) (tall _ _ (behind _ _ (trailing_tall c)))))))))

  pub members_tall : (ms : Members) → Tall (λ n r. members_nest ms n r) (members_part ms).height
  members_tall no_members = none
  members_tall (members ms s ds d p) = seq _ _ _ _ (members_tall ms) (seq _ _ _ _ (specs_tall s) (seq _ _ _ _ (declarators_tall ds) (tall _ _ (behind' _ _ (declarator_solid d)))))

  pub declarators_tall : (ds : Declarators) → Tall (λ n r. declarators_nest ds n r) (declarators_part ds).height
  declarators_tall no_declarators = none
  declarators_tall (declarators ds d p) = seq _ _ _ _ (declarators_tall ds) (tall _ _ (behind' _ _ (declarator_solid d)))

  -- one more enumerator
  pub enumerator_tall : (e : Enumerator) (es : EnumeratorsPart) (F : Nesting) → Tall F es.height → Tall (λ n r. F n (enumerator_nest e n r)) (with_enumerator es e).height
  enumerator_tall (enumerator p x) es F f = tall_as _ _ _ (sym (zero_max es.height)) (tall _ _ (behind F _ f))
  enumerator_tall (enumerator_value p x q e) es F f = tall _ _ (between F _ _ _ f (tall _ _ (before' _ _ (expr_solid e))))

  pub enumerators_tall : (es : Enumerators) → Tall (λ n r. enumerators_nest es n r) (enumerators_part es).height
  enumerators_tall no_enumerators = none
  enumerators_tall (enumerators es e p) = tall _ _ (behind _ _ (enumerator_tall e (enumerators_part es) (λ n r. enumerators_nest es n r) (enumerators_tall es)))

  pub declarator_solid : (d : Declarator) → Solid (λ n r. declarator_nest d n r) (declarator_height (decl_part d))
  declarator_solid (declared_name p x) = one
  declarator_solid (pointer p qs d) =
      solid_as _ _ _ (pointer_height (decl_part d).shape (decl_part d).inner) (mark _ _ (before _ _ (seq _ _ _ _ (qualifiers_tall qs) (tall _ _ (inner_solid d)))))
  declarator_solid (parenthesized_declarator p d q) = mark _ _ (before' _ _ (behind' _ _ (declarator_solid d)))
  declarator_solid (array d p l q) = mark _ _ (between _ _ _ _ (tall _ _ (inner_solid d)) (tall _ _ (behind _ _ (length_tall l))))
  declarator_solid (function d p ps q) =
      solid_as _ _ _ (function_height (decl_part d).shape (max (decl_part d).inner (parameters_part ps).height))
      (mark _ _ (between _ _ _ _ (tall _ _ (inner_solid d)) (tall _ _ (behind _ _ (parameters_tall ps)))))

  pub inner_solid : (d : Declarator) → Solid (λ n r. inner_nest d n r) (decl_part d).inner
  inner_solid (declared_name p x) = one
  inner_solid (pointer p qs d) = solid_as _ _ _ (max_zero (decl_part d).inner) (before _ _ (seq _ _ _ _ (qualifiers_tall qs) (tall _ _ (inner_solid d))))
  inner_solid (parenthesized_declarator p d q) = before' _ _ (behind' _ _ (declarator_solid d))
  inner_solid (array d p l q) = between _ _ _ _ (tall _ _ (inner_solid d)) (tall _ _ (behind _ _ (length_tall l)))
  inner_solid (function d p ps q) = between _ _ _ _ (tall _ _ (inner_solid d)) (tall _ _ (behind _ _ (parameters_tall ps)))

  pub length_tall : (l : Length) → Tall (λ n r. length_nest l n r) (length_part l).height
  length_tall no_length = none
  length_tall (length_of e) = tall _ _ (expr_solid e)

  pub abstract_tall : (a : AbstractDeclarator) → Tall (λ n r. abstract_nest a n r) (abstract_height (abstract_part a))
  abstract_tall no_declarator = none
  abstract_tall (abstract_pointer p qs a) =
      tall_as _ _ _ (deeper_max_zero (abstract_height (abstract_part a))) (tall _ _ (mark _ _ (before _ _ (seq _ _ _ _ (qualifiers_tall qs) (abstract_tall a)))))
  abstract_tall (parenthesized_abstract p a q) = tall _ _ (mark _ _ (before' _ _ (behind _ _ (abstract_tall a))))
  abstract_tall (abstract_array a p l q) = tall _ _ (mark _ _ (between _ _ _ _ (direct_tall a) (tall _ _ (behind _ _ (length_tall l)))))
  abstract_tall (abstract_function a p ps q) = tall _ _ (mark _ _ (between _ _ _ _ (direct_tall a) (tall _ _ (behind _ _ (parameters_tall ps)))))

  pub direct_tall : (a : AbstractDeclarator) → Tall (λ n r. direct_nest a n r) (abstract_part a).inner
  direct_tall no_declarator = none
  direct_tall (abstract_pointer p qs a) = tall_as _ _ _ (max_zero (abstract_height (abstract_part a))) (tall _ _ (before _ _ (seq _ _ _ _ (qualifiers_tall qs) (abstract_tall a))))
  direct_tall (parenthesized_abstract p a q) = tall _ _ (before' _ _ (behind _ _ (abstract_tall a)))
  direct_tall (abstract_array a p l q) = tall _ _ (between _ _ _ _ (direct_tall a) (tall _ _ (behind _ _ (length_tall l))))
  direct_tall (abstract_function a p ps q) = tall _ _ (between _ _ _ _ (direct_tall a) (tall _ _ (behind _ _ (parameters_tall ps))))

  pub parameters_tall : (ps : Parameters) → Tall (λ n r. parameters_nest ps n r) (parameters_part ps).height
  parameters_tall no_parameters = none
  parameters_tall (void_parameter p) = tall _ _ one
  parameters_tall (parameters ps x) = parameter_tall x (earlier_part ps) (λ n r. earlier_nest ps n r) (earlier_tall ps)

  pub earlier_tall : (ps : EarlierParameters) → Tall (λ n r. earlier_nest ps n r) (earlier_part ps).height
  earlier_tall no_earlier = none
  earlier_tall (earlier ps x p) = tall _ _ (behind _ _ (parameter_tall x (earlier_part ps) (λ n r. earlier_nest ps n r) (earlier_tall ps)))

  -- one more parameter
  pub parameter_tall : (x : Parameter) (ps : ParametersPart) (F : Nesting) → Tall F ps.height → Tall (λ n r. F n (parameter_nest x n r)) (with_parameter ps x).height
  parameter_tall (named_parameter s d) ps F f = seq F _ _ _ f (seq _ _ _ _ (specs_tall s) (tall _ _ (declarator_solid d)))
  parameter_tall (unnamed_parameter s a) ps F f = seq F _ _ _ f (seq _ _ _ _ (specs_tall s) (abstract_tall a))

-- ## Declarations

initializer_tall : (i : Initializer) → Tall (λ n r. initializer_nest i n r) (init_part i).height
initializer_tall no_initializer = none
initializer_tall (initializer p e) = tall _ _ (before' _ _ (expr_solid e))
initializer_tall (initializer_list p q xs e c l) =
    tall_as _ _ _ (list_height (arguments_part xs).height (expr_part e).height)
    (tall _ _ (before' _ _ (mark _ _ (before _ _ (seq _ _ _ _ (arguments_tall xs) (seq _ _ _ _ (tall _ _ (expr_solid e)) (tall _ _ (behind _ _ (trailing_tall c)))))))))

pub init_tall : (d : InitDeclarator) (ds : InitsPart) (F : Nesting) → Tall F ds.height → Tall (λ n r. F n (init_declarator_nest d n r)) (with_init ds d).height
init_tall (init_declarator d i) ds F f = seq F _ _ _ f (seq _ _ _ _ (tall _ _ (declarator_solid d)) (initializer_tall i))

pub inits_tall : (ds : InitDeclarators) → Tall (λ n r. init_declarators_nest ds n r) (inits_part ds).height
inits_tall no_init_declarators = none
inits_tall (init_declarators ds d p) = tall _ _ (behind _ _ (init_tall d (inits_part ds) (λ n r. init_declarators_nest ds n r) (inits_tall ds)))

pub declaration_tall : (d : Declaration) → Tall (λ n r. declaration_nest d n r) (decl_of d).height
declaration_tall (specifiers_alone s p) = tall_as _ _ _ (sym (zero_max (specs_part s).height)) (tall _ _ (behind _ _ (specs_tall s)))
declaration_tall (declaration s ds d p) = seq _ _ _ _ (specs_tall s) (tall _ _ (behind _ _ (init_tall d (inits_part ds) (λ n r. init_declarators_nest ds n r) (inits_tall ds))))

-- ## Statements

pub optional_tall : (e : Option Expression) → Tall (λ n r. optional_nest e n r) (optional_part e).height
optional_tall None = none
optional_tall (Some e) = tall _ _ (expr_solid e)

pub for_first_tall : (f : ForFirst) → Tall (λ n r. for_first_nest f n r) (for_first_part f).height
for_first_tall (for_nothing p) = tall _ _ one
for_first_tall (for_expression e p) = tall _ _ (behind' _ _ (expr_solid e))
for_first_tall (for_declaration d) = declaration_tall d

pub label_tall : (l : Label) → Tall (λ n r. label_nest l n r) (label_part l).height
label_tall (case_label p e q) = tall _ _ (before' _ _ (behind' _ _ (expr_solid e)))
label_tall (default_label p q) = tall _ _ (before' _ _ one)

pub labels_tall : (ls : Labels) → Tall (λ n r. labels_nest ls n r) (labels_part ls).height
labels_tall (first_label l) = tall_as _ _ _ (sym (max_zero (label_part l).height)) (label_tall l)
labels_tall (next_label ls l) = seq _ _ _ _ (labels_tall ls) (label_tall l)

mutual
  pub stmt_solid : (s : Statement) → Solid (λ n r. statement_nest s n r) (stmt_part s).height
  stmt_solid (block p is q) = mark _ _ (before' _ _ (behind _ _ (items_tall is)))
  stmt_solid (empty_statement p) = mark _ _ one
  stmt_solid (expression_statement e p) = mark _ _ (behind' _ _ (expr_solid e))
  stmt_solid (if_statement p q e l s) = mark _ _ (before' _ _ (before' _ _ (between' _ _ _ _ (expr_solid e) (stmt_solid s))))
  stmt_solid (if_else p q e l a m b) = mark _ _ (before' _ _ (before' _ _ (between' _ _ _ _ (expr_solid e) (between' _ _ _ _ (stmt_solid a) (stmt_solid b)))))
  stmt_solid (while_statement p q e l s) = mark _ _ (before' _ _ (before' _ _ (between' _ _ _ _ (expr_solid e) (stmt_solid s))))
  stmt_solid (do_statement p s w q e l m) = mark _ _ (before' _ _ (between' _ _ _ _ (stmt_solid s) (before' _ _ (behind' _ _ (behind' _ _ (expr_solid e))))))
  stmt_solid (for_statement p q f c m u l s) =
      mark _ _ (before' _ _ (before' _ _ (between _ _ _ _ (seq _ _ _ _ (for_first_tall f) (tall _ _ (between _ _ _ _ (optional_tall c) (optional_tall u)))) (tall _ _ (stmt_solid s)))))
  stmt_solid (switch_statement p q e l m gs k) = mark _ _ (before' _ _ (before' _ _ (between' _ _ _ _ (expr_solid e) (before' _ _ (behind _ _ (groups_tall gs))))))
  stmt_solid (jump_statement p j q) = mark _ _ (before' _ _ one)
  stmt_solid (return_statement p e q) = mark _ _ (before' _ _ (behind _ _ (optional_tall e)))

  pub items_tall : (is : Items) → Tall (λ n r. items_nest is n r) (items_part is).height
  items_tall no_items = none
  items_tall (declaration_item is d) = seq _ _ _ _ (items_tall is) (declaration_tall d)
  items_tall (statement_item is s) = seq _ _ _ _ (items_tall is) (tall _ _ (stmt_solid s))

  pub groups_tall : (gs : Groups) → Tall (λ n r. groups_nest gs n r) (groups_part gs).height
  groups_tall no_groups = none
  groups_tall (group gs ls is) = seq _ _ _ _ (groups_tall gs) (seq _ _ _ _ (labels_tall ls) (items_tall is))
