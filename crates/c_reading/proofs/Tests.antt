-- What the reader keeps of a part answers what the grammar asks of its derivation.
use Rattle.std.proofs.Common.{◌≡◌, ℕ, ◌+◌, Bool, true, false, cond, nat_eq, nat_le, List, [], ◌∷◌, ◌++◌, Option, length, ◌&&◌, ◌||◌, refl, sym, ◌∙◌, ap, arith}
use Rattle.c_reading.proofs.Erase.{words_list, add_words, expr_part, specs_part, decl_part, abstract_part, parameters_part, earlier_part, with_parameter, coded}
use Rattle.c_grammar.specs.Derivations.{TypeWords, first_word, next_word, Expression, identifier, constant, parenthesized, index, call_without, call, member, step_after, step_before, unary, sizeof_expression, sizeof_type, cast, binary, conditional, assignment, Specifiers, no_specifiers, storage_class, qualifier, inlined, type_words, typedef_name, composite_reference, composite, enum_reference, enumeration, Declarator, declared_name, pointer, parenthesized_declarator, array, function, AbstractDeclarator, no_declarator, abstract_pointer, parenthesized_abstract, abstract_array, abstract_function, EarlierParameters, no_earlier, earlier, Parameter, named_parameter, unnamed_parameter}
use Rattle.c_reading.specs.Parts.{add_spec, add_member_tree, add_parameter_tree, add_decl_item, add_stmt_item, last_words, SpecifiersPart, with_last, specifier_trees, add_first_word, words_count, are_type, are_no_members, DeclaratorShape, bare, named_function, pointed_function, other_shape, pointed_shape, function_shape, is_head, ParametersPart, no_abstract, no_parameter, are_no_parameters, add_parameter, add_abstract, are_no_specs, is_void_list, are_void, last_abstract, is_empty, are_no_items}
use Rattle.c_reading.specs.Code.{Reader, names_with}
use Rattle.c_tree.specs.Trees.{SpecifierTree, words_specifier, SpecifierTrees, no_specs, specs, MemberTrees, no_member_trees, member_trees, DeclaratorTree, DeclaratorTrees, ParameterTrees, no_parameter_trees, parameter_trees, DeclTree, StmtTree, ItemTrees, no_item_trees, decl_item, stmt_item}
use Rattle.c_tree.specs.Reading.{words_start}
use Rattle.c_grammar.specs.Spelling.{name_of, is_typedef_word, declares_types, declarator_names, same_word, count, word_count, names_type, has_type, has_storage, is_some_declarator, is_function_head, level}
use Rattle.c_grammar.specs.Machine.{State, lone_list, list_of}
use Rattle.c_grammar.specs.Tokens.{Identifier, Place, TypeWord, Void, Char, Short, Int, Long, Float, Double, Signed, Unsigned}

pub coded-cond : (b : Bool) (x y : Option State) (x' y' : Option Reader) → coded x ≡ x' → coded y ≡ y' → coded (cond b x y) ≡ cond b x' y'
coded-cond true x y x' y' h g = h
coded-cond false x y x' y' h g = g

pub coded-test : (b b' : Bool) (x y : Option State) (x' y' : Option Reader) → b ≡ b' → coded x ≡ x' → coded y ≡ y' → coded (cond b x y) ≡ cond b' x' y'
coded-test b b' x y x' y' e h g = coded-cond b x y x' y' h g ∙ ap (λ c. cond c x' y') e

-- ## Expressions

pub level_same : (e : Expression) → level e ≡ (expr_part e).level
level_same (identifier p x) = refl
level_same (constant p n) = refl
level_same (parenthesized p e q) = refl
level_same (index e p i q) = refl
level_same (call_without f p q) = refl
level_same (call f p xs e q) = refl
level_same (member e p o q x) = refl
level_same (step_after e p o) = refl
level_same (step_before p o e) = refl
level_same (unary p o e) = refl
level_same (sizeof_expression p e) = refl
level_same (sizeof_type p q t l) = refl
level_same (cast p t q e) = refl
level_same (binary a p o b) = refl
level_same (conditional c p a q b) = refl
level_same (assignment a p o b) = refl

-- ## Specifiers

words_type : (s : SpecifiersPart) (ws : TypeWords) → (add_words s ws).has_type ≡ true
words_type s (first_word p w) = refl
words_type s (next_word ws p w) = words_type s ws

words_storage : (s : SpecifiersPart) (ws : TypeWords) → (add_words s ws).has_storage ≡ s.has_storage
words_storage s (first_word p w) = refl
words_storage s (next_word ws p w) = words_storage s ws

words_declare : (s : SpecifiersPart) (ws : TypeWords) → (add_words s ws).declares_types ≡ s.declares_types
words_declare s (first_word p w) = refl
words_declare s (next_word ws p w) = words_declare s ws

pub words_last : (s : SpecifiersPart) (ws : TypeWords) → (add_words s ws).last ≡ last_words (words_start ws) (words_list ws)
words_last s (first_word p w) = refl
words_last s (next_word ws p w) = refl

pub words_whole : (s : SpecifiersPart) (ws : TypeWords) → (add_words s ws).whole ≡ specifier_trees s
words_whole s (first_word p w) = refl
words_whole s (next_word ws p w) = words_whole s ws

pub type_same : (s : Specifiers) → has_type s ≡ (specs_part s).has_type
type_same no_specifiers = refl
type_same (storage_class s p w) = type_same s
type_same (qualifier s p q) = type_same s
type_same (inlined s p) = type_same s
type_same (type_words s ws) = sym (words_type (specs_part s) ws)
type_same (typedef_name s p x) = refl
type_same (composite_reference s p w q x) = refl
type_same (composite s p w t q ms l) = refl
type_same (enum_reference s p q x) = refl
type_same (enumeration s p t q es e c l) = refl

pub storage_same : (s : Specifiers) → has_storage s ≡ (specs_part s).has_storage
storage_same no_specifiers = refl
storage_same (storage_class s p w) = refl
storage_same (qualifier s p q) = storage_same s
storage_same (inlined s p) = storage_same s
storage_same (type_words s ws) = storage_same s ∙ sym (words_storage (specs_part s) ws)
storage_same (typedef_name s p x) = storage_same s
storage_same (composite_reference s p w q x) = storage_same s
storage_same (composite s p w t q ms l) = storage_same s
storage_same (enum_reference s p q x) = storage_same s
storage_same (enumeration s p t q es e c l) = storage_same s

pub declares_same : (s : Specifiers) → declares_types s ≡ (specs_part s).declares_types
declares_same no_specifiers = refl
declares_same (storage_class s p w) = ap (λ b. cond (is_typedef_word w) true b) (declares_same s)
declares_same (qualifier s p q) = declares_same s
declares_same (inlined s p) = declares_same s
declares_same (type_words s ws) = declares_same s ∙ sym (words_declare (specs_part s) ws)
declares_same (typedef_name s p x) = declares_same s
declares_same (composite_reference s p w q x) = declares_same s
declares_same (composite s p w t q ms l) = declares_same s
declares_same (enum_reference s p q x) = declares_same s
declares_same (enumeration s p t q es e c l) = declares_same s

-- ## The words of a type

count_end : (w v : TypeWord) (vs : List TypeWord) → words_count w (vs ++ v ∷ []) ≡ words_count w vs + same_word w v
count_end w v [] = omega arith
count_end w v (x ∷ vs) = omega (arith, count_end w v vs)

length_end : (v : TypeWord) (vs : List TypeWord) → length (vs ++ v ∷ []) ≡ length vs + 1
length_end v [] = refl
length_end v (x ∷ vs) = omega (arith, length_end v vs)

count_same : (w : TypeWord) (ws : TypeWords) → count w ws ≡ words_count w (words_list ws)
count_same w (first_word p v) = omega arith
count_same w (next_word ws p v) = ap (λ n. n + same_word w v) (count_same w ws) ∙ sym (count_end w v (words_list ws))

number_same : (ws : TypeWords) → word_count ws ≡ length (words_list ws)
number_same (first_word p v) = refl
number_same (next_word ws p v) = ap (λ n. n + 1) (number_same ws) ∙ sym (length_end v (words_list ws))

abbrev is_type_by : (n char short int long signed unsigned double : ℕ) → Bool
is_type_by n char short int long signed unsigned double =
    (nat_eq n 1)
    || ((nat_eq char 1) && (nat_le (signed + unsigned) 1) && (nat_eq n (1 + (signed + unsigned))))
    || ((nat_eq short 1) && (nat_le int 1) && (nat_le (signed + unsigned) 1) && (nat_eq n (1 + int + (signed + unsigned))))
    || ((nat_le long 2) && (nat_le int 1) && (nat_le (signed + unsigned) 1) && (nat_eq n (long + int + (signed + unsigned))))
    || ((nat_eq long 1) && (nat_eq double 1) && (nat_eq n 2))

type_by : (a b c d e f g h a' b' c' d' e' f' g' h' : ℕ) → a ≡ a' → b ≡ b' → c ≡ c' → d ≡ d' → e ≡ e' → f ≡ f' → g ≡ g' → h ≡ h' → is_type_by a b c d e f g h ≡ is_type_by a' b' c' d' e' f' g' h'
type_by a b c d e f g h a' b' c' d' e' f' g' h' pa pb pc pd pe pf pg ph = cc

pub names_same : (ws : TypeWords) → names_type ws ≡ are_type (words_list ws)
names_same ws =
    type_by _ _ _ _ _ _ _ _ _ _ _ _ _ _ _ _ (number_same ws) (count_same Char ws) (count_same Short ws) (count_same Int ws) (count_same Long ws) (count_same Signed ws) (count_same Unsigned ws) (count_same Double ws)

-- ## Members and parameters

pub members_some : (ms : MemberTrees) (p : Place) (s : SpecifierTrees) (ds : DeclaratorTrees) → are_no_members (add_member_tree ms p s ds) ≡ false
members_some no_member_trees p s ds = refl
members_some (member_trees q x y ms) p s ds = refl

pub parameters_some : (ps : ParameterTrees) (p : Place) (s : SpecifierTrees) (d : DeclaratorTree) → are_no_parameters (add_parameter_tree ps p s d) ≡ false
parameters_some no_parameter_trees p s d = refl
parameters_some (parameter_trees q x y ps) p s d = refl

spec_some : (ss : SpecifierTrees) (s : SpecifierTree) → are_no_specs (add_spec ss s) ≡ false
spec_some no_specs s = refl
spec_some (specs x xs) s = refl

pub decl_some : (is : ItemTrees) (d : DeclTree) → are_no_items (add_decl_item is d) ≡ false
decl_some no_item_trees d = refl
decl_some (decl_item x is) d = refl
decl_some (stmt_item x is) d = refl

pub stmt_some : (is : ItemTrees) (s : StmtTree) → are_no_items (add_stmt_item is s) ≡ false
stmt_some no_item_trees d = refl
stmt_some (decl_item x is) d = refl
stmt_some (stmt_item x is) d = refl

pub list_some : {A : Type 0} → (xs : List A) (x : A) → is_empty (xs ++ x ∷ []) ≡ false
list_some [] x = refl
list_some (y ∷ xs) x = refl

words_trees_some : (s : SpecifiersPart) (p : Place) (ws : List TypeWord) → are_no_specs (add_spec (specifier_trees s) (words_specifier p ws)) ≡ false
words_trees_some s p ws = spec_some (specifier_trees s) (words_specifier p ws)

-- specifiers that are there are some
trees_some : (s : Specifiers) → (s ≡ no_specifiers → ⊥) → are_no_specs (specifier_trees (specs_part s)) ≡ false
trees_some no_specifiers h = absurd (h refl)
trees_some (storage_class s p w) h = spec_some _ _
trees_some (qualifier s p q) h = spec_some _ _
trees_some (inlined s p) h = spec_some _ _
trees_some (type_words s ws) h = ap (λ l. are_no_specs (with_last (specs_part (type_words s ws)).whole l)) (words_last (specs_part s) ws) ∙ spec_some _ _
trees_some (typedef_name s p x) h = spec_some _ _
trees_some (composite_reference s p w q x) h = spec_some _ _
trees_some (composite s p w t q ms l) h = spec_some _ _
trees_some (enum_reference s p q x) h = spec_some _ _
trees_some (enumeration s p t q es e c l) h = spec_some _ _

two_words : (v w : TypeWord) (vs : List TypeWord) → is_void_list (v ∷ w ∷ vs) ≡ false
two_words Void w vs = refl
two_words _ w vs = refl

more_words : (v w : TypeWord) (vs : List TypeWord) → is_void_list (v ∷ vs ++ w ∷ []) ≡ false
more_words v w [] = two_words v w []
more_words v w (x ∷ vs) = two_words v x (vs ++ w ∷ [])

long_words : (ws : TypeWords) (w : TypeWord) → is_void_list (words_list ws ++ w ∷ []) ≡ false
long_words (first_word p v) w = two_words v w []
long_words (next_word ws p v) w = not_void (words_list ws) v w
  where
    not_void : (vs : List TypeWord) (v w : TypeWord) → is_void_list ((vs ++ v ∷ []) ++ w ∷ []) ≡ false
    not_void [] v w = two_words v w []
    not_void (x ∷ vs) v w = more_words x w (vs ++ v ∷ [])

void_and : (b : Bool) → b ≡ false → (b && false) ≡ false
void_and b e = ap (λ c. c && false) e

and_false : (b c : Bool) → b ≡ false → (b && c) ≡ false
and_false b c e = ap (λ x. x && c) e

abbrev lone_end : SpecifiersPart → ParametersPart
lone_end s = last_abstract no_parameter s no_abstract

not_void_end : (s : SpecifiersPart) → are_void s ≡ false → add_abstract no_parameter s no_abstract ≡ lone_end s
not_void_end s e = ap (λ b. cond b no_parameter (add_abstract no_parameter s no_abstract)) (sym e)

and_right : (b : Bool) (x y : Bool) → x ≡ false → (x && y) ≡ false
and_right b x y e = ap (λ c. c && y) e

void_later : (s : Specifiers) (p : Place) (w : TypeWord) → (s ≡ no_specifiers → ⊥) → are_void (add_first_word (specs_part s) p w) ≡ false
void_later s p w h = both (is_void_list (w ∷ [])) (are_no_specs (specifier_trees (specs_part s))) (trees_some s h)
  where
    both : (b c : Bool) → c ≡ false → (b && c) ≡ false
    both true c e = e
    both false c e = refl

lone_word : (w : TypeWord) (p : Place) → parameters_part (lone_list (type_words no_specifiers (first_word p w))) ≡ lone_end (specs_part (type_words no_specifiers (first_word p w)))
lone_word Void p = refl
lone_word Char p = refl
lone_word Short p = refl
lone_word Int p = refl
lone_word Long p = refl
lone_word Float p = refl
lone_word Double p = refl
lone_word Signed p = refl
lone_word Unsigned p = refl

some_void : (s : Specifiers) (ws : TypeWords) (w : TypeWord) (p : Place) → are_void (specs_part (type_words s (next_word ws p w))) ≡ false
some_void s ws w p = and_false _ _ (long_words ws w)

lone_first : (s : Specifiers) (w : TypeWord) (p : Place) → parameters_part (lone_list (type_words s (first_word p w))) ≡ lone_end (specs_part (type_words s (first_word p w)))
lone_first no_specifiers w p = lone_word w p
lone_first (storage_class s q x) w p = not_void_end (add_first_word (specs_part (storage_class s q x)) p w) (void_later (storage_class s q x) p w (λ e. cc))
lone_first (qualifier s q x) w p = not_void_end (add_first_word (specs_part (qualifier s q x)) p w) (void_later (qualifier s q x) p w (λ e. cc))
lone_first (inlined s q) w p = not_void_end (add_first_word (specs_part (inlined s q)) p w) (void_later (inlined s q) p w (λ e. cc))
lone_first (type_words s ws) w p = not_void_end (add_first_word (specs_part (type_words s ws)) p w) (void_later (type_words s ws) p w (λ e. cc))
lone_first (typedef_name s q x) w p = not_void_end (add_first_word (specs_part (typedef_name s q x)) p w) (void_later (typedef_name s q x) p w (λ e. cc))
lone_first (composite_reference s q x l y) w p = not_void_end (add_first_word (specs_part (composite_reference s q x l y)) p w) (void_later (composite_reference s q x l y) p w (λ e. cc))
lone_first (composite s q x t l ms m) w p = not_void_end (add_first_word (specs_part (composite s q x t l ms m)) p w) (void_later (composite s q x t l ms m) p w (λ e. cc))
lone_first (enum_reference s q l x) w p = not_void_end (add_first_word (specs_part (enum_reference s q l x)) p w) (void_later (enum_reference s q l x) p w (λ e. cc))
lone_first (enumeration s q t l es e c m) w p = not_void_end (add_first_word (specs_part (enumeration s q t l es e c m)) p w) (void_later (enumeration s q t l es e c m) p w (λ e. cc))

lone_same : (s : Specifiers) → parameters_part (lone_list s) ≡ lone_end (specs_part s)
lone_same no_specifiers = refl
lone_same (storage_class s p w) = refl
lone_same (qualifier s p q) = refl
lone_same (inlined s p) = refl
lone_same (type_words s (first_word p w)) = lone_first s w p
lone_same (type_words no_specifiers (next_word ws p w)) = not_void_end (specs_part (type_words no_specifiers (next_word ws p w))) (some_void no_specifiers ws w p)
lone_same (type_words s (next_word ws p w)) = not_void_end (specs_part (type_words s (next_word ws p w))) (some_void s ws w p)
lone_same (typedef_name s p x) = refl
lone_same (composite_reference s p w q x) = refl
lone_same (composite s p w t q ms l) = refl
lone_same (enum_reference s p q x) = refl
lone_same (enumeration s p t q es e c l) = refl

pub list_named : (ps : EarlierParameters) (s : Specifiers) (d : Declarator) → parameters_part (list_of ps (named_parameter s d)) ≡ add_parameter (earlier_part ps) (specs_part s) (decl_part d)
list_named no_earlier s d = refl
list_named (earlier ps x p) s d = refl

earlier_some : (ps : EarlierParameters) (x : Parameter) → are_no_parameters (with_parameter (earlier_part ps) x).trees ≡ false
earlier_some ps (named_parameter s d) = parameters_some _ _ _ _
earlier_some ps (unnamed_parameter s a) = parameters_some _ _ _ _

pub list_unnamed : (ps : EarlierParameters) (s : Specifiers) (a : AbstractDeclarator)
    → parameters_part (list_of ps (unnamed_parameter s a)) ≡ last_abstract (earlier_part ps) (specs_part s) (abstract_part a)
list_unnamed no_earlier s no_declarator = lone_same s
list_unnamed no_earlier s (abstract_pointer p qs a) = refl
list_unnamed no_earlier s (parenthesized_abstract p a q) = refl
list_unnamed no_earlier s (abstract_array a p n q) = refl
list_unnamed no_earlier s (abstract_function a p ps q) = refl
list_unnamed (earlier ps x p) s no_declarator =
    ap (λ b. cond (b && are_void (specs_part s)) no_parameter (add_abstract (with_parameter (earlier_part ps) x) (specs_part s) no_abstract)) (sym (earlier_some ps x))
list_unnamed (earlier ps x p) s (abstract_pointer q qs a) = refl
list_unnamed (earlier ps x p) s (parenthesized_abstract q a l) = refl
list_unnamed (earlier ps x p) s (abstract_array a q n l) = refl
list_unnamed (earlier ps x p) s (abstract_function a q xs l) = refl

-- ## Declarators

pub name_same : (d : Declarator) → name_of d ≡ (decl_part d).name
name_same (declared_name p x) = refl
name_same (pointer p qs d) = name_same d
name_same (parenthesized_declarator p d q) = name_same d
name_same (array d p n q) = name_same d
name_same (function d p ps q) = name_same d

pointed_head : (s : DeclaratorShape) → is_head s ≡ is_head (pointed_shape s)
pointed_head bare = refl
pointed_head named_function = refl
pointed_head pointed_function = refl
pointed_head other_shape = refl

pub head_same : (d : Declarator) → is_function_head d ≡ is_head (decl_part d).shape
head_same (declared_name p x) = refl
head_same (pointer p qs d) = head_same d ∙ pointed_head (decl_part d).shape
head_same (parenthesized_declarator p d q) = refl
head_same (array d p n q) = refl
head_same (function (declared_name p x) q ps l) = refl
head_same (function (pointer p qs d) q ps l) = not_bare (decl_part d).shape
  where
    not_bare : (s : DeclaratorShape) → false ≡ is_head (function_shape (pointed_shape s))
    not_bare bare = refl
    not_bare named_function = refl
    not_bare pointed_function = refl
    not_bare other_shape = refl
head_same (function (parenthesized_declarator p d l) q ps m) = refl
head_same (function (array d p n l) q ps m) = refl
head_same (function (function d p xs l) q ps m) = again (decl_part d).shape
  where
    again : (s : DeclaratorShape) → false ≡ is_head (function_shape (function_shape s))
    again bare = refl
    again named_function = refl
    again pointed_function = refl
    again other_shape = refl

pub some_same : (a : AbstractDeclarator) → is_some_declarator a ≡ (abstract_part a).is_some
some_same no_declarator = refl
some_same (abstract_pointer p qs a) = refl
some_same (parenthesized_abstract p a q) = refl
some_same (abstract_array a p n q) = refl
some_same (abstract_function a p ps q) = refl

pub declared_names : (b b' : Bool) (d : Declarator) (ns : List Identifier) → b ≡ b' → declarator_names b d ns ≡ names_with b' (decl_part d).name ns
declared_names b b' d ns e = here b ∙ ap (λ c. names_with c (decl_part d).name ns) e
  where
    here : (b : Bool) → declarator_names b d ns ≡ names_with b (decl_part d).name ns
    here true = ap (λ x. x ∷ ns) (name_same d)
    here false = refl
