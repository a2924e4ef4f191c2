-- The text behind the items of a list, which grows at its end in a derivation, and at its front in a tree.
use Rattle.std.proofs.Common.{◌≡◌, true, false, List, [], ◌∷◌, codes, refl, ◌∙◌, ap}
use Rattle.c_grammar.specs.Tokens as k
use Rattle.c_grammar.specs.Derivations.{Qualifiers, TypeWords, Arguments, Specifiers, Members, Declarators, Enumerator, Enumerators, EarlierParameters, Parameter, no_qualifiers, qualified, first_word, next_word, no_arguments, argument, no_specifiers, storage_class, qualifier, inlined, type_words, typedef_name, composite_reference, composite, enum_reference, enumeration, no_members, members, no_declarators, declarators, enumerator, enumerator_value, no_enumerators, enumerators, parameters, no_earlier, earlier, named_parameter, unnamed_parameter}
use Rattle.c_tree.specs.Trees.{ExprTree, ExprTrees, SpecifierTrees, MemberTrees, EnumeratorTrees, DeclaratorTree, DeclaratorTrees, ParameterTrees, exprs, left_out, stated, storage_specifier, qualifier_specifier, inline_specifier, words_specifier, typedef_specifier, reference_specifier, composite_specifier, enum_reference_specifier, enum_specifier, no_specs, specs, no_member_trees, member_trees, no_enumerator_trees, enumerator_trees, no_declarator_trees, declarator_trees, no_parameter_trees, parameter_trees}
use Rattle.c_tree.specs.Printing.{Text, put_word, put_line, type_word_text, qualifier_text, put_type_words, put_qualifiers, is_empty_list, put_void, put_expr, put_exprs, put_specifier, put_specifiers, put_members, put_enumerators, put_value, put_declarator, put_declarators, put_parameters}
use Rattle.c_tree.specs.Reading.{words_start, start_of, qualifiers_onto, words_onto, tag_tree, expression_tree, arguments_onto, specifiers_onto, members_onto, declarators_onto, enumerator_onto, enumerators_onto, declarator_tree, abstract_tree, parameters_tree, earlier_onto, parameter_onto}

abbrev pub after_qualifiers : Qualifiers → Text → Text
after_qualifiers no_qualifiers t = t
after_qualifiers (qualified qs p q) t = put_word (qualifier_text q) (after_qualifiers qs t)

pub qualifiers_text : (qs : Qualifiers) (r : List k.Qualifier) (t : Text) → put_qualifiers (qualifiers_onto qs r) t ≡ put_qualifiers r (after_qualifiers qs t)
qualifiers_text no_qualifiers r t = refl
qualifiers_text (qualified qs p q) r t = qualifiers_text qs (q ∷ r) t

abbrev pub after_words : TypeWords → Text → Text
after_words (first_word p w) t = put_word (type_word_text w) t
after_words (next_word ws p w) t = put_word (type_word_text w) (after_words ws t)

pub words_text : (ws : TypeWords) (r : List k.TypeWord) (t : Text) → put_type_words (words_onto ws r) t ≡ put_type_words r (after_words ws t)
words_text (first_word p w) r t = refl
words_text (next_word ws p w) r t = words_text ws (w ∷ r) t

-- behind arguments, each with its comma
abbrev pub after_arguments : Arguments → Text → Text
after_arguments no_arguments t = t
after_arguments (argument xs e p) t = put_word (codes ",") (put_expr (expression_tree e) (after_arguments xs t))

pub arguments_text : (xs : Arguments) (e : ExprTree) (es : ExprTrees) (t : Text)
    → put_exprs true (arguments_onto xs (exprs e es)) t ≡ put_exprs false es (put_expr e (after_arguments xs t))
arguments_text no_arguments e es t = refl
arguments_text (argument xs x p) e es t = arguments_text xs (expression_tree x) (exprs e es) t

abbrev pub after_specifiers : Specifiers → Text → Text
after_specifiers no_specifiers t = t
after_specifiers (storage_class s p w) t = put_specifier (storage_specifier p w) (after_specifiers s t)
after_specifiers (qualifier s p q) t = put_specifier (qualifier_specifier p q) (after_specifiers s t)
after_specifiers (inlined s p) t = put_specifier (inline_specifier p) (after_specifiers s t)
after_specifiers (type_words s ws) t = put_specifier (words_specifier (words_start ws) (words_onto ws [])) (after_specifiers s t)
after_specifiers (typedef_name s p x) t = put_specifier (typedef_specifier p x) (after_specifiers s t)
after_specifiers (composite_reference s p w q x) t = put_specifier (reference_specifier p w q x) (after_specifiers s t)
after_specifiers (composite s p w g q ms l) t = put_specifier (composite_specifier p w (tag_tree g) q (members_onto ms no_member_trees)) (after_specifiers s t)
after_specifiers (enum_reference s p q x) t = put_specifier (enum_reference_specifier p q x) (after_specifiers s t)
after_specifiers (enumeration s p g q es e c l) t =
    put_specifier (enum_specifier p (tag_tree g) q (enumerators_onto es (enumerator_onto e no_enumerator_trees))) (after_specifiers s t)

pub specifiers_text : (s : Specifiers) (r : SpecifierTrees) (t : Text) → put_specifiers (specifiers_onto s r) t ≡ put_specifiers r (after_specifiers s t)
specifiers_text no_specifiers r t = refl
specifiers_text (storage_class s p w) r t = specifiers_text s (specs (storage_specifier p w) r) t
specifiers_text (qualifier s p q) r t = specifiers_text s (specs (qualifier_specifier p q) r) t
specifiers_text (inlined s p) r t = specifiers_text s (specs (inline_specifier p) r) t
specifiers_text (type_words s ws) r t = specifiers_text s (specs (words_specifier (words_start ws) (words_onto ws [])) r) t
specifiers_text (typedef_name s p x) r t = specifiers_text s (specs (typedef_specifier p x) r) t
specifiers_text (composite_reference s p w q x) r t = specifiers_text s (specs (reference_specifier p w q x) r) t
specifiers_text (composite s p w g q ms l) r t = specifiers_text s (specs (composite_specifier p w (tag_tree g) q (members_onto ms no_member_trees)) r) t
specifiers_text (enum_reference s p q x) r t = specifiers_text s (specs (enum_reference_specifier p q x) r) t
specifiers_text (enumeration s p g q es e c l) r t =
    specifiers_text s (specs (enum_specifier p (tag_tree g) q (enumerators_onto es (enumerator_onto e no_enumerator_trees))) r) t

-- behind declarators, each with its comma
abbrev pub after_declarators : Declarators → Text → Text
after_declarators no_declarators t = t
after_declarators (declarators ds d p) t = put_word (codes ",") (put_declarator (declarator_tree d) (after_declarators ds t))

pub declarators_text : (ds : Declarators) (d : DeclaratorTree) (r : DeclaratorTrees) (t : Text)
    → put_declarators true (declarators_onto ds (declarator_trees d r)) t ≡ put_declarators false r (put_declarator d (after_declarators ds t))
declarators_text no_declarators d r t = refl
declarators_text (declarators ds x p) d r t = declarators_text ds (declarator_tree x) (declarator_trees d r) t

abbrev pub after_members : Members → Text → Text
after_members no_members t = t
after_members (members ms s ds d p) t =
    put_line (codes ";") (put_declarators true (declarators_onto ds (declarator_trees (declarator_tree d) no_declarator_trees)) (put_specifiers (specifiers_onto s no_specs) (after_members ms t)))

pub members_text : (ms : Members) (r : MemberTrees) (t : Text) → put_members (members_onto ms r) t ≡ put_members r (after_members ms t)
members_text no_members r t = refl
members_text (members ms s ds d p) r t =
    members_text ms (member_trees (start_of s) (specifiers_onto s no_specs) (declarators_onto ds (declarator_trees (declarator_tree d) no_declarator_trees)) r) t

abbrev pub after_enumerator : Enumerator → Text → Text
after_enumerator (enumerator p x) t = put_word x t
after_enumerator (enumerator_value p x q e) t = put_value (stated (expression_tree e)) (put_word x t)

-- behind enumerators, each with its comma
abbrev pub after_enumerators : Enumerators → Text → Text
after_enumerators no_enumerators t = t
after_enumerators (enumerators es e p) t = put_word (codes ",") (after_enumerator e (after_enumerators es t))

pub enumerators_text : (es : Enumerators) (e : Enumerator) (r : EnumeratorTrees) (t : Text)
    → put_enumerators true (enumerators_onto es (enumerator_onto e r)) t ≡ put_enumerators false r (after_enumerator e (after_enumerators es t))
enumerators_text no_enumerators (enumerator p x) r t = refl
enumerators_text no_enumerators (enumerator_value p x q e) r t = refl
enumerators_text (enumerators es y l) (enumerator p x) r t = enumerators_text es y (enumerator_trees p x left_out r) t
enumerators_text (enumerators es y l) (enumerator_value p x q e) r t = enumerators_text es y (enumerator_trees p x (stated (expression_tree e)) r) t

abbrev pub after_parameter : Parameter → Text → Text
after_parameter (named_parameter s d) t = put_declarator (declarator_tree d) (put_specifiers (specifiers_onto s no_specs) t)
after_parameter (unnamed_parameter s a) t = put_declarator (abstract_tree a) (put_specifiers (specifiers_onto s no_specs) t)

-- behind parameters, each with its comma
abbrev pub after_earlier : EarlierParameters → Text → Text
after_earlier no_earlier t = t
after_earlier (earlier ps x p) t = put_word (codes ",") (after_parameter x (after_earlier ps t))

pub earlier_text : (ps : EarlierParameters) (x : Parameter) (r : ParameterTrees) (t : Text)
    → put_parameters true (earlier_onto ps (parameter_onto x r)) t ≡ put_parameters false r (after_parameter x (after_earlier ps t))
earlier_text no_earlier (named_parameter s d) r t = refl
earlier_text no_earlier (unnamed_parameter s a) r t = refl
earlier_text (earlier ps y p) (named_parameter s d) r t = earlier_text ps y (parameter_trees (start_of s) (specifiers_onto s no_specs) (declarator_tree d) r) t
earlier_text (earlier ps y p) (unnamed_parameter s a) r t = earlier_text ps y (parameter_trees (start_of s) (specifiers_onto s no_specs) (abstract_tree a) r) t

some_parameters : (ps : EarlierParameters) (x : Parameter) (r : ParameterTrees) → is_empty_list (earlier_onto ps (parameter_onto x r)) ≡ false
some_parameters no_earlier (named_parameter s d) r = refl
some_parameters no_earlier (unnamed_parameter s a) r = refl
some_parameters (earlier ps y p) x r = some_parameters ps y (parameter_onto x r)

-- what stands between the parentheses of a function's declarator
abbrev pub put_list : ParameterTrees → Text → Text
put_list ps t = put_parameters true ps (put_void (is_empty_list ps) t)

pub parameters_text : (ps : EarlierParameters) (x : Parameter) (t : Text) → put_list (parameters_tree (parameters ps x)) t ≡ after_parameter x (after_earlier ps t)
parameters_text ps x t =
    ap (λ b. put_parameters true (parameters_tree (parameters ps x)) (put_void b t)) (some_parameters ps x no_parameter_trees)
    ∙ earlier_text ps x no_parameter_trees t
