-- What is printed of an expression, a type or a declarator is spelled by a derivation with the same tree, places aside.
use Rattle.std.proofs.Common.{◌≡◌, suc, ◌+◌, true, false, cond, List, [], refl, sym, ◌∙◌, ap, ap₂, subst, arith, codes, length}
use Rattle.c_grammar.specs.Tokens as k
use Rattle.c_grammar.specs.Derivations.{Expression, Arguments, TypeName, Specifiers, Members, Declarators, Enumerator, Enumerators, Declarator, Length, AbstractDeclarator, Parameters, EarlierParameters, Parameter, no_comma, identifier, constant, parenthesized, index, call_without, call, member, step_after, step_before, unary, sizeof_expression, sizeof_type, cast, binary, conditional, assignment, no_arguments, argument, type_name, no_specifiers, storage_class, qualifier, inlined, type_words, typedef_name, composite_reference, composite, enum_reference, enumeration, no_members, members, no_declarators, declarators, enumerator, enumerator_value, no_enumerators, enumerators, declared_name, pointer, parenthesized_declarator, array, function, no_length, length_of, no_declarator, abstract_pointer, parenthesized_abstract, abstract_array, abstract_function, no_parameters, void_parameter, parameters, no_earlier, earlier, named_parameter, unnamed_parameter}
use Rattle.c_grammar.specs.Spelling.{is_typedef_word, precedence, level, ExpressionOk, ArgumentsOk, TypeNameOk, SpecifiersOk, MembersOk, DeclaratorsOk, EnumeratorOk, EnumeratorsOk, DeclaratorOk, LengthOk, AbstractOk, ParametersOk, EarlierOk, ParameterOk}
use Rattle.c_tree.specs.Trees.{index_expr, call_expr, member_expr, step_after_expr, step_before_expr, unary_expr, sizeof_expr, sizeof_type_expr, cast_expr, binary_expr, cond_expr, assign_expr, no_exprs, exprs, left_out, stated, type_tree, storage_specifier, qualifier_specifier, inline_specifier, words_specifier, typedef_specifier, reference_specifier, composite_specifier, enum_reference_specifier, enum_specifier, no_specs, specs, no_member_trees, member_trees, no_enumerator_trees, enumerator_trees, pointer_to, array_of, function_of, no_declarator_trees, declarator_trees, no_parameter_trees, parameter_trees}
use Rattle.c_tree.specs.Printing.{Text, put_word, put_line, opened, closed, operator_text, assignment_text, step_text, access_text, composite_text, put_qualifiers, put_tag, is_pointer, put_expr, put_maybe, put_type, put_specifiers, put_members, put_declarator}
use Rattle.c_tree.specs.Reading.{qualifiers_onto, tag_tree, expression_tree, type_name_tree, specifiers_onto, members_onto, declarator_tree, length_tree, abstract_tree, parameters_tree}
use Rattle.c_round_trip.specs.Placeless.{placeless_expr}
use Rattle.c_round_trip.proofs.Ends.{inside, one_more, less_again, room, more_room, ends_as, same_lone, head_parts, last_word, last_nest}
use Rattle.c_round_trip.proofs.Fixed.{operator_word, assignment_word, step_word, access_word, type_word, qualifier_word, storage_word, composite_word, inline_word, enum_word, sizeof_word, left_brace_word, right_brace_word, left_paren_word, right_paren_word, left_bracket_word, right_bracket_word, semicolon_word, comma_word, question_word, colon_word}
use Rattle.c_round_trip.proofs.Leaves.{name_word, constant_word}
use Rattle.c_round_trip.proofs.Lists.{qualifiers_text, words_text, after_arguments, arguments_text, after_specifiers, specifiers_text, after_declarators, declarators_text, after_members, members_text, after_enumerator, after_enumerators, enumerators_text, after_parameter, after_earlier, put_list, parameters_text}
use Rattle.c_round_trip.proofs.Prints.{up, before_comma, three, under, flat, deeper, lower, low, parentheses, PrintedExpression, PrintedArguments, operand_text, PrintedTypeName, PrintedSpecifiers, PrintedMembers, PrintedDeclarators, PrintedEnumerator, PrintedEnumerators, PrintedDeclarator, PrintedLength, PrintedAbstract, PrintedParameters, PrintedEarlier, PrintedParameter, few, few_declarator, few_abstract}
use Rattle.c_round_trip.proofs.Wrapped.{print_qualifiers, print_words, same_type, same_void, print_tag, operand, direct_by, direct_abstract_by}
use Rattle.c_round_trip.proofs.Written.{Written, by_word, by_line}

mutual
  pub print_expression : (e : Expression) (ns : List k.Identifier) (t : Text) → ExpressionOk ns e → PrintedExpression ns e t
  print_expression (identifier p x) ns t ok = record {
    now = identifier (length t) x;
    ok = ok;
    binds = refl;
    same = refl;
    prints = λ r0 r whole g w. by_word _ _ t whole r (name_word x w.0) (g w.1);
    fewer = λ r0 r h. h;
    nests = λ m n most r0 r le g l. (low m n most le l.0, g l.1);
  }
  print_expression (constant p c) ns t ok = record {
    now = constant (length t) c;
    ok = ok;
    binds = refl;
    same = refl;
    prints = λ r0 r whole g w. by_word _ _ t whole r (constant_word c w.0) (g w.1);
    fewer = λ r0 r h. h;
    nests = λ m n most r0 r le g l. (low m n most le l.0, g l.1);
  }
  print_expression (parenthesized p e q) ns t ok =
      let a = print_expression e ns t ok in
      record {
        now = a.now;
        ok = a.ok;
        binds = a.binds;
        same = a.same;
        prints = λ r0 r whole g w. a.prints _ r whole (λ v. g v.1) w.1;
        fewer = λ r0 r h. up _ _ (few e a _ _ h);
        nests = λ m n most r0 r le g l. a.nests (suc m) n most _ r (inside m n (parentheses e) le) (λ h. g h.1) l.1;
      }
  print_expression (index e p i q) ns t ok =
      let t1 = put_word (codes "[") (operand_text e 15 t) in
      let a = operand ns e 15 t (omega arith) ok.1 (print_expression e ns _ ok.0) in
      let b = print_expression i ns t1 ok.2 in
      record {
        now = index a.now (length (operand_text e 15 t)) b.now (length (put_expr (expression_tree i) t1));
        ok = (a.ok, a.tight, b.ok);
        binds = refl;
        same = ap₂ (index_expr 0 0) a.same b.same;
        prints = λ r0 r whole g w.
            a.prints _ _ whole (λ u. by_word _ _ _ whole _ left_bracket_word (b.prints _ _ whole (λ v. by_word _ _ _ whole r right_bracket_word (g v.1)) u.1)) w;
        fewer = λ r0 r h. a.fewer _ _ (few i b _ _ h);
        nests = λ m n most r0 r le g l.
            a.nests (suc m) (suc n) most _ _ (under m n 0 le)
            (λ h. (lower m n most le h.0, b.nests (suc m) (suc n) most _ _ (under m n (parentheses i) le) (λ j. (lower m n most le j.0, g j.1)) h.1)) l;
      }
  print_expression (call_without f p q) ns t ok =
      let a = operand ns f 15 t (omega arith) ok.1 (print_expression f ns _ ok.0) in
      record {
        now = call_without a.now (length (operand_text f 15 t)) (length (put_word (codes "(") (operand_text f 15 t)));
        ok = (a.ok, a.tight);
        binds = refl;
        same = ap (λ x. call_expr 0 0 x no_exprs) a.same;
        prints = λ r0 r whole g w. a.prints _ _ whole (λ u. by_word _ _ _ whole _ left_paren_word (by_word _ _ _ whole r right_paren_word (g u.1.1))) w;
        fewer = λ r0 r h. a.fewer _ _ (up _ _ h);
        nests = λ m n most r0 r le g l. a.nests (suc m) (suc n) most _ _ (under m n 0 le) (λ h. (lower m n most le h.0, (lower m n most le h.1.0, g h.1.1))) l;
      }
  print_expression (call f p xs e q) ns t ok =
      let t1 = put_word (codes "(") (operand_text f 15 t) in
      let t2 = after_arguments xs t1 in
      let a = operand ns f 15 t (omega arith) ok.1 (print_expression f ns _ ok.0) in
      let b = print_arguments xs ns t1 ok.2 in
      let c = print_expression e ns t2 ok.3 in
      record {
        now = call a.now (length (operand_text f 15 t)) b.now c.now (length (put_expr (expression_tree e) t2));
        ok = (a.ok, a.tight, b.ok, c.ok);
        binds = refl;
        same = ap₂ (call_expr 0 0) a.same (b.same _ _ (ap (λ x. exprs x no_exprs) c.same));
        prints = λ r0 r whole g w.
            a.prints _ _ whole (λ u. by_word _ _ _ whole _ left_paren_word (b.prints _ _ whole
            (λ v. c.prints _ _ whole (λ x. by_word _ _ _ whole r right_paren_word (subst (λ y. Written r (put_word (codes ")") y) whole) (arguments_text xs (expression_tree e) no_exprs t1) (g x.1))) v) u.1)) w;
        fewer = λ r0 r h. a.fewer _ _ (up _ _ (b.fewer _ _ (few e c _ _ h)));
        nests = λ m n most r0 r le g l.
            a.nests (suc m) (suc n) most _ _ (under m n 0 le)
            (λ h. (lower m n most le h.0, b.nests (suc m) (suc n) most _ _ (under m n 0 le) (λ j. c.nests (suc m) (suc n) most _ _ (under m n (parentheses e) le) (λ i. (lower m n most le i.0, g i.1)) j) h.1)) l;
      }
  print_expression (member e p o q x) ns t ok =
      let a = operand ns e 15 t (omega arith) ok.1 (print_expression e ns _ ok.0) in
      record {
        now = member a.now (length (operand_text e 15 t)) o (length (put_word (access_text o) (operand_text e 15 t))) x;
        ok = (a.ok, a.tight);
        binds = refl;
        same = ap (λ y. member_expr 0 0 y o 0 x) a.same;
        prints = λ r0 r whole g w. a.prints _ _ whole (λ u. by_word _ _ _ whole _ (access_word o) (by_word _ _ _ whole r (name_word x u.1.0) (g u.1.1))) w;
        fewer = λ r0 r h. a.fewer _ _ h;
        nests = λ m n most r0 r le g l. a.nests (suc m) (suc n) most _ _ (under m n 0 le) (λ h. (lower m n most le h.0, (lower m n most le h.1.0, g h.1.1))) l;
      }
  print_expression (step_after e p o) ns t ok =
      let a = operand ns e 15 t (omega arith) ok.1 (print_expression e ns _ ok.0) in
      record {
        now = step_after a.now (length (operand_text e 15 t)) o;
        ok = (a.ok, a.tight);
        binds = refl;
        same = ap (λ y. step_after_expr 0 0 y o) a.same;
        prints = λ r0 r whole g w. a.prints _ _ whole (λ u. by_word _ _ _ whole r (step_word o) (g u.1)) w;
        fewer = λ r0 r h. a.fewer _ _ h;
        nests = λ m n most r0 r le g l. a.nests (suc m) (suc n) most _ _ (under m n 0 le) (λ h. (lower m n most le h.0, g h.1)) l;
      }
  print_expression (step_before p o e) ns t ok =
      let a = operand ns e 14 (put_word (step_text o) t) (omega arith) ok.1 (print_expression e ns _ ok.0) in
      record {
        now = step_before (length t) o a.now;
        ok = (a.ok, a.tight);
        binds = refl;
        same = ap (λ y. step_before_expr 0 o y) a.same;
        prints = λ r0 r whole g w. by_word _ _ t whole _ (step_word o) (a.prints _ _ whole g w.1);
        fewer = λ r0 r h. a.fewer _ _ h;
        nests = λ m n most r0 r le g l. (lower m n most le l.0, a.nests (suc m) (suc n) most _ _ (under m n 0 le) g l.1);
      }
  print_expression (unary p o e) ns t ok =
      let a = operand ns e 13 (put_word (operator_text o) t) (omega arith) ok.2 (print_expression e ns _ ok.1) in
      record {
        now = unary (length t) o a.now;
        ok = (ok.0, a.ok, a.tight);
        binds = refl;
        same = ap (λ y. unary_expr 0 o y) a.same;
        prints = λ r0 r whole g w. by_word _ _ t whole _ (operator_word o) (a.prints _ _ whole g w.1);
        fewer = λ r0 r h. a.fewer _ _ h;
        nests = λ m n most r0 r le g l. (lower m n most le l.0, a.nests (suc m) (suc n) most _ _ (under m n 0 le) g l.1);
      }
  print_expression (sizeof_expression p e) ns t ok =
      let a = operand ns e 14 (put_word (codes "sizeof") t) (omega arith) ok.1 (print_expression e ns _ ok.0) in
      record {
        now = sizeof_expression (length t) a.now;
        ok = (a.ok, a.tight);
        binds = refl;
        same = ap (sizeof_expr 0) a.same;
        prints = λ r0 r whole g w. by_word _ _ t whole _ sizeof_word (a.prints _ _ whole g w.1);
        fewer = λ r0 r h. a.fewer _ _ h;
        nests = λ m n most r0 r le g l. (lower m n most le l.0, a.nests (suc m) (suc n) most _ _ (under m n 0 le) g l.1);
      }
  print_expression (sizeof_type p q x l) ns t ok =
      let t1 = put_word (codes "(") (put_word (codes "sizeof") t) in
      let a = print_type_name x ns t1 ok in
      record {
        now = sizeof_type (length t) (length (put_word (codes "sizeof") t)) a.now (length (put_type (type_name_tree x) t1));
        ok = a.ok;
        binds = refl;
        same = ap (sizeof_type_expr 0) a.same;
        prints = λ r0 r whole g w.
            by_word _ _ t whole _ sizeof_word (by_word _ _ _ whole _ left_paren_word (a.prints _ _ whole (λ u. by_word _ _ _ whole r right_paren_word (g u.1)) w.1.1));
        fewer = λ r0 r h. up _ _ (a.fewer _ _ h);
        nests = λ m n most r0 r le g h.
            (lower m n most le h.0, (lower m n most le h.1.0, a.nests (suc m) (suc n) most _ _ (under m n 0 le) (λ i. (lower m n most le i.0, g i.1)) h.1.1));
      }
  print_expression (cast p x q e) ns t ok =
      let t1 = put_word (codes "(") t in
      let t2 = put_word (codes ")") (put_type (type_name_tree x) t1) in
      let a = print_type_name x ns t1 ok.0 in
      let b = operand ns e 13 t2 (omega arith) ok.2 (print_expression e ns _ ok.1) in
      record {
        now = cast (length t) a.now (length (put_type (type_name_tree x) t1)) b.now;
        ok = (a.ok, b.ok, b.tight);
        binds = refl;
        same = ap₂ (cast_expr 0) a.same b.same;
        prints = λ r0 r whole g w.
            by_word _ _ t whole _ left_paren_word (a.prints _ _ whole (λ u. by_word _ _ _ whole _ right_paren_word (b.prints _ _ whole g u.1)) w.1);
        fewer = λ r0 r h. up _ _ (a.fewer _ _ (b.fewer _ _ h));
        nests = λ m n most r0 r le g h.
            (lower m n most le h.0, a.nests (suc m) (suc n) most _ _ (under m n 0 le) (λ i. (lower m n most le i.0, b.nests (suc m) (suc n) most _ _ (under m n 0 le) g i.1)) h.1);
      }
  print_expression (binary a p o b) ns t ok =
      let t1 = operand_text a (precedence o) t in
      let c = operand ns a (precedence o) t (room o) ok.2 (print_expression a ns _ ok.1) in
      let d = operand ns b (precedence o + 1) (put_word (operator_text o) t1) (more_room o) (one_more o (level b) ok.4) (print_expression b ns _ ok.3) in
      record {
        now = binary c.now (length t1) o d.now;
        ok = (ok.0, c.ok, c.tight, d.ok, less_again o (level d.now) d.tight);
        binds = refl;
        same = ap₂ (binary_expr 0 0 o) c.same d.same;
        prints = λ r0 r whole g w. c.prints _ _ whole (λ u. by_word _ _ _ whole _ (operator_word o) (d.prints _ _ whole g u.1)) w;
        fewer = λ r0 r h. c.fewer _ _ (d.fewer _ _ h);
        nests = λ m n most r0 r le g l.
            c.nests (suc m) (suc n) most _ _ (under m n 0 le) (λ h. (lower m n most le h.0, d.nests (suc m) (suc n) most _ _ (under m n 0 le) g h.1)) l;
      }
  print_expression (conditional a p b q c) ns t ok =
      let t1 = operand_text a 3 t in
      let t2 = put_word (codes "?") t1 in
      let t3 = put_expr (expression_tree b) t2 in
      let x = operand ns a 3 t (omega arith) ok.1 (print_expression a ns _ ok.0) in
      let y = print_expression b ns t2 ok.2 in
      let z = operand ns c 2 (put_word (codes ":") t3) (omega arith) ok.4 (print_expression c ns _ ok.3) in
      record {
        now = conditional x.now (length t1) y.now (length t3) z.now;
        ok = (x.ok, x.tight, y.ok, z.ok, z.tight);
        binds = refl;
        same = ap (λ u. cond_expr 0 0 u (placeless_expr (expression_tree y.now)) (placeless_expr (expression_tree z.now))) x.same
            ∙ ap₂ (cond_expr 0 0 (placeless_expr (expression_tree a))) y.same z.same;
        prints = λ r0 r whole g w.
            x.prints _ _ whole (λ u. by_word _ _ _ whole _ question_word (y.prints _ _ whole (λ v. by_word _ _ _ whole _ colon_word (z.prints _ _ whole g v.1)) u.1)) w;
        fewer = λ r0 r h. x.fewer _ _ (few b y _ _ (z.fewer _ _ h));
        nests = λ m n most r0 r le g l.
            x.nests (suc m) (suc n) most _ _ (under m n 0 le)
            (λ h. (lower m n most le h.0, y.nests (suc m) (suc n) most _ _ (under m n (parentheses b) le) (λ i. (lower m n most le i.0, z.nests (suc m) (suc n) most _ _ (under m n 0 le) g i.1)) h.1)) l;
      }
  print_expression (assignment a p o b) ns t ok =
      let t1 = operand_text a 14 t in
      let c = operand ns a 14 t (omega arith) ok.1 (print_expression a ns _ ok.0) in
      let d = print_expression b ns (put_word (assignment_text o) t1) ok.2 in
      record {
        now = assignment c.now (length t1) o d.now;
        ok = (c.ok, c.tight, d.ok);
        binds = refl;
        same = ap₂ (assign_expr 0 0 o) c.same d.same;
        prints = λ r0 r whole g w. c.prints _ _ whole (λ u. by_word _ _ _ whole _ (assignment_word o) (d.prints _ _ whole g u.1)) w;
        fewer = λ r0 r h. c.fewer _ _ (few b d _ _ h);
        nests = λ m n most r0 r le g l.
            c.nests (suc m) (suc n) most _ _ (under m n 0 le) (λ h. (lower m n most le h.0, d.nests (suc m) (suc n) most _ _ (under m n (parentheses b) le) g h.1)) l;
      }

  pub print_arguments : (xs : Arguments) (ns : List k.Identifier) (t : Text) → ArgumentsOk ns xs → PrintedArguments ns xs t
  print_arguments no_arguments ns t ok = record {
    now = no_arguments;
    ok = ok;
    same = λ r r' h. h;
    prints = λ r0 r whole g w. g w;
    fewer = λ r0 r h. h;
    nests = λ m n most r0 r le g l. g l;
  }
  print_arguments (argument xs e p) ns t ok =
      let t1 = after_arguments xs t in
      let a = print_arguments xs ns t ok.0 in
      let b = print_expression e ns t1 ok.1 in
      record {
        now = argument a.now b.now (length (put_expr (expression_tree e) t1));
        ok = (a.ok, b.ok);
        same = λ r r' h. a.same _ _ (ap₂ exprs b.same h);
        prints = λ r0 r whole g w. a.prints _ _ whole (λ u. b.prints _ _ whole (λ v. by_word _ _ _ whole r comma_word (g v.1)) u) w;
        fewer = λ r0 r h. a.fewer _ _ (few e b _ _ h);
        nests = λ m n most r0 r le g l.
            a.nests m n most _ _ le (λ h. b.nests m n most _ _ (flat m n (parentheses e) le) (λ i. (low m n most le i.0, g i.1)) h) l;
      }

  pub print_type_name : (x : TypeName) (ns : List k.Identifier) (t : Text) → TypeNameOk ns x → PrintedTypeName ns x t
  print_type_name (type_name s d) ns t ok =
      let t1 = put_specifiers (specifiers_onto s no_specs) t in
      let a = print_specifiers s ns t ok.0 in
      let b = print_abstract d ns t1 ok.3 in
      record {
        now = type_name a.now b.now;
        ok = (a.ok, a.alike.types ∙ ok.1, a.alike.plain ∙ ok.2, b.ok);
        same = ap₂ (type_tree 0) (a.same no_specs no_specs refl) b.same;
        prints = λ r0 r whole g w. ends_as _ _ t _ t1 (specifiers_text s no_specs t) a.prints _ _ whole (λ u. b.prints _ _ whole g u) w;
        fewer = λ r0 r h. a.fewer _ _ (few_abstract d b _ _ h);
        nests = λ m n most r0 r le g l. a.nests m n most _ _ le (λ h. b.whole m n most _ _ le g h) l;
      }

  pub print_specifiers : (s : Specifiers) (ns : List k.Identifier) (t : Text) → SpecifiersOk ns s → PrintedSpecifiers ns s t
  print_specifiers no_specifiers ns t ok = record {
    now = no_specifiers;
    ok = ok;
    alike = record { types = refl; storage = refl; plain = refl; declares = refl; nothing = refl; void = refl };
    same = λ r r' h. h;
    prints = λ r0 r whole g w. g w;
    fewer = λ r0 r h. h;
    nests = λ m n most r0 r le g l. g l;
  }
  print_specifiers (storage_class s p v) ns t ok =
      let t1 = after_specifiers s t in
      let a = print_specifiers s ns t ok.0 in
      record {
        now = storage_class a.now (length t1) v;
        ok = (a.ok, a.alike.storage ∙ ok.1);
        alike = record { types = a.alike.types; storage = refl; plain = refl; declares = ap (cond (is_typedef_word v) true) a.alike.declares; nothing = refl; void = refl };
        same = λ r r' h. a.same _ _ (ap (specs (storage_specifier 0 v)) h);
        prints = λ r0 r whole g w. a.prints _ _ whole (λ u. by_word _ _ _ whole r (storage_word v) (g u.1)) w;
        fewer = λ r0 r h. a.fewer _ _ h;
        nests = λ m n most r0 r le g l. a.nests m n most _ _ le (λ h. (low m n most le h.0, g h.1)) l;
      }
  print_specifiers (qualifier s p v) ns t ok =
      let t1 = after_specifiers s t in
      let a = print_specifiers s ns t ok in
      record {
        now = qualifier a.now (length t1) v;
        ok = a.ok;
        alike = record { types = a.alike.types; storage = a.alike.storage; plain = a.alike.plain; declares = a.alike.declares; nothing = refl; void = refl };
        same = λ r r' h. a.same _ _ (ap (specs (qualifier_specifier 0 v)) h);
        prints = λ r0 r whole g w. a.prints _ _ whole (λ u. by_word _ _ _ whole r (qualifier_word v) (g u.1)) w;
        fewer = λ r0 r h. a.fewer _ _ h;
        nests = λ m n most r0 r le g l. a.nests m n most _ _ le (λ h. (low m n most le h.0, g h.1)) l;
      }
  print_specifiers (inlined s p) ns t ok =
      let t1 = after_specifiers s t in
      let a = print_specifiers s ns t ok in
      record {
        now = inlined a.now (length t1);
        ok = a.ok;
        alike = record { types = a.alike.types; storage = a.alike.storage; plain = refl; declares = a.alike.declares; nothing = refl; void = refl };
        same = λ r r' h. a.same _ _ (ap (specs (inline_specifier 0)) h);
        prints = λ r0 r whole g w. a.prints _ _ whole (λ u. by_word _ _ _ whole r inline_word (g u.1)) w;
        fewer = λ r0 r h. a.fewer _ _ h;
        nests = λ m n most r0 r le g l. a.nests m n most _ _ le (λ h. (low m n most le h.0, g h.1)) l;
      }
  print_specifiers (type_words s ws) ns t ok =
      let t1 = after_specifiers s t in
      let a = print_specifiers s ns t ok.0 in
      let b = print_words ws t1 in
      record {
        now = type_words a.now b.now;
        ok = (a.ok, a.alike.types ∙ ok.1, same_type ws t1 b ∙ ok.2);
        alike = record { types = refl; storage = a.alike.storage; plain = a.alike.plain; declares = a.alike.declares; nothing = refl; void = same_void s a.now ws t1 b a.alike.nothing };
        same = λ r r' h. a.same _ _ (ap₂ (λ vs. specs (words_specifier 0 vs)) (b.same []) h);
        prints = λ r0 r whole g w. a.prints _ _ whole (λ u. ends_as _ _ t1 _ _ (words_text ws [] t1) b.prints _ _ whole g u) w;
        fewer = λ r0 r h. a.fewer _ _ (b.fewer _ _ h);
        nests = λ m n most r0 r le g l. a.nests m n most _ _ le (λ h. b.nests m n most _ _ le g h) l;
      }
  print_specifiers (typedef_name s p x) ns t ok =
      let t1 = after_specifiers s t in
      let a = print_specifiers s ns t ok.0 in
      record {
        now = typedef_name a.now (length t1) x;
        ok = (a.ok, a.alike.types ∙ ok.1, ok.2);
        alike = record { types = refl; storage = a.alike.storage; plain = a.alike.plain; declares = a.alike.declares; nothing = refl; void = refl };
        same = λ r r' h. a.same _ _ (ap (specs (typedef_specifier 0 x)) h);
        prints = λ r0 r whole g w. a.prints _ _ whole (λ u. by_word _ _ _ whole r (name_word x u.0) (g u.1)) w;
        fewer = λ r0 r h. a.fewer _ _ h;
        nests = λ m n most r0 r le g l. a.nests m n most _ _ le (λ h. (low m n most le h.0, g h.1)) l;
      }
  print_specifiers (composite_reference s p v q x) ns t ok =
      let t1 = after_specifiers s t in
      let a = print_specifiers s ns t ok.0 in
      record {
        now = composite_reference a.now (length t1) v (length (put_word (composite_text v) t1)) x;
        ok = (a.ok, a.alike.types ∙ ok.1);
        alike = record { types = refl; storage = a.alike.storage; plain = a.alike.plain; declares = a.alike.declares; nothing = refl; void = refl };
        same = λ r r' h. a.same _ _ (ap (specs (reference_specifier 0 v 0 x)) h);
        prints = λ r0 r whole g w. a.prints _ _ whole (λ u. by_word _ _ _ whole _ (composite_word v) (by_word _ _ _ whole r (name_word x u.1.0) (g u.1.1))) w;
        fewer = λ r0 r h. a.fewer _ _ h;
        nests = λ m n most r0 r le g l. a.nests m n most _ _ le (λ h. (low m n most le h.0, (low m n most le h.1.0, g h.1.1))) l;
      }
  print_specifiers (composite s p v x q ms l) ns t ok =
      let t1 = after_specifiers s t in
      let t2 = put_word (composite_text v) t1 in
      let t3 = put_tag (tag_tree x) t2 in
      let t4 = put_line (codes "{") t3 in
      let a = print_specifiers s ns t ok.0 in
      let b = print_tag x t2 in
      let c = print_members ms ns t4 ok.2 in
      record {
        now = composite a.now (length t1) v b.now (length t3) c.now (length (put_members (members_onto ms no_member_trees) t4));
        ok = (a.ok, a.alike.types ∙ ok.1, c.ok, c.has ∙ ok.3);
        alike = record { types = refl; storage = a.alike.storage; plain = a.alike.plain; declares = a.alike.declares; nothing = refl; void = refl };
        same = λ r r' h. a.same _ _ (ap₂ specs (ap₂ (λ y z. composite_specifier 0 v y 0 z) b.same (c.same no_member_trees no_member_trees refl)) h);
        prints = λ r0 r whole g w.
            a.prints _ _ whole (λ u. by_word _ _ _ whole _ (composite_word v) (b.prints _ _ whole (λ y. by_line _ _ _ whole _ left_brace_word
            (ends_as _ _ t4 _ _ (members_text ms no_member_trees t4) c.prints _ _ whole (λ z. by_word _ _ _ whole r right_brace_word (g z.1)) y.1)) u.1)) w;
        fewer = λ r0 r h. a.fewer _ _ (b.fewer _ _ (c.fewer _ _ h));
        nests = λ m n most r0 r le g h.
            a.nests m n most _ _ le (λ i. (low m n most le i.0, b.nests m n most _ _ le (λ j. (lower m n most le j.0, c.nests (suc m) (suc n) most _ _ (under m n 0 le) (λ e. (lower m n most le e.0, g e.1)) j.1)) i.1)) h;
      }
  print_specifiers (enum_reference s p q x) ns t ok =
      let t1 = after_specifiers s t in
      let a = print_specifiers s ns t ok.0 in
      record {
        now = enum_reference a.now (length t1) (length (put_word (codes "enum") t1)) x;
        ok = (a.ok, a.alike.types ∙ ok.1);
        alike = record { types = refl; storage = a.alike.storage; plain = a.alike.plain; declares = a.alike.declares; nothing = refl; void = refl };
        same = λ r r' h. a.same _ _ (ap (specs (enum_reference_specifier 0 0 x)) h);
        prints = λ r0 r whole g w. a.prints _ _ whole (λ u. by_word _ _ _ whole _ enum_word (by_word _ _ _ whole r (name_word x u.1.0) (g u.1.1))) w;
        fewer = λ r0 r h. a.fewer _ _ h;
        nests = λ m n most r0 r le g l. a.nests m n most _ _ le (λ h. (low m n most le h.0, (low m n most le h.1.0, g h.1.1))) l;
      }
  print_specifiers (enumeration s p x q es e c l) ns t ok =
      let t1 = after_specifiers s t in
      let t2 = put_word (codes "enum") t1 in
      let t3 = put_tag (tag_tree x) t2 in
      let t4 = put_word (codes "{") t3 in
      let t5 = after_enumerators es t4 in
      let a = print_specifiers s ns t ok.0 in
      let b = print_tag x t2 in
      let d = print_enumerators es ns t4 ok.2 in
      let f = print_enumerator e ns t5 ok.3 in
      record {
        now = enumeration a.now (length t1) b.now (length t3) d.now f.now no_comma (length (after_enumerator e t5));
        ok = (a.ok, a.alike.types ∙ ok.1, d.ok, f.ok);
        alike = record { types = refl; storage = a.alike.storage; plain = a.alike.plain; declares = a.alike.declares; nothing = refl; void = refl };
        same = λ r r' h. a.same _ _ (ap₂ specs (ap₂ (λ y z. enum_specifier 0 y 0 z) b.same (d.same _ _ (f.same no_enumerator_trees no_enumerator_trees refl))) h);
        prints = λ r0 r whole g w.
            a.prints _ _ whole (λ u. by_word _ _ _ whole _ enum_word (b.prints _ _ whole (λ y. by_word _ _ _ whole _ left_brace_word
            (d.prints _ _ whole (λ z. f.prints _ _ whole (λ i. by_word _ _ _ whole r right_brace_word
            (subst (λ j. Written r (put_word (codes "}") j) whole) (enumerators_text es e no_enumerator_trees t4) (g (last_word c l r0 i)))) z) y.1)) u.1)) w;
        fewer = λ r0 r h. a.fewer _ _ (b.fewer _ _ (d.fewer _ _ (f.fewer _ _ (before_comma c l r0 r h))));
        nests = λ m n most r0 r le g h.
            a.nests m n most _ _ le (λ i. (low m n most le i.0, b.nests m n most _ _ le (λ j. (low m n most le j.0, d.nests m n most _ _ le (λ y. f.nests m n most _ _ le (λ z. (low m n most le (last_nest c m most r0 z).0, g (last_nest c m most r0 z).1)) y) j.1)) i.1)) h;
      }

  pub print_members : (ms : Members) (ns : List k.Identifier) (t : Text) → MembersOk ns ms → PrintedMembers ns ms t
  print_members no_members ns t ok = record {
    now = no_members;
    ok = ok;
    has = refl;
    same = λ r r' h. h;
    prints = λ r0 r whole g w. g w;
    fewer = λ r0 r h. h;
    nests = λ m n most r0 r le g l. g l;
  }
  print_members (members ms s ds d p) ns t ok =
      let t1 = after_members ms t in
      let t2 = put_specifiers (specifiers_onto s no_specs) t1 in
      let t3 = after_declarators ds t2 in
      let a = print_members ms ns t ok.0 in
      let b = print_specifiers s ns t1 ok.1 in
      let c = print_declarators ds ns t2 ok.4 in
      let e = print_declarator d ns t3 ok.5 in
      record {
        now = members a.now b.now c.now e.now (length (put_declarator (declarator_tree d) t3));
        ok = (a.ok, b.ok, b.alike.types ∙ ok.2, b.alike.plain ∙ ok.3, c.ok, e.ok);
        has = refl;
        same = λ r r' h. a.same _ _ (three (λ y z i. member_trees 0 y z i) _ _ _ _ _ _ (b.same no_specs no_specs refl) (c.same _ _ (ap (λ y. declarator_trees y no_declarator_trees) e.same)) h);
        prints = λ r0 r whole g w.
            a.prints _ _ whole (λ u. ends_as _ _ t1 _ t2 (specifiers_text s no_specs t1) b.prints _ _ whole (λ y. c.prints _ _ whole (λ z. e.prints _ _ whole
            (λ i. by_line _ _ _ whole r semicolon_word (subst (λ j. Written r (put_line (codes ";") j) whole) (declarators_text ds (declarator_tree d) no_declarator_trees t2) (g i.1))) z) y) u) w;
        fewer = λ r0 r h. a.fewer _ _ (b.fewer _ _ (c.fewer _ _ (few_declarator d e _ _ h)));
        nests = λ m n most r0 r le g l.
            a.nests m n most _ _ le (λ h. b.nests m n most _ _ le (λ i. c.nests m n most _ _ le (λ j. e.whole m n most _ _ le (λ y. (low m n most le y.0, g y.1)) j) i) h) l;
      }

  pub print_declarators : (ds : Declarators) (ns : List k.Identifier) (t : Text) → DeclaratorsOk ns ds → PrintedDeclarators ns ds t
  print_declarators no_declarators ns t ok = record {
    now = no_declarators;
    ok = ok;
    same = λ r r' h. h;
    prints = λ r0 r whole g w. g w;
    fewer = λ r0 r h. h;
    nests = λ m n most r0 r le g l. g l;
  }
  print_declarators (declarators ds d p) ns t ok =
      let t1 = after_declarators ds t in
      let a = print_declarators ds ns t ok.0 in
      let b = print_declarator d ns t1 ok.1 in
      record {
        now = declarators a.now b.now (length (put_declarator (declarator_tree d) t1));
        ok = (a.ok, b.ok);
        same = λ r r' h. a.same _ _ (ap₂ declarator_trees b.same h);
        prints = λ r0 r whole g w. a.prints _ _ whole (λ u. b.prints _ _ whole (λ v. by_word _ _ _ whole r comma_word (g v.1)) u) w;
        fewer = λ r0 r h. a.fewer _ _ (few_declarator d b _ _ h);
        nests = λ m n most r0 r le g l. a.nests m n most _ _ le (λ h. b.whole m n most _ _ le (λ i. (low m n most le i.0, g i.1)) h) l;
      }

  pub print_enumerator : (e : Enumerator) (ns : List k.Identifier) (t : Text) → EnumeratorOk ns e → PrintedEnumerator ns e t
  print_enumerator (enumerator p x) ns t ok = record {
    now = enumerator (length t) x;
    ok = ok;
    same = λ r r' h. ap (enumerator_trees 0 x left_out) h;
    prints = λ r0 r whole g w. by_word _ _ t whole r (name_word x w.0) (g w.1);
    fewer = λ r0 r h. h;
    nests = λ m n most r0 r le g l. (low m n most le l.0, g l.1);
  }
  print_enumerator (enumerator_value p x q e) ns t ok =
      let t1 = put_word x t in
      let a = operand ns e 2 (put_word (codes "=") t1) (omega arith) ok.2 (print_expression e ns _ ok.1) in
      record {
        now = enumerator_value (length t) x (length t1) a.now;
        ok = (ok.0, a.ok, a.tight);
        same = λ r r' h. ap₂ (λ y z. enumerator_trees 0 x (stated y) z) a.same h;
        prints = λ r0 r whole g w. by_word _ _ t whole _ (name_word x w.0) (by_word _ _ _ whole _ (assignment_word k.Equals) (a.prints _ _ whole g w.1.1));
        fewer = λ r0 r h. a.fewer _ _ h;
        nests = λ m n most r0 r le g l. (low m n most le l.0, (low m n most le l.1.0, a.nests m n most _ _ le g l.1.1));
      }

  pub print_enumerators : (es : Enumerators) (ns : List k.Identifier) (t : Text) → EnumeratorsOk ns es → PrintedEnumerators ns es t
  print_enumerators no_enumerators ns t ok = record {
    now = no_enumerators;
    ok = ok;
    same = λ r r' h. h;
    prints = λ r0 r whole g w. g w;
    fewer = λ r0 r h. h;
    nests = λ m n most r0 r le g l. g l;
  }
  print_enumerators (enumerators es e p) ns t ok =
      let t1 = after_enumerators es t in
      let a = print_enumerators es ns t ok.0 in
      let b = print_enumerator e ns t1 ok.1 in
      record {
        now = enumerators a.now b.now (length (after_enumerator e t1));
        ok = (a.ok, b.ok);
        same = λ r r' h. a.same _ _ (b.same _ _ h);
        prints = λ r0 r whole g w. a.prints _ _ whole (λ u. b.prints _ _ whole (λ v. by_word _ _ _ whole r comma_word (g v.1)) u) w;
        fewer = λ r0 r h. a.fewer _ _ (b.fewer _ _ h);
        nests = λ m n most r0 r le g l. a.nests m n most _ _ le (λ h. b.nests m n most _ _ le (λ i. (low m n most le i.0, g i.1)) h) l;
      }

  pub print_declarator : (d : Declarator) (ns : List k.Identifier) (t : Text) → DeclaratorOk ns d → PrintedDeclarator ns d t
  print_declarator (declared_name p x) ns t ok = record {
    now = declared_name (length t) x;
    ok = ok;
    direct = refl;
    named = refl;
    bare = λ h. refl;
    head = λ h. h;
    same = refl;
    prints = λ r0 r whole g w. by_word _ _ t whole r (name_word x w.0) (g w.1);
    fewer = λ r0 r h. h;
    whole = λ m n most r0 r le g l. (low m n most le l.0, g l.1);
    inner = λ m n most r0 r le g l. (low m n most le l.0, g l.1);
    loose = λ m n most r0 r le g l. (low m n most le l.0, g l.1);
    inside = λ h. absurd (let bad : false ≡ true = h in cc);
  }
  print_declarator (pointer p qs d) ns t ok =
      let t1 = put_word (codes "*") t in
      let t2 = put_qualifiers (qualifiers_onto qs []) t1 in
      let a = print_qualifiers qs t1 in
      let b = print_declarator d ns t2 ok in
      record {
        now = pointer (length t) a.now b.now;
        ok = b.ok;
        direct = refl;
        named = b.named;
        bare = λ h. absurd (let bad : false ≡ true = h in cc);
        head = b.head;
        same = ap₂ pointer_to (a.same []) b.same;
        prints = λ r0 r whole g w. by_word _ _ t whole _ (operator_word k.Star) (ends_as _ _ t1 _ t2 (qualifiers_text qs [] t1) a.prints _ _ whole (λ u. b.prints _ _ whole g u) w.1);
        fewer = λ r0 r h. a.fewer _ _ (few_declarator d b _ _ h);
        whole = λ m n most r0 r le g l. (lower m n most le l.0, a.nests (suc m) (suc n) most _ _ (under m n 0 le) (λ h. b.inner (suc m) (suc n) most _ _ (under m n 0 le) g h) l.1);
        inner = λ m n most r0 r le g l. (low m n most le l.0, a.nests m n most _ _ le (λ h. b.inner m n most _ _ le g h) l.1);
        loose = λ m n most r0 r le g l. (low (suc m) n most (deeper m n 0 le) l.0, a.nests (suc m) n most _ _ (deeper m n 0 le) (λ h. b.inner (suc m) n most _ _ (deeper m n 0 le) g h) l.1);
        inside = λ h. absurd (let bad : false ≡ true = h in cc);
      }
  print_declarator (parenthesized_declarator p d q) ns t ok =
      let a = print_declarator d ns t ok in
      record {
        now = a.now;
        ok = a.ok;
        direct = a.direct;
        named = a.named;
        bare = λ h. absurd (let bad : false ≡ true = h in cc);
        head = λ h. absurd (let bad : false ≡ true = h in cc);
        same = a.same;
        prints = λ r0 r whole g w. a.prints _ r whole (λ v. g v.1) w.1;
        fewer = λ r0 r h. up _ _ (few_declarator d a _ _ h);
        whole = λ m n most r0 r le g l. a.whole (suc m) n most _ r (deeper m n 0 le) (λ h. g h.1) l.1;
        inner = λ m n most r0 r le g l. a.loose m n most _ r le (λ h. g h.1) l.1;
        loose = λ m n most r0 r le g l. a.loose (suc m) n most _ r (deeper m n 0 le) (λ h. g h.1) l.1;
        inside = λ e m n most r0 r le g l. a.whole m n most _ r le (λ h. g h.1) l.1;
      }
  print_declarator (array d p x q) ns t ok =
      let b = is_pointer (declarator_tree d) in
      let t1 = closed b (put_declarator (declarator_tree d) (opened b t)) in
      let t2 = put_word (codes "[") t1 in
      let a = direct_by ns d b t ok.1 refl (print_declarator d ns (opened b t) ok.0) in
      let c = print_length x ns t2 ok.2 in
      record {
        now = array a.now (length t1) c.now (length (put_maybe (length_tree x) t2));
        ok = (a.ok, a.direct, c.ok);
        direct = refl;
        named = a.named;
        bare = λ h. absurd (let bad : false ≡ true = h in cc);
        head = λ h. absurd (let bad : false ≡ true = h in cc);
        same = ap₂ array_of a.same c.same;
        prints = λ r0 r whole g w. a.prints _ _ whole (λ u. by_word _ _ _ whole _ left_bracket_word (c.prints _ _ whole (λ v. by_word _ _ _ whole r right_bracket_word (g v.1)) u.1)) w;
        fewer = λ r0 r h. a.fewer _ _ (c.fewer _ _ h);
        whole = λ m n most r0 r le g l.
            a.inner (suc m) (suc n) most _ _ (under m n 0 le) (λ h. (lower m n most le h.0, c.nests (suc m) (suc n) most _ _ (under m n 0 le) (λ i. (lower m n most le i.0, g i.1)) h.1)) l;
        inner = λ m n most r0 r le g l. a.inner m n most _ _ le (λ h. (low m n most le h.0, c.nests m n most _ _ le (λ i. (low m n most le i.0, g i.1)) h.1)) l;
        loose = λ m n most r0 r le g l.
            let le' = deeper m n 0 le in
            a.inner (suc m) n most _ _ le' (λ h. (low (suc m) n most le' h.0, c.nests (suc m) n most _ _ le' (λ i. (low (suc m) n most le' i.0, g i.1)) h.1)) l;
        inside = λ h. absurd (let bad : false ≡ true = h in cc);
      }
  print_declarator (function d p ps q) ns t ok =
      let b = is_pointer (declarator_tree d) in
      let t1 = closed b (put_declarator (declarator_tree d) (opened b t)) in
      let t2 = put_word (codes "(") t1 in
      let a = direct_by ns d b t ok.1 refl (print_declarator d ns (opened b t) ok.0) in
      let c = print_parameters ps ns t2 ok.2 in
      record {
        now = function a.now (length t1) c.now (length (put_list (parameters_tree ps) t2));
        ok = (a.ok, a.direct, c.ok);
        direct = refl;
        named = a.named;
        bare = λ h. absurd (let bad : false ≡ true = h in cc);
        head = λ h. head_parts a.now (length t1) c.now (length (put_list (parameters_tree ps) t2)) ∙ a.bare (sym (head_parts d p ps q) ∙ h);
        same = ap₂ function_of a.same c.same;
        prints = λ r0 r whole g w. a.prints _ _ whole (λ u. by_word _ _ _ whole _ left_paren_word (c.prints _ _ whole (λ v. by_word _ _ _ whole r right_paren_word (g v.1)) u.1)) w;
        fewer = λ r0 r h. a.fewer _ _ (up _ _ (c.fewer _ _ h));
        whole = λ m n most r0 r le g l.
            a.inner (suc m) (suc n) most _ _ (under m n 0 le) (λ h. (lower m n most le h.0, c.nests (suc m) (suc n) most _ _ (under m n 0 le) h.0 (λ i. (lower m n most le i.0, g i.1)) h.1)) l;
        inner = λ m n most r0 r le g l. a.inner m n most _ _ le (λ h. (low m n most le h.0, c.nests m n most _ _ le h.0 (λ i. (low m n most le i.0, g i.1)) h.1)) l;
        loose = λ m n most r0 r le g l.
            let le' = deeper m n 0 le in
            a.inner (suc m) n most _ _ le' (λ h. (low (suc m) n most le' h.0, c.nests (suc m) n most _ _ le' h.0 (λ i. (low (suc m) n most le' i.0, g i.1)) h.1)) l;
        inside = λ h. absurd (let bad : false ≡ true = h in cc);
      }

  pub print_length : (x : Length) (ns : List k.Identifier) (t : Text) → LengthOk ns x → PrintedLength ns x t
  print_length no_length ns t ok = record {
    now = no_length;
    ok = ok;
    same = refl;
    prints = λ r0 r whole g w. g w;
    fewer = λ r0 r h. h;
    nests = λ m n most r0 r le g l. g l;
  }
  print_length (length_of e) ns t ok =
      let a = operand ns e 2 t (omega arith) ok.1 (print_expression e ns _ ok.0) in
      record {
        now = length_of a.now;
        ok = (a.ok, a.tight);
        same = ap stated a.same;
        prints = a.prints;
        fewer = a.fewer;
        nests = a.nests;
      }

  pub print_abstract : (d : AbstractDeclarator) (ns : List k.Identifier) (t : Text) → AbstractOk ns d → PrintedAbstract ns d t
  print_abstract no_declarator ns t ok = record {
    now = no_declarator;
    ok = ok;
    direct = refl;
    some = refl;
    same = refl;
    prints = λ r0 r whole g w. g w;
    fewer = λ r0 r h. h;
    whole = λ m n most r0 r le g l. g l;
    inner = λ m n most r0 r le g l. g l;
    loose = λ m n most r0 r le g l. g l;
    inside = λ h. absurd (let bad : false ≡ true = h in cc);
  }
  print_abstract (abstract_pointer p qs d) ns t ok =
      let t1 = put_word (codes "*") t in
      let t2 = put_qualifiers (qualifiers_onto qs []) t1 in
      let a = print_qualifiers qs t1 in
      let b = print_abstract d ns t2 ok in
      record {
        now = abstract_pointer (length t) a.now b.now;
        ok = b.ok;
        direct = refl;
        some = refl;
        same = ap₂ pointer_to (a.same []) b.same;
        prints = λ r0 r whole g w. by_word _ _ t whole _ (operator_word k.Star) (ends_as _ _ t1 _ t2 (qualifiers_text qs [] t1) a.prints _ _ whole (λ u. b.prints _ _ whole g u) w.1);
        fewer = λ r0 r h. a.fewer _ _ (few_abstract d b _ _ h);
        whole = λ m n most r0 r le g l. (lower m n most le l.0, a.nests (suc m) (suc n) most _ _ (under m n 0 le) (λ h. b.whole (suc m) (suc n) most _ _ (under m n 0 le) g h) l.1);
        inner = λ m n most r0 r le g l. (low m n most le l.0, a.nests m n most _ _ le (λ h. b.whole m n most _ _ le g h) l.1);
        loose = λ m n most r0 r le g l. (low (suc m) n most (deeper m n 0 le) l.0, a.nests (suc m) n most _ _ (deeper m n 0 le) (λ h. b.whole (suc m) n most _ _ (deeper m n 0 le) g h) l.1);
        inside = λ h. absurd (let bad : false ≡ true = h in cc);
      }
  print_abstract (parenthesized_abstract p d q) ns t ok =
      let a = print_abstract d ns t ok.0 in
      record {
        now = a.now;
        ok = a.ok;
        direct = a.direct;
        some = a.some ∙ ok.1;
        same = a.same;
        prints = λ r0 r whole g w. a.prints _ r whole (λ v. g v.1) w.1;
        fewer = λ r0 r h. up _ _ (few_abstract d a _ _ h);
        whole = λ m n most r0 r le g l. a.whole (suc m) n most _ r (deeper m n 0 le) (λ h. g h.1) l.1;
        inner = λ m n most r0 r le g l. a.loose m n most _ r le (λ h. g h.1) l.1;
        loose = λ m n most r0 r le g l. a.loose (suc m) n most _ r (deeper m n 0 le) (λ h. g h.1) l.1;
        inside = λ e m n most r0 r le g l. a.whole m n most _ r le (λ h. g h.1) l.1;
      }
  print_abstract (abstract_array d p x q) ns t ok =
      let b = is_pointer (abstract_tree d) in
      let t1 = closed b (put_declarator (abstract_tree d) (opened b t)) in
      let t2 = put_word (codes "[") t1 in
      let a = direct_abstract_by ns d b t ok.1 refl (print_abstract d ns (opened b t) ok.0) in
      let c = print_length x ns t2 ok.2 in
      record {
        now = abstract_array a.now (length t1) c.now (length (put_maybe (length_tree x) t2));
        ok = (a.ok, a.direct, c.ok);
        direct = refl;
        some = refl;
        same = ap₂ array_of a.same c.same;
        prints = λ r0 r whole g w. a.prints _ _ whole (λ u. by_word _ _ _ whole _ left_bracket_word (c.prints _ _ whole (λ v. by_word _ _ _ whole r right_bracket_word (g v.1)) u.1)) w;
        fewer = λ r0 r h. a.fewer _ _ (c.fewer _ _ h);
        whole = λ m n most r0 r le g l.
            a.inner (suc m) (suc n) most _ _ (under m n 0 le) (λ h. (lower m n most le h.0, c.nests (suc m) (suc n) most _ _ (under m n 0 le) (λ i. (lower m n most le i.0, g i.1)) h.1)) l;
        inner = λ m n most r0 r le g l. a.inner m n most _ _ le (λ h. (low m n most le h.0, c.nests m n most _ _ le (λ i. (low m n most le i.0, g i.1)) h.1)) l;
        loose = λ m n most r0 r le g l.
            let le' = deeper m n 0 le in
            a.inner (suc m) n most _ _ le' (λ h. (low (suc m) n most le' h.0, c.nests (suc m) n most _ _ le' (λ i. (low (suc m) n most le' i.0, g i.1)) h.1)) l;
        inside = λ h. absurd (let bad : false ≡ true = h in cc);
      }
  print_abstract (abstract_function d p ps q) ns t ok =
      let b = is_pointer (abstract_tree d) in
      let t1 = closed b (put_declarator (abstract_tree d) (opened b t)) in
      let t2 = put_word (codes "(") t1 in
      let a = direct_abstract_by ns d b t ok.1 refl (print_abstract d ns (opened b t) ok.0) in
      let c = print_parameters ps ns t2 ok.2 in
      record {
        now = abstract_function a.now (length t1) c.now (length (put_list (parameters_tree ps) t2));
        ok = (a.ok, a.direct, c.ok);
        direct = refl;
        some = refl;
        same = ap₂ function_of a.same c.same;
        prints = λ r0 r whole g w. a.prints _ _ whole (λ u. by_word _ _ _ whole _ left_paren_word (c.prints _ _ whole (λ v. by_word _ _ _ whole r right_paren_word (g v.1)) u.1)) w;
        fewer = λ r0 r h. a.fewer _ _ (up _ _ (c.fewer _ _ h));
        whole = λ m n most r0 r le g l.
            a.inner (suc m) (suc n) most _ _ (under m n 0 le) (λ h. (lower m n most le h.0, c.nests (suc m) (suc n) most _ _ (under m n 0 le) h.0 (λ i. (lower m n most le i.0, g i.1)) h.1)) l;
        inner = λ m n most r0 r le g l. a.inner m n most _ _ le (λ h. (low m n most le h.0, c.nests m n most _ _ le h.0 (λ i. (low m n most le i.0, g i.1)) h.1)) l;
        loose = λ m n most r0 r le g l.
            let le' = deeper m n 0 le in
            a.inner (suc m) n most _ _ le' (λ h. (low (suc m) n most le' h.0, c.nests (suc m) n most _ _ le' h.0 (λ i. (low (suc m) n most le' i.0, g i.1)) h.1)) l;
        inside = λ h. absurd (let bad : false ≡ true = h in cc);
      }

  pub print_parameters : (ps : Parameters) (ns : List k.Identifier) (t : Text) → ParametersOk ns ps → PrintedParameters ns ps t
  print_parameters no_parameters ns t ok = record {
    now = void_parameter (length t);
    ok = ok;
    same = refl;
    prints = λ r0 r whole g w. by_word _ _ t whole r (type_word k.Void) (g w);
    fewer = λ r0 r h. h;
    nests = λ m n most r0 r le h g l. (low m n most le h, g l);
  }
  print_parameters (void_parameter p) ns t ok = record {
    now = void_parameter (length t);
    ok = ok;
    same = refl;
    prints = λ r0 r whole g w. by_word _ _ t whole r (type_word k.Void) (g w.1);
    fewer = λ r0 r h. h;
    nests = λ m n most r0 r le h g l. (low m n most le h, g l.1);
  }
  print_parameters (parameters ps x) ns t ok =
      let t1 = after_earlier ps t in
      let a = print_earlier ps ns t ok.0 in
      let b = print_parameter x ns t1 ok.1 in
      record {
        now = parameters a.now b.now;
        ok = (a.ok, b.ok, same_lone ps a.now x b.now a.first b.lone ∙ ok.2);
        same = a.same _ _ (b.same no_parameter_trees no_parameter_trees refl);
        prints = λ r0 r whole g w. a.prints _ _ whole (λ u. ends_as _ _ t1 _ _ (parameters_text ps x t) b.prints _ _ whole g u) w;
        fewer = λ r0 r h. a.fewer _ _ (b.fewer _ _ h);
        nests = λ m n most r0 r le h g l. a.nests m n most _ _ le (λ i. b.nests m n most _ _ le g i) l;
      }

  pub print_earlier : (ps : EarlierParameters) (ns : List k.Identifier) (t : Text) → EarlierOk ns ps → PrintedEarlier ns ps t
  print_earlier no_earlier ns t ok = record {
    now = no_earlier;
    ok = ok;
    first = refl;
    same = λ r r' h. h;
    prints = λ r0 r whole g w. g w;
    fewer = λ r0 r h. h;
    nests = λ m n most r0 r le g l. g l;
  }
  print_earlier (earlier ps x p) ns t ok =
      let t1 = after_earlier ps t in
      let a = print_earlier ps ns t ok.0 in
      let b = print_parameter x ns t1 ok.1 in
      record {
        now = earlier a.now b.now (length (after_parameter x t1));
        ok = (a.ok, b.ok);
        first = refl;
        same = λ r r' h. a.same _ _ (b.same _ _ h);
        prints = λ r0 r whole g w. a.prints _ _ whole (λ u. b.prints _ _ whole (λ v. by_word _ _ _ whole r comma_word (g v.1)) u) w;
        fewer = λ r0 r h. a.fewer _ _ (b.fewer _ _ h);
        nests = λ m n most r0 r le g l. a.nests m n most _ _ le (λ h. b.nests m n most _ _ le (λ i. (low m n most le i.0, g i.1)) h) l;
      }

  pub print_parameter : (x : Parameter) (ns : List k.Identifier) (t : Text) → ParameterOk ns x → PrintedParameter ns x t
  print_parameter (named_parameter s d) ns t ok =
      let t1 = put_specifiers (specifiers_onto s no_specs) t in
      let a = print_specifiers s ns t ok.0 in
      let b = print_declarator d ns t1 ok.3 in
      record {
        now = named_parameter a.now b.now;
        ok = (a.ok, a.alike.types ∙ ok.1, a.alike.plain ∙ ok.2, b.ok);
        lone = refl;
        same = λ r r' h. three (λ y z i. parameter_trees 0 y z i) _ _ _ _ _ _ (a.same no_specs no_specs refl) b.same h;
        prints = λ r0 r whole g w. ends_as _ _ t _ t1 (specifiers_text s no_specs t) a.prints _ _ whole (λ u. b.prints _ _ whole g u) w;
        fewer = λ r0 r h. a.fewer _ _ (few_declarator d b _ _ h);
        nests = λ m n most r0 r le g l. a.nests m n most _ _ le (λ h. b.whole m n most _ _ le g h) l;
      }
  print_parameter (unnamed_parameter s d) ns t ok =
      let t1 = put_specifiers (specifiers_onto s no_specs) t in
      let a = print_specifiers s ns t ok.0 in
      let b = print_abstract d ns t1 ok.3 in
      record {
        now = unnamed_parameter a.now b.now;
        ok = (a.ok, a.alike.types ∙ ok.1, a.alike.plain ∙ ok.2, b.ok);
        lone = ap₂ (λ y z. cond y false z) b.some a.alike.void;
        same = λ r r' h. three (λ y z i. parameter_trees 0 y z i) _ _ _ _ _ _ (a.same no_specs no_specs refl) b.same h;
        prints = λ r0 r whole g w. ends_as _ _ t _ t1 (specifiers_text s no_specs t) a.prints _ _ whole (λ u. b.prints _ _ whole g u) w;
        fewer = λ r0 r h. a.fewer _ _ (few_abstract d b _ _ h);
        nests = λ m n most r0 r le g l. a.nests m n most _ _ le (λ h. b.whole m n most _ _ le g h) l;
      }
