-- What is printed of a declaration, a statement or a file is spelled by a derivation with the same tree, places aside.
use Rattle.std.proofs.Common.{◌≡◌, suc, ◌+◌, ◌≤◌, Bool, true, false, List, [], ◌∷◌, Option, Some, None, refl, sym, ◌∙◌, ap, ap₂, subst, subst₂, arith, codes, length}
use Rattle.c_grammar.specs.Tokens as k
use Rattle.c_grammar.specs.Derivations.{Expression, Declarator, Initializer, InitDeclarator, InitDeclarators, Declaration, ForFirst, Label, Labels, Statement, Items, Groups, File, no_comma, no_initializer, initializer, initializer_list, init_declarator, no_init_declarators, init_declarators, specifiers_alone, declaration, for_nothing, for_expression, for_declaration, case_label, default_label, first_label, next_label, block, empty_statement, expression_statement, if_statement, if_else, while_statement, do_statement, for_statement, switch_statement, jump_statement, return_statement, no_items, declaration_item, statement_item, no_groups, group, empty_file, external_declaration, function_definition}
use Rattle.c_grammar.specs.Spelling.{name_of, declares_types, declarator_names, init_declarator_names, init_declarators_names, declaration_names, for_first_names, statement_names, items_names, groups_names, file_names, ExpressionOk, SpecifiersOk, DeclaratorOk, InitializerOk, InitDeclaratorOk, InitDeclaratorsOk, DeclarationOk, OptionalOk, ForFirstOk, LabelOk, LabelsOk, StatementOk, ItemsOk, GroupsOk, FileOk}
use Rattle.c_tree.specs.Trees.{no_exprs, exprs, no_specs, value_init, list_init, init_tree, decl_tree, first_expr, first_decl, case_tree, block_stmt, expr_stmt, if_stmt, if_else_stmt, while_stmt, do_stmt, for_stmt, switch_stmt, return_stmt, no_item_trees, decl_item, stmt_item, no_group_trees, group_trees, decl_external, function_external}
use Rattle.c_tree.specs.Printing.{Text, put_word, put_line, put_expr, put_specifiers, put_declarator}
use Rattle.c_tree.specs.Statements.{put_optional, put_first, put_labels, jump_text, put_stmt, put_items, put_groups}
use Rattle.c_tree.specs.Reading.{expression_tree, specifiers_onto, declarator_tree, optional_tree, for_first_tree, labels_onto, statement_tree, items_onto, groups_onto}
use Rattle.c_round_trip.specs.Placeless.{placeless_first, placeless_optional, placeless_stmt}
use Rattle.c_round_trip.proofs.Ends.{ends_as, last_word, last_nest}
use Rattle.c_round_trip.proofs.Expressions.{print_expression, print_arguments, print_specifiers, print_declarator}
use Rattle.c_round_trip.proofs.Fixed.{assignment_word, jump_word, if_word, else_word, while_word, do_word, for_word, switch_word, case_word, default_word, return_word, left_brace_word, right_brace_word, left_paren_word, right_paren_word, semicolon_word, comma_word, colon_word}
use Rattle.c_round_trip.proofs.Items.{after_init, after_inits, inits_text, after_labels, labels_text, after_items, items_text, after_groups, groups_text, after_file, PrintedInitializer, PrintedInit, PrintedInits, PrintedDeclaration, PrintedOptional, PrintedFirst, PrintedLabel, PrintedLabels, PrintedStatement, PrintedItems, PrintedGroups, PrintedFile}
use Rattle.c_round_trip.proofs.Lists.{after_arguments, arguments_text, specifiers_text}
use Rattle.c_round_trip.proofs.Prints.{up, before_comma, three, under, flat, lower, low, parentheses, operand_text, few, few_declarator}
use Rattle.c_round_trip.proofs.Wrapped.{operand}
use Rattle.c_round_trip.proofs.Written.{Written, by_word, by_line}

-- ## Declarations

print_initializer : (i : Initializer) (ns : List k.Identifier) (t : Text) → InitializerOk ns i → PrintedInitializer ns i t
print_initializer no_initializer ns t ok = record {
  now = no_initializer;
  ok = ok;
  same = refl;
  prints = λ r0 r whole g w. g w;
  fewer = λ r0 r h. h;
  nests = λ m n most r0 r le g l. g l;
}
print_initializer (initializer p e) ns t ok =
    let a = print_expression e ns (put_word (codes "=") t) ok in
    record {
      now = initializer (length t) a.now;
      ok = a.ok;
      same = ap value_init a.same;
      prints = λ r0 r whole g w. by_word _ _ t whole _ (assignment_word k.Equals) (a.prints _ _ whole g w.1);
      fewer = λ r0 r h. few e a _ _ h;
      nests = λ m n most r0 r le g l. (low m n most le l.0, a.nests m n most _ _ (flat m n (parentheses e) le) g l.1);
    }
print_initializer (initializer_list p q xs e c l) ns t ok =
    let t1 = put_word (codes "=") t in
    let t2 = put_word (codes "{") t1 in
    let t3 = after_arguments xs t2 in
    let a = print_arguments xs ns t2 ok.0 in
    let b = print_expression e ns t3 ok.1 in
    record {
      now = initializer_list (length t) (length t1) a.now b.now no_comma (length (put_expr (expression_tree e) t3));
      ok = (a.ok, b.ok);
      same = ap (list_init 0) (a.same _ _ (ap (λ x. exprs x no_exprs) b.same));
      prints = λ r0 r whole g w.
          by_word _ _ t whole _ (assignment_word k.Equals) (by_word _ _ t1 whole _ left_brace_word (a.prints _ _ whole (λ u. b.prints _ _ whole
          (λ v. by_word _ _ _ whole r right_brace_word (subst (λ y. Written r (put_word (codes "}") y) whole) (arguments_text xs (expression_tree e) no_exprs t2) (g (last_word c l r0 v)))) u) w.1.1));
      fewer = λ r0 r h. a.fewer _ _ (few e b _ _ (before_comma c l r0 r h));
      nests = λ m n most r0 r le g h. (
        low m n most le h.0,
        (
          lower m n most le h.1.0,
          a.nests (suc m) (suc n) most _ _ (under m n 0 le) (λ i. b.nests (suc m) (suc n) most _ _ (under m n (parentheses e) le)
              (λ j. (lower m n most le (last_nest c (suc m) most r0 j).0, g (last_nest c (suc m) most r0 j).1)) i) h.1.1,
        ),
      );
    }

same_names : (b : Bool) (d e : Declarator) (ms : List k.Identifier) → name_of e ≡ name_of d → declarator_names b e ms ≡ declarator_names b d ms
same_names true d e ms h = ap (λ x. x ∷ ms) h
same_names false d e ms h = refl

print_init : (b : Bool) (d : InitDeclarator) (ns : List k.Identifier) (t : Text) → InitDeclaratorOk b ns d → PrintedInit b ns d t
print_init b (init_declarator d i) ns t ok =
    let t1 = put_declarator (declarator_tree d) t in
    let a = print_declarator d ns t ok.0 in
    let c = print_initializer i (declarator_names b d ns) t1 ok.1 in
    record {
      now = init_declarator a.now c.now;
      ok = (a.ok, subst (λ x. InitializerOk x c.now) (sym (same_names b d a.now ns a.named)) c.ok);
      names = λ ms. same_names b d a.now ms a.named;
      same = ap₂ init_tree a.same c.same;
      prints = λ r0 r whole g w. a.prints _ _ whole (λ u. c.prints _ _ whole g u) w;
      fewer = λ r0 r h. few_declarator d a _ _ (c.fewer _ _ h);
      nests = λ m n most r0 r le g l. a.whole m n most _ _ le (λ h. c.nests m n most _ _ le g h) l;
    }

print_inits : (b : Bool) (ds : InitDeclarators) (ns : List k.Identifier) (t : Text) → InitDeclaratorsOk b ns ds → PrintedInits b ns ds t
print_inits b no_init_declarators ns t ok = record {
  now = no_init_declarators;
  ok = ok;
  names = λ ms. refl;
  same = λ r r' h. h;
  prints = λ r0 r whole g w. g w;
  fewer = λ r0 r h. h;
  nests = λ m n most r0 r le g l. g l;
}
print_inits b (init_declarators ds d p) ns t ok =
    let t1 = after_inits ds t in
    let a = print_inits b ds ns t ok.0 in
    let c = print_init b d (init_declarators_names b ds ns) t1 ok.1 in
    record {
      now = init_declarators a.now c.now (length (after_init d t1));
      ok = (a.ok, subst (λ x. InitDeclaratorOk b x c.now) (sym (a.names ns)) c.ok);
      names = λ ms. c.names _ ∙ ap (λ x. init_declarator_names b d x) (a.names ms);
      same = λ r r' h. a.same _ _ (ap₂ (λ x y. x ∷ y) c.same h);
      prints = λ r0 r whole g w. a.prints _ _ whole (λ u. c.prints _ _ whole (λ v. by_word _ _ _ whole r comma_word (g v.1)) u) w;
      fewer = λ r0 r h. a.fewer _ _ (c.fewer _ _ h);
      nests = λ m n most r0 r le g l. a.nests m n most _ _ le (λ h. c.nests m n most _ _ le (λ i. (low m n most le i.0, g i.1)) h) l;
    }

pub print_declaration : (d : Declaration) (ns : List k.Identifier) (t : Text) → DeclarationOk ns d → PrintedDeclaration ns d t
print_declaration (specifiers_alone s p) ns t ok =
    let t1 = put_specifiers (specifiers_onto s no_specs) t in
    let a = print_specifiers s ns t ok.0 in
    record {
      now = specifiers_alone a.now (length t1);
      ok = (a.ok, a.alike.types ∙ ok.1);
      names = λ ms. refl;
      has = refl;
      same = ap (λ x. decl_tree 0 x []) (a.same no_specs no_specs refl);
      prints = λ r0 r whole g w. ends_as _ _ t _ t1 (specifiers_text s no_specs t) a.prints _ _ whole (λ u. by_line _ _ t1 whole r semicolon_word (g u.1)) w;
      fewer = λ r0 r h. a.fewer _ _ h;
      nests = λ m n most r0 r le g l. a.nests m n most _ _ le (λ h. (low m n most le h.0, g h.1)) l;
    }
print_declaration (declaration s ds d p) ns t ok =
    let b = declares_types s in
    let t1 = put_specifiers (specifiers_onto s no_specs) t in
    let t2 = after_inits ds t1 in
    let a = print_specifiers s ns t ok.0 in
    let c = print_inits b ds ns t1 ok.2 in
    let e = print_init b d (init_declarators_names b ds ns) t2 ok.3 in
    record {
      now = declaration a.now c.now e.now (length (after_init d t2));
      ok = (
        a.ok,
        a.alike.types ∙ ok.1,
        subst (λ x. InitDeclaratorsOk x ns c.now) (sym a.alike.declares) c.ok,
        subst₂ (λ x y. InitDeclaratorOk x y e.now) (sym a.alike.declares) (sym (ap (λ x. init_declarators_names x c.now ns) a.alike.declares ∙ c.names ns)) e.ok,
      );
      names = λ ms. ap (λ x. init_declarator_names x e.now (init_declarators_names x c.now ms)) a.alike.declares ∙ e.names _ ∙ ap (λ x. init_declarator_names b d x) (c.names ms);
      has = refl;
      same = ap₂ (decl_tree 0) (a.same no_specs no_specs refl) (c.same _ _ (ap (λ x. x ∷ []) e.same));
      prints = λ r0 r whole g w.
          ends_as _ _ t _ t1 (specifiers_text s no_specs t) a.prints _ _ whole (λ u. c.prints _ _ whole (λ v. e.prints _ _ whole
          (λ x. by_line _ _ _ whole r semicolon_word (subst (λ y. Written r (put_line (codes ";") y) whole) (inits_text ds d [] t1) (g x.1))) v) u) w;
      fewer = λ r0 r h. a.fewer _ _ (c.fewer _ _ (e.fewer _ _ h));
      nests = λ m n most r0 r le g l.
          a.nests m n most _ _ le (λ h. c.nests m n most _ _ le (λ i. e.nests m n most _ _ le (λ j. (low m n most le j.0, g j.1)) i) h) l;
    }

-- ## Parts of statements

print_optional : (e : Option Expression) (ns : List k.Identifier) (t : Text) → OptionalOk ns e → PrintedOptional ns e t
print_optional None ns t ok = record {
  now = None;
  ok = ok;
  same = refl;
  prints = λ r0 r whole g w. g w;
  fewer = λ r0 r h. h;
  nests = λ m n most r0 r le g l. g l;
}
print_optional (Some e) ns t ok =
    let a = print_expression e ns t ok in
    record {
      now = Some a.now;
      ok = a.ok;
      same = ap (λ x. Some x) a.same;
      prints = a.prints;
      fewer = few e a;
      nests = λ m n most r0 r le g l. a.nests m n most _ _ (flat m n (parentheses e) le) g l;
    }

print_first : (f : ForFirst) (ns : List k.Identifier) (t : Text) → ForFirstOk ns f → PrintedFirst ns f t
print_first (for_nothing p) ns t ok = record {
  now = for_nothing (length t);
  ok = ok;
  names = λ ms. refl;
  same = refl;
  prints = λ r0 r whole g w. by_word _ _ t whole r semicolon_word (g w.1);
  fewer = λ r0 r h. h;
  nests = λ m n most r0 r le g l. (low m n most le l.0, g l.1);
}
print_first (for_expression e p) ns t ok =
    let a = print_expression e ns t ok in
    record {
      now = for_expression a.now (length (put_expr (expression_tree e) t));
      ok = a.ok;
      names = λ ms. refl;
      same = ap first_expr a.same;
      prints = λ r0 r whole g w. a.prints _ _ whole (λ u. by_word _ _ _ whole r semicolon_word (g u.1)) w;
      fewer = λ r0 r h. few e a _ _ h;
      nests = λ m n most r0 r le g l. a.nests m n most _ _ (flat m n (parentheses e) le) (λ h. (low m n most le h.0, g h.1)) l;
    }
print_first (for_declaration d) ns t ok =
    let a = print_declaration d ns t ok.0 in
    record {
      now = for_declaration a.now;
      ok = (a.ok, a.has ∙ ok.1);
      names = a.names;
      same = ap first_decl a.same;
      prints = a.prints;
      fewer = a.fewer;
      nests = a.nests;
    }

print_label : (l : Label) (ns : List k.Identifier) (t : Text) → LabelOk ns l → PrintedLabel ns l t
print_label (case_label p e q) ns t ok =
    let t1 = put_word (codes "case") t in
    let a = operand ns e 2 t1 (omega arith) ok.1 (print_expression e ns _ ok.0) in
    record {
      now = case_label (length t) a.now (length (operand_text e 2 t1));
      ok = (a.ok, a.tight);
      same = ap (case_tree 0) a.same;
      prints = λ r0 r whole g w. by_word _ _ t whole _ case_word (a.prints _ _ whole (λ u. by_line _ _ _ whole r colon_word (g u.1)) w.1);
      fewer = λ r0 r h. a.fewer _ _ h;
      nests = λ m n most r0 r le g l. (low m n most le l.0, a.nests m n most _ _ le (λ h. (low m n most le h.0, g h.1)) l.1);
    }
print_label (default_label p q) ns t ok = record {
  now = default_label (length t) (length (put_word (codes "default") t));
  ok = ok;
  same = refl;
  prints = λ r0 r whole g w. by_word _ _ t whole _ default_word (by_line _ _ _ whole r colon_word (g w.1.1));
  fewer = λ r0 r h. h;
  nests = λ m n most r0 r le g l. (low m n most le l.0, (low m n most le l.1.0, g l.1.1));
}

print_labels : (ls : Labels) (ns : List k.Identifier) (t : Text) → LabelsOk ns ls → PrintedLabels ns ls t
print_labels (first_label l) ns t ok =
    let a = print_label l ns t ok in
    record {
      now = first_label a.now;
      ok = a.ok;
      same = λ r r' h. ap₂ (λ x y. x ∷ y) a.same h;
      prints = a.prints;
      fewer = a.fewer;
      nests = a.nests;
    }
print_labels (next_label ls l) ns t ok =
    let a = print_labels ls ns t ok.0 in
    let b = print_label l ns (after_labels ls t) ok.1 in
    record {
      now = next_label a.now b.now;
      ok = (a.ok, b.ok);
      same = λ r r' h. a.same _ _ (ap₂ (λ x y. x ∷ y) b.same h);
      prints = λ r0 r whole g w. a.prints _ _ whole (λ u. b.prints _ _ whole g u) w;
      fewer = λ r0 r h. a.fewer _ _ (b.fewer _ _ h);
      nests = λ m n most r0 r le g l. a.nests m n most _ _ le (λ h. b.nests m n most _ _ le g h) l;
    }

-- ## Statements

mutual
  pub print_statement : (s : Statement) (ns : List k.Identifier) (t : Text) → StatementOk ns s → PrintedStatement ns s t
  print_statement (block p is q) ns t ok =
      let t1 = put_line (codes "{") t in
      let a = print_items is ns t1 ok in
      record {
        now = block (length t) a.now (length (put_items (items_onto is no_item_trees) t1));
        ok = a.ok;
        names = a.names;
        takes = refl;
        same = ap (block_stmt 0) (a.same no_item_trees no_item_trees refl);
        prints = λ r0 r whole g w.
            by_line _ _ t whole _ left_brace_word (ends_as _ _ t1 _ _ (items_text is no_item_trees t1) a.prints _ _ whole (λ u. by_line _ _ _ whole r right_brace_word (g u.1)) w.1);
        fewer = λ r0 r h. a.fewer _ _ h;
        nests = λ m n most r0 r le g l. (lower m n most le l.0, a.nests (suc m) (suc n) most _ _ (under m n 0 le) (λ h. (lower m n most le h.0, g h.1)) l.1);
      }
  print_statement (empty_statement p) ns t ok = record {
    now = empty_statement (length t);
    ok = ok;
    names = λ ms. refl;
    takes = refl;
    same = refl;
    prints = λ r0 r whole g w. by_line _ _ t whole r semicolon_word (g w.1);
    fewer = λ r0 r h. h;
    nests = λ m n most r0 r le g l. (lower m n most le l.0, g l.1);
  }
  print_statement (expression_statement e p) ns t ok =
      let a = print_expression e ns t ok in
      record {
        now = expression_statement a.now (length (put_expr (expression_tree e) t));
        ok = a.ok;
        names = λ ms. refl;
        takes = refl;
        same = ap (expr_stmt 0) a.same;
        prints = λ r0 r whole g w. a.prints _ _ whole (λ u. by_line _ _ _ whole r semicolon_word (g u.1)) w;
        fewer = λ r0 r h. few e a _ _ h;
        nests = λ m n most r0 r le g l. a.nests (suc m) (suc n) most _ _ (under m n (parentheses e) le) (λ h. (lower m n most le h.0, g h.1)) l;
      }
  print_statement (if_statement p q e l s) ns t ok =
      let t1 = put_word (codes "if") t in
      let t2 = put_word (codes "(") t1 in
      let t3 = put_expr (expression_tree e) t2 in
      let a = print_expression e ns t2 ok.0 in
      let b = print_statement s ns (put_word (codes ")") t3) ok.1 in
      record {
        now = if_statement (length t) (length t1) a.now (length t3) b.now;
        ok = (a.ok, b.ok);
        names = b.names;
        takes = refl;
        same = ap₂ (if_stmt 0) a.same b.same;
        prints = λ r0 r whole g w.
            by_word _ _ t whole _ if_word (by_word _ _ t1 whole _ left_paren_word (a.prints _ _ whole (λ u. by_word _ _ t3 whole _ right_paren_word (b.prints _ _ whole g u.1)) w.1.1));
        fewer = λ r0 r h. up _ _ (few e a _ _ (b.fewer _ _ h));
        nests = λ m n most r0 r le g h. (
          lower m n most le h.0,
          (
            lower m n most le h.1.0,
            a.nests (suc m) (suc n) most _ _ (under m n (parentheses e) le)
                (λ i. (lower m n most le i.0, b.nests (suc m) (suc n) most _ _ (under m n 0 le) g i.1)) h.1.1,
          ),
        );
      }
  print_statement (if_else p q e l s x z) ns t ok =
      let t1 = put_word (codes "if") t in
      let t2 = put_word (codes "(") t1 in
      let t3 = put_expr (expression_tree e) t2 in
      let t4 = put_stmt (statement_tree s) (put_word (codes ")") t3) in
      let a = print_expression e ns t2 ok.0 in
      let b = print_statement s ns (put_word (codes ")") t3) ok.1 in
      let c = print_statement z (statement_names s ns) (put_word (codes "else") t4) ok.3 in
      record {
        now = if_else (length t) (length t1) a.now (length t3) b.now (length t4) c.now;
        ok = (a.ok, b.ok, b.takes ∙ ok.2, subst (λ y. StatementOk y c.now) (sym (b.names ns)) c.ok);
        names = λ ms. c.names _ ∙ ap (statement_names z) (b.names ms);
        takes = c.takes;
        same = three (λ u v y. if_else_stmt 0 u v y) _ _ _ _ _ _ a.same b.same c.same;
        prints = λ r0 r whole g w.
            by_word _ _ t whole _ if_word (by_word _ _ t1 whole _ left_paren_word (a.prints _ _ whole (λ u. by_word _ _ t3 whole _ right_paren_word
            (b.prints _ _ whole (λ v. by_word _ _ t4 whole _ else_word (c.prints _ _ whole g v.1)) u.1)) w.1.1));
        fewer = λ r0 r h. up _ _ (few e a _ _ (b.fewer _ _ (c.fewer _ _ h)));
        nests = λ m n most r0 r le g h. (
          lower m n most le h.0,
          (
            lower m n most le h.1.0,
            a.nests (suc m) (suc n) most _ _ (under m n (parentheses e) le)
                (λ i. (lower m n most le i.0, b.nests (suc m) (suc n) most _ _ (under m n 0 le) (λ j. (lower m n most le j.0, c.nests (suc m) (suc n) most _ _ (under m n 0 le) g j.1)) i.1)) h.1.1,
          ),
        );
      }
  print_statement (while_statement p q e l s) ns t ok =
      let t1 = put_word (codes "while") t in
      let t2 = put_word (codes "(") t1 in
      let t3 = put_expr (expression_tree e) t2 in
      let a = print_expression e ns t2 ok.0 in
      let b = print_statement s ns (put_word (codes ")") t3) ok.1 in
      record {
        now = while_statement (length t) (length t1) a.now (length t3) b.now;
        ok = (a.ok, b.ok);
        names = b.names;
        takes = b.takes;
        same = ap₂ (while_stmt 0) a.same b.same;
        prints = λ r0 r whole g w.
            by_word _ _ t whole _ while_word (by_word _ _ t1 whole _ left_paren_word (a.prints _ _ whole (λ u. by_word _ _ t3 whole _ right_paren_word (b.prints _ _ whole g u.1)) w.1.1));
        fewer = λ r0 r h. up _ _ (few e a _ _ (b.fewer _ _ h));
        nests = λ m n most r0 r le g h. (
          lower m n most le h.0,
          (
            lower m n most le h.1.0,
            a.nests (suc m) (suc n) most _ _ (under m n (parentheses e) le)
                (λ i. (lower m n most le i.0, b.nests (suc m) (suc n) most _ _ (under m n 0 le) g i.1)) h.1.1,
          ),
        );
      }
  print_statement (do_statement p s x q e l z) ns t ok =
      let t1 = put_stmt (statement_tree s) (put_word (codes "do") t) in
      let t2 = put_word (codes "while") t1 in
      let t3 = put_word (codes "(") t2 in
      let t4 = put_expr (expression_tree e) t3 in
      let a = print_statement s ns (put_word (codes "do") t) ok.0 in
      let b = print_expression e (statement_names s ns) t3 ok.1 in
      record {
        now = do_statement (length t) a.now (length t1) (length t2) b.now (length t4) (length (put_word (codes ")") t4));
        ok = (a.ok, subst (λ y. ExpressionOk y b.now) (sym (a.names ns)) b.ok);
        names = a.names;
        takes = refl;
        same = ap₂ (do_stmt 0) a.same b.same;
        prints = λ r0 r whole g w.
            by_word _ _ t whole _ do_word (a.prints _ _ whole (λ u. by_word _ _ t1 whole _ while_word (by_word _ _ t2 whole _ left_paren_word
            (b.prints _ _ whole (λ v. by_word _ _ t4 whole _ right_paren_word (by_line _ _ _ whole r semicolon_word (g v.1.1))) u.1.1))) w.1);
        fewer = λ r0 r h. a.fewer _ _ (up _ _ (few e b _ _ h));
        nests = λ m n most r0 r le g h. (
          lower m n most le h.0,
          a.nests (suc m) (suc n) most _ _ (under m n 0 le) (λ i. (
            lower m n most le i.0,
            (
              lower m n most le i.1.0,
              b.nests (suc m) (suc n) most _ _ (under m n (parentheses e) le) (λ j. (lower m n most le j.0, (lower m n most le j.1.0, g j.1.1))) i.1.1,
            ),
          )) h.1,
        );
      }
  print_statement (for_statement p q f c x u l s) ns t ok =
      let ms = for_first_names f ns in
      let t1 = put_word (codes "for") t in
      let t2 = put_word (codes "(") t1 in
      let t3 = put_first (for_first_tree f) t2 in
      let t4 = put_optional (optional_tree c) t3 in
      let t5 = put_word (codes ";") t4 in
      let t6 = put_optional (optional_tree u) t5 in
      let a = print_first f ns t2 ok.0 in
      let b = print_optional c ms t3 ok.1 in
      let d = print_optional u ms t5 ok.2 in
      let e = print_statement s ms (put_word (codes ")") t6) ok.3 in
      let again = sym (a.names ns) in
      record {
        now = for_statement (length t) (length t1) a.now b.now (length t4) d.now (length t6) e.now;
        ok = (a.ok, subst (λ y. OptionalOk y b.now) again b.ok, subst (λ y. OptionalOk y d.now) again d.ok, subst (λ y. StatementOk y e.now) again e.ok);
        names = λ os. e.names _ ∙ ap (statement_names s) (a.names os);
        takes = e.takes;
        same = three (λ v y z. for_stmt 0 v y z (placeless_stmt (statement_tree e.now))) _ _ _ _ _ _ a.same b.same d.same
            ∙ ap (for_stmt 0 (placeless_first (for_first_tree f)) (placeless_optional (optional_tree c)) (placeless_optional (optional_tree u))) e.same;
        prints = λ r0 r whole g w.
            by_word _ _ t whole _ for_word (by_word _ _ t1 whole _ left_paren_word (a.prints _ _ whole (λ v. b.prints _ _ whole (λ y. by_word _ _ t4 whole _ semicolon_word
            (d.prints _ _ whole (λ z. by_word _ _ t6 whole _ right_paren_word (e.prints _ _ whole g z.1)) y.1)) v) w.1.1));
        fewer = λ r0 r h. up _ _ (a.fewer _ _ (b.fewer _ _ (d.fewer _ _ (e.fewer _ _ h))));
        nests = λ m n most r0 r le g h. (
          lower m n most le h.0,
          (
            lower m n most le h.1.0,
            a.nests (suc m) (suc n) most _ _ (under m n 0 le) (λ v. b.nests (suc m) (suc n) most _ _ (under m n 0 le)
                (λ y. (lower m n most le y.0, d.nests (suc m) (suc n) most _ _ (under m n 0 le) (λ z. (lower m n most le z.0, e.nests (suc m) (suc n) most _ _ (under m n 0 le) g z.1)) y.1)) v) h.1.1,
          ),
        );
      }
  print_statement (switch_statement p q e l x gs z) ns t ok =
      let t1 = put_word (codes "switch") t in
      let t2 = put_word (codes "(") t1 in
      let t3 = put_expr (expression_tree e) t2 in
      let t4 = put_word (codes ")") t3 in
      let t5 = put_line (codes "{") t4 in
      let a = print_expression e ns t2 ok.0 in
      let b = print_groups gs ns t5 ok.1 in
      record {
        now = switch_statement (length t) (length t1) a.now (length t3) (length t4) b.now (length (put_groups (groups_onto gs no_group_trees) t5));
        ok = (a.ok, b.ok);
        names = b.names;
        takes = refl;
        same = ap₂ (switch_stmt 0) a.same (b.same no_group_trees no_group_trees refl);
        prints = λ r0 r whole g w.
            by_word _ _ t whole _ switch_word (by_word _ _ t1 whole _ left_paren_word (a.prints _ _ whole (λ u. by_word _ _ t3 whole _ right_paren_word (by_line _ _ t4 whole _ left_brace_word
            (ends_as _ _ t5 _ _ (groups_text gs no_group_trees t5) b.prints _ _ whole (λ v. by_line _ _ _ whole r right_brace_word (g v.1)) u.1.1))) w.1.1));
        fewer = λ r0 r h. up _ _ (few e a _ _ (b.fewer _ _ h));
        nests = λ m n most r0 r le g h. (
          lower m n most le h.0,
          (
            lower m n most le h.1.0,
            a.nests (suc m) (suc n) most _ _ (under m n (parentheses e) le)
                (λ i. (lower m n most le i.0, (lower m n most le i.1.0, b.nests (suc m) (suc n) most _ _ (under m n 0 le) (λ j. (lower m n most le j.0, g j.1)) i.1.1))) h.1.1,
          ),
        );
      }
  print_statement (jump_statement p j q) ns t ok = record {
    now = jump_statement (length t) j (length (put_word (jump_text j) t));
    ok = ok;
    names = λ ms. refl;
    takes = refl;
    same = refl;
    prints = λ r0 r whole g w. by_word _ _ t whole _ (jump_word j) (by_line _ _ _ whole r semicolon_word (g w.1.1));
    fewer = λ r0 r h. h;
    nests = λ m n most r0 r le g l. (lower m n most le l.0, (lower m n most le l.1.0, g l.1.1));
  }
  print_statement (return_statement p e q) ns t ok =
      let t1 = put_word (codes "return") t in
      let a = print_optional e ns t1 ok in
      record {
        now = return_statement (length t) a.now (length (put_optional (optional_tree e) t1));
        ok = a.ok;
        names = λ ms. refl;
        takes = refl;
        same = ap (return_stmt 0) a.same;
        prints = λ r0 r whole g w. by_word _ _ t whole _ return_word (a.prints _ _ whole (λ u. by_line _ _ _ whole r semicolon_word (g u.1)) w.1);
        fewer = λ r0 r h. a.fewer _ _ h;
        nests = λ m n most r0 r le g l. (lower m n most le l.0, a.nests (suc m) (suc n) most _ _ (under m n 0 le) (λ h. (lower m n most le h.0, g h.1)) l.1);
      }

  pub print_items : (is : Items) (ns : List k.Identifier) (t : Text) → ItemsOk ns is → PrintedItems ns is t
  print_items no_items ns t ok = record {
    now = no_items;
    ok = ok;
    names = λ ms. refl;
    has = refl;
    same = λ r r' h. h;
    prints = λ r0 r whole g w. g w;
    fewer = λ r0 r h. h;
    nests = λ m n most r0 r le g l. g l;
  }
  print_items (declaration_item is d) ns t ok =
      let a = print_items is ns t ok.0 in
      let b = print_declaration d (items_names is ns) (after_items is t) ok.1 in
      record {
        now = declaration_item a.now b.now;
        ok = (a.ok, subst (λ y. DeclarationOk y b.now) (sym (a.names ns)) b.ok);
        names = λ ms. b.names _ ∙ ap (declaration_names d) (a.names ms);
        has = refl;
        same = λ r r' h. a.same _ _ (ap₂ decl_item b.same h);
        prints = λ r0 r whole g w. a.prints _ _ whole (λ u. b.prints _ _ whole g u) w;
        fewer = λ r0 r h. a.fewer _ _ (b.fewer _ _ h);
        nests = λ m n most r0 r le g l. a.nests m n most _ _ le (λ h. b.nests m n most _ _ le g h) l;
      }
  print_items (statement_item is s) ns t ok =
      let a = print_items is ns t ok.0 in
      let b = print_statement s (items_names is ns) (after_items is t) ok.1 in
      record {
        now = statement_item a.now b.now;
        ok = (a.ok, subst (λ y. StatementOk y b.now) (sym (a.names ns)) b.ok);
        names = λ ms. b.names _ ∙ ap (statement_names s) (a.names ms);
        has = refl;
        same = λ r r' h. a.same _ _ (ap₂ stmt_item b.same h);
        prints = λ r0 r whole g w. a.prints _ _ whole (λ u. b.prints _ _ whole g u) w;
        fewer = λ r0 r h. a.fewer _ _ (b.fewer _ _ h);
        nests = λ m n most r0 r le g l. a.nests m n most _ _ le (λ h. b.nests m n most _ _ le g h) l;
      }

  pub print_groups : (gs : Groups) (ns : List k.Identifier) (t : Text) → GroupsOk ns gs → PrintedGroups ns gs t
  print_groups no_groups ns t ok = record {
    now = no_groups;
    ok = ok;
    names = λ ms. refl;
    ends = refl;
    same = λ r r' h. h;
    prints = λ r0 r whole g w. g w;
    fewer = λ r0 r h. h;
    nests = λ m n most r0 r le g l. g l;
  }
  print_groups (group gs ls is) ns t ok =
      let ms = groups_names gs ns in
      let t1 = after_groups gs t in
      let t2 = put_labels (labels_onto ls []) t1 in
      let a = print_groups gs ns t ok.0 in
      let b = print_labels ls ms t1 ok.2 in
      let c = print_items is ms t2 ok.3 in
      record {
        now = group a.now b.now c.now;
        ok = (a.ok, a.ends ∙ ok.1, subst (λ y. LabelsOk y b.now) (sym (a.names ns)) b.ok, subst (λ y. ItemsOk y c.now) (sym (a.names ns)) c.ok);
        names = λ os. c.names _ ∙ ap (items_names is) (a.names os);
        ends = c.has;
        same = λ r r' h. a.same _ _ (three (λ x y z. group_trees x y z) _ _ _ _ _ _ (b.same [] [] refl) (c.same no_item_trees no_item_trees refl) h);
        prints = λ r0 r whole g w.
            a.prints _ _ whole (λ u. ends_as _ _ t1 _ t2 (labels_text ls [] t1) b.prints _ _ whole (λ v. ends_as _ _ t2 _ _ (items_text is no_item_trees t2) c.prints _ _ whole g v) u) w;
        fewer = λ r0 r h. a.fewer _ _ (b.fewer _ _ (c.fewer _ _ h));
        nests = λ m n most r0 r le g l. a.nests m n most _ _ le (λ h. b.nests m n most _ _ le (λ i. c.nests m n most _ _ le g i) h) l;
      }

-- ## Files

no_more : 0 ≤ 0 + 0
no_more = omega arith

no_more_body : 1 ≤ 1 + 0
no_more_body = omega arith

pub print_file : (f : File) (t : Text) → FileOk f → PrintedFile f t
print_file empty_file t ok = record {
  now = empty_file;
  ok = ok;
  names = refl;
  same = λ r r' h. h;
  prints = λ r0 r whole g w. g w;
  fewer = λ r0 r h. h;
  nests = λ most r0 r g l. g l;
}
print_file (external_declaration f d) t ok =
    let a = print_file f t ok.0 in
    let b = print_declaration d (file_names f) (after_file f t) ok.1 in
    record {
      now = external_declaration a.now b.now;
      ok = (a.ok, subst (λ y. DeclarationOk y b.now) (sym a.names) b.ok);
      names = b.names _ ∙ ap (declaration_names d) a.names;
      same = λ r r' h. a.same _ _ (ap₂ (λ x y. decl_external x ∷ y) b.same h);
      prints = λ r0 r whole g w. a.prints _ _ whole (λ u. b.prints _ _ whole g u) w;
      fewer = λ r0 r h. a.fewer _ _ (b.fewer _ _ h);
      nests = λ most r0 r g l. a.nests most _ _ (λ h. b.nests 0 0 most _ _ no_more g h) l;
    }
print_file (function_definition f s d p is q) t ok =
    let ns = file_names f in
    let t1 = after_file f t in
    let t2 = put_specifiers (specifiers_onto s no_specs) t1 in
    let t3 = put_declarator (declarator_tree d) t2 in
    let t4 = put_line (codes "{") t3 in
    let a = print_file f t ok.0 in
    let b = print_specifiers s ns t1 ok.1 in
    let c = print_declarator d ns t2 ok.4 in
    let e = print_items is ns t4 ok.6 in
    let again = sym a.names in
    record {
      now = function_definition a.now b.now c.now (length t3) e.now (length (put_items (items_onto is no_item_trees) t4));
      ok = (
        a.ok,
        subst (λ y. SpecifiersOk y b.now) again b.ok,
        b.alike.types ∙ ok.2,
        b.alike.declares ∙ ok.3,
        subst (λ y. DeclaratorOk y c.now) again c.ok,
        c.head ok.5,
        subst (λ y. ItemsOk y e.now) again e.ok,
      );
      names = e.names _ ∙ ap (items_names is) a.names;
      same = λ r r' h. a.same _ _ (ap₂ (λ x y. x ∷ y) (three (λ x y z. function_external 0 x y 0 z) _ _ _ _ _ _ (b.same no_specs no_specs refl) c.same (e.same no_item_trees no_item_trees refl)) h);
      prints = λ r0 r whole g w.
          a.prints _ _ whole (λ u. ends_as _ _ t1 _ t2 (specifiers_text s no_specs t1) b.prints _ _ whole (λ v. c.prints _ _ whole (λ x. by_line _ _ t3 whole _ left_brace_word
          (ends_as _ _ t4 _ _ (items_text is no_item_trees t4) e.prints _ _ whole (λ y. by_line _ _ _ whole r right_brace_word (g y.1)) x.1)) v) u) w;
      fewer = λ r0 r h. a.fewer _ _ (b.fewer _ _ (few_declarator d c _ _ (e.fewer _ _ h)));
      nests = λ most r0 r g l.
          a.nests most _ _ (λ h. b.nests 0 0 most _ _ no_more (λ i. c.inner 0 0 most _ _ no_more (λ j. (j.0, e.nests 1 1 most _ _ no_more_body (λ v. (v.0, g v.1)) j.1)) i) h) l;
    }
