-- A list of trees with one more at its end.
use Rattle.std.proofs.Common.{◌≡◌, ℕ, List, [], ◌∷◌, ◌++◌, refl, sym, ap, ◌∙◌, reverse, ◌≤◌, suc, length, slice_index_or, false, arith}
use Rattle.std.proofs.lemmas.List.{reverse-append}
use Rattle.std.specs.Prelude.{Vec}
use Rattle.std.specs.declared.alloc.Global.{Global}
use Rattle.c_tree.specs.declared.word.Qualifier.{Qualifier}
use Rattle.c_tree.specs.declared.word.TypeWord.{TypeWord}
use Rattle.c_reading.specs.Parts.{add_expr, add_spec, add_declarator_tree, add_enumerator_tree, add_parameter_tree, add_member_tree, are_no_specs, are_no_parameters, are_no_members, is_void_list, is_empty}
use Rattle.c_tree.specs.declared.word.TypeWord.TheVariants as type
use Rattle.c_tree.specs.Trees.{DeclaratorTree, DeclaratorTrees, SpecifierTrees, MemberTrees, pointer_to, exprs, specs, declarator_trees, member_trees, enumerator_trees, parameter_trees}
use Rattle.c_tree.specs.declared.expr.Expr.{Expr}
use Rattle.c_tree.specs.declared.expr.Specifier.{Specifier}
use Rattle.c_tree.specs.declared.expr.Declarator.{Declarator}
use Rattle.c_tree.specs.declared.expr.Enumerator.{Enumerator}
use Rattle.c_tree.specs.declared.expr.Parameter.{Parameter}
use Rattle.c_tree.specs.declared.expr.Suffix.{Suffix}
use Rattle.c_tree.specs.declared.expr.Member.{Member, out-Member}
use Rattle.c_tree.specs.declared.file.InitDeclarator.{InitDeclarator}
use Rattle.c_tree.specs.declared.file.External.{External}
use Rattle.c_tree.specs.declared.stmt.Label.{Label}
use Rattle.c_tree.specs.Shape.{expr_of, exprs_of, specifier_of, specifiers_of, declarator_of, declarators_of, maybe_of, enumerators_of, parameters_of, suffix_of, suffixes_of, qualifier_of, qualifiers_of, pointed, member_onto, members_of, word_of, words_of}
use Rattle.c_tree.proofs.Shapes.{member_shape}
use Rattle.c_tree.specs.FileShape.{init_declarator_of, init_declarators_of, label_of, labels_of, external_of, externals_of}

pub exprs_end : (xs : List Expr) (e : Expr) → exprs_of (xs ++ e ∷ []) ≡ add_expr (exprs_of xs) (expr_of e)
exprs_end [] e = refl
exprs_end (x ∷ xs) e = ap (exprs (expr_of x)) (exprs_end xs e)

pub specifiers_end : (xs : List Specifier) (s : Specifier) → specifiers_of (xs ++ s ∷ []) ≡ add_spec (specifiers_of xs) (specifier_of s)
specifiers_end [] s = refl
specifiers_end (x ∷ xs) s = ap (specs (specifier_of x)) (specifiers_end xs s)

pub declarators_end : (xs : List Declarator) (d : Declarator) → declarators_of (xs ++ d ∷ []) ≡ add_declarator_tree (declarators_of xs) (declarator_of d)
declarators_end [] d = refl
declarators_end (x ∷ xs) d = ap (declarator_trees (declarator_of x)) (declarators_end xs d)

pub enumerators_end : (xs : List Enumerator) (e : Enumerator) → enumerators_of (xs ++ e ∷ []) ≡ add_enumerator_tree (enumerators_of xs) e.at e.name (maybe_of e.value)
enumerators_end [] e = refl
enumerators_end (x ∷ xs) e = ap (enumerator_trees x.at x.name (maybe_of x.value)) (enumerators_end xs e)

pub parameters_end : (xs : List Parameter) (p : Parameter) → parameters_of (xs ++ p ∷ []) ≡ add_parameter_tree (parameters_of xs) p.at (specifiers_of p.specifiers.items) (declarator_of p.declarator)
parameters_end [] p = refl
parameters_end (x ∷ xs) p = ap (parameter_trees x.at (specifiers_of x.specifiers.items) (declarator_of x.declarator)) (parameters_end xs p)

pub inits_end : (xs : List InitDeclarator) (d : InitDeclarator) → init_declarators_of (xs ++ d ∷ []) ≡ init_declarators_of xs ++ init_declarator_of d ∷ []
inits_end [] d = refl
inits_end (x ∷ xs) d = ap (λ ds. init_declarator_of x ∷ ds) (inits_end xs d)

pub labels_end : (xs : List Label) (l : Label) → labels_of (xs ++ l ∷ []) ≡ labels_of xs ++ label_of l ∷ []
labels_end [] l = refl
labels_end (x ∷ xs) l = ap (λ ls. label_of x ∷ ls) (labels_end xs l)

pub externals_end : (xs : List External) (x : External) → externals_of (xs ++ x ∷ []) ≡ externals_of xs ++ external_of x ∷ []
externals_end [] x = refl
externals_end (y ∷ ys) x = ap (λ xs. external_of y ∷ xs) (externals_end ys x)

pub suffixes_end : (xs : List Suffix) (x : Suffix) (d : DeclaratorTree) → suffixes_of d (xs ++ x ∷ []) ≡ suffix_of (suffixes_of d xs) x
suffixes_end [] x d = refl
suffixes_end (y ∷ ys) x d = suffixes_end ys x (suffix_of d y)

pub members_end : (xs : List Member) (m : Member) (at : ℕ) (ss : SpecifierTrees) (ds : DeclaratorTrees) → ((r : MemberTrees) → member_onto m r ≡ member_trees at ss ds r) → members_of (xs ++ m ∷ []) ≡ add_member_tree (members_of xs) at ss ds
members_end [] m at ss ds e = e _
members_end (x ∷ xs) m at ss ds e =
    member_shape x _ ∙ ap (member_trees (out-Member x).at (specifiers_of (out-Member x).specifiers.items) (declarators_of (out-Member x).declarators.items)) (members_end xs m at ss ds e) ∙ sym (ap (λ ms. add_member_tree ms at ss ds) (member_shape x _))

pub pointed_end : (qs : List (Vec Qualifier Global)) (q : Vec Qualifier Global) (d : DeclaratorTree) → pointed (reverse (qs ++ q ∷ [])) d ≡ pointer_to (qualifiers_of q.items) (pointed (reverse qs) d)
pointed_end qs q d = ap (λ (ps : List (Vec Qualifier Global)). pointed ps d) (reverse-append qs (q ∷ []))

pub no_specs_told : (xs : List Specifier) → 1 ≤ length xs → are_no_specs (specifiers_of xs) ≡ false
no_specs_told [] h = absurd (omega arith)
no_specs_told (x ∷ xs) h = refl

pub no_parameters_told : (xs : List Parameter) → 1 ≤ length xs → are_no_parameters (parameters_of xs) ≡ false
no_parameters_told [] h = absurd (omega arith)
no_parameters_told (x ∷ xs) h = refl

pub no_members_told : (xs : List Member) → 1 ≤ length xs → are_no_members (members_of xs) ≡ false
no_members_told [] h = absurd (omega arith)
no_members_told (x ∷ xs) h = ap are_no_members (member_shape x (members_of xs))

pub words_end : (ws : List TypeWord) (w : TypeWord) → words_of (ws ++ w ∷ []) ≡ words_of ws ++ word_of w ∷ []
words_end [] w = refl
words_end (v ∷ vs) w = ap (λ us. word_of v ∷ us) (words_end vs w)

pub words_length : (ws : List TypeWord) → length (words_of ws) ≡ length ws
words_length [] = refl
words_length (w ∷ ws) = ap suc (words_length ws)

pub qualifiers_end : (qs : List Qualifier) (q : Qualifier) → qualifiers_of (qs ++ q ∷ []) ≡ qualifiers_of qs ++ qualifier_of q ∷ []
qualifiers_end [] q = refl
qualifiers_end (x ∷ xs) q = ap (λ qs. qualifier_of x ∷ qs) (qualifiers_end xs q)

pub no_inits_told : (xs : List InitDeclarator) → 1 ≤ length xs → is_empty (init_declarators_of xs) ≡ false
no_inits_told [] h = absurd (omega arith)
no_inits_told (x ∷ xs) h = refl

-- a list of one word, and of none or more
pub one_word : (ws : List TypeWord) (d : TypeWord) → length ws ≡ 1 → words_of ws ≡ word_of (slice_index_or ws 0 d) ∷ []
one_word [] d h = absurd (omega arith)
one_word (w ∷ []) d h = refl
one_word (w ∷ v ∷ ws) d h = absurd (omega arith)

pub other_words : (ws : List TypeWord) → 2 ≤ length ws → is_void_list (words_of ws) ≡ false
other_words [] h = absurd (omega arith)
other_words (w ∷ []) h = absurd (omega arith)
other_words (type.Void ∷ v ∷ ws) h = refl
other_words (type.Char ∷ v ∷ ws) h = refl
other_words (type.Short ∷ v ∷ ws) h = refl
other_words (type.Int ∷ v ∷ ws) h = refl
other_words (type.Long ∷ v ∷ ws) h = refl
other_words (type.Float ∷ v ∷ ws) h = refl
other_words (type.Double ∷ v ∷ ws) h = refl
other_words (type.Signed ∷ v ∷ ws) h = refl
other_words (type.Unsigned ∷ v ∷ ws) h = refl
