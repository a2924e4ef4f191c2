-- What a vector of the code holds is the same as its row.
use Rattle.std.proofs.Common.{◌≡◌, refl, ap, rules}
use Rattle.c_tree.specs.declared.expr.Expr.{Row_of-Expr, end_of-Expr, more_of-Expr, items-the_row-Expr}
use Rattle.c_tree.specs.declared.expr.Specifier.{Row_of-Member, end_of-Member, more_of-Member, items-the_row-Member, Row_of-Enumerator, end_of-Enumerator, more_of-Enumerator, items-the_row-Enumerator}
use Rattle.c_tree.specs.declared.expr.Member.{Row_of-Specifier, end_of-Specifier, more_of-Specifier, items-the_row-Specifier, Row_of-Declarator, end_of-Declarator, more_of-Declarator, items-the_row-Declarator}
use Rattle.c_tree.specs.declared.expr.Declarator.{Row_of-Suffix, end_of-Suffix, more_of-Suffix, items-the_row-Suffix}
use Rattle.c_tree.specs.declared.expr.Suffix.{Row_of-Parameter, end_of-Parameter, more_of-Parameter, items-the_row-Parameter, None', Some'}
use Rattle.c_tree.specs.declared.stmt.Group.{Row_of-Item, end_of-Item, more_of-Item, items-the_row-Item}
use Rattle.c_tree.specs.FileShape.{item_onto, items_row, items_of}
use Rattle.c_tree.specs.declared.expr.Direct.TheViews.{the_lemmas}
use Rattle.c_tree.specs.Trees.{exprs, specs, left_out, stated, enumerator_trees, DeclaratorTree}
use Rattle.c_tree.specs.Shape.{expr_of, exprs_row, exprs_of, specifier_of, specifiers_row, specifiers_of, member_onto, members_row, members_of, enumerators_row, enumerators_of, suffix_of, suffixes_row, suffixes_of, declarators_row, declarators_of, parameters_row, parameters_of}

pub exprs_same : (n : _) (k : Row_of-Expr n) → exprs_row k ≡ exprs_of (items-the_row-Expr n k)
exprs_same _ end_of-Expr = refl
exprs_same _ (more_of-Expr e es) = ap (exprs (expr_of e)) (exprs_same _ es)

pub specifiers_same : (n : _) (k : Row_of-Specifier n) → specifiers_row k ≡ specifiers_of (items-the_row-Specifier n k)
specifiers_same _ end_of-Specifier = refl
specifiers_same _ (more_of-Specifier s ss) = ap (specs (specifier_of s)) (specifiers_same _ ss)

pub members_same : (n : _) (k : Row_of-Member n) → members_row k ≡ members_of (items-the_row-Member n k)
members_same _ end_of-Member = refl
members_same _ (more_of-Member m ms) = ap (member_onto m) (members_same _ ms)

pub suffixes_same : (d : DeclaratorTree) (n : _) (k : Row_of-Suffix n) → suffixes_row d k ≡ suffixes_of d (items-the_row-Suffix n k)
suffixes_same d _ end_of-Suffix = refl
suffixes_same d _ (more_of-Suffix x xs) = suffixes_same (suffix_of d x) _ xs

pub items_same : (n : _) (k : Row_of-Item n) → items_row k ≡ items_of (items-the_row-Item n k)
items_same _ end_of-Item = refl
items_same _ (more_of-Item i is) = ap (item_onto i) (items_same _ is)

pub enumerators_same : (n : _) (k : Row_of-Enumerator n) → enumerators_row k ≡ enumerators_of (items-the_row-Enumerator n k)
enumerators_same _ end_of-Enumerator = refl
enumerators_same _ (more_of-Enumerator at x None' es) = ap (enumerator_trees at x left_out) (enumerators_same _ es)
enumerators_same _ (more_of-Enumerator at x (Some' p e) es) = ap (enumerator_trees at x (stated (expr_of e))) (enumerators_same _ es)

pub declarators_same : (n : _) (k : Row_of-Declarator n) → declarators_row k ≡ declarators_of (items-the_row-Declarator n k)
declarators_same _ end_of-Declarator = refl
declarators_same _ (more_of-Declarator pointers d shape xs ds) = search (rules, the_lemmas, suffixes_same, declarators_same _ ds)

pub parameters_same : (n : _) (k : Row_of-Parameter n) → parameters_row k ≡ parameters_of (items-the_row-Parameter n k)
parameters_same _ end_of-Parameter = refl
parameters_same _ (more_of-Parameter at shape s pointers d places xs ps) = search (rules, the_lemmas, specifiers_same, suffixes_same, parameters_same _ ps)
