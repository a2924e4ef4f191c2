-- The tree of each value that holds a vector, a struct or an option, by what the code sees of it.
use Rattle.std.proofs.Common.{◌≡◌, ℕ, refl, Option, Some, None, rules}
use Rattle.std.specs.Prelude.{Vec, Box}
use Rattle.std.specs.declared.alloc.Global.{Global}
use Rattle.c_tree.specs.declared.expr.Expr.{Expr}
use Rattle.c_tree.specs.declared.expr.Expr.TheVariants.{Call, SizeofType, Cast}
use Rattle.c_tree.specs.declared.expr.Direct.TheViews.{the_lemmas}
use Rattle.c_tree.specs.declared.expr.TypeName.{TypeName}
use Rattle.c_tree.specs.declared.expr.Tag.{Tag}
use Rattle.c_tree.specs.declared.word.CompositeWord.{CompositeWord}
use Rattle.c_tree.specs.declared.expr.Specifier.TheVariants.{Composite, Enumeration}
use Rattle.c_tree.specs.declared.expr.Member.{Member, Member' as Members', out-Member}
use Rattle.c_tree.specs.declared.expr.Enumerator.{Enumerator}
use Rattle.c_tree.specs.declared.expr.Declarator.{Declarator}
use Rattle.c_tree.specs.declared.expr.Direct.TheVariants.{Nested}
use Rattle.c_tree.specs.declared.expr.Suffix.TheVariants.{Array, Function}
use Rattle.c_tree.specs.declared.expr.Parameter.{Parameter}
use Rattle.c_tree.specs.Trees.{call_expr, sizeof_type_expr, cast_expr, composite_specifier, enum_specifier, MemberTrees, member_trees, DeclaratorTree, array_of, function_of}
use Rattle.c_tree.specs.Shape.{expr_of, exprs_of, type_of, specifier_of, specifiers_of, composite_of, tag_of, member_onto, members_of, enumerators_of, direct_of, declarator_of, declarators_of, suffix_of, maybe_of, parameters_of}
use Rattle.c_tree.proofs.Rows.{exprs_same, specifiers_same, members_same, enumerators_same, suffixes_same, declarators_same, parameters_same}

pub call_shape : (at op : ℕ) (f : Box Expr Global) (xs : Vec Expr Global) → expr_of (Call at op f xs) ≡ call_expr at op (expr_of f.value) (exprs_of xs.items)
call_shape at op f xs = search (rules, the_lemmas, exprs_same)

pub sizeof_shape : (at : ℕ) (t : Box TypeName Global) → expr_of (SizeofType at t) ≡ sizeof_type_expr at (type_of t.value)
sizeof_shape at t = search (rules, the_lemmas, specifiers_same, suffixes_same)

pub cast_shape : (at : ℕ) (t : Box TypeName Global) (e : Box Expr Global) → expr_of (Cast at t e) ≡ cast_expr at (type_of t.value) (expr_of e.value)
cast_shape at t e = search (rules, the_lemmas, specifiers_same, suffixes_same)

pub composite_shape : (at : ℕ) (w : CompositeWord) (t : Option Tag) (body : ℕ) (ms : Vec Member Global) → specifier_of (Composite at w t body ms) ≡ composite_specifier at (composite_of w) (tag_of t) body (members_of ms.items)
composite_shape at w t body ms = search (rules, the_lemmas, members_same)

pub nested_shape : (d : Box Declarator Global) → direct_of (Nested d) ≡ declarator_of d.value
nested_shape d = search (rules, the_lemmas, suffixes_same)

pub array_shape : (d : DeclaratorTree) (n : Option (Box Expr Global)) → suffix_of d (Array n) ≡ array_of d (maybe_of n)
array_shape d None = refl
array_shape d (Some e) = refl

pub function_shape : (d : DeclaratorTree) (ps : Vec Parameter Global) → suffix_of d (Function ps) ≡ function_of d (parameters_of ps.items)
function_shape d ps = search (rules, the_lemmas, parameters_same)

pub enumeration_shape : (at : ℕ) (t : Option Tag) (body : ℕ) (es : Vec Enumerator Global) → specifier_of (Enumeration at t body es) ≡ enum_specifier at (tag_of t) body (enumerators_of es.items)
enumeration_shape at t body es = search (rules, the_lemmas, enumerators_same)

pub member_shape : (m : Member) (r : MemberTrees) → member_onto m r ≡ member_trees (out-Member m).at (specifiers_of (out-Member m).specifiers.items) (declarators_of (out-Member m).declarators.items) r
unfolding out-Member
member_shape (Members' at shape s places ds) r = search (rules, the_lemmas, specifiers_same, declarators_same)
