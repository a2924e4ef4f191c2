-- The nodes of declarators and of parts that hold vectors.
use Rattle.std.proofs.Common.{◌≡◌, ◌+◌, ◌<◌, ℕ, zero, suc, refl, sym, ap, ◌∙◌, List, [], ◌∷◌, length, get_or, drop, Option, arith}
use Rattle.std.proofs.lemmas.Grind.{common_steps}
use Rattle.std.specs.Prelude.{Vec, Box}
use Rattle.std.specs.declared.alloc.Global.{Global}
use Rattle.c_tree.specs.declared.word.Qualifier.{Qualifier}
use Rattle.c_tree.specs.declared.word.CompositeWord.{CompositeWord}
use Rattle.c_tree.specs.declared.expr.Expr.{Expr}
use Rattle.c_tree.specs.declared.expr.Expr.TheVariants.{Call, SizeofType, Cast}
use Rattle.c_tree.specs.declared.expr.TypeName.{TypeName}
use Rattle.c_tree.specs.declared.expr.Tag.{Tag}
use Rattle.c_tree.specs.declared.expr.Specifier.TheVariants.{Composite, Enumeration}
use Rattle.c_tree.specs.declared.expr.Member.{Member, out-Member}
use Rattle.c_tree.specs.declared.expr.Enumerator.{Enumerator}
use Rattle.c_tree.specs.declared.expr.Declarator.{Declarator}
use Rattle.c_tree.specs.declared.expr.Direct.TheVariants.{Nested}
use Rattle.c_tree.specs.declared.expr.Parameter.{Parameter}
use Rattle.c_tree.specs.declared.expr.Suffix.{Suffix}
use Rattle.c_tree.specs.declared.expr.Suffix.TheVariants.{Array', Function', Function}
use Rattle.c_tree.specs.declared.stmt.Label.{Label}
use Rattle.c_tree.specs.declared.file.InitDeclarator.{InitDeclarator}
use Rattle.c_tree.specs.Trees.{DeclaratorTree, unnamed}
use Rattle.c_tree.specs.Shape.{pointed, suffix_of, suffixes_of, declarator_of, declarators_of, direct_of, parameters_of, expr_of, exprs_of, type_of, specifier_of, specifiers_of, members_of, enumerators_of}
use Rattle.c_tree.specs.FileShape.{labels_of, init_declarators_of}
use Rattle.c_tree.proofs.Shapes.{function_shape, nested_shape, call_shape, sizeof_shape, cast_shape, composite_shape, enumeration_shape, member_shape}
use Rattle.clight_nodes.specs.Nodes.{declarator_nodes, declarators_nodes, parameters_nodes, expr_nodes, exprs_nodes, type_nodes, specifier_nodes, specifiers_nodes, members_nodes, enumerators_nodes}
use Rattle.clight_nodes.specs.Counted.{counted, member_nodes, suffix_nodes, suffixes_nodes}

pointed_nodes : (ps : List (Vec Qualifier Global)) (d : DeclaratorTree) → declarator_nodes (pointed ps d) ≡ declarator_nodes d
pointed_nodes [] d = refl
pointed_nodes (q ∷ qs) d = pointed_nodes qs d

suffix_counts : (d : DeclaratorTree) (x : Suffix) → declarator_nodes (suffix_of d x) ≡ declarator_nodes d + suffix_nodes x
suffix_counts d (Array' n) = refl
suffix_counts d (Function' shape ps) = refl

suffixes_count : (xs : List Suffix) (d : DeclaratorTree) → declarator_nodes (suffixes_of d xs) ≡ declarator_nodes d + suffixes_nodes xs
suffixes_count [] d = omega arith
suffixes_count (x ∷ xs) d = (let e : declarator_nodes (suffixes_of (suffix_of d x) xs) ≡ declarator_nodes (suffix_of d x) + suffixes_nodes xs = suffixes_count xs (suffix_of d x) in let f : declarator_nodes (suffix_of d x) ≡ declarator_nodes d + suffix_nodes x = suffix_counts d x in omega arith)

pub declarator_counts : (d : Declarator) → declarator_nodes (declarator_of d) ≡ declarator_nodes (direct_of d.direct) + suffixes_nodes d.suffixes.items
declarator_counts d = pointed_nodes d.pointers.items (suffixes_of (direct_of d.direct) d.suffixes.items) ∙ suffixes_count d.suffixes.items (direct_of d.direct)

pub function_nodes : (ps : Vec Parameter Global) → suffix_nodes (Function ps) ≡ parameters_nodes (parameters_of ps.items)
function_nodes ps = by (suffix_counts unnamed (Function ps)) (ap declarator_nodes (function_shape unnamed ps))
  where
    by : {n m k : ℕ} → n ≡ 0 + m → n ≡ 0 + k → m ≡ k
    by p q = omega arith

pub nested_nodes : (d : Box Declarator Global) → declarator_nodes (direct_of (Nested d)) ≡ declarator_nodes (declarator_of d.value)
nested_nodes d = ap declarator_nodes (nested_shape d)

pub call_nodes : (at op : ℕ) (f : Box Expr Global) (xs : Vec Expr Global) → expr_nodes (expr_of (Call at op f xs)) ≡ 1 + (expr_nodes (expr_of f.value) + exprs_nodes (exprs_of xs.items))
call_nodes at op f xs = ap expr_nodes (call_shape at op f xs)

pub sizeof_nodes : (at : ℕ) (t : Box TypeName Global) → expr_nodes (expr_of (SizeofType at t)) ≡ 1 + type_nodes (type_of t.value)
sizeof_nodes at t = ap expr_nodes (sizeof_shape at t)

pub cast_nodes : (at : ℕ) (t : Box TypeName Global) (e : Box Expr Global) → expr_nodes (expr_of (Cast at t e)) ≡ 1 + (type_nodes (type_of t.value) + expr_nodes (expr_of e.value))
cast_nodes at t e = ap expr_nodes (cast_shape at t e)

pub composite_nodes : (at : ℕ) (w : CompositeWord) (t : Option Tag) (body : ℕ) (ms : Vec Member Global) → specifier_nodes (specifier_of (Composite at w t body ms)) ≡ members_nodes (members_of ms.items)
composite_nodes at w t body ms = ap specifier_nodes (composite_shape at w t body ms)

pub enumeration_nodes : (at : ℕ) (t : Option Tag) (body : ℕ) (es : Vec Enumerator Global) → specifier_nodes (specifier_of (Enumeration at t body es)) ≡ enumerators_nodes (enumerators_of es.items)
enumeration_nodes at t body es = ap specifier_nodes (enumeration_shape at t body es)

members_counted : (list : List Member) (i : ℕ) (m : Member) → i < length list → m ≡ get_or list i m → members_nodes (members_of (drop i list)) ≡ member_nodes m + members_nodes (members_of (drop (suc i) list))
members_counted [] i m lt e = absurd (omega arith)
members_counted (x ∷ xs) zero m lt e = ap members_nodes (member_shape x (members_of xs)) ∙ whole x (members_nodes (members_of xs)) ∙ ap (λ y. member_nodes y + members_nodes (members_of xs)) (sym e)
  where
    whole : (x : Member) (n : ℕ) → specifiers_nodes (specifiers_of (out-Member x).specifiers.items) + (declarators_nodes (declarators_of (out-Member x).declarators.items) + n) ≡ member_nodes x + n
    whole x n = omega arith
members_counted (x ∷ xs) (suc i) m lt e = members_counted xs i m (omega arith) e

counted_more : (c a b : ℕ) → counted (counted c a) b ≡ counted c (a + b)
counted_more c a b = grind (arith, common_steps)

-- one declaration of members and then the others
pub members_next : (list : List Member) (i : ℕ) (m : Member) (old new all : ℕ) → i < length list → m ≡ get_or list i m → new ≡ counted old (member_nodes m) → counted old (members_nodes (members_of (drop i list))) ≡ all → counted new (members_nodes (members_of (drop (i + 1) list))) ≡ all
members_next list i m old new all lt e step whole =
    let next : i + 1 ≡ suc i = omega arith in
    ap (λ k. counted new (members_nodes (members_of (drop k list)))) next
    ∙ ap (λ k. counted k (members_nodes (members_of (drop (suc i) list)))) step
    ∙ counted_more old (member_nodes m) (members_nodes (members_of (drop (suc i) list)))
    ∙ ap (counted old) (sym (members_counted list i m lt e))
    ∙ whole

-- ## Lists of the code and of the trees are as long as each other

pub labels_length : (ls : List Label) → length (labels_of ls) ≡ length ls
labels_length [] = refl
labels_length (l ∷ ls) = ap suc (labels_length ls)

pub inits_length : (ds : List InitDeclarator) → length (init_declarators_of ds) ≡ length ds
inits_length [] = refl
inits_length (d ∷ ds) = ap suc (inits_length ds)
