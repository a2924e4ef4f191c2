-- The text of a declarator, part by part.
use Rattle.std.proofs.Common.{◌≡◌, refl, sym, ◌∙◌, ap, Bool, true, false, cond, List, [], ◌∷◌, Option}
use Rattle.std.specs.Prelude.{Vec, Box, ◌&&◌, codes}
use Rattle.std.specs.declared.alloc.Global.{Global}
use Rattle.c_tree.specs.declared.word.Qualifier.{Qualifier}
use Rattle.c_tree.specs.declared.expr.Expr.{Expr}
use Rattle.c_tree.specs.declared.expr.Declarator.{Declarator}
use Rattle.c_tree.specs.declared.expr.Parameter.{Parameter}
use Rattle.c_tree.specs.declared.expr.Suffix.{Suffix}
use Rattle.c_tree.specs.declared.expr.Suffix.TheVariants.{Array', Function', Array, Function}
use Rattle.c_tree.specs.Trees.{DeclaratorTree, unnamed}
use Rattle.c_tree.specs.Shape.{pointed, suffix_of, suffixes_of, maybe_of, parameters_of, declarator_of, direct_of}
use Rattle.c_tree.specs.Printing.{Text, put_word, put_maybe, put_parameters, put_void, is_empty_list, is_pointer, opened, closed, put_declarator}
use Rattle.c_tree.specs.Writing.{put_pointers, put_suffix, put_suffixes, has_suffix, has_pointer}
use Rattle.c_tree.proofs.Shapes.{array_shape, function_shape}

pub pointers_put : (ps : List (Vec Qualifier Global)) (d : DeclaratorTree) (t : Text) → put_declarator (pointed ps d) t ≡ put_declarator d (put_pointers ps t)
pointers_put [] d t = refl
pointers_put (q ∷ qs) d t = pointers_put qs d _

suffix_put : (d : DeclaratorTree) (x : Suffix) (t : Text) → put_declarator (suffix_of d x) t ≡ put_suffix x (closed (is_pointer d) (put_declarator d (opened (is_pointer d) t)))
suffix_put d (Array' n) t = refl
suffix_put d (Function' shape ps) t = refl

suffix_no_pointer : (d : DeclaratorTree) (x : Suffix) → is_pointer (suffix_of d x) ≡ false
suffix_no_pointer d (Array' n) = refl
suffix_no_pointer d (Function' shape ps) = refl

plain_put : (xs : List Suffix) (d : DeclaratorTree) (t : Text) → is_pointer d ≡ false → put_declarator (suffixes_of d xs) t ≡ put_suffixes xs (put_declarator d t)
plain_put [] d t e = refl
plain_put (x ∷ xs) d t e =
    plain_put xs (suffix_of d x) t (suffix_no_pointer d x)
    ∙ ap (put_suffixes xs) (suffix_put d x t ∙ ap (λ b. put_suffix x (closed b (put_declarator d (opened b t)))) e)

and_true : (b : Bool) → (b && true) ≡ b
and_true true = refl
and_true false = refl

and_false : (b : Bool) → (b && false) ≡ false
and_false true = refl
and_false false = refl

pub suffixes_put : (xs : List Suffix) (d : DeclaratorTree) (t : Text) → put_declarator (suffixes_of d xs) t ≡ put_suffixes xs (closed (is_pointer d && has_suffix xs) (put_declarator d (opened (is_pointer d && has_suffix xs) t)))
suffixes_put [] d t = ap (λ b. closed b (put_declarator d (opened b t))) (sym (and_false (is_pointer d)))
suffixes_put (x ∷ xs) d t =
    plain_put xs (suffix_of d x) t (suffix_no_pointer d x)
    ∙ ap (put_suffixes xs) (suffix_put d x t ∙ ap (λ b. put_suffix x (closed b (put_declarator d (opened b t)))) (sym (and_true (is_pointer d))))

pub declarator_put : (d : Declarator) (t : Text) → put_declarator (declarator_of d) t ≡ put_suffixes d.suffixes.items (closed (is_pointer (direct_of d.direct) && has_suffix d.suffixes.items) (put_declarator (direct_of d.direct) (opened (is_pointer (direct_of d.direct) && has_suffix d.suffixes.items) (put_pointers d.pointers.items t))))
declarator_put d t = pointers_put d.pointers.items (suffixes_of (direct_of d.direct) d.suffixes.items) t ∙ suffixes_put d.suffixes.items (direct_of d.direct) (put_pointers d.pointers.items t)

-- one suffix, by what the code sees of it
pub array_put : (n : Option (Box Expr Global)) (t : Text) → put_suffix (Array n) t ≡ put_word (codes "]") (put_maybe (maybe_of n) (put_word (codes "[") t))
array_put n t = sym (suffix_put unnamed (Array n) t) ∙ ap (λ d. put_declarator d t) (array_shape unnamed n)

pub function_put : (ps : Vec Parameter Global) (t : Text) → put_suffix (Function ps) t ≡ put_word (codes ")") (put_parameters true (parameters_of ps.items) (put_void (is_empty_list (parameters_of ps.items)) (put_word (codes "(") t)))
function_put ps t = sym (suffix_put unnamed (Function ps) t) ∙ ap (λ d. put_declarator d t) (function_shape unnamed ps)

-- which declarators begin with a pointer
pointed_told : (ps : List (Vec Qualifier Global)) (d : DeclaratorTree) → is_pointer (pointed ps d) ≡ cond (has_pointer ps) true (is_pointer d)
pointed_told [] d = refl
pointed_told (q ∷ qs) d = refl

suffixes_no_pointer : (xs : List Suffix) (d : DeclaratorTree) → is_pointer d ≡ false → is_pointer (suffixes_of d xs) ≡ false
suffixes_no_pointer [] d e = e
suffixes_no_pointer (x ∷ xs) d e = suffixes_no_pointer xs (suffix_of d x) (suffix_no_pointer d x)

suffixes_told : (xs : List Suffix) (d : DeclaratorTree) → is_pointer (suffixes_of d xs) ≡ cond (has_suffix xs) false (is_pointer d)
suffixes_told [] d = refl
suffixes_told (x ∷ xs) d = suffixes_no_pointer xs (suffix_of d x) (suffix_no_pointer d x)

pub pointer_told : (d : Declarator) → is_pointer (declarator_of d) ≡ cond (has_pointer d.pointers.items) true (cond (has_suffix d.suffixes.items) false (is_pointer (direct_of d.direct)))
pointer_told d = pointed_told d.pointers.items (suffixes_of (direct_of d.direct) d.suffixes.items) ∙ ap (cond (has_pointer d.pointers.items) true) (suffixes_told d.suffixes.items (direct_of d.direct))
