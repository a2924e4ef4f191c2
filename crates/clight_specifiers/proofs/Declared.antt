-- The name of a declarator is that of its inside.
use Rattle.std.proofs.Common.{◌≡◌, ℕ, false, cond, List, [], ◌∷◌, refl, ◌∙◌, ap}
use Rattle.std.specs.Prelude.{Vec}
use Rattle.std.specs.declared.alloc.Global.{Global}
use Rattle.c_tree.specs.declared.word.Qualifier.{Qualifier}
use Rattle.c_tree.specs.declared.expr.Declarator.{Declarator}
use Rattle.c_tree.specs.declared.expr.Suffix.{Suffix}
use Rattle.c_tree.specs.declared.expr.Suffix.TheVariants.{Array', Function'}
use Rattle.c_tree.specs.Trees.{DeclaratorTree}
use Rattle.c_tree.specs.Writing.{has_pointer, has_suffix}
use Rattle.c_tree.specs.Shape.{pointed, suffix_of, suffixes_of, declarator_of, direct_of}
use Rattle.clight_typing.specs.Typing.{declared_name, declared_at, is_name}

name_pointed : (qs : List (Vec Qualifier Global)) (d : DeclaratorTree) → declared_name (pointed qs d) ≡ declared_name d
name_pointed [] d = refl
name_pointed (q ∷ qs) d = name_pointed qs d

name_suffix : (d : DeclaratorTree) (x : Suffix) → declared_name (suffix_of d x) ≡ declared_name d
name_suffix d (Array' n) = refl
name_suffix d (Function' shape ps) = refl

name_suffixes : (xs : List Suffix) (d : DeclaratorTree) → declared_name (suffixes_of d xs) ≡ declared_name d
name_suffixes [] d = refl
name_suffixes (x ∷ xs) d = name_suffixes xs (suffix_of d x) ∙ name_suffix d x

pub name_told : (d : Declarator) → declared_name (declarator_of d) ≡ declared_name (direct_of d.direct)
name_told d = name_pointed d.pointers.items (suffixes_of (direct_of d.direct) d.suffixes.items) ∙ name_suffixes d.suffixes.items (direct_of d.direct)

place_pointed : (qs : List (Vec Qualifier Global)) (d : DeclaratorTree) (n : ℕ) → declared_at (pointed qs d) n ≡ declared_at d n
place_pointed [] d n = refl
place_pointed (q ∷ qs) d n = place_pointed qs d n

place_suffix : (d : DeclaratorTree) (x : Suffix) (n : ℕ) → declared_at (suffix_of d x) n ≡ declared_at d n
place_suffix d (Array' m) n = refl
place_suffix d (Function' shape ps) n = refl

place_suffixes : (xs : List Suffix) (d : DeclaratorTree) (n : ℕ) → declared_at (suffixes_of d xs) n ≡ declared_at d n
place_suffixes [] d n = refl
place_suffixes (x ∷ xs) d n = place_suffixes xs (suffix_of d x) n ∙ place_suffix d x n

pub place_told : (d : Declarator) (n : ℕ) → declared_at (declarator_of d) n ≡ declared_at (direct_of d.direct) n
place_told d n = place_pointed d.pointers.items (suffixes_of (direct_of d.direct) d.suffixes.items) n ∙ place_suffixes d.suffixes.items (direct_of d.direct) n

alone_pointed : (qs : List (Vec Qualifier Global)) (d : DeclaratorTree) → is_name (pointed qs d) ≡ cond (has_pointer qs) false (is_name d)
alone_pointed [] d = refl
alone_pointed (q ∷ qs) d = refl

suffix_no_name : (d : DeclaratorTree) (x : Suffix) → is_name (suffix_of d x) ≡ false
suffix_no_name d (Array' n) = refl
suffix_no_name d (Function' shape ps) = refl

suffixes_no_name : (xs : List Suffix) (d : DeclaratorTree) → is_name d ≡ false → is_name (suffixes_of d xs) ≡ false
suffixes_no_name [] d e = e
suffixes_no_name (x ∷ xs) d e = suffixes_no_name xs (suffix_of d x) (suffix_no_name d x)

alone_suffixes : (xs : List Suffix) (d : DeclaratorTree) → is_name (suffixes_of d xs) ≡ cond (has_suffix xs) false (is_name d)
alone_suffixes [] d = refl
alone_suffixes (x ∷ xs) d = suffixes_no_name xs (suffix_of d x) (suffix_no_name d x)

pub alone_told : (d : Declarator) → is_name (declarator_of d) ≡ cond (has_pointer d.pointers.items) false (cond (has_suffix d.suffixes.items) false (is_name (direct_of d.direct)))
alone_told d = alone_pointed d.pointers.items (suffixes_of (direct_of d.direct) d.suffixes.items) ∙ ap (cond (has_pointer d.pointers.items) false) (alone_suffixes d.suffixes.items (direct_of d.direct))
