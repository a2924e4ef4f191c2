-- What is judged of a tree that is borrowed is what is judged of the tree.
use Rattle.std.proofs.Common.{◌≡◌, ℕ, Bool, List, None, ap}
use Rattle.c_tree.specs.Shape.{expr_of, exprs_of, type_of, specifiers_of, members_of, declarators_of, enumerators_of, declarator_of, parameters_of}
use Rattle.c_tree.specs.declared.expr.Expr.{Expr}
use Rattle.c_tree.specs.declared.expr.TypeName.{TypeName}
use Rattle.c_tree.specs.declared.expr.Specifier.{Specifier}
use Rattle.c_tree.specs.declared.expr.Member.{Member}
use Rattle.c_tree.specs.declared.expr.Declarator.{Declarator}
use Rattle.c_tree.specs.declared.expr.Enumerator.{Enumerator}
use Rattle.c_tree.specs.declared.expr.Parameter.{Parameter}
use Rattle.clight_types.specs.Types.{Laid, nothing_laid}
use Rattle.clight_scopes.specs.Scopes.{Scene}
use Rattle.clight_operands.specs.Operands.{Allowed}
use Rattle.clight_typing.specs.Typing.{typed, typed_all, typed_name, specified, members_judged, member_declarators, enumerators_judged, declared, parameters_judged}

pub same_typed : (allowed : Allowed) (called : Bool) (s : Scene) (x y : Expr) → x ≡ y → typed allowed called s (expr_of x) ≡ typed allowed called s (expr_of y)
same_typed allowed called s x y is = ap (λ z. typed allowed called s (expr_of z)) is

pub same_list : (s : Scene) (x y : List Expr) → x ≡ y → typed_all s (exprs_of x) ≡ typed_all s (exprs_of y)
same_list s x y is = ap (λ z. typed_all s (exprs_of z)) is

pub same_name : (s : Scene) (x y : TypeName) → x ≡ y → typed_name s (type_of x) ≡ typed_name s (type_of y)
same_name s x y is = ap (λ z. typed_name s (type_of z)) is

pub same_specified : (s : Scene) (x y : List Specifier) → x ≡ y → specified s None (specifiers_of x) ≡ specified s None (specifiers_of y)
same_specified s x y is = ap (λ z. specified s None (specifiers_of z)) is

pub same_members : (s : Scene) (x y : List Member) → x ≡ y → members_judged s nothing_laid (members_of x) ≡ members_judged s nothing_laid (members_of y)
same_members s x y is = ap (λ z. members_judged s nothing_laid (members_of z)) is

pub same_declarators : (s : Scene) (base : ℕ) (laid : Laid) (x y : List Declarator) → x ≡ y → member_declarators s base laid (declarators_of x) ≡ member_declarators s base laid (declarators_of y)
same_declarators s base laid x y is = ap (λ z. member_declarators s base laid (declarators_of z)) is

pub same_enumerators : (s : Scene) (x y : List Enumerator) → x ≡ y → enumerators_judged s 0 (enumerators_of x) ≡ enumerators_judged s 0 (enumerators_of y)
same_enumerators s x y is = ap (λ z. enumerators_judged s 0 (enumerators_of z)) is

pub same_parameters : (own : Bool) (s : Scene) (x y : List Parameter) → x ≡ y → parameters_judged own s (parameters_of x) ≡ parameters_judged own s (parameters_of y)
same_parameters own s x y is = ap (λ z. parameters_judged own s (parameters_of z)) is

pub same_declared : (s : Scene) (own : Bool) (x y : Declarator) → x ≡ y → declared s own (declarator_of x) ≡ declared s own (declarator_of y)
same_declared s own x y is = ap (λ z. declared s own (declarator_of z)) is
