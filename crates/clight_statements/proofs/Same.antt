-- What is judged of a tree that is borrowed is what is judged of the tree.
use Rattle.std.proofs.Common.{◌≡◌, List, None, ap, ◌∙◌}
use Rattle.c_tree.specs.Shape.{specifiers_of}
use Rattle.c_tree.specs.FileShape.{stmt_of, items_of, groups_of, labels_of}
use Rattle.c_tree.specs.declared.expr.Specifier.{Specifier}
use Rattle.c_tree.specs.declared.stmt.Stmt.{Stmt}
use Rattle.c_tree.specs.declared.stmt.Item.{Item}
use Rattle.c_tree.specs.declared.stmt.Group.{Group}
use Rattle.c_tree.specs.declared.stmt.Label.{Label}
use Rattle.clight_scopes.specs.Scopes.{Scene}
use Rattle.clight_typing.specs.Typing.{specified}
use Rattle.clight_typing.specs.Statements.{Around, Labels, no_labels, stmt_judged, items_judged, groups_judged, labels_judged}

pub same_stmt : (a : Around) (s : Scene) (x y : Stmt) → x ≡ y → stmt_judged a s (stmt_of x) ≡ stmt_judged a s (stmt_of y)
same_stmt a s x y is = ap (λ z. stmt_judged a s (stmt_of z)) is

pub same_items : (a : Around) (s : Scene) (x y : List Item) → x ≡ y → items_judged a s (items_of x) ≡ items_judged a s (items_of y)
same_items a s x y is = ap (λ z. items_judged a s (items_of z)) is

pub same_groups : (a : Around) (s t : Scene) (x y : List Group) → s ≡ t → x ≡ y → groups_judged a s no_labels (groups_of x) ≡ groups_judged a t no_labels (groups_of y)
same_groups a s t x y begun is = ap (λ z. groups_judged a s no_labels (groups_of z)) is ∙ ap (λ u. groups_judged a u no_labels (groups_of y)) begun

pub same_labels : (s : Scene) (l : Labels) (x y : List Label) → x ≡ y → labels_judged s l (labels_of x) ≡ labels_judged s l (labels_of y)
same_labels s l x y is = ap (λ z. labels_judged s l (labels_of z)) is

pub same_specified : (s : Scene) (x y : List Specifier) → x ≡ y → specified s None (specifiers_of x) ≡ specified s None (specifiers_of y)
same_specified s x y is = ap (λ z. specified s None (specifiers_of z)) is
