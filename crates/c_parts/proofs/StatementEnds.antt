-- Items and groups with one more at their end, and the statements that hold them.
pub use Rattle.c_tree.proofs.Statements.{block_shape, switch_shape}
use Rattle.std.proofs.Common.{◌≡◌, List, [], ◌∷◌, ◌++◌, refl, ap}
use Rattle.c_reading.specs.Parts.{add_decl_item, add_stmt_item, add_group_tree}
use Rattle.c_tree.specs.Trees.{decl_item, stmt_item, group_trees}
use Rattle.c_tree.specs.declared.file.Decl.{Decl}
use Rattle.c_tree.specs.declared.stmt.Stmt.{Stmt}
use Rattle.c_tree.specs.declared.stmt.Item.{Item}
use Rattle.c_tree.specs.declared.stmt.Item.TheVariants as item
use Rattle.c_tree.specs.declared.stmt.Group.{Group}
use Rattle.c_tree.specs.FileShape.{decl_of, stmt_of, labels_of, items_of, groups_of}

pub declarations_end : (xs : List Item) (d : Decl) → items_of (xs ++ item.Decl d ∷ []) ≡ add_decl_item (items_of xs) (decl_of d)
declarations_end [] d = refl
declarations_end (item.Decl x ∷ xs) d = ap (decl_item (decl_of x)) (declarations_end xs d)
declarations_end (item.Stmt x ∷ xs) d = ap (stmt_item (stmt_of x)) (declarations_end xs d)

pub statements_end : (xs : List Item) (s : Stmt) → items_of (xs ++ item.Stmt s ∷ []) ≡ add_stmt_item (items_of xs) (stmt_of s)
statements_end [] s = refl
statements_end (item.Decl x ∷ xs) s = ap (decl_item (decl_of x)) (statements_end xs s)
statements_end (item.Stmt x ∷ xs) s = ap (stmt_item (stmt_of x)) (statements_end xs s)

pub groups_end : (xs : List Group) (g : Group) → groups_of (xs ++ g ∷ []) ≡ add_group_tree (groups_of xs) (labels_of g.labels.items) (items_of g.items.items)
groups_end [] g = refl
groups_end (x ∷ xs) g = ap (group_trees (labels_of x.labels.items) (items_of x.items.items)) (groups_end xs g)
