-- The tree and the text of each statement that holds a vector or an option, by what the code sees of it.
use Rattle.std.proofs.Common.{◌≡◌, ℕ, zero, suc, ◌+◌, ◌<◌, refl, sym, ◌∙◌, ap, List, [], ◌∷◌, length, get_or, drop, Option, Some, None, rules, arith}
use Rattle.std.specs.Prelude.{Vec, Box, codes}
use Rattle.std.specs.declared.alloc.Global.{Global}
use Rattle.c_tree.specs.declared.expr.Expr.{Expr}
use Rattle.c_tree.specs.declared.stmt.Item.{Item}
use Rattle.c_tree.specs.declared.stmt.Item.TheVariants as item
use Rattle.c_tree.specs.declared.stmt.Item.TheViews.{the_lemmas}
use Rattle.c_tree.specs.declared.stmt.Stmt.{Stmt, Row_of-Group, end_of-Group, more_of-Group, items-the_row-Group}
use Rattle.c_tree.specs.declared.stmt.Stmt.TheVariants.{Block, If, Switch}
use Rattle.c_tree.specs.declared.stmt.Group.{Group}
use Rattle.c_tree.specs.Trees.{block_stmt, switch_stmt, ItemTrees, no_item_trees}
use Rattle.c_tree.specs.Shape.{expr_of}
use Rattle.c_tree.specs.FileShape.{stmt_of, item_onto, items_of, groups_row, groups_of, else_of}
use Rattle.c_tree.specs.Printing.{Text}
use Rattle.c_tree.specs.Statements.{put_head, put_stmt, put_items, put_else}
use Rattle.c_tree.proofs.Rows.{items_same}

pub block_shape : (at : ℕ) (is : Vec Item Global) → stmt_of (Block at is) ≡ block_stmt at (items_of is.items)
block_shape at is = search (rules, the_lemmas, items_same)

pub groups_same : (n : _) (k : Row_of-Group n) → groups_row k ≡ groups_of (items-the_row-Group n k)
groups_same _ end_of-Group = refl
groups_same _ (more_of-Group ls shape is gs) = search (rules, the_lemmas, items_same, groups_same _ gs)

pub switch_shape : (at : ℕ) (e : Expr) (gs : Vec Group Global) → stmt_of (Switch at e gs) ≡ switch_stmt at (expr_of e) (groups_of gs.items)
switch_shape at e gs = search (rules, the_lemmas, groups_same)

pub if_put : (at : ℕ) (e : Expr) (a : Box Stmt Global) (b : Option (Box Stmt Global)) (t : Text) → put_stmt (stmt_of (If at e a b)) t ≡ put_else (else_of b) (put_stmt (stmt_of a.value) (put_head (codes "if") (expr_of e) t))
if_put at e a None t = refl
if_put at e a (Some b) t = refl

-- one item and then the others
pub item_put : (i : Item) (r : ItemTrees) (t : Text) → put_items (item_onto i r) t ≡ put_items r (put_items (item_onto i no_item_trees) t)
item_put (item.Decl d) r t = refl
item_put (item.Stmt s) r t = refl

items_at : (list : List Item) (i : ℕ) (m : Item) (t : Text) → i < length list → m ≡ get_or list i m → put_items (items_of (drop i list)) t ≡ put_items (items_of (drop (suc i) list)) (put_items (item_onto m no_item_trees) t)
items_at [] i m t lt e = absurd (omega arith)
items_at (x ∷ xs) zero m t lt e = item_put x (items_of xs) t ∙ ap (λ y. put_items (items_of xs) (put_items (item_onto y no_item_trees) t)) (sym e)
items_at (x ∷ xs) (suc i) m t lt e = items_at xs i m t (omega arith) e

-- one item and then the others
pub items_next : (list : List Item) (i : ℕ) (m : Item) (old new all : Text) → i < length list → m ≡ get_or list i m → new ≡ put_items (item_onto m no_item_trees) old → put_items (items_of (drop i list)) old ≡ all → put_items (items_of (drop (i + 1) list)) new ≡ all
items_next list i m old new all lt e step whole =
    let next : i + 1 ≡ suc i = omega arith in
    ap (λ k. put_items (items_of (drop k list)) new) next ∙ ap (put_items (items_of (drop (suc i) list))) step ∙ sym (items_at list i m old lt e) ∙ whole
