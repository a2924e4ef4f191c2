-- Counts that stand at the greatest value of their type, and the nodes and labels of what the code holds in vectors.
use Rattle.std.specs.Prelude.{ℕ, ◌+◌, List, [], ◌∷◌, min, max}
use Rattle.c_tree.specs.declared.expr.Member.{Member, out-Member}
use Rattle.c_tree.specs.declared.expr.Suffix.{Suffix}
use Rattle.c_tree.specs.declared.expr.Suffix.TheVariants.{Array', Function'}
use Rattle.c_tree.specs.declared.stmt.Item.{Item}
use Rattle.c_tree.specs.declared.stmt.Item.TheVariants as item
use Rattle.c_tree.specs.Shape.{maybe_held, parameters_row, specifiers_of, declarators_of}
use Rattle.c_tree.specs.FileShape.{decl_of, stmt_of}
use Rattle.clight_nodes.specs.Nodes.{maybe_nodes, specifiers_nodes, declarators_nodes, parameters_nodes, local_nodes, stmt_nodes, most_labels}

-- so many more; a count never falls
abbrev pub counted : ℕ → ℕ → ℕ
counted count more = max count (min (count + more) 18446744073709551615)

-- one declaration of members
abbrev pub member_nodes : Member → ℕ
member_nodes m = specifiers_nodes (specifiers_of (out-Member m).specifiers.items) + declarators_nodes (declarators_of (out-Member m).declarators.items)

abbrev pub suffix_nodes : Suffix → ℕ
suffix_nodes (Array' n) = maybe_nodes (maybe_held n)
suffix_nodes (Function' shape ps) = parameters_nodes (parameters_row ps)

abbrev pub suffixes_nodes : List Suffix → ℕ
suffixes_nodes [] = 0
suffixes_nodes (x ∷ xs) = suffix_nodes x + suffixes_nodes xs

abbrev pub item_nodes : Item → ℕ
item_nodes (item.Decl d) = local_nodes (decl_of d)
item_nodes (item.Stmt s) = stmt_nodes (stmt_of s)

abbrev pub item_labels : Item → ℕ
item_labels (item.Decl d) = 0
item_labels (item.Stmt s) = most_labels (stmt_of s)
