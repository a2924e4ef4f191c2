-- What a vector of the code holds is the same as its row, and the tree of each statement that holds one.
use Rattle.std.proofs.Common.{◌≡◌, refl, ap, rules}
use Rattle.std.specs.Prelude.{Vec, Box, Option}
use Rattle.std.specs.Option.{option_map}
use Rattle.std.specs.declared.alloc.Global.{Global}
use Rattle.clight_lang.specs.declared.expression.Expr.{Expr}
use Rattle.clight_lang.specs.Syntax.{expression_of}
use Rattle.clight_typing.specs.Statements.{BlockMade, ForMade, SwitchMade, AndMade}
use Rattle.clight_made.specs.declared.made.Made.{Made, Row_of-MadeGroup, end_of-MadeGroup, more_of-MadeGroup, items-the_row-MadeGroup}
use Rattle.clight_made.specs.declared.made.Made.TheVariants.{Block, For, Switch}
use Rattle.clight_made.specs.declared.made.Made.TheViews.{the_lemmas}
use Rattle.clight_made.specs.declared.made.MadeGroup.{MadeGroup, Row_of-Made, end_of-Made, more_of-Made, items-the_row-Made}
use Rattle.clight_made.specs.MadeOf.{made_of, made_row, groups_row, made_list, made_groups}

made_same : (n : _) (k : Row_of-Made n) → made_row k ≡ made_list (items-the_row-Made n k)
made_same _ end_of-Made = refl
made_same _ (more_of-Made x xs) = ap (AndMade (made_of x)) (made_same _ xs)

groups_same : (n : _) (k : Row_of-MadeGroup n) → groups_row k ≡ made_groups (items-the_row-MadeGroup n k)
groups_same _ end_of-MadeGroup = refl
groups_same _ (more_of-MadeGroup ns d shape ms gs) = search (rules, the_lemmas, made_same, groups_same _ gs)

pub block_shape : (ms : Vec Made Global) → made_of (Block ms) ≡ BlockMade (made_list ms.items)
block_shape ms = search (rules, the_lemmas, made_same)

pub for_shape : (ms : Vec Made Global) (c : Option Expr) (u a : Box Made Global) → made_of (For ms c u a) ≡ ForMade (made_list ms.items) (option_map expression_of c) (made_of u.value) (made_of a.value)
for_shape ms c u a = search (rules, the_lemmas, made_same)

pub switch_shape : (e : Expr) (gs : Vec MadeGroup Global) → made_of (Switch e gs) ≡ SwitchMade (expression_of e) (made_groups gs.items)
switch_shape e gs = search (rules, the_lemmas, groups_same)
