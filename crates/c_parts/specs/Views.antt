-- Which part of the reader's definition a value of the code's types is: the same with its tree without pointers.
use Rattle.std.specs.Prelude.{reverse}
use Rattle.c_reading.specs.Parts as p
use Rattle.c_tree.specs.Trees.{DeclaratorTree}
use Rattle.c_tree.specs.Shape.{expr_of, exprs_of, type_of, maybe_of, specifiers_of, members_of, enumerators_of, suffixes_of, direct_of, pointed, declarators_of, parameters_of, words_of, composite_of}
use Rattle.c_tree.specs.FileShape.{initializer_of, init_declarators_of, decl_of, externals_of, optional_of, first_of_for, label_of, labels_of, stmt_of, items_of, groups_of}
use Rattle.c_parts.specs.declared.expr.ExprPart.{ExprPart}
use Rattle.c_parts.specs.declared.expr.ArgumentsPart.{ArgumentsPart}
use Rattle.c_parts.specs.declared.expr.TypePart.{TypePart}
use Rattle.c_parts.specs.declared.expr.MaybePart.{MaybePart}
use Rattle.c_parts.specs.declared.specifiers.LastSpecifier.{LastSpecifier}
use Rattle.c_parts.specs.declared.specifiers.LastSpecifier.TheVariants as last
use Rattle.c_parts.specs.declared.specifiers.SpecifiersPart.{SpecifiersPart}
use Rattle.c_parts.specs.declared.specifiers.MembersPart.{MembersPart}
use Rattle.c_parts.specs.declared.specifiers.EnumeratorsPart.{EnumeratorsPart}
use Rattle.c_parts.specs.declared.declarator.DeclaratorShape.{DeclaratorShape}
use Rattle.c_parts.specs.declared.declarator.DeclaratorShape.TheVariants as shape
use Rattle.c_parts.specs.declared.declarator.Draft.{Draft}
use Rattle.c_parts.specs.declared.declarator.DeclaratorPart.{DeclaratorPart}
use Rattle.c_parts.specs.declared.declarator.DeclaratorsPart.{DeclaratorsPart}
use Rattle.c_parts.specs.declared.declarator.AbstractPart.{AbstractPart}
use Rattle.c_parts.specs.declared.declarator.ParametersPart.{ParametersPart}
use Rattle.c_parts.specs.declared.declaration.InitializerPart.{InitializerPart}
use Rattle.c_parts.specs.declared.declaration.InitsPart.{InitsPart}
use Rattle.c_parts.specs.declared.declaration.DeclarationPart.{DeclarationPart}
use Rattle.c_parts.specs.declared.declaration.FilePart.{FilePart}
use Rattle.c_parts.specs.declared.statement.OptionalPart.{OptionalPart}
use Rattle.c_parts.specs.declared.statement.ForFirstPart.{ForFirstPart}
use Rattle.c_parts.specs.declared.statement.LabelPart.{LabelPart}
use Rattle.c_parts.specs.declared.statement.LabelsPart.{LabelsPart}
use Rattle.c_parts.specs.declared.statement.StatementPart.{StatementPart}
use Rattle.c_parts.specs.declared.statement.ItemsPart.{ItemsPart}
use Rattle.c_parts.specs.declared.statement.GroupsPart.{GroupsPart}

abbrev pub expr_part_of : ExprPart → p.ExprPart
expr_part_of e = record { tree = expr_of e.tree; start = e.start; level = e.level; height = e.height }

abbrev pub arguments_part_of : ArgumentsPart → p.ArgumentsPart
arguments_part_of xs = record { trees = exprs_of xs.trees.items; height = xs.height }

abbrev pub type_part_of : TypePart → p.TypePart
type_part_of t = record { tree = type_of t.tree; height = t.height }

abbrev pub maybe_part_of : MaybePart → p.MaybePart
maybe_part_of m = record { tree = maybe_of m.tree; height = m.height }

abbrev pub last_of : LastSpecifier → p.LastSpecifier
last_of last.Whole = p.no_last
last_of (last.Words at words) = p.last_words at (words_of words.items)
last_of (last.Composite at word tag) = p.last_composite at (composite_of word) tag.at tag.name
last_of (last.Enum at tag) = p.last_enum at tag.at tag.name

abbrev pub specifiers_part_of : SpecifiersPart → p.SpecifiersPart
specifiers_part_of s = record { whole = specifiers_of s.whole.items; last = last_of s.last; start = s.start; has_type = s.has_type; has_storage = s.has_storage; declares_types = s.declares_types; height = s.height }

abbrev pub members_part_of : MembersPart → p.MembersPart
members_part_of ms = record { trees = members_of ms.trees.items; height = ms.height }

abbrev pub enumerators_part_of : EnumeratorsPart → p.EnumeratorsPart
enumerators_part_of es = record { trees = enumerators_of es.trees.items; height = es.height }

abbrev pub shape_of : DeclaratorShape → p.DeclaratorShape
shape_of shape.Bare = p.bare
shape_of shape.NamedFunction = p.named_function
shape_of shape.PointedFunction = p.pointed_function
shape_of shape.Other = p.other_shape

-- the declarator so far: its stars are held from the innermost out
abbrev pub draft_of : Draft → DeclaratorTree
draft_of d = pointed (reverse d.stars.items) (suffixes_of (direct_of d.direct) d.suffixes.items)

abbrev pub declarator_part_of : DeclaratorPart → p.DeclaratorPart
declarator_part_of d = record { tree = draft_of d.tree; name = d.name; shape = shape_of d.shape; inner = d.inner }

abbrev pub declarators_part_of : DeclaratorsPart → p.DeclaratorsPart
declarators_part_of ds = record { trees = declarators_of ds.trees.items; height = ds.height }

abbrev pub abstract_part_of : AbstractPart → p.AbstractPart
abstract_part_of a = record { tree = draft_of a.tree; is_some = a.is_some; inner = a.inner }

abbrev pub parameters_part_of : ParametersPart → p.ParametersPart
parameters_part_of ps = record { trees = parameters_of ps.trees.items; height = ps.height }

abbrev pub initializer_part_of : InitializerPart → p.InitializerPart
initializer_part_of i = record { tree = initializer_of i.tree; height = i.height }

abbrev pub inits_part_of : InitsPart → p.InitsPart
inits_part_of ds = record { trees = init_declarators_of ds.trees.items; height = ds.height }

abbrev pub declaration_part_of : DeclarationPart → p.DeclarationPart
declaration_part_of d = record { tree = decl_of d.tree; height = d.height }

abbrev pub file_part_of : FilePart → p.FilePart
file_part_of f = record { trees = externals_of f.trees.items; deepest = f.deepest }

abbrev pub optional_part_of : OptionalPart → p.OptionalPart
optional_part_of o = record { tree = optional_of o.tree; height = o.height }

abbrev pub for_first_part_of : ForFirstPart → p.ForFirstPart
for_first_part_of f = record { tree = first_of_for f.tree; height = f.height }

abbrev pub label_part_of : LabelPart → p.LabelPart
label_part_of l = record { tree = label_of l.tree; height = l.height }

abbrev pub labels_part_of : LabelsPart → p.LabelsPart
labels_part_of ls = record { trees = labels_of ls.trees.items; height = ls.height }

abbrev pub statement_part_of : StatementPart → p.StatementPart
statement_part_of s = record { tree = stmt_of s.tree; height = s.height }

abbrev pub items_part_of : ItemsPart → p.ItemsPart
items_part_of is = record { trees = items_of is.trees.items; height = is.height }

abbrev pub groups_part_of : GroupsPart → p.GroupsPart
groups_part_of gs = record { trees = groups_of gs.trees.items; height = gs.height }
