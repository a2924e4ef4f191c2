-- What the code's surroundings of statements, heads of `for` and labels are, and what those functions judge that do a part of a definition's work.
use Rattle.std.specs.Prelude.{ℕ, false, List, [], Option, Some, None}
use Rattle.std.specs.Option.{option_map}
use Rattle.c_tree.specs.Trees.{ExprTree, ForFirstTree, StmtTree}
use Rattle.c_tree.specs.FileShape.{decl_of, stmt_of}
use Rattle.c_tree.specs.declared.stmt.Item.{Item}
use Rattle.c_tree.specs.declared.stmt.Item.TheVariants as item
use Rattle.clight_lang.specs.Syntax.{Expression, expression_of}
use Rattle.clight_types.specs.declared.kind.Constant.{Constant}
use Rattle.clight_types.specs.declared.rule.Rule.TheVariants as rule
use Rattle.clight_types.specs.Declarators.{Built}
use Rattle.clight_types.specs.Judged.{Judged, value, and_then, unless}
use Rattle.clight_types.specs.Types.{Spelling}
use Rattle.clight_scopes.specs.Scopes.{Scene, opened}
use Rattle.clight_typing.specs.Statements as t
use Rattle.clight_statements.specs.declared.around.Around as A
use Rattle.clight_statements.specs.declared.effects.ForHead as F
use Rattle.clight_statements.specs.declared.labels.Seen as L
use Rattle.clight_statements.specs.declared.locals.Local as D
use Rattle.clight_statements.specs.declared.labels.GroupLabels as G
use Rattle.clight_made.specs.declared.made.Made as M
use Rattle.clight_made.specs.MadeOf.{made_of, made_list}

abbrev pub around_of : A.Around → t.Around
around_of a = record { result = a.result_type; breaks = a.breaks; continues = a.continues }

-- a statement that may be missing
abbrev pub maybe_made : Option M.Made → t.MadeList
maybe_made None = t.NoMade
maybe_made (Some m) = t.alone (made_of m)

-- what is made behind what has been made before
abbrev pub behind : t.MadeList → Judged (Scene × t.MadeList) → Judged (Scene × t.MadeList)
behind made j = and_then j (λ q. value (q.0, t.joined made q.1))

abbrev pub groups_joined : t.MadeGroups → t.MadeGroups → t.MadeGroups
groups_joined t.NoGroups gs = gs
groups_joined (t.AndGroup ns d ms l) gs = t.AndGroup ns d ms (groups_joined l gs)

abbrev pub groups_behind : t.MadeGroups → Judged (Scene × t.MadeGroups) → Judged (Scene × t.MadeGroups)
groups_behind made j = and_then j (λ q. value (q.0, groups_joined made q.1))

-- ## Locals

-- the type and the number of a local
abbrev pub local_of : D.Local → ℕ × ℕ
local_of l = (l.type_number, l.number)

abbrev pub local_built : Scene → ℕ → ℕ → Spelling → Built → Judged (Scene × (ℕ × ℕ))
local_built s first_at at name b = and_then (t.local_judged s first_at at name b) (λ q. value (q.0, (t.local_type b, q.1)))

-- ## The parentheses of a `for`

pub record HeadMade : Type 0 where
  pub first : t.MadeList
  pub condition : Option Expression
  pub update : t.Made

abbrev pub head_of : F.ForHead → HeadMade
head_of h = record { first = made_list h.first.items; condition = option_map expression_of h.condition; update = made_of h.update }

abbrev pub head_judged : Scene → ForFirstTree → Option ExprTree → Option ExprTree → Judged (Scene × HeadMade)
head_judged s f c u =
    and_then (t.first_judged (opened s) f) (λ p. and_then (t.optional_condition p.0 c) (λ q. and_then (t.optional_effect q.0 u) (λ r.
    value (r.0, record { first = p.1; condition = q.1; update = r.1 }))))

-- ## Labels

-- the labels of the switch so far and of the group
abbrev pub labels_of : L.Seen → G.GroupLabels → t.Labels
labels_of seen group = record { seen = seen.numbers.keys; numbers = group.numbers.items; has_default = seen.has_default; is_default = group.is_default }

-- the same before the first label of a group
abbrev pub group_begun : L.Seen → t.Labels
group_begun seen = record { seen = seen.numbers.keys; numbers = []; has_default = seen.has_default; is_default = false }

-- a number of the group that no other label of the switch has
abbrev pub number_judged : t.Labels → ℕ → Constant → Judged t.Labels
number_judged l at c = unless (t.is_new l.seen c) rule.Label at (value (t.with_number l c))

-- ## Parts of statements and of blocks

abbrev pub else_judged : t.Around → Scene → Option StmtTree → Judged (Scene × t.Made)
else_judged a s None = value (s, t.NothingMade)
else_judged a s (Some x) = t.stmt_judged a s x

abbrev pub item_judged : t.Around → Scene → Item → Judged (Scene × t.MadeList)
item_judged a s (item.Decl d) = t.decl_judged s (decl_of d)
item_judged a s (item.Stmt x) = and_then (t.stmt_judged a s (stmt_of x)) (λ r. value (r.0, t.alone r.1))
