-- Statements of the code in vectors, and what a function gives beside the next temporary.
use Rattle.std.specs.Prelude.{ℕ, List, [], ◌∷◌, ◌++◌, map}
use Rattle.std.specs.declared.alloc.Global.{Global}
use Rattle.std.specs.declared.rc.Rc.{Rc}
use Rattle.clight_lang.specs.declared.statement.Stmt.{Stmt}
use Rattle.clight_lang.specs.Syntax.{Statement, Statements, Nil, Cons, GroupOf, statement_of, group_of}
use Rattle.clight_placing.specs.declared.statements.SwitchBody.{SwitchBody}
use Rattle.clight_placing.specs.Placing.{both, GroupsMeant}

abbrev pub shared_of : Rc Stmt Global → Statement
shared_of s = statement_of s.value

abbrev pub listed : List Statement → Statements
listed [] = Nil
listed (s ∷ ss) = Cons s (listed ss)

abbrev pub meant_of : Rc Stmt Global × ℕ → Statement × ℕ
meant_of r = (shared_of r.0, r.1)

-- behind statements that are made already
abbrev pub onto_statements : List Statement → Statements × ℕ → Statements × ℕ
onto_statements ss r = (both (listed ss) r.0, r.1)

abbrev pub switch_of : SwitchBody → GroupsMeant
switch_of r = record { groups = map group_of r.groups.items; statements = listed (map shared_of r.statements.items); next = r.next }

-- the groups of a switch behind those that are made already
abbrev pub onto_groups : List GroupOf → List Statement → GroupsMeant → GroupsMeant
onto_groups gs ss g = record { groups = gs ++ g.groups; statements = both (listed ss) g.statements; next = g.next }
