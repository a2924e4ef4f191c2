-- A switch of groups that are made.
use Rattle.std.specs.Prelude.{ℕ}
use Rattle.clight_lang.specs.Syntax.{Expression, Statement, Switch}
use Rattle.clight_placing.specs.Placing.{Inner, placed, GroupsMeant}

abbrev pub switch_with : Inner → Expression → GroupsMeant → Statement × ℕ
switch_with w e g = (Switch (placed w e) g.groups g.statements, g.next)
