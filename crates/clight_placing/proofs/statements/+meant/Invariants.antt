use Rattle.std.proofs.Common.{◌≡◌, length, map, drop}
use Rattle.clight_lang.specs.Syntax.{group_of}
use Rattle.clight_placing.specs.Placing.{all_meant, groups_meant}
use Rattle.clight_placing.specs.InnerOf.{inner_of}
use Rattle.clight_made.specs.MadeOf.{made_list, made_groups}
use Rattle.clight_placing.specs.Listed.{shared_of, onto_statements, onto_groups}
use Rattle.clight_placing.proofs.statements.+meant.Given as goal

abbrev pub invariant-all_meant-loop-statement : goal.invariant-all_meant-loop-statement
invariant-all_meant-loop-statement l = onto_statements (map shared_of l.made.items) (all_meant (inner_of l.inner) l.next (made_list (drop l.statement-index l.list))) ≡ onto_statements (map shared_of l.fn.made.items) (all_meant (inner_of l.inner) l.fn.next (made_list l.list))

abbrev pub invariant-groups_meant-loop-group : goal.invariant-groups_meant-loop-group
invariant-groups_meant-loop-group l = onto_groups (map group_of l.made.items) (map shared_of l.statements.items) (groups_meant (inner_of l.inner) l.next (length l.statements.items) (made_groups (drop l.group-index l.groups))) ≡ groups_meant (inner_of l.inner) l.fn.next 0 (made_groups l.groups)
