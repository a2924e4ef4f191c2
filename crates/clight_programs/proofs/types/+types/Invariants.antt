use Rattle.std.proofs.Common.{◌≡◌, drop}
use Rattle.clight_made.specs.MadeOf.{made_list, made_groups}
use Rattle.clight_meaning.specs.Meaning.{list_types, group_types}
use Rattle.clight_programs.proofs.types.+types.Given as goal

abbrev pub invariant-list_types-loop-made : goal.invariant-list_types-loop-made
invariant-list_types-loop-made l = list_types l.types.keys (made_list (drop l.made-index l.list)) ≡ list_types l.initial.types.keys (made_list l.list)

abbrev pub invariant-group_types-loop-group : goal.invariant-group_types-loop-group
invariant-group_types-loop-group l = group_types l.types.keys (made_groups (drop l.group-index l.groups)) ≡ group_types l.initial.types.keys (made_groups l.groups)
