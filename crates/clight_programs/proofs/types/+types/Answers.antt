use Rattle.std.proofs.Common.{◌∙◌, ap}
use Rattle.clight_made.specs.MadeOf.{made_list}
use Rattle.clight_meaning.specs.Meaning.{list_types}
use Rattle.clight_programs.proofs.Numbering.{list_next, list_end, group_next, group_end, switch_types, for_types}
use Rattle.clight_programs.proofs.types.+types.Goals as goal

pub list_types-loop-made-preserved : goal.list_types-loop-made-preserved
list_types-loop-made-preserved t c = list_next _ _ _ c.args.list.now c.loop-made.made-index c.made-item.result c.loop-made-test.true c.made-item.is c.in_ok-made_types.ensures c.loop-made.invariant

pub list_types-returns : goal.list_types-returns
list_types-returns t c = list_end _ _ c.args.list.now c.loop-made.made-index c.loop-made-test.false c.loop-made.invariant

pub group_types-loop-group-preserved : goal.group_types-loop-group-preserved
group_types-loop-group-preserved t c =
    group_next _ _ _ c.args.groups.now c.loop-group.group-index c.group-item.result c.loop-group-test.true c.group-item.is
    (c.in_ok-list_types.ensures ∙ ap (λ l. list_types c.loop-group.types.keys (made_list l)) c.deref.ensures.value)
    c.loop-group.invariant

pub group_types-returns : goal.group_types-returns
group_types-returns t c = group_end _ _ c.args.groups.now c.loop-group.group-index c.loop-group-test.false c.loop-group.invariant

pub made_types-returns-in_ok-made_types-in-For : goal.made_types-returns-in_ok-made_types-in-For
made_types-returns-in_ok-made_types-in-For t c =
    for_types _ _ _ _ _ _ _ _ _ _ _ _ _ c.in-For.is c.deref-in-For.ensures.value c.deref-in-For-2.ensures c.deref-in-For-3.ensures
    c.in_ok-list_types-in-For.ensures c.in_ok-made_types-in-For.ensures c.made_types-in-For-2.ensures

pub made_types-returns-in-Switch : goal.made_types-returns-in-Switch
made_types-returns-in-Switch t c = switch_types _ _ _ _ _ _ _ c.in-Switch.is c.deref-in-Switch.ensures.value c.group_types.ensures
