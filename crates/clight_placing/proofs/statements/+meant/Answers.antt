use Rattle.std.proofs.Common.{◌≡◌, refl, List, [], ◌∷◌, ◌++◌, length, map, ap, ◌∙◌, rules, arith}
use Rattle.std.proofs.lemmas.Grind.{common_steps}
use Rattle.clight_lang.specs.declared.statement.Group.{Group}
use Rattle.clight_made.specs.MadeOf.{made_list}
use Rattle.clight_placing.specs.Placing.{all_meant}
use Rattle.clight_placing.specs.InnerOf.{inner_of}
use Rattle.clight_placing.specs.Listed.{shared_of, onto_statements}
use Rattle.clight_placing.proofs.Loops.{statement_next, statements_end, group_next, groups_end}
use Rattle.clight_placing.proofs.Switches.{switch_made}
use Rattle.clight_placing.proofs.statements.+meant.Goals as goal

pub all_meant-loop-statement-preserved : goal.all_meant-loop-statement-preserved
all_meant-loop-statement-preserved t c =
    let grown : c.push.new.self.items ≡ c.loop-statement.made.items ++ c.in_ok-statement.statement ∷ [] = first_of (search rules, grind (arith, common_steps)) in
    statement_next _ _ _ _ _ _ c.args.list.now c.loop-statement.statement-index c.statement-item.result _ c.loop-statement-test.true c.statement-item.is c.in_ok-statement.ensures grown c.loop-statement.invariant

pub all_meant-returns : goal.all_meant-returns
all_meant-returns t c = statements_end (inner_of c.args.inner.now) c.loop-statement.next c.loop-statement.made.items c.args.list.now c.loop-statement.statement-index _ c.loop-statement-test.false c.loop-statement.invariant

pub groups_meant-loop-group-preserved : goal.groups_meant-loop-group-preserved
groups_meant-loop-group-preserved t c =
    let group : Group = record { numbers = c.in_ok-from_slice.field-0; is_default = c.group-item.result.is_default; from = c.len-from.result } in
    let grown : c.push.new.self.items ≡ c.loop-group.made.items ++ group ∷ [] = first_of (search rules, grind (arith, common_steps)) in
    let from : c.len-from.result ≡ length c.loop-group.statements.items = first_of (search rules, grind (arith, common_steps)) in
    let numbers : c.in_ok-from_slice.field-0.items ≡ c.group-item.result.numbers.items = c.in_ok-from_slice.ensures.items ∙ c.deref-in-loop-group.ensures.value in
    group_next (inner_of c.args.inner.now) c.loop-group.next c.in_ok-next.next c.loop-group.made.items c.push.new.self.items group c.loop-group.statements.items c.all_meant.new.made.items c.args.groups.now c.loop-group.group-index c.group-item.result _ c.loop-group-test.true c.group-item.is numbers refl from
    (c.in_ok-next.ensures ∙ ap (λ ms. onto_statements (map shared_of c.loop-group.statements.items) (all_meant (inner_of c.args.inner.now) c.loop-group.next (made_list ms))) c.deref.ensures.value)
    grown c.loop-group.invariant

pub groups_meant-returns : goal.groups_meant-returns
groups_meant-returns t c = groups_end (inner_of c.args.inner.now) c.loop-group.next (length c.loop-group.statements.items) c.loop-group.made.items c.loop-group.statements.items c.args.groups.now c.loop-group.group-index _ c.loop-group-test.false c.loop-group.invariant

pub meant-returns-in_ok-body-in-Switch : goal.meant-returns-in_ok-body-in-Switch
meant-returns-in_ok-body-in-Switch t c =
    switch_made (inner_of c.args.inner.now) c.args.next c.args.made.now c.in-Switch.selector c.in-Switch.groups c.deref-in-Switch.result.now c.in_ok-body-in-Switch.body c.in-Switch.is c.deref-in-Switch.ensures.value c.in_ok-body-in-Switch.ensures c.switch_on.result c.switch_on.ensures
