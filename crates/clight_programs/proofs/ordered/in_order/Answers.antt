use Rattle.std.proofs.Common.{◌≡◌, ◌∙◌, [], ◌++◌, ap, rules, arith}
use Rattle.std.proofs.lemmas.Grind.{common_steps}
use Rattle.clight_lang.specs.State.{functions_of}
use Rattle.clight_programs.specs.ProgramsOf.{in_order, table_of}
use Rattle.clight_programs.proofs.Order.{order_next, order_end}
use Rattle.clight_programs.proofs.ordered.in_order.Goals as goal

pub loop-name-init : goal.loop-name-init
loop-name-init c =
    let fresh : c.new-functions.result.items ≡ [] = first_of (search rules, grind (arith, common_steps)) in
    ap (λ fs. functions_of fs ++ in_order (table_of c.args.table.now.entries) c.into_iter-name-iterator.result) fresh
    ∙ ap (in_order (table_of c.args.table.now.entries)) (c.into_iter-name-iterator.ensures.into_iter_gives ∙ c.keys-name-items.ensures.rest)

pub loop-name-preserved : goal.loop-name-preserved
loop-name-preserved c = order_next c.args.table.now.entries c.loop-name.functions.items c.put_found.new.functions.items _ _ _ _ _ c.in-Some.ensures.steps c.get.ensures.value c.in_ok-put_found.ensures c.loop-name.invariant

pub returns : goal.returns
returns c = order_end c.args.table.now.entries c.loop-name.functions.items _ _ c.in-None.ensures.steps.0 c.loop-name.invariant
