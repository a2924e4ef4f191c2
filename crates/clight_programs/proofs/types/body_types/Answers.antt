use Rattle.std.proofs.Common.{◌∙◌, ap}
use Rattle.clight_made.specs.MadeOf.{made_list}
use Rattle.clight_meaning.specs.Meaning.{list_types}
use Rattle.clight_programs.proofs.Numbering.{body_next, body_end}
use Rattle.clight_programs.proofs.types.body_types.Goals as goal

pub loop-function-preserved : goal.loop-function-preserved
loop-function-preserved c = body_next _ _ _ c.args.functions.now c.loop-function.function-index c.function-item.result c.loop-function-test.true c.function-item.is (c.in_ok-list_types.ensures ∙ ap (λ l. list_types c.loop-function.types.keys (made_list l)) c.deref.ensures.value) c.loop-function.invariant

pub returns : goal.returns
returns c = body_end _ _ c.args.functions.now c.loop-function.function-index c.loop-function-test.false c.loop-function.invariant
