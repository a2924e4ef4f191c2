use Rattle.clight_counts.proofs.Tables.{texts_next, texts_end}
use Rattle.clight_counts.proofs.texts.texts_in.Goals as goal

pub loop-external-preserved : goal.loop-external-preserved
loop-external-preserved c = texts_next _ _ c.args.list.now c.loop-external.external-index c.external-item.result c.loop-external-test.true c.external-item.is c.in_ok-put_text.ensures c.loop-external.invariant

pub returns : goal.returns
returns c = texts_end _ c.args.list.now c.loop-external.external-index c.loop-external-test.false c.loop-external.invariant
