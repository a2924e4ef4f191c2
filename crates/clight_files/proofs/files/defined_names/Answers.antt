use Rattle.clight_files.proofs.Ends.{defined_next, defined_end}
use Rattle.clight_files.proofs.files.defined_names.Goals as goal

pub loop-external-preserved : goal.loop-external-preserved
loop-external-preserved c = defined_next c.loop-external.names.keys c.put_defined.new.names.keys _ c.args.list.now c.loop-external.external-index c.external-item.result c.loop-external-test.true c.external-item.is c.in_ok-put_defined.ensures c.loop-external.invariant

pub returns : goal.returns
returns c = defined_end c.loop-external.names.keys _ c.args.list.now c.loop-external.external-index c.loop-external-test.false c.loop-external.invariant
