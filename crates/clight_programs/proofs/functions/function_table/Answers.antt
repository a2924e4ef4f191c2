use Rattle.clight_types.specs.Table.{types_of}
use Rattle.clight_programs.specs.ProgramsOf.{table_of}
use Rattle.clight_programs.proofs.Walks.{at_front, past_end}
use Rattle.clight_programs.proofs.Placed.{table_next, table_end}
use Rattle.clight_programs.proofs.functions.function_table.Goals as goal

pub loop-function-preserved : goal.loop-function-preserved
loop-function-preserved c =
    table_next (types_of c.args.types.now) c.args.function_types.now.keys c.args.sizes.now (table_of c.loop-function.table.entries) (table_of c.put_function.new.table.entries) c.function-item.result _ _ _
    (at_front c.args.functions.now c.loop-function.function-index c.function-item.result c.loop-function-test.true c.function-item.is) c.in_ok-put_function.ensures c.loop-function.invariant

pub returns : goal.returns
returns c =
    table_end (types_of c.args.types.now) c.args.function_types.now.keys c.args.sizes.now (table_of c.loop-function.table.entries) _ _
    (past_end c.args.functions.now c.loop-function.function-index c.loop-function-test.false) c.loop-function.invariant
