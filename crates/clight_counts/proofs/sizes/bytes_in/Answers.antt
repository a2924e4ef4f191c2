use Rattle.std.proofs.Common.{rules, ◌≡◌}
use Rattle.clight_types.specs.Table.{types_of}
use Rattle.clight_counts.proofs.Tables.{bytes_next}
use Rattle.clight_counts.proofs.sizes.bytes_in.Goals as goal

pub loop-function-preserved : goal.loop-function-preserved
loop-function-preserved c =
    let items : c.deref.result.now ≡ c.function-item.result.locals.items = search rules in
    bytes_next (types_of c.args.types.now) _ _ c.args.functions.now c.loop-function.function-index c.function-item.result _ _ _ c.loop-function-test.true c.function-item.is c.in_ok-put_first.ensures c.in_ok-name.ensures c.in_ok-bytes_of_all.ensures items c.loop-function.invariant
