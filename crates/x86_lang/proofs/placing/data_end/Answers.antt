use Rattle.std.proofs.Common.{◌+◌, ◌≤◌, arith}
use Rattle.x86_lang.specs.Assembly.{size_at, heap_start}
use Rattle.x86_lang.proofs.Ends.{data_line_fits}
use Rattle.x86_lang.proofs.placing.data_end.Goals as goal

pub overflow_add-at : goal.overflow_add-at
overflow_add-at c =
    let fits : c.loop-rest.at + size_at c.loop-rest.at c.line-item.result ≤ heap_start = data_line_fits c.loop-rest.rest.now _ c.loop-rest.at heap_start c.in-len1-up.len_at_least c.line-item.is c.loop-rest.invariant.fits in
    omega (arith, fits, c.size_at-at.ensures)
