use Rattle.std.proofs.Common.{◌+◌, ◌≤◌, arith}
use Rattle.x86_lang.specs.Assembly.{code_size, data_start}
use Rattle.x86_lang.proofs.Ends.{code_line_fits}
use Rattle.x86_lang.proofs.placing.add_code_labels.Goals as goal

pub overflow_add-at : goal.overflow_add-at
overflow_add-at c =
    let fits : c.loop-rest.at + code_size c.line-item.result ≤ data_start = code_line_fits c.loop-rest.rest.now _ c.loop-rest.at data_start c.in-len1-up.len_at_least c.line-item.is c.loop-rest.invariant.1 in
    omega (arith, fits, c.code_size-at.ensures)
