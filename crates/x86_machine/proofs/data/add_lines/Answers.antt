use Rattle.std.proofs.Common.{◌≡◌, ◌+◌, ◌≤◌, ap, arith, subst, sym, ◌∙◌}
use Rattle.x86_lang.specs.Assembly.{size_at, heap_start}
use Rattle.x86_lang.proofs.Ends.{data_line_fits}
use Rattle.x86_machine.proofs.DataBytes.{Added, added_next, end_next, aligned_next}
use Rattle.x86_memory.specs.Kept.{bytes_in}
use Rattle.x86_machine.proofs.data.add_lines.Goals as goal

pub add_line-requires-clause-fits : goal.add_line-requires-clause-fits
add_line-requires-clause-fits c = data_line_fits c.loop-rest.rest.now _ c.loop-rest.at heap_start c.in-len1-up.len_at_least c.line-item.is c.loop-rest.invariant.fits

pub overflow_add-at : goal.overflow_add-at
overflow_add-at c =
    let fits : c.loop-rest.at + size_at c.loop-rest.at c.line-item.result ≤ heap_start = data_line_fits c.loop-rest.rest.now _ c.loop-rest.at heap_start c.in-len1-up.len_at_least c.line-item.is c.loop-rest.invariant.fits in
    omega (arith, fits, c.size_at-at.ensures)

pub loop-rest-preserved : goal.loop-rest-preserved
loop-rest-preserved c =
    let h = c.loop-rest.invariant.added in
    record {
      fits = end_next c.loop-rest.rest.now c.line-item.result c.loop-rest.at heap_start c.size_at-at.result c.in-len1-up.len_at_least c.line-item.is c.size_at-at.ensures c.loop-rest.invariant.fits;
      aligned = aligned_next c.loop-rest.rest.now c.in-len1-up.len_at_least c.loop-rest.invariant.aligned;
      added = rw c.size_at-at.ensures (added_next c.args.lines.now c.loop-rest.rest.now c.line-item.result c.loop-rest.at (bytes_in c.loop-rest.memory) (bytes_in c.add_line.new.memory) h c.in-len1-up.len_at_least c.line-item.is (c.in_ok-add_line.ensures h.before h.starts h.bytes));
    }
