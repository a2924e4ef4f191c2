use Rattle.x86_text.proofs.CutLine.{cut_line, some_bytes, no_bytes}
use Rattle.x86_text.proofs.cutting.first_line.Goals as goal

pub returns-then-is_empty-clause-cut : goal.returns-then-is_empty-clause-cut
returns-then-is_empty-clause-cut c = no_bytes c.args.bytes.now c.is_empty.result c.is_empty.ensures c.if-is_empty.true

pub returns-clause-cut : goal.returns-clause-cut
returns-clause-cut c = cut_line c.args.bytes.now c.split_at.result.0.now c.split_at.result.1.now c.past_feed.result.now c.line_len.result (some_bytes c.args.bytes.now c.is_empty.result c.is_empty.ensures c.if-is_empty.false) c.line_len.ensures.exact c.split_at.ensures.front c.split_at.ensures.back c.past_feed.ensures.exact
