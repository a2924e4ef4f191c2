use Rattle.std.proofs.Common.{List, ℕ, ap, ◌∙◌}
use Rattle.x86_text.specs.Scanning.{reading_at}
use Rattle.x86_text.proofs.LineRead.{same_past}
use Rattle.x86_text.proofs.line_reading.reading.Goals as goal

pub returns : goal.returns
returns c = c.reading_at.ensures ∙ ap (λ (front : List ℕ). reading_at front c.args.bytes.now) (c.past_blanks.ensures ∙ same_past c.args.bytes.now)
