use Rattle.std.proofs.Common.{◌∙◌}
use Rattle.x86_text.proofs.ReadBack.{bad_has_none, bad_refuses, printed_asm, whole_is_good, whole_reads}
use Rattle.x86_text.proofs.reading.read_asm.Goals as goal

pub returns-in-Ok-Whole-clause-reads : goal.returns-in-Ok-Whole-clause-reads
returns-in-Ok-Whole-clause-reads c = λ a h. (c.made.ensures ∙ whole_reads c.args.text.now c.in-Ok-Whole.field-0 c.in-Ok-Whole.parts a c.in-Ok-Whole.field-0-is c.in-Ok-Whole.ensures h, tt)

pub returns-in-Ok-Whole-clause-refuses : goal.returns-in-Ok-Whole-clause-refuses
returns-in-Ok-Whole-clause-refuses c = λ n h. (whole_is_good c.args.text.now c.in-Ok-Whole.field-0 c.in-Ok-Whole.parts n c.in-Ok-Whole.field-0-is c.in-Ok-Whole.ensures h, tt)

pub returns-in-Ok-Whole-clause-printed : goal.returns-in-Ok-Whole-clause-printed
returns-in-Ok-Whole-clause-printed c = λ a whole e. (c.made.ensures ∙ whole_reads c.args.text.now c.in-Ok-Whole.field-0 c.in-Ok-Whole.parts a c.in-Ok-Whole.field-0-is c.in-Ok-Whole.ensures (printed_asm c.args.text.now a whole e), tt)

pub returns-in-Ok-BadLine-clause-reads : goal.returns-in-Ok-BadLine-clause-reads
returns-in-Ok-BadLine-clause-reads c = λ a h. absurd (bad_has_none c.args.text.now c.in-Ok-BadLine.field-0 c.in-Ok-BadLine.line a c.in-Ok-BadLine.field-0-is c.in-Ok-BadLine.ensures h)

pub returns-in-Ok-BadLine-clause-refuses : goal.returns-in-Ok-BadLine-clause-refuses
returns-in-Ok-BadLine-clause-refuses c = λ n h. (tt, bad_refuses c.args.text.now c.in-Ok-BadLine.field-0 c.in-Ok-BadLine.line n c.in-Ok-BadLine.field-0-is c.in-Ok-BadLine.ensures h)

pub returns-in-Ok-BadLine-clause-printed : goal.returns-in-Ok-BadLine-clause-printed
returns-in-Ok-BadLine-clause-printed c = λ a whole e. absurd (bad_has_none c.args.text.now c.in-Ok-BadLine.field-0 c.in-Ok-BadLine.line a c.in-Ok-BadLine.field-0-is c.in-Ok-BadLine.ensures (printed_asm c.args.text.now a whole e))
