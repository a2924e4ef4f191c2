use Rattle.std.proofs.Common.{length, ap, ◌∙◌, ◌-◌, take}
use Rattle.schedule_text.proofs.Splits.{front_is_taken}
use Rattle.schedule_text.specs.Scanning.{members}
use Rattle.schedule_text.proofs.split.split.Goals as goal

pub returns-clause-front : goal.returns-clause-front
returns-clause-front c =
    ap (λ rest. take (length c.args.bytes.now - length rest) c.args.bytes.now) c.behind-rest.ensures.behind ∙ front_is_taken (members c.args.class) c.args.bytes.now
