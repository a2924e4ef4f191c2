use Rattle.std.proofs.Common.{◌∙◌, ap, Some}
use Rattle.tso_outside.proofs.Held.{added_spares, added_here}
use Rattle.tso_outside.proofs.files.add.Goals as goal

pub returns-clause-spares : goal.returns-clause-spares
returns-clause-spares c = let e = c.in_ok-push.ensures.items in rw e (added_spares c.args.files.now.items (c.in_ok-from_str.field-0, c.in_ok-bytes.bytes) c.args.name.now (c.in_ok-from_str.ensures.ok))

pub returns-clause-ok : goal.returns-clause-ok
returns-clause-ok c = let e = c.in_ok-push.ensures.items in rw e (added_here c.args.files.now.items (c.in_ok-from_str.field-0, c.in_ok-bytes.bytes) c.args.name.now (c.in_ok-from_str.ensures.ok) c.requires ∙ ap Some c.in_ok-bytes.ensures.items)
