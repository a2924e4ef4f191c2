use Rattle.std.proofs.Common.{refl, ◌∙◌, ap, Some}
use Rattle.tso_outside.proofs.Held.{put_spares, put_here}
use Rattle.tso_outside.proofs.files.empty_at.Goals as goal

pub returns-clause-spares : goal.returns-clause-spares
returns-clause-spares c = put_spares c.args.files.now.items c.args.name.now c.args.place c.index_mut.result.now c.requires c.index_mut.ensures.value (c.index_mut.result.now.0, c.clear.new.self) refl

pub returns-clause-empty : goal.returns-clause-empty
returns-clause-empty c = put_here c.args.files.now.items c.args.name.now c.args.place c.index_mut.result.now c.requires c.index_mut.ensures.value (c.index_mut.result.now.0, c.clear.new.self) refl ∙ ap Some c.clear.ensures.items
