use Rattle.std.proofs.Common.{refl}
use Rattle.tso_outside.proofs.Held.{put_spares, put_here, found_at, longer_ok, longer_err}
use Rattle.tso_outside.proofs.files.append_at.Goals as goal

pub returns-clause-spares : goal.returns-clause-spares
returns-clause-spares c = put_spares c.args.files.now.items c.args.name.now c.args.place c.index_mut.result.now c.requires c.index_mut.ensures.value (c.index_mut.result.now.0, c.extend_from_slice.new.self) refl

pub returns-clause-ok : goal.returns-clause-ok
returns-clause-ok c =
    let here = put_here c.args.files.now.items c.args.name.now c.args.place c.index_mut.result.now c.requires c.index_mut.ensures.value (c.index_mut.result.now.0, c.extend_from_slice.new.self) refl in
    let was = found_at c.args.files.now.items c.args.name.now c.args.place c.index_mut.result.now c.requires c.index_mut.ensures.value in
    longer_ok c.extend_from_slice.result _ _ _ _ _ c.extend_from_slice.ensures.items here was

pub returns-clause-err : goal.returns-clause-err
returns-clause-err c =
    let here = put_here c.args.files.now.items c.args.name.now c.args.place c.index_mut.result.now c.requires c.index_mut.ensures.value (c.index_mut.result.now.0, c.extend_from_slice.new.self) refl in
    let was = found_at c.args.files.now.items c.args.name.now c.args.place c.index_mut.result.now c.requires c.index_mut.ensures.value in
    longer_err c.extend_from_slice.result _ _ _ _ _ c.extend_from_slice.ensures.items here was
