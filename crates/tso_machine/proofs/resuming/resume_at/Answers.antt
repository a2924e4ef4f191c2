-- The thread at the place is the one that was resumed.
use Rattle.std.proofs.Common.{◌≡◌, Some, sym, ap, ◌∙◌}
use Rattle.std.specs.Prelude.{slice_get}
use Rattle.std.proofs.lemmas.Option.{slice_get-get_or}
use Rattle.tso_machine.proofs.MapLists.{same_map, set_resumed}
use Rattle.tso_machine.proofs.resuming.resume_at.Goals as goal

pub returns-in-Ok-clause-ok : goal.returns-in-Ok-clause-ok
returns-in-Ok-clause-ok g c =
    let xs = c.args.threads.now.items in
    let t = c.index_mut-thread.result.now in
    let found : slice_get xs c.args.i ≡ Some t = slice_get-get_or xs c.args.i t c.requires.thread ∙ ap Some (sym c.index_mut-thread.ensures.value) in
    λ s k. set_resumed g.L.ThreadLang.state_of (λ x. (g.L.ThreadLang.language c.args.p.now).resumed c.args.at.now x c.args.answer) xs c.args.i t c.resume.new.t found c.in-Ok.ensures.ok s k

pub returns-in-Err-clause-err : goal.returns-in-Err-clause-err
returns-in-Err-clause-err g c =
    let xs = c.args.threads.now.items in
    let t = c.index_mut-thread.result.now in
    let found : slice_get xs c.args.i ≡ Some t = slice_get-get_or xs c.args.i t c.requires.thread ∙ ap Some (sym c.index_mut-thread.ensures.value) in
    same_map g.L.ThreadLang.state_of xs c.args.i t c.resume.new.t found c.in-Err.ensures.err
