-- The thread at the place is the one that was resumed, and the further one stands behind.
use Rattle.std.proofs.Common.{◌≡◌, ◌<◌, [], ◌∷◌, ◌++◌, length, Some, sym, ap, subst, ◌∙◌}
use Rattle.std.specs.Prelude.{map, slice_get, slice_set}
use Rattle.std.proofs.lemmas.Option.{slice_get-get_or}
use Rattle.std.proofs.lemmas.List.{map-append}
use Rattle.tso_machine.proofs.MapLists.{same_map, set_resumed}
use Rattle.tso_machine.proofs.parts.resume_adding.Goals as goal

pub returns-in-Err-clause-same_threads : goal.returns-in-Err-clause-same_threads
returns-in-Err-clause-same_threads g c =
    let xs = c.reserve.new.self.items in
    let t = c.index_mut-thread.result.now in
    let lt : c.args.i < length xs = subst (λ l. c.args.i < length l) (sym c.reserve.ensures.items) c.requires.thread in
    let found : slice_get xs c.args.i ≡ Some t = slice_get-get_or xs c.args.i t lt ∙ ap Some (sym c.index_mut-thread.ensures.value) in
    same_map g.L.ThreadLang.state_of xs c.args.i t c.resume.new.t found c.in-Err.ensures.err ∙ ap (map g.L.ThreadLang.state_of) c.reserve.ensures.items

pub returns-in-Ok-push-clause-resumed : goal.returns-in-Ok-push-clause-resumed
returns-in-Ok-push-clause-resumed g c =
    let f = g.L.ThreadLang.state_of in
    let xs = c.reserve.new.self.items in
    let t = c.index_mut-thread.result.now in
    let lt : c.args.i < length xs = subst (λ l. c.args.i < length l) (sym c.reserve.ensures.items) c.requires.thread in
    let found : slice_get xs c.args.i ≡ Some t = slice_get-get_or xs c.args.i t lt ∙ ap Some (sym c.index_mut-thread.ensures.value) in
    λ s k.
    ap (map f) c.in-Ok-push.ensures.items
    ∙ map-append f (slice_set xs c.args.i c.resume.new.t) (c.args.further ∷ [])
    ∙ ap (λ z. z ++ f c.args.further ∷ [])
    (set_resumed f (λ x. (g.L.ThreadLang.language c.args.p.now).resumed c.args.at.now x c.args.answer) xs c.args.i t c.resume.new.t found c.in-Ok.ensures.ok s (ap (λ z. slice_get (map f z) c.args.i) c.reserve.ensures.items ∙ k)
    ∙ ap (λ z. slice_set (map f z) c.args.i ((g.L.ThreadLang.language c.args.p.now).resumed c.args.at.now s c.args.answer)) c.reserve.ensures.items)
