-- Main alone, over the globals.
use Rattle.std.proofs.Common.{◌∷◌, [], ap, ◌∙◌}
use Rattle.std.specs.Prelude.{map, slice_get}
use Rattle.tso_core.specs.Runs.{opening_memory}
use Rattle.tso_memory.specs.Kept.{memory_of}
use Rattle.tso_machine.specs.State.{flag}
use Rattle.tso_machine.proofs.Openings.{opened_state, none_ended}
use Rattle.tso_machine.proofs.opening.opened.Goals as goal

pub returns : goal.returns
returns g c =
    let f = g.L.ThreadLang.state_of in
    let at = c.args.at.now in
    opened_state (g.L.ThreadLang.language c.args.p.now) at (memory_of c.in_ok-memory.memory) (map (λ b. b.items) c.in_ok-buffers.buffers.items) (λ j. flag (slice_get c.in_ok-ended.ended.items j)) (map f c.in_ok-threads.threads.items)
    (c.in_ok-memory.ensures ∙ ap (λ z. opening_memory z at) c.globals.ensures)
    (ap (map (λ b. b.items)) c.in_ok-buffers.ensures ∙ ap (λ z. z ∷ []) c.new.ensures)
    (none_ended c.in_ok-ended.ended.items c.in_ok-ended.ensures)
    (ap (map f) c.in_ok-threads.ensures ∙ ap (λ z. z ∷ []) c.in_ok-first.ensures)
