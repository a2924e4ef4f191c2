use Rattle.std.proofs.Common.{List, ℕ, ◌≤◌, length, sym, subst}
use Rattle.tso_top.specs.Answers.{LeadsTo}
use Rattle.tso_top.specs.Commands.{Sourcing}
use Rattle.tso_top.proofs.Replayed.{source_refused, source_read, both_bound}
use Rattle.tso_top.proofs.commands.source_lines.Goals as goal

pub replay_source_texts-requires-clause-file : goal.replay_source_texts-requires-clause-file
replay_source_texts-requires-clause-file g c = let P : List ℕ → Type 0 = λ b. length b ≤ 4194304 in subst P (sym c.deref.ensures.value) (both_bound _ _ _ _ _ _ c.in-Ok.file c.in-Ok.steps c.in-Ok.ensures).0

pub replay_source_texts-requires-clause-schedule : goal.replay_source_texts-requires-clause-schedule
replay_source_texts-requires-clause-schedule g c = let P : List ℕ → Type 0 = λ b. length b ≤ 268435456 in subst P (sym c.deref-in-Ok.ensures.value) (both_bound _ _ _ _ _ _ c.in-Ok.file c.in-Ok.steps c.in-Ok.ensures).1

pub returns-in-Ok : goal.returns-in-Ok
returns-in-Ok g c =
    let P : List ℕ → Type 0 = λ t. LeadsTo (Sourcing t c.deref-in-Ok.result.now) c.replay_source_texts.result in
    let Q : List ℕ → Type 0 = λ s. LeadsTo (Sourcing c.in-Ok.file.items s) c.replay_source_texts.result in
    source_read _ _ _ _ c.in-Ok.file c.in-Ok.steps c.replay_source_texts.result c.in-Ok.ensures (subst Q c.deref-in-Ok.ensures.value (subst P c.deref.ensures.value c.replay_source_texts.ensures))

pub returns-in-Err : goal.returns-in-Err
returns-in-Err g c = source_refused _ _ _ _ c.in-Err.refusal c.refused.result c.refused.ensures c.in-Err.ensures
