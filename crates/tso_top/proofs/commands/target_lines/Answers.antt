use Rattle.std.proofs.Common.{List, ℕ, ◌≤◌, length, sym, subst}
use Rattle.tso_top.specs.Answers.{LeadsTo}
use Rattle.tso_top.specs.Replays.{Targeting}
use Rattle.tso_top.proofs.Replayed.{target_refused, target_read, both_bound}
use Rattle.tso_top.proofs.commands.target_lines.Goals as goal

pub replay_target_texts-requires : goal.replay_target_texts-requires
replay_target_texts-requires g c = let P : List ℕ → Type 0 = λ b. length b ≤ 268435456 in subst P (sym c.deref-in-Ok.ensures.value) (both_bound _ _ _ _ _ _ c.in-Ok.text c.in-Ok.steps c.in-Ok.ensures).1

pub returns-in-Ok : goal.returns-in-Ok
returns-in-Ok g c =
    let P : List ℕ → Type 0 = λ t. LeadsTo (Targeting t c.deref-in-Ok.result.now) c.replay_target_texts.result in
    let Q : List ℕ → Type 0 = λ s. LeadsTo (Targeting c.in-Ok.text.items s) c.replay_target_texts.result in
    target_read _ _ _ _ c.in-Ok.text c.in-Ok.steps c.replay_target_texts.result c.in-Ok.ensures (subst Q c.deref-in-Ok.ensures.value (subst P c.deref.ensures.value c.replay_target_texts.ensures))

pub returns-in-Err : goal.returns-in-Err
returns-in-Err g c = target_refused _ _ _ _ c.in-Err.refusal c.refused.result c.refused.ensures c.in-Err.ensures
