use Rattle.schedule_text.proofs.OneReplay.{one_replay}
use Rattle.x86_run.specs.Target.{TargetGives, end_of_target, opening_of}
use Rattle.x86_run.proofs.OneStep.{one_step}
use Rattle.x86_run.proofs.laws.target_replays_are_unique.Goals as goal

pub returns : goal.returns
returns c =
    record {
      one_step = one_step;
      one_replay = λ p lines a b h k. one_replay TargetGives end_of_target one_step lines (opening_of p) h.0 k.0 a b h.1 k.1;
    }
