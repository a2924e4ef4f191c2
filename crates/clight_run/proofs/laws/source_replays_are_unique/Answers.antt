use Rattle.schedule_text.proofs.OneReplay.{one_replay}
use Rattle.clight_run.specs.Source.{SourceGives, end_of_source, opening_of}
use Rattle.clight_run.proofs.OneStep.{one_step}
use Rattle.clight_run.proofs.laws.source_replays_are_unique.Goals as goal

pub returns : goal.returns
returns c =
    record {
      one_step = one_step;
      one_replay = λ p lines a b h k. one_replay SourceGives end_of_source one_step lines (opening_of p) h.0 k.0 a b h.1 k.1;
    }
