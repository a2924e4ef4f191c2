use Rattle.schedule_text.specs.Text.{lines_of}
use Rattle.schedule_text.proofs.OneReading.{is_read}
use Rattle.schedule_text.proofs.Progress.{one_schedule, one_bad, not_both}
use Rattle.schedule_text.proofs.laws.texts_are_read_in_one_way.Goals as goal

pub returns : goal.returns
returns c =
    record {
      read = is_read;
      one_schedule = λ bytes lines others a b. one_schedule 1 (lines_of bytes) lines others a b;
      one_bad_line = one_bad;
      not_both = not_both;
    }
