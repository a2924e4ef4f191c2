use Rattle.std.proofs.Common.{◌+◌, ◌≤◌, length}
use Rattle.x86_text.specs.Gathering.{gathered_of}
use Rattle.x86_text.specs.Judging.{IsKept}
use Rattle.x86_text.specs.Naming.{IsSurvey, look}
use Rattle.x86_text.proofs.Walked.{Goes}
use Rattle.x86_text.proofs.assembling.outcome_of.Given as goal

abbrev pub invariant-loop-cut : goal.invariant-loop-cut
invariant-loop-cut l = record {
  counted : l.count + length l.rest ≤ length l.text;
  kept : IsKept l.state;
  goes : (s : IsSurvey l.text (look l.table)) → Goes l.text s.said l.rest (gathered_of l.state.gathering) l.count;
}

abbrev pub decreases-loop-cut : goal.decreases-loop-cut
decreases-loop-cut l = length l.rest
