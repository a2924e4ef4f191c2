use Rattle.std.proofs.Common.{arith}
use Rattle.x86_text.specs.Gathering.{gathered_of}
use Rattle.x86_text.specs.Naming.{look}
use Rattle.x86_text.proofs.Walked.{ends_all, goes_more, is_judged, is_refused, kept_on, stops_here}
use Rattle.x86_text.proofs.assembling.outcome_of.Goals as goal

pub returns-then-not-branch : goal.returns-then-not-branch
returns-then-not-branch c =
    let at = look c.args.table.now in
    let old = c.loop-cut.state in
    let line = c.in-Some.cut.line.now in
    stops_here c.args.text.now at c.requires c.loop-cut.rest.now line c.in-Some.cut.rest.now old c.judge_line.new.state c.loop-cut.count c.in-Some.ensures.cut (is_refused c.in_ok-judge_line.field-0 at old line c.judge_line.new.state c.if-not-branch.true c.in_ok-judge_line.ensures) (c.loop-cut.invariant.goes c.requires)

pub loop-cut-preserved : goal.loop-cut-preserved
loop-cut-preserved c =
    let at = look c.args.table.now in
    let old = c.loop-cut.state in
    let new = c.judge_line.new.state in
    let line = c.in-Some.cut.line.now in
    record {
      counted = omega (arith, c.loop-cut.invariant.counted, c.in-Some.ensures.shorter);
      kept = kept_on c.in_ok-judge_line.field-0 at old line new c.if-not-branch.false c.in_ok-judge_line.ensures;
      goes = λ s. goes_more c.args.text.now at s c.loop-cut.rest.now line c.in-Some.cut.rest.now old new c.loop-cut.count c.in-Some.ensures.cut (is_judged c.in_ok-judge_line.field-0 at old line new c.if-not-branch.false c.in_ok-judge_line.ensures) (c.loop-cut.invariant.goes s);
    }

pub returns : goal.returns
returns c = ends_all c.args.text.now (look c.args.table.now) c.requires c.loop-cut.rest.now (gathered_of c.loop-cut.state.gathering) c.into_parts.result c.loop-cut.count c.ended.result c.in_default.ensures.cut (c.loop-cut.invariant.goes c.requires) c.into_parts.ensures c.ended.ensures
