use Rattle.std.proofs.Common.{length, sym}
use Rattle.std.proofs.lemmas.Bool.{eqb-true}
use Rattle.schedule_text.proofs.Progress.{start, skip, step, ended, stopped, one_bad, one_schedule, not_both, some_left}
use Rattle.schedule_text.specs.Text.{lines_of}
use Rattle.schedule_text.proofs.reading.read_schedule.Goals as goal

pub loop-rest-init : goal.loop-rest-init
loop-rest-init c = start c.args.bytes.now c.new-lines.result.items c.new-lines.ensures.items

pub loop-rest-preserved-in-Skipped : goal.loop-rest-preserved-in-Skipped
loop-rest-preserved-in-Skipped c =
    let some = some_left (length c.loop-rest.rest.now) c.loop-rest-test.ensures in
    skip c.args.bytes.now c.loop-rest.number c.loop-rest.lines.items c.loop-rest.rest.now c.split_line.result.0.now c.split_line.result.1.now c.loop-rest.invariant some c.split_line.ensures.line c.split_line.ensures.behind (c.split_line.ensures.shorter some) (sym c.in-Skipped.ensures)

pub loop-rest-preserved : goal.loop-rest-preserved
loop-rest-preserved c =
    let some = some_left (length c.loop-rest.rest.now) c.loop-rest-test.ensures in
    step c.args.bytes.now c.loop-rest.number c.loop-rest.lines.items c.loop-rest.rest.now c.split_line.result.0.now c.split_line.result.1.now c.in-Directs.what c.push.new.self.items c.loop-rest.invariant some c.split_line.ensures.line c.split_line.ensures.behind (c.split_line.ensures.shorter some) (sym c.in-Directs.ensures) c.in-Ok.ensures.items

pub returns-in-Bad : goal.returns-in-Bad
returns-in-Bad c =
    let file = c.args.bytes.now in
    let some = some_left (length c.loop-rest.rest.now) c.loop-rest-test.ensures in
    let bad = stopped c.args.bytes.now c.loop-rest.number c.loop-rest.lines.items c.loop-rest.rest.now c.split_line.result.0.now c.split_line.result.1.now c.loop-rest.invariant some c.split_line.ensures.line c.split_line.ensures.behind (sym c.in-Bad.ensures) in
    record { told = bad; must_read = λ lines is. not_both file lines _ is bad; must_refuse = λ number is. one_bad file _ number bad is }

pub returns : goal.returns
returns c =
    let file = c.args.bytes.now in
    let whole = ended c.args.bytes.now c.loop-rest.number c.loop-rest.lines.items c.loop-rest.rest.now c.loop-rest.invariant (eqb-true (length c.loop-rest.rest.now) 0 (sym c.loop-rest-test.ensures)) in
    record { told = whole; must_read = λ lines is. one_schedule 1 (lines_of file) c.loop-rest.lines.items lines whole is; must_refuse = λ number bad. not_both file c.loop-rest.lines.items number whole bad }
