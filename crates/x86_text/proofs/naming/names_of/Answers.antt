use Rattle.x86_text.specs.Naming.{look}
use Rattle.x86_text.proofs.Noted.{so_far_end, so_far_more}
use Rattle.x86_text.proofs.naming.names_of.Goals as goal

pub loop-first-preserved : goal.loop-first-preserved
loop-first-preserved c = so_far_more c.args.text.now c.loop-first.rest.now c.in-Some.first.line.now c.in-Some.first.rest.now c.loop-first.in_data c.in_ok-in_data.in_data (look c.loop-first.table) (look c.note_line.new.self) c.in_ok-said.said c.in-Some.ensures.cut c.in_ok-said.ensures c.in_ok-in_data.ensures.section c.in_ok-in_data.ensures.notes c.loop-first.invariant

pub returns : goal.returns
returns c = so_far_end c.args.text.now c.loop-first.rest.now c.loop-first.in_data (look c.loop-first.table) c.in_default.ensures.cut c.loop-first.invariant
