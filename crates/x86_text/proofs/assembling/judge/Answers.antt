use Rattle.std.proofs.Common.{refl, sym, ◌∙◌}
use Rattle.x86_text.specs.Naming.{look}
use Rattle.x86_text.proofs.Judged.{judges, made_badly}
use Rattle.x86_text.proofs.assembling.judge.Goals as goal

pub returns-then-not-branch : goal.returns-then-not-branch
returns-then-not-branch c = made_badly (look c.args.table.now) c.args.state.now c.args.line _ c.in_ok-take_made.field-0 c.if-not-branch.true c.requires.kept c.in_ok-take_made.ensures

pub returns : goal.returns
returns c = judges (look c.args.table.now) c.args.state.now _ _ c.args.line c.in_ok-take_made.field-0 c.grow.result c.requires.kept c.requires.said refl refl refl (sym c.takes_line.ensures ∙ c.if-not-takes_line.false) c.if-not-branch.false c.in_ok-take_made.ensures c.grow.ensures
