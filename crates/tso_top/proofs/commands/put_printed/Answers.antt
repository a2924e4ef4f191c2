use Rattle.std.proofs.Common.{List, ℕ, subst, Ok, Err}
use Rattle.tso_files.specs.Whole.{PutsWhole}
use Rattle.tso_top.proofs.Lines.{lines_whole, lines_cut, line_put}
use Rattle.tso_top.proofs.commands.put_printed.Goals as goal

pub returns-in-Ok-put_whole : goal.returns-in-Ok-put_whole
returns-in-Ok-put_whole g c =
    let W : List ℕ → Type 0 = λ t. PutsWhole (g.K.Sink.view c.args.out.now) (g.K.Sink.view c.put_whole.new.out) t (Ok tt) in
    lines_whole c.args.answer _ _ c.in-Ok.printed c.in-Ok.is (subst W c.deref.ensures.value c.in-Ok-put_whole.ensures)

pub returns-in-Ok : goal.returns-in-Ok
returns-in-Ok g c =
    let W : List ℕ → Type 0 = λ t. PutsWhole (g.K.Sink.view c.args.out.now) (g.K.Sink.view c.put_whole.new.out) t (Err c.in-Err-put_whole.field-0) in
    lines_cut c.args.answer _ _ c.in-Ok.printed c.cut_off.result c.in-Err-put_whole.field-0 c.in-Ok.is (subst W c.deref.ensures.value c.in-Err-put_whole.ensures) c.cut_off.ensures

pub returns : goal.returns
returns g c = line_put c.args.answer _ _ c.in-Err.status c.in-Err.is c.finish.ensures
