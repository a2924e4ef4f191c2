use Rattle.tso_top.proofs.Compiled.{constant_is}
use Rattle.tso_top.proofs.Follows.{compiles}
use Rattle.tso_top.proofs.compile.text_for.Goals as goal

pub returns-in_ok-text_returning-in-Some : goal.returns-in_ok-text_returning-in-Some
returns-in_ok-text_returning-in-Some c =
    let means = constant_is c.args.bytes.now c.in_ok-number.field-0 c.in-Some.number c.in-Some.is c.in_ok-number.ensures in
    let text = c.in_ok-text_returning-in-Some in
    ((c.in-Some.number, means), compiles c.args.bytes.now text.field-0.items c.in-Some.number means text.ensures.text text.ensures.form text.ensures.theorem)
