use Rattle.x86_machine.proofs.target.Target.free.Goals as goal

pub returns-in-Some : goal.returns-in-Some
returns-in-Some c = λ t e.
    let w = c.in-Some.ensures t e in
    rw (w.0, ← w.1) (c.freed.ensures t e)
