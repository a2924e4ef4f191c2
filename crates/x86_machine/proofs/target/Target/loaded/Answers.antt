use Rattle.std.proofs.Common.{◌≡◌, ◌∙◌, sym, length, true}
use Rattle.x86_lang.specs.Assembly.{bytes_from, data_start}
use Rattle.x86_machine.specs.Kept.{threads_of}
use Rattle.x86_machine.specs.Target.{is_right_among}
use Rattle.x86_machine.proofs.target.Target.loaded.Goals as goal

pub returns-then-is_right : goal.returns-then-is_right
returns-then-is_right c = λ t e.
    let right : is_right_among (length (bytes_from data_start c.args.program.now.statics)) (threads_of c.args.self.now.threads.items) c.in-Some.x.size c.in-Some.x.address ≡ true = rw (← c.bytes.ensures.value, ← c.deref.ensures.value, ← c.from.ensures) (sym c.is_right.ensures.value ∙ c.if-is_right.true) in
    rw (c.in-Some.is, right) (c.load.ensures t e)
