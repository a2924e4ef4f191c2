use Rattle.std.proofs.Common.{subst, sym}
use Rattle.clight_lang.specs.Put.{Comes, term_of}
use Rattle.clight_lang.specs.Next.{scope_of}
use Rattle.clight_lang.specs.Syntax.{expression_of}
use Rattle.clight_lang.proofs.Put.{comes}
use Rattle.clight_lang.proofs.next.next.Goals as goal

pub returns : goal.returns
returns c =
    let s = scope_of c.args.frame.now c.args.at.now in
    subst (λ r. Comes c.args.answers.now (term_of s (expression_of c.args.e.now)) 0 r) (sym c.next_after.ensures) (comes c.args.answers.now s (expression_of c.args.e.now))
