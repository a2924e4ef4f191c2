use Rattle.c_reader.proofs.OtherFrames.{no_statement}
use Rattle.c_reader.proofs.items.+after.Goals as goal

pub on_after-returns-in-Some : goal.on_after-returns-in-Some
on_after-returns-in-Some t c = rw c.in-Some.ensures.taken.1 (c.on_after_in.ensures c.in-Some.ensures.taken.0)

pub on_after_in-returns-in_default : goal.on_after_in-returns-in_default
on_after_in-returns-in_default t c =
    λ n.
    no_statement _ c.args.frame n _ _ _
    (record {
      not_then = c.in_default.not-Then;
      not_else = c.in_default.not-Else;
      not_while = c.in_default.not-WhileBody;
      not_do = c.in_default.not-DoBody;
      not_for = c.in_default.not-ForBody;
      not_block = c.in_default.not-Block;
      not_function = c.in_default.not-Function;
      not_group = c.in_default.not-Group;
    })
