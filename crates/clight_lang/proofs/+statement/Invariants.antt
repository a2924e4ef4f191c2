use Rattle.std.proofs.Common.{ℕ, ◌≤◌}
use Rattle.clight_lang.specs.declared.statement.Stmts.{size-Stmts}
use Rattle.clight_lang.proofs.+statement.Given as goal

abbrev pub invariant-statement::Stmts::drop-loop-self :
    goal.invariant-statement::Stmts::drop-loop-self
invariant-statement::Stmts::drop-loop-self l = size-Stmts l.self ≤ size-Stmts l.fn.self
