use Rattle.std.proofs.Common.{◌≡◌, ◌++◌, replicate}
use Rattle.clight_types.specs.Declarators.{PointerPart}
use Rattle.clight_specifiers.specs.TypingOf.{parts_of}
use Rattle.clight_specifiers.proofs.built.with_pointers.Given as goal

abbrev pub invariant-loop : goal.invariant-loop
invariant-loop l = parts_of l.parts.items ≡ replicate l.counter PointerPart ++ parts_of l.fn.parts.items
