use Rattle.std.proofs.Common.{◌≡◌, map, take}
use Rattle.clight_lang.specs.State.{FunctionOf, functions_of}
use Rattle.clight_programs.proofs.ordered.names_of.Given as goal

abbrev pub invariant-loop-function : goal.invariant-loop-function
invariant-loop-function l = l.names.items ≡ map (λ (f : FunctionOf). f.name) (functions_of (take l.function-index l.functions))
