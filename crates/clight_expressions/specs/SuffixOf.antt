-- What the brackets and the parameters of a declarator are by themselves.
use Rattle.std.specs.Prelude.{Bool, false, List, [], ◌∷◌}
use Rattle.c_tree.specs.declared.expr.Suffix.{Suffix}
use Rattle.c_tree.specs.declared.expr.Suffix.TheVariants.{Array', Function'}
use Rattle.c_tree.specs.Shape.{maybe_held, parameters_row}
use Rattle.clight_types.specs.Judged.{Judged, value, and_then}
use Rattle.clight_types.specs.Declarators.{Part, ArrayPart, FunctionPart}
use Rattle.clight_scopes.specs.Scopes.{Scene, opened, closed}
use Rattle.clight_typing.specs.Typing.{typed_length, parameters_judged}

abbrev pub suffix_judged : Scene → Bool → Suffix → Judged (Scene × Part)
suffix_judged s own (Array' n) = and_then (typed_length s (maybe_held n)) (λ q. value (q.0, ArrayPart q.1))
suffix_judged s own (Function' shape ps) = and_then (parameters_judged own (opened s) (parameters_row ps)) (λ q. value (closed q.0, FunctionPart q.1))

-- the brackets and parameters behind the inside of a declarator, whose parts stand already; the first may be the parameters of the function that is defined
abbrev pub suffixes_judged : Scene → Bool → List Part → List Suffix → Judged (Scene × List Part)
suffixes_judged s own parts [] = value (s, parts)
suffixes_judged s own parts (x ∷ xs) = and_then (suffix_judged s own x) (λ q. suffixes_judged q.0 false (q.1 ∷ parts) xs)
