use Rattle.std.proofs.Common.{◌≡◌, None, drop, map}
use Rattle.c_tree.specs.Shape.{exprs_of, specifiers_of, members_of, declarators_of, enumerators_of, parameters_of}
use Rattle.clight_types.specs.Types.{nothing_laid}
use Rattle.clight_types.specs.LaidOf.{laid_of}
use Rattle.clight_types.specs.BuiltOf.{parameter_of}
use Rattle.clight_scopes.specs.SceneOf.{scene_of}
use Rattle.clight_operands.specs.Shown.{all_typed}
use Rattle.clight_typing.specs.Typing.{typed_all, specified, members_judged, member_declarators, enumerators_judged, parameters_judged}
use Rattle.clight_specifiers.specs.TypingOf.{parts_of}
use Rattle.clight_expressions.specs.SuffixOf.{suffixes_judged}
use Rattle.clight_expressions.proofs.Rest.{all_behind, parameters_behind}
use Rattle.clight_expressions.proofs.typing.+typing.Given as goal

abbrev pub invariant-typed_all-loop-expr : goal.invariant-typed_all-loop-expr
invariant-typed_all-loop-expr l = all_behind (all_typed l.made.items) (typed_all (scene_of l.scene) (exprs_of (drop l.expr-index l.list))) ≡ typed_all (scene_of l.initial.scene) (exprs_of l.list)

abbrev pub invariant-specified-loop-specifier : goal.invariant-specified-loop-specifier
invariant-specified-loop-specifier l = specified (scene_of l.scene) l.base (specifiers_of (drop l.specifier-index l.list)) ≡ specified (scene_of l.initial.scene) None (specifiers_of l.list)

abbrev pub invariant-members_judged-loop-member : goal.invariant-members_judged-loop-member
invariant-members_judged-loop-member l = members_judged (scene_of l.scene) (laid_of l.laid) (members_of (drop l.member-index l.list)) ≡ members_judged (scene_of l.initial.scene) nothing_laid (members_of l.list)

abbrev pub invariant-member_declarators-loop-declarator : goal.invariant-member_declarators-loop-declarator
invariant-member_declarators-loop-declarator l = member_declarators (scene_of l.scene) l.base (laid_of l.laid) (declarators_of (drop l.declarator-index l.list)) ≡ member_declarators (scene_of l.initial.scene) l.base (laid_of l.initial.laid) (declarators_of l.list)

abbrev pub invariant-enumerators_judged-loop-enumerator : goal.invariant-enumerators_judged-loop-enumerator
invariant-enumerators_judged-loop-enumerator l = enumerators_judged (scene_of l.scene) l.next (enumerators_of (drop l.enumerator-index l.list)) ≡ enumerators_judged (scene_of l.initial.scene) 0 (enumerators_of l.list)

abbrev pub invariant-suffixes_declared-loop-suffix : goal.invariant-suffixes_declared-loop-suffix
invariant-suffixes_declared-loop-suffix l = suffixes_judged (scene_of l.scene) l.is_own (parts_of l.parts.items) (drop l.suffix-index l.suffixes) ≡ suffixes_judged (scene_of l.initial.scene) l.initial.is_own (parts_of l.initial.parts.items) l.suffixes

abbrev pub invariant-parameters_judged-loop-parameter : goal.invariant-parameters_judged-loop-parameter
invariant-parameters_judged-loop-parameter l = parameters_behind (map parameter_of l.made.items) (parameters_judged l.is_own (scene_of l.scene) (parameters_of (drop l.parameter-index l.list))) ≡ parameters_judged l.is_own (scene_of l.initial.scene) (parameters_of l.list)
