use Rattle.std.proofs.Common.{◌≡◌, drop}
use Rattle.c_tree.specs.Shape.{exprs_of, specifiers_of, members_of, enumerators_of, declarators_of, parameters_of}
use Rattle.clight_nodes.specs.Nodes.{exprs_nodes, specifiers_nodes, members_nodes, enumerators_nodes, declarators_nodes, parameters_nodes}
use Rattle.clight_nodes.specs.Counted.{counted, suffixes_nodes}
use Rattle.clight_nodes.proofs.expressions.+nodes.Given as goal

abbrev pub invariant-count_exprs-loop-expr : goal.invariant-count_exprs-loop-expr
invariant-count_exprs-loop-expr l = counted l.count (exprs_nodes (exprs_of (drop l.expr-index l.list))) ≡ counted l.initial.count (exprs_nodes (exprs_of l.list))

abbrev pub invariant-count_specifiers-loop-specifier : goal.invariant-count_specifiers-loop-specifier
invariant-count_specifiers-loop-specifier l = counted l.count (specifiers_nodes (specifiers_of (drop l.specifier-index l.list))) ≡ counted l.initial.count (specifiers_nodes (specifiers_of l.list))

abbrev pub invariant-count_members-loop-member : goal.invariant-count_members-loop-member
invariant-count_members-loop-member l = counted l.count (members_nodes (members_of (drop l.member-index l.list))) ≡ counted l.initial.count (members_nodes (members_of l.list))

abbrev pub invariant-count_enumerators-loop-enumerator : goal.invariant-count_enumerators-loop-enumerator
invariant-count_enumerators-loop-enumerator l = counted l.count (enumerators_nodes (enumerators_of (drop l.enumerator-index l.list))) ≡ counted l.initial.count (enumerators_nodes (enumerators_of l.list))

abbrev pub invariant-count_declarators-loop-declarator : goal.invariant-count_declarators-loop-declarator
invariant-count_declarators-loop-declarator l = counted l.count (declarators_nodes (declarators_of (drop l.declarator-index l.list))) ≡ counted l.initial.count (declarators_nodes (declarators_of l.list))

abbrev pub invariant-count_suffixes-loop-suffix : goal.invariant-count_suffixes-loop-suffix
invariant-count_suffixes-loop-suffix l = counted l.count (suffixes_nodes (drop l.suffix-index l.list)) ≡ counted l.initial.count (suffixes_nodes l.list)

abbrev pub invariant-count_parameters-loop-parameter : goal.invariant-count_parameters-loop-parameter
invariant-count_parameters-loop-parameter l = counted l.count (parameters_nodes (parameters_of (drop l.parameter-index l.list))) ≡ counted l.initial.count (parameters_nodes (parameters_of l.list))
