use Rattle.std.proofs.Common.{◌≡◌, drop, true}
use Rattle.c_tree.specs.Shape.{exprs_of, specifiers_of, members_of, enumerators_of, declarators_of, parameters_of}
use Rattle.c_tree.specs.Printing.{put_exprs, put_specifiers, put_members, put_enumerators, put_declarators, put_parameters}
use Rattle.c_tree.specs.Writing.{put_suffixes}
use Rattle.c_tree.proofs.print_expr.+print_expr.Given as goal

abbrev pub invariant-write_exprs-loop-expr : goal.invariant-write_exprs-loop-expr
invariant-write_exprs-loop-expr l = put_exprs l.is_first (exprs_of (drop l.expr-index l.list)) l.out.items ≡ put_exprs true (exprs_of l.list) l.initial.out.items

abbrev pub invariant-write_specifiers-loop-specifier : goal.invariant-write_specifiers-loop-specifier
invariant-write_specifiers-loop-specifier l = put_specifiers (specifiers_of (drop l.specifier-index l.list)) l.out.items ≡ put_specifiers (specifiers_of l.list) l.initial.out.items

abbrev pub invariant-write_members-loop-member : goal.invariant-write_members-loop-member
invariant-write_members-loop-member l = put_members (members_of (drop l.member-index l.list)) l.out.items ≡ put_members (members_of l.list) l.initial.out.items

abbrev pub invariant-write_enumerators-loop-enumerator : goal.invariant-write_enumerators-loop-enumerator
invariant-write_enumerators-loop-enumerator l = put_enumerators l.is_first (enumerators_of (drop l.enumerator-index l.list)) l.out.items ≡ put_enumerators true (enumerators_of l.list) l.initial.out.items

abbrev pub invariant-write_declarators-loop-declarator : goal.invariant-write_declarators-loop-declarator
invariant-write_declarators-loop-declarator l = put_declarators l.is_first (declarators_of (drop l.declarator-index l.list)) l.out.items ≡ put_declarators true (declarators_of l.list) l.initial.out.items

abbrev pub invariant-write_suffixes-loop-suffix : goal.invariant-write_suffixes-loop-suffix
invariant-write_suffixes-loop-suffix l = put_suffixes (drop l.suffix-index l.list) l.out.items ≡ put_suffixes l.list l.initial.out.items

abbrev pub invariant-write_parameters-loop-parameter : goal.invariant-write_parameters-loop-parameter
invariant-write_parameters-loop-parameter l = put_parameters l.is_first (parameters_of (drop l.parameter-index l.list)) l.out.items ≡ put_parameters true (parameters_of l.list) l.initial.out.items
