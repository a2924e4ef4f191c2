-- How the text of a declarator grows from the parts that the code keeps of it: the pointers, the inside, and what stands behind it.
use Rattle.std.specs.Prelude.{Bool, true, false, List, [], ◌∷◌, Vec, codes}
use Rattle.std.specs.declared.alloc.Global.{Global}
use Rattle.c_tree.specs.declared.word.Qualifier.{Qualifier}
use Rattle.c_tree.specs.declared.expr.Member.{Member, out-Member}
use Rattle.c_tree.specs.declared.expr.Suffix.{Suffix}
use Rattle.c_tree.specs.declared.expr.Suffix.TheVariants.{Array', Function'}
use Rattle.c_tree.specs.Shape.{qualifiers_of, maybe_held, parameters_row, specifiers_of, declarators_of}
use Rattle.c_tree.specs.Printing.{Text, put_word, put_line, put_specifiers, put_declarators, put_qualifiers, put_maybe, put_parameters, put_void, is_empty_list}

abbrev pub put_pointers : List (Vec Qualifier Global) → Text → Text
put_pointers [] t = t
put_pointers (q ∷ qs) t = put_pointers qs (put_qualifiers (qualifiers_of q.items) (put_word (codes "*") t))

abbrev pub put_suffix : Suffix → Text → Text
put_suffix (Array' n) t = put_word (codes "]") (put_maybe (maybe_held n) (put_word (codes "[") t))
put_suffix (Function' shape ps) t = put_word (codes ")") (put_parameters true (parameters_row ps) (put_void (is_empty_list (parameters_row ps)) (put_word (codes "(") t)))

abbrev pub put_suffixes : List Suffix → Text → Text
put_suffixes [] t = t
put_suffixes (x ∷ xs) t = put_suffixes xs (put_suffix x t)

abbrev pub has_suffix : List Suffix → Bool
has_suffix [] = false
has_suffix (x ∷ xs) = true

abbrev pub has_pointer : List (Vec Qualifier Global) → Bool
has_pointer [] = false
has_pointer (q ∷ qs) = true

-- one declaration of members, with its `;`
abbrev pub put_member : Member → Text → Text
put_member m t = put_line (codes ";") (put_declarators true (declarators_of (out-Member m).declarators.items) (put_specifiers (specifiers_of (out-Member m).specifiers.items) t))
