-- Which tree a value of the code's types is: the same without pointers, words by the names of the grammar, and a declarator from the outermost on.
use Rattle.std.specs.Prelude.{List, [], ◌∷◌, Option, Some, None, Vec, Box}
use Rattle.std.specs.declared.alloc.Global.{Global}
use Rattle.c_grammar.specs.Tokens as k
use Rattle.c_tree.specs.declared.word.Number.{Number}
use Rattle.c_tree.specs.declared.word.Number.TheVariants as number
use Rattle.c_tree.specs.declared.word.UnaryOperator.{UnaryOperator}
use Rattle.c_tree.specs.declared.word.UnaryOperator.TheVariants as unary
use Rattle.c_tree.specs.declared.word.BinaryOperator.{BinaryOperator}
use Rattle.c_tree.specs.declared.word.BinaryOperator.TheVariants as binary
use Rattle.c_tree.specs.declared.word.AssignmentOperator.{AssignmentOperator}
use Rattle.c_tree.specs.declared.word.AssignmentOperator.TheVariants as assign
use Rattle.c_tree.specs.declared.word.Increment.{Increment}
use Rattle.c_tree.specs.declared.word.Increment.TheVariants as step
use Rattle.c_tree.specs.declared.word.Access.{Access}
use Rattle.c_tree.specs.declared.word.Access.TheVariants as access
use Rattle.c_tree.specs.declared.word.TypeWord.{TypeWord}
use Rattle.c_tree.specs.declared.word.TypeWord.TheVariants as type
use Rattle.c_tree.specs.declared.word.Qualifier.{Qualifier}
use Rattle.c_tree.specs.declared.word.Qualifier.TheVariants as qualifier
use Rattle.c_tree.specs.declared.word.StorageClass.{StorageClass}
use Rattle.c_tree.specs.declared.word.StorageClass.TheVariants as storage
use Rattle.c_tree.specs.declared.word.CompositeWord.{CompositeWord}
use Rattle.c_tree.specs.declared.word.CompositeWord.TheVariants as composite
use Rattle.c_tree.specs.declared.expr.Tag.{Tag}
use Rattle.c_tree.specs.declared.expr.Expr.{Expr, Row_of-Expr, end_of-Expr, more_of-Expr}
use Rattle.c_tree.specs.declared.expr.Expr.TheVariants.{Name, Constant, Index', Call', Member', StepAfter', StepBefore', Unary', SizeofExpr', SizeofType', Cast', Binary', Cond', Assign'}
use Rattle.c_tree.specs.declared.expr.TypeName.{TypeName}
use Rattle.c_tree.specs.declared.expr.Specifier.{Specifier, Row_of-Member, end_of-Member, more_of-Member, Row_of-Enumerator, end_of-Enumerator, more_of-Enumerator}
use Rattle.c_tree.specs.declared.expr.Specifier.TheVariants.{Storage, Qualifier as Qualified, Inline, Words, Typedef, CompositeReference, Composite', EnumReference, Enumeration'}
use Rattle.c_tree.specs.declared.expr.Member.{Member, Member' as Members', Row_of-Specifier, end_of-Specifier, more_of-Specifier, Row_of-Declarator, end_of-Declarator, more_of-Declarator}
use Rattle.c_tree.specs.declared.expr.Enumerator.{Enumerator}
use Rattle.c_tree.specs.declared.expr.Declarator.{Declarator, Row_of-Suffix, end_of-Suffix, more_of-Suffix}
use Rattle.c_tree.specs.declared.expr.Direct.{Direct}
use Rattle.c_tree.specs.declared.expr.Direct.TheVariants.{Unnamed, Named, Nested'}
use Rattle.c_tree.specs.declared.expr.Suffix.{Suffix, Row_of-Parameter, end_of-Parameter, more_of-Parameter, Held-Suffix-Array-0, None', Some'}
use Rattle.c_tree.specs.declared.expr.Suffix.TheVariants.{Array', Function'}
use Rattle.c_tree.specs.declared.expr.Parameter.{Parameter}
use Rattle.c_tree.specs.Trees.{TagTree, untagged, tagged, ExprTree, name_expr, constant_expr, index_expr, call_expr, member_expr, step_after_expr, step_before_expr, unary_expr, sizeof_expr, sizeof_type_expr, cast_expr, binary_expr, cond_expr, assign_expr, ExprTrees, no_exprs, exprs, MaybeTree, left_out, stated, TypeTree, type_tree, SpecifierTree, storage_specifier, qualifier_specifier, inline_specifier, words_specifier, typedef_specifier, reference_specifier, composite_specifier, enum_reference_specifier, enum_specifier, SpecifierTrees, no_specs, specs, MemberTrees, no_member_trees, member_trees, EnumeratorTrees, no_enumerator_trees, enumerator_trees, DeclaratorTree, unnamed, named, pointer_to, array_of, function_of, DeclaratorTrees, no_declarator_trees, declarator_trees, ParameterTrees, no_parameter_trees, parameter_trees}

-- ## Words

abbrev pub number_of : Number → k.Number
number_of (number.Decimal n) = k.Decimal n
number_of (number.OctalOrHexadecimal n) = k.Octal_or_hexadecimal n
number_of (number.DecimalUnsigned n) = k.Decimal_unsigned n
number_of (number.OtherUnsigned n) = k.Other_unsigned n
number_of (number.Character n) = k.Character n

abbrev pub unary_of : UnaryOperator → k.Operator
unary_of unary.AddressOf = k.Ampersand
unary_of unary.Dereference = k.Star
unary_of unary.Plus = k.Plus
unary_of unary.Minus = k.Minus
unary_of unary.Complement = k.Complement
unary_of unary.Not = k.Not

abbrev pub binary_of : BinaryOperator → k.Operator
binary_of binary.LogicalOr = k.LogicalOr
binary_of binary.LogicalAnd = k.LogicalAnd
binary_of binary.BitOr = k.BitOr
binary_of binary.BitXor = k.BitXor
binary_of binary.BitAnd = k.Ampersand
binary_of binary.Equal = k.Equal
binary_of binary.NotEqual = k.NotEqual
binary_of binary.Less = k.Less
binary_of binary.Greater = k.Greater
binary_of binary.LessEqual = k.LessEqual
binary_of binary.GreaterEqual = k.GreaterEqual
binary_of binary.ShiftLeft = k.ShiftLeft
binary_of binary.ShiftRight = k.ShiftRight
binary_of binary.Plus = k.Plus
binary_of binary.Minus = k.Minus
binary_of binary.Times = k.Star
binary_of binary.Divide = k.Slash
binary_of binary.Remainder = k.Percent

abbrev pub assignment_of : AssignmentOperator → k.AssignmentOperator
assignment_of assign.Assign = k.Equals
assignment_of assign.Times = k.StarEquals
assignment_of assign.Divide = k.SlashEquals
assignment_of assign.Remainder = k.PercentEquals
assignment_of assign.Plus = k.PlusEquals
assignment_of assign.Minus = k.MinusEquals
assignment_of assign.ShiftLeft = k.ShiftLeftEquals
assignment_of assign.ShiftRight = k.ShiftRightEquals
assignment_of assign.BitAnd = k.AndEquals
assignment_of assign.BitXor = k.XorEquals
assignment_of assign.BitOr = k.OrEquals

abbrev pub step_of : Increment → k.Increment
step_of step.Increase = k.Increase
step_of step.Decrease = k.Decrease

abbrev pub access_of : Access → k.Access
access_of access.Dot = k.Dot
access_of access.Arrow = k.Arrow

abbrev pub word_of : TypeWord → k.TypeWord
word_of type.Void = k.Void
word_of type.Char = k.Char
word_of type.Short = k.Short
word_of type.Int = k.Int
word_of type.Long = k.Long
word_of type.Float = k.Float
word_of type.Double = k.Double
word_of type.Signed = k.Signed
word_of type.Unsigned = k.Unsigned

abbrev pub qualifier_of : Qualifier → k.Qualifier
qualifier_of qualifier.Const = k.Const
qualifier_of qualifier.Volatile = k.Volatile
qualifier_of qualifier.Restrict = k.Restrict

abbrev pub storage_of : StorageClass → k.StorageClass
storage_of storage.Extern = k.Extern
storage_of storage.Static = k.Static
storage_of storage.Typedef = k.Typedef

abbrev pub composite_of : CompositeWord → k.CompositeWord
composite_of composite.Struct = k.Struct
composite_of composite.Union = k.Union

abbrev pub words_of : List TypeWord → List k.TypeWord
words_of [] = []
words_of (w ∷ ws) = word_of w ∷ words_of ws

abbrev pub qualifiers_of : List Qualifier → List k.Qualifier
qualifiers_of [] = []
qualifiers_of (q ∷ qs) = qualifier_of q ∷ qualifiers_of qs

abbrev pub tag_of : Option Tag → TagTree
tag_of None = untagged
tag_of (Some t) = tagged t.at t.name

-- pointers, the outermost first, to what a declarator declares
abbrev pub pointed : List (Vec Qualifier Global) → DeclaratorTree → DeclaratorTree
pointed [] d = d
pointed (q ∷ qs) d = pointer_to (qualifiers_of q.items) (pointed qs d)

-- ## Expressions, types and declarators. A `row` is what a vector holds

abbrev mutual
  pub expr_of : Expr → ExprTree
  expr_of (Name at name) = name_expr at name
  expr_of (Constant at n) = constant_expr at (number_of n)
  expr_of (Index' at op p a q i) = index_expr at op (expr_of a) (expr_of i)
  expr_of (Call' at op p f shape xs) = call_expr at op (expr_of f) (exprs_row xs)
  expr_of (Member' at op p e o name_at name) = member_expr at op (expr_of e) (access_of o) name_at name
  expr_of (StepAfter' at op p e o) = step_after_expr at op (expr_of e) (step_of o)
  expr_of (StepBefore' at o p e) = step_before_expr at (step_of o) (expr_of e)
  expr_of (Unary' at o p e) = unary_expr at (unary_of o) (expr_of e)
  expr_of (SizeofExpr' at p e) = sizeof_expr at (expr_of e)
  expr_of (SizeofType' at p type_at shape s pointers d places xs) = sizeof_type_expr at (type_tree type_at (specifiers_row s) (pointed pointers.items (suffixes_row (direct_of d) xs)))
  expr_of (Cast' at p type_at shape s pointers d places xs q e) = cast_expr at (type_tree type_at (specifiers_row s) (pointed pointers.items (suffixes_row (direct_of d) xs))) (expr_of e)
  expr_of (Binary' at op o p a q b) = binary_expr at op (binary_of o) (expr_of a) (expr_of b)
  expr_of (Cond' at op p c q a r b) = cond_expr at op (expr_of c) (expr_of a) (expr_of b)
  expr_of (Assign' at op o p a q b) = assign_expr at op (assignment_of o) (expr_of a) (expr_of b)

  pub exprs_row : {m : _} → Row_of-Expr m → ExprTrees
  exprs_row end_of-Expr = no_exprs
  exprs_row (more_of-Expr e es) = exprs (expr_of e) (exprs_row es)

  pub maybe_held : Held-Suffix-Array-0 → MaybeTree
  maybe_held None' = left_out
  maybe_held (Some' p e) = stated (expr_of e)

  pub specifier_of : Specifier → SpecifierTree
  specifier_of (Storage at w) = storage_specifier at (storage_of w)
  specifier_of (Qualified at w) = qualifier_specifier at (qualifier_of w)
  specifier_of (Inline at) = inline_specifier at
  specifier_of (Words at ws) = words_specifier at (words_of ws.items)
  specifier_of (Typedef at name) = typedef_specifier at name
  specifier_of (CompositeReference at w t) = reference_specifier at (composite_of w) t.at t.name
  specifier_of (Composite' at w t body shape ms) = composite_specifier at (composite_of w) (tag_of t) body (members_row ms)
  specifier_of (EnumReference at t) = enum_reference_specifier at t.at t.name
  specifier_of (Enumeration' at t body shape es) = enum_specifier at (tag_of t) body (enumerators_row es)

  pub specifiers_row : {m : _} → Row_of-Specifier m → SpecifierTrees
  specifiers_row end_of-Specifier = no_specs
  specifiers_row (more_of-Specifier s ss) = specs (specifier_of s) (specifiers_row ss)

  pub member_onto : Member → MemberTrees → MemberTrees
  member_onto (Members' at shape s places ds) r = member_trees at (specifiers_row s) (declarators_row ds) r

  pub members_row : {m : _} → Row_of-Member m → MemberTrees
  members_row end_of-Member = no_member_trees
  members_row (more_of-Member m ms) = member_onto m (members_row ms)

  pub enumerators_row : {m : _} → Row_of-Enumerator m → EnumeratorTrees
  enumerators_row end_of-Enumerator = no_enumerator_trees
  enumerators_row (more_of-Enumerator at name value es) = enumerator_trees at name (maybe_held value) (enumerators_row es)

  pub direct_of : Direct → DeclaratorTree
  direct_of Unnamed = unnamed
  direct_of (Named at name) = named at name
  direct_of (Nested' p pointers d shape xs) = pointed pointers.items (suffixes_row (direct_of d) xs)

  pub suffix_of : DeclaratorTree → Suffix → DeclaratorTree
  suffix_of d (Array' n) = array_of d (maybe_held n)
  suffix_of d (Function' shape ps) = function_of d (parameters_row ps)

  -- the suffixes of a declarator, the innermost first
  pub suffixes_row : {m : _} → DeclaratorTree → Row_of-Suffix m → DeclaratorTree
  suffixes_row d end_of-Suffix = d
  suffixes_row d (more_of-Suffix x xs) = suffixes_row (suffix_of d x) xs

  pub declarators_row : {m : _} → Row_of-Declarator m → DeclaratorTrees
  declarators_row end_of-Declarator = no_declarator_trees
  declarators_row (more_of-Declarator pointers d shape xs ds) = declarator_trees (pointed pointers.items (suffixes_row (direct_of d) xs)) (declarators_row ds)

  pub parameters_row : {m : _} → Row_of-Parameter m → ParameterTrees
  parameters_row end_of-Parameter = no_parameter_trees
  parameters_row (more_of-Parameter at shape s pointers d places xs ps) = parameter_trees at (specifiers_row s) (pointed pointers.items (suffixes_row (direct_of d) xs)) (parameters_row ps)

-- ## The same of what the code holds in vectors and structs

abbrev pub exprs_of : List Expr → ExprTrees
exprs_of [] = no_exprs
exprs_of (e ∷ es) = exprs (expr_of e) (exprs_of es)

abbrev pub specifiers_of : List Specifier → SpecifierTrees
specifiers_of [] = no_specs
specifiers_of (s ∷ ss) = specs (specifier_of s) (specifiers_of ss)

abbrev pub members_of : List Member → MemberTrees
members_of [] = no_member_trees
members_of (m ∷ ms) = member_onto m (members_of ms)

abbrev pub suffixes_of : DeclaratorTree → List Suffix → DeclaratorTree
suffixes_of d [] = d
suffixes_of d (x ∷ xs) = suffixes_of (suffix_of d x) xs

abbrev pub declarator_of : Declarator → DeclaratorTree
declarator_of d = pointed d.pointers.items (suffixes_of (direct_of d.direct) d.suffixes.items)

abbrev pub declarators_of : List Declarator → DeclaratorTrees
declarators_of [] = no_declarator_trees
declarators_of (d ∷ ds) = declarator_trees (declarator_of d) (declarators_of ds)

abbrev pub parameters_of : List Parameter → ParameterTrees
parameters_of [] = no_parameter_trees
parameters_of (p ∷ ps) = parameter_trees p.at (specifiers_of p.specifiers.items) (declarator_of p.declarator) (parameters_of ps)

abbrev pub type_of : TypeName → TypeTree
type_of t = type_tree t.at (specifiers_of t.specifiers.items) (declarator_of t.declarator)

abbrev pub maybe_of : Option (Box Expr Global) → MaybeTree
maybe_of None = left_out
maybe_of (Some e) = stated (expr_of e.value)

abbrev pub enumerators_of : List Enumerator → EnumeratorTrees
enumerators_of [] = no_enumerator_trees
enumerators_of (e ∷ es) = enumerator_trees e.at e.name (maybe_of e.value) (enumerators_of es)
