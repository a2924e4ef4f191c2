-- The text of a tree: its tokens in order, each with a blank or a line feed behind it, and parentheses only where the tree needs them. What stands here says how the text grows, part by part.
use Rattle.std.specs.Prelude.{ℕ, ◌+◌, ◌/◌, ◌%◌, Bool, true, false, not, ◌&&◌, nat_lt, nat_le, ◌==◌, if◌then◌else◌, List, [], ◌∷◌, ◌++◌, codes, decimal}
use Rattle.std.specs.Char.{digit_char}
use Rattle.c_grammar.specs.Tokens as k
use Rattle.c_grammar.specs.Spelling.{precedence}
use Rattle.c_tree.specs.Trees.{TagTree, untagged, tagged, ExprTree, name_expr, constant_expr, index_expr, call_expr, member_expr, step_after_expr, step_before_expr, unary_expr, sizeof_expr, sizeof_type_expr, cast_expr, binary_expr, cond_expr, assign_expr, ExprTrees, no_exprs, exprs, MaybeTree, left_out, stated, TypeTree, type_tree, SpecifierTree, storage_specifier, qualifier_specifier, inline_specifier, words_specifier, typedef_specifier, reference_specifier, composite_specifier, enum_reference_specifier, enum_specifier, SpecifierTrees, no_specs, specs, MemberTrees, no_member_trees, member_trees, EnumeratorTrees, no_enumerator_trees, enumerator_trees, DeclaratorTree, unnamed, named, pointer_to, array_of, function_of, DeclaratorTrees, no_declarator_trees, declarator_trees, ParameterTrees, no_parameter_trees, parameter_trees}

-- a text so far
abbrev pub Text : Type 0
Text = List ℕ

-- a token with a blank behind it
abbrev pub put_word : List ℕ → Text → Text
put_word word t = t ++ word ++ 32 ∷ []

-- a token that ends a line
abbrev pub put_line : List ℕ → Text → Text
put_line word t = t ++ word ++ 10 ∷ []

-- the parentheses round a part, if it needs them
abbrev pub opened : Bool → Text → Text
opened true t = put_word (codes "(") t
opened false t = t

abbrev pub closed : Bool → Text → Text
closed true t = put_word (codes ")") t
closed false t = t

-- the comma between an item and the one before it
abbrev pub separated : Bool → Text → Text
separated true t = t
separated false t = put_word (codes ",") t

-- ## Words

-- a number in eight hexadecimal digits
abbrev pub hexadecimal : ℕ → List ℕ
hexadecimal n = codes "0x" ++ digit_char (n / 268435456) ∷ digit_char (n / 16777216 % 16) ∷ digit_char (n / 1048576 % 16) ∷ digit_char (n / 65536 % 16) ∷ digit_char (n / 4096 % 16) ∷ digit_char (n / 256 % 16) ∷ digit_char (n / 16 % 16) ∷ digit_char (n % 16) ∷ []

-- a byte as itself, if it stands for itself between quotes, or as an octal escape
abbrev pub stands_for_itself : ℕ → Bool
stands_for_itself b = nat_le 32 b && nat_le b 126 && not (b == 39) && not (b == 92)

abbrev pub character : ℕ → List ℕ
character b = if stands_for_itself b then 39 ∷ b ∷ 39 ∷ [] else 39 ∷ 92 ∷ (48 + b / 64) ∷ (48 + b / 8 % 8) ∷ (48 + b % 8) ∷ 39 ∷ []

abbrev pub number_text : k.Number → List ℕ
number_text (k.Decimal n) = decimal n
number_text (k.Octal_or_hexadecimal n) = hexadecimal n
number_text (k.Decimal_unsigned n) = decimal n ++ codes "u"
number_text (k.Other_unsigned n) = hexadecimal n ++ codes "u"
number_text (k.Character n) = character n

abbrev pub operator_text : k.Operator → List ℕ
operator_text k.LogicalOr = codes "||"
operator_text k.LogicalAnd = codes "&&"
operator_text k.BitOr = codes "|"
operator_text k.BitXor = codes "^"
operator_text k.Ampersand = codes "&"
operator_text k.Equal = codes "=="
operator_text k.NotEqual = codes "!="
operator_text k.Less = codes "<"
operator_text k.Greater = codes ">"
operator_text k.LessEqual = codes "<="
operator_text k.GreaterEqual = codes ">="
operator_text k.ShiftLeft = codes "<<"
operator_text k.ShiftRight = codes ">>"
operator_text k.Plus = codes "+"
operator_text k.Minus = codes "-"
operator_text k.Star = codes "*"
operator_text k.Slash = codes "/"
operator_text k.Percent = codes "%"
operator_text k.Complement = codes "~"
operator_text k.Not = codes "!"

abbrev pub assignment_text : k.AssignmentOperator → List ℕ
assignment_text k.Equals = codes "="
assignment_text k.StarEquals = codes "*="
assignment_text k.SlashEquals = codes "/="
assignment_text k.PercentEquals = codes "%="
assignment_text k.PlusEquals = codes "+="
assignment_text k.MinusEquals = codes "-="
assignment_text k.ShiftLeftEquals = codes "<<="
assignment_text k.ShiftRightEquals = codes ">>="
assignment_text k.AndEquals = codes "&="
assignment_text k.XorEquals = codes "^="
assignment_text k.OrEquals = codes "|="

abbrev pub step_text : k.Increment → List ℕ
step_text k.Increase = codes "++"
step_text k.Decrease = codes "--"

abbrev pub access_text : k.Access → List ℕ
access_text k.Dot = codes "."
access_text k.Arrow = codes "->"

abbrev pub type_word_text : k.TypeWord → List ℕ
type_word_text k.Void = codes "void"
type_word_text k.Char = codes "char"
type_word_text k.Short = codes "short"
type_word_text k.Int = codes "int"
type_word_text k.Long = codes "long"
type_word_text k.Float = codes "float"
type_word_text k.Double = codes "double"
type_word_text k.Signed = codes "signed"
type_word_text k.Unsigned = codes "unsigned"

abbrev pub qualifier_text : k.Qualifier → List ℕ
qualifier_text k.Const = codes "const"
qualifier_text k.Volatile = codes "volatile"
qualifier_text k.Restrict = codes "restrict"

abbrev pub storage_text : k.StorageClass → List ℕ
storage_text k.Extern = codes "extern"
storage_text k.Static = codes "static"
storage_text k.Typedef = codes "typedef"

abbrev pub composite_text : k.CompositeWord → List ℕ
composite_text k.Struct = codes "struct"
composite_text k.Union = codes "union"

abbrev pub put_type_words : List k.TypeWord → Text → Text
put_type_words [] t = t
put_type_words (w ∷ ws) t = put_type_words ws (put_word (type_word_text w) t)

abbrev pub put_qualifiers : List k.Qualifier → Text → Text
put_qualifiers [] t = t
put_qualifiers (q ∷ qs) t = put_qualifiers qs (put_word (qualifier_text q) t)

abbrev pub put_tag : TagTree → Text → Text
put_tag untagged t = t
put_tag (tagged at x) t = put_word x t

-- ## Expressions, types and declarators

-- how tightly the expression binds (6.5): 1 an assignment, 2 a conditional expression, 3 to 12 a binary operator, 13 a cast, 14 a unary expression, 15 a postfix expression
abbrev pub binding : ExprTree → ℕ
binding (name_expr at x) = 15
binding (constant_expr at n) = 15
binding (index_expr at op a i) = 15
binding (call_expr at op f xs) = 15
binding (member_expr at op e o q x) = 15
binding (step_after_expr at op e o) = 15
binding (step_before_expr at o e) = 14
binding (unary_expr at o e) = 14
binding (sizeof_expr at e) = 14
binding (sizeof_type_expr at ty) = 14
binding (cast_expr at ty e) = 13
binding (binary_expr at op o a b) = precedence o
binding (cond_expr at op c a b) = 2
binding (assign_expr at op o a b) = 1

-- whether the expression needs parentheses where one that binds so tightly stands
abbrev pub is_looser : ExprTree → ℕ → Bool
is_looser e n = nat_lt (binding e) n

-- whether a declarator needs parentheses before brackets or parameters
abbrev pub is_pointer : DeclaratorTree → Bool
is_pointer unnamed = false
is_pointer (named at x) = false
is_pointer (pointer_to qs d) = true
is_pointer (array_of d n) = false
is_pointer (function_of d ps) = false

abbrev pub is_empty_list : ParameterTrees → Bool
is_empty_list no_parameter_trees = true
is_empty_list (parameter_trees at s d ps) = false

-- the word `void` for no parameters
abbrev pub put_void : Bool → Text → Text
put_void true t = put_word (codes "void") t
put_void false t = t

abbrev mutual
  pub put_expr : ExprTree → Text → Text
  put_expr (name_expr at x) t = put_word x t
  put_expr (constant_expr at n) t = put_word (number_text n) t
  put_expr (index_expr at op a i) t = put_word (codes "]") (put_expr i (put_word (codes "[") (closed (is_looser a 15) (put_expr a (opened (is_looser a 15) t)))))
  put_expr (call_expr at op f xs) t = put_word (codes ")") (put_exprs true xs (put_word (codes "(") (closed (is_looser f 15) (put_expr f (opened (is_looser f 15) t)))))
  put_expr (member_expr at op e o q x) t = put_word x (put_word (access_text o) (closed (is_looser e 15) (put_expr e (opened (is_looser e 15) t))))
  put_expr (step_after_expr at op e o) t = put_word (step_text o) (closed (is_looser e 15) (put_expr e (opened (is_looser e 15) t)))
  put_expr (step_before_expr at o e) t = closed (is_looser e 14) (put_expr e (opened (is_looser e 14) (put_word (step_text o) t)))
  put_expr (unary_expr at o e) t = closed (is_looser e 13) (put_expr e (opened (is_looser e 13) (put_word (operator_text o) t)))
  put_expr (sizeof_expr at e) t = closed (is_looser e 14) (put_expr e (opened (is_looser e 14) (put_word (codes "sizeof") t)))
  put_expr (sizeof_type_expr at ty) t = put_word (codes ")") (put_type ty (put_word (codes "(") (put_word (codes "sizeof") t)))
  put_expr (cast_expr at ty e) t = closed (is_looser e 13) (put_expr e (opened (is_looser e 13) (put_word (codes ")") (put_type ty (put_word (codes "(") t)))))
  put_expr (binary_expr at op o a b) t = closed (is_looser b (precedence o + 1)) (put_expr b (opened (is_looser b (precedence o + 1)) (put_word (operator_text o) (closed (is_looser a (precedence o)) (put_expr a (opened (is_looser a (precedence o)) t))))))
  put_expr (cond_expr at op c a b) t = closed (is_looser b 2) (put_expr b (opened (is_looser b 2) (put_word (codes ":") (put_expr a (put_word (codes "?") (closed (is_looser c 3) (put_expr c (opened (is_looser c 3) t))))))))
  put_expr (assign_expr at op o a b) t = put_expr b (put_word (assignment_text o) (closed (is_looser a 14) (put_expr a (opened (is_looser a 14) t))))

  pub put_exprs : Bool → ExprTrees → Text → Text
  put_exprs first no_exprs t = t
  put_exprs first (exprs e es) t = put_exprs false es (put_expr e (separated first t))

  pub put_maybe : MaybeTree → Text → Text
  put_maybe left_out t = t
  put_maybe (stated e) t = closed (is_looser e 2) (put_expr e (opened (is_looser e 2) t))

  pub put_type : TypeTree → Text → Text
  put_type (type_tree at s d) t = put_declarator d (put_specifiers s t)

  pub put_specifier : SpecifierTree → Text → Text
  put_specifier (storage_specifier at w) t = put_word (storage_text w) t
  put_specifier (qualifier_specifier at w) t = put_word (qualifier_text w) t
  put_specifier (inline_specifier at) t = put_word (codes "inline") t
  put_specifier (words_specifier at ws) t = put_type_words ws t
  put_specifier (typedef_specifier at x) t = put_word x t
  put_specifier (reference_specifier at w q x) t = put_word x (put_word (composite_text w) t)
  put_specifier (composite_specifier at w tag q ms) t = put_word (codes "}") (put_members ms (put_line (codes "{") (put_tag tag (put_word (composite_text w) t))))
  put_specifier (enum_reference_specifier at q x) t = put_word x (put_word (codes "enum") t)
  put_specifier (enum_specifier at tag q es) t = put_word (codes "}") (put_enumerators true es (put_word (codes "{") (put_tag tag (put_word (codes "enum") t))))

  pub put_specifiers : SpecifierTrees → Text → Text
  put_specifiers no_specs t = t
  put_specifiers (specs s ss) t = put_specifiers ss (put_specifier s t)

  pub put_members : MemberTrees → Text → Text
  put_members no_member_trees t = t
  put_members (member_trees at s ds ms) t = put_members ms (put_line (codes ";") (put_declarators true ds (put_specifiers s t)))

  pub put_enumerators : Bool → EnumeratorTrees → Text → Text
  put_enumerators first no_enumerator_trees t = t
  put_enumerators first (enumerator_trees at x value es) t = put_enumerators false es (put_value value (put_word x (separated first t)))

  -- `=` and the value of an enumerator
  pub put_value : MaybeTree → Text → Text
  put_value left_out t = t
  put_value (stated e) t = closed (is_looser e 2) (put_expr e (opened (is_looser e 2) (put_word (codes "=") t)))

  pub put_declarator : DeclaratorTree → Text → Text
  put_declarator unnamed t = t
  put_declarator (named at x) t = put_word x t
  put_declarator (pointer_to qs d) t = put_declarator d (put_qualifiers qs (put_word (codes "*") t))
  put_declarator (array_of d n) t = put_word (codes "]") (put_maybe n (put_word (codes "[") (closed (is_pointer d) (put_declarator d (opened (is_pointer d) t)))))
  put_declarator (function_of d ps) t = put_word (codes ")") (put_parameters true ps (put_void (is_empty_list ps) (put_word (codes "(") (closed (is_pointer d) (put_declarator d (opened (is_pointer d) t))))))

  pub put_declarators : Bool → DeclaratorTrees → Text → Text
  put_declarators first no_declarator_trees t = t
  put_declarators first (declarator_trees d ds) t = put_declarators false ds (put_declarator d (separated first t))

  pub put_parameters : Bool → ParameterTrees → Text → Text
  put_parameters first no_parameter_trees t = t
  put_parameters first (parameter_trees at s d ps) t = put_parameters false ps (put_declarator d (put_specifiers s (separated first t)))
