-- What the reader has begun and not ended: a stack of frames over the parts of the file that are whole. Each frame keeps the number of marked symbols above what stands in it, and the nesting of the deepest token read before that, both at most 255.
use Rattle.std.specs.Prelude.{ℕ, Bool, true, false, cond, not, List, max, ◌&&◌}
use Rattle.c_tree.specs.Trees.{TagTree}
use Rattle.c_reading.specs.Parts.{deeper, over, ExprPart, ArgumentsPart, TypePart, SpecifiersPart, MembersPart, EnumeratorsPart, is_bare, DeclaratorPart, declarator_height, DeclaratorsPart, AbstractPart, ParametersPart, InitsPart, is_empty, OptionalPart, ForFirstPart, LabelsPart, StatementPart, ItemsPart, GroupsPart, FilePart}
use Rattle.c_grammar.specs.Tokens.{Identifier, Place, Operator, AssignmentOperator, Increment, Qualifier, CompositeWord}

-- what brackets or parentheses stand behind
pub data SuffixedPart : Type 0 where
  suffixed : DeclaratorPart → SuffixedPart
  suffixed_abstract : AbstractPart → SuffixedPart

pub data Frame : Type 0 where
  -- an operand is wanted: what stands before it takes it as the last one
  step_frame : Place → Increment → Frame
  unary_frame : Place → Operator → Frame
  sizeof_frame : Place → Frame
  cast_frame : Place → TypePart → Frame
  binary_frame : ExprPart → Place → Operator → Frame
  conditional_frame : ExprPart → Place → ExprPart → Frame
  assignment_frame : ExprPart → Place → AssignmentOperator → Frame
  -- an expression is wanted that another token ends
  parentheses_frame : Place → Frame
  index_frame : ExprPart → Place → Frame
  argument_frame : ExprPart → Place → ArgumentsPart → Frame
  middle_frame : ExprPart → Place → Frame
  length_frame : SuffixedPart → Frame
  enumerator_frame : EnumeratorsPart → Place → Identifier → Frame
  expression_frame : Frame
  return_frame : Place → Frame
  if_frame : Place → Frame
  while_frame : Place → Frame
  do_frame : Place → StatementPart → Frame
  switch_frame : Place → Frame
  for_first_frame : Place → Frame
  for_test_frame : Place → ForFirstPart → Frame
  for_step_frame : Place → ForFirstPart → OptionalPart → Frame
  case_frame : Place → Frame
  initializer_frame : SpecifiersPart → InitsPart → DeclaratorPart → Frame
  list_frame : Place → ArgumentsPart → Frame
  -- a statement is wanted
  then_frame : Place → ExprPart → Frame
  else_frame : Place → ExprPart → StatementPart → Frame
  while_body_frame : Place → ExprPart → Frame
  do_body_frame : Place → Frame
  for_body_frame : Place → ForFirstPart → OptionalPart → OptionalPart → Frame
  -- items are wanted: of a block, of a function's body, of a group of a switch
  block_frame : Place → ItemsPart → Frame
  function_frame : SpecifiersPart → DeclaratorPart → Place → ItemsPart → Frame
  group_frame : GroupsPart → LabelsPart → ItemsPart → Frame
  -- the groups of a switch, and a label there
  groups_frame : Place → ExprPart → Frame
  label_frame : GroupsPart → LabelsPart → Frame
  -- the declaration in the head of a `for`
  for_head_frame : Place → Frame
  -- the members of a struct or union, the constants of an enum
  members_frame : SpecifiersPart → Place → CompositeWord → TagTree → Place → MembersPart → Frame
  enum_frame : SpecifiersPart → Place → TagTree → Place → Frame
  -- parameters
  parameters_frame : SuffixedPart → Frame
  parameter_frame : ParametersPart → Frame
  -- a type name in parentheses
  cast_type_frame : Place → Frame
  sizeof_type_frame : Place → Frame
  -- a declarator is wanted: of a declaration, of members, of a parameter, of a type name
  init_frame : SpecifiersPart → InitsPart → Frame
  member_frame : SpecifiersPart → DeclaratorsPart → Frame
  parameter_of_frame : SpecifiersPart → Frame
  type_name_frame : SpecifiersPart → Frame
  -- a star with its qualifiers and an open parenthesis before a declarator
  star_frame : List Qualifier → Frame
  open_frame : Frame

-- the marks above what stands in a frame
pub record Nest : Type 0 where
  -- above a name or an expression there
  pub depth : ℕ
  -- above what stands there once its declarator is marked
  pub inner : ℕ
  -- the same two of an abstract declarator, whose stars are marked one by one
  pub star_depth : ℕ
  pub star_inner : ℕ
  -- the nesting of the deepest token so far
  pub deepest : ℕ
  -- whether a declarator there may be the head of a function definition
  pub may_head : Bool
  -- whether an abstract declarator there may turn out to be one with a name
  pub takes_name : Bool

abbrev pub nest_at : ℕ → ℕ → Nest
nest_at depth deepest = record { depth = depth; inner = deeper depth; star_depth = depth; star_inner = deeper depth; deepest = deepest; may_head = false; takes_name = false }

-- one mark more, with tokens before of this height
abbrev pub below_mark : Nest → ℕ → Nest
below_mark b height = nest_at (deeper b.depth) (max b.deepest (over (deeper b.depth) height))

-- no mark more
abbrev pub beside : Nest → ℕ → Nest
beside b height = nest_at b.depth (max b.deepest (over b.depth height))

-- the marks above brackets, and above parameters
abbrev pub brackets_depth : SuffixedPart → Nest → ℕ
brackets_depth (suffixed d) b = b.inner
brackets_depth (suffixed_abstract a) b = b.star_inner

abbrev pub parameters_depth : SuffixedPart → Nest → ℕ
parameters_depth (suffixed d) b = cond (is_bare d.shape && b.may_head) 0 b.inner
parameters_depth (suffixed_abstract a) b = b.star_inner

abbrev pub suffixed_height : SuffixedPart → ℕ
suffixed_height (suffixed d) = d.inner
suffixed_height (suffixed_abstract a) = a.inner

abbrev pub under : Nest → ℕ → ℕ → Nest
under b depth height = nest_at depth (max b.deepest (over depth height))

-- the marks above what stands in a frame, with those above the frame
abbrev pub inside : Frame → Nest → Nest
inside (step_frame p o) b = below_mark b 0
inside (unary_frame p o) b = below_mark b 0
inside (sizeof_frame p) b = below_mark b 0
inside (cast_frame p t) b = below_mark b t.height
inside (binary_frame e p o) b = below_mark b e.height
inside (conditional_frame c p e) b = below_mark b (max c.height e.height)
inside (assignment_frame e p o) b = below_mark b e.height
inside (parentheses_frame p) b = below_mark b 0
inside (index_frame e p) b = below_mark b e.height
inside (argument_frame f p xs) b = below_mark b (max f.height xs.height)
inside (middle_frame c p) b = below_mark b c.height
inside (length_frame x) b = under b (brackets_depth x b) (suffixed_height x)
inside (enumerator_frame es p x) b = beside b es.height
inside expression_frame b = nest_at (deeper b.depth) b.deepest
inside (return_frame p) b = below_mark b 0
inside (if_frame p) b = below_mark b 0
inside (while_frame p) b = below_mark b 0
inside (do_frame p s) b = below_mark b s.height
inside (switch_frame p) b = below_mark b 0
inside (for_first_frame p) b = below_mark b 0
inside (for_test_frame p f) b = below_mark b f.height
inside (for_step_frame p f c) b = below_mark b (max f.height c.height)
inside (case_frame p) b = beside b 0
inside (initializer_frame s ds d) b = beside b (max s.height (max ds.height (declarator_height d)))
inside (list_frame p xs) b = below_mark b xs.height
inside (then_frame p e) b = below_mark b e.height
inside (else_frame p e a) b = below_mark b (max e.height a.height)
inside (while_body_frame p e) b = below_mark b e.height
inside (do_body_frame p) b = below_mark b 0
inside (for_body_frame p f c u) b = below_mark b (max f.height (max c.height u.height))
inside (block_frame p is) b = below_mark b is.height
inside (function_frame s d p is) b = nest_at 1 (max b.deepest (max (over 0 s.height) (max (over 0 d.inner) (over 1 is.height))))
inside (group_frame gs ls is) b = beside b (max gs.height (max ls.height is.height))
inside (groups_frame p e) b = below_mark b e.height
inside (label_frame gs ls) b = beside b (max gs.height ls.height)
inside (for_head_frame p) b = below_mark b 0
inside (members_frame s p w t q ms) b = nest_at (deeper b.depth) (max b.deepest (max (over b.depth s.height) (over (deeper b.depth) ms.height)))
inside (enum_frame s p t q) b = beside b s.height
inside (parameters_frame x) b = under b (parameters_depth x b) (suffixed_height x)
inside (parameter_frame ps) b = beside b ps.height
inside (cast_type_frame p) b = below_mark b 0
inside (sizeof_type_frame p) b = below_mark b 0
inside (init_frame s ds) b = record (beside b (max s.height ds.height)) { may_head = is_empty ds.trees && not s.declares_types && b.may_head }
inside (member_frame s ds) b = beside b (max s.height ds.height)
inside (parameter_of_frame s) b = record (beside b s.height) { takes_name = true }
inside (type_name_frame s) b = beside b s.height
inside (star_frame qs) b = record b { depth = b.inner; star_depth = b.star_inner; star_inner = deeper b.star_inner }
inside open_frame b = record b { depth = b.inner; inner = deeper b.inner; star_depth = b.star_inner; star_inner = deeper b.star_inner; may_head = false }

-- frames, the last begun first, each with the marks above what stands in it, over the file
pub data Stack : Type 0 where
  bottom : FilePart → Stack
  above : Frame → Nest → Stack → Stack

-- the marks above what stands in a file: a declarator there may head a function
abbrev pub file_nest : FilePart → Nest
file_nest f = record (nest_at 0 f.deepest) { may_head = true }

abbrev pub nest_of : Stack → Nest
nest_of (bottom f) = file_nest f
nest_of (above f n k) = n

abbrev pub push : Frame → Stack → Stack
push f k = above f (inside f (nest_of k)) k
