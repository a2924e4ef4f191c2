-- Which frame and which stack of the reader's definition a value of the code's types is.
use Rattle.std.specs.Prelude.{List, [], ◌∷◌}
use Rattle.c_reading.specs.Frames as f
use Rattle.c_reading.specs.Parts as p
use Rattle.c_tree.specs.Shape.{assignment_of, binary_of, unary_of, step_of, composite_of, qualifiers_of, tag_of}
use Rattle.c_parts.specs.Views.{expr_part_of, arguments_part_of, type_part_of, specifiers_part_of, members_part_of, enumerators_part_of, declarator_part_of, declarators_part_of, abstract_part_of, parameters_part_of, inits_part_of, file_part_of, optional_part_of, for_first_part_of, labels_part_of, statement_part_of, items_part_of, groups_part_of}
use Rattle.c_frames.specs.declared.frame.SuffixedPart.{SuffixedPart}
use Rattle.c_frames.specs.declared.frame.SuffixedPart.TheVariants as suffixed
use Rattle.c_frames.specs.declared.frame.Frame.{Frame}
use Rattle.c_frames.specs.declared.frame.Frame.TheVariants as frame
use Rattle.c_frames.specs.Nests.{nest_of}
use Rattle.c_frames.specs.declared.frame.Entry.{Entry}
use Rattle.c_frames.specs.declared.stack.Stack.{Stack}

abbrev pub suffixed_of : SuffixedPart → f.SuffixedPart
suffixed_of (suffixed.Named d) = f.suffixed (declarator_part_of d)
suffixed_of (suffixed.Abstract a) = f.suffixed_abstract (abstract_part_of a)

abbrev pub frame_of : Frame → f.Frame
frame_of (frame.Step at step) = f.step_frame at (step_of step)
frame_of (frame.Unary at operator) = f.unary_frame at (unary_of operator)
frame_of (frame.Sizeof at) = f.sizeof_frame at
frame_of (frame.Cast at t) = f.cast_frame at (type_part_of t)
frame_of (frame.Binary left at operator) = f.binary_frame (expr_part_of left) at (binary_of operator)
frame_of (frame.Conditional condition at if_true) = f.conditional_frame (expr_part_of condition) at (expr_part_of if_true)
frame_of (frame.Assignment target at operator) = f.assignment_frame (expr_part_of target) at (assignment_of operator)
frame_of (frame.Parentheses at) = f.parentheses_frame at
frame_of (frame.Index array at) = f.index_frame (expr_part_of array) at
frame_of (frame.Argument callee at xs) = f.argument_frame (expr_part_of callee) at (arguments_part_of xs)
frame_of (frame.Middle condition at) = f.middle_frame (expr_part_of condition) at
frame_of (frame.Length x) = f.length_frame (suffixed_of x)
frame_of (frame.Enumerator es at name) = f.enumerator_frame (enumerators_part_of es) at name
frame_of frame.Expression = f.expression_frame
frame_of (frame.Return at) = f.return_frame at
frame_of (frame.If at) = f.if_frame at
frame_of (frame.While at) = f.while_frame at
frame_of (frame.Do at body) = f.do_frame at (statement_part_of body)
frame_of (frame.Switch at) = f.switch_frame at
frame_of (frame.ForFirst at) = f.for_first_frame at
frame_of (frame.ForTest at first) = f.for_test_frame at (for_first_part_of first)
frame_of (frame.ForStep at first condition) = f.for_step_frame at (for_first_part_of first) (optional_part_of condition)
frame_of (frame.Case at) = f.case_frame at
frame_of (frame.Initializer s ds d) = f.initializer_frame (specifiers_part_of s) (inits_part_of ds) (declarator_part_of d)
frame_of (frame.List at xs) = f.list_frame at (arguments_part_of xs)
frame_of (frame.Then at condition) = f.then_frame at (expr_part_of condition)
frame_of (frame.Else at condition if_true) = f.else_frame at (expr_part_of condition) (statement_part_of if_true)
frame_of (frame.WhileBody at condition) = f.while_body_frame at (expr_part_of condition)
frame_of (frame.DoBody at) = f.do_body_frame at
frame_of (frame.ForBody at first condition update) = f.for_body_frame at (for_first_part_of first) (optional_part_of condition) (optional_part_of update)
frame_of (frame.Block at items) = f.block_frame at (items_part_of items)
frame_of (frame.Function s d body_at items) = f.function_frame (specifiers_part_of s) (declarator_part_of d) body_at (items_part_of items)
frame_of (frame.Group groups labels items) = f.group_frame (groups_part_of groups) (labels_part_of labels) (items_part_of items)
frame_of (frame.Groups at selector) = f.groups_frame at (expr_part_of selector)
frame_of (frame.Label groups labels) = f.label_frame (groups_part_of groups) (labels_part_of labels)
frame_of (frame.ForHead at) = f.for_head_frame at
frame_of (frame.Members s at word tag body_at ms) = f.members_frame (specifiers_part_of s) at (composite_of word) (tag_of tag) body_at (members_part_of ms)
frame_of (frame.Enum s at tag body_at) = f.enum_frame (specifiers_part_of s) at (tag_of tag) body_at
frame_of (frame.Parameters x) = f.parameters_frame (suffixed_of x)
frame_of (frame.Parameter ps) = f.parameter_frame (parameters_part_of ps)
frame_of (frame.CastType at) = f.cast_type_frame at
frame_of (frame.SizeofType at) = f.sizeof_type_frame at
frame_of (frame.Init s ds) = f.init_frame (specifiers_part_of s) (inits_part_of ds)
frame_of (frame.Member s ds) = f.member_frame (specifiers_part_of s) (declarators_part_of ds)
frame_of (frame.ParameterOf s) = f.parameter_of_frame (specifiers_part_of s)
frame_of (frame.TypeName s) = f.type_name_frame (specifiers_part_of s)
frame_of (frame.Star qs) = f.star_frame (qualifiers_of qs.items)
frame_of frame.Open = f.open_frame

-- the frames of a stack, the last begun first, over the file
abbrev pub stacked : p.FilePart → List Entry → f.Stack
stacked file [] = f.bottom file
stacked file (e ∷ es) = f.above (frame_of e.frame) (nest_of e.nest) (stacked file es)

abbrev pub stack_of : Stack → f.Stack
stack_of k = stacked (file_part_of k.file) k.entries
