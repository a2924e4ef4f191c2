-- Which token and which reader of the definition a value of the code's types is.
use Rattle.std.specs.Prelude.{◌≡◌, List, Option, Result, IfOk}
use Rattle.std.specs.Option.{option_map}
use Rattle.tso_words.specs.declared.name.NoMemory.{NoMemory}
use Rattle.c_grammar.specs.Tokens as k
use Rattle.c_grammar.specs.Machine as g
use Rattle.c_reading.specs.Code as c
use Rattle.c_reading.specs.Frames as marks
use Rattle.c_reading.specs.Kinds.{kind_of, jump_of}
use Rattle.c_tree.specs.Shape.{access_of, composite_of}
use Rattle.c_parts.specs.Views.{expr_part_of, arguments_part_of, specifiers_part_of, enumerators_part_of, declarator_part_of, abstract_part_of, optional_part_of, for_first_part_of, statement_part_of}
use Rattle.c_frames.specs.Frames.{stack_of}
use Rattle.c_frames.specs.declared.token.Token.{Token}
use Rattle.c_frames.specs.declared.mode.Head.{Head}
use Rattle.c_frames.specs.declared.mode.Head.TheVariants as head
use Rattle.c_frames.specs.declared.mode.Mode.{Mode}
use Rattle.c_frames.specs.declared.mode.Mode.TheVariants as mode
use Rattle.c_frames.specs.declared.mode.Context.{Context}

abbrev pub token_of : Token → k.Token
token_of t = k.token (kind_of t.name t.kind) t.at

abbrev pub head_of : Head → g.Head
head_of head.If = g.if_head
head_of head.While = g.while_head
head_of head.Switch = g.switch_head

abbrev pub mode_of : Mode → c.Mode
mode_of mode.File = c.in_file
mode_of mode.Items = c.in_items
mode_of mode.Statement = c.in_statement
mode_of (mode.AfterStatement s) = c.after_statement (statement_part_of s)
mode_of mode.Labels = c.in_labels
mode_of (mode.AfterDefault at) = c.after_default at
mode_of (mode.Condition h at) = c.in_condition (head_of h) at
mode_of (mode.DoCondition at body) = c.in_do_condition at (statement_part_of body)
mode_of (mode.AfterDo at body condition) = c.after_do at (statement_part_of body) (expr_part_of condition)
mode_of (mode.For at) = c.in_for at
mode_of (mode.ForFirst at) = c.in_for_first at
mode_of (mode.ForTest at first) = c.in_for_test at (for_first_part_of first)
mode_of (mode.ForStep at first condition) = c.in_for_step at (for_first_part_of first) (optional_part_of condition)
mode_of (mode.SwitchBody at selector) = c.in_switch_body at (expr_part_of selector)
mode_of (mode.Jump at word) = c.in_jump at (jump_of word)
mode_of (mode.Return at) = c.in_return at
mode_of mode.Initializer = c.in_initializer
mode_of (mode.AfterListComma e) = c.after_list_comma (expr_part_of e)
mode_of (mode.AfterList at values) = c.after_list at (arguments_part_of values)
mode_of (mode.Specifiers s) = c.in_specifiers (specifiers_part_of s)
mode_of (mode.Composite s at word) = c.in_composite (specifiers_part_of s) at (composite_of word)
mode_of (mode.Enum s at) = c.in_enum (specifiers_part_of s) at
mode_of mode.Members = c.in_members
mode_of mode.Enumerator = c.in_enumerator
mode_of (mode.AfterEnumerator es at name) = c.after_enumerator (enumerators_part_of es) at name
mode_of (mode.AfterEnumeratorComma es) = c.after_enumerator_comma (enumerators_part_of es)
mode_of mode.Declarator = c.in_declarator
mode_of (mode.AfterDeclarator d) = c.after_declarator (declarator_part_of d)
mode_of mode.Abstract = c.in_abstract
mode_of mode.Opened = c.in_opened
mode_of (mode.AfterAbstract a) = c.after_abstract (abstract_part_of a)
mode_of mode.Length = c.in_length
mode_of mode.Parameters = c.in_parameters
mode_of mode.Expression = c.in_expression
mode_of (mode.AfterPostfix e) = c.after_postfix (expr_part_of e)
mode_of (mode.AfterSizeof e) = c.after_sizeof (expr_part_of e)
mode_of (mode.Open at) = c.in_open at
mode_of (mode.Sizeof at) = c.in_sizeof at
mode_of (mode.SizeofOpen at paren_at) = c.in_sizeof_open at paren_at
mode_of (mode.Arguments callee at) = c.in_arguments (expr_part_of callee) at
mode_of (mode.Access object at access) = c.in_access (expr_part_of object) at (access_of access)

-- the reader of a mode, over what was read apart from it
abbrev pub reader_of : Mode → Context → c.Reader
reader_of m context = c.made (mode_of m) (stack_of context.stack) context.names

-- the reader of the next mode over a stack and names, or none where there is no next mode
abbrev pub reached : Option Mode → marks.Stack → List k.Identifier → Option c.Reader
reached next stack names = option_map (λ m. c.made (mode_of m) stack names) next

-- whether there was no memory, or the next mode over what was read, as it is then, is the state of the definition, and there is none where the definition has none
abbrev pub Moves : Result (Option Mode) NoMemory → Context → Option c.Reader → Type 0
Moves result context expected = IfOk result (λ next. reached next (stack_of context.stack) context.names ≡ expected)
