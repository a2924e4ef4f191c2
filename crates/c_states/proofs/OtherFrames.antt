-- Behind a frame of another kind than those that are wanted, no file goes on.
use Rattle.std.proofs.Common.{◌≡◌, ℕ, false, List, Option, None, refl}
use Rattle.std.specs.Prelude.{Vec}
use Rattle.std.specs.declared.alloc.Global.{Global}
use Rattle.c_grammar.specs.Tokens.{Identifier, Token}
use Rattle.c_reading.specs.Parts as p
use Rattle.c_reading.specs.Frames as marks
use Rattle.c_reading.specs.Code as code
use Rattle.c_frames.specs.Frames.{frame_of}
use Rattle.c_frames.specs.declared.frame.Frame.{Frame}
use Rattle.c_frames.specs.declared.frame.Frame.TheVariants as frame
use Rattle.c_states.specs.Holes.{is_in_expression, is_star}
use Rattle.c_states.specs.Joining.{whole_behind}
use Rattle.c_tree.specs.declared.expr.Tag.{Tag}
use Rattle.c_parts.specs.declared.expr.ExprPart.{ExprPart}
use Rattle.c_parts.specs.declared.expr.ArgumentsPart.{ArgumentsPart}
use Rattle.c_parts.specs.declared.expr.TypePart.{TypePart}
use Rattle.c_parts.specs.declared.specifiers.SpecifiersPart.{SpecifiersPart}
use Rattle.c_parts.specs.declared.specifiers.MembersPart.{MembersPart}
use Rattle.c_parts.specs.declared.specifiers.EnumeratorsPart.{EnumeratorsPart}
use Rattle.c_parts.specs.declared.declarator.DeclaratorPart.{DeclaratorPart}
use Rattle.c_parts.specs.declared.declarator.DeclaratorsPart.{DeclaratorsPart}
use Rattle.c_parts.specs.declared.declarator.ParametersPart.{ParametersPart}
use Rattle.c_parts.specs.declared.declaration.InitsPart.{InitsPart}
use Rattle.c_parts.specs.declared.statement.ForFirstPart.{ForFirstPart}
use Rattle.c_parts.specs.declared.statement.OptionalPart.{OptionalPart}
use Rattle.c_parts.specs.declared.statement.StatementPart.{StatementPart}
use Rattle.c_tree.specs.declared.word.CompositeWord.{CompositeWord}
use Rattle.c_tree.specs.declared.word.Increment.{Increment}
use Rattle.c_tree.specs.declared.word.UnaryOperator.{UnaryOperator}
use Rattle.c_tree.specs.declared.word.BinaryOperator.{BinaryOperator}
use Rattle.c_tree.specs.declared.word.AssignmentOperator.{AssignmentOperator}
use Rattle.c_tree.specs.declared.word.Qualifier.{Qualifier}
use Rattle.c_frames.specs.declared.frame.SuffixedPart.{SuffixedPart}

pub no_length : (f : Frame) (n : marks.Nest) (k : marks.Stack) (ns : List Identifier) → ((x : SuffixedPart) → f ≡ frame.Length x → ⊥) → None ≡ code.no_length_end (marks.above (frame_of f) n k) ns
no_length (frame.Length x) n k ns not_length = absurd (not_length x refl)
no_length f n k ns not_length = refl

pub no_members : (f : Frame) (n : marks.Nest) (k : marks.Stack) (ns : List Identifier) → ((s : SpecifiersPart) (at : ℕ) (word : CompositeWord) (tag : Option Tag) (body_at : ℕ) (ms : MembersPart) → f ≡ frame.Members s at word tag body_at ms → ⊥) → None ≡ code.members_end (marks.above (frame_of f) n k) ns
no_members (frame.Members s at word tag body_at ms) n k ns not_members = absurd (not_members s at word tag body_at ms refl)
no_members f n k ns not_members = refl

pub no_members_more : (ss : p.SpecifiersPart) (more : p.DeclaratorsPart) (f : Frame) (n : marks.Nest) (k : marks.Stack) (ns : List Identifier) → ((s : SpecifiersPart) (at : ℕ) (word : CompositeWord) (tag : Option Tag) (body_at : ℕ) (ms : MembersPart) → f ≡ frame.Members s at word tag body_at ms → ⊥) → None ≡ code.members_more ss more (marks.above (frame_of f) n k) ns
no_members_more ss more (frame.Members s at word tag body_at ms) n k ns not_members = absurd (not_members s at word tag body_at ms refl)
no_members_more ss more f n k ns not_members = refl

pub no_abstract_parameter : (ss : p.SpecifiersPart) (nameless : p.AbstractPart) (f : Frame) (n : marks.Nest) (k : marks.Stack) (ns : List Identifier) (t : Token) → ((ps : ParametersPart) → f ≡ frame.Parameter ps → ⊥) → None ≡ code.on_abstract_parameter ss nameless (marks.above (frame_of f) n k) ns t
no_abstract_parameter ss nameless (frame.Parameter ps) n k ns t not_parameter = absurd (not_parameter ps refl)
no_abstract_parameter ss nameless f n k ns t not_parameter = refl

pub no_named_parameter : (ss : p.SpecifiersPart) (named : p.DeclaratorPart) (f : Frame) (n : marks.Nest) (k : marks.Stack) (ns : List Identifier) (t : Token) → ((ps : ParametersPart) → f ≡ frame.Parameter ps → ⊥) → None ≡ code.on_named_parameter ss named (marks.above (frame_of f) n k) ns t
no_named_parameter ss named (frame.Parameter ps) n k ns t not_parameter = absurd (not_parameter ps refl)
no_named_parameter ss named f n k ns t not_parameter = refl

pub no_type_named : (whole : p.TypePart) (f : Frame) (n : marks.Nest) (k : marks.Stack) (ns : List Identifier) → ((at : ℕ) → f ≡ frame.CastType at → ⊥) → ((at : ℕ) → f ≡ frame.SizeofType at → ⊥) → None ≡ code.type_named whole (marks.above (frame_of f) n k) ns
no_type_named whole (frame.CastType at) n k ns not_cast_type not_sizeof_type = absurd (not_cast_type at refl)
no_type_named whole (frame.SizeofType at) n k ns not_cast_type not_sizeof_type = absurd (not_sizeof_type at refl)
no_type_named whole f n k ns not_cast_type not_sizeof_type = refl

pub no_abstract_end : (nameless : p.AbstractPart) (f : Frame) (n : marks.Nest) (k : marks.Stack) (ns : List Identifier) (t : Token) → is_star (frame_of f) ≡ false → ((s : SpecifiersPart) → f ≡ frame.ParameterOf s → ⊥) → ((s : SpecifiersPart) → f ≡ frame.TypeName s → ⊥) → (f ≡ frame.Open → ⊥) → None ≡ code.climb_abstract nameless (marks.above (frame_of f) n k) ns t
no_abstract_end nameless (frame.Star qs) n k ns t starless not_parameter_of not_type_name not_open = cc
no_abstract_end nameless (frame.ParameterOf s) n k ns t starless not_parameter_of not_type_name not_open = absurd (not_parameter_of s refl)
no_abstract_end nameless (frame.TypeName s) n k ns t starless not_parameter_of not_type_name not_open = absurd (not_type_name s refl)
no_abstract_end nameless frame.Open n k ns t starless not_parameter_of not_type_name not_open = absurd (not_open refl)
no_abstract_end nameless f n k ns t starless not_parameter_of not_type_name not_open = refl

pub no_declarator_end : (named : p.DeclaratorPart) (f : Frame) (n : marks.Nest) (k : marks.Stack) (ns : List Identifier) (t : Token) → is_star (frame_of f) ≡ false → ((s : SpecifiersPart) (inits : InitsPart) → f ≡ frame.Init s inits → ⊥) → ((s : SpecifiersPart) (ds : DeclaratorsPart) → f ≡ frame.Member s ds → ⊥) → ((s : SpecifiersPart) → f ≡ frame.ParameterOf s → ⊥) → (f ≡ frame.Open → ⊥) → None ≡ code.climb named (marks.above (frame_of f) n k) ns t
no_declarator_end named (frame.Star qs) n k ns t starless not_init not_member not_parameter_of not_open = cc
no_declarator_end named (frame.Init s inits) n k ns t starless not_init not_member not_parameter_of not_open = absurd (not_init s inits refl)
no_declarator_end named (frame.Member s ds) n k ns t starless not_init not_member not_parameter_of not_open = absurd (not_member s ds refl)
no_declarator_end named (frame.ParameterOf s) n k ns t starless not_init not_member not_parameter_of not_open = absurd (not_parameter_of s refl)
no_declarator_end named frame.Open n k ns t starless not_init not_member not_parameter_of not_open = absurd (not_open refl)
no_declarator_end named f n k ns t starless not_init not_member not_parameter_of not_open = refl

pub no_star : (f : Frame) → ((qs : Vec Qualifier Global) → f ≡ frame.Star qs → ⊥) → is_star (frame_of f) ≡ false
no_star (frame.Star qs) not_star = absurd (not_star qs refl)
no_star f not_star = refl

pub no_whole : (last : p.ExprPart) (f : Frame) → ((at : ℕ) (step : Increment) → f ≡ frame.Step at step → ⊥) → ((at : ℕ) (unary : UnaryOperator) → f ≡ frame.Unary at unary → ⊥) → ((at : ℕ) → f ≡ frame.Sizeof at → ⊥) → ((at : ℕ) (t : TypePart) → f ≡ frame.Cast at t → ⊥) → ((e : ExprPart) (at : ℕ) (binary : BinaryOperator) → f ≡ frame.Binary e at binary → ⊥) → ((e : ExprPart) (at : ℕ) (a : ExprPart) → f ≡ frame.Conditional e at a → ⊥) → ((e : ExprPart) (at : ℕ) (assignment : AssignmentOperator) → f ≡ frame.Assignment e at assignment → ⊥) → whole_behind (frame_of f) last ≡ None
no_whole last (frame.Step at step) not_step not_unary not_sizeof not_cast not_binary not_conditional not_assignment = absurd (not_step at step refl)
no_whole last (frame.Unary at unary) not_step not_unary not_sizeof not_cast not_binary not_conditional not_assignment = absurd (not_unary at unary refl)
no_whole last (frame.Sizeof at) not_step not_unary not_sizeof not_cast not_binary not_conditional not_assignment = absurd (not_sizeof at refl)
no_whole last (frame.Cast at t) not_step not_unary not_sizeof not_cast not_binary not_conditional not_assignment = absurd (not_cast at t refl)
no_whole last (frame.Binary e at binary) not_step not_unary not_sizeof not_cast not_binary not_conditional not_assignment = absurd (not_binary e at binary refl)
no_whole last (frame.Conditional e at a) not_step not_unary not_sizeof not_cast not_binary not_conditional not_assignment = absurd (not_conditional e at a refl)
no_whole last (frame.Assignment e at assignment) not_step not_unary not_sizeof not_cast not_binary not_conditional not_assignment = absurd (not_assignment e at assignment refl)
no_whole last f not_step not_unary not_sizeof not_cast not_binary not_conditional not_assignment = refl

pub no_expression : (f : Frame) → ((at : ℕ) → f ≡ frame.Parentheses at → ⊥) → ((e : ExprPart) (at : ℕ) → f ≡ frame.Index e at → ⊥) → ((e : ExprPart) (at : ℕ) (xs : ArgumentsPart) → f ≡ frame.Argument e at xs → ⊥) → ((e : ExprPart) (at : ℕ) → f ≡ frame.Middle e at → ⊥) → ((x : SuffixedPart) → f ≡ frame.Length x → ⊥) → ((es : EnumeratorsPart) (at : ℕ) (name : List ℕ) → f ≡ frame.Enumerator es at name → ⊥) → ((at : ℕ) → f ≡ frame.Case at → ⊥) → ((s : SpecifiersPart) (inits : InitsPart) (d : DeclaratorPart) → f ≡ frame.Initializer s inits d → ⊥) → ((at : ℕ) (xs : ArgumentsPart) → f ≡ frame.List at xs → ⊥) → is_in_expression (frame_of f) ≡ false
no_expression (frame.Parentheses at) not_parentheses not_index not_argument not_middle not_length not_enumerator not_case not_initializer not_list = absurd (not_parentheses at refl)
no_expression (frame.Index e at) not_parentheses not_index not_argument not_middle not_length not_enumerator not_case not_initializer not_list = absurd (not_index e at refl)
no_expression (frame.Argument e at xs) not_parentheses not_index not_argument not_middle not_length not_enumerator not_case not_initializer not_list = absurd (not_argument e at xs refl)
no_expression (frame.Middle e at) not_parentheses not_index not_argument not_middle not_length not_enumerator not_case not_initializer not_list = absurd (not_middle e at refl)
no_expression (frame.Length x) not_parentheses not_index not_argument not_middle not_length not_enumerator not_case not_initializer not_list = absurd (not_length x refl)
no_expression (frame.Enumerator es at name) not_parentheses not_index not_argument not_middle not_length not_enumerator not_case not_initializer not_list = absurd (not_enumerator es at name refl)
no_expression (frame.Case at) not_parentheses not_index not_argument not_middle not_length not_enumerator not_case not_initializer not_list = absurd (not_case at refl)
no_expression (frame.Initializer s inits d) not_parentheses not_index not_argument not_middle not_length not_enumerator not_case not_initializer not_list = absurd (not_initializer s inits d refl)
no_expression (frame.List at xs) not_parentheses not_index not_argument not_middle not_length not_enumerator not_case not_initializer not_list = absurd (not_list at xs refl)
no_expression f not_parentheses not_index not_argument not_middle not_length not_enumerator not_case not_initializer not_list = refl

pub no_statement : (last : p.ExprPart) (f : Frame) (k : marks.Stack) (ns : List Identifier) (t : Token) → is_in_expression (frame_of f) ≡ false → (f ≡ frame.Expression → ⊥) → ((at : ℕ) → f ≡ frame.Return at → ⊥) → ((at : ℕ) → f ≡ frame.If at → ⊥) → ((at : ℕ) → f ≡ frame.While at → ⊥) → ((at : ℕ) (body : StatementPart) → f ≡ frame.Do at body → ⊥) → ((at : ℕ) → f ≡ frame.Switch at → ⊥) → ((at : ℕ) → f ≡ frame.ForFirst at → ⊥) → ((at : ℕ) (first : ForFirstPart) → f ≡ frame.ForTest at first → ⊥) → ((at : ℕ) (first : ForFirstPart) (condition : OptionalPart) → f ≡ frame.ForStep at first condition → ⊥) → None ≡ code.on_hole (frame_of f) last k ns t
no_statement last (frame.Parentheses at) k ns t apart not_expression not_return not_if not_while not_do not_switch not_for_first not_for_test not_for_step = cc
no_statement last (frame.Index e at) k ns t apart not_expression not_return not_if not_while not_do not_switch not_for_first not_for_test not_for_step = cc
no_statement last (frame.Argument e at xs) k ns t apart not_expression not_return not_if not_while not_do not_switch not_for_first not_for_test not_for_step = cc
no_statement last (frame.Middle e at) k ns t apart not_expression not_return not_if not_while not_do not_switch not_for_first not_for_test not_for_step = cc
no_statement last (frame.Length x) k ns t apart not_expression not_return not_if not_while not_do not_switch not_for_first not_for_test not_for_step = cc
no_statement last (frame.Enumerator es at name) k ns t apart not_expression not_return not_if not_while not_do not_switch not_for_first not_for_test not_for_step = cc
no_statement last (frame.Case at) k ns t apart not_expression not_return not_if not_while not_do not_switch not_for_first not_for_test not_for_step = cc
no_statement last (frame.Initializer s inits d) k ns t apart not_expression not_return not_if not_while not_do not_switch not_for_first not_for_test not_for_step = cc
no_statement last (frame.List at xs) k ns t apart not_expression not_return not_if not_while not_do not_switch not_for_first not_for_test not_for_step = cc
no_statement last frame.Expression k ns t apart not_expression not_return not_if not_while not_do not_switch not_for_first not_for_test not_for_step = absurd (not_expression refl)
no_statement last (frame.Return at) k ns t apart not_expression not_return not_if not_while not_do not_switch not_for_first not_for_test not_for_step = absurd (not_return at refl)
no_statement last (frame.If at) k ns t apart not_expression not_return not_if not_while not_do not_switch not_for_first not_for_test not_for_step = absurd (not_if at refl)
no_statement last (frame.While at) k ns t apart not_expression not_return not_if not_while not_do not_switch not_for_first not_for_test not_for_step = absurd (not_while at refl)
no_statement last (frame.Do at body) k ns t apart not_expression not_return not_if not_while not_do not_switch not_for_first not_for_test not_for_step = absurd (not_do at body refl)
no_statement last (frame.Switch at) k ns t apart not_expression not_return not_if not_while not_do not_switch not_for_first not_for_test not_for_step = absurd (not_switch at refl)
no_statement last (frame.ForFirst at) k ns t apart not_expression not_return not_if not_while not_do not_switch not_for_first not_for_test not_for_step = absurd (not_for_first at refl)
no_statement last (frame.ForTest at first) k ns t apart not_expression not_return not_if not_while not_do not_switch not_for_first not_for_test not_for_step = absurd (not_for_test at first refl)
no_statement last (frame.ForStep at first condition) k ns t apart not_expression not_return not_if not_while not_do not_switch not_for_first not_for_test not_for_step = absurd (not_for_step at first condition refl)
no_statement last f k ns t apart not_expression not_return not_if not_while not_do not_switch not_for_first not_for_test not_for_step = refl
