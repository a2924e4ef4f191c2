-- Behind an expression that may be an operand, by what stands before.
use Rattle.std.proofs.Common.{◌≡◌, ℕ, true, false, cond, nat_le, ◌<◌, ◌≤◌, Option, Some, None, List, refl, sym, ap, ◌∙◌}
use Rattle.std.proofs.lemmas.Bool.{le-leb, lt-leb}
use Rattle.c_grammar.specs.Tokens.{Identifier, Token}
use Rattle.c_reading.specs.Parts.{ExprPart}
use Rattle.c_reading.specs.Frames.{Frame, step_frame, unary_frame, sizeof_frame, cast_frame, binary_frame, conditional_frame, assignment_frame, Nest, Stack, bottom, above}
use Rattle.c_reading.specs.Code.{Reader, binds_of, frame_need, need_of, is_bottom, on_operator, on_hole, on_expression}
use Rattle.c_states.specs.Joining.{whole_behind}

-- what an expression behind a frame goes on as
goes_on : Option ExprPart → Frame → ExprPart → Stack → List Identifier → Token → Option Reader
goes_on (Some w) f e k ns t = on_expression w k ns t
goes_on None f e k ns t = on_hole f e k ns t

expression_on : (f : Frame) (e : ExprPart) (n : Nest) (k : Stack) (ns : List Identifier) (t : Token) → on_expression e (above f n k) ns t ≡ cond (nat_le (frame_need f) (binds_of t)) (on_operator e (above f n k) ns t) (goes_on (whole_behind f e) f e k ns t)
unfolding goes_on
expression_on (step_frame a b) e n k ns t = refl
expression_on (unary_frame a b) e n k ns t = refl
expression_on (sizeof_frame a) e n k ns t = refl
expression_on (cast_frame a b) e n k ns t = refl
expression_on (binary_frame a b c) e n k ns t = refl
expression_on (conditional_frame a b c) e n k ns t = refl
expression_on (assignment_frame a b c) e n k ns t = refl
expression_on f e n k ns t = refl

loose_at : (f : Frame) (n : Nest) (k s : Stack) (t : Token) (need bound : ℕ) → s ≡ above f n k → need ≡ need_of s → bound ≡ binds_of t → bound < need → nat_le (frame_need f) (binds_of t) ≡ false
loose_at f n k s t need bound is needs binds loose =
    ap (λ x. nat_le x (binds_of t)) (sym (needs ∙ ap need_of is)) ∙ (ap (nat_le need) (sym binds) ∙ lt-leb need bound loose)

pub whole_on : (f : Frame) (e w : ExprPart) (n : Nest) (k s : Stack) (ns : List Identifier) (t : Token) (need bound : ℕ) → s ≡ above f n k → need ≡ need_of s → bound ≡ binds_of t → bound < need → whole_behind f e ≡ Some w → on_expression e s ns t ≡ on_expression w k ns t
unfolding goes_on
whole_on f e w n k s ns t need bound is needs binds loose made =
    ap (λ a. on_expression e a ns t) is ∙ (expression_on f e n k ns t ∙ (ap (λ b. cond b (on_operator e (above f n k) ns t) (goes_on (whole_behind f e) f e k ns t)) (loose_at f n k s t need bound is needs binds loose) ∙ ap (λ o. goes_on o f e k ns t) made))

pub apart_on : (f : Frame) (e : ExprPart) (n : Nest) (k s : Stack) (ns : List Identifier) (t : Token) (need bound : ℕ) → s ≡ above f n k → need ≡ need_of s → bound ≡ binds_of t → bound < need → whole_behind f e ≡ None → on_expression e s ns t ≡ on_hole f e k ns t
unfolding goes_on
apart_on f e n k s ns t need bound is needs binds loose none =
    ap (λ a. on_expression e a ns t) is ∙ (expression_on f e n k ns t ∙ (ap (λ b. cond b (on_operator e (above f n k) ns t) (goes_on (whole_behind f e) f e k ns t)) (loose_at f n k s t need bound is needs binds loose) ∙ ap (λ o. goes_on o f e k ns t) none))

pub operator_on : (e : ExprPart) (s : Stack) (ns : List Identifier) (t : Token) (need bound : ℕ) → false ≡ is_bottom s → need ≡ need_of s → bound ≡ binds_of t → need ≤ bound → on_expression e s ns t ≡ on_operator e s ns t
unfolding goes_on
operator_on e (bottom f) ns t need bound ended needs binds tight = cc
operator_on e (above f n k) ns t need bound ended needs binds tight =
    let closed : nat_le (frame_need f) (binds_of t) ≡ true = ap (λ x. nat_le x (binds_of t)) (sym needs) ∙ (ap (nat_le need) (sym binds) ∙ le-leb need bound tight) in
    expression_on f e n k ns t ∙ ap (λ b. cond b (on_operator e (above f n k) ns t) (goes_on (whole_behind f e) f e k ns t)) closed

pub bottom_on : (e : ExprPart) (s : Stack) (ns : List Identifier) (t : Token) → true ≡ is_bottom s → on_expression e s ns t ≡ None
bottom_on e (bottom f) ns t ended = refl
bottom_on e (above f n k) ns t ended = cc
