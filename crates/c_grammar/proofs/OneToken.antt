-- What one token does in each state.
use Rattle.std.proofs.Common.{◌≡◌, Bool, true, false, cond, List, ◌∷◌, Option, Some, refl, ap}
use Rattle.c_grammar.specs.Tokens.{Identifier, Place, Access, CompositeWord, Jump, Token}
use Rattle.c_grammar.specs.Derivations.{Trailing, Expression, Arguments, Specifiers, Members, Enumerator, Enumerators, Declarator, AbstractDeclarator, ForFirst, Statement, Items, File}
use Rattle.c_grammar.specs.Contexts.{StatementContext, ItemsContext, GroupsContext, LabelContext, InitializerContext, Chain, ExpressionContext, Suffixed, SpecifiersContext, CompositeContext, EnumContext, DeclaratorContext, AbstractContext}
use Rattle.c_grammar.specs.Machine.{Head, State, at_file, at_items, at_statement, after_statement, at_labels, after_default, at_condition, at_do_condition, after_do, at_for, at_for_first, at_for_test, at_for_step, at_switch_body, at_jump, at_return, at_initializer, at_list_comma, after_list, at_specifiers, at_composite, at_enum, at_members, at_enumerator, after_enumerator, after_enumerator_comma, at_declarator, after_declarator, at_abstract, at_opened, after_abstract, at_length, at_parameters, at_expression, after_postfix, after_sizeof, at_open, at_sizeof, at_sizeof_open, at_arguments, at_access, on_after_list, on_expression, on_postfix, on_operand, on_specifiers, on_composite, on_enum, on_members, on_enumerator, on_after_enumerator, on_enumerator_comma, on_starred, on_starred_abstract, on_direct, on_direct_abstract, on_length, on_parameters, on_opened, on_open, on_sizeof, on_sizeof_open, on_arguments, on_access, on_initializer, on_list_comma, on_statement, on_items, on_after, on_labels, on_after_default, on_condition, on_do_condition, on_after_do, on_for, on_for_first, on_for_test, on_for_step, on_switch_body, on_jump, on_return, on_file, feed, go}
use Rattle.c_grammar.proofs.Steps.{cond_true, cond_false}

-- the chosen side of a test
pub then_go : (b : Bool) (x y : Option State) (ts : List Token) → b ≡ true → go (cond b x y) ts ≡ go x ts
then_go b x y ts h = ap (λ o. go o ts) (cond_true b x y h)

pub else_go : (b : Bool) (x y : Option State) (ts : List Token) → b ≡ false → go (cond b x y) ts ≡ go y ts
else_go b x y ts h = ap (λ o. go o ts) (cond_false b x y h)

pub read_file : (f : File) (t : Token) (ts : List Token) → go (Some (at_file f)) (t ∷ ts) ≡ go (on_file f t) ts
unfolding go feed
read_file f t ts = refl

pub read_items : (is : Items) (k : ItemsContext) (t : Token) (ts : List Token) → go (Some (at_items is k)) (t ∷ ts) ≡ go (on_items is k t) ts
unfolding go feed
read_items is k t ts = refl

pub read_statement : (k : StatementContext) (t : Token) (ts : List Token) → go (Some (at_statement k)) (t ∷ ts) ≡ go (on_statement k t) ts
unfolding go feed
read_statement k t ts = refl

pub read_after : (s : Statement) (k : StatementContext) (t : Token) (ts : List Token) → go (Some (after_statement s k)) (t ∷ ts) ≡ go (on_after s k t) ts
unfolding go feed
read_after s k t ts = refl

pub read_labels : (k : GroupsContext) (t : Token) (ts : List Token) → go (Some (at_labels k)) (t ∷ ts) ≡ go (on_labels k t) ts
unfolding go feed
read_labels k t ts = refl

pub read_after_default : (k : LabelContext) (p : Place) (t : Token) (ts : List Token) → go (Some (after_default k p)) (t ∷ ts) ≡ go (on_after_default k p t) ts
unfolding go feed
read_after_default k p t ts = refl

pub read_condition : (h : Head) (p : Place) (k : StatementContext) (t : Token) (ts : List Token) → go (Some (at_condition h p k)) (t ∷ ts) ≡ go (on_condition h p k t) ts
unfolding go feed
read_condition h p k t ts = refl

pub read_do_condition : (p : Place) (s : Statement) (w : Place) (k : StatementContext) (t : Token) (ts : List Token) → go (Some (at_do_condition p s w k)) (t ∷ ts) ≡ go (on_do_condition p s w k t) ts
unfolding go feed
read_do_condition p s w k t ts = refl

pub read_after_do : (p : Place) (s : Statement) (w : Place) (q : Place) (e : Expression) (l : Place) (k : StatementContext) (t : Token) (ts : List Token) → go (Some (after_do p s w q e l k)) (t ∷ ts) ≡ go (on_after_do p s w q e l k t) ts
unfolding go feed
read_after_do p s w q e l k t ts = refl

pub read_for : (p : Place) (k : StatementContext) (t : Token) (ts : List Token) → go (Some (at_for p k)) (t ∷ ts) ≡ go (on_for p k t) ts
unfolding go feed
read_for p k t ts = refl

pub read_for_first : (p : Place) (q : Place) (k : StatementContext) (t : Token) (ts : List Token) → go (Some (at_for_first p q k)) (t ∷ ts) ≡ go (on_for_first p q k t) ts
unfolding go feed
read_for_first p q k t ts = refl

pub read_for_test : (p : Place) (q : Place) (f : ForFirst) (k : StatementContext) (t : Token) (ts : List Token) → go (Some (at_for_test p q f k)) (t ∷ ts) ≡ go (on_for_test p q f k t) ts
unfolding go feed
read_for_test p q f k t ts = refl

pub read_for_step : (p : Place) (q : Place) (f : ForFirst) (c : Option Expression) (m : Place) (k : StatementContext) (t : Token) (ts : List Token) → go (Some (at_for_step p q f c m k)) (t ∷ ts) ≡ go (on_for_step p q f c m k t) ts
unfolding go feed
read_for_step p q f c m k t ts = refl

pub read_switch_body : (p : Place) (q : Place) (e : Expression) (l : Place) (k : StatementContext) (t : Token) (ts : List Token) → go (Some (at_switch_body p q e l k)) (t ∷ ts) ≡ go (on_switch_body p q e l k t) ts
unfolding go feed
read_switch_body p q e l k t ts = refl

pub read_jump : (p : Place) (j : Jump) (k : StatementContext) (t : Token) (ts : List Token) → go (Some (at_jump p j k)) (t ∷ ts) ≡ go (on_jump p j k t) ts
unfolding go feed
read_jump p j k t ts = refl

pub read_return : (p : Place) (k : StatementContext) (t : Token) (ts : List Token) → go (Some (at_return p k)) (t ∷ ts) ≡ go (on_return p k t) ts
unfolding go feed
read_return p k t ts = refl

pub read_initializer : (k : InitializerContext) (t : Token) (ts : List Token) → go (Some (at_initializer k)) (t ∷ ts) ≡ go (on_initializer k t) ts
unfolding go feed
read_initializer k t ts = refl

pub read_list_comma : (k : InitializerContext) (p : Place) (xs : Arguments) (e : Expression) (q : Place) (t : Token) (ts : List Token) → go (Some (at_list_comma k p xs e q)) (t ∷ ts) ≡ go (on_list_comma k p xs e q t) ts
unfolding go feed
read_list_comma k p xs e q t ts = refl

pub read_after_list : (k : InitializerContext) (p : Place) (xs : Arguments) (e : Expression) (c : Trailing) (l : Place) (t : Token) (ts : List Token) → go (Some (after_list k p xs e c l)) (t ∷ ts) ≡ go (on_after_list k p xs e c l t) ts
unfolding go feed
read_after_list k p xs e c l t ts = refl

pub read_specifiers : (s : Specifiers) (k : SpecifiersContext) (t : Token) (ts : List Token) → go (Some (at_specifiers s k)) (t ∷ ts) ≡ go (on_specifiers s k t) ts
unfolding go feed
read_specifiers s k t ts = refl

pub read_composite : (s : Specifiers) (p : Place) (w : CompositeWord) (k : SpecifiersContext) (t : Token) (ts : List Token) → go (Some (at_composite s p w k)) (t ∷ ts) ≡ go (on_composite s p w k t) ts
unfolding go feed
read_composite s p w k t ts = refl

pub read_enum : (s : Specifiers) (p : Place) (k : SpecifiersContext) (t : Token) (ts : List Token) → go (Some (at_enum s p k)) (t ∷ ts) ≡ go (on_enum s p k t) ts
unfolding go feed
read_enum s p k t ts = refl

pub read_members : (ms : Members) (k : CompositeContext) (t : Token) (ts : List Token) → go (Some (at_members ms k)) (t ∷ ts) ≡ go (on_members ms k t) ts
unfolding go feed
read_members ms k t ts = refl

pub read_enumerator : (k : EnumContext) (t : Token) (ts : List Token) → go (Some (at_enumerator k)) (t ∷ ts) ≡ go (on_enumerator k t) ts
unfolding go feed
read_enumerator k t ts = refl

pub read_after_enumerator : (es : Enumerators) (p : Place) (x : Identifier) (k : EnumContext) (t : Token) (ts : List Token) → go (Some (after_enumerator es p x k)) (t ∷ ts) ≡ go (on_after_enumerator es p x k t) ts
unfolding go feed
read_after_enumerator es p x k t ts = refl

pub read_enumerator_comma : (es : Enumerators) (e : Enumerator) (p : Place) (k : EnumContext) (t : Token) (ts : List Token) → go (Some (after_enumerator_comma es e p k)) (t ∷ ts) ≡ go (on_enumerator_comma es e p k t) ts
unfolding go feed
read_enumerator_comma es e p k t ts = refl

pub read_declarator : (c : Chain) (k : DeclaratorContext) (t : Token) (ts : List Token) → go (Some (at_declarator c k)) (t ∷ ts) ≡ go (on_starred c k t) ts
unfolding go feed
read_declarator c k t ts = refl

pub read_direct : (d : Declarator) (c : Chain) (k : DeclaratorContext) (t : Token) (ts : List Token) → go (Some (after_declarator d c k)) (t ∷ ts) ≡ go (on_direct d c k t) ts
unfolding go feed
read_direct d c k t ts = refl

pub read_abstract : (c : Chain) (k : AbstractContext) (t : Token) (ts : List Token) → go (Some (at_abstract c k)) (t ∷ ts) ≡ go (on_starred_abstract c k t) ts
unfolding go feed
read_abstract c k t ts = refl

pub read_opened : (c : Chain) (p : Place) (k : AbstractContext) (t : Token) (ts : List Token) → go (Some (at_opened c p k)) (t ∷ ts) ≡ go (on_opened c p k t) ts
unfolding go feed
read_opened c p k t ts = refl

pub read_direct_abstract : (a : AbstractDeclarator) (c : Chain) (k : AbstractContext) (t : Token) (ts : List Token) → go (Some (after_abstract a c k)) (t ∷ ts) ≡ go (on_direct_abstract a c k t) ts
unfolding go feed
read_direct_abstract a c k t ts = refl

pub read_length : (k : Suffixed) (p : Place) (t : Token) (ts : List Token) → go (Some (at_length k p)) (t ∷ ts) ≡ go (on_length k p t) ts
unfolding go feed
read_length k p t ts = refl

pub read_parameters : (k : Suffixed) (p : Place) (t : Token) (ts : List Token) → go (Some (at_parameters k p)) (t ∷ ts) ≡ go (on_parameters k p t) ts
unfolding go feed
read_parameters k p t ts = refl

pub read_expression : (k : ExpressionContext) (t : Token) (ts : List Token) → go (Some (at_expression k)) (t ∷ ts) ≡ go (on_operand k t) ts
unfolding go feed
read_expression k t ts = refl

pub read_postfix : (e : Expression) (k : ExpressionContext) (t : Token) (ts : List Token) → go (Some (after_postfix e k)) (t ∷ ts) ≡ go (on_postfix e k t) ts
unfolding go feed
read_postfix e k t ts = refl

pub read_after_sizeof : (e : Expression) (k : ExpressionContext) (t : Token) (ts : List Token) → go (Some (after_sizeof e k)) (t ∷ ts) ≡ go (on_expression e k t) ts
unfolding go feed
read_after_sizeof e k t ts = refl

pub read_open : (p : Place) (k : ExpressionContext) (t : Token) (ts : List Token) → go (Some (at_open p k)) (t ∷ ts) ≡ go (on_open p k t) ts
unfolding go feed
read_open p k t ts = refl

pub read_sizeof : (p : Place) (k : ExpressionContext) (t : Token) (ts : List Token) → go (Some (at_sizeof p k)) (t ∷ ts) ≡ go (on_sizeof p k t) ts
unfolding go feed
read_sizeof p k t ts = refl

pub read_sizeof_open : (p : Place) (q : Place) (k : ExpressionContext) (t : Token) (ts : List Token) → go (Some (at_sizeof_open p q k)) (t ∷ ts) ≡ go (on_sizeof_open p q k t) ts
unfolding go feed
read_sizeof_open p q k t ts = refl

pub read_arguments : (f : Expression) (p : Place) (k : ExpressionContext) (t : Token) (ts : List Token) → go (Some (at_arguments f p k)) (t ∷ ts) ≡ go (on_arguments f p k t) ts
unfolding go feed
read_arguments f p k t ts = refl

pub read_access : (e : Expression) (p : Place) (o : Access) (k : ExpressionContext) (t : Token) (ts : List Token) → go (Some (at_access e p o k)) (t ∷ ts) ≡ go (on_access e p o k t) ts
unfolding go feed
read_access e p o k t ts = refl
