-- Levels, first tokens, and single steps of the machine.
use Rattle.std.proofs.Common.{◌≡◌, ℕ, ◌<◌, ◌≤◌, Bool, true, false, cond, List, [], ◌∷◌, Option, Some, refl, sym, ap, arith, lit≤, lit<, suc, not}
use Rattle.c_grammar.specs.Tokens.{Identifier, Operator, LogicalOr, LogicalAnd, BitOr, BitXor, Ampersand, Equal, NotEqual, Less, Greater, LessEqual, GreaterEqual, ShiftLeft, ShiftRight, Plus, Minus, Star, Slash, Percent, Complement, Not, Kind, Name, Constant, Op, Step, TypeKeyword, Qualify, Storage, Composite, Inline, Enum, Sizeof, LeftParen, RightParen, LeftBracket, Semicolon, Comma, Token, token}
use Rattle.c_grammar.specs.Derivations.{TypeWords, first_word, next_word, Expression, identifier, constant, parenthesized, index, call_without, call, member, step_after, step_before, unary, sizeof_expression, sizeof_type, cast, binary, conditional, assignment, Arguments, no_arguments, argument, Specifiers, no_specifiers, storage_class, qualifier, inlined, type_words, typedef_name, composite_reference, composite, enum_reference, enumeration, Declarator, declared_name, pointer, parenthesized_declarator, array, function, AbstractDeclarator, no_declarator, abstract_pointer, parenthesized_abstract, abstract_array, abstract_function}
use Rattle.c_grammar.specs.Yield.{words_yield, expression_yield, arguments_yield, specifiers_yield, declarator_yield, abstract_yield}
use Rattle.c_grammar.specs.Spelling.{is_typedef, has_type, is_plain, is_some_declarator, precedence, is_unary, level, ExpressionOk, ArgumentsOk, SpecifiersOk, DeclaratorOk}
use Rattle.c_grammar.specs.Machine.{State, begins_type, begins_declaration, binds, feed, go}

-- ## Levels

pub precedence-small : (o : Operator) → precedence o ≤ 12
precedence-small LogicalOr = lit≤ tt
precedence-small LogicalAnd = lit≤ tt
precedence-small BitOr = lit≤ tt
precedence-small BitXor = lit≤ tt
precedence-small Ampersand = lit≤ tt
precedence-small Equal = lit≤ tt
precedence-small NotEqual = lit≤ tt
precedence-small Less = lit≤ tt
precedence-small Greater = lit≤ tt
precedence-small LessEqual = lit≤ tt
precedence-small GreaterEqual = lit≤ tt
precedence-small ShiftLeft = lit≤ tt
precedence-small ShiftRight = lit≤ tt
precedence-small Plus = lit≤ tt
precedence-small Minus = lit≤ tt
precedence-small Star = lit≤ tt
precedence-small Slash = lit≤ tt
precedence-small Percent = lit≤ tt
precedence-small Complement = lit≤ tt
precedence-small Not = lit≤ tt

pub binds-small : (t : Kind) → binds t ≤ 12
binds-small (Op o) = precedence-small o
binds-small _ = lit≤ tt

-- a token behind a whole expression must bind less than this, lest it belongs to its last operand
abbrev pub tail_need : Expression → ℕ
tail_need (binary a p o b) = suc (precedence o)
tail_need (conditional c p a q b) = 2
tail_need (assignment a p o b) = 1
tail_need _ = 13

pub tail_positive : (e : Expression) → 0 < tail_need e
tail_positive (binary a p o b) = omega arith
tail_positive _ = lit< tt

pub tail_big : (n : ℕ) (e : Expression) → n ≤ level e → n ≤ 13 → n ≤ tail_need e
tail_big n (binary a p o b) h g = omega arith
tail_big n (conditional c p a q b) h g = h
tail_big n (assignment a p o b) h g = h
tail_big n _ h g = g

pub tail_operator : (o : Operator) (e : Expression) → 3 ≤ precedence o → precedence o ≤ level e → precedence o < tail_need e
tail_operator o (binary a p q b) h g = omega arith
tail_operator o (conditional c p a q b) h g = absurd (omega arith)
tail_operator o (assignment a p q b) h g = absurd (omega arith)
tail_operator o _ h g = omega (arith, precedence-small o)

pub level_positive : (ns : List Identifier) (e : Expression) → ExpressionOk ns e → 1 ≤ level e
level_positive ns (binary a p o b) ok = omega (arith, ok.0)
level_positive ns _ ok = lit≤ tt

-- ## Tests

pub cond_true : {A : Type 0} (b : Bool) (x y : A) → b ≡ true → cond b x y ≡ x
cond_true true x y h = refl
cond_true false x y h = let bad : false ≡ true = h in cc

pub cond_false : {A : Type 0} (b : Bool) (x y : A) → b ≡ false → cond b x y ≡ y
cond_false false x y h = refl
cond_false true x y h = let bad : true ≡ false = h in cc

pub not_false : (b : Bool) → not b ≡ true → b ≡ false
not_false false h = refl
not_false true h = let bad : false ≡ true = h in cc

-- ## First tokens

abbrev pub FirstIs : (Kind → Bool) → List Token → Type 0
FirstIs b [] = ⊥
FirstIs b (token t p ∷ ts) = b t ≡ true

-- the kinds of tokens that begin an expression
abbrev pub begins_operand : List Identifier → Kind → Bool
begins_operand ns (Name x) = not (is_typedef ns x)
begins_operand ns (Constant n) = true
begins_operand ns (Op o) = is_unary o
begins_operand ns (Step o) = true
begins_operand ns Sizeof = true
begins_operand ns LeftParen = true
begins_operand ns _ = false

pub operand_no_type : (ns : List Identifier) (t : Kind) → begins_operand ns t ≡ true → begins_type ns t ≡ false
operand_no_type ns (Name x) h = not_false (is_typedef ns x) h
operand_no_type ns (TypeKeyword w) h = sym h
operand_no_type ns (Qualify q) h = sym h
operand_no_type ns (Composite w) h = sym h
operand_no_type ns Enum h = sym h
operand_no_type ns _ h = refl

pub operand_no_declaration : (ns : List Identifier) (t : Kind) → begins_operand ns t ≡ true → begins_declaration ns t ≡ false
operand_no_declaration ns (Storage w) h = sym h
operand_no_declaration ns Inline h = sym h
operand_no_declaration ns (Name x) h = not_false (is_typedef ns x) h
operand_no_declaration ns (TypeKeyword w) h = sym h
operand_no_declaration ns (Qualify q) h = sym h
operand_no_declaration ns (Composite w) h = sym h
operand_no_declaration ns Enum h = sym h
operand_no_declaration ns _ h = refl

-- the kinds of tokens that may stand at once behind whole specifiers
abbrev pub ends_specifiers : Kind → Bool
ends_specifiers (Name x) = true
ends_specifiers (Op o) = true
ends_specifiers LeftParen = true
ends_specifiers LeftBracket = true
ends_specifiers RightParen = true
ends_specifiers Comma = true
ends_specifiers Semicolon = true
ends_specifiers _ = false

-- those that begin a declarator
abbrev pub begins_declarator : List Identifier → Kind → Bool
begins_declarator ns (Name x) = not (is_typedef ns x)
begins_declarator ns (Op Star) = true
begins_declarator ns LeftParen = true
begins_declarator ns _ = false

pub declarator_first : (ns : List Identifier) (d : Declarator) (r : List Token) → DeclaratorOk ns d → FirstIs (begins_declarator ns) (declarator_yield d r)
declarator_first ns (declared_name p x) r ok = ap not ok
declarator_first ns (pointer p qs d) r ok = refl
declarator_first ns (parenthesized_declarator p d q) r ok = refl
declarator_first ns (array d p n q) r ok = declarator_first ns d _ ok.0
declarator_first ns (function d p ps q) r ok = declarator_first ns d _ ok.0

-- those that begin an abstract declarator
abbrev pub begins_abstract : Kind → Bool
begins_abstract (Op Star) = true
begins_abstract LeftParen = true
begins_abstract LeftBracket = true
begins_abstract _ = false

abstract_next : (a : AbstractDeclarator) (r : List Token) → FirstIs begins_abstract r → FirstIs begins_abstract (abstract_yield a r)
abstract_next no_declarator r h = h
abstract_next (abstract_pointer p qs a) r h = refl
abstract_next (parenthesized_abstract p a q) r h = refl
abstract_next (abstract_array a p n q) r h = abstract_next a _ refl
abstract_next (abstract_function a p ps q) r h = abstract_next a _ refl

pub abstract_first : (a : AbstractDeclarator) (r : List Token) → is_some_declarator a ≡ true → FirstIs begins_abstract (abstract_yield a r)
abstract_first no_declarator r h = let bad : false ≡ true = h in cc
abstract_first (abstract_pointer p qs a) r h = refl
abstract_first (parenthesized_abstract p a q) r h = refl
abstract_first (abstract_array a p n q) r h = abstract_next a _ refl
abstract_first (abstract_function a p ps q) r h = abstract_next a _ refl

pub abstract_ends : (a : AbstractDeclarator) (r : List Token) → FirstIs ends_specifiers r → FirstIs ends_specifiers (abstract_yield a r)
abstract_ends no_declarator r h = h
abstract_ends (abstract_pointer p qs a) r h = refl
abstract_ends (parenthesized_abstract p a q) r h = refl
abstract_ends (abstract_array a p n q) r h = abstract_ends a _ refl
abstract_ends (abstract_function a p ps q) r h = abstract_ends a _ refl

pub declarator_ends : (d : Declarator) (r : List Token) → FirstIs ends_specifiers (declarator_yield d r)
declarator_ends (declared_name p x) r = refl
declarator_ends (pointer p qs d) r = refl
declarator_ends (parenthesized_declarator p d q) r = refl
declarator_ends (array d p n q) r = declarator_ends d _
declarator_ends (function d p ps q) r = declarator_ends d _

pub expression_first : (ns : List Identifier) (e : Expression) (r : List Token) → ExpressionOk ns e → FirstIs (begins_operand ns) (expression_yield e r)
expression_first ns (identifier p x) r ok = ap not ok
expression_first ns (constant p n) r ok = refl
expression_first ns (parenthesized p e q) r ok = refl
expression_first ns (index e p i q) r ok = expression_first ns e _ ok.0
expression_first ns (call_without f p q) r ok = expression_first ns f _ ok.0
expression_first ns (call f p xs e q) r ok = expression_first ns f _ ok.0
expression_first ns (member e p o q x) r ok = expression_first ns e _ ok.0
expression_first ns (step_after e p o) r ok = expression_first ns e _ ok.0
expression_first ns (step_before p o e) r ok = refl
expression_first ns (unary p o e) r ok = ok.0
expression_first ns (sizeof_expression p e) r ok = refl
expression_first ns (sizeof_type p q t l) r ok = refl
expression_first ns (cast p t q e) r ok = refl
expression_first ns (binary a p o b) r ok = expression_first ns a _ ok.1
expression_first ns (conditional c p a q b) r ok = expression_first ns c _ ok.0
expression_first ns (assignment a p o b) r ok = expression_first ns a _ ok.0

pub arguments_first : (ns : List Identifier) (xs : Arguments) (e : Expression) (r : List Token) → ArgumentsOk ns xs → ExpressionOk ns e
    → FirstIs (begins_operand ns) (arguments_yield xs (expression_yield e r))
arguments_first ns no_arguments e r xok ok = expression_first ns e r ok
arguments_first ns (argument xs x p) e r xok ok = arguments_first ns xs x _ xok.0 xok.1

-- an expression begins, and behind a parenthesis at its begin another one
abbrev pub FirstOfUnary : List Identifier → List Token → Type 0
FirstOfUnary ns [] = ⊥
FirstOfUnary ns (token LeftParen p ∷ ts) = FirstIs (begins_operand ns) ts
FirstOfUnary ns (token t p ∷ ts) = begins_operand ns t ≡ true

pub unary_first : (ns : List Identifier) (e : Expression) (r : List Token) → ExpressionOk ns e → 14 ≤ level e → FirstOfUnary ns (expression_yield e r)
unary_first ns (identifier p x) r ok h = ap not ok
unary_first ns (constant p n) r ok h = refl
unary_first ns (parenthesized p e q) r ok h = expression_first ns e _ ok
unary_first ns (index e p i q) r ok h = unary_first ns e _ ok.0 (omega (arith, ok.1))
unary_first ns (call_without f p q) r ok h = unary_first ns f _ ok.0 (omega (arith, ok.1))
unary_first ns (call f p xs e q) r ok h = unary_first ns f _ ok.0 (omega (arith, ok.1))
unary_first ns (member e p o q x) r ok h = unary_first ns e _ ok.0 (omega (arith, ok.1))
unary_first ns (step_after e p o) r ok h = unary_first ns e _ ok.0 (omega (arith, ok.1))
unary_first ns (step_before p o e) r ok h = refl
unary_first ns (unary p o e) r ok h = ok.0
unary_first ns (sizeof_expression p e) r ok h = refl
unary_first ns (sizeof_type p q t l) r ok h = refl
unary_first ns (cast p t q e) r ok h = absurd (omega arith)
unary_first ns (binary a p o b) r ok h = absurd (omega (arith, precedence-small o))
unary_first ns (conditional c p a q b) r ok h = absurd (omega arith)
unary_first ns (assignment a p o b) r ok h = absurd (omega arith)

-- specifiers before something that may begin specifiers
pub declaration_next : (ns : List Identifier) (s : Specifiers) (r : List Token) → SpecifiersOk ns s → FirstIs (begins_declaration ns) r
    → FirstIs (begins_declaration ns) (specifiers_yield s r)
declaration_next ns no_specifiers r ok h = h
declaration_next ns (storage_class s p w) r ok h = declaration_next ns s _ ok.0 refl
declaration_next ns (qualifier s p q) r ok h = declaration_next ns s _ ok refl
declaration_next ns (inlined s p) r ok h = declaration_next ns s _ ok refl
declaration_next ns (type_words s ws) r ok h = declaration_next ns s _ ok.0 (words_first ws r)
  where
    words_first : (ws : TypeWords) (r : List Token) → FirstIs (begins_declaration ns) (words_yield ws r)
    words_first (first_word p w) r = refl
    words_first (next_word ws p w) r = words_first ws _
declaration_next ns (typedef_name s p x) r ok h = declaration_next ns s _ ok.0 ok.2
declaration_next ns (composite_reference s p w q x) r ok h = declaration_next ns s _ ok.0 refl
declaration_next ns (composite s p w t q ms l) r ok h = declaration_next ns s _ ok.0 refl
declaration_next ns (enum_reference s p q x) r ok h = declaration_next ns s _ ok.0 refl
declaration_next ns (enumeration s p t q es e c l) r ok h = declaration_next ns s _ ok.0 refl

pub type_next : (ns : List Identifier) (s : Specifiers) (r : List Token) → SpecifiersOk ns s → is_plain s ≡ true → FirstIs (begins_type ns) r
    → FirstIs (begins_type ns) (specifiers_yield s r)
type_next ns no_specifiers r ok h g = g
type_next ns (storage_class s p w) r ok h g = let bad : false ≡ true = h in cc
type_next ns (qualifier s p q) r ok h g = type_next ns s _ ok h refl
type_next ns (inlined s p) r ok h g = let bad : false ≡ true = h in cc
type_next ns (type_words s ws) r ok h g = type_next ns s _ ok.0 h (words_first ws r)
  where
    words_first : (ws : TypeWords) (r : List Token) → FirstIs (begins_type ns) (words_yield ws r)
    words_first (first_word p w) r = refl
    words_first (next_word ws p w) r = words_first ws _
type_next ns (typedef_name s p x) r ok h g = type_next ns s _ ok.0 h ok.2
type_next ns (composite_reference s p w q x) r ok h g = type_next ns s _ ok.0 h refl
type_next ns (composite s p w t q ms l) r ok h g = type_next ns s _ ok.0 h refl
type_next ns (enum_reference s p q x) r ok h g = type_next ns s _ ok.0 h refl
type_next ns (enumeration s p t q es e c l) r ok h g = type_next ns s _ ok.0 h refl

-- whole specifiers begin with a specifier
pub declaration_first : (ns : List Identifier) (s : Specifiers) (r : List Token) → SpecifiersOk ns s → has_type s ≡ true
    → FirstIs (begins_declaration ns) (specifiers_yield s r)
declaration_first ns no_specifiers r ok h = let bad : false ≡ true = h in cc
declaration_first ns (storage_class s p w) r ok h = declaration_next ns s _ ok.0 refl
declaration_first ns (qualifier s p q) r ok h = declaration_next ns s _ ok refl
declaration_first ns (inlined s p) r ok h = declaration_next ns s _ ok refl
declaration_first ns (type_words s ws) r ok h = declaration_first' ns s ws r ok.0
  where
    declaration_first' : (ns : List Identifier) (s : Specifiers) (ws : TypeWords) (r : List Token) → SpecifiersOk ns s → FirstIs (begins_declaration ns) (specifiers_yield s (words_yield ws r))
    declaration_first' ns s (first_word p w) r ok = declaration_next ns s _ ok refl
    declaration_first' ns s (next_word ws p w) r ok = declaration_first' ns s ws _ ok
declaration_first ns (typedef_name s p x) r ok h = declaration_next ns s _ ok.0 ok.2
declaration_first ns (composite_reference s p w q x) r ok h = declaration_next ns s _ ok.0 refl
declaration_first ns (composite s p w t q ms l) r ok h = declaration_next ns s _ ok.0 refl
declaration_first ns (enum_reference s p q x) r ok h = declaration_next ns s _ ok.0 refl
declaration_first ns (enumeration s p t q es e c l) r ok h = declaration_next ns s _ ok.0 refl

pub type_first : (ns : List Identifier) (s : Specifiers) (r : List Token) → SpecifiersOk ns s → has_type s ≡ true → is_plain s ≡ true
    → FirstIs (begins_type ns) (specifiers_yield s r)
type_first ns no_specifiers r ok h g = let bad : false ≡ true = h in cc
type_first ns (storage_class s p w) r ok h g = let bad : false ≡ true = g in cc
type_first ns (qualifier s p q) r ok h g = type_next ns s _ ok g refl
type_first ns (inlined s p) r ok h g = let bad : false ≡ true = g in cc
type_first ns (type_words s ws) r ok h g = type_first' ns s ws r ok.0 g
  where
    type_first' : (ns : List Identifier) (s : Specifiers) (ws : TypeWords) (r : List Token) → SpecifiersOk ns s → is_plain s ≡ true → FirstIs (begins_type ns) (specifiers_yield s (words_yield ws r))
    type_first' ns s (first_word p w) r ok g = type_next ns s _ ok g refl
    type_first' ns s (next_word ws p w) r ok g = type_first' ns s ws _ ok g
type_first ns (typedef_name s p x) r ok h g = type_next ns s _ ok.0 g ok.2
type_first ns (composite_reference s p w q x) r ok h g = type_next ns s _ ok.0 g refl
type_first ns (composite s p w t q ms l) r ok h g = type_next ns s _ ok.0 g refl
type_first ns (enum_reference s p q x) r ok h g = type_next ns s _ ok.0 g refl
type_first ns (enumeration s p t q es e c l) r ok h g = type_next ns s _ ok.0 g refl

pub type_declares : (ns : List Identifier) (t : Kind) → begins_type ns t ≡ true → begins_declaration ns t ≡ true
type_declares ns (Storage w) h = refl
type_declares ns Inline h = refl
type_declares ns _ h = h

-- ## Steps

-- two states go on alike where the next token does
pub same_feed : (s s' : State) (t : Token) (ts : List Token) → feed s t ≡ feed s' t → go (Some s) (t ∷ ts) ≡ go (Some s') (t ∷ ts)
unfolding go
same_feed s s' t ts h = ap (λ o. go o ts) h

-- one token
pub one : (s : State) (t : Token) (o : Option State) (ts : List Token) → feed s t ≡ o → go (Some s) (t ∷ ts) ≡ go o ts
unfolding go
one s t o ts h = ap (λ o. go o ts) h
