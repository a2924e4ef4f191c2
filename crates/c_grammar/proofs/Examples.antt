-- Worked examples: short files, their derivations and their tokens.
use Rattle.std.proofs.Common.{◌≡◌, true, false, [], ◌∷◌, Some, None, refl, arith, codes}
use Rattle.c_grammar.specs.Tokens.{Place, Decimal, Minus, TypeWord, Void, Int, Long, Float, Unsigned, Typedef, Struct, Name, Constant, TypeKeyword, Return, LeftBrace, RightBrace, LeftParen, RightParen, Semicolon, token}
use Rattle.c_grammar.specs.Derivations.{no_qualifiers, first_word, next_word, tag, Expression, identifier, constant, binary, Specifiers, no_specifiers, storage_class, type_words, typedef_name, composite_reference, composite, no_members, members, no_declarators, declared_name, pointer, function, void_parameter, no_initializer, init_declarator, no_init_declarators, declaration, Statement, empty_statement, if_statement, if_else, return_statement, no_items, statement_item, File, empty_file, external_declaration, function_definition}
use Rattle.c_grammar.specs.Yield.{file_yield}
use Rattle.c_grammar.specs.Spelling.{file_names, names_type, ExpressionOk, StatementOk, FileOk, Spells}
use Rattle.c_grammar.specs.Machine.{at_file, feed, go, start}

-- one word of a type, as specifiers
abbrev word_at : Place → TypeWord → Specifiers
word_at p w = type_words no_specifiers (first_word p w)

-- int main(void) { return 7; }
abbrev first_form : File
first_form =
    function_definition empty_file (word_at 0 Int) (function (declared_name 4 (codes "main")) 8 (void_parameter 9) 13) 15
    (statement_item no_items (return_statement 17 (Some (constant 24 (Decimal 7))) 25)) 27

first_form_spells : Spells first_form (
    token (TypeKeyword Int) 0 ∷ token (Name (codes "main")) 4 ∷ token LeftParen 8 ∷ token (TypeKeyword Void) 9 ∷ token RightParen 13
    ∷ token LeftBrace 15 ∷ token Return 17 ∷ token (Constant (Decimal 7)) 24 ∷ token Semicolon 25 ∷ token RightBrace 27 ∷ []
    )
first_form_spells = ((tt, (tt, refl, refl), refl, refl, (refl, refl, tt), refl, (tt, tt)), refl)

-- typedef struct node { int value; struct node *next; } node; node *top;
abbrev node_type : Specifiers
node_type =
    composite (storage_class no_specifiers 0 Typedef) 8 Struct (tag 15 (codes "node")) 20
    (members (members no_members (word_at 22 Int) no_declarators (declared_name 26 (codes "value")) 31)
    (composite_reference no_specifiers 33 Struct 40 (codes "node")) no_declarators (pointer 45 no_qualifiers (declared_name 46 (codes "next"))) 50) 52

abbrev treiber_head : File
treiber_head =
    external_declaration
    (external_declaration empty_file (declaration node_type no_init_declarators (init_declarator (declared_name 54 (codes "node")) no_initializer) 58))
    (declaration (typedef_name no_specifiers 60 (codes "node")) no_init_declarators
    (init_declarator (pointer 65 no_qualifiers (declared_name 66 (codes "top"))) no_initializer) 69)

treiber_head_ok : FileOk treiber_head
treiber_head_ok = (
  (tt, (((tt, refl), refl, ((tt, (tt, refl, refl), refl, refl, tt, refl), (tt, refl), refl, refl, tt, refl), refl), refl, tt, (refl, tt))),
  ((tt, refl, refl), refl, tt, (refl, tt)),
)

-- behind the typedef, `node` is no identifier of an expression
node_is_a_type : ¬ (ExpressionOk (file_names treiber_head) (identifier 0 (codes "node")))
node_is_a_type h = let bad : true ≡ false = h in cc

abbrev if_one : Statement → Statement
if_one s = if_statement 0 3 (constant 4 (Decimal 1)) 5 s

-- if (1) if (1) ; else ; with the `else` at the outer `if` is not of the grammar
no_outer_else : ¬ (StatementOk [] (if_else 0 3 (constant 4 (Decimal 1)) 5 (if_one (empty_statement 7)) 9 (empty_statement 14)))
no_outer_else h = let bad : true ≡ false = h.2 in cc

-- with the `else` at the inner `if` it is
inner_else : StatementOk [] (if_one (if_else 7 10 (constant 11 (Decimal 1)) 12 (empty_statement 14) 16 (empty_statement 21)))
inner_else = (tt, (tt, tt, refl, tt))

-- unsigned long int is a type, long float is none
unsigned_long_int : names_type (next_word (next_word (first_word 0 Unsigned) 9 Long) 14 Int) ≡ true
unsigned_long_int = refl

long_float : ¬ (names_type (next_word (first_word 0 Long) 5 Float) ≡ true)
long_float h = let bad : false ≡ true = h in cc

-- a - (b - c) needs its parentheses: a - b - c groups to the left
right_minus : (a b c : Expression) → ¬ (ExpressionOk [] (binary a 1 Minus (binary b 3 Minus c)))
right_minus a b c h = absurd (omega (arith, h.4))

-- the machine reads the first form to its end, and fails at the second `int` of `int int`
first_form_is_read : go (Some start) (file_yield first_form []) ≡ Some (at_file first_form)
unfolding go feed
first_form_is_read = refl

int_int_is_refused : go (Some start) (token (TypeKeyword Int) 0 ∷ token (TypeKeyword Int) 4 ∷ []) ≡ None
unfolding go feed
int_int_is_refused = refl

treiber_head_is_read : go (Some start) (file_yield treiber_head []) ≡ Some (at_file treiber_head)
unfolding go feed
treiber_head_is_read = refl
