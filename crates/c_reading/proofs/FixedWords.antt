-- The table of words is the definition of the words that stand for one token each.
use Rattle.std.proofs.Common.{◌≡◌, ℕ, Bool, true, false, cond, List, [], ◌∷◌, Option, Some, None, is_some, refl, sym, subst, rules, inl, inr}
use Rattle.std.specs.Prelude.{bytes_eq, ◌&&◌, IsSome}
use Rattle.std.proofs.lemmas.Slice.Eq.{bytes_eq-Decides}
use Rattle.c_tokens.specs.declared.token.TokenKind.{TokenKind}
use Rattle.c_tokens.specs.declared.token.TokenKind.TheVariants as lexeme
use Rattle.c_tokens.specs.Lexemes.{IsAmong, IsLexeme, IsKeyword, IsPunctuator, keywords, punctuators}
use Rattle.c_reading.specs.declared.token.Kind.{Kind}
use Rattle.c_reading.specs.Kinds.{Entry, kind_of, look_up, fixed_words}
use Rattle.c_reading.specs.Words.{IsFixed, IsKindOf, IsName, number_of}
use Rattle.c_grammar.specs.Tokens as k
use Rattle.c_tokens.specs.declared.constant.IntegerConstant.{IntegerConstant}
use Rattle.c_tokens.specs.Constants.{IsIntegerOf, IsCharacterIn}
use Rattle.c_reading.specs.Words as fixed

-- each entry of a table is of the definition
abbrev AllFixed : List Entry → Type 0
AllFixed [] = Unit {0}
AllFixed (e ∷ es) = IsFixed e.text (kind_of e.text e.kind) × AllFixed es

all_fixed : AllFixed fixed_words
all_fixed = (fixed.Void, (fixed.Char, (fixed.Short, (fixed.Int, (fixed.Long, (fixed.Float, (fixed.Double, (fixed.Signed, (fixed.Unsigned, (fixed.Const, (fixed.Volatile, (fixed.Restrict, (fixed.Extern, (fixed.Static, (fixed.Typedef, (fixed.Struct, (fixed.Union, (fixed.Break, (fixed.Continue, (fixed.Inline, (fixed.Enum, (fixed.Sizeof, (fixed.If, (fixed.Else, (fixed.While, (fixed.Do, (fixed.For, (fixed.Switch, (fixed.Case, (fixed.Default, (fixed.Return, (fixed.Auto, (fixed.Goto, (fixed.Register, (fixed.Bool', (fixed.Complex, (fixed.Imaginary, (fixed.LeftBrace, (fixed.RightBrace, (fixed.LeftParen, (fixed.RightParen, (fixed.LeftBracket, (fixed.RightBracket, (fixed.Semicolon, (fixed.Comma, (fixed.Question, (fixed.Colon, (fixed.Dot, (fixed.Arrow, (fixed.Increase, (fixed.Decrease, (fixed.LogicalOr, (fixed.LogicalAnd, (fixed.BitOr, (fixed.BitXor, (fixed.Ampersand, (fixed.Equal, (fixed.NotEqual, (fixed.Less, (fixed.Greater, (fixed.LessEqual, (fixed.GreaterEqual, (fixed.ShiftLeft, (fixed.ShiftRight, (fixed.Plus, (fixed.Minus, (fixed.Star, (fixed.Slash, (fixed.Percent, (fixed.Complement, (fixed.Not, (fixed.Equals, (fixed.StarEquals, (fixed.SlashEquals, (fixed.PercentEquals, (fixed.PlusEquals, (fixed.MinusEquals, (fixed.ShiftLeftEquals, (fixed.ShiftRightEquals, (fixed.AndEquals, (fixed.XorEquals, (fixed.OrEquals, tt))))))))))))))))))))))))))))))))))))))))))))))))))))))))))))))))))))))))))))))))))

-- what is found is of the definition
found_fixed : (es : List Entry) → AllFixed es → (word : List ℕ) (k : Kind) → look_up es word ≡ Some k → IsFixed word (kind_of word k)
found_fixed [] all word k e = let bad : None ≡ Some k = e in cc
found_fixed (x ∷ es) all word k e = by_text (bytes_eq x.text word) refl e (found_fixed es all.1 word k)
  where
    by_text : (b : Bool) → bytes_eq x.text word ≡ b → cond b (Some x.kind) (look_up es word) ≡ Some k → (look_up es word ≡ Some k → IsFixed word (kind_of word k)) → IsFixed word (kind_of word k)
    by_text true q h later =
        let same : x.text ≡ word = (bytes_eq-Decides x.text word).0 q in
        let here : IsFixed word (kind_of word x.kind) = subst (λ w. IsFixed w (kind_of w x.kind)) same all.0 in
        let one : x.kind ≡ k = cc in
        subst (λ y. IsFixed word (kind_of word y)) one here
    by_text false q h later = later h

pub fixed_sound : (word : List ℕ) (k : Kind) → look_up fixed_words word ≡ Some k → IsFixed word (kind_of word k)
fixed_sound word k e = found_fixed fixed_words all_fixed word k e

-- each word of a list is found
abbrev all_found : List (List ℕ) → Bool
all_found [] = true
all_found (w ∷ ws) = is_some (look_up fixed_words w) && all_found ws

and_both : (a b : Bool) → (a && b) ≡ true → (a ≡ true) × (b ≡ true)
and_both true b e = (refl, e)
and_both false b e = let bad : false ≡ true = e in cc

found_among : (ws : List (List ℕ)) → all_found ws ≡ true → (word : List ℕ) → IsAmong word ws → is_some (look_up fixed_words word) ≡ true
found_among [] e word h = absurd h
found_among (w ∷ ws) e word (inl same) = subst (λ x. is_some (look_up fixed_words x) ≡ true) (sym same) (and_both (is_some (look_up fixed_words w)) (all_found ws) e).0
found_among (w ∷ ws) e word (inr h) = found_among ws (and_both (is_some (look_up fixed_words w)) (all_found ws) e).1 word h

pub keyword_found : (word : List ℕ) → IsLexeme lexeme.Keyword word → is_some (look_up fixed_words word) ≡ true
keyword_found word (IsKeyword s h) = found_among keywords refl s h

pub punctuator_found : (word : List ℕ) → IsLexeme lexeme.Punctuator word → is_some (look_up fixed_words word) ≡ true
punctuator_found word (IsPunctuator s h) = found_among punctuators refl s h

some_of : (o : Option Kind) → is_some o ≡ true → IsSome o
some_of o e = search (rules, e)

-- what a lexeme of each kind is
pub keyword_some : (l : TokenKind) (word : List ℕ) → l ≡ lexeme.Keyword → IsLexeme l word → IsSome (look_up fixed_words word)
keyword_some l word e h = let P : TokenKind → Type 0 = λ x. IsLexeme x word in some_of (look_up fixed_words word) (keyword_found word (subst P e h))

pub punctuator_some : (l : TokenKind) (word : List ℕ) → l ≡ lexeme.Punctuator → IsLexeme l word → IsSome (look_up fixed_words word)
punctuator_some l word e h = let P : TokenKind → Type 0 = λ x. IsLexeme x word in some_of (look_up fixed_words word) (punctuator_found word (subst P e h))

pub name_is : (l : TokenKind) (word : List ℕ) → l ≡ lexeme.Identifier → IsKindOf l word (k.Name word)
name_is l word e = let P : TokenKind → Type 0 = λ x. IsKindOf x word (k.Name word) in subst P (sym e) (IsName word)

pub keyword_is : (l : TokenKind) (word : List ℕ) (y : k.Kind) → l ≡ lexeme.Keyword → IsFixed word y → IsKindOf l word y
keyword_is l word y e h = let P : TokenKind → Type 0 = λ x. IsKindOf x word y in subst P (sym e) (fixed.IsKeyword word y h)

pub punctuator_is : (l : TokenKind) (word : List ℕ) (y : k.Kind) → l ≡ lexeme.Punctuator → IsFixed word y → IsKindOf l word y
punctuator_is l word y e h = let P : TokenKind → Type 0 = λ x. IsKindOf x word y in subst P (sym e) (fixed.IsPunctuator word y h)

pub integer_is : (l : TokenKind) (word : List ℕ) (c : IntegerConstant) (n : k.Number) → l ≡ lexeme.Integer → IsIntegerOf word c → n ≡ number_of c → IsKindOf l word (k.Constant n)
integer_is l word c n e h g =
    let P : TokenKind → Type 0 = λ x. IsKindOf x word (k.Constant (number_of c)) in
    let Q : k.Number → Type 0 = λ m. IsKindOf l word (k.Constant m) in subst Q (sym g) (subst P (sym e) (fixed.IsInteger word c h))

pub character_is : (l : TokenKind) (word : List ℕ) (n : ℕ) → l ≡ lexeme.Character → IsCharacterIn word n → IsKindOf l word (k.Constant (k.Character n))
character_is l word n e h = let P : TokenKind → Type 0 = λ x. IsKindOf x word (k.Constant (k.Character n)) in subst P (sym e) (fixed.IsCharacter word n h)
