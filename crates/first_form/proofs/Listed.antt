-- The tokens of a file that spells words, one by one.
use Rattle.std.proofs.Common.{◌≡◌, ℕ, ◌-◌, List, [], ◌∷◌, ◌++◌, length, map, refl, sym, ◌∙◌, ap, subst, None, Bool, false}
use Rattle.std.specs.Prelude.{slice_range}
use Rattle.c_tokens.specs.declared.token.TokenKind.{TokenKind}
use Rattle.c_tokens.specs.declared.token.Token.{Token}
use Rattle.c_tokens.specs.Tokens.{Gap, TokensFrom, AtEnd, AtToken}
use Rattle.c_tokens.proofs.Words.{middle}
use Rattle.c_grammar.specs.Tokens as k
use Rattle.c_reading.specs.Words.{IsKindOf, AreTokensOf, NoMore, OneMore}
use Rattle.first_form.specs.Form.{word_in}
use Rattle.first_form.proofs.Gaps.{EndsWith, word_at}
use Rattle.first_form.proofs.Lexed.{Lexes}

-- what is left of a file has these words, which are these tokens of the grammar
pub record Listed (bytes : List ℕ) (fresh : Bool) (rest : List ℕ) (words : List (List ℕ)) (ks : List k.Token) : Type 0 where
  pub tokens : List Token
  pub are : TokensFrom (length bytes) fresh rest tokens None
  pub words_are : map (word_in bytes) tokens ≡ words
  pub each : AreTokensOf bytes None tokens ks

pub listed_end : (bytes : List ℕ) (fresh now : Bool) (rest : List ℕ) → Gap fresh rest now [] → Listed bytes fresh rest [] []
listed_end bytes fresh now rest gap = record { tokens = []; are = AtEnd fresh now rest gap; words_are = refl; each = NoMore }

-- a word of a file, between its first byte and the one behind its last
pub word_is : (bytes word after : List ℕ) → EndsWith bytes (word ++ after) → slice_range bytes (length bytes - length (word ++ after)) (length bytes - length after) ≡ word
word_is bytes word after at =
    ap (λ (xs : List ℕ). slice_range xs (length bytes - length (word ++ after)) (length bytes - length after)) at.1
    ∙ middle at.0 word after (length bytes) (length bytes - length (word ++ after)) (length bytes - length after) (ap length at.1) refl refl

pub listed_next : (bytes : List ℕ) (fresh now : Bool) (rest : List ℕ) (kind : TokenKind) (word after : List ℕ) (words : List (List ℕ)) (grammar : k.Kind) (ks : List k.Token)
    → EndsWith bytes rest → Gap fresh rest now (word ++ after) → Lexes kind word after → IsKindOf kind word grammar → Listed bytes false after words ks
    → Listed bytes fresh rest (word ∷ words) (k.token grammar (length bytes - length (word ++ after)) ∷ ks)
listed_next bytes fresh now rest kind word after words grammar ks at gap lexes is more =
    let same = word_is bytes word after (word_at bytes rest fresh now (word ++ after) at gap) in
    let token : Token = record { kind = kind; from = length bytes - length (word ++ after); to = length bytes - length after } in
    record {
      tokens = token ∷ more.tokens;
      are = AtToken fresh now rest (word ++ after) kind word after more.tokens None gap (lexes.past now) lexes.longest lexes.is_token more.are;
      words_are = ap (λ (w : List ℕ). w ∷ map (word_in bytes) more.tokens) same ∙ ap (λ (ws : List (List ℕ)). word ∷ ws) more.words_are;
      each = OneMore token more.tokens grammar ks (subst (λ (w : List ℕ). IsKindOf kind w grammar) (sym same) is) more.each;
    }
