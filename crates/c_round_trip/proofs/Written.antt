-- A text that goes on with the words of some tokens, each with a blank or a line feed behind it.
use Rattle.std.proofs.Common.{◌≡◌, ℕ, ◌+◌, ◌⊎◌, Bool, true, List, [], ◌∷◌, ◌++◌, length, Some, None, refl, sym, ◌∙◌, ap, subst, append_assoc, append-nil, length-append, inl, inr}
use Rattle.c_tokens.specs.declared.token.TokenKind.{TokenKind}
use Rattle.c_tokens.specs.Scanning.{behind_piece, behind_lexeme, kind_of, is_token}
use Rattle.c_grammar.specs.Tokens as k
use Rattle.c_reading.specs.Words.{IsKindOf}
use Rattle.c_tree.specs.Printing.{Text, put_word, put_line}

-- a blank or a line feed
abbrev pub IsSeparator : ℕ → Type 0
IsSeparator b = (b ≡ 32) ⊎ (b ≡ 10)

-- the word is a lexeme of the kind, whatever follows the blank behind it
pub record Scans (kind : TokenKind) (word : List ℕ) : Type 0 where
  pub begins : (fresh : Bool) (b : ℕ) (rest : List ℕ) → IsSeparator b → behind_piece fresh (word ++ b ∷ rest) ≡ None
  pub ends : (b : ℕ) (rest : List ℕ) → IsSeparator b → behind_lexeme (word ++ b ∷ rest) ≡ Some (b ∷ rest)
  pub is : kind_of word ≡ kind
  pub holds : (b : ℕ) (rest : List ℕ) → IsSeparator b → is_token kind word (b ∷ rest) ≡ true

-- the word of a token
pub record WordOf (kind : k.Kind) (word : List ℕ) : Type 0 where
  pub lexeme : TokenKind
  pub scans : Scans lexeme word
  pub is_kind : IsKindOf lexeme word kind

-- these tokens, the first at this place, and their words in turn
pub data Laid : ℕ → List k.Token → List ℕ → Type 0 where
  nothing : (n : ℕ) → Laid n [] []
  laid : (n : ℕ) (kind : k.Kind) (word : List ℕ) (b : ℕ) (ts : List k.Token) (rest : List ℕ) → WordOf kind word → IsSeparator b
      → Laid (n + (length word + 1)) ts rest → Laid n (k.token kind n ∷ ts) (word ++ b ∷ rest)

-- the whole text goes on behind a text with these tokens
pub record Written (ts : List k.Token) (t whole : Text) : Type 0 where
  pub rest : List ℕ
  pub parts : whole ≡ t ++ rest
  pub words : Laid (length t) ts rest

pub written_end : (t : Text) → Written [] t t
written_end t = record { rest = []; parts = sym (append-nil t); words = nothing (length t) }

put : (b : ℕ) (kind : k.Kind) (word : List ℕ) (t whole : Text) (r : List k.Token) → IsSeparator b → WordOf kind word → Written r (t ++ word ++ b ∷ []) whole
    → Written (k.token kind (length t) ∷ r) t whole
put b kind word t whole r sep is w =
    let same : t ++ word ++ b ∷ [] ≡ t ++ (word ++ b ∷ []) = append_assoc t word (b ∷ []) in
    let long : length (t ++ word ++ b ∷ []) ≡ length t + (length word + 1) =
    ap length same ∙ length-append t (word ++ b ∷ []) ∙ ap (λ n. length t + n) (length-append word (b ∷ [])) in
    record {
      rest = word ++ b ∷ w.rest;
      parts = w.parts ∙ ap (λ xs. xs ++ w.rest) same ∙ append_assoc t (word ++ b ∷ []) w.rest ∙ ap (λ xs. t ++ xs) (append_assoc word (b ∷ []) w.rest);
      words = laid (length t) kind word b r w.rest is sep (subst (λ n. Laid n r w.rest) long w.words);
    }

pub by_word : (kind : k.Kind) (word : List ℕ) (t whole : Text) (r : List k.Token) → WordOf kind word → Written r (put_word word t) whole
    → Written (k.token kind (length t) ∷ r) t whole
by_word kind word t whole r is w = put 32 kind word t whole r (inl refl) is w

pub by_line : (kind : k.Kind) (word : List ℕ) (t whole : Text) (r : List k.Token) → WordOf kind word → Written r (put_line word t) whole
    → Written (k.token kind (length t) ∷ r) t whole
by_line kind word t whole r is w = put 10 kind word t whole r (inr refl) is w
