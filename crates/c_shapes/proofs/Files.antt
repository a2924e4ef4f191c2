-- The tree of a file's bytes is shaped.
use Rattle.std.proofs.Common.{◌≡◌, ℕ, ◌+◌, ◌-◌, ◌≤◌, Bool, true, false, List, [], ◌∷◌, ◌++◌, length, Option, Some, None, refl, sym, ap, ◌∙◌, subst, arith}
use Rattle.std.specs.Prelude.{slice_range, min, drop}
use Rattle.std.proofs.lemmas.List.{length-append, length-take}
use Rattle.c_tokens.specs.declared.token.TokenKind.{TokenKind}
use Rattle.c_tokens.specs.declared.token.Token as scanned
use Rattle.c_tokens.specs.Tokens.{IsToken, TokensFrom, AtEnd, AtToken, AtBad}
use Rattle.c_grammar.specs.Tokens as k
use Rattle.c_grammar.specs.Derivations.{File, empty_file, external_declaration, function_definition, Declaration, specifiers_alone, declaration}
use Rattle.c_grammar.specs.Spelling.{FileOk, file_names, DeclarationOk}
use Rattle.c_grammar.specs.Yield.{file_yield, declaration_yield}
use Rattle.c_tree.specs.Trees.{FileTree, decl_external, no_specs, no_item_trees}
use Rattle.c_tree.specs.Reading.{declaration_tree, file_onto}
use Rattle.c_reading.specs.Words.{IsFixed, Void, IsKindOf, IsName, IsKeyword, IsPunctuator, IsInteger, IsCharacter, bad_token, AreTokensOf, NoMore, OneMore}
use Rattle.c_reading.specs.Answers.{tree}
use Rattle.c_reading.specs.FileAnswers.{IsFileAnswer}
use Rattle.c_shapes.specs.Shaped.{IsExternal, IsShaped}
use Rattle.c_shapes.proofs.Grammar.{specifiers_shaped, head_shaped, declaration_shaped, items_shaped}
use Rattle.c_shapes.proofs.Yields.{IsShortKind, AreShortTokens, specifiers_rest, declarator_rest, declaration_rest, items_rest, declarator_short, declaration_short}

-- ## The tokens of a file

-- a fixed word is no name
fixed_short : (word : List ℕ) (kind : k.Kind) → IsFixed word kind → IsShortKind kind
fixed_short word kind Void = tt
fixed_short word kind _ = tt

-- a name is as long as its word
kind_short : (t : TokenKind) (word : List ℕ) (kind : k.Kind) → IsKindOf t word kind → (text after : List ℕ) → IsToken t text after → length word ≤ length text → IsShortKind kind
kind_short t word kind (IsName x) text after h l = (let m : length text ≤ 127 = h in omega arith)
kind_short t word kind (IsKeyword x y f) text after h l = fixed_short x y f
kind_short t word kind (IsPunctuator x y f) text after h l = fixed_short x y f
kind_short t word kind (IsInteger x c f) text after h l = tt
kind_short t word kind (IsCharacter x n f) text after h l = tt

-- the first token of what is left of a file
record IsFirst (size : ℕ) (t : scanned.Token) (ts : List scanned.Token) (bad : Option ℕ) : Type 0 where
  here : List ℕ
  word : List ℕ
  after : List ℕ
  from : t.from ≡ size - length here
  to : t.to ≡ size - length after
  parts : here ≡ word ++ after
  token : IsToken t.kind word after
  rest : TokensFrom size false after ts bad

first_token : (size : ℕ) (fresh : Bool) (left : List ℕ) (tokens : List scanned.Token) (bad : Option ℕ) → TokensFrom size fresh left tokens bad → (t : scanned.Token) (ts : List scanned.Token) → tokens ≡ t ∷ ts → IsFirst size t ts bad
first_token size fresh left tokens bad (AtEnd f now rest g) t ts e = cc
first_token size fresh left tokens bad (AtToken f now rest here kind word after more b g past longest token behind) t ts e =
    let p : record { kind = kind; from = size - length here; to = size - length after } ≡ t = head _ t _ ts e in
    let q : more ≡ ts = tail _ t more ts e in
    record {
      here = here;
      word = word;
      after = after;
      from = ap (λ (x : scanned.Token). x.from) (sym p);
      to = ap (λ (x : scanned.Token). x.to) (sym p);
      parts = longest.parts;
      token = subst (λ (x : scanned.Token). IsToken x.kind word after) p token;
      rest = subst (λ xs. TokensFrom size false after xs bad) q behind;
    }
  where
    head : (x y : scanned.Token) (xs ys : List scanned.Token) → x ∷ xs ≡ y ∷ ys → x ≡ y
    head x y xs ys e = cc

    tail : (x y : scanned.Token) (xs ys : List scanned.Token) → x ∷ xs ≡ y ∷ ys → xs ≡ ys
    tail x y xs ys e = cc
first_token size fresh left tokens bad (AtBad f now rest here g past some none) t ts e = cc

-- a range has no more bytes than lie between its ends
range_length : (bytes : List ℕ) (from to : ℕ) → length (slice_range bytes from to) ≤ to - from
range_length bytes from to = (let e : length (slice_range bytes from to) ≡ min (to - from) (length (drop from bytes)) = length-take (to - from) (drop from bytes) in omega arith)

word_length : (bytes : List ℕ) (size : ℕ) (t : scanned.Token) (ts : List scanned.Token) (bad : Option ℕ) (f : IsFirst size t ts bad) → length (slice_range bytes t.from t.to) ≤ length f.word
word_length bytes size t ts bad f =
    let a : length (slice_range bytes t.from t.to) ≤ t.to - t.from = range_length bytes t.from t.to in
    let b : length f.here ≡ length f.word + length f.after = ap length f.parts ∙ length-append f.word f.after in
    let c : t.from ≡ size - length f.here = f.from in
    let d : t.to ≡ size - length f.after = f.to in
    omega arith

tokens_short : (bytes : List ℕ) (size : ℕ) (bad : Option ℕ) (ts : List scanned.Token) (ks : List k.Token) → AreTokensOf bytes bad ts ks → (fresh : Bool) (left : List ℕ) → TokensFrom size fresh left ts bad → AreShortTokens ks
tokens_short bytes size bad ts ks NoMore fresh left h = by bad
  where
    by : (o : Option ℕ) → AreShortTokens (bad_token o)
    by None = tt
    by (Some place) = (tt, tt)
tokens_short bytes size bad ts ks (OneMore t us kind js is more) fresh left h =
    let f = first_token size fresh left (t ∷ us) bad h t us refl in
    (kind_short t.kind (slice_range bytes t.from t.to) kind is f.word f.after f.token (word_length bytes size t us bad f), tokens_short bytes size bad us js more false f.after f.rest)

-- ## Files

file_rest : (f : File) (r : List k.Token) → AreShortTokens (file_yield f r) → AreShortTokens r
file_rest empty_file r h = h
file_rest (external_declaration f d) r h = declaration_rest d r (file_rest f _ h)
file_rest (function_definition f s d p is q) r h = (items_rest is _ (declarator_rest d _ (specifiers_rest s _ (file_rest f _ h))).1).1

external_shaped : (f : File) (d : Declaration) (r : List k.Token) → DeclarationOk (file_names f) d → AreShortTokens (declaration_yield d r) → IsExternal (decl_external (declaration_tree d))
external_shaped f (specifiers_alone s p) r h g = (tt, declaration_shaped (file_names f) (specifiers_alone s p) h)
external_shaped f (declaration s ds d p) r h g = (declaration_short s ds d _ g, declaration_shaped (file_names f) (declaration s ds d p) h)

-- a file before what is shaped, with the tokens behind it
file_shaped : (f : File) (trees : FileTree) (r : List k.Token) → FileOk f → AreShortTokens (file_yield f r) → IsShaped trees → IsShaped (file_onto f trees)
file_shaped empty_file trees r h g w = w
file_shaped (external_declaration f d) trees r h g w = file_shaped f _ _ h.0 g (external_shaped f d r h.1 (file_rest f _ g), w)
file_shaped (function_definition f s d p is q) trees r h g w =
    file_shaped f _ _ h.0 g
    ((declarator_short d _ (specifiers_rest s _ (file_rest f _ g)), (specifiers_shaped (file_names f) s no_specs h.1 tt, (head_shaped (file_names f) d h.4 h.5, items_shaped (file_names f) is no_item_trees h.6 tt))), w)

pub read_shaped : (bytes : List ℕ) (file : FileTree) → IsFileAnswer bytes (tree file) → IsShaped file
read_shaped bytes file h =
    let f = h.answers in
    let short : AreShortTokens h.tokens = tokens_short bytes (length bytes) h.are.bad h.are.scanned h.tokens h.are.each true bytes h.are.exact in
    subst IsShaped (sym f.2) (file_shaped f.0 [] [] f.1.0 (subst AreShortTokens (sym f.1.1) short) tt)
