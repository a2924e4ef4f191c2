-- The tokens of a file, listed one by one.
use Rattle.std.proofs.Common.{◌≡◌, ℕ, ◌+◌, ◌<◌, ◌≤◌, List, [], ◌∷◌, ◌++◌, Option, Some, None, length, take, get_or, slice_range, refl, sym, ◌∙◌, ap, subst, arith, add-one}
use Rattle.std.specs.Prelude.{All, IfSome}
use Rattle.std.proofs.Math.Seq.{take-suc}
use Rattle.std.proofs.lemmas.List.{take_all}
use Rattle.std.proofs.lemmas.List.Elements.{All-get_or, All-push, All-append, All-nil}
use Rattle.c_tokens.specs.declared.token.Token.{Token}
use Rattle.c_tokens.specs.Constants.{IsWordOf}
use Rattle.c_tokens.specs.Tokens.{Tokens, AreInOrder}
use Rattle.c_tokens.proofs.Order.{order_at}
use Rattle.c_grammar.specs.Tokens as k
use Rattle.c_reading.specs.declared.listed.FileToken.{FileToken}
use Rattle.c_reading.specs.Kinds.{kind_of}
use Rattle.c_reading.specs.declared.token.Kind.TheVariants as kind
use Rattle.c_reading.specs.Words.{IsKindOf, AreTokensOf, NoMore, OneMore, bad_token}
use Rattle.c_reading.specs.FileTokens.{token_of, tokens_of, AreFileTokens, IsWithin, refused_at}

-- what the grammar takes a token for
abbrev pub IsTaken : List ℕ → Token → FileToken → Type 0
IsTaken bytes s t = IsKindOf s.kind (slice_range bytes s.from s.to) (kind_of (slice_range bytes s.from s.to) t.kind) × (t.from ≡ s.from) × (t.to ≡ s.to)

-- the first tokens, and what the grammar takes them for
abbrev pub AreTaken : List ℕ → List Token → List FileToken → Type 0
AreTaken bytes [] [] = Unit {0}
AreTaken bytes (s ∷ ss) [] = ⊥
AreTaken bytes [] (t ∷ ts) = ⊥
AreTaken bytes (s ∷ ss) (t ∷ ts) = IsTaken bytes s t × AreTaken bytes ss ts

one_more : (bytes : List ℕ) (ss : List Token) (ts : List FileToken) (s : Token) (t : FileToken) → AreTaken bytes ss ts → IsTaken bytes s t → AreTaken bytes (ss ++ s ∷ []) (ts ++ t ∷ [])
one_more bytes [] [] s t h one = (one, tt)
one_more bytes [] (y ∷ ys) s t h one = absurd h
one_more bytes (x ∷ xs) [] s t h one = absurd h
one_more bytes (x ∷ xs) (y ∷ ys) s t h one = (h.0, one_more bytes xs ys s t h.1 one)

-- with the bad token they are the tokens of the file
all_taken : (bytes : List ℕ) (bad : Option ℕ) (ss : List Token) (ts : List FileToken) → AreTaken bytes ss ts → AreTokensOf bytes bad ss (tokens_of bytes ts ++ bad_token bad)
all_taken bytes bad [] [] h = NoMore
all_taken bytes bad [] (t ∷ ts) h = absurd h
all_taken bytes bad (s ∷ ss) [] h = absurd h
all_taken bytes bad (s ∷ ss) (t ∷ ts) h =
    let from : t.from ≡ s.from = h.0.1 in
    let to : t.to ≡ s.to = h.0.2 in
    let P : k.Token → Type 0 = λ x. AreTokensOf bytes bad (s ∷ ss) (x ∷ (tokens_of bytes ts ++ bad_token bad)) in
    let same : k.token (kind_of (slice_range bytes s.from s.to) t.kind) s.from ≡ token_of bytes t = cc in
    subst P same (OneMore s ss (kind_of (slice_range bytes s.from s.to) t.kind) (tokens_of bytes ts ++ bad_token bad) h.0.0 (all_taken bytes bad ss ts h.1))

tokens-append : (bytes : List ℕ) (xs ys : List FileToken) → tokens_of bytes (xs ++ ys) ≡ tokens_of bytes xs ++ tokens_of bytes ys
tokens-append bytes [] ys = refl
tokens-append bytes (x ∷ xs) ys = ap (λ r. token_of bytes x ∷ r) (tokens-append bytes xs ys)

refused_tokens : (bytes : List ℕ) (bad : Option ℕ) → tokens_of bytes (refused_at bad) ≡ bad_token bad
refused_tokens bytes None = refl
refused_tokens bytes (Some place) = refl

-- The tokens of a file, all taken.
pub listed : (bytes : List ℕ) (bad : Option ℕ) (ss : List Token) (ts all : List FileToken) → Tokens bytes ss bad → AreTaken bytes ss ts → all ≡ ts ++ refused_at bad → AreFileTokens bytes (tokens_of bytes all)
listed bytes bad ss ts all exact h e =
    let same : tokens_of bytes all ≡ tokens_of bytes ts ++ bad_token bad = ap (tokens_of bytes) e ∙ tokens-append bytes ts (refused_at bad) ∙ ap (λ r. tokens_of bytes ts ++ r) (refused_tokens bytes bad) in
    let P : List k.Token → Type 0 = λ x. AreTokensOf bytes bad ss x in
    record { scanned = ss; bad = bad; exact = exact; each = subst P (sym same) (all_taken bytes bad ss ts h) }

-- One token more.
pub next_taken : (bytes : List ℕ) (ss : List Token) (i : ℕ) (d : Token) (ts all : List FileToken) (t : FileToken) → i < length ss → AreTaken bytes (take i ss) ts → IsTaken bytes (get_or ss i d) t → all ≡ ts ++ t ∷ []
    → AreTaken bytes (take (i + 1) ss) all
next_taken bytes ss i d ts all t lt h one e =
    let more : AreTaken bytes (take i ss ++ get_or ss i d ∷ []) (ts ++ t ∷ []) = one_more bytes (take i ss) ts (get_or ss i d) t h one in
    let same : take i ss ++ get_or ss i d ∷ [] ≡ take (i + 1) ss = sym (ap (λ n. take n ss) (add-one i) ∙ take-suc ss i d lt) in
    let P : List Token → Type 0 = λ x. AreTaken bytes x (ts ++ t ∷ []) in
    let Q : List FileToken → Type 0 = λ x. AreTaken bytes (take (i + 1) ss) x in
    subst Q (sym e) (subst P same more)

-- The bad token lies in its file.
pub bad_lies : (size : ℕ) (bad : Option ℕ) → IfSome bad (λ place. place < size) → All (IsWithin size) (refused_at bad)
bad_lies size None h = All-nil (IsWithin size)
bad_lies size (Some place) h = let lt : place < size = h in All-push (IsWithin size) [] (record { kind = kind.Refused; from = place; to = place }) (All-nil (IsWithin size)) (omega arith, omega arith)

-- A token of a file is a word, and lies in it.
pub word_at : (bytes : List ℕ) (xs ys : List Token) (i : ℕ) (d : Token) → ys ≡ xs → All (IsWordOf bytes) xs → i < length ys → IsWordOf bytes (get_or ys i d)
word_at bytes xs ys i d e h lt = let P : List Token → Type 0 = λ x. All (IsWordOf bytes) x in All-get_or (IsWordOf bytes) ys i d lt (subst P (sym e) h)

pub lies_at : (bytes : List ℕ) (xs ys : List Token) (i : ℕ) (d : Token) → ys ≡ xs → AreInOrder (length bytes) 0 xs → i < length ys → ((get_or ys i d).from < (get_or ys i d).to) × ((get_or ys i d).to ≤ length bytes)
lies_at bytes xs ys i d e h lt = let P : List Token → Type 0 = λ x. AreInOrder (length bytes) 0 x in order_at (length bytes) 0 ys i d (subst P (sym e) h) lt

pub lies_too : (size : ℕ) (ts all : List FileToken) (t : FileToken) → All (IsWithin size) ts → IsWithin size t → all ≡ ts ++ t ∷ [] → All (IsWithin size) all
lies_too size ts all t h one e = let P : List FileToken → Type 0 = λ x. All (IsWithin size) x in subst P (sym e) (All-push (IsWithin size) ts t h one)

pub all_lie : (size : ℕ) (bad : Option ℕ) (ts all : List FileToken) → All (IsWithin size) ts → IfSome bad (λ place. place < size) → all ≡ ts ++ refused_at bad → All (IsWithin size) all
all_lie size bad ts all h b e = let P : List FileToken → Type 0 = λ x. All (IsWithin size) x in subst P (sym e) (All-append (IsWithin size) ts (refused_at bad) h (bad_lies size bad b))

pub whole_list : (xs ys : List Token) (bytes : List ℕ) (i : ℕ) (ts : List FileToken) → ys ≡ xs → AreTaken bytes (take i ys) ts → length ys ≤ i → AreTaken bytes xs ts
whole_list xs ys bytes i ts e h le = let P : List Token → Type 0 = λ x. AreTaken bytes x ts in subst P (take_all i ys le ∙ e) h
