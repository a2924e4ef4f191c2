-- The loop over a file's tokens answers what the definition answers.
use Rattle.std.proofs.Common.{◌≡◌, ℕ, ◌+◌, ◌<◌, ◌≤◌, Bool, true, false, cond, nat_lt, List, [], ◌∷◌, Option, Some, None, Result, Ok, Err, length, drop, get_or, refl, sym, ◌∙◌, ap, subst, arith}
use Rattle.std.proofs.lemmas.Bool.{le-ltb, ltb-false}
use Rattle.std.proofs.lemmas.List.{drop_more, drop_all}
use Rattle.std.proofs.lemmas.List.Elements.{All-get_or}
use Rattle.std.specs.Prelude.{All}
use Rattle.c_grammar.specs.Nesting.{limit}
use Rattle.c_grammar.specs.Tokens.{Token, token}
use Rattle.c_reading.specs.Code as code
use Rattle.c_reading.specs.Answers as A
use Rattle.c_reading.specs.FileAnswers.{IsFileAnswer}
use Rattle.c_reading.specs.FileTokens.{AreFileTokens, IsWithin, token_of, tokens_of}
use Rattle.c_reading.specs.declared.listed.FileToken.{FileToken}
use Rattle.c_reading.proofs.Exact.{exact}
use Rattle.c_tree.specs.FileShape.{file_of}
use Rattle.c_tree.specs.declared.file.File.{File}
use Rattle.c_frames.specs.declared.mode.Context.{Context}
use Rattle.c_reader.specs.Reading.{Reads, GoesOn, Ends}
use Rattle.c_reader.specs.declared.file.ReadFileRefusal.{ReadFileRefusal}
use Rattle.c_reader.specs.declared.file.ReadFileRefusal.TheVariants.{Syntax, TooDeep, NoMemory}

lt-ltb : (a b : ℕ) → a < b → nat_lt a b ≡ true
lt-ltb a b h = by_test (nat_lt a b) refl
  where
    by_test : (t : Bool) → nat_lt a b ≡ t → t ≡ true
    by_test true e = refl
    by_test false e = absurd (let le : b ≤ a = ltb-false a b e in omega arith)

-- ## One token

step : (o : Option code.Reader) (p : ℕ) (on : code.Reader → A.Answer) (next : code.Reader) → o ≡ Some next → code.deepest next ≤ limit → A.next_answer o p on ≡ on next
step o p on next e le = ap (λ x. A.next_answer x p on) e ∙ ap (λ b. cond b (A.too_deep p) (on next)) (le-ltb limit (code.deepest next) le)

stop : (o : Option code.Reader) (p : ℕ) (on : code.Reader → A.Answer) → o ≡ None → A.next_answer o p on ≡ A.syntax_fault p
stop o p on e = ap (λ x. A.next_answer x p on) e

sink : (o : Option code.Reader) (p : ℕ) (on : code.Reader → A.Answer) (next : code.Reader) → o ≡ Some next → limit < code.deepest next → A.next_answer o p on ≡ A.too_deep p
sink o p on next e lt = ap (λ x. A.next_answer x p on) e ∙ ap (λ b. cond b (A.too_deep p) (on next)) (lt-ltb limit (code.deepest next) lt)

read_cons : (k : Token) (ks : List Token) (r : code.Reader) (size : ℕ) → A.read_from (k ∷ ks) r size ≡ A.next_answer (code.feed_code r k) (code.place_of k) (λ x. A.read_from ks x size)
read_cons k ks r size = refl

-- ## The tokens

pub lies_within : (size : ℕ) (xs ys : List FileToken) (i : ℕ) (d : FileToken) → ys ≡ xs → All (IsWithin size) xs → i < length ys → IsWithin size (get_or ys i d)
lies_within size xs ys i d e h lt = let P : List FileToken → Type 0 = λ x. All (IsWithin size) x in All-get_or (IsWithin size) ys i d lt (subst P (sym e) h)

pub are_listed : (bytes : List ℕ) (xs ys : List FileToken) → ys ≡ xs → AreFileTokens bytes (tokens_of bytes xs) → AreFileTokens bytes (tokens_of bytes ys)
are_listed bytes xs ys e h = let P : List FileToken → Type 0 = λ x. AreFileTokens bytes (tokens_of bytes x) in subst P (sym e) h

-- ## The loop

-- what is left is read to the answer for all
abbrev pub IsLeft : List ℕ → List FileToken → ℕ → code.Reader → Type 0
IsLeft bytes list i r = A.read_from (tokens_of bytes (drop i list)) r (length bytes) ≡ A.answer (tokens_of bytes list) (length bytes)

pub none_read : (bytes : List ℕ) (list : List FileToken) (r : code.Reader) → r ≡ code.start_code → IsLeft bytes list 0 r
none_read bytes list r e = ap (λ x. A.read_from (tokens_of bytes list) x (length bytes)) e

-- the next token, and those behind it
next_read : (bytes : List ℕ) (list : List FileToken) (i : ℕ) (d : FileToken) (r : code.Reader) (k : Token) → i < length list → k ≡ token_of bytes (get_or list i d) → IsLeft bytes list i r
    → A.next_answer (code.feed_code r k) (code.place_of k) (λ x. A.read_from (tokens_of bytes (drop (i + 1) list)) x (length bytes)) ≡ A.answer (tokens_of bytes list) (length bytes)
next_read bytes list i d r k lt e h =
    let more : drop i list ≡ get_or list i d ∷ drop (i + 1) list = drop_more list i d lt in
    let rest = tokens_of bytes (drop (i + 1) list) in
    sym (read_cons k rest r (length bytes)) ∙ ap (λ x. A.read_from (x ∷ rest) r (length bytes)) e ∙ ap (λ x. A.read_from (tokens_of bytes x) r (length bytes)) (sym more) ∙ h

pub one_read : (bytes : List ℕ) (list : List FileToken) (i : ℕ) (d : FileToken) (r next : code.Reader) (k : Token) → i < length list → k ≡ token_of bytes (get_or list i d) → IsLeft bytes list i r
    → code.feed_code r k ≡ Some next → code.deepest next ≤ limit → IsLeft bytes list (i + 1) next
one_read bytes list i d r next k lt e h fed le =
    sym (step (code.feed_code r k) (code.place_of k) (λ x. A.read_from (tokens_of bytes (drop (i + 1) list)) x (length bytes)) next fed le) ∙ next_read bytes list i d r k lt e h

is_answered : (bytes : List ℕ) (list : List FileToken) (a : A.Answer) → AreFileTokens bytes (tokens_of bytes list) → a ≡ A.answer (tokens_of bytes list) (length bytes) → IsFileAnswer bytes a
is_answered bytes list a are e =
    let ks = tokens_of bytes list in
    let P : A.Answer → Type 0 = λ x. A.IsAnswer ks (length bytes) x in
    record { tokens = ks; are = are; answers = subst P (sym e) (exact ks (length bytes)) }

-- A fault at a token is the file's.
pub fault_read : (bytes : List ℕ) (list : List FileToken) (i : ℕ) (d : FileToken) (r : code.Reader) (k : Token) (context : Context) (refusal : ReadFileRefusal) → AreFileTokens bytes (tokens_of bytes list) → i < length list → k ≡ token_of bytes (get_or list i d) → IsLeft bytes list i r
    → GoesOn r k context (Err refusal) → Reads bytes (Err refusal)
fault_read bytes list i d r k context (Syntax at) are lt e h g =
    let stopped = stop (code.feed_code r k) (code.place_of k) (λ x. A.read_from (tokens_of bytes (drop (i + 1) list)) x (length bytes)) g.0 in
    is_answered bytes list (A.syntax_fault at) are (ap A.syntax_fault g.1 ∙ sym stopped ∙ next_read bytes list i d r k lt e h)
fault_read bytes list i d r k context (TooDeep at) are lt e h g =
    let sunk = sink (code.feed_code r k) (code.place_of k) (λ x. A.read_from (tokens_of bytes (drop (i + 1) list)) x (length bytes)) g.0 g.1 g.2 in
    is_answered bytes list (A.too_deep at) are (ap A.too_deep g.3 ∙ sym sunk ∙ next_read bytes list i d r k lt e h)
fault_read bytes list i d r k context NoMemory are lt e h g = tt

-- What stands at the end of the tokens is the file's.
pub end_read : (bytes : List ℕ) (list : List FileToken) (i : ℕ) (r : code.Reader) (result : Result File ReadFileRefusal) → AreFileTokens bytes (tokens_of bytes list) → length list ≤ i → IsLeft bytes list i r → Ends r (length bytes) result → Reads bytes result
end_read bytes list i r result are le h ends = by_result result ends
  where
    all : A.end_answer r (length bytes) ≡ A.answer (tokens_of bytes list) (length bytes)
    all = ap (λ x. A.read_from (tokens_of bytes x) r (length bytes)) (sym (drop_all i list le)) ∙ h

    by_result : (x : Result File ReadFileRefusal) → Ends r (length bytes) x → Reads bytes x
    by_result (Ok file) g =
        is_answered bytes list (A.tree (file_of file)) are (ap A.tree g.1 ∙ sym (ap (λ b. cond b (A.tree (code.file_trees r)) (A.syntax_fault (length bytes))) g.0) ∙ all)
    by_result (Err (Syntax at)) g =
        is_answered bytes list (A.syntax_fault at) are (ap A.syntax_fault g.1 ∙ sym (ap (λ b. cond b (A.tree (code.file_trees r)) (A.syntax_fault (length bytes))) g.0) ∙ all)
    by_result (Err (TooDeep at)) g = absurd g
    by_result (Err NoMemory) g = absurd g
