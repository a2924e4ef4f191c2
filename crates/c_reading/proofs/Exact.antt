-- The reader's answer is exact.
use Rattle.std.proofs.Common.{◌≡◌, ℕ, ◌<◌, ◌≤◌, Bool, true, false, cond, nat_le, nat_lt, List, [], ◌∷◌, ◌++◌, Option, Some, None, length, suc, take, refl, sym, ◌∙◌, ap, subst, arith, zero}
use Rattle.c_reading.proofs.Places.{refused_place, unfinished_place, whole_file, deep_place, shallow_tokens}
use Rattle.c_grammar.specs.Derivations.{File}
use Rattle.c_grammar.specs.Spelling.{Spells}
use Rattle.c_tree.specs.Reading.{file_tree}
use Rattle.c_grammar.specs.Nesting.{limit, TooDeep}
use Rattle.c_grammar.specs.Tokens.{Token, token}
use Rattle.std.proofs.lemmas.Bool.{ltb-true, ltb-false, leb-true, leb-false}
use Rattle.std.proofs.lemmas.List.{take-append-le, take_all, append-nil}
use Rattle.std.proofs.Math.Seq.{take-append_seam}
use Rattle.c_reading.specs.Code as C
use Rattle.c_reading.specs.Answers as A
use Rattle.c_reading.specs.Words.{place_at}

-- ## Tokens read and tokens to come

take_next : (ps : List Token) (t : Token) (ts : List Token) → take (suc (length ps)) (ps ++ t ∷ ts) ≡ ps ++ t ∷ []
take_next [] t ts = refl
take_next (p ∷ ps) t ts = ap (λ x. p ∷ x) (take_next ps t ts)

place_next : (size : ℕ) (ps : List Token) (t : Token) (ts : List Token) → C.place_of t ≡ place_at size (ps ++ t ∷ ts) (length ps)
place_next size [] (token k p) ts = refl
place_next size (token j q ∷ ps) t ts = place_next size ps t ts

place_end : (size : ℕ) (ps : List Token) → size ≡ place_at size ps (length ps)
place_end size [] = refl
place_end size (token k p ∷ ps) = place_end size ps

length_next : (ps : List Token) (t : Token) (ts : List Token) → length ps < length (ps ++ t ∷ ts)
length_next [] t ts = omega arith
length_next (p ∷ ps) t ts = let h : length ps < length (ps ++ t ∷ ts) = length_next ps t ts in omega (arith, h)

length_one : (ps : List Token) (t : Token) → length (ps ++ t ∷ []) ≡ suc (length ps)
length_one [] t = refl
length_one (p ∷ ps) t = ap suc (length_one ps t)

join_one : (ps : List Token) (t : Token) (ts : List Token) → (ps ++ t ∷ []) ++ ts ≡ ps ++ t ∷ ts
join_one [] t ts = refl
join_one (p ∷ ps) t ts = ap (λ x. p ∷ x) (join_one ps t ts)

-- one token more
read_append : (o : Option C.Reader) (xs ys : List Token) → C.read_on o (xs ++ ys) ≡ C.read_on (C.read_on o xs) ys
unfolding C.read_on
read_append None [] ys = none_on ys
  where
    none_on : (ys : List Token) → C.read_on None ys ≡ C.read_on None ys
    none_on ys = refl
read_append None (x ∷ xs) [] = refl
read_append None (x ∷ xs) (y ∷ ys) = refl
read_append (Some r) [] ys = refl
read_append (Some r) (x ∷ xs) ys = read_append (C.feed_code r x) xs ys

read_nil : (o : Option C.Reader) → C.read_on o [] ≡ o
unfolding C.read_on
read_nil None = refl
read_nil (Some r) = refl

read_one : (r : C.Reader) (t : Token) → C.read_on (Some r) (t ∷ []) ≡ C.feed_code r t
unfolding C.read_on
read_one r t = read_nil (C.feed_code r t)

read_more : (ps : List Token) (t : Token) (r : C.Reader) → C.read_on (Some C.start_code) ps ≡ Some r → C.read_on (Some C.start_code) (ps ++ t ∷ []) ≡ C.feed_code r t
read_more ps t r e = read_append (Some C.start_code) ps (t ∷ []) ∙ ap (λ o. C.read_on o (t ∷ [])) e ∙ read_one r t

-- ## The answer

-- fewer tokens of a longer list
shallow_longer : (ps ts : List Token) → A.IsShallow ps (length ps) → A.IsShallow (ps ++ ts) (length ps)
shallow_longer ps ts h m le = let P : List Token → Type 0 = λ x. TooDeep x → ⊥ in subst P (sym (take-append-le m ps ts le)) (h m le)

shallow_next : (ps : List Token) (t : Token) (r : C.Reader) → A.IsShallow ps (length ps) → C.read_on (Some C.start_code) (ps ++ t ∷ []) ≡ Some r → C.deepest r ≤ limit
    → A.IsShallow (ps ++ t ∷ []) (length (ps ++ t ∷ []))
shallow_next ps t r h e low m le = by_length (nat_le m (length ps)) refl
  where
    P : List Token → Type 0
    P x = TooDeep x → ⊥

    by_length : (b : Bool) → nat_le m (length ps) ≡ b → TooDeep (take m (ps ++ t ∷ [])) → ⊥
    by_length true q deep = shallow_longer ps (t ∷ []) h m (leb-true m (length ps) q) deep
    by_length false q deep =
        let all : take m (ps ++ t ∷ []) ≡ ps ++ t ∷ [] = take_all m (ps ++ t ∷ []) (let o = length_one ps t in let l = leb-false m (length ps) q in omega arith) in
        shallow_tokens (ps ++ t ∷ []) r e low (subst TooDeep all deep)

end_exact : (ps : List Token) (r : C.Reader) (size : ℕ) (b : Bool) → C.is_in_file r.mode ≡ b → C.read_on (Some C.start_code) ps ≡ Some r → A.IsShallow ps (length ps)
    → A.IsAnswer ps size (cond b (A.tree (C.file_trees r)) (A.syntax_fault size))
end_exact ps r size true q e h = let w : (f : File) × Spells f ps × (C.file_trees r ≡ file_tree f) = whole_file ps r e q in (w.0, w.1, w.2, h)
end_exact ps r size false q e h = (length ps, unfinished_place ps r e q, place_end size ps, h)

refused_exact : (ps : List Token) (t : Token) (ts : List Token) (r : C.Reader) (size : ℕ) → C.read_on (Some C.start_code) ps ≡ Some r → C.feed_code r t ≡ None → A.IsShallow ps (length ps)
    → A.IsAnswer (ps ++ t ∷ ts) size (A.syntax_fault (C.place_of t))
refused_exact ps t ts r size e q h = (
  length ps,
  refused_place (ps ++ t ∷ ts) (length ps) r (length_next ps t ts) (ap (λ x. C.read_on (Some C.start_code) x) (take-append_seam ps (t ∷ ts)) ∙ e)
      (ap (λ x. C.read_on (Some C.start_code) x) (take_next ps t ts) ∙ read_more ps t r e ∙ q),
  place_next size ps t ts,
  shallow_longer ps (t ∷ ts) h,
)

deep_exact : (ps : List Token) (t : Token) (ts : List Token) (r r' : C.Reader) (size : ℕ) → C.read_on (Some C.start_code) ps ≡ Some r → C.feed_code r t ≡ Some r' → C.deepest r ≤ limit → limit < C.deepest r'
    → A.IsAnswer (ps ++ t ∷ ts) size (A.too_deep (C.place_of t))
deep_exact ps t ts r r' size e q low high = (
  length ps,
  deep_place (ps ++ t ∷ ts) (length ps) r r' (length_next ps t ts) (ap (λ x. C.read_on (Some C.start_code) x) (take-append_seam ps (t ∷ ts)) ∙ e) low
      (ap (λ x. C.read_on (Some C.start_code) x) (take_next ps t ts) ∙ read_more ps t r e ∙ q) high,
  place_next size ps t ts,
)

-- from any state that was reached
abbrev Exact : List Token → Type 0
Exact ts = (ps : List Token) (r : C.Reader) (size : ℕ) → C.read_on (Some C.start_code) ps ≡ Some r → C.deepest r ≤ limit → A.IsShallow ps (length ps) → A.IsAnswer (ps ++ ts) size (A.read_from ts r size)

next_exact : (ps : List Token) (t : Token) (ts : List Token) (r : C.Reader) (size : ℕ) → C.read_on (Some C.start_code) ps ≡ Some r → C.deepest r ≤ limit → A.IsShallow ps (length ps) → Exact ts
    → (o : Option C.Reader) → C.feed_code r t ≡ o → A.IsAnswer (ps ++ t ∷ ts) size (A.next_answer o (C.place_of t) (λ x. A.read_from ts x size))
next_exact ps t ts r size e low h on None q = refused_exact ps t ts r size e q h
next_exact ps t ts r size e low h on (Some r') q = by_depth (nat_lt limit (C.deepest r')) refl
  where
    by_depth : (b : Bool) → nat_lt limit (C.deepest r') ≡ b → A.IsAnswer (ps ++ t ∷ ts) size (cond b (A.too_deep (C.place_of t)) (A.read_from ts r' size))
    by_depth true d = deep_exact ps t ts r r' size e q low (ltb-true limit (C.deepest r') d)
    by_depth false d =
        let P : List Token → Type 0 = λ x. A.IsAnswer x size (A.read_from ts r' size) in
        let l : C.deepest r' ≤ limit = ltb-false limit (C.deepest r') d in
        let e' : C.read_on (Some C.start_code) (ps ++ t ∷ []) ≡ Some r' = read_more ps t r e ∙ q in
        subst P (join_one ps t ts) (on (ps ++ t ∷ []) r' size e' l (shallow_next ps t r' h e' l))

all_exact : (ts : List Token) → Exact ts
all_exact [] ps r size e low h =
    let P : List Token → Type 0 = λ x. A.IsAnswer x size (A.end_answer r size) in
    subst P (sym (append-nil ps)) (end_exact ps r size (C.is_in_file r.mode) refl e h)
all_exact (t ∷ ts) ps r size e low h = next_exact ps t ts r size e low h (all_exact ts) (C.feed_code r t) refl

-- no token is nested too deep
none_shallow : A.IsShallow [] 0
none_shallow m le deep = shallow_tokens [] C.start_code (read_nil (Some C.start_code)) (omega arith) (subst TooDeep (empty m) deep)
  where
    empty : (m : ℕ) → take {A = Token} m [] ≡ []
    empty zero = refl
    empty (suc m) = refl

-- What the reader answers is the answer.
pub exact : (ts : List Token) (size : ℕ) → A.IsAnswer ts size (A.answer ts size)
exact ts size = all_exact ts [] C.start_code size (read_nil (Some C.start_code)) (omega arith) none_shallow
