-- The next part by its definition: each answer is put into the expression, in the place of the read that was due.
use Rattle.std.specs.Prelude.{ℕ, zero, suc, ◌+◌, List, [], ◌∷◌, Option, Some, None, ◌≡◌, slice_get}
use Rattle.tso_words.specs.declared.value.Val.{Val}
use Rattle.tso_words.specs.declared.value.Val.TheVariants.{Undef, Word}
use Rattle.tso_words.specs.declared.value.Chunk.{Chunk}
use Rattle.tso_words.specs.declared.operator.Op.{Op}
use Rattle.tso_words.specs.Operators.{operate}
use Rattle.tso_core.specs.Placing.{address_of}
use Rattle.clight_lang.specs.declared.next.NextPart.{NextPart}
use Rattle.clight_lang.specs.declared.next.NextPart.TheVariants as N
use Rattle.clight_lang.specs.Syntax as S
use Rattle.clight_lang.specs.Next.{Scope, value_at, base_address, name_address, truth_value}

-- an expression in which some reads have their answers: its leaves are values, known once the scope is
pub data Term : Type 0 where
  Known : Val → Term
  Read : Chunk → Term → Term
  Unary : Op → Term → Term
  Binary : Op → Term → Term → Term
  AndAlso : Term → Term → Term
  OrElse : Term → Term → Term
  Choose : Term → Term → Term → Term

-- no read has its answer yet
abbrev pub term_of : Scope → S.Expression → Term
term_of s (S.Const n) = Known (Word n)
term_of s (S.Temp t) = Known (value_at s.temps t)
term_of s (S.LocalAddr l) = Known (base_address (slice_get s.placed l))
term_of s (S.GlobalAddr x) = Known (name_address (address_of s.names x))
term_of s (S.Read c a) = Read c (term_of s a)
term_of s (S.Unary op a) = Unary op (term_of s a)
term_of s (S.Binary op a b) = Binary op (term_of s a) (term_of s b)
term_of s (S.AndAlso a b) = AndAlso (term_of s a) (term_of s b)
term_of s (S.OrElse a b) = OrElse (term_of s a) (term_of s b)
term_of s (S.Choose c a b) = Choose (term_of s c) (term_of s a) (term_of s b)

-- a value, wrong, or the leftmost read that is due
pub data Next : Type 0 where
  Gives : Val → Next
  Bad : Next
  Due : Chunk → Val → Next

abbrev pub with_value : Next → (Val → Next) → Next
with_value (Gives v) go = go v
with_value Bad go = Bad
with_value (Due c a) go = Due c a

abbrev pub operated : Option Val → Next
operated None = Bad
operated (Some v) = Gives v

abbrev pub by_word : Val → Next → Next → Next
by_word Undef a b = Bad
by_word (Word zero) a b = b
by_word (Word (suc n)) a b = a

abbrev pub next : Term → Next
next (Known v) = Gives v
next (Read c a) = with_value (next a) (λ v. Due c v)
next (Unary op a) = with_value (next a) (λ v. operated (operate op (v ∷ [])))
next (Binary op a b) = with_value (next a) (λ x. with_value (next b) (λ y. operated (operate op (x ∷ y ∷ []))))
next (AndAlso a b) =
    with_value (next a) (λ x. by_word x (with_value (next b) (λ y. Gives (truth_value y))) (Gives (Word 0)))
next (OrElse a b) =
    with_value (next a) (λ x. by_word x (Gives (Word 1)) (with_value (next b) (λ y. Gives (truth_value y))))
next (Choose c a b) = with_value (next c) (λ x. by_word x (next a) (next b))

-- the first where there is a value, else the second
abbrev pub if_value : Next → (Val → Term) → Term → Term
if_value (Gives v) go t = go v
if_value Bad go t = t
if_value (Due c a) go t = t

abbrev pub side : Val → Term → Term → Term
side Undef a b = b
side (Word zero) a b = b
side (Word (suc n)) a b = a

-- the answer is put in the place of the read that is due
abbrev pub put : Val → Term → Term
put w (Known v) = Known v
put w (Read c a) = if_value (next a) (λ v. Known w) (Read c (put w a))
put w (Unary op a) = Unary op (put w a)
put w (Binary op a b) = if_value (next a) (λ v. Binary op a (put w b)) (Binary op (put w a) b)
put w (AndAlso a b) = if_value (next a) (λ v. AndAlso a (put w b)) (AndAlso (put w a) b)
put w (OrElse a b) = if_value (next a) (λ v. OrElse a (put w b)) (OrElse (put w a) b)
put w (Choose c a b) =
    if_value (next c) (λ v. side v (Choose c (put w a) b) (Choose c a (put w b))) (Choose (put w c) a b)

-- what comes next once the answers from i on are put in, and how many were
pub data Comes (vs : List Val) : Term → ℕ → NextPart → Type 0 where
  value : {t : Term} {i : ℕ} {v : Val} → next t ≡ Gives v → Comes vs t i (N.Value v i)
  wrong : {t : Term} {i : ℕ} → next t ≡ Bad → Comes vs t i N.Wrong
  read : {t : Term} {i : ℕ} {c : Chunk} {a : Val} → next t ≡ Due c a → slice_get vs i ≡ None → Comes vs t i (N.Read c a)
  more : {t : Term} {i : ℕ} {c : Chunk} {a w : Val} {r : NextPart} → next t ≡ Due c a → slice_get vs i ≡ Some w → Comes vs (put w t) (i + 1) r → Comes vs t i r
