-- The next part of an expression in a frame: its value, wrong, or the leftmost read that is due. Answers to its first reads stand in a list.
use Rattle.std.specs.Prelude.{ℕ, zero, suc, ◌+◌, List, [], ◌∷◌, Option, Some, None, slice_get}
use Rattle.tso_words.specs.declared.value.Val.{Val}
use Rattle.tso_words.specs.declared.value.Val.TheVariants.{Undef, Word}
use Rattle.tso_words.specs.declared.value.Chunk.{Chunk}
use Rattle.tso_words.specs.Operators.{operate}
use Rattle.tso_core.specs.Systems.{Names, Places}
use Rattle.tso_core.specs.Placing.{address_of}
use Rattle.clight_lang.specs.declared.frame.Frame.{Frame}
use Rattle.clight_lang.specs.declared.frame.Placed.{Placed}
use Rattle.clight_lang.specs.declared.next.NextPart.{NextPart}
use Rattle.clight_lang.specs.declared.next.NextPart.TheVariants as N
use Rattle.clight_lang.specs.Syntax.{Expression, Const, Temp, LocalAddr, GlobalAddr, Read, Unary, Binary, AndAlso, OrElse, Choose}

-- what an expression can see: the temporaries and placed objects of its call, and the program's names
pub record Scope : Type 0 where
  pub temps : List Val
  pub placed : List Placed
  pub names : Places

abbrev pub scope_of : Frame → Places → Scope
scope_of f at = record { temps = f.temps.items; placed = f.placed.items; names = at }

abbrev pub known : Option Val → Val
known None = Undef
known (Some v) = v

-- the value at a place of a list, and Undef where there is none
abbrev pub value_at : List Val → ℕ → Val
value_at vs i = known (slice_get vs i)

abbrev pub base_address : Option Placed → Val
base_address None = Undef
base_address (Some p) = Word p.base

abbrev pub name_address : Option ℕ → Val
name_address None = Undef
name_address (Some a) = Word a

-- 1 for a word that is not 0
abbrev pub truth_value : Val → Val
truth_value Undef = Undef
truth_value (Word zero) = Word 0
truth_value (Word (suc n)) = Word 1

-- goes on with a value
abbrev pub then_next : NextPart → (Val → ℕ → NextPart) → NextPart
then_next (N.Value v n) go = go v n
then_next N.Wrong go = N.Wrong
then_next (N.Read c a) go = N.Read c a

-- the truth of a value that comes
abbrev pub truth_next : NextPart → NextPart
truth_next n = then_next n (λ v k. N.Value (truth_value v) k)

-- a read with its address: its answer, where there is one
abbrev pub answered : Chunk → Val → ℕ → Option Val → NextPart
answered c a n None = N.Read c a
answered c a n (Some v) = N.Value v (n + 1)

abbrev pub operated : Option Val → ℕ → NextPart
operated None n = N.Wrong
operated (Some v) n = N.Value v n

-- wrong where the value is not known, the second where it is 0, and the first at another word
abbrev pub by_word : Val → NextPart → NextPart → NextPart
by_word Undef a b = N.Wrong
by_word (Word zero) a b = b
by_word (Word (suc n)) a b = a

-- the answers from i on stand for the first reads of the expression
abbrev pub next_from : Scope → List Val → Expression → ℕ → NextPart
next_from s vs (Const n) i = N.Value (Word n) i
next_from s vs (Temp t) i = N.Value (value_at s.temps t) i
next_from s vs (LocalAddr l) i = N.Value (base_address (slice_get s.placed l)) i
next_from s vs (GlobalAddr x) i = N.Value (name_address (address_of s.names x)) i
next_from s vs (Read c a) i = then_next (next_from s vs a i) (λ v j. answered c v j (slice_get vs j))
next_from s vs (Unary op a) i = then_next (next_from s vs a i) (λ v j. operated (operate op (v ∷ [])) j)
next_from s vs (Binary op a b) i =
    then_next (next_from s vs a i) (λ x j. then_next (next_from s vs b j) (λ y k. operated (operate op (x ∷ y ∷ [])) k))
next_from s vs (AndAlso a b) i =
    then_next (next_from s vs a i) (λ x j. by_word x (truth_next (next_from s vs b j)) (N.Value (Word 0) j))
next_from s vs (OrElse a b) i =
    then_next (next_from s vs a i) (λ x j. by_word x (N.Value (Word 1) j) (truth_next (next_from s vs b j)))
next_from s vs (Choose c a b) i =
    then_next (next_from s vs c i) (λ x j. by_word x (next_from s vs a j) (next_from s vs b j))
