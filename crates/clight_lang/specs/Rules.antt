-- The steps of a thread of ClightTSO: what it offers, and where it is after an answer (after ClightTSO of CompCertTSO; here expressions are evaluated whole but for their loads, and control is a list of what comes after).
use Rattle.std.specs.Prelude.{ℕ, zero, suc, ◌-◌, ◌+◌, Bool, true, false, List, [], ◌∷◌, ◌++◌, length, map, find, fold, take, drop, Option, Some, None, slice_get, slice_set, nat_eq, ◌==◌, ◌&&◌, if◌then◌else◌}
use Rattle.std.specs.List.{list_any, list_all}
use Rattle.std.specs.Option.{option_map}
use Rattle.std.proofs.Common.{replicate}
use Rattle.std.specs.Cmp.Lexicographic.{pointwise}
use Rattle.tso_words.specs.declared.value.Val.{Val}
use Rattle.tso_words.specs.declared.value.Val.TheVariants.{Undef, Word}
use Rattle.tso_words.specs.declared.value.Chunk.{Chunk}
use Rattle.tso_core.specs.declared.offer.Atomic.TheVariants as A
use Rattle.tso_core.specs.declared.offer.Offer.{Offer}
use Rattle.tso_core.specs.declared.offer.Offer.TheVariants as O
use Rattle.tso_core.specs.declared.offer.Answer.{Answer}
use Rattle.tso_core.specs.declared.offer.Answer.TheVariants.{Nothing, Value}
use Rattle.tso_core.specs.Systems.{Names, Places}
use Rattle.tso_core.specs.Placing.{address_of}
use Rattle.clight_lang.specs.declared.frame.Placed.{Placed}
use Rattle.clight_lang.specs.declared.function.Local.{Local}
use Rattle.clight_lang.specs.declared.function.Taken.{Taken}
use Rattle.clight_lang.specs.declared.function.Kept.{Kept}
use Rattle.clight_lang.specs.declared.due.Due as D
use Rattle.clight_lang.specs.declared.due.Due.TheVariants as V
use Rattle.clight_lang.specs.declared.offering.Entry as E
use Rattle.clight_lang.specs.declared.offering.Entry.TheVariants as W
use Rattle.clight_lang.specs.declared.next.NextPart.{NextPart}
use Rattle.clight_lang.specs.declared.next.NextPart.TheVariants as N
use Rattle.clight_lang.specs.declared.statement.Builtin.TheVariants as B
use Rattle.clight_lang.specs.declared.statement.Builtin as BuiltinOf
use Rattle.clight_lang.specs.Syntax.{Expression, GroupOf, Statement, Statements, Nil, Cons, Skip, Set, Store, Call, External, Builtin, Block, If, Loop, Switch, Break, Continue, Return}
use Rattle.clight_lang.specs.Next.{Scope, value_at, base_address, next_from}
use Rattle.clight_lang.specs.State.{FunctionOf, After, Empty, Rest, Body, Step, Switched, Doing, Enter, Run, Leave, Wait, CallerOf, State}

-- what the expressions of a statement come to: their values, wrong, or a read
pub data Due : Type 0 where
  Ready : List Val → Due
  Wrong : Due
  Reads : Chunk → Val → Due

abbrev pub then_due : NextPart → (Val → ℕ → Due) → Due
then_due (N.Value v n) go = go v n
then_due N.Wrong go = Wrong
then_due (N.Read c a) go = Reads c a

abbrev pub due_view : D.Due → Due
due_view (V.Ready xs) = Ready xs.items
due_view V.Wrong = Wrong
due_view (V.Read c a) = Reads c a

-- the expressions of a list go from left to right, behind values that are there; the answers from i on stand for their reads
abbrev pub due_from : Scope → List Val → List Val → List Expression → ℕ → Due
due_from s vs xs [] i = Ready xs
due_from s vs xs (e ∷ es) i = then_due (next_from s vs e i) (λ v j. due_from s vs (xs ++ v ∷ []) es j)

-- the expressions of a statement, in the order in which they are evaluated
abbrev pub expressions_of : Statement → List Expression
expressions_of (Set t e) = e ∷ []
expressions_of (Store c a e) = a ∷ e ∷ []
expressions_of (Call t type f args) = f ∷ args
expressions_of (External t name type args) = args
expressions_of (Builtin t b args) = args
expressions_of (If e a b) = e ∷ []
expressions_of (Switch e groups l) = e ∷ []
expressions_of (Return (Some e)) = e ∷ []
expressions_of _ = []

abbrev pub due_in : Scope → List Val → Statement → Due
due_in s vs st = due_from s vs [] (expressions_of st) 0

-- the words of values, where all are known
abbrev pub is_known : Val → Bool
is_known Undef = false
is_known (Word w) = true

abbrev pub word_or_0 : Val → ℕ
word_or_0 Undef = 0
word_or_0 (Word w) = w

abbrev pub words_of : List Val → Option (List ℕ)
words_of vs = if list_all is_known vs then Some (map word_or_0 vs) else None

-- whether an address is a word
abbrev pub is_word : ℕ → Option ℕ → Bool
is_word w None = false
is_word w (Some a) = a == w

-- the defined function of a type whose address is a value
abbrev pub of_type : ℕ → Option FunctionOf → Option FunctionOf
of_type type None = None
of_type type (Some f) = if f.function_type == type then Some f else None

abbrev pub callee_of : List FunctionOf → Places → ℕ → Val → Option FunctionOf
callee_of fs at type Undef = None
callee_of fs at type (Word w) = of_type type (find (λ f. is_word w (address_of at f.name)) fs)

-- the group of a switch where a word leads: the first that has the number, else the default; the place of its first statement
abbrev pub numbered : ℕ → List GroupOf → Option ℕ
numbered w groups = option_map (λ g. g.from) (find (λ g. list_any (λ n. n == w) g.numbers) groups)

abbrev pub default_of : List GroupOf → Option ℕ
default_of groups = option_map (λ g. g.from) (find (λ g. g.is_default) groups)

abbrev pub or_else : Option ℕ → Option ℕ → Option ℕ
or_else None d = d
or_else (Some n) d = Some n

abbrev pub chosen_from : Val → List GroupOf → Option ℕ
chosen_from Undef groups = None
chosen_from (Word w) groups = or_else (numbered w groups) (default_of groups)

-- the statements from a place on
abbrev pub statements_from : Statements → ℕ → Statements
statements_from Nil n = Nil
statements_from (Cons s l) n = if n == 0 then Cons s l else statements_from l (n - 1)

-- what a call does when it enters its function: a local to be placed comes first, then a parameter to be stored
abbrev pub entry_with : Option Local → Option Kept → ℕ → E.Entry
entry_with (Some l) k stored = W.Place l
entry_with None (Some k) stored = W.Store k (stored + 1)
entry_with None None stored = W.Begin

abbrev pub entry_of : FunctionOf → List Placed → ℕ → E.Entry
entry_of f placed stored = entry_with (slice_get f.locals (length placed)) (slice_get f.kept stored) stored

abbrev pub entry_offer : E.Entry → List Placed → List Val → Offer
entry_offer (W.Place l) placed args = O.Place l.size l.align
entry_offer (W.Store k next) placed args = O.Store k.chunk (base_address (slice_get placed k.local)) (value_at args k.argument)
entry_offer W.Begin placed args = O.Silent

-- a value that has to be known
abbrev pub choice_offer : Val → Offer
choice_offer Undef = O.Wrong
choice_offer (Word w) = O.Silent

abbrev pub call_offer : Option FunctionOf → Offer
call_offer None = O.Wrong
call_offer (Some f) = O.Silent

abbrev pub external_offer : Names → Option (List ℕ) → Offer
external_offer name None = O.Wrong
external_offer name (Some words) = O.Call name words

abbrev pub builtin_offer : BuiltinOf.Builtin → List Val → Offer
builtin_offer B.ThreadCreate xs = O.Start (value_at xs 0) (value_at xs 1)
builtin_offer B.Fence xs = O.Fence
builtin_offer B.AtomicCas xs = O.Atomic A.Cas (value_at xs 0) (value_at xs 1) (value_at xs 2)
builtin_offer B.AtomicAdd xs = O.Atomic A.Add (value_at xs 0) Undef (value_at xs 1)
builtin_offer B.AtomicXchg xs = O.Atomic A.Xchg (value_at xs 0) Undef (value_at xs 1)
builtin_offer B.Malloc xs = O.Malloc (value_at xs 0)
builtin_offer B.Free xs = O.Free (value_at xs 0)
builtin_offer B.Exit xs = O.Exit (value_at xs 0)

-- a statement whose expressions have values; a Break or Continue that nothing in front takes is wrong
abbrev pub offered : List FunctionOf → Places → Statement → After → List Val → Offer
offered fs at (Store c a e) k xs = O.Store c (value_at xs 0) (value_at xs 1)
offered fs at (Call t type f args) k xs = call_offer (callee_of fs at type (value_at xs 0))
offered fs at (External t name type args) k xs = external_offer name (words_of xs)
offered fs at (Builtin t b args) k xs = builtin_offer b xs
offered fs at (If e a b) k xs = choice_offer (value_at xs 0)
offered fs at (Switch e groups l) k xs = choice_offer (value_at xs 0)
offered fs at Break Empty xs = O.Wrong
offered fs at Continue Empty xs = O.Wrong
offered fs at Continue (Step a b k) xs = O.Wrong
offered fs at _ k xs = O.Silent

abbrev pub due_offer : List FunctionOf → Places → Statement → After → Due → Offer
due_offer fs at s k (Ready xs) = offered fs at s k xs
due_offer fs at s k Wrong = O.Wrong
due_offer fs at s k (Reads c a) = O.Load c a

-- the object that was placed last
abbrev pub last_placed : List Placed → Option Placed
last_placed placed = slice_get placed (length placed - 1)

abbrev pub end_offer : Bool → Val → Offer
end_offer true v = O.Exit v
end_offer false v = O.End

abbrev pub leave_offer : Option Placed → List CallerOf → Bool → Val → Offer
leave_offer (Some p) cs first v = O.Lift p.base p.size
leave_offer None (c ∷ cs) first v = O.Silent
leave_offer None [] first v = end_offer first v

abbrev pub scope_at : Places → State → Scope
scope_at at t = record { temps = t.temps; placed = t.placed; names = at }

abbrev pub offer_doing : List FunctionOf → Places → State → Doing → Offer
offer_doing fs at t (Enter args stored) = entry_offer (entry_of t.function t.placed stored) t.placed args
offer_doing fs at t (Run vs s k) = due_offer fs at s k (due_in (scope_at at t) vs s)
offer_doing fs at t (Leave v) = leave_offer (last_placed t.placed) t.callers t.is_first v
offer_doing fs at t (Wait into k) = O.Wait

-- what a thread offers
abbrev pub offer_of : List FunctionOf → Places → State → Offer
offer_of fs at t = offer_doing fs at t t.doing

-- the value of an answer; nothing is known where there is none
abbrev pub answer_value : Answer → Val
answer_value Nothing = Undef
answer_value (Value v) = v

-- one more placed object, at the answered base
abbrev pub placed_at : List Placed → ℕ → Val → List Placed
placed_at placed size Undef = placed
placed_at placed size (Word base) = placed ++ record { base = base; size = size } ∷ []

-- the temporaries of a new call: not known, but for the parameters that are taken
abbrev pub take_argument : List Val → List Val → Taken → List Val
take_argument args ts t = slice_set ts t.temp (value_at args t.argument)

abbrev pub begun : FunctionOf → List Val → List Val
begun f args = fold (take_argument args) (replicate f.temps Undef) f.taken

-- so many parameters are stored
abbrev pub with_stored : Doing → ℕ → Doing
with_stored (Enter args stored) n = Enter args n
with_stored d n = d

abbrev pub entered : State → List Val → Answer → E.Entry → State
entered t args a (W.Place l) = record t { placed = placed_at t.placed l.size (answer_value a) }
entered t args a (W.Store k next) = record t { doing = with_stored t.doing next }
entered t args a W.Begin = record t { temps = begun t.function args; doing = Run [] (Block t.function.body) Empty }

-- where a statement other than a call leads, in a function that is main or another
abbrev pub end_value : Bool → Val
end_value true = Word 0
end_value false = Undef

abbrev pub skipped : Bool → After → Doing
skipped main Empty = Leave (end_value main)
skipped main (Rest l k) = Run [] (Block l) k
skipped main (Body a b k) = Run [] b (Step a b k)
skipped main (Step a b k) = Run [] (Loop a b) k
skipped main (Switched k) = Run [] Skip k

abbrev pub broken : After → Doing
broken Empty = Run [] Break Empty
broken (Rest l k) = Run [] Break k
broken (Body a b k) = Run [] Skip k
broken (Step a b k) = Run [] Skip k
broken (Switched k) = Run [] Skip k

abbrev pub continued : After → Doing
continued Empty = Run [] Continue Empty
continued (Rest l k) = Run [] Continue k
continued (Body a b k) = Run [] b (Step a b k)
continued (Step a b k) = Run [] Continue (Step a b k)
continued (Switched k) = Run [] Continue k

abbrev pub unfolded : Statements → After → Doing
unfolded Nil k = Run [] Skip k
unfolded (Cons s l) k = Run [] s (Rest l k)

abbrev pub chosen : Val → Statement → Statement → After → Doing
chosen Undef a b k = Run [] Skip k
chosen (Word zero) a b k = Run [] b k
chosen (Word (suc n)) a b k = Run [] a k

abbrev pub switched : Option ℕ → Statements → After → Doing
switched None l k = Run [] Skip k
switched (Some n) l k = Run [] (Block (statements_from l n)) (Switched k)

abbrev pub led : Bool → Statement → After → List Val → Doing
led main Skip k xs = skipped main k
led main (Set t e) k xs = Run [] Skip k
led main (Store c a e) k xs = Run [] Skip k
led main (Call t type f args) k xs = Run [] Skip k
led main (External t name type args) k xs = Wait t k
led main (Builtin t b args) k xs = Run [] Skip k
led main (Block l) k xs = unfolded l k
led main (If e a b) k xs = chosen (value_at xs 0) a b k
led main (Loop a b) k xs = Run [] a (Body a b k)
led main (Switch e groups l) k xs = switched (chosen_from (value_at xs 0) groups) l k
led main Break k xs = broken k
led main Continue k xs = continued k
led main (Return e) k xs = Leave (value_at xs 0)

-- the temporaries behind a statement: a Set has its value, and a builtin its answer
abbrev pub set_by : Statement → List Val → Answer → List Val → List Val
set_by (Set t e) xs a ts = slice_set ts t (value_at xs 0)
set_by (Builtin t b args) xs a ts = slice_set ts t (answer_value a)
set_by _ xs a ts = ts

abbrev pub main_name : Names
main_name = 109 ∷ 97 ∷ 105 ∷ 110 ∷ []

abbrev pub is_main : FunctionOf → Bool
is_main f = pointwise nat_eq f.name main_name

-- a thread that enters a function
abbrev pub entering : Bool → FunctionOf → List Val → State
entering first f args = record { is_first = first; function = f; temps = []; placed = []; doing = Enter args 0; callers = [] }

-- a call of a function, or none and the thread stays
abbrev pub called : State → ℕ → After → List Val → Option FunctionOf → State
called t into k args None = t
called t into k args (Some f) =
    record t {
      function = f;
      temps = [];
      placed = [];
      doing = Enter args 0;
      callers = record { function = t.function; temps = t.temps; placed = t.placed; into = into; rest = k } ∷ t.callers;
    }

abbrev pub ruled : List FunctionOf → Places → State → Statement → After → Answer → List Val → State
ruled fs at t (Call i type f args) k a xs = called t i k (drop 1 xs) (callee_of fs at type (value_at xs 0))
ruled fs at t s k a xs = record t { temps = set_by s xs a t.temps; doing = led (is_main t.function) s k xs }

abbrev pub answers_with : List Val → Answer → List Val
answers_with vs Nothing = vs
answers_with vs (Value v) = vs ++ v ∷ []

-- one more answer to the reads of the statement that runs
abbrev pub with_answer : Doing → Answer → Doing
with_answer (Run vs s k) a = Run (answers_with vs a) s k
with_answer d a = d

abbrev pub due_resumed : List FunctionOf → Places → State → Statement → After → Answer → Due → State
due_resumed fs at t s k a (Ready xs) = ruled fs at t s k a xs
due_resumed fs at t s k a Wrong = t
due_resumed fs at t s k a (Reads c p) = record t { doing = with_answer t.doing a }

-- the object that was placed last is lifted; then the value goes into the temporary of the caller
abbrev pub left : State → Val → Option Placed → List CallerOf → State
left t v (Some p) cs = record t { placed = take (length t.placed - 1) t.placed }
left t v None [] = t
left t v None (c ∷ cs) =
    record { is_first = t.is_first; function = c.function; temps = slice_set c.temps c.into v; placed = c.placed; doing = Run [] Skip c.rest; callers = cs }

abbrev pub resumed_doing : List FunctionOf → Places → State → Answer → Doing → State
resumed_doing fs at t a (Enter args stored) = entered t args a (entry_of t.function t.placed stored)
resumed_doing fs at t a (Run vs s k) = due_resumed fs at t s k a (due_in (scope_at at t) vs s)
resumed_doing fs at t a (Leave v) = left t v (last_placed t.placed) t.callers
resumed_doing fs at t a (Wait into k) = record t { temps = slice_set t.temps into (answer_value a); doing = Run [] Skip k }

abbrev pub IsRunning : Doing → Type 0
IsRunning (Run vs s k) = Unit {0}
IsRunning d = ⊥

abbrev pub IsEntering : Doing → Type 0
IsEntering (Enter args stored) = Unit {0}
IsEntering d = ⊥

abbrev pub IsWaiting : Doing → Type 0
IsWaiting (Wait into k) = Unit {0}
IsWaiting d = ⊥

-- where a thread is after an answer
abbrev pub resumed : List FunctionOf → Places → State → Answer → State
resumed fs at t a = resumed_doing fs at t a t.doing
