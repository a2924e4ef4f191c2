-- That the live calls and ranges of ClightTSO's threads are as each language promises: what the trait of languages asks for.
use Rattle.std.specs.Prelude.{◌≡◌, ◌≢◌, ℕ, zero, suc, ◌+◌, ◌-◌, ◌<◌, ◌≤◌, Bool, true, false, List, [], ◌∷◌, ◌++◌, length, take, map, Option, Some, None, slice_get, refl}
use Rattle.std.specs.Option.{option_map}
use Rattle.std.proofs.Common.{sym, ap, ◌∙◌, subst, arith}
use Rattle.std.proofs.lemmas.Option.{slice_get-get_or}
use Rattle.tso_words.specs.declared.value.Val.{Val}
use Rattle.tso_words.specs.declared.value.Val.TheVariants.{Undef, Word}
use Rattle.tso_core.specs.declared.offer.Answer.{Answer}
use Rattle.tso_core.specs.declared.offer.Answer.TheVariants.{Nothing, Value}
use Rattle.tso_core.specs.Systems.{Names, Places}
use Rattle.tso_core.specs.Language.{Language, IsWithout, RangesAfter, IsLawful}
use Rattle.clight_lang.specs.declared.frame.Placed.{Placed}
use Rattle.clight_lang.specs.declared.offering.Entry as E
use Rattle.clight_lang.specs.declared.offering.Entry.TheVariants as W
use Rattle.clight_lang.specs.declared.statement.Builtin as BuiltinOf
use Rattle.clight_lang.specs.declared.statement.Builtin.TheVariants as B
use Rattle.clight_lang.specs.Syntax.{Expression, Statement, Skip, Set, Store, Call, External, Builtin, Block, If, Loop, Switch, Break, Continue, Return}
use Rattle.clight_lang.specs.Next.{value_at}
use Rattle.clight_lang.specs.State.{FunctionOf, After, Empty, Rest, Body, Step, Switched, Doing, Enter, Run, Leave, Wait, CallerOf, State}
use Rattle.clight_lang.specs.Rules.{Due, Ready, Wrong, Reads, due_in, due_offer, due_resumed, scope_at, callee_of, call_offer, called, external_offer, words_of, builtin_offer, choice_offer, entry_of, entry_offer, entered, entering, leave_offer, left, end_offer, last_placed, offered, ruled, offer_doing, resumed_doing}
use Rattle.clight_lang.specs.Meaning.{ProgramOf, thread_with, started_of, ranges_in, ranges_below, ranges_of, open_language, language}

-- a range at the end of a front, with what comes behind
put_behind : (xs : List Placed) (q : Placed) (r : List (ℕ × ℕ)) → ranges_in (xs ++ q ∷ []) ++ r ≡ ranges_in xs ++ (q.base, q.size) ∷ r
put_behind [] q r = refl
put_behind (x ∷ xs) q r = ap (λ l. (x.base, x.size) ∷ l) (put_behind xs q r)

some_none : {A : Type 0} (a : A) → None ≡ Some a → ⊥
some_none a e = cc

same_some : {A : Type 0} (a b : A) → Some a ≡ Some b → a ≡ b
same_some a b e = cc

-- the last of a list stands behind the others
last_is : (xs : List Placed) (i : ℕ) (q : Placed) → slice_get xs i ≡ Some q → length xs ≤ i + 1 → xs ≡ take i xs ++ q ∷ []
last_is [] i q e le = absurd (some_none q e)
last_is (x ∷ []) zero q e le = ap (λ y. y ∷ []) (same_some x q e)
last_is (x ∷ y ∷ ys) zero q e le = absurd (omega arith)
last_is (x ∷ xs) (suc i) q e le = ap (λ l. x ∷ l) (last_is xs i q e (omega arith))

none_is : (xs : List Placed) → slice_get xs (length xs - 1) ≡ None → xs ≡ []
none_is [] e = refl
none_is (x ∷ xs) e =
    absurd (some_none _ (sym e ∙ slice_get-get_or (x ∷ xs) (length (x ∷ xs) - 1) x (omega arith)))

lifts : (xs : List Placed) (q : Placed) (r : List (ℕ × ℕ)) → slice_get xs (length xs - 1) ≡ Some q → ranges_in xs ++ r ≡ ranges_in (take (length xs - 1) xs) ++ (q.base, q.size) ∷ r
lifts xs q r e =
    let n = length xs - 1 in
    let split : xs ≡ take (length xs - 1) xs ++ q ∷ [] = last_is xs (length xs - 1) q e (omega arith) in
    ap (λ l. ranges_in l ++ r) split ∙ put_behind (take (length xs - 1) xs) q r

module _ (l : Language State) (fs : List FunctionOf) (at : Places) where
  entry_ranges : (t : State) (args : List Val) (a : Answer) (e : E.Entry) → RangesAfter l (entry_offer e t.placed args) a (ranges_of t) (ranges_of (entered t args a e))
  entry_ranges t args Nothing (W.Place o) = refl
  entry_ranges t args (Value Undef) (W.Place o) = refl
  entry_ranges t args (Value (Word b)) (W.Place o) =
      record {
        front = ranges_in t.placed;
        back = ranges_below t.callers;
        with_is = put_behind t.placed (record { base = b; size = o.size }) (ranges_below t.callers);
        without_is = refl;
      }
  entry_ranges t args a (W.Store k n) = refl
  entry_ranges t args a W.Begin = refl

  call_ranges : (t : State) (into : ℕ) (k : After) (args : List Val) (a : Answer) (f : Option FunctionOf) → RangesAfter l (call_offer f) a (ranges_of t) (ranges_of (called t into k args f))
  call_ranges t into k args a None = refl
  call_ranges t into k args a (Some f) = refl

  external_ranges : (name : Names) (words : Option (List ℕ)) (a : Answer) (rs : List (ℕ × ℕ)) → RangesAfter l (external_offer name words) a rs rs
  external_ranges name None a rs = refl
  external_ranges name (Some words) a rs = refl

  builtin_ranges : (b : BuiltinOf.Builtin) (xs : List Val) (a : Answer) (rs : List (ℕ × ℕ)) → RangesAfter l (builtin_offer b xs) a rs rs
  builtin_ranges B.ThreadCreate xs a rs = refl
  builtin_ranges B.Fence xs a rs = refl
  builtin_ranges B.AtomicCas xs a rs = refl
  builtin_ranges B.AtomicAdd xs a rs = refl
  builtin_ranges B.AtomicXchg xs a rs = refl
  builtin_ranges B.Malloc xs a rs = refl
  builtin_ranges B.Free xs a rs = refl
  builtin_ranges B.Exit xs a rs = refl

  choice_ranges : (v : Val) (a : Answer) (rs : List (ℕ × ℕ)) → RangesAfter l (choice_offer v) a rs rs
  choice_ranges Undef a rs = refl
  choice_ranges (Word w) a rs = refl

  ruled_ranges : (t : State) (s : Statement) (k : After) (a : Answer) (xs : List Val) → RangesAfter l (offered fs at s k xs) a (ranges_of t) (ranges_of (ruled fs at t s k a xs))
  ruled_ranges t Skip k a xs = refl
  ruled_ranges t (Set i e) k a xs = refl
  ruled_ranges t (Store c p e) k a xs = refl
  ruled_ranges t (Call i type f args) k a xs = call_ranges t i k _ a (callee_of fs at type (value_at xs 0))
  ruled_ranges t (External i name type args) k a xs = external_ranges name (words_of xs) a (ranges_of t)
  ruled_ranges t (Builtin i b args) k a xs = builtin_ranges b xs a (ranges_of t)
  ruled_ranges t (Block b) k a xs = refl
  ruled_ranges t (If e b c) k a xs = choice_ranges (value_at xs 0) a (ranges_of t)
  ruled_ranges t (Loop b c) k a xs = refl
  ruled_ranges t (Switch e groups b) k a xs = choice_ranges (value_at xs 0) a (ranges_of t)
  ruled_ranges t Break Empty a xs = refl
  ruled_ranges t Break (Rest b k) a xs = refl
  ruled_ranges t Break (Body b c k) a xs = refl
  ruled_ranges t Break (Step b c k) a xs = refl
  ruled_ranges t Break (Switched k) a xs = refl
  ruled_ranges t Continue Empty a xs = refl
  ruled_ranges t Continue (Rest b k) a xs = refl
  ruled_ranges t Continue (Body b c k) a xs = refl
  ruled_ranges t Continue (Step b c k) a xs = refl
  ruled_ranges t Continue (Switched k) a xs = refl
  ruled_ranges t (Return e) k a xs = refl

  due_ranges : (t : State) (s : Statement) (k : After) (a : Answer) (d : Due) → RangesAfter l (due_offer fs at s k d) a (ranges_of t) (ranges_of (due_resumed fs at t s k a d))
  due_ranges t s k a (Ready xs) = ruled_ranges t s k a xs
  due_ranges t s k a Wrong = refl
  due_ranges t s k a (Reads c p) = refl

  end_ranges : (first : Bool) (v : Val) (a : Answer) (rs : List (ℕ × ℕ)) → RangesAfter l (end_offer first v) a rs rs
  end_ranges true v a rs = refl
  end_ranges false v a rs = refl

  leave_ranges : (t : State) (v : Val) (a : Answer) (o : Option Placed) (cs : List CallerOf) → last_placed t.placed ≡ o → t.callers ≡ cs → RangesAfter l (leave_offer o cs t.is_first v) a (ranges_of t) (ranges_of (left t v o cs))
  leave_ranges t v a (Some q) cs e f =
      record {
        front = ranges_in (take (length t.placed - 1) t.placed);
        back = ranges_below t.callers;
        with_is = lifts t.placed q (ranges_below t.callers) e;
        without_is = refl;
      }
  leave_ranges t v a None [] e f = end_ranges t.is_first v a (ranges_of t)
  leave_ranges t v a None (c ∷ cs) e f =
      sym (ap (λ p. ranges_in p ++ ranges_below t.callers) (none_is t.placed e) ∙ ap ranges_below f)

  doing_ranges : (t : State) (a : Answer) (d : Doing) → RangesAfter l (offer_doing fs at t d) a (ranges_of t) (ranges_of (resumed_doing fs at t a d))
  doing_ranges t a (Enter args stored) = entry_ranges t args a (entry_of t.function t.placed stored)
  doing_ranges t a (Run vs s k) = due_ranges t s k a (due_in (scope_at at t) vs s)
  doing_ranges t a (Leave v) = leave_ranges t v a (last_placed t.placed) t.callers refl refl
  doing_ranges t a (Wait into k) = refl

some_call : (t : State) → t.function.name ∷ map (λ c. c.function.name) t.callers ≢ []
some_call t e = cc

thread_ranges : (args : List Val) (f : Option FunctionOf) (t : State) → thread_with args f ≡ Some t → ranges_of t ≡ []
thread_ranges args None t e = absurd (some_none t e)
thread_ranges args (Some f) t e = sym (ap ranges_of (same_some (entering false f args) t e))

started_ranges : (fs : List FunctionOf) (at : Places) (fun arg : Val) (type : Option ℕ) (t : State) → started_of fs at fun arg type ≡ Some t → ranges_of t ≡ []
started_ranges fs at fun arg None t e = absurd (some_none t e)
started_ranges fs at fun arg (Some type) t e = thread_ranges (arg ∷ []) (callee_of fs at type fun) t e

pub lawful : (p : ProgramOf) → IsLawful (language p)
unfolding language
lawful p =
    record {
      some_call = λ at t i. some_call t;
      first_ranges = λ at. refl;
      started_ranges = λ at fun arg t e. started_ranges p.functions at fun arg p.thread_type t e;
      resumed_ranges = λ at t a i k. doing_ranges (open_language p) p.functions at t a t.doing;
    }
