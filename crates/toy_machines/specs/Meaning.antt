-- What the threads of a script do (of this project's own making: a thread does the deeds of a list in order, whatever it is answered, and then ends).
use Rattle.std.specs.Prelude.{◌≡◌, ◌≢◌, ℕ, ◌+◌, List, [], ◌∷◌, length, Option, Some, None, nat_lt, if◌then◌else◌, slice_get, refl, Bool, true, false}
use Rattle.std.proofs.Common.{ap, sym}
use Rattle.tso_words.specs.declared.value.Val.{Val}
use Rattle.tso_words.specs.declared.value.Val.TheVariants.{Undef, Word}
use Rattle.tso_words.specs.declared.value.Chunk.TheVariants.{I32}
use Rattle.tso_core.specs.declared.offer.Atomic.TheVariants.{Xchg}
use Rattle.tso_core.specs.declared.offer.Offer.{Offer}
use Rattle.tso_core.specs.declared.offer.Offer.TheVariants as O
use Rattle.tso_core.specs.declared.offer.Answer.{Answer}
use Rattle.tso_core.specs.declared.offer.Answer.TheVariants.{Nothing, Value}
use Rattle.tso_core.specs.Systems.{Names, GlobalsOf}
use Rattle.tso_core.specs.Language.{Language, RangesAfter, IsLawful}
use Rattle.toy_machines.specs.declared.script.Deed.{Deed}
use Rattle.toy_machines.specs.declared.script.Deed.TheVariants as D
use Rattle.toy_machines.specs.declared.script.Thread.{Thread}

-- the one global of every script: 8 bytes, the first of which is 7
abbrev pub x : Names
x = 120 ∷ []

abbrev pub x_alone : GlobalsOf
x_alone = record { functions = []; objects = (x, 8, 4, 7 ∷ []) ∷ [] }

-- a local is begun where the thread has none, and ended where it has one
abbrev pub place_offer : Option ℕ → Offer
place_offer None = O.Place 4 4
place_offer (Some base) = O.Silent

abbrev pub lift_offer : Option ℕ → Offer
lift_offer None = O.Silent
lift_offer (Some base) = O.Lift base 4

-- the offer of a deed, with the local of the thread and the value that it was answered last
abbrev pub offers : Option Deed → Option ℕ → Val → Offer
offers None local v = O.End
offers (Some D.Silent) local v = O.Silent
offers (Some (D.Load a)) local v = O.Load I32 (Word a)
offers (Some (D.Store a w)) local v = O.Store I32 (Word a) (Word w)
offers (Some D.Place) local v = place_offer local
offers (Some D.Lift) local v = lift_offer local
offers (Some D.Fence) local v = O.Fence
offers (Some (D.Swap a w)) local v = O.Atomic Xchg (Word a) Undef (Word w)
offers (Some (D.Malloc n)) local v = O.Malloc (Word n)
offers (Some D.MallocUnknown) local v = O.Malloc Undef
offers (Some (D.Free a)) local v = O.Free (Word a)
offers (Some (D.Start f)) local v = O.Start (Word f) (Word 0)
offers (Some D.Call) local v = O.Call x (7 ∷ [])
offers (Some D.Wait) local v = O.Wait
offers (Some D.Exit) local v = O.Exit v
offers (Some D.Wrong) local v = O.Wrong

-- the local after an answer, and the last value
abbrev pub begun : Option ℕ → Answer → Option ℕ
begun None (Value (Word base)) = Some base
begun local a = local

abbrev pub local_after : Option Deed → Option ℕ → Answer → Option ℕ
local_after (Some D.Place) local a = begun local a
local_after (Some D.Lift) local a = None
local_after d local a = local

abbrev pub value_after : Val → Answer → Val
value_after v Nothing = v
value_after v (Value w) = w

abbrev pub next_after : List Deed → ℕ → ℕ
next_after deeds next = if nat_lt next (length deeds) then next + 1 else next

abbrev pub first_thread : Thread
first_thread = record { next = 0; local = None; value = Undef }

-- a thread may be started at the address 1
abbrev pub started_at : Val → Option Thread
started_at Undef = None
started_at (Word f) = if nat_lt f 1 then None else (if nat_lt f 2 then Some first_thread else None)

abbrev pub ranges_of : Option ℕ → List (ℕ × ℕ)
ranges_of None = []
ranges_of (Some base) = (base, 4) ∷ []

abbrev pub open_language : List Deed → Language Thread
open_language deeds =
    record {
      globals = x_alone;
      stated = λ f. None;
      first = λ at. first_thread;
      started = λ at fun arg. started_at fun;
      offer = λ at t. offers (slice_get deeds t.next) t.local t.value;
      resumed = λ at t a. record { next = next_after deeds t.next; local = local_after (slice_get deeds t.next) t.local a; value = value_after t.value a };
      calls = λ t. x ∷ [];
      ranges = λ t. ranges_of t.local;
    }

-- the same, shut
unfoldable pub language : List Deed → Language Thread
language deeds = open_language deeds

-- laws
has_call : x ∷ [] ≢ []
has_call e = cc

ranges_kept : (deeds : List Deed) (d : Option Deed) (local : Option ℕ) (v : Val) (a : Answer) → RangesAfter (open_language deeds) (offers d local v) a (ranges_of local) (ranges_of (local_after d local a))
ranges_kept deeds None local v a = refl
ranges_kept deeds (Some D.Silent) local v a = refl
ranges_kept deeds (Some (D.Load b)) local v a = refl
ranges_kept deeds (Some (D.Store b w)) local v a = refl
ranges_kept deeds (Some D.Place) None v Nothing = refl
ranges_kept deeds (Some D.Place) None v (Value Undef) = refl
ranges_kept deeds (Some D.Place) None v (Value (Word base)) = record { front = []; back = []; with_is = refl; without_is = refl }
ranges_kept deeds (Some D.Place) (Some b) v a = refl
ranges_kept deeds (Some D.Lift) None v a = refl
ranges_kept deeds (Some D.Lift) (Some b) v a = record { front = []; back = []; with_is = refl; without_is = refl }
ranges_kept deeds (Some D.Fence) local v a = refl
ranges_kept deeds (Some (D.Swap b w)) local v a = refl
ranges_kept deeds (Some (D.Malloc n)) local v a = refl
ranges_kept deeds (Some D.MallocUnknown) local v a = refl
ranges_kept deeds (Some (D.Free b)) local v a = refl
ranges_kept deeds (Some (D.Start f)) local v a = refl
ranges_kept deeds (Some D.Call) local v a = refl
ranges_kept deeds (Some D.Wait) local v a = refl
ranges_kept deeds (Some D.Exit) local v a = refl
ranges_kept deeds (Some D.Wrong) local v a = refl

started_ranges : (f : Val) (t : Thread) → started_at f ≡ Some t → ranges_of t.local ≡ []
started_ranges Undef t e = cc
started_ranges (Word f) t e = go (nat_lt f 1) (nat_lt f 2) e
  where
    same : (s u : Thread) → Some s ≡ Some u → s ≡ u
    same s u k = cc

    go : (b c : Bool) → (if b then None else (if c then Some first_thread else None)) ≡ Some t → ranges_of t.local ≡ []
    go true c k = cc
    go false false k = cc
    go false true k = let e : first_thread ≡ t = same first_thread t k in ap (λ s. ranges_of s.local) (sym e)

pub lawful : (deeds : List Deed) → IsLawful (language deeds)
unfolding language
lawful deeds =
    record {
      some_call = λ at s t. has_call;
      first_ranges = λ at. refl;
      started_ranges = λ at fun arg s e. started_ranges fun s e;
      resumed_ranges = λ at s a t k. ranges_kept deeds (slice_get deeds s.next) s.local s.value a;
    }
