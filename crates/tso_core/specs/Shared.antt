-- What the threads of a machine share, and what each offer of a thread does to it (x86-TSO of Owens, Sarkar and Sewell 2009 for stores, fences and atomics; the objects of locals wait in the buffers, as in ClightTSO). A relation of old and new state by cases; the code changes in place.
use Rattle.std.specs.Prelude.{ℕ, zero, suc, ◌+◌, ◌%◌, ◌^◌, Bool, true, false, not, List, [], ◌∷◌, ◌++◌, length, Option, Some, None, ◌==◌, ◌&&◌, nat_lt, nat_le, if◌then◌else◌, slice_get, slice_set}
use Rattle.std.specs.List.{list_all}
use Rattle.tso_words.specs.declared.value.Val.{Val}
use Rattle.tso_words.specs.declared.value.Val.TheVariants.{Undef, Word}
use Rattle.tso_words.specs.declared.value.Cell.TheVariants.{Blank}
use Rattle.tso_words.specs.declared.value.Chunk.TheVariants.{I32}
use Rattle.tso_words.specs.declared.operator.Op.TheVariants as W
use Rattle.tso_words.specs.declared.operator.Cond.TheVariants as C
use Rattle.tso_words.specs.Operators.{operate, compare}
use Rattle.tso_memory.specs.declared.object.Object.{Object}
use Rattle.tso_memory.specs.declared.object.Kind.{Kind}
use Rattle.tso_memory.specs.declared.object.Kind.TheVariants.{Static, Heap, Local}
use Rattle.tso_memory.specs.declared.buffer.Item.{Item}
use Rattle.tso_memory.specs.declared.buffer.Item.TheVariants.{Put, Place, Lift}
use Rattle.tso_memory.specs.Memory.{MemoryMeaning, meets, load, put, only, added, removed}
use Rattle.tso_memory.specs.Buffer.{applied, view, loaded, is_place_allowed}
use Rattle.tso_core.specs.declared.Event.TheVariants as E
use Rattle.tso_core.specs.declared.offer.Atomic.{Atomic}
use Rattle.tso_core.specs.declared.offer.Atomic.TheVariants as A
use Rattle.tso_core.specs.declared.offer.Offer.{Offer}
use Rattle.tso_core.specs.declared.offer.Offer.TheVariants as O
use Rattle.tso_core.specs.declared.offer.Answer.{Answer}
use Rattle.tso_core.specs.declared.offer.Answer.TheVariants.{Nothing, Value}
use Rattle.tso_core.specs.declared.offer.Now.{Now}
use Rattle.tso_core.specs.declared.offer.Now.TheVariants as N
use Rattle.tso_core.specs.Threads.{Effect, Refused, Goes, Stops, Spawns, Base}

pub record Shared : Type 0 where
  pub memory : MemoryMeaning
  -- of the threads in order of creation
  pub buffers : List (List Item)
  pub ended : ℕ → Bool
  pub now : Now

-- an effect on it; a further thread is given its function and argument
abbrev pub Eff : Type 0
Eff = Effect Shared Answer (Val × Val)

abbrev pub items_or_none : Option (List Item) → List Item
items_or_none None = []
items_or_none (Some items) = items

abbrev pub buffer_of : Shared → ℕ → List Item
buffer_of sh i = items_or_none (slice_get sh.buffers i)

-- a Put waits among the items
abbrev pub holds_put : List Item → Bool
holds_put [] = false
holds_put (Put chunk addr val ∷ is) = true
holds_put (Place base size ∷ is) = holds_put is
holds_put (Lift base size ∷ is) = holds_put is

-- the size of the live heap block with this base
abbrev pub is_heap : Kind → Bool
is_heap Static = false
is_heap Heap = true
is_heap Local = false

abbrev pub heap_at : List Object → ℕ → Option ℕ
heap_at [] base = None
heap_at (o ∷ os) base = if (o.base == base) && is_heap o.kind then Some o.size else heap_at os base

-- a block of no bytes takes one
abbrev pub block_size : ℕ → ℕ
block_size zero = 1
block_size (suc n) = suc n

-- a heap block may begin here: its base is a multiple of 16, and its range lies in the heap and meets no live object
abbrev pub is_block_allowed : List Object → (base size : ℕ) → Bool
is_block_allowed os base size = (base % 16 == 0) && (nat_le 0x30000000 base && (nat_le (base + size) 0x90000000 && list_all (λ o. not (meets o.base o.size base size)) os))

abbrev pub block : (base size : ℕ) → Object
block base size = record { base = base; size = size; kind = Heap }

-- what a location has after an atomic step, from the old value; None where a compared value is not known
abbrev pub compared : (old desired : Val) → Option Bool → Option Val
compared old desired None = None
compared old desired (Some same) = Some (if same then desired else old)

abbrev pub exchanged : Atomic → (old expected desired : Val) → Option Val
exchanged A.Cas old expected desired = compared old desired (compare C.Eq old expected)
exchanged A.Add old expected desired = operate W.Add (old ∷ desired ∷ [])
exchanged A.Xchg old expected desired = Some desired

abbrev pub failed : Shared → Shared
failed sh = record sh { now = N.Wrong }

abbrev pub wrong : Shared → Eff
wrong sh = Stops None (failed sh)

-- an item behind those of a buffer
abbrev pub pushed : Shared → ℕ → Item → Shared
pushed sh i item = record sh { buffers = slice_set sh.buffers i (buffer_of sh i ++ item ∷ []) }

-- only with an empty buffer; only where a test holds
abbrev pub if_empty : List Item → Eff → Eff
if_empty [] e = e
if_empty (i ∷ is) e = Refused

abbrev pub when : Bool → Eff → Eff
when true e = e
when false e = Refused

abbrev pub answered : Shared → Option Val → Eff
answered sh None = wrong sh
answered sh (Some v) = Goes (Value v) None sh

-- an atomic step: the old value is answered, the new one is in memory at once
abbrev pub stored : Shared → Val → Option MemoryMeaning → Eff
stored sh old None = wrong sh
stored sh old (Some m) = Goes (Value old) None (record sh { memory = m })

abbrev pub swapped : Shared → Val → Val → Option Val → Eff
swapped sh addr old None = wrong sh
swapped sh addr old (Some v) = stored sh old (put sh.memory I32 addr v)

abbrev pub swapped_at : Shared → Atomic → Val → Val → Val → Option Val → Eff
swapped_at sh kind addr expected desired None = wrong sh
swapped_at sh kind addr expected desired (Some old) = swapped sh addr old (exchanged kind old expected desired)

-- a heap block at the base that is chosen; 0 is the want of heap
abbrev pub given_at : Shared → ℕ → ℕ → Eff
given_at sh n zero = Stops None (record sh { now = N.NoHeap })
given_at sh n (suc b) =
    when (is_block_allowed sh.memory.objects (suc b) (block_size n)) (Goes (Value (Word (suc b))) None (record sh { memory = added (block (suc b) (block_size n)) Blank sh.memory }))

abbrev pub given : Shared → Val → Option ℕ → Eff
given sh Undef None = wrong sh
given sh Undef (Some base) = Refused
given sh (Word n) None = Refused
given sh (Word n) (Some base) = given_at sh n base

-- a block ends; 0 does nothing, and what is no live block's base is wrong
abbrev pub freed : Shared → ℕ → Option ℕ → Eff
freed sh a None = wrong sh
freed sh a (Some size) = Goes Nothing None (record sh { memory = only (removed a sh.memory.objects) sh.memory })

abbrev pub freed_at : Shared → Val → Eff
freed_at sh Undef = wrong sh
freed_at sh (Word zero) = Goes Nothing None sh
freed_at sh (Word (suc a)) = freed sh (suc a) (heap_at sh.memory.objects (suc a))

abbrev pub exited : Shared → Val → Eff
exited sh Undef = wrong sh
exited sh (Word w) = Stops (Some (E.Exit w)) (record sh { now = N.Exited })

-- a further thread with an empty buffer, below the limit of threads
abbrev pub spawned : Shared → Val → Val → Eff
spawned sh fun arg =
    when (nat_lt (length sh.buffers) 4294967295) (Spawns (fun, arg) (Value (Word (length sh.buffers))) (record sh { buffers = sh.buffers ++ [] ∷ [] }))

-- the effect of an offer of thread i with a choice, or with none; a choice where none is taken is refused
abbrev pub effect_of : Offer → ℕ → Option ℕ → Shared → Eff
effect_of (O.Load chunk addr) i None sh = answered sh (loaded (view sh.memory (buffer_of sh i)) chunk addr)
effect_of (O.Store chunk addr val) i None sh = Goes Nothing None (pushed sh i (Put chunk addr val))
effect_of (O.Place size align) i (Some base) sh =
    when (is_place_allowed sh.memory.objects sh.buffers i base size align) (Goes (Value (Word base)) None (pushed sh i (Place base size)))
effect_of (O.Lift base size) i None sh = Goes Nothing None (pushed sh i (Lift base size))
effect_of O.Fence i None sh = if_empty (buffer_of sh i) (Goes Nothing None sh)
effect_of (O.Atomic kind addr expected desired) i None sh =
    if_empty (buffer_of sh i) (swapped_at sh kind addr expected desired (load sh.memory I32 addr))
effect_of (O.Malloc size) i c sh = if_empty (buffer_of sh i) (given sh size c)
effect_of (O.Free addr) i None sh = if_empty (buffer_of sh i) (freed_at sh addr)
effect_of (O.Start fun arg) i None sh = if_empty (buffer_of sh i) (spawned sh fun arg)
effect_of (O.Call name words) i None sh = Goes Nothing (Some (E.Call i name words)) sh
effect_of O.Wait i (Some w) sh = when (nat_lt w (2 ^ 32)) (Goes (Value (Word w)) (Some (E.Return i w)) sh)
effect_of (O.Exit word) i None sh = exited sh word
effect_of O.End i None sh = Stops None (record sh { ended = λ j. if j == i then true else sh.ended j })
effect_of _ i _ sh = Refused

-- the oldest item of a buffer reaches memory; one that is wrong makes the machine wrong
abbrev pub put_on : Shared → ℕ → List Item → Option MemoryMeaning → Shared
put_on sh i rest None = failed sh
put_on sh i rest (Some m) = record sh { memory = m; buffers = slice_set sh.buffers i rest }

abbrev pub drained_by : Shared → ℕ → List Item → Option Shared
drained_by sh i [] = None
drained_by sh i (item ∷ rest) = Some (put_on sh i rest (applied sh.memory item))

abbrev pub is_start : Offer → Bool
is_start (O.Start fun arg) = true
is_start _ = false

abbrev pub word_of : Val → Option ℕ
word_of Undef = None
word_of (Word n) = Some n

-- the size that a Malloc asks for
abbrev pub asked : Offer → Option ℕ
asked (O.Malloc size) = word_of size
asked _ = None

-- the shared part of every machine over a thread language
abbrev pub shared_part : Base
shared_part =
    record {
      Shared = Shared;
      Op = Offer;
      Answer = Answer;
      Arg = Val × Val;
      now = λ sh. sh.now;
      has_ended = λ sh i. sh.ended i;
      has_put = λ sh i. holds_put (buffer_of sh i);
      heap = λ sh base. heap_at sh.memory.objects base;
      effect = effect_of;
      drain = λ i sh. drained_by sh i (buffer_of sh i);
      fail = failed;
      is_start = is_start;
      asks = asked;
    }
