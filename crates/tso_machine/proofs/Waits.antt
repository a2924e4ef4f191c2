-- The effect of an offer where the buffer of its thread is known to be empty, or not.
use Rattle.std.proofs.Common.{◌≡◌, ◌<◌, ℕ, suc, true, false, List, [], ◌∷◌, length, get_or, Option, Some, None, refl, sym, ap, arith, ◌∙◌}
use Rattle.std.specs.Prelude.{map, slice_get, ◌==◌}
use Rattle.std.specs.Option.{is_some}
use Rattle.std.proofs.lemmas.Option.{slice_get-get_or}
use Rattle.tso_words.specs.declared.value.Val.{Val}
use Rattle.tso_words.specs.declared.value.Chunk.{Chunk}
use Rattle.tso_words.specs.declared.value.Chunk.TheVariants.{I32}
use Rattle.tso_memory.specs.declared.buffer.Item.{Item}
use Rattle.tso_memory.specs.Buffer.{BufferMeaning, loaded, view}
use Rattle.tso_memory.specs.Memory.{load}
use Rattle.tso_core.specs.declared.offer.Atomic.{Atomic}
use Rattle.tso_core.specs.declared.offer.Offer.TheVariants as O
use Rattle.tso_core.specs.Threads.{Refused}
use Rattle.tso_core.specs.Shared.{Shared, buffer_of, items_or_none, if_empty, answered, effect_of, swapped_at}
use Rattle.tso_machine.proofs.MapLists.{get_map}

pub buffer_found : (bs : List BufferMeaning) (i : ℕ) (b : BufferMeaning) → i < length bs → b ≡ get_or bs i b → items_or_none (slice_get (map (λ x. x.items) bs) i) ≡ b.items
buffer_found bs i b lt e = ap items_or_none (get_map (λ x. x.items) bs i b (slice_get-get_or bs i b lt ∙ ap Some (sym e)))

some_item : (x : Item) (is : List Item) → (length (x ∷ is) == 0) ≡ true → ⊥
some_item x is e = let p : length (x ∷ is) ≡ suc (length is) = refl in grind arith

pub atomic_full : (kind : Atomic) (a x d : Val) (i : ℕ) (c : Option ℕ) (sh : Shared) (is : List Item) → false ≡ is_some c → buffer_of sh i ≡ is → (length is == 0) ≡ false → effect_of (O.Atomic kind a x d) i c sh ≡ Refused
atomic_full kind a x d i (Some n) sh is h e g = cc
atomic_full kind a x d i None sh [] h e g = cc
atomic_full kind a x d i None sh (y ∷ is) h e g = ap (λ z. if_empty z (swapped_at sh kind a x d (load sh.memory I32 a))) e

pub atomic_empty : (kind : Atomic) (a x d : Val) (i : ℕ) (c : Option ℕ) (sh : Shared) (is : List Item) → false ≡ is_some c → buffer_of sh i ≡ is → (length is == 0) ≡ true → effect_of (O.Atomic kind a x d) i c sh ≡ swapped_at sh kind a x d (load sh.memory I32 a)
atomic_empty kind a x d i (Some n) sh is h e g = cc
atomic_empty kind a x d i None sh [] h e g = ap (λ z. if_empty z (swapped_at sh kind a x d (load sh.memory I32 a))) e
atomic_empty kind a x d i None sh (y ∷ is) h e g = absurd (some_item y is g)

pub load_found : (chunk : Chunk) (a v : Val) (i : ℕ) (c : Option ℕ) (sh : Shared) → false ≡ is_some c → loaded (view sh.memory (buffer_of sh i)) chunk a ≡ Some v → effect_of (O.Load chunk a) i c sh ≡ answered sh (Some v)
load_found chunk a v i (Some n) sh h e = cc
load_found chunk a v i None sh h e = ap (answered sh) e
