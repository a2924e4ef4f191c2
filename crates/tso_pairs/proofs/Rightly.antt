-- What keeps the stores of a buffer right in their turn.
use Rattle.std.proofs.Common.{◌≡◌, ℕ, Bool, true, false, not, List, [], ◌∷◌, Some, None, refl, sym, ap, subst, ◌∙◌}
use Rattle.std.specs.Prelude.{◌&&◌, ◌||◌, ◌==◌, ◌%◌, IsSome, if◌then◌else◌}
use Rattle.std.specs.List.{list_any, filter}
use Rattle.std.proofs.lemmas.Bool.{or_parts, or_right}
use Rattle.tso_words.specs.declared.value.Val.{Val}
use Rattle.tso_words.specs.declared.value.Val.TheVariants.{Undef, Word}
use Rattle.tso_words.specs.declared.value.Chunk.{Chunk}
use Rattle.tso_words.specs.Words.{chunk_size}
use Rattle.tso_memory.specs.declared.object.Object.{Object}
use Rattle.tso_memory.specs.declared.buffer.Item.TheVariants.{Put, Place, Lift}
use Rattle.tso_memory.specs.Memory.{MemoryMeaning, cells_put, is_right, holds, is_met, is_at, inserted, unmet}
use Rattle.tso_memory.specs.Buffer.{applied, and_then, view, local}
use Rattle.tso_memory.proofs.MemoryLaws.{view-push}
use Rattle.tso_core.proofs.Places.{any_inserted}
use Rattle.tso_pairs.specs.Rightness.{IsRightBuffer, HasObjects, MoreObjectsKeepRight, StoreKeepsObjects, NewObjectKeepsObjects, PlaceKeepsObjects, PushKeepsRight, DrainKeepsRight}

both : (a b : Bool) → (a && b) ≡ true → (a ≡ true) × (b ≡ true)
both true b e = (refl, e)
both false b e = cc

joined : (a b : Bool) → a ≡ true → b ≡ true → (a && b) ≡ true
joined true b e f = f
joined false b e f = e

-- lists of objects of which each is in another
abbrev Among : List Object → List Object → Type 0
Among os qs = (test : Object → Bool) → list_any test os ≡ true → list_any test qs ≡ true

any_filter : (p test : Object → Bool) (os : List Object) → list_any test (filter p os) ≡ list_any (λ o. p o && test o) os
any_filter p test [] = refl
any_filter p test (o ∷ os) = go (p o) (any_filter p test os)
  where
    go : (b : Bool) → list_any test (filter p os) ≡ list_any (λ q. p q && test q) os → list_any test (if b then o ∷ filter p os else filter p os) ≡ ((b && test o) || list_any (λ q. p q && test q) os)
    go true e = ap (λ z. test o || z) e
    go false e = e

among_filter : (p : Object → Bool) (os qs : List Object) → Among os qs → Among (filter p os) (filter p qs)
among_filter p os qs h test e = any_filter p test qs ∙ h (λ o. p o && test o) (sym (any_filter p test os) ∙ e)

among_inserted : (o : Object) (os qs : List Object) → Among os qs → Among (inserted o os) (inserted o qs)
among_inserted o os qs h test e = any_inserted test o qs ∙ go (test o) (sym (any_inserted test o os) ∙ e)
  where
    go : (b : Bool) → (b || list_any test os) ≡ true → (b || list_any test qs) ≡ true
    go true f = refl
    go false f = h test f

right_among : (os qs : List Object) (c : Chunk) (addr : Val) → Among os qs → is_right os c addr ≡ true → is_right qs c addr ≡ true
right_among os qs c Undef h e = e
right_among os qs c (Word a) h e =
    let parts = both (a % chunk_size c == 0) (list_any (λ o. holds o a (chunk_size c)) os) e in
    joined (a % chunk_size c == 0) (list_any (λ o. holds o a (chunk_size c)) qs) parts.0 (h (λ o. holds o a (chunk_size c)) parts.1)

pub more_objects : MoreObjectsKeepRight
more_objects m n [] h e = refl
more_objects m n (Put c a v ∷ is) h e = go (is_right m.objects c a) (is_right n.objects c a) (right_among m.objects n.objects c a h) refl refl (λ k j. more_objects k j is) e
  where
    with_put : MemoryMeaning → MemoryMeaning
    with_put k = record k { cells = cells_put k.cells c a v }

    go : (b d : Bool) → (is_right m.objects c a ≡ true → is_right n.objects c a ≡ true) → is_right m.objects c a ≡ b → is_right n.objects c a ≡ d → ((k j : MemoryMeaning) → HasObjects k j → IsRightBuffer k is → IsRightBuffer j is) → IsSome (and_then (if b then Some (with_put m) else None) (λ k. view k is)) → IsSome (and_then (if d then Some (with_put n) else None) (λ k. view k is))
    go false d right p q later f = cc
    go true false right p q later f = let r : is_right n.objects c a ≡ true = right p in cc
    go true true right p q later f = later (with_put m) (with_put n) h f
more_objects m n (Place b k ∷ is) h e = more_objects _ _ is (among_inserted (local b k) (unmet b k m.objects) (unmet b k n.objects) (among_filter (λ o. not (is_met b k o)) m.objects n.objects h)) e
more_objects m n (Lift b k ∷ is) h e = more_objects _ _ is (among_filter (λ o. not (is_at b k o)) m.objects n.objects h) e

same_memory : (m n : MemoryMeaning) → Some m ≡ Some n → m ≡ n
same_memory m n e = cc

pub store_keeps : StoreKeepsObjects
store_keeps m n c addr v e test f = go (is_right m.objects c addr) e
  where
    go : (b : Bool) → (if b then Some (let k : MemoryMeaning = record m { cells = cells_put m.cells c addr v } in k) else None) ≡ Some n → list_any test n.objects ≡ true
    go true g = subst (λ k. list_any test k.objects ≡ true) (same_memory (record m { cells = cells_put m.cells c addr v }) n g) f
    go false g = cc

pub new_object_keeps : NewObjectKeepsObjects
new_object_keeps m o cell test e = any_inserted test o m.objects ∙ or_right (test o) (list_any test m.objects) e

unmet_all : (base size : ℕ) (os : List Object) → list_any (is_met base size) os ≡ false → unmet base size os ≡ os
unmet_all base size [] e = refl
unmet_all base size (o ∷ os) e = go (is_met base size o) (or_parts (is_met base size o) (list_any (is_met base size) os) e).0 (unmet_all base size os (or_parts (is_met base size o) (list_any (is_met base size) os) e).1)
  where
    go : (b : Bool) → b ≡ false → unmet base size os ≡ os → (if not b then o ∷ unmet base size os else unmet base size os) ≡ o ∷ os
    go true f g = cc
    go false f g = ap (λ l. o ∷ l) g

pub place_keeps : PlaceKeepsObjects
place_keeps m n base size e f test g =
    subst (λ k. list_any test k.objects ≡ true) (same_memory _ n f)
    (any_inserted test (local base size) (unmet base size m.objects)
    ∙ or_right (test (local base size)) (list_any test (unmet base size m.objects)) (ap (list_any test) (unmet_all base size m.objects e) ∙ g))

pub push_keeps : PushKeepsRight
push_keeps m n items i e f = subst (λ o. IsSome o) (sym (view-push m items i ∙ ap (λ o. and_then o (λ k. applied k i)) e)) f

pub drain_keeps : DrainKeepsRight
drain_keeps m n i items e f = subst (λ o. IsSome (and_then o (λ k. view k items))) e f
