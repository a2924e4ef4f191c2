-- What follows for whole buffers from what holds of each group.
use Rattle.std.proofs.Common.{◌≡◌, List, [], ◌∷◌, ◌++◌, Option, Some, None, refl, sym, ap, subst, ◌∙◌}
use Rattle.std.specs.Prelude.{◌||◌}
use Rattle.std.proofs.Math.Bool.{or_assoc}
use Rattle.std.proofs.lemmas.Bool.{or_parts, or_from}
use Rattle.std.proofs.lemmas.List.{append-nil}
use Rattle.tso_memory.specs.declared.buffer.Item.{Item}
use Rattle.tso_memory.specs.declared.buffer.Item.TheVariants.{Put, Place, Lift}
use Rattle.tso_memory.specs.Memory.{MemoryMeaning}
use Rattle.tso_memory.specs.Buffer.{view}
use Rattle.tso_memory.specs.Buffer as source
use Rattle.tso_memory.proofs.MemoryLaws.{view-append}
use Rattle.tso_core.specs.Shared.{holds_put}
use Rattle.tso_core.proofs.Lists.{none_some}
use Rattle.tso_pairs.specs.Groups.{Pairing, one_or_none, and_then, sources, targets, target_view, holds_write, Fit, ArePaired, KeepsPair, ViewsPaired, Drains, DrainsPaired, PutsPaired, NoPutAlone}

and_then_some : {A : Type 0} (o : Option A) → and_then o (λ n. Some n) ≡ o
and_then_some None = refl
and_then_some (Some n) = refl

holds_put-append : (xs ys : List Item) → holds_put (xs ++ ys) ≡ (holds_put xs || holds_put ys)
holds_put-append [] ys = refl
holds_put-append (Put c a v ∷ xs) ys = refl
holds_put-append (Place b n ∷ xs) ys = holds_put-append xs ys
holds_put-append (Lift b n ∷ xs) ys = holds_put-append xs ys

same_head : {A : Type 0} (x y : A) (xs ys : List A) → x ∷ xs ≡ y ∷ ys → x ≡ y
same_head x y xs ys e = cc

same_tail : {A : Type 0} (x y : A) (xs ys : List A) → x ∷ xs ≡ y ∷ ys → xs ≡ ys
same_tail x y xs ys e = cc

no_item : {A : Type 0} (y : A) (ys : List A) → [] ≡ y ∷ ys → ⊥
no_item y ys e = cc

and_then_twice : {A : Type 0} (o : Option A) (f g : A → Option A) → and_then o (λ a. and_then (f a) g) ≡ and_then (and_then o f) g
and_then_twice None f g = refl
and_then_twice (Some a) f g = refl

module _ (p : Pairing) where
  target_append : (n : p.Store) (xs ys : List p.Held) → target_view p n (xs ++ ys) ≡ and_then (target_view p n xs) (λ k. target_view p k ys)
  target_append n [] ys = refl
  target_append n (x ∷ xs) ys = go (p.apply n x) (λ k. target_append k xs ys)
    where
      go : (o : Option p.Store) → ((k : p.Store) → target_view p k (xs ++ ys) ≡ and_then (target_view p k xs) (λ j. target_view p j ys)) → and_then o (λ k. target_view p k (xs ++ ys)) ≡ and_then (and_then o (λ k. target_view p k xs)) (λ j. target_view p j ys)
      go None later = refl
      go (Some k) later = later k

  holds_write-append : (xs ys : List p.Held) → holds_write p (xs ++ ys) ≡ (holds_write p xs || holds_write p ys)
  holds_write-append [] ys = refl
  holds_write-append (x ∷ xs) ys = ap (λ b. p.is_write x || b) (holds_write-append xs ys) ∙ sym (or_assoc (p.is_write x) (holds_write p xs) (holds_write p ys))

  -- the groups up to the first with an item of the output
  record Split (gs : List p.Group) (rest : List p.Held) : Type 0 where
    drained : List p.Group
    left : List p.Group
    split : gs ≡ drained ++ left
    rest_is : targets p left ≡ rest

  split_at : (gs : List p.Group) (item : p.Held) (rest : List p.Held) → targets p gs ≡ item ∷ rest → Split gs rest
  split_at [] item rest e = absurd (no_item item rest e)
  split_at (g ∷ gs) item rest e = go (p.target g) (split_at gs item rest) e
    where
      go : (o : Option p.Held) → (targets p gs ≡ item ∷ rest → Split gs rest) → one_or_none o ++ targets p gs ≡ item ∷ rest → Split (g ∷ gs) rest
      go None later f = let s = later f in record { drained = g ∷ s.drained; left = s.left; split = ap (λ l. g ∷ l) s.split; rest_is = s.rest_is }
      go (Some i) later f = record { drained = g ∷ []; left = gs; split = refl; rest_is = same_tail i item (targets p gs) rest f }

  module _ (keeps : KeepsPair p) where
    pub views_paired : ViewsPaired p
    views_paired m n [] pair fit = pair
    views_paired m n (g ∷ gs) pair fit =
        subst (λ z. ArePaired p z (target_view p n (one_or_none (p.target g) ++ targets p gs))) (sym (view-append m (p.source g) (sources p gs)))
        (subst (λ z. ArePaired p (source.and_then (view m (p.source g)) (λ a. view a (sources p gs))) z) (sym (target_append n (one_or_none (p.target g)) (targets p gs)))
        (go (view m (p.source g)) (target_view p n (one_or_none (p.target g))) (λ a b h k. views_paired a b gs h k) refl (keeps m n g pair fit.0)))
      where
        go : (a : Option MemoryMeaning) (b : Option p.Store) → ((k : MemoryMeaning) (l : p.Store) → p.Pair k l → Fit p k gs → ArePaired p (view k (sources p gs)) (target_view p l (targets p gs))) → view m (p.source g) ≡ a → ArePaired p a b → ArePaired p (source.and_then a (λ k. view k (sources p gs))) (and_then b (λ k. target_view p k (targets p gs)))
        go None b later e h = tt
        go (Some a) None later e h = absurd h
        go (Some a) (Some b) later e h = later a b h (fit.1 a e)

    pub drains_paired : DrainsPaired p
    drains_paired m n [] item rest pair fit e = absurd (no_item item rest e)
    drains_paired m n (g ∷ gs) item rest pair fit e = by_target (p.target g) (λ a h k. drains_paired a n gs item rest h k) e (keeps m n g pair fit.0)
      where
        -- the group has the item
        ends : (i : p.Held) → i ∷ targets p gs ≡ item ∷ rest → ArePaired p (view m (p.source g)) (target_view p n (i ∷ [])) → Drains p m n item rest (g ∷ gs)
        ends i f h = record {
          drained = g ∷ [];
          left = gs;
          split = refl;
          rest_is = same_tail i item (targets p gs) rest f;
          paired = subst (λ z. ArePaired p z (p.apply n item)) (ap (view m) (sym (append-nil (p.source g))))
              (subst (λ z. ArePaired p (view m (p.source g)) (p.apply n z)) (same_head i item (targets p gs) rest f)
              (subst (ArePaired p (view m (p.source g))) (and_then_some (p.apply n i)) h));
          fit = λ k q. fit.1 k (ap (view m) (sym (append-nil (p.source g))) ∙ q);
        }

        -- the group has none, and the input goes on
        goes_on : (a : MemoryMeaning) → view m (p.source g) ≡ Some a → Drains p a n item rest gs → Drains p m n item rest (g ∷ gs)
        goes_on a q d =
            let whole : view m (p.source g ++ sources p d.drained) ≡ view a (sources p d.drained) = view-append m (p.source g) (sources p d.drained) ∙ ap (λ o. source.and_then o (λ k. view k (sources p d.drained))) q in
            record {
              drained = g ∷ d.drained;
              left = d.left;
              split = ap (λ l. g ∷ l) d.split;
              rest_is = d.rest_is;
              paired = subst (λ z. ArePaired p z (p.apply n item)) (sym whole) d.paired;
              fit = λ k r. d.fit k (sym whole ∙ r);
            }

        -- the input goes wrong
        stops : view m (p.source g) ≡ None → Split gs rest → Drains p m n item rest (g ∷ gs)
        stops q s =
            let whole : view m (p.source g ++ sources p s.drained) ≡ None = view-append m (p.source g) (sources p s.drained) ∙ ap (λ o. source.and_then o (λ k. view k (sources p s.drained))) q in
            record {
              drained = g ∷ s.drained;
              left = s.left;
              split = ap (λ l. g ∷ l) s.split;
              rest_is = s.rest_is;
              paired = subst (λ z. ArePaired p z (p.apply n item)) (sym whole) tt;
              fit = λ k r. absurd (none_some k (sym whole ∙ r));
            }

        by_view : (a : Option MemoryMeaning) → ((k : MemoryMeaning) → p.Pair k n → Fit p k gs → targets p gs ≡ item ∷ rest → Drains p k n item rest gs) → view m (p.source g) ≡ a → ArePaired p a (Some n) → targets p gs ≡ item ∷ rest → Drains p m n item rest (g ∷ gs)
        by_view None later q h f = stops q (split_at gs item rest f)
        by_view (Some a) later q h f = goes_on a q (later a h (fit.1 a q) f)

        by_target : (o : Option p.Held) → ((k : MemoryMeaning) → p.Pair k n → Fit p k gs → targets p gs ≡ item ∷ rest → Drains p k n item rest gs) → one_or_none o ++ targets p gs ≡ item ∷ rest → ArePaired p (view m (p.source g)) (target_view p n (one_or_none o)) → Drains p m n item rest (g ∷ gs)
        by_target None later f h = by_view (view m (p.source g)) later refl h f
        by_target (Some i) later f h = ends i f h

  pub no_put_alone : PutsPaired p → NoPutAlone p
  no_put_alone h [] e = refl
  no_put_alone h (g ∷ gs) e =
      let parts = or_parts (holds_write p (one_or_none (p.target g))) (holds_write p (targets p gs)) (sym (holds_write-append (one_or_none (p.target g)) (targets p gs)) ∙ e) in
      holds_put-append (p.source g) (sources p gs) ∙ or_from (holds_put (p.source g)) (holds_put (sources p gs)) (h g parts.0) (no_put_alone h gs parts.1)
