-- Lists of items.
use Rattle.std.proofs.Common.{◌≡◌, ℕ, zero, suc, ◌+◌, ◌-◌, ◌%◌, ◌==◌, nat_lt, ◌<◌, Bool, true, false, List, [], ◌∷◌, ◌++◌, length, length-append, get_or, take, drop, map, refl, ap, ◌∙◌, sym, arith, ◌&&◌, if◌then◌else◌}
use Rattle.std.specs.List.{list_all}
use Rattle.std.proofs.Math.Bool.{and_assoc}
use Rattle.std.proofs.lemmas.List.{take_rest, drop-append-le, drop_more, get_or-map}
use Rattle.tso_memory.specs.declared.object.Object.{Object}
use Rattle.tso_memory.specs.declared.buffer.Item.{Item}
use Rattle.tso_memory.specs.declared.buffer.Item.TheVariants.{Put, Place, Lift}
use Rattle.tso_memory.specs.Buffer.{BufferMeaning, IsSoundItem, AreSoundItems, unplaced, places_lifted, pending_ok, objects_lifted, is_in_stacks, is_place_allowed}
use Rattle.tso_memory.specs.Kept.{IsQueue}
use Rattle.tso_memory.specs.Through.{is_lifted_by, is_fit}

AreSoundItems-push : (xs : List Item) (i : Item) → AreSoundItems xs → IsSoundItem i → AreSoundItems (xs ++ i ∷ [])
AreSoundItems-push [] i h s = (s, tt)
AreSoundItems-push (x ∷ xs) i h s = (h.0, AreSoundItems-push xs i h.1 s)

IsQueue-push : (xs : List Item) (head : ℕ) (i : Item) → IsQueue xs head → IsSoundItem i → IsQueue (xs ++ i ∷ []) head
IsQueue-push xs head i h s = record {
  within = let longer : length (xs ++ i ∷ []) ≡ length xs + 1 = length-append xs (i ∷ []) in omega (arith, h.within);
  sound = rw (drop-append-le head xs (i ∷ []) h.within) (AreSoundItems-push (drop head xs) i h.sound s);
}

pub IsQueue-pushed : (b : Bool) (xs ys : List Item) (head : ℕ) (i : Item) → ys ≡ (if b then xs ++ i ∷ [] else xs) → IsQueue xs head → IsSoundItem i → IsQueue ys head
IsQueue-pushed true xs ys head i e h s = rw e (IsQueue-push xs head i h s)
IsQueue-pushed false xs ys head i e h s = rw e h

-- the pending items of the other threads and of one
list_all-map : {X Y : Type 0} (p : Y → Bool) (f : X → Y) (xs : List X) → list_all p (map f xs) ≡ list_all (λ x. p (f x)) xs
list_all-map p f [] = refl
list_all-map p f (x ∷ xs) = ap (λ z. p (f x) && z) (list_all-map p f xs)

pending-parts : (base size t : ℕ) (bs : List BufferMeaning) (d : BufferMeaning) → t < length bs → pending_ok base size t (map (λ b. b.items) bs) ≡ (list_all (λ b. unplaced base size b.items) (take t bs) && (places_lifted base size (get_or bs t d).items && list_all (λ b. unplaced base size b.items) (drop (t + 1) bs)))
pending-parts base size t [] d h = absurd (omega arith)
pending-parts base size zero (b ∷ bs) d h = ap (λ z. places_lifted base size b.items && z) (list_all-map (unplaced base size) (λ b. b.items) bs)
pending-parts base size (suc t) (b ∷ bs) d h =
    let next : suc t + 1 ≡ suc (t + 1) = omega arith in
    ap (λ z. unplaced base size b.items && z) (pending-parts base size t bs d (omega arith)) ∙ (sym (and_assoc (unplaced base size b.items) (list_all (λ b. unplaced base size b.items) (take t bs)) (places_lifted base size (get_or bs t d).items && list_all (λ b. unplaced base size b.items) (drop (t + 1) bs))) ∙ ap (λ z. list_all (λ b. unplaced base size b.items) (take (suc t) (b ∷ bs)) && (places_lifted base size (get_or bs t d).items && list_all (λ b. unplaced base size b.items) (drop z (b ∷ bs)))) (sym next))

module _ (base size t : ℕ) (bs : List BufferMeaning) (d : BufferMeaning) (h : t < length bs) (front : Bool) (e : front ≡ list_all (λ b. unplaced base size b.items) (take t bs)) where
  pub pending_front : front ≡ false → false ≡ pending_ok base size t (map (λ b. b.items) bs)
  pending_front f = sym (pending-parts base size t bs d h ∙ ap (λ z. z && (places_lifted base size (get_or bs t d).items && list_all (λ b. unplaced base size b.items) (drop (t + 1) bs))) (sym e ∙ f))

  pub pending_own : (own : Bool) → front ≡ true → own ≡ places_lifted base size (get_or bs t d).items → own ≡ false → false ≡ pending_ok base size t (map (λ b. b.items) bs)
  pending_own own f g k = sym (pending-parts base size t bs d h ∙ (ap (λ z. z && (places_lifted base size (get_or bs t d).items && list_all (λ b. unplaced base size b.items) (drop (t + 1) bs))) (sym e ∙ f) ∙ ap (λ z. z && list_all (λ b. unplaced base size b.items) (drop (t + 1) bs)) (sym g ∙ k)))

  pub pending_rest : (own rest : Bool) → front ≡ true → own ≡ places_lifted base size (get_or bs t d).items → own ≡ true → rest ≡ list_all (λ b. unplaced base size b.items) (take (length bs - (t + 1)) (drop (t + 1) bs)) → rest ≡ pending_ok base size t (map (λ b. b.items) bs)
  pending_rest own rest f g k r = sym (pending-parts base size t bs d h ∙ (ap (λ z. z && (places_lifted base size (get_or bs t d).items && list_all (λ b. unplaced base size b.items) (drop (t + 1) bs))) (sym e ∙ f) ∙ (ap (λ z. z && list_all (λ b. unplaced base size b.items) (drop (t + 1) bs)) (sym g ∙ k) ∙ sym (r ∙ ap (list_all (λ b. unplaced base size b.items)) (take_rest bs (t + 1))))))

-- a walk over the items for Places without their Lifts
places_lifted-cons : (base size : ℕ) (i : Item) (is : List Item) → places_lifted base size (i ∷ is) ≡ (is_lifted_by base size is i && places_lifted base size is)
places_lifted-cons base size (Put c a v) is = refl
places_lifted-cons base size (Place b n) is = refl
places_lifted-cons base size (Lift b n) is = refl

pub places_lifted_step : (base size k : ℕ) (is : List Item) (d : Item) (b : Bool) → k < length is → b ≡ is_lifted_by base size (take (length is - (k + 1)) (drop (k + 1) is)) (get_or is k d) → places_lifted base size (drop k is) ≡ places_lifted base size is → (b && places_lifted base size (drop (k + 1) is)) ≡ places_lifted base size is
places_lifted_step base size k is d b h e f =
    sym (ap (places_lifted base size) (drop_more is k d h) ∙ (places_lifted-cons base size (get_or is k d) (drop (k + 1) is) ∙ ap (λ z. z && places_lifted base size (drop (k + 1) is)) (sym (e ∙ ap (λ z. is_lifted_by base size z (get_or is k d)) (take_rest is (k + 1)))))) ∙ f

-- the parts of what allows a Place
pub allowed-parts : (os : List Object) (buffers : List (List Item)) (thread base size align : ℕ) → (is_fit base size align && (objects_lifted base size (get_or buffers thread []) os && pending_ok base size thread buffers)) ≡ is_place_allowed os buffers thread base size align
allowed-parts os buffers thread base size align = regroup (nat_lt 0 size) (nat_lt 0 align) (base % align == 0) (is_in_stacks base size) (objects_lifted base size (get_or buffers thread []) os && pending_ok base size thread buffers)
  where
    regroup : (a b c d e : Bool) → ((a && (b && (c && d))) && e) ≡ (a && (b && (c && (d && e))))
    regroup true true true d e = refl
    regroup true true false d e = refl
    regroup true false c d e = refl
    regroup false b c d e = refl

pub allowed_unfit : (os : List Object) (buffers : List (List Item)) (thread base size align : ℕ) → is_fit base size align ≡ false → false ≡ is_place_allowed os buffers thread base size align
allowed_unfit os buffers thread base size align e = sym (sym (allowed-parts os buffers thread base size align) ∙ ap (λ z. z && (objects_lifted base size (get_or buffers thread []) os && pending_ok base size thread buffers)) e)

pub allowed_fit : (os : List Object) (bs : List BufferMeaning) (thread base size align : ℕ) (x : BufferMeaning) → thread < length bs → x ≡ get_or bs thread x → is_fit base size align ≡ true → (own rest : Bool) → own ≡ objects_lifted base size x.items os → rest ≡ pending_ok base size thread (map (λ b. b.items) bs) → (own && rest) ≡ is_place_allowed os (map (λ b. b.items) bs) thread base size align
allowed_fit os bs thread base size align x h f e own rest p q =
    let own_is : x.items ≡ get_or (map (λ b. b.items) bs) thread [] = ap (λ z. z.items) f ∙ sym (get_or-map (λ b. b.items) bs thread x [] h) in
    ap (λ z. z && rest) (p ∙ ap (λ z. objects_lifted base size z os) own_is) ∙ (ap (λ z. objects_lifted base size (get_or (map (λ b. b.items) bs) thread []) os && z) q ∙ (ap (λ z. z && (objects_lifted base size (get_or (map (λ b. b.items) bs) thread []) os && pending_ok base size thread (map (λ b. b.items) bs))) (sym e) ∙ allowed-parts os (map (λ b. b.items) bs) thread base size align))
