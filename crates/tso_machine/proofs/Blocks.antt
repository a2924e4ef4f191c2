-- Blocks of the heap: the first object with a base that is one, and what the walk over the objects finds.
use Rattle.std.proofs.Common.{◌≡◌, ℕ, Bool, true, false, not, List, [], ◌∷◌, Option, Some, None, refl, sym, ap, ◌∙◌}
use Rattle.std.specs.Prelude.{◌==◌, ◌&&◌, ◌+◌, ◌%◌, nat_le}
use Rattle.std.specs.List.{find, list_any, list_all}
use Rattle.tso_memory.specs.declared.object.Object.{Object}
use Rattle.tso_memory.specs.Memory.{meets, is_met}
use Rattle.tso_core.specs.Shared.{is_heap, heap_at, is_block_allowed}

pub size_at : Option Object → Option ℕ
size_at None = None
size_at (Some o) = Some o.size

pub heap_found : (os : List Object) (base : ℕ) → heap_at os base ≡ size_at (find (λ o. (o.base == base) && is_heap o.kind) os)
unfolding size_at
heap_found [] base = refl
heap_found (o ∷ os) base = go (heap_found os base) ((o.base == base) && is_heap o.kind) refl
  where
    go : heap_at os base ≡ size_at (find (λ o. (o.base == base) && is_heap o.kind) os) → (b : Bool) → ((o.base == base) && is_heap o.kind) ≡ b → heap_at (o ∷ os) base ≡ size_at (find (λ o. (o.base == base) && is_heap o.kind) (o ∷ os))
    go rest true e = rw e refl
    go rest false e = rw e rest

pub found_heap : (os : List Object) (base : ℕ) (o : Object) → Some o ≡ find (λ o. (o.base == base) && is_heap o.kind) os → Some o.size ≡ heap_at os base
unfolding size_at
found_heap os base o e = sym (heap_found os base ∙ ap size_at (sym e))

pub no_heap : (os : List Object) (base : ℕ) → None ≡ find (λ o. (o.base == base) && is_heap o.kind) os → None ≡ heap_at os base
unfolding size_at
no_heap os base e = sym (heap_found os base ∙ ap size_at (sym e))

pub heap_live : (os : List Object) (base n : ℕ) → heap_at os base ≡ Some n → list_any (λ o. o.base == base) os ≡ true
heap_live [] base n e = cc
heap_live (o ∷ os) base n e = go (heap_live os base n) (o.base == base) refl
  where
    go : (heap_at os base ≡ Some n → list_any (λ q. q.base == base) os ≡ true) → (b : Bool) → (o.base == base) ≡ b → list_any (λ q. q.base == base) (o ∷ os) ≡ true
    go rest true f = rw f refl
    go rest false f = rw f (rest (rw f at e))

pub both : (a b : Bool) → (a && b) ≡ true → (a ≡ true) × (b ≡ true)
both true b e = (refl, e)
both false b e = cc

none_met : (os : List Object) (base size : ℕ) → list_all (λ o. not (meets o.base o.size base size)) os ≡ true → list_any (is_met base size) os ≡ false
none_met [] base size e = refl
none_met (o ∷ os) base size e = go (none_met os base size) (meets o.base o.size base size) refl
  where
    go : (list_all (λ o. not (meets o.base o.size base size)) os ≡ true → list_any (is_met base size) os ≡ false) → (b : Bool) → meets o.base o.size base size ≡ b → list_any (is_met base size) (o ∷ os) ≡ false
    go rest true f = absurd (let h : (not (meets o.base o.size base size) && list_all (λ o. not (meets o.base o.size base size)) os) ≡ true = e in let k = rw f at h in cc)
    go rest false f = rw f (rest (both (not (meets o.base o.size base size)) (list_all (λ o. not (meets o.base o.size base size)) os) e).1)

pub block_apart : (os : List Object) (base size : ℕ) → is_block_allowed os base size ≡ true → list_any (is_met base size) os ≡ false
block_apart os base size e =
    let inner = list_all (λ o. not (meets o.base o.size base size)) os in
    let e1 = both (base % 16 == 0) (nat_le 0x30000000 base && (nat_le (base + size) 0x90000000 && inner)) e in
    let e2 = both (nat_le 0x30000000 base) (nat_le (base + size) 0x90000000 && inner) e1.1 in
    let e3 = both (nat_le (base + size) 0x90000000) inner e2.1 in
    none_met os base size e3.1
