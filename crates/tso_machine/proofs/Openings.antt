-- The memory in which a program begins, a byte and a global at a time.
use Rattle.std.proofs.Common.{◌≡◌, ◌≤◌, ◌<◌, ◌+◌, ◌-◌, ◌/◌, ◌%◌, ℕ, zero, suc, Bool, true, false, cond, refl, sym, ap, subst, ◌∙◌, arith, List, [], ◌∷◌, length, get_or, take, Some, None, Option, if◌then◌else◌, inl, inr, ◌⊎◌}
use Rattle.std.specs.Prelude.{◌&&◌, ◌||◌, ◌==◌, nat_lt, AllPairs, IsSomeAnd, Result, Ok, Err, OnOk, slice_get}
use Rattle.std.specs.Option.{unwrap_or}
use Rattle.std.specs.List.{fold, list_any, slice_index_or}
use Rattle.std.proofs.lemmas.Bool.{cond_both, cond-true, or_cases, or_right, or_from, or_parts}
use Rattle.std.proofs.lemmas.Bool.Decides.{nat_tests}
use Rattle.std.proofs.lemmas.List.{get_or-take, get_or_past, get_or_default, length-take-le}
use Rattle.tso_words.specs.declared.value.Val.TheVariants.{Word}
use Rattle.tso_words.specs.declared.value.Cell.{Cell}
use Rattle.tso_words.specs.declared.value.Cell.TheVariants.{Byte}
use Rattle.tso_words.specs.declared.value.Chunk.TheVariants.{I8u}
use Rattle.tso_words.specs.Words.{byte_of}
use Rattle.tso_memory.specs.declared.object.Object.{Object}
use Rattle.tso_memory.specs.declared.object.Kind.TheVariants.{Static}
use Rattle.tso_memory.specs.declared.buffer.Item.{Item}
use Rattle.tso_memory.specs.Memory.{MemoryMeaning, IsSound, put, holds, is_in, is_met, meets, inserted, added}
use Rattle.tso_memory.proofs.KeptMemory.{same_memory}
use Rattle.tso_core.specs.Systems.{Names, Places}
use Rattle.tso_core.specs.Placing.{address_of, base_of}
use Rattle.tso_core.specs.declared.offer.Now.TheVariants as N
use Rattle.tso_core.specs.Language.{Language}
use Rattle.tso_core.specs.Machine.{MachineState, open_machine}
use Rattle.tso_core.specs.Runs.{with_global, opening_memory, AreApart, IsDataPlace}
use Rattle.tso_machine.specs.Bytes.{with_bytes}
use Rattle.tso_machine.specs.State.{flag}

same_some : (m n : MemoryMeaning) → Some m ≡ Some n → m ≡ n
same_some m n e = cc

-- a byte is itself in a cell
byte_cell : (b d : ℕ) → b < 256 → d ≡ 0 → byte_of (Word b) d ≡ Byte (slice_index_or (b ∷ []) d 0)
byte_cell b d lt e =
    let r : b / 1 % 256 ≡ b = omega arith in
    subst (λ z. byte_of (Word b) z ≡ Byte (slice_index_or (b ∷ []) z 0)) (sym e) (ap Byte r)

at_zero : (x y : ℕ) → is_in x 1 y ≡ true → y - x ≡ 0
at_zero x y e = grind (arith, nat_tests)

byte_cells : (t : Bool) (b x y : ℕ) (old : Cell) → b < 256 → is_in x 1 y ≡ t → (if t then byte_of (Word b) (y - x) else old) ≡ (if t then Byte (slice_index_or (b ∷ []) (y - x) 0) else old)
byte_cells true b x y old lt e = byte_cell b (y - x) lt (at_zero x y e)
byte_cells false b x y old lt e = refl

put_right : (m : MemoryMeaning) (x b : ℕ) (right : Bool) → right ≡ true → (if right then Some (let n : MemoryMeaning = record m { cells = λ y. if is_in x 1 y then byte_of (Word b) (y - x) else m.cells y } in n) else None) ≡ Some (let n : MemoryMeaning = record m { cells = λ y. if is_in x 1 y then byte_of (Word b) (y - x) else m.cells y } in n)
put_right m x b true e = refl
put_right m x b false e = cc

pub put_byte : (m n : MemoryMeaning) (x b : ℕ) → b < 256 → list_any (λ o. holds o x 1) m.objects ≡ true → put m I8u (Word x) (Word b) ≡ Some n → n ≡ with_bytes x (b ∷ []) m
put_byte m n x b lt held e =
    let aligned : x % 1 ≡ 0 = omega arith in
    let right : ((x % 1 == 0) && list_any (λ o. holds o x 1) m.objects) ≡ true = rw (aligned, held) refl in
    sym (same_some _ n (sym (put_right m x b ((x % 1 == 0) && list_any (λ o. holds o x 1) m.objects) right) ∙ e))
    ∙ same_memory _ (with_bytes x (b ∷ []) m) refl (λ y. byte_cells (is_in x 1 y) b x y (m.cells y) lt refl)

-- the first of some bytes, from an address on
abbrev pub with_front : ℕ → List ℕ → ℕ → MemoryMeaning → MemoryMeaning
with_front base bytes k m = record m { cells = λ x. if is_in base k x then Byte (slice_index_or bytes (x - base) 0) else m.cells x }

more_cells : (base k y b : ℕ) (bytes : List ℕ) (old : Cell) → get_or bytes k 0 ≡ b → (if is_in (base + k) 1 y then Byte (slice_index_or (b ∷ []) (y - (base + k)) 0) else (if is_in base k y then Byte (slice_index_or bytes (y - base) 0) else old)) ≡ (if is_in base (k + 1) y then Byte (slice_index_or bytes (y - base) 0) else old)
more_cells base k y b bytes old e = go (is_in (base + k) 1 y) refl
  where
    here : is_in (base + k) 1 y ≡ true → y - (base + k) ≡ 0
    here f = grind (arith, nat_tests)

    there : is_in (base + k) 1 y ≡ true → y - base ≡ k
    there f = grind (arith, nat_tests)

    inside : is_in (base + k) 1 y ≡ true → is_in base (k + 1) y ≡ true
    inside f = grind (arith, nat_tests)

    same : is_in (base + k) 1 y ≡ false → is_in base k y ≡ is_in base (k + 1) y
    same f = grind (arith, nat_tests)

    go : (t : Bool) → is_in (base + k) 1 y ≡ t → (if t then Byte (slice_index_or (b ∷ []) (y - (base + k)) 0) else (if is_in base k y then Byte (slice_index_or bytes (y - base) 0) else old)) ≡ (if is_in base (k + 1) y then Byte (slice_index_or bytes (y - base) 0) else old)
    go true f =
        ap (λ d. Byte (slice_index_or (b ∷ []) d 0)) (here f)
        ∙ (ap Byte (sym e ∙ ap (λ d. slice_index_or bytes d 0) (sym (there f))) ∙ sym (cond-true (is_in base (k + 1) y) (Byte (slice_index_or bytes (y - base) 0)) old (inside f)))
    go false f = ap (λ t. cond t (Byte (slice_index_or bytes (y - base) 0)) old) (same f)

pub front_more : (m n l : MemoryMeaning) (base k b : ℕ) (bytes : List ℕ) → get_or bytes k 0 ≡ b → n ≡ with_front base bytes k m → l ≡ with_bytes (base + k) (b ∷ []) n → l ≡ with_front base bytes (k + 1) m
front_more m n l base k b bytes e f h =
    h ∙ (ap (with_bytes (base + k) (b ∷ [])) f ∙ same_memory (with_bytes (base + k) (b ∷ []) (with_front base bytes k m)) (with_front base bytes (k + 1) m) refl (λ y. more_cells base k y b bytes (m.cells y) e))

-- a byte of an object that has more
held_byte : (o : Object) (base n k : ℕ) → k < n → holds o base n ≡ true → holds o (base + k) 1 ≡ true
held_byte o base n k lt e = grind (arith, nat_tests)

pub held_at : (os : List Object) (base n k : ℕ) → k < n → list_any (λ o. holds o base n) os ≡ true → list_any (λ o. holds o (base + k) 1) os ≡ true
held_at [] base n k lt e = e
held_at (o ∷ os) base n k lt e = elim (or_cases (holds o base n) (list_any (λ q. holds q base n) os) e) as (λ _. (holds o (base + k) 1 || list_any (λ q. holds q (base + k) 1) os) ≡ true) [
  | inl a ↦ rw (held_byte o base n k lt a) refl
  | inr a ↦ or_right (holds o (base + k) 1) (list_any (λ q. holds q (base + k) 1) os) (held_at os base n k lt a)
]

-- a new object has its bytes
held_whole : (o : Object) (base n : ℕ) → o.base ≡ base → n ≤ o.size → holds o base n ≡ true
held_whole o base n e l = grind (arith, nat_tests)

pub held_new : (os : List Object) (o : Object) (base n : ℕ) → o.base ≡ base → n ≤ o.size → list_any (λ q. holds q base n) (inserted o os) ≡ true
held_new [] o base n e l = rw (held_whole o base n e l) refl
held_new (p ∷ ps) o base n e l =
    cond_both (nat_lt p.base o.base) (p ∷ inserted o ps) (o ∷ p ∷ ps) (λ z. list_any (λ q. holds q base n) z ≡ true)
    (λ _. or_right (holds p base n) (list_any (λ q. holds q base n) (inserted o ps)) (held_new ps o base n e l))
    (λ _. rw (held_whole o base n e l) refl)

-- a global: its bytes, over zeros
global_cells : (base size y : ℕ) (bytes : List ℕ) (old : Cell) → length bytes ≤ size → (if is_in base (length bytes) y then Byte (slice_index_or bytes (y - base) 0) else (if is_in base size y then Byte 0 else old)) ≡ (if is_in base size y then Byte (slice_index_or bytes (y - base) 0) else old)
global_cells base size y bytes old l = go (is_in base (length bytes) y) (is_in base size y) refl refl
  where
    wider : is_in base (length bytes) y ≡ true → is_in base size y ≡ false → ⊥
    wider e f = grind (arith, nat_tests)

    past : is_in base (length bytes) y ≡ false → is_in base size y ≡ true → length bytes ≤ y - base
    past e f = grind (arith, nat_tests)

    go : (s t : Bool) → is_in base (length bytes) y ≡ s → is_in base size y ≡ t → (if s then Byte (slice_index_or bytes (y - base) 0) else (if t then Byte 0 else old)) ≡ (if t then Byte (slice_index_or bytes (y - base) 0) else old)
    go true true e f = refl
    go true false e f = absurd (wider e f)
    go false true e f = ap Byte (sym (get_or_past bytes (y - base) 0 (past e f)))
    go false false e f = refl

pub global_added : (at : Places) (m n l : MemoryMeaning) (o : Names × ℕ × ℕ × List ℕ) → length o.3 ≤ o.1 → n ≡ added (record { base = base_of at o.0; size = o.1; kind = Static }) (Byte 0) m → l ≡ with_bytes (base_of at o.0) o.3 n → l ≡ with_global at m o
global_added at m n l o fits e f =
    f ∙ (ap (with_bytes (base_of at o.0) o.3) e ∙ same_memory (with_bytes (base_of at o.0) o.3 (added (record { base = base_of at o.0; size = o.1; kind = Static }) (Byte 0) m)) (with_global at m o) refl (λ y. global_cells (base_of at o.0) o.1 y o.3 (m.cells y) fits))

-- a range that no object meets, through the globals
unmet_inserted : (p : Object → Bool) (o : Object) (os : List Object) → p o ≡ false → list_any p os ≡ false → list_any p (inserted o os) ≡ false
unmet_inserted p o [] e f = rw e refl
unmet_inserted p o (q ∷ qs) e f =
    cond_both (nat_lt q.base o.base) (q ∷ inserted o qs) (o ∷ q ∷ qs) (λ z. list_any p z ≡ false)
    (λ _. or_from (p q) (list_any p (inserted o qs)) (or_parts (p q) (list_any p qs) f).0 (unmet_inserted p o qs e (or_parts (p q) (list_any p qs) f).1))
    (λ _. or_from (p o) (list_any p (q ∷ qs)) e f)

unmet_fold : (at : Places) (m : MemoryMeaning) (base size : ℕ) (xs : List (Names × ℕ × ℕ × List ℕ)) → list_any (is_met base size) m.objects ≡ false → ((j : ℕ) (d : Names × ℕ × ℕ × List ℕ) → j < length xs → meets (base_of at (get_or xs j d).0) (get_or xs j d).1 base size ≡ false) → list_any (is_met base size) (fold (with_global at) m xs).objects ≡ false
unmet_fold at m base size [] e f = e
unmet_fold at m base size (x ∷ xs) e f =
    unmet_fold at (with_global at m x) base size xs (unmet_inserted (is_met base size) (record { base = base_of at x.0; size = x.1; kind = Static }) m.objects (f 0 x (omega arith)) e) (λ j d l. f (suc j) d (omega arith))

apart_unmet : (b n c k : ℕ) → (b + n ≤ c) ⊎ (c + k ≤ b) → meets b n c k ≡ false
apart_unmet b n c k (inl h) = grind (arith, nat_tests)
apart_unmet b n c k (inr h) = grind (arith, nat_tests)

-- the next global meets none of those before it
pub next_apart : (at : Places) (m : MemoryMeaning) (xs : List (Names × ℕ × ℕ × List ℕ)) (k : ℕ) (d : Names × ℕ × ℕ × List ℕ) → m.objects ≡ [] → k < length xs → AllPairs (AreApart at) xs → list_any (is_met (base_of at (get_or xs k d).0) (get_or xs k d).1) (fold (with_global at) m (take k xs)).objects ≡ false
next_apart at m xs k d none lt apart =
    unmet_fold at m (base_of at (get_or xs k d).0) (get_or xs k d).1 (take k xs) (ap (list_any (is_met (base_of at (get_or xs k d).0) (get_or xs k d).1)) none)
    (λ j e l.
    let short : length (take k xs) ≡ k = length-take-le k xs (omega arith) in
    let below : j < k = omega arith in
    subst (λ o. meets (base_of at o.0) o.1 (base_of at (get_or xs k d).0) (get_or xs k d).1 ≡ false) (get_or_default xs j d e (omega arith) ∙ sym (get_or-take k xs j e below))
    (apart_unmet (base_of at (get_or xs j d).0) (get_or xs j d).1 (base_of at (get_or xs k d).0) (get_or xs k d).1 (apart j k d below lt)))

-- the range of a global is sound
sound_at : (a : Option ℕ) (size align : ℕ) → 1 ≤ size → IsSomeAnd a (λ x. (0x20000000 ≤ x) × (x + size ≤ 0x30000000) × (x % align ≡ 0)) → IsSound (unwrap_or a 0) size
sound_at None size align l h = absurd h
sound_at (Some x) size align l h = (l, omega (arith, h.1))

pub placed_sound : (at : Places) (o : Names × ℕ × ℕ × List ℕ) → 1 ≤ o.1 → IsDataPlace at o → IsSound (base_of at o.0) o.1
placed_sound at o l h = sound_at (address_of at o.0) o.1 o.2 l h

pub on_ok : {A E : Type 0} {P Q : Type 0} (r : Result A E) → (P → Q) → OnOk r P → OnOk r Q
on_ok (Ok x) f h = f h
on_ok (Err e) f h = tt

-- one thread, which has not ended
first_live : (j : ℕ) → flag (slice_get (false ∷ []) j) ≡ false
first_live zero = refl
first_live (suc j) = refl

pub none_ended : (ended : List Bool) → ended ≡ false ∷ [] → (j : ℕ) → flag (slice_get ended j) ≡ false
none_ended ended e j = ap (λ l. flag (slice_get l j)) e ∙ first_live j

pub opened_state : {State : Type 0} (l : Language State) (at : Places) (m : MemoryMeaning) (buffers : List (List Item)) (ended : ℕ → Bool) (threads : List State) → m ≡ opening_memory l.globals at → buffers ≡ [] ∷ [] → ((j : ℕ) → ended j ≡ false) → threads ≡ l.first at ∷ [] → (let s : MachineState State = record { at = at; shared = record { memory = m; buffers = buffers; ended = ended; now = N.Running }; threads = threads } in s) ≡ (open_machine l).opening at
opened_state l at m buffers ended threads e f g h = λ i. record { at = at; shared = record { memory = e i; buffers = f i; ended = λ j. g j i; now = N.Running }; threads = h i }
