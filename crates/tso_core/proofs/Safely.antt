-- Each step of a machine keeps the objects of locals well.
use Rattle.std.proofs.Common.{◌≡◌, ◌≢◌, ℕ, zero, suc, ◌+◌, ◌-◌, ◌%◌, ◌^◌, ◌<◌, ◌≤◌, List, [], ◌∷◌, ◌++◌, length, refl, sym, ap, ◌∙◌, subst, arith, Option, Some, None, ◌⊎◌, inl, inr, Bool, true, false}
use Rattle.std.specs.Prelude.{if◌then◌else◌, ◌==◌, ◌&&◌, not, nat_lt, nat_le, slice_get, slice_set, fold}
use Rattle.std.specs.List.{list_any, list_all}
use Rattle.std.proofs.lemmas.Bool.{lt-ltb, ltb-true, leb-true}
use Rattle.tso_words.specs.declared.value.Val.{Val}
use Rattle.tso_words.specs.declared.value.Val.TheVariants.{Undef, Word}
use Rattle.tso_words.specs.declared.value.Cell.TheVariants.{Blank}
use Rattle.tso_words.specs.declared.value.Chunk.{Chunk}
use Rattle.tso_words.specs.declared.value.Chunk.TheVariants.{I32}
use Rattle.tso_memory.specs.declared.object.Object.{Object}
use Rattle.tso_memory.specs.declared.buffer.Item.{Item}
use Rattle.tso_memory.specs.declared.buffer.Item.TheVariants.{Put, Place, Lift}
use Rattle.tso_memory.specs.Memory.{MemoryMeaning, added, is_right, load, cells_put, meets, is_met, is_at, inserted, unmet, lifted, removed}
use Rattle.tso_memory.specs.Buffer.{applied, local, unplaced, is_place_allowed, view, loaded}
use Rattle.tso_core.specs.declared.Step.{Step}
use Rattle.tso_core.specs.declared.Step.TheVariants.{Run, Drain}
use Rattle.tso_core.specs.declared.Event.{Event}
use Rattle.tso_core.specs.declared.Event.TheVariants as E
use Rattle.tso_core.specs.declared.offer.Atomic.{Atomic}
use Rattle.tso_core.specs.declared.offer.Offer.{Offer}
use Rattle.tso_core.specs.declared.offer.Offer.TheVariants as O
use Rattle.tso_core.specs.declared.offer.Answer.{Answer}
use Rattle.tso_core.specs.declared.offer.Answer.TheVariants.{Nothing, Value}
use Rattle.tso_core.specs.declared.offer.Now.{Now}
use Rattle.tso_core.specs.declared.offer.Now.TheVariants as N
use Rattle.tso_core.specs.Systems.{Names, Places, after}
use Rattle.tso_core.specs.Threads.{Goes, finished, begun, acted, ran, drained, step_of}
use Rattle.tso_core.specs.Language.{Language, Takes, IsThread, First, Started, Resumed, RangesAfter, IsLawful}
use Rattle.tso_core.specs.Shared.{Eff, heap_at, block_size, is_block_allowed, block, exchanged, pushed, if_empty, when, answered, stored, swapped, swapped_at, given, freed, freed_at, exited, spawned, effect_of, put_on, drained_by, shared_part}
use Rattle.tso_core.specs.Runs.{with_global, opening_memory}
use Rattle.tso_core.specs.Machine.{offered, lang_of, MachineState, open_machine}
use Rattle.tso_core.specs.Locals.{AreSafe}
use Rattle.tso_core.proofs.Lists.{none_some, get_some}
use Rattle.tso_core.proofs.Waiting.{Range, both, joined_true, either, or_right, opposed, is_same, bit, count, same_self, same_is, count_without, Plays, plays_put, plays_place, plays_lift, meets_self, Clear, clear_fewer, clear_more, clear_put, clear_lift, clear_place, Apart, apart_behind, apart_place_behind, apart_put, apart_lift, apart_place, Stacked, stacked_put, stacked_lift, stacked_place, stacked_unplaced}
use Rattle.tso_core.specs.Systems.{state_of, next}
use Rattle.tso_core.proofs.Places.{IsThere, is_low, items, any_inserted, all_inserted, filter_fewer, all_filter, range_of, placed_keeps, placed_most, placed_there, lifted_keeps, lifted_most, heap_low, removed_keeps, other_unplaced, own_lifted, lifted_where, allowed, items_within, Sound, safe_items, sound_thread, sound_resume, sound_objects, sound_spawn, Drains, sound_drain}

-- a block of the heap
block_keeps : (os : List Object) (b n : ℕ) (r : Range) → IsThere os r → IsThere (inserted (block b n) os) r
block_keeps os b n r e = any_inserted (is_at r.0 r.1) (block b n) os ∙ or_right (is_at r.0 r.1 (block b n)) (list_any (is_at r.0 r.1) os) e

block_most : (os : List Object) (b n : ℕ) (r : Range) → IsThere (inserted (block b n) os) r → IsThere os r ⊎ (r ≡ (b, n))
block_most os b n r e = go (either (is_at r.0 r.1 (block b n)) (list_any (is_at r.0 r.1) os) (sym (any_inserted (is_at r.0 r.1) (block b n) os) ∙ e))
  where
    go : (is_at r.0 r.1 (block b n) ≡ true) ⊎ (list_any (is_at r.0 r.1) os ≡ true) → IsThere os r ⊎ (r ≡ (b, n))
    go (inl h) = inr (sym (range_of (block b n) r h))
    go (inr h) = inl h

some_size : (n : ℕ) → 1 ≤ block_size n
some_size zero = omega arith
some_size (suc n) = omega arith

block_below : (os : List Object) (b n : ℕ) → is_block_allowed os b n ≡ true → b + n ≤ 0x90000000
block_below os b n e =
    let inner = list_all (λ o. not (meets o.base o.size b n)) os in
    let e1 = both (b % 16 == 0) (nat_le 0x30000000 b && (nat_le (b + n) 0x90000000 && inner)) e in
    let e2 = both (nat_le 0x30000000 b) (nat_le (b + n) 0x90000000 && inner) e1.1 in
    leb-true (b + n) 0x90000000 (both (nat_le (b + n) 0x90000000) inner e2.1).0

module _ {State : Type 0} (l : Language State) (law : IsLawful l) where
  abbrev Good : MachineState State → Type 0
  Good m = Sound l m.at m.shared.memory.objects m.shared.buffers m.threads

  abbrev GoodNext : Option (Option Event × MachineState State) → Type 0
  GoodNext None = Unit {0}
  GoodNext (Some a) = Good a.1

  module _ (m : MachineState State) (v : Good m) where
    abbrev os : List Object
    os = m.shared.memory.objects

    abbrev buffers : List (List Item)
    buffers = m.shared.buffers

    module _ (i : ℕ) (s : State) (g : slice_get m.threads i ≡ Some s) where
      abbrev own : List Item
      own = items buffers i

      abbrev F : Eff → Type 0
      F x = GoodNext (finished shared_part (lang_of l) m i s x)

      module _ (o : Offer) (e : l.offer m.at s ≡ o) (a : Answer) (t : Takes o a) where
        takes : Takes (l.offer m.at s) a
        takes = subst (λ x. Takes x a) (sym e) t

        goes_on : IsThread l m.at (l.resumed m.at s a)
        goes_on = Resumed s a (v.known i s g) takes

        ranges_on : RangesAfter l o a (l.ranges s) (l.ranges (l.resumed m.at s a))
        ranges_on = subst (λ x. RangesAfter l x a (l.ranges s) (l.ranges (l.resumed m.at s a))) e (law.resumed_ranges m.at s a (v.known i s g) takes)

        resumes : l.ranges (l.resumed m.at s a) ≡ l.ranges s → Sound l m.at os buffers (slice_set m.threads i (l.resumed m.at s a))
        resumes r = sound_resume l m.at os buffers m.threads v i s g (l.resumed m.at s a) goes_on r

      fin_when : (t : Bool) (x : Eff) → (t ≡ true → F x) → F (when t x)
      fin_when true x f = f refl
      fin_when false x f = tt

      fin_empty : (xs : List Item) (x : Eff) → F x → F (if_empty xs x)
      fin_empty [] x f = f
      fin_empty (y ∷ ys) x f = tt

      fin_answered : (o : Offer) → l.offer m.at s ≡ o → ((w : Val) → Takes o (Value w)) → ((w : Val) → l.ranges (l.resumed m.at s (Value w)) ≡ l.ranges s) → (x : Option Val) → F (answered m.shared x)
      fin_answered o e t r None = v
      fin_answered o e t r (Some w) = resumes o e (Value w) (t w) (r w)

      fin_store : (chunk : Chunk) (addr val : Val) → l.offer m.at s ≡ O.Store chunk addr val → F (effect_of (O.Store chunk addr val) i None m.shared)
      fin_store chunk addr val e =
          let u = l.resumed m.at s Nothing in
          let o = O.Store chunk addr val in
          let pl = subst (λ x. Plays own (v.owned i) (λ r. count r x)) (sym (ranges_on o e Nothing tt)) (v.plays i s g) in
          sound_thread l m.at os buffers m.threads v i s g (own ++ Put chunk addr val ∷ []) u (goes_on o e Nothing tt) (plays_put own (v.owned i) (λ r. count r (l.ranges u)) chunk addr val pl) (clear_put own (IsThere os) chunk addr val (v.clear i)) (λ j ne. apart_put own (items buffers j) chunk addr val (v.apart i j ne)) (λ j ne. apart_behind (items buffers j) own (Put chunk addr val) (λ b n. refl) (v.apart j i (λ f. ne (sym f)))) (stacked_put own chunk addr val (v.stacked i))

      fin_lift : (b n : ℕ) → l.offer m.at s ≡ O.Lift b n → F (effect_of (O.Lift b n) i None m.shared)
      fin_lift b n e =
          let u = l.resumed m.at s Nothing in
          let w = ranges_on (O.Lift b n) e Nothing tt in
          sound_thread l m.at os buffers m.threads v i s g (own ++ Lift b n ∷ []) u (goes_on (O.Lift b n) e Nothing tt) (plays_lift own (v.owned i) (λ r. count r (l.ranges s)) (λ r. count r (l.ranges u)) b n (v.plays i s g) (λ r. count_without (b, n) (l.ranges s) (l.ranges u) w r)) (clear_lift own (IsThere os) b n (v.clear i)) (λ j ne. apart_lift own (items buffers j) b n (v.apart i j ne)) (λ j ne. apart_behind (items buffers j) own (Lift b n) (λ x y. refl) (v.apart j i (λ f. ne (sym f)))) (stacked_lift own b n (v.stacked i))

      fin_place : (n align b : ℕ) → l.offer m.at s ≡ O.Place n align → is_place_allowed os buffers i b n align ≡ true → F (Goes (Value (Word b)) None (pushed m.shared i (Place b n)))
      fin_place n align b e h =
          let a = allowed os buffers i b n align h in
          let u = l.resumed m.at s (Value (Word b)) in
          let w = ranges_on (O.Place n align) e (Value (Word b)) a.word in
          let free : (j : ℕ) → (j ≡ i → ⊥) → unplaced b n (items buffers j) ≡ true = λ j ne. other_unplaced b n i buffers a.pending j (λ f. ne (sym f)) in
          sound_thread l m.at os buffers m.threads v i s g (own ++ Place b n ∷ []) u (goes_on (O.Place n align) e (Value (Word b)) a.word) (plays_place own (v.owned i) (λ r. count r (l.ranges s)) (λ r. count r (l.ranges u)) b n (v.plays i s g) (λ r. count_without (b, n) (l.ranges u) (l.ranges s) w r)) (clear_place own (IsThere os) b n (own_lifted b n i buffers a.pending) (λ r p. lifted_where b n own os a.objects r p) (v.clear i)) (λ j ne. apart_place own (items buffers j) b n (free j ne) (v.apart i j ne)) (λ j ne. apart_place_behind (items buffers j) own b n (free j ne) (v.apart j i (λ f. ne (sym f)))) (stacked_place own b n a.high a.some (v.stacked i))

      module _ (kind : Atomic) (addr expected desired : Val) (e : l.offer m.at s ≡ O.Atomic kind addr expected desired) where
        fin_stored : (old w : Val) (x : Bool) → F (stored m.shared old (if x then Some (record m.shared.memory { cells = cells_put m.shared.memory.cells I32 addr w }) else None))
        fin_stored old w true = resumes (O.Atomic kind addr expected desired) e (Value old) tt (ranges_on (O.Atomic kind addr expected desired) e (Value old) tt)
        fin_stored old w false = v

        fin_swapped : (old : Val) (x : Option Val) → F (swapped m.shared addr old x)
        fin_swapped old None = v
        fin_swapped old (Some w) = fin_stored old w (is_right os I32 addr)

        fin_atomic : (x : Option Val) → F (swapped_at m.shared kind addr expected desired x)
        fin_atomic None = v
        fin_atomic (Some old) = fin_swapped old (exchanged kind old expected desired)

      fin_block : (n b : ℕ) → l.offer m.at s ≡ O.Malloc (Word n) → is_block_allowed os (suc b) (block_size n) ≡ true → F (Goes (Value (Word (suc b))) None (record m.shared { memory = added (block (suc b) (block_size n)) Blank m.shared.memory }))
      fin_block n b e h =
          let k = block_size n in
          let some = some_size n in
          let below = block_below os (suc b) k h in
          let word : suc b < 2 ^ 32 = omega arith in
          let lt : suc b < 0x90000000 = omega arith in
          let ps = inserted (block (suc b) k) os in
          let cl : (j : ℕ) → Clear (items buffers j) (IsThere ps) = λ j. clear_fewer (items buffers j) (λ r. IsThere os r ⊎ (r ≡ (suc b, k))) (IsThere ps) (block_most os (suc b) k) (clear_more (items buffers j) (IsThere os) (suc b, k) (stacked_unplaced (items buffers j) (suc b) k below (v.stacked j)) (v.clear j)) in
          let low : list_all is_low ps ≡ true = all_inserted is_low (block (suc b) k) os ∙ joined_true (is_low (block (suc b) k)) (list_all is_low os) (lt-ltb (suc b) 0x90000000 lt) v.low in
          let w = sound_objects l m.at os buffers m.threads v ps (λ r le f. block_keeps os (suc b) k r f) cl low in
          sound_resume l m.at ps buffers m.threads w i s g (l.resumed m.at s (Value (Word (suc b)))) (goes_on (O.Malloc (Word n)) e (Value (Word (suc b))) word) (ranges_on (O.Malloc (Word n)) e (Value (Word (suc b))) word)

      fin_given : (n : ℕ) → l.offer m.at s ≡ O.Malloc (Word n) → (c : Option ℕ) → F (given m.shared (Word n) c)
      fin_given n e None = tt
      fin_given n e (Some zero) = v
      fin_given n e (Some (suc b)) = fin_when (is_block_allowed os (suc b) (block_size n)) _ (λ h. fin_block n b e h)

      fin_malloc : (size : Val) → l.offer m.at s ≡ O.Malloc size → (c : Option ℕ) → F (given m.shared size c)
      fin_malloc Undef e None = v
      fin_malloc Undef e (Some b) = tt
      fin_malloc (Word n) e c = fin_given n e c

      fin_freed : (a : ℕ) → l.offer m.at s ≡ O.Free (Word (suc a)) → (x : Option ℕ) → heap_at os (suc a) ≡ x → F (freed m.shared (suc a) x)
      fin_freed a e None h = v
      fin_freed a e (Some n) h =
          let ps = removed (suc a) os in
          let lt = heap_low os (suc a) n v.low h in
          let w = sound_objects l m.at os buffers m.threads v ps (λ r le f. removed_keeps os (suc a) r lt le f) (λ j. clear_fewer (items buffers j) (IsThere os) (IsThere ps) (λ r f. filter_fewer (is_at r.0 r.1) (λ o. not (o.base == suc a)) os f) (v.clear j)) (all_filter is_low (λ o. not (o.base == suc a)) os v.low) in
          sound_resume l m.at ps buffers m.threads w i s g (l.resumed m.at s Nothing) (goes_on (O.Free (Word (suc a))) e Nothing tt) (ranges_on (O.Free (Word (suc a))) e Nothing tt)

      fin_free : (addr : Val) → l.offer m.at s ≡ O.Free addr → F (freed_at m.shared addr)
      fin_free Undef e = v
      fin_free (Word zero) e = resumes (O.Free (Word 0)) e Nothing tt (ranges_on (O.Free (Word 0)) e Nothing tt)
      fin_free (Word (suc a)) e = fin_freed a e (heap_at os (suc a)) refl

      fin_begun : (fun arg : Val) → l.offer m.at s ≡ O.Start fun arg → length buffers < 4294967295 → (x : Option State) → l.started m.at fun arg ≡ x → GoodNext (begun shared_part (lang_of l) m i s (Value (Word (length buffers))) (record m.shared { buffers = buffers ++ [] ∷ [] }) x)
      fin_begun fun arg e lt None h = v
      fin_begun fun arg e lt (Some w) h =
          let word : length buffers < 2 ^ 32 = omega arith in
          let o = O.Start fun arg in
          let a = Value (Word (length buffers)) in
          sound_spawn l m.at os buffers (slice_set m.threads i (l.resumed m.at s a)) (resumes o e a word (ranges_on o e a word)) w (Started fun arg w h) (law.started_ranges m.at fun arg w h)

      fin_exit : (word : Val) → F (exited m.shared word)
      fin_exit Undef = v
      fin_exit (Word w) = v

      acts : (o : Offer) → l.offer m.at s ≡ o → (c : Option ℕ) → GoodNext (acted shared_part (lang_of l) m i s (offered o) c)
      acts O.Silent e None = resumes O.Silent e Nothing tt (ranges_on O.Silent e Nothing tt)
      acts O.Silent e (Some c) = tt
      acts (O.Load chunk addr) e None =
          fin_answered (O.Load chunk addr) e (λ w. tt) (λ w. ranges_on (O.Load chunk addr) e (Value w) tt) (loaded (view m.shared.memory own) chunk addr)
      acts (O.Load chunk addr) e (Some c) = tt
      acts (O.Store chunk addr val) e None = fin_store chunk addr val e
      acts (O.Store chunk addr val) e (Some c) = tt
      acts (O.Place n align) e None = tt
      acts (O.Place n align) e (Some b) = fin_when (is_place_allowed os buffers i b n align) _ (λ h. fin_place n align b e h)
      acts (O.Lift b n) e None = fin_lift b n e
      acts (O.Lift b n) e (Some c) = tt
      acts O.Fence e None = fin_empty own (Goes Nothing None m.shared) (resumes O.Fence e Nothing tt (ranges_on O.Fence e Nothing tt))
      acts O.Fence e (Some c) = tt
      acts (O.Atomic kind addr expected desired) e None =
          fin_empty own _ (fin_atomic kind addr expected desired e (load m.shared.memory I32 addr))
      acts (O.Atomic kind addr expected desired) e (Some c) = tt
      acts (O.Malloc size) e c = fin_empty own (given m.shared size c) (fin_malloc size e c)
      acts (O.Free addr) e None = fin_empty own (freed_at m.shared addr) (fin_free addr e)
      acts (O.Free addr) e (Some c) = tt
      acts (O.Start fun arg) e None =
          fin_empty own (spawned m.shared fun arg) (fin_when (nat_lt (length buffers) 4294967295) _ (λ h. fin_begun fun arg e (ltb-true (length buffers) 4294967295 h) (l.started m.at fun arg) refl))
      acts (O.Start fun arg) e (Some c) = tt
      acts (O.Call name words) e None = resumes (O.Call name words) e Nothing tt (ranges_on (O.Call name words) e Nothing tt)
      acts (O.Call name words) e (Some c) = tt
      acts O.Wait e None = tt
      acts O.Wait e (Some w) = fin_when (nat_lt w (2 ^ 32)) (Goes (Value (Word w)) (Some (E.Return i w)) m.shared) (λ h. let lt = ltb-true w (2 ^ 32) h in resumes O.Wait e (Value (Word w)) lt (ranges_on O.Wait e (Value (Word w)) lt))
      acts (O.Exit word) e None = fin_exit word
      acts (O.Exit word) e (Some c) = tt
      acts O.End e None = v
      acts O.End e (Some c) = tt
      acts O.Wrong e None = v
      acts O.Wrong e (Some c) = tt

    runs : (i : ℕ) (c : Option ℕ) (n : Now) (b : Bool) (t : Option State) → slice_get m.threads i ≡ t → GoodNext (ran shared_part (lang_of l) m i c n b t)
    runs i c N.Running false (Some s) g = acts i s g (l.offer m.at s) refl c
    runs i c N.Running false None g = tt
    runs i c N.Running true t g = tt
    runs i c N.Exited b t g = tt
    runs i c N.Wrong b t g = tt
    runs i c N.NoHeap b t g = tt

    -- a drain
    module _ (i : ℕ) (rest : List Item) where
      module _ (chunk : Chunk) (addr val : Val) (e : items buffers i ≡ Put chunk addr val ∷ rest) where
        put_drains : Drains l m.at os buffers m.threads v i (Put chunk addr val) rest e os (v.owned i)
        put_drains =
            record {
              live = v.live i;
              keeps = λ j ne r h. (v.live j r h).0;
              once = v.once i;
              mine = λ j ne r h. v.alone i j r ne h;
              theirs = λ j ne r h. v.alone j i r (λ f. ne (sym f)) h;
              plays = λ s g. subst (λ x. Plays x (v.owned i) (λ r. count r (l.ranges s))) e (v.plays i s g);
              clear_rest = subst (λ x. Clear x (IsThere os)) e (v.clear i);
              clear_others = λ j ne. v.clear j;
              low = v.low;
            }

        put_done : (x : Bool) → Good (record m { shared = put_on m.shared i rest (if x then Some (record m.shared.memory { cells = cells_put m.shared.memory.cells chunk addr val }) else None) })
        put_done true = sound_drain l m.at os buffers m.threads v i (Put chunk addr val) rest e os (v.owned i) put_drains
        put_done false = v

      module _ (b n : ℕ) (e : items buffers i ≡ Place b n ∷ rest) where
        abbrev placed : List Object
        placed = inserted (local b n) (unmet b n os)

        abbrev more : Range → ℕ
        more = λ r. bit (is_same r (b, n)) + v.owned i r

        clears : Clear (Place b n ∷ rest) (IsThere os)
        clears = subst (λ x. Clear x (IsThere os)) e (v.clear i)

        room : (0x90000000 ≤ b) × (1 ≤ n)
        room = (subst (λ x. Stacked x) e (v.stacked i)).0

        -- no thread owns the range
        absent : (j : ℕ) → v.owned j (b, n) ≡ 0
        absent j = go (v.owned j (b, n)) refl
          where
            go : (x : ℕ) → v.owned j (b, n) ≡ x → v.owned j (b, n) ≡ 0
            go zero f = f
            go (suc x) f = let some : 0 < v.owned j (b, n) = omega arith in absurd (opposed (meets b n b n) (meets_self b n room.1) (clears.0 (b, n) (v.live j (b, n) some).0))

        absent_at : (j : ℕ) (r : Range) → is_same r (b, n) ≡ true → v.owned j r ≡ 0
        absent_at j r f = ap (v.owned j) (same_is r (b, n) f) ∙ absent j

        live_case : (r : Range) (x : Bool) → is_same r (b, n) ≡ x → 0 < bit x + v.owned i r → IsThere placed r × (0x90000000 ≤ r.0)
        live_case r true f h = subst (λ q. IsThere placed q × (0x90000000 ≤ q.0)) (sym (same_is r (b, n) f)) (placed_there os b n, room.0)
        live_case r false f h = let some : 0 < v.owned i r = omega arith in let a = v.live i r some in (placed_keeps os b n clears.0 r a.0, a.1)

        once_case : (r : Range) (x : Bool) → is_same r (b, n) ≡ x → bit x + v.owned i r ≤ 1
        once_case r true f = omega (arith, absent_at i r f)
        once_case r false f = omega (arith, v.once i r)

        mine_case : (j : ℕ) → (j ≡ i → ⊥) → (r : Range) (x : Bool) → is_same r (b, n) ≡ x → 0 < bit x + v.owned i r → v.owned j r ≡ 0
        mine_case j ne r true f h = absent_at j r f
        mine_case j ne r false f h = let some : 0 < v.owned i r = omega arith in v.alone i j r ne some

        theirs_case : (j : ℕ) → (j ≡ i → ⊥) → (r : Range) (x : Bool) → is_same r (b, n) ≡ x → 0 < v.owned j r → bit x + v.owned i r ≡ 0
        theirs_case j ne r true f h = absurd (omega (arith, absent_at j r f))
        theirs_case j ne r false f h = omega (arith, v.alone j i r (λ k. ne (sym k)) h)

        place_drains : Drains l m.at os buffers m.threads v i (Place b n) rest e placed more
        place_drains =
            record {
              live = λ r h. live_case r (is_same r (b, n)) refl h;
              keeps = λ j ne r h. placed_keeps os b n clears.0 r (v.live j r h).0;
              once = λ r. once_case r (is_same r (b, n)) refl;
              mine = λ j ne r h. mine_case j ne r (is_same r (b, n)) refl h;
              theirs = λ j ne r h. theirs_case j ne r (is_same r (b, n)) refl h;
              plays = λ s g. subst (λ x. Plays x (v.owned i) (λ r. count r (l.ranges s))) e (v.plays i s g);
              clear_rest = clear_fewer rest (λ r. IsThere os r ⊎ (r ≡ (b, n))) (IsThere placed) (placed_most os b n) clears.1;
              clear_others = λ j ne. clear_fewer (items buffers j) (λ r. IsThere os r ⊎ (r ≡ (b, n))) (IsThere placed) (placed_most os b n) (clear_more (items buffers j) (IsThere os) (b, n) (subst (λ x. Apart x (items buffers j)) e (v.apart i j ne)).0 (v.clear j));
              low = all_inserted is_low (local b n) (unmet b n os) ∙ all_filter is_low (λ o. not (is_met b n o)) os v.low;
            }

        place_done : Good (record m { shared = put_on m.shared i rest (applied m.shared.memory (Place b n)) })
        place_done = sound_drain l m.at os buffers m.threads v i (Place b n) rest e placed more place_drains

      module _ (b n : ℕ) (e : items buffers i ≡ Lift b n ∷ rest) where
        abbrev fewer : Range → ℕ
        fewer = λ r. v.owned i r - bit (is_same r (b, n))

        abbrev left : List Object
        left = lifted b n os

        owns : 0 < v.owned i (b, n)
        owns =
            let lt : i < length m.threads = omega (arith, items_within buffers i (Lift b n) rest e, v.many) in
            let s = get_some m.threads i lt in
            (subst (λ x. Plays x (v.owned i) (λ r. count r (l.ranges s.0))) e (v.plays i s.0 s.1)).0

        owned_still : (r : Range) → 0 < fewer r → 0 < v.owned i r
        owned_still r h = omega arith

        other_range : (r : Range) → 0 < fewer r → r ≢ (b, n)
        other_range r h f =
            let one : bit (is_same r (b, n)) ≡ 1 = ap (λ q. bit (is_same q (b, n))) f ∙ ap bit (same_self (b, n)) in
            absurd (omega (arith, v.once i r))

        not_theirs : (j : ℕ) → (j ≡ i → ⊥) → (r : Range) → 0 < v.owned j r → r ≢ (b, n)
        not_theirs j ne r h f =
            let none : v.owned j r ≡ 0 = ap (v.owned j) f ∙ v.alone i j (b, n) ne owns in
            absurd (omega arith)

        lift_drains : Drains l m.at os buffers m.threads v i (Lift b n) rest e left fewer
        lift_drains =
            record {
              live = λ r h. let a = v.live i r (owned_still r h) in (lifted_keeps os b n r (other_range r h) a.0, a.1);
              keeps = λ j ne r h. lifted_keeps os b n r (not_theirs j ne r h) (v.live j r h).0;
              once = λ r. omega (arith, v.once i r);
              mine = λ j ne r h. v.alone i j r ne (owned_still r h);
              theirs = λ j ne r h. omega (arith, v.alone j i r (λ k. ne (sym k)) h);
              plays = λ s g. (subst (λ x. Plays x (v.owned i) (λ r. count r (l.ranges s))) e (v.plays i s g)).1;
              clear_rest = clear_fewer rest (λ r. IsThere os r × (r ≢ (b, n))) (IsThere left) (lifted_most os b n) (subst (λ x. Clear x (IsThere os)) e (v.clear i));
              clear_others = λ j ne. clear_fewer (items buffers j) (IsThere os) (IsThere left) (λ r f. (lifted_most os b n r f).0) (v.clear j);
              low = all_filter is_low (λ o. not (is_at b n o)) os v.low;
            }

        lift_done : Good (record m { shared = put_on m.shared i rest (applied m.shared.memory (Lift b n)) })
        lift_done = sound_drain l m.at os buffers m.threads v i (Lift b n) rest e left fewer lift_drains

    drains_items : (i : ℕ) (is : List Item) → items buffers i ≡ is → GoodNext (drained shared_part (lang_of l) m N.Running (drained_by m.shared i is))
    drains_items i [] e = tt
    drains_items i (Put chunk addr val ∷ rest) e = put_done i rest chunk addr val e (is_right os chunk addr)
    drains_items i (Place b n ∷ rest) e = place_done i rest b n e
    drains_items i (Lift b n ∷ rest) e = lift_done i rest b n e

    drains : (i : ℕ) (n : Now) → GoodNext (drained shared_part (lang_of l) m n (drained_by m.shared i (items buffers i)))
    drains i N.Running = drains_items i (items buffers i) refl
    drains i N.Exited = tt
    drains i N.Wrong = tt
    drains i N.NoHeap = tt

    steps_keep : (x : Step) → GoodNext (step_of shared_part (lang_of l) m x)
    steps_keep (Run i c) = runs i c m.shared.now (m.shared.ended i) (slice_get m.threads i) refl
    steps_keep (Drain i) = drains i m.shared.now

  next_good : (m : MachineState State) → Good m → (a : Option (Option Event × MachineState State)) → GoodNext a → Good (state_of m a)
  next_good m v None h = v
  next_good m v (Some a) h = h

  after_good : (m : MachineState State) → Good m → (steps : List Step) → Good (after (open_machine l) m steps)
  after_good m v [] = v
  after_good m v (x ∷ xs) = after_good (next (open_machine l) m x) (next_good m v (step_of shared_part (lang_of l) m x) (steps_keep m v x)) xs

  -- globals are no heap blocks
  globals_low : (at : Places) (gs : List (Names × ℕ × ℕ × List ℕ)) (m : MemoryMeaning) → list_all is_low m.objects ≡ true → list_all is_low (fold (with_global at) m gs).objects ≡ true
  globals_low at [] m h = h
  globals_low at (o ∷ gs) m h = globals_low at gs (with_global at m o) (all_inserted is_low _ m.objects ∙ h)

  one_empty : (i : ℕ) → items ([] ∷ []) i ≡ []
  one_empty zero = refl
  one_empty (suc i) = refl

  opens_good : (at : Places) → Good ((open_machine l).opening at)
  opens_good at =
      record {
        owned = λ j r. 0;
        many = refl;
        live = λ j r h. absurd (omega arith);
        once = λ j r. omega arith;
        alone = λ i j r ne h. refl;
        unborn = λ j r le. refl;
        plays = plays;
        known = known;
        clear = λ j. subst (λ x. Clear x (IsThere (opening_memory l.globals at).objects)) (sym (one_empty j)) tt;
        apart = λ i j ne. subst (λ x. Apart x (items ([] ∷ []) j)) (sym (one_empty i)) tt;
        stacked = λ j. subst (λ x. Stacked x) (sym (one_empty j)) tt;
        low = globals_low at l.globals.objects (record { objects = []; cells = λ x. Blank }) refl;
      }
    where
      plays : (j : ℕ) (s : State) → slice_get (l.first at ∷ []) j ≡ Some s → Plays (items ([] ∷ []) j) (λ r. 0) (λ r. count r (l.ranges s))
      plays zero s e = let f : l.first at ≡ s = cc in λ r. sym (ap (count r) (ap l.ranges (sym f) ∙ law.first_ranges at))
      plays (suc j) s e = absurd (none_some s e)

      known : (j : ℕ) (s : State) → slice_get (l.first at ∷ []) j ≡ Some s → IsThread l at s
      known zero s e = let f : l.first at ≡ s = cc in subst (λ x. IsThread l at x) f First
      known (suc j) s e = absurd (none_some s e)

  pub always_safe : (at : Places) (steps : List Step) → AreSafe (after (open_machine l) ((open_machine l).opening at) steps).shared
  always_safe at steps i =
      let m = after (open_machine l) ((open_machine l).opening at) steps in
      let v = after_good ((open_machine l).opening at) (opens_good at) steps in
      safe_items l m.at m.shared.memory.objects m.shared.buffers m.threads v i (items m.shared.buffers i) refl
