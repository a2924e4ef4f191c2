-- Answers in a list are answers that are put into the tree.
use Rattle.std.proofs.Common.{◌≡◌, ℕ, zero, suc, ◌+◌, ◌-◌, ◌<◌, ◌≤◌, length, List, [], ◌∷◌, Option, Some, None, refl, sym, ap, ◌∙◌, subst, arith, add-one}
use Rattle.std.specs.Prelude.{slice_get}
use Rattle.std.proofs.lemmas.Option.{slice_get_within}
use Rattle.tso_words.specs.declared.value.Val.{Val}
use Rattle.tso_words.specs.declared.value.Val.TheVariants.{Undef, Word}
use Rattle.tso_words.specs.declared.value.Chunk.{Chunk}
use Rattle.tso_words.specs.Operators.{operate}
use Rattle.clight_lang.specs.declared.next.NextPart.{NextPart}
use Rattle.clight_lang.specs.declared.next.NextPart.TheVariants as N
use Rattle.clight_lang.specs.Syntax as S
use Rattle.clight_lang.specs.Next as L
use Rattle.clight_lang.specs.Next.{Scope, truth_value, truth_next, then_next, answered, next_from}
use Rattle.clight_lang.specs.Put.{Term, Known, Read, Unary, Binary, AndAlso, OrElse, Choose, term_of, Next, Gives, Bad, Due, with_value, operated, by_word, next, if_value, side, put, Comes, value, wrong, read, more}

-- the value with answers in a list, of an expression with some answers in it
abbrev walk : List Val → Term → ℕ → NextPart
walk vs (Known v) i = N.Value v i
walk vs (Read c a) i = then_next (walk vs a i) (λ v j. answered c v j (slice_get vs j))
walk vs (Unary op a) i = then_next (walk vs a i) (λ v j. L.operated (operate op (v ∷ [])) j)
walk vs (Binary op a b) i =
    then_next (walk vs a i) (λ x j. then_next (walk vs b j) (λ y k. L.operated (operate op (x ∷ y ∷ [])) k))
walk vs (AndAlso a b) i =
    then_next (walk vs a i) (λ x j. L.by_word x (truth_next (walk vs b j)) (N.Value (Word 0) j))
walk vs (OrElse a b) i =
    then_next (walk vs a i) (λ x j. L.by_word x (N.Value (Word 1) j) (truth_next (walk vs b j)))
walk vs (Choose c a b) i =
    then_next (walk vs c i) (λ x j. L.by_word x (walk vs a j) (walk vs b j))

walk_same : (s : Scope) (vs : List Val) (e : S.Expression) (i : ℕ) → walk vs (term_of s e) i ≡ next_from s vs e i
walk_same s vs (S.Const n) i = refl
walk_same s vs (S.Temp t) i = refl
walk_same s vs (S.LocalAddr l) i = refl
walk_same s vs (S.GlobalAddr x) i = refl
walk_same s vs (S.Read c a) i = λ z. then_next (walk_same s vs a i z) (λ v j. answered c v j (slice_get vs j))
walk_same s vs (S.Unary op a) i = λ z. then_next (walk_same s vs a i z) (λ v j. L.operated (operate op (v ∷ [])) j)
walk_same s vs (S.Binary op a b) i =
    λ z. then_next (walk_same s vs a i z) (λ x j. then_next (walk_same s vs b j z) (λ y k. L.operated (operate op (x ∷ y ∷ [])) k))
walk_same s vs (S.AndAlso a b) i =
    λ z. then_next (walk_same s vs a i z) (λ x j. L.by_word x (truth_next (walk_same s vs b j z)) (N.Value (Word 0) j))
walk_same s vs (S.OrElse a b) i =
    λ z. then_next (walk_same s vs a i z) (λ x j. L.by_word x (N.Value (Word 1) j) (truth_next (walk_same s vs b j z)))
walk_same s vs (S.Choose c a b) i =
    λ z. then_next (walk_same s vs c i z) (λ x j. L.by_word x (walk_same s vs a j z) (walk_same s vs b j z))

module _ (vs : List Val) where
  -- what a walk does where this comes next, and at a read, where its answer is put in
  abbrev Does : Next → (ℕ → NextPart) → (Val → ℕ → NextPart) → Type 0
  Does (Gives v) w p = (i : ℕ) → w i ≡ N.Value v i
  Does Bad w p = (i : ℕ) → w i ≡ N.Wrong
  Does (Due c a) w p = (i : ℕ) → (slice_get vs i ≡ None → w i ≡ N.Read c a) × ((v : Val) → slice_get vs i ≡ Some v → w i ≡ p v (i + 1))

  does_operated : (o : Option Val) (w : ℕ → NextPart) (p : Val → ℕ → NextPart) → ((i : ℕ) → w i ≡ L.operated o i) → Does (operated o) w p
  does_operated None w p h = h
  does_operated (Some v) w p h = h

  -- a part that is evaluated first, with what is made of its value
  first : (n : Next) (w : ℕ → NextPart) (p : Val → ℕ → NextPart) (go : Val → Next) (g : Val → ℕ → NextPart) (q : Val → ℕ → NextPart) → Does n w p → ((x : Val) → n ≡ Gives x → Does (go x) (g x) q) → ((c : Chunk) (a : Val) → n ≡ Due c a → (v : Val) (i : ℕ) → q v i ≡ then_next (p v i) g) → Does (with_value n go) (λ i. then_next (w i) g) q
  first (Gives x) w p go g q h k r = subst (λ f. Does (go x) f q) (sym (λ z i. then_next (h i z) g)) (k x refl)
  first Bad w p go g q h k r = λ i. ap (λ o. then_next o g) (h i)
  first (Due c a) w p go g q h k r =
      λ i. (λ e. ap (λ o. then_next o g) ((h i).0 e), λ v e. ap (λ o. then_next o g) ((h i).1 v e) ∙ sym (r c a refl v (i + 1)))

  gave : (n : Next) (x : Val) (w : ℕ → NextPart) (p : Val → ℕ → NextPart) → n ≡ Gives x → Does n w p → (i : ℕ) → w i ≡ N.Value x i
  gave n x w p e h = subst (λ m. Does m w p) e h

  retarget : (n : Next) (w : ℕ → NextPart) (p q : Val → ℕ → NextPart) → Does n w p → ((v : Val) (i : ℕ) → q v i ≡ p v i) → Does n w q
  retarget (Gives v) w p q h e = h
  retarget Bad w p q h e = h
  retarget (Due c a) w p q h e = λ i. ((h i).0, λ v s. (h i).1 v s ∙ sym (e v (i + 1)))

  -- where the read that is due is in the first part, or in a later one
  in_first : (n : Next) (c : Chunk) (a : Val) (go : Val → Term) (t : Term) (i : ℕ) → n ≡ Due c a → walk vs (if_value n go t) i ≡ walk vs t i
  in_first n c a go t i e = ap (λ m. walk vs (if_value m go t) i) e

  in_second : (n : Next) (x : Val) (go : Val → Term) (t : Term) (i : ℕ) → n ≡ Gives x → walk vs (if_value n go t) i ≡ walk vs (go x) i
  in_second n x go t i e = ap (λ m. walk vs (if_value m go t) i) e

  does : (t : Term) → Does (next t) (walk vs t) (λ v. walk vs (put v t))
  does (Known v) = λ i. refl
  does (Read c a) =
      first (next a) (walk vs a) (λ v. walk vs (put v a)) (λ v. Due c v) (λ v j. answered c v j (slice_get vs j)) (λ v. walk vs (put v (Read c a))) (does a) (λ x e i. (λ n. ap (answered c x i) n, λ v s. ap (answered c x i) s ∙ sym (in_second (next a) x (λ y. Known v) _ (i + 1) e))) (λ d y e v i. in_first (next a) d y _ _ i e)
  does (Unary op a) =
      first (next a) (walk vs a) (λ v. walk vs (put v a)) (λ v. operated (operate op (v ∷ []))) (λ v j. L.operated (operate op (v ∷ [])) j) (λ v. walk vs (put v (Unary op a))) (does a) (λ x e. does_operated (operate op (x ∷ [])) _ _ (λ i. refl)) (λ d y e v i. refl)
  does (Binary op a b) =
      first (next a) (walk vs a) (λ v. walk vs (put v a)) (λ x. with_value (next b) (λ y. operated (operate op (x ∷ y ∷ [])))) (λ x j. then_next (walk vs b j) (λ y k. L.operated (operate op (x ∷ y ∷ [])) k)) (λ v. walk vs (put v (Binary op a b))) (does a) (λ x e. first (next b) (walk vs b) (λ v. walk vs (put v b)) (λ y. operated (operate op (x ∷ y ∷ []))) (λ y k. L.operated (operate op (x ∷ y ∷ [])) k) (λ v. walk vs (put v (Binary op a b))) (does b) (λ y f. does_operated (operate op (x ∷ y ∷ [])) _ _ (λ i. refl)) (λ d y f v i. in_second (next a) x (λ z. Binary op a (put v b)) _ i e ∙ ap (λ o. then_next o (λ x j. then_next (walk vs (put v b) j) (λ y k. L.operated (operate op (x ∷ y ∷ [])) k))) (gave (next a) x _ (λ v. walk vs (put v a)) e (does a) i))) (λ d y e v i. in_first (next a) d y _ _ i e)
  does (AndAlso a b) =
      first (next a) (walk vs a) (λ v. walk vs (put v a)) (λ x. by_word x (with_value (next b) (λ y. Gives (truth_value y))) (Gives (Word 0))) (λ x j. L.by_word x (truth_next (walk vs b j)) (N.Value (Word 0) j)) (λ v. walk vs (put v (AndAlso a b))) (does a) (and_second (does a) (does b)) (λ d y e v i. in_first (next a) d y _ _ i e)
    where
      and_second : Does (next a) (walk vs a) (λ v. walk vs (put v a)) → Does (next b) (walk vs b) (λ v. walk vs (put v b)) → (x : Val) → next a ≡ Gives x → Does (by_word x (with_value (next b) (λ y. Gives (truth_value y))) (Gives (Word 0))) (λ j. L.by_word x (truth_next (walk vs b j)) (N.Value (Word 0) j)) (λ v. walk vs (put v (AndAlso a b)))
      and_second ha hb Undef e = λ i. refl
      and_second ha hb (Word zero) e = λ i. refl
      and_second ha hb (Word (suc n)) e =
          first (next b) (walk vs b) (λ v. walk vs (put v b)) (λ y. Gives (truth_value y)) (λ y k. N.Value (truth_value y) k) (λ v. walk vs (put v (AndAlso a b))) hb (λ y f i. refl) (λ d y f v i. in_second (next a) (Word (suc n)) (λ z. AndAlso a (put v b)) _ i e ∙ ap (λ o. then_next o (λ x j. L.by_word x (truth_next (walk vs (put v b) j)) (N.Value (Word 0) j))) (gave (next a) (Word (suc n)) _ (λ v. walk vs (put v a)) e ha i))
  does (OrElse a b) =
      first (next a) (walk vs a) (λ v. walk vs (put v a)) (λ x. by_word x (Gives (Word 1)) (with_value (next b) (λ y. Gives (truth_value y)))) (λ x j. L.by_word x (N.Value (Word 1) j) (truth_next (walk vs b j))) (λ v. walk vs (put v (OrElse a b))) (does a) (or_second (does a) (does b)) (λ d y e v i. in_first (next a) d y _ _ i e)
    where
      or_second : Does (next a) (walk vs a) (λ v. walk vs (put v a)) → Does (next b) (walk vs b) (λ v. walk vs (put v b)) → (x : Val) → next a ≡ Gives x → Does (by_word x (Gives (Word 1)) (with_value (next b) (λ y. Gives (truth_value y)))) (λ j. L.by_word x (N.Value (Word 1) j) (truth_next (walk vs b j))) (λ v. walk vs (put v (OrElse a b)))
      or_second ha hb Undef e = λ i. refl
      or_second ha hb (Word (suc n)) e = λ i. refl
      or_second ha hb (Word zero) e =
          first (next b) (walk vs b) (λ v. walk vs (put v b)) (λ y. Gives (truth_value y)) (λ y k. N.Value (truth_value y) k) (λ v. walk vs (put v (OrElse a b))) hb (λ y f i. refl) (λ d y f v i. in_second (next a) (Word 0) (λ z. OrElse a (put v b)) _ i e ∙ ap (λ o. then_next o (λ x j. L.by_word x (N.Value (Word 1) j) (truth_next (walk vs (put v b) j)))) (gave (next a) (Word 0) _ (λ v. walk vs (put v a)) e ha i))
  does (Choose c a b) =
      first (next c) (walk vs c) (λ v. walk vs (put v c)) (λ x. by_word x (next a) (next b)) (λ x j. L.by_word x (walk vs a j) (walk vs b j)) (λ v. walk vs (put v (Choose c a b))) (does c) (choose_second (does c) (does a) (does b)) (λ d y e v i. in_first (next c) d y _ _ i e)
    where
      choose_second : Does (next c) (walk vs c) (λ v. walk vs (put v c)) → Does (next a) (walk vs a) (λ v. walk vs (put v a)) → Does (next b) (walk vs b) (λ v. walk vs (put v b)) → (x : Val) → next c ≡ Gives x → Does (by_word x (next a) (next b)) (λ j. L.by_word x (walk vs a j) (walk vs b j)) (λ v. walk vs (put v (Choose c a b)))
      choose_second hc ha hb Undef e = λ i. refl
      choose_second hc ha hb (Word zero) e =
          retarget (next b) _ _ _ hb (λ v i. in_second (next c) (Word 0) (λ x. side x (Choose c (put v a) b) (Choose c a (put v b))) _ i e ∙ ap (λ o. then_next o (λ x j. L.by_word x (walk vs a j) (walk vs (put v b) j))) (gave (next c) (Word 0) _ (λ v. walk vs (put v c)) e hc i))
      choose_second hc ha hb (Word (suc n)) e =
          retarget (next a) _ _ _ ha (λ v i. in_second (next c) (Word (suc n)) (λ x. side x (Choose c (put v a) b) (Choose c a (put v b))) _ i e ∙ ap (λ o. then_next o (λ x j. L.by_word x (walk vs (put v a) j) (walk vs b j))) (gave (next c) (Word (suc n)) _ (λ v. walk vs (put v c)) e hc i))

  -- what comes next, where each answer that is there leads on
  comes_on : (t : Term) (i : ℕ) (n : Next) → next t ≡ n → Does n (walk vs t) (λ v. walk vs (put v t)) → (o : Option Val) → slice_get vs i ≡ o → ((w : Val) → slice_get vs i ≡ Some w → Comes vs (put w t) (i + 1) (walk vs (put w t) (i + 1))) → Comes vs t i (walk vs t i)
  comes_on t i (Gives v) e h o f k = subst (λ r. Comes vs t i r) (sym (h i)) (value e)
  comes_on t i Bad e h o f k = subst (λ r. Comes vs t i r) (sym (h i)) (wrong e)
  comes_on t i (Due c a) e h None f k = subst (λ r. Comes vs t i r) (sym ((h i).0 f)) (read e f)
  comes_on t i (Due c a) e h (Some w) f k =
      subst (λ r. Comes vs t i r) (sym ((h i).1 w f)) (more e f (k w f))

  -- the walk gives what comes next once the answers are put in
  comes_to : (fuel : ℕ) (t : Term) (i : ℕ) → length vs ≤ i + fuel → Comes vs t i (walk vs t i)
  comes_to zero t i le =
      comes_on t i (next t) refl (does t) (slice_get vs i) refl (λ w f. absurd (omega (arith, slice_get_within vs i w f)))
  comes_to (suc m) t i le =
      comes_on t i (next t) refl (does t) (slice_get vs i) refl (λ w f. comes_to m (put w t) (i + 1) (omega arith))

  pub comes : (s : Scope) (e : S.Expression) → Comes vs (term_of s e) 0 (next_from s vs e 0)
  comes s e =
      subst (λ r. Comes vs (term_of s e) 0 r) (walk_same s vs e 0) (comes_to (length vs) (term_of s e) 0 (omega arith))
