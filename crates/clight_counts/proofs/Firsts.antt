-- Tables by name in which the first thing of a name stays: how they grow, and what a look-up finds.
use Rattle.std.proofs.Common.{◌≡◌, ℕ, zero, suc, ◌+◌, ◌<◌, ◌≤◌, Bool, true, false, cond, ◌&&◌, ◌||◌, List, [], ◌∷◌, ◌++◌, length, map, take, get_or, find, Option, Some, None, is_some, true≢false, refl, sym, ap, ◌∙◌, nat_eq, eq-eqb, eqb-true}
use Rattle.std.specs.List.{list_any}
use Rattle.std.specs.Option.{option_map}
use Rattle.std.specs.Map.{lookup}
use Rattle.std.specs.Cmp.Lexicographic.{pointwise}
use Rattle.indexmap.specs.IndexMap.{insert_entry}
use Rattle.std.proofs.lemmas.List.{map-append}
use Rattle.clight_types.specs.Types.{Spelling, same_name}
use Rattle.clight_types.proofs.Entries.{same_name_is}
use Rattle.clight_counts.specs.First.{with_first, firsts}

-- ## Names

pub number_turned : (n m : ℕ) → nat_eq n m ≡ nat_eq m n
number_turned n m = by (nat_eq n m) refl (nat_eq m n) refl
  where
    by : (a : Bool) → nat_eq n m ≡ a → (b : Bool) → nat_eq m n ≡ b → a ≡ b
    by true e true f = refl
    by false e false f = refl
    by true e false f = absurd (true≢false (sym (eq-eqb m n (sym (eqb-true n m e))) ∙ f))
    by false e true f = absurd (true≢false (sym (eq-eqb n m (sym (eqb-true m n f))) ∙ e))

pub name_turned : (a b : Spelling) → same_name a b ≡ same_name b a
name_turned [] [] = refl
name_turned [] (y ∷ ys) = refl
name_turned (x ∷ xs) [] = refl
name_turned (x ∷ xs) (y ∷ ys) = ap (λ b. b && same_name xs ys) (number_turned x y) ∙ ap (λ b. nat_eq y x && b) (name_turned xs ys)

module _ {V : Type 0} where
  -- ## One thing more

  any_told : (name : Spelling) (es : List (Spelling × V)) → list_any (λ e. same_name name e.0) es ≡ is_some (lookup (pointwise nat_eq name) es)
  any_told name [] = refl
  any_told name (e ∷ es) = by (same_name name e.0) (any_told name es)
    where
      by : (b : Bool) → list_any (λ e. same_name name e.0) es ≡ is_some (lookup (pointwise nat_eq name) es) → (b || list_any (λ e. same_name name e.0) es) ≡ is_some (cond b (Some e.1) (lookup (pointwise nat_eq name) es))
      by true h = refl
      by false h = h

  pub put_present : (name : Spelling) (v : V) (es : List (Spelling × V)) → is_some (lookup (pointwise nat_eq name) es) ≡ true → es ≡ with_first es (name, v)
  put_present name v es h = sym (ap (λ b. cond b es (es ++ (name, v) ∷ [])) (any_told name es ∙ h))

  inserted : (name : Spelling) (v : V) (es : List (Spelling × V)) → list_any (λ e. same_name name e.0) es ≡ false → insert_entry (pointwise nat_eq) es name v ≡ es ++ (name, v) ∷ []
  inserted name v [] h = refl
  inserted name v (e ∷ es) h = by (same_name name e.0) h (inserted name v es)
    where
      by : (b : Bool) → (b || list_any (λ e. same_name name e.0) es) ≡ false → (list_any (λ e. same_name name e.0) es ≡ false → insert_entry (pointwise nat_eq) es name v ≡ es ++ (name, v) ∷ []) → cond b ((e.0, v) ∷ es) (e ∷ insert_entry (pointwise nat_eq) es name v) ≡ e ∷ (es ++ (name, v) ∷ [])
      by true k rest = absurd (true≢false k)
      by false k rest = ap (λ r. e ∷ r) (rest k)

  pub put_absent : (name : Spelling) (v : V) (es : List (Spelling × V)) → is_some (lookup (pointwise nat_eq name) es) ≡ false → insert_entry (pointwise nat_eq) es name v ≡ with_first es (name, v)
  put_absent name v es h =
      inserted name v es (any_told name es ∙ h)
      ∙ sym (ap (λ b. cond b es (es ++ (name, v) ∷ [])) (any_told name es ∙ h))

  pub firsts_append : (es ps qs : List (Spelling × V)) → firsts es (ps ++ qs) ≡ firsts (firsts es ps) qs
  firsts_append es [] qs = refl
  firsts_append es (p ∷ ps) qs = firsts_append (with_first es p) ps qs

  -- ## What a look-up finds

  abbrev pub found_first : Option V → Option V → Option V
  found_first None b = b
  found_first (Some a) b = Some a

  none_behind : (a : Option V) → found_first a None ≡ a
  none_behind None = refl
  none_behind (Some v) = refl

  found_twice : (a b c : Option V) → found_first (found_first a b) c ≡ found_first a (found_first b c)
  found_twice None b c = refl
  found_twice (Some v) b c = refl

  found_end : (k : Spelling) (es : List (Spelling × V)) (p : Spelling × V) → lookup (same_name k) (es ++ p ∷ []) ≡ found_first (lookup (same_name k) es) (lookup (same_name k) (p ∷ []))
  found_end k [] p = refl
  found_end k (e ∷ es) p = by (same_name k e.0) (found_end k es p)
    where
      by : (b : Bool) → lookup (same_name k) (es ++ p ∷ []) ≡ found_first (lookup (same_name k) es) (lookup (same_name k) (p ∷ []))
          → cond b (Some e.1) (lookup (same_name k) (es ++ p ∷ [])) ≡ found_first (cond b (Some e.1) (lookup (same_name k) es)) (lookup (same_name k) (p ∷ []))
      by true h = refl
      by false h = h

  found_put : (k : Spelling) (es : List (Spelling × V)) (p : Spelling × V) → lookup (same_name k) (with_first es p) ≡ found_first (lookup (same_name k) es) (lookup (same_name k) (p ∷ []))
  found_put k es p = by (list_any (λ e. same_name p.0 e.0) es) refl
    where
      there : list_any (λ e. same_name p.0 e.0) es ≡ true → (c : Bool) → same_name k p.0 ≡ c → (o : Option V) → lookup (same_name k) es ≡ o → o ≡ found_first o (cond c (Some p.1) None)
      there h c e (Some v) f = refl
      there h false e None f = refl
      there h true e None f = absurd (true≢false (sym h ∙ any_told p.0 es ∙ ap (λ n. is_some (lookup (same_name n) es)) (sym (same_name_is k p.0 e)) ∙ ap is_some f))

      by : (b : Bool) → list_any (λ e. same_name p.0 e.0) es ≡ b → lookup (same_name k) (cond b es (es ++ p ∷ [])) ≡ found_first (lookup (same_name k) es) (lookup (same_name k) (p ∷ []))
      by true h = there h (same_name k p.0) refl (lookup (same_name k) es) refl
      by false h = found_end k es p

  pub found_firsts : (k : Spelling) (es ps : List (Spelling × V)) → lookup (same_name k) (firsts es ps) ≡ found_first (lookup (same_name k) es) (lookup (same_name k) ps)
  found_firsts k es [] = sym (none_behind (lookup (same_name k) es))
  found_firsts k es (p ∷ ps) =
      found_firsts k (with_first es p) ps
      ∙ ap (λ o. found_first o (lookup (same_name k) ps)) (found_put k es p)
      ∙ found_twice (lookup (same_name k) es) (lookup (same_name k) (p ∷ [])) (lookup (same_name k) ps)
      ∙ ap (found_first (lookup (same_name k) es)) (by (same_name k p.0))
    where
      by : (b : Bool) → found_first (cond b (Some p.1) None) (lookup (same_name k) ps) ≡ cond b (Some p.1) (lookup (same_name k) ps)
      by true = refl
      by false = refl

  -- the first thing of a name, as the table that is made of all finds it
  pub found_named : {D : Type 0} (key : D → Spelling) (make : D → V) (k : Spelling) (ds : List D) → lookup (same_name k) (firsts [] (map (λ d. (key d, make d)) ds)) ≡ option_map make (find (λ d. same_name (key d) k) ds)
  found_named {D} key make k ds = found_firsts k [] (map (λ d. (key d, make d)) ds) ∙ among ds
    where
      among : (ds : List D) → lookup (same_name k) (map (λ d. (key d, make d)) ds) ≡ option_map make (find (λ d. same_name (key d) k) ds)
      among [] = refl
      among (d ∷ ds) = ap (λ b. cond b (Some (make d)) (lookup (same_name k) (map (λ d. (key d, make d)) ds))) (name_turned k (key d)) ∙ by (same_name (key d) k) (among ds)
        where
          by : (b : Bool) → lookup (same_name k) (map (λ d. (key d, make d)) ds) ≡ option_map make (find (λ d. same_name (key d) k) ds) → cond b (Some (make d)) (lookup (same_name k) (map (λ d. (key d, make d)) ds)) ≡ option_map make (cond b (Some d) (find (λ d. same_name (key d) k) ds))
          by true h = refl
          by false h = h

-- values that are seen as others
abbrev seen : {V W : Type 0} → (V → W) → Spelling × V → Spelling × W
seen view e = (e.0, view e.1)

pub seen_first : {V W : Type 0} (view : V → W) (es : List (Spelling × V)) (p : Spelling × V) → map (seen view) (with_first es p) ≡ with_first (map (seen view) es) (p.0, view p.1)
seen_first {V} {W} view es p = ap (λ b. map (seen view) (cond b es (es ++ p ∷ []))) (same es) ∙ by (list_any (λ (e : Spelling × W). same_name p.0 e.0) (map (seen view) es))
  where
    same : (es : List (Spelling × V)) → list_any (λ (e : Spelling × V). same_name p.0 e.0) es ≡ list_any (λ (e : Spelling × W). same_name p.0 e.0) (map (seen view) es)
    same [] = refl
    same (e ∷ es) = ap (λ b. same_name p.0 e.0 || b) (same es)

    by : (b : Bool) → map (seen view) (cond b es (es ++ p ∷ [])) ≡ cond b (map (seen view) es) (map (seen view) es ++ (p.0, view p.1) ∷ [])
    by true = refl
    by false = map-append (seen view) es (p ∷ [])
