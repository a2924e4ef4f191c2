-- What the maps of a scene find and how they change, name by name.
use Rattle.std.proofs.Common.{◌≡◌, ℕ, suc, ◌+◌, ◌-◌, ◌<◌, Bool, true, false, cond, not, List, [], ◌∷◌, ◌++◌, length, map, Some, None, is_some, true≢false, refl, sym, ap, subst, ◌∙◌, nat_eq, nat_lt, reverse, take, get_or, arith}
use Rattle.std.specs.Prelude.{slice_get, position}
use Rattle.std.specs.List.{position_or_len}
use Rattle.std.specs.Cmp.Lexicographic.{pointwise}
use Rattle.std.specs.Map.{lookup, keys_of, values_of}
use Rattle.std.proofs.lemmas.Option.{same_Some}
use Rattle.std.proofs.lemmas.List.{reverse-append, map-append, take_more, take_all}
use Rattle.indexmap.specs.IndexMap.{insert_entry, set_value_at}
use Rattle.clight_types.specs.Types.{Spelling, same_name}
use Rattle.clight_types.proofs.Entries.{find_lookup, put_new}
use Rattle.clight_scopes.specs.declared.scene.Entity as E
use Rattle.clight_scopes.specs.declared.scene.FileName as F
use Rattle.clight_scopes.specs.declared.scene.BlockName as B
use Rattle.clight_scopes.specs.declared.scene.TagKind as K
use Rattle.clight_scopes.specs.declared.scene.Block as C
use Rattle.clight_scopes.specs.Scopes as s
use Rattle.clight_scopes.specs.SceneOf.{entity_of, tag_kind_of, file_of, file_name_of, file_named, block_of, blocks_of, block_name_of, block_named, tags_of, tag_of, tag_named}

pub file_found : (name : Spelling) (xs : List (Spelling × F.FileName)) → s.find_file name (file_of xs) ≡ file_named name (lookup (pointwise nat_eq name) xs)
file_found name xs = find_lookup (λ x. file_name_of x.0 x.1) (λ x. x.name) (λ x. refl) name xs

pub file_put : (name : Spelling) (v : F.FileName) (xs : List (Spelling × F.FileName)) → s.find_file name (file_of xs) ≡ None → file_of (insert_entry (pointwise nat_eq) xs name v) ≡ file_of xs ++ file_name_of name v ∷ []
file_put name v xs h = put_new (λ x. file_name_of x.0 x.1) (λ x. x.name) (λ x. refl) name v xs h

pub tag_found : (name : Spelling) (xs : List (Spelling × K.TagKind)) → s.find_tag name (tags_of xs) ≡ tag_named name (lookup (pointwise nat_eq name) xs)
tag_found name xs = find_lookup (λ x. tag_of x.0 x.1) (λ x. x.name) (λ x. refl) name xs

pub tag_put : (name : Spelling) (v : K.TagKind) (xs : List (Spelling × K.TagKind)) → s.find_tag name (tags_of xs) ≡ None → tags_of (insert_entry (pointwise nat_eq) xs name v) ≡ tags_of xs ++ tag_of name v ∷ []
tag_put name v xs h = put_new (λ x. tag_of x.0 x.1) (λ x. x.name) (λ x. refl) name v xs h

pub block_found : (name : Spelling) (b : C.Block) → s.find_in_block name (block_of b) ≡ block_named name (lookup (pointwise nat_eq name) b.names.entries)
block_found name b = find_lookup (λ x. block_name_of x.0 x.1) (λ x. x.name) (λ x. refl) name b.names.entries

-- the block that was opened last is the first
pub block_pushed : (bs : List C.Block) (b : C.Block) → blocks_of (bs ++ b ∷ []) ≡ block_of b ∷ blocks_of bs
block_pushed bs b = ap reverse (map-append block_of bs (b ∷ [])) ∙ reverse-append (map block_of bs) (block_of b ∷ [])

pub block_put : (name : Spelling) (v : B.BlockName) (b : List (Spelling × B.BlockName)) → s.find_in_block name (map (λ x. block_name_of x.0 x.1) b) ≡ None → map (λ x. block_name_of x.0 x.1) (insert_entry (pointwise nat_eq) b name v) ≡ map (λ x. block_name_of x.0 x.1) b ++ block_name_of name v ∷ []
block_put name v b h = put_new (λ x. block_name_of x.0 x.1) (λ x. x.name) (λ x. refl) name v b h

-- the blocks behind the innermost one's end
pub block_none : (bs : List C.Block) → length bs ≡ 0 → blocks_of bs ≡ []
block_none [] e = refl
block_none (b ∷ bs) e = absurd (omega (arith, e))

dropped : (bs : List C.Block) (k : ℕ) (d : C.Block) → k + 1 ≡ length bs → blocks_of bs ≡ block_of (get_or bs k d) ∷ blocks_of (take k bs)
dropped bs k d e =
    ap blocks_of (sym (take_all (k + 1) bs (omega (arith, e))) ∙ take_more bs k d (omega (arith, e))) ∙ block_pushed (take k bs) (get_or bs k d)

pub block_dropped : (bs : List C.Block) (k : ℕ) → k + 1 ≡ length bs → blocks_of (take k bs) ≡ s.without_first (blocks_of bs)
block_dropped [] k e = absurd (omega (arith, e))
block_dropped (b ∷ bs) k e = sym (ap s.without_first (dropped (b ∷ bs) k b e))

-- a block that is taken out was the innermost
pub block_taken : (xs ys : List C.Block) (b : C.Block) → xs ≡ ys ++ b ∷ [] → blocks_of xs ≡ block_of b ∷ blocks_of ys
block_taken xs ys b e = ap blocks_of e ∙ block_pushed ys b

-- the innermost of the first blocks
pub find_more : (name : Spelling) (bs : List C.Block) (k : ℕ) (d : C.Block) → k < length bs → s.find_local name (blocks_of (take (k + 1) bs)) ≡ s.or_else (s.find_in_block name (block_of (get_or bs k d))) (s.find_local name (blocks_of (take k bs)))
find_more name bs k d lt = ap (λ l. s.find_local name (blocks_of l)) (take_more bs k d lt) ∙ ap (s.find_local name) (block_pushed (take k bs) (get_or bs k d))

pub first_more : (name : Spelling) (bs : List C.Block) (k : ℕ) (d : C.Block) → k < length bs → s.is_in_first name (blocks_of (take (k + 1) bs)) ≡ is_some (s.find_in_block name (block_of (get_or bs k d)))
first_more name bs k d lt = ap (λ l. s.is_in_first name (blocks_of l)) (take_more bs k d lt) ∙ ap (s.is_in_first name) (block_pushed (take k bs) (get_or bs k d))

-- the place that a search gives
pub at_first : {A : Type 0} (t : A → Bool) (xs : List A) (i : ℕ) → position t xs ≡ Some i → position_or_len t xs ≡ i
at_first t xs i e = by (nat_lt (position_or_len t xs) (length xs)) e
  where
    by : (b : Bool) → cond b (Some (position_or_len t xs)) None ≡ Some i → position_or_len t xs ≡ i
    by true h = same_Some _ _ h
    by false h = absurd (true≢false (sym (ap is_some h)))

-- a known name that stands for something else
file_replaced_by : (b : Bool) (name : Spelling) (x : E.Entity) (e : Spelling × F.FileName) (es : List (Spelling × F.FileName)) (old : F.FileName) (n m : ℕ) → m ≡ suc n
    → slice_get (values_of (e ∷ es)) (cond (not b) m 0) ≡ Some old
    → (slice_get (values_of es) n ≡ Some old → file_of (set_value_at es n (record { at = old.at; entity = x })) ≡ s.replaced name (entity_of x) (file_of es))
    → file_of (set_value_at (e ∷ es) (cond (not b) m 0) (record { at = old.at; entity = x })) ≡ cond b (record (file_name_of e.0 e.1) { entity = entity_of x } ∷ file_of es) (file_name_of e.0 e.1 ∷ s.replaced name (entity_of x) (file_of es))
file_replaced_by true name x e es old n m q h rest = ap (λ (f : F.FileName). file_name_of e.0 (record { at = f.at; entity = x }) ∷ file_of es) (sym (same_Some _ _ h))
file_replaced_by false name x e es old n m q h rest =
    ap (λ k. file_of (set_value_at (e ∷ es) k (record { at = old.at; entity = x }))) q
    ∙ ap (λ r. file_name_of e.0 e.1 ∷ r) (rest (subst (λ k. slice_get (values_of (e ∷ es)) k ≡ Some old) q h))

file_replaced_at : (name : Spelling) (x : E.Entity) (xs : List (Spelling × F.FileName)) (old : F.FileName) → slice_get (values_of xs) (position_or_len (pointwise nat_eq name) (keys_of xs)) ≡ Some old
    → file_of (set_value_at xs (position_or_len (pointwise nat_eq name) (keys_of xs)) (record { at = old.at; entity = x })) ≡ s.replaced name (entity_of x) (file_of xs)
file_replaced_at name x [] old h = refl
file_replaced_at name x (e ∷ es) old h = file_replaced_by (same_name name e.0) name x e es old (position_or_len (pointwise nat_eq name) (keys_of es)) _ (omega arith) h (file_replaced_at name x es old)

pub file_replaced : (name : Spelling) (x : E.Entity) (xs : List (Spelling × F.FileName)) (i : ℕ) (old : F.FileName) → position (pointwise nat_eq name) (keys_of xs) ≡ Some i → slice_get (values_of xs) i ≡ Some old
    → file_of (set_value_at xs i (record { at = old.at; entity = x })) ≡ s.replaced name (entity_of x) (file_of xs)
file_replaced name x xs i old p h =
    let same = at_first (pointwise nat_eq name) (keys_of xs) i p in
    subst (λ k. file_of (set_value_at xs k (record { at = old.at; entity = x })) ≡ s.replaced name (entity_of x) (file_of xs)) same (file_replaced_at name x xs old (subst (λ k. slice_get (values_of xs) k ≡ Some old) (sym same) h))

file_kept_by : (b : Bool) (name : Spelling) (x : s.Entity) (e : Spelling × F.FileName) (es : List (Spelling × F.FileName)) → is_some (cond b (Some e.1) (lookup (pointwise nat_eq name) es)) ≡ false
    → (is_some (lookup (pointwise nat_eq name) es) ≡ false → s.replaced name x (file_of es) ≡ file_of es)
    → cond b (record (file_name_of e.0 e.1) { entity = x } ∷ file_of es) (file_name_of e.0 e.1 ∷ s.replaced name x (file_of es)) ≡ file_name_of e.0 e.1 ∷ file_of es
file_kept_by true name x e es h rest = absurd (true≢false h)
file_kept_by false name x e es h rest = ap (λ r. file_name_of e.0 e.1 ∷ r) (rest h)

pub file_kept : (name : Spelling) (x : s.Entity) (xs : List (Spelling × F.FileName)) → is_some (lookup (pointwise nat_eq name) xs) ≡ false → s.replaced name x (file_of xs) ≡ file_of xs
file_kept name x [] h = refl
file_kept name x (e ∷ es) h = file_kept_by (same_name name e.0) name x e es h (file_kept name x es)

-- the same of a tag
tag_replaced_by : (b : Bool) (name : Spelling) (x : K.TagKind) (e : Spelling × K.TagKind) (es : List (Spelling × K.TagKind)) (n m : ℕ) → m ≡ suc n
    → tags_of (set_value_at es n x) ≡ s.tag_replaced name (tag_kind_of x) (tags_of es)
    → tags_of (set_value_at (e ∷ es) (cond (not b) m 0) x) ≡ cond b (record (tag_of e.0 e.1) { kind = tag_kind_of x } ∷ tags_of es) (tag_of e.0 e.1 ∷ s.tag_replaced name (tag_kind_of x) (tags_of es))
tag_replaced_by true name x e es n m q rest = refl
tag_replaced_by false name x e es n m q rest = ap (λ k. tags_of (set_value_at (e ∷ es) k x)) q ∙ ap (λ r. tag_of e.0 e.1 ∷ r) rest

tag_replaced_at : (name : Spelling) (x : K.TagKind) (xs : List (Spelling × K.TagKind)) → tags_of (set_value_at xs (position_or_len (pointwise nat_eq name) (keys_of xs)) x) ≡ s.tag_replaced name (tag_kind_of x) (tags_of xs)
tag_replaced_at name x [] = refl
tag_replaced_at name x (e ∷ es) = tag_replaced_by (same_name name e.0) name x e es (position_or_len (pointwise nat_eq name) (keys_of es)) _ (omega arith) (tag_replaced_at name x es)

pub tag_replaced : (name : Spelling) (x : K.TagKind) (xs : List (Spelling × K.TagKind)) (i : ℕ) → position (pointwise nat_eq name) (keys_of xs) ≡ Some i → tags_of (set_value_at xs i x) ≡ s.tag_replaced name (tag_kind_of x) (tags_of xs)
tag_replaced name x xs i p = subst (λ k. tags_of (set_value_at xs k x) ≡ s.tag_replaced name (tag_kind_of x) (tags_of xs)) (at_first (pointwise nat_eq name) (keys_of xs) i p) (tag_replaced_at name x xs)

tag_kept_by : (b : Bool) (name : Spelling) (x : s.TagKind) (e : Spelling × K.TagKind) (es : List (Spelling × K.TagKind)) → is_some (cond b (Some e.1) (lookup (pointwise nat_eq name) es)) ≡ false
    → (is_some (lookup (pointwise nat_eq name) es) ≡ false → s.tag_replaced name x (tags_of es) ≡ tags_of es)
    → cond b (record (tag_of e.0 e.1) { kind = x } ∷ tags_of es) (tag_of e.0 e.1 ∷ s.tag_replaced name x (tags_of es)) ≡ tag_of e.0 e.1 ∷ tags_of es
tag_kept_by true name x e es h rest = absurd (true≢false h)
tag_kept_by false name x e es h rest = ap (λ r. tag_of e.0 e.1 ∷ r) (rest h)

pub tag_kept : (name : Spelling) (x : s.TagKind) (xs : List (Spelling × K.TagKind)) → is_some (lookup (pointwise nat_eq name) xs) ≡ false → s.tag_replaced name x (tags_of xs) ≡ tags_of xs
tag_kept name x [] h = refl
tag_kept name x (e ∷ es) h = tag_kept_by (same_name name e.0) name x e es h (tag_kept name x es)
